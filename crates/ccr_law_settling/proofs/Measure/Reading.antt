-- A copy that holds enough brings operations to each read below its global count.
use Rattle.std.specs.List.{range_with_len}
use Rattle.std.proofs.Common.{◌≡◌, ℕ, suc, ◌+◌, ◌-◌, ◌<◌, true, false, Option, Some, None, List, [], ◌∷◌, map, take, is_some, refl, arith}
use Rattle.ccr_op.specs.Operation.{Operation}
use Rattle.ccr_model.specs.Operations.{is_empty, op_at, before_none, run_from, front_within, cut_of}
use Rattle.ccr_model.specs.Stores.{held}
use Rattle.ccr_model.specs.Copies.{Copy}
use Rattle.ccr_model.specs.LeaderFrames.{read_ops}
use Rattle.ccr_law_base.proofs.Cases.{on_if}

-- a cut of some operations has some
pub cut_some : (max_ops max_bytes : ℕ) (ops : List Operation) → is_empty ops ≡ false → is_empty (cut_of max_ops max_bytes ops) ≡ false
cut_some max_ops max_bytes ops some =
    on_if (λ (xs : List Operation). is_empty xs ≡ false) (is_empty (front_within max_ops max_bytes ops)) (take 1 ops) (front_within max_ops max_bytes ops)
    (λ is. taken ops some) (λ isnt. isnt)
  where
    taken : (ops : List Operation) → is_empty ops ≡ false → is_empty (take 1 ops) ≡ false
    taken [] some = cc
    taken (op ∷ ops) some = refl

-- a run from a number that is held has some
run_some : (ops : List Operation) (from count : ℕ) → from < count → is_some (op_at from ops) ≡ true → is_empty (run_from ops from count) ≡ false
run_some ops from count lt there =
    let e : count - from ≡ suc (count - from - 1) = omega arith in
    rw e (by (op_at from ops) there)
  where
    by : (o : Option Operation) → is_some o ≡ true
        → is_empty (before_none (o ∷ map {A = ℕ} {B = Option Operation} (λ n. op_at n ops) (range_with_len (from + 1) (count - from - 1)))) ≡ false
    by None there = cc
    by (Some op) there = refl

pub read_some : (c : Copy) (from max_ops max_bytes : ℕ) → (is_some (op_at from (held c.store)) ≡ true) → from < c.global → is_empty (read_ops c from max_ops max_bytes) ≡ false
read_some c from max_ops max_bytes there lt = cut_some max_ops max_bytes (run_from (held c.store) from c.global) (run_some (held c.store) from c.global lt there)
