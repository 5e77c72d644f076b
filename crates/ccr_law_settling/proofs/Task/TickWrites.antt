-- Writes that are due, when they are on their way again.
use Rattle.std.specs.List.{list_any}
use Rattle.std.proofs.Common.{◌≡◌, ℕ, ◌+◌, ◌≤◌, ◌||◌, Bool, true, false, if◌then◌else◌, List, [], ◌∷◌, map, refl, arith}
use Rattle.ccr_model.specs.Requests.{Progress, on_its_way, is_due}
use Rattle.ccr_model.specs.Tasks.{Write}
use Rattle.ccr_law_base.proofs.Cases.{on_if}
use Rattle.ccr_law_settling.specs.Measure.{total, weight_of_progress}
use Rattle.ccr_law_settling.proofs.Measure.Filling.{write_amount}
use Rattle.ccr_law_settling.proofs.Measure.Due.{due_weighs}

-- a write that is due is on its way again
abbrev pub put_on_way : ℕ → Write → Write
put_on_way now w = if is_due now w.progress then record w { progress = on_its_way } else w

abbrev pub write_weight : ℕ → Write → ℕ
write_weight now w = weight_of_progress true now w.progress

-- some write is due
abbrev pub has_due_write : ℕ → List Write → Bool
has_due_write now writes = list_any (is_due now) (map {A = Write} {B = Progress} (λ w. w.progress) writes)

-- they have the same batches to write
pub same_amounts : (now : ℕ) (writes : List Write) → total write_amount (map (put_on_way now) writes) ≡ total write_amount writes
same_amounts now [] = refl
same_amounts now (w ∷ writes) =
    let rest : total write_amount (map (put_on_way now) writes) ≡ total write_amount writes = same_amounts now writes in
    on_if (λ (x : Write). write_amount x + total write_amount (map (put_on_way now) writes) ≡ write_amount w + total write_amount writes)
    (is_due now w.progress) (record w { progress = on_its_way }) w (λ is. omega arith) (λ isnt. omega arith)

-- they weigh no more, and less where some is due
pub writes_lighter : (now : ℕ) (writes : List Write)
    → total (write_weight now) (map (put_on_way now) writes) + (if has_due_write now writes then 1 else 0) ≤ total (write_weight now) writes
writes_lighter now [] = omega arith
writes_lighter now (w ∷ writes) =
    let rest : total (write_weight now) (map (put_on_way now) writes) + (if has_due_write now writes then 1 else 0) ≤ total (write_weight now) writes = writes_lighter now writes in
    (elim (is_due now w.progress) as (λ b. is_due now w.progress ≡ b
    → write_weight now (if b then record w { progress = on_its_way } else w) + total (write_weight now) (map (put_on_way now) writes) + (if b || has_due_write now writes then 1 else 0)
    ≤ write_weight now w + total (write_weight now) writes) [
      | true ↦ λ is. (let four : write_weight now w ≡ 4 = due_weighs true now w.progress is in omega arith)
      | false ↦ λ isnt. omega arith
    ]) refl
