-- Operations of numbers one after the other, as they are read from what is held.
use Rattle.std.specs.List.{AllByRecursion, range_with_len}
use Rattle.std.proofs.Common.{◌≡◌, ℕ, zero, suc, ◌+◌, ◌-◌, ◌<◌, ◌≤◌, ◌==◌, ◌&&◌, ◌||◌, ◌⊎◌, inl, inr, max, Bool, true, false, not, nat_lt, if◌then◌else◌, Option, Some, is_some, List, [], ◌∷◌, map, length, take, refl, sym, ◌∙◌, ap, subst, arith}
use Rattle.std.proofs.lemmas.Bool.Decides.{nat_tests}
use Rattle.ccr_op.specs.Operation.{Operation}
use Rattle.ccr_wire.specs.Message.{IsRun}
use Rattle.ccr_model.specs.Operations.{is_empty, size_of, op_at, has_number, before_none, run_from, front_within, cut_of}
use Rattle.ccr_model.specs.Tasks.{bytes_of}
use Rattle.ccr_model.specs.Stores.{held}
use Rattle.ccr_model.specs.Copies.{Copy}
use Rattle.ccr_model.specs.LeaderFrames.{read_ops}
use Rattle.ccr_model.specs.Answers.{IsIn}
use Rattle.ccr_model.specs.Given.{IsAmong}
use Rattle.ccr_law_base.proofs.Cases.{on_if}
use Rattle.ccr_law_base.proofs.Lists.{All-weaker, All-both, All-in}
use Rattle.ccr_law_stores.specs.TrueStores.{one, times, IsTrueStore, Brings}
use Rattle.ccr_law_stores.proofs.Counting.{in-find, found_at}
use Rattle.ccr_law_stores.proofs.CopyChanges.{below_or}

-- the run of so many numbers
abbrev pub run_of : List Operation → ℕ → ℕ → List Operation
run_of xs from size = before_none (map {A = ℕ} {B = Option Operation} (λ n. op_at n xs) (range_with_len from size))

-- a run of so many operations of the list, from a number on
pub record RunOk (xs : List Operation) (from size : ℕ) (run : List Operation) : Type 0 where
  pub begins : IsRun from run
  pub members : AllByRecursion (λ (op : Operation). IsIn xs op) run
  pub number : length run ≡ size

pub run-ok : (xs : List Operation) (from size : ℕ) → ((n : ℕ) → from ≤ n → n < from + size → has_number xs n ≡ true) → RunOk xs from size (run_of xs from size)
run-ok xs from zero all = record { begins = tt; members = tt; number = refl }
run-ok xs from (suc size) all =
    let at : (op : Operation) × (op_at from xs ≡ Some op) × (op.seq ≡ from) = found_at xs from (all from (omega arith) (omega arith)) in
    let rest : RunOk xs (from + 1) size (run_of xs (from + 1) size) = run-ok xs (from + 1) size (λ n le lt. all n (omega arith) (omega arith)) in
    subst (λ (o : Option Operation). RunOk xs from (suc size) (before_none (o ∷ map {A = ℕ} {B = Option Operation} (λ n. op_at n xs) (range_with_len (from + 1) size)))) (sym at.1)
    record {
      begins = (at.2, rest.begins);
      members = (in-find from xs at.0 at.1, rest.members);
      number = let e : length (run_of xs (from + 1) size) ≡ size = rest.number in omega arith;
    }

pub one_true : (b : Bool) → b ≡ true → one b ≡ 1
one_true true is = refl
one_true false is = cc

pub one_false : (b : Bool) → b ≡ false → one b ≡ 0
one_false true is = cc
one_false false is = refl

pub add_none : (k : ℕ) → 0 + k ≡ k
add_none k = omega arith

-- the numbers of a run
pub times-run : (n from : ℕ) (run : List Operation) → IsRun from run → times n run ≡ one (not (nat_lt n from) && nat_lt n (from + length run))
times-run n from [] begins = sym (one_false (not (nat_lt n from) && nat_lt n (from + 0)) (grind (arith, nat_tests)))
times-run n from (op ∷ run) begins =
    below (op.seq == n) (nat_lt n from) refl refl begins.0 (times-run n (from + 1) run begins.1)
  where
    below : (b low : Bool) → (op.seq == n) ≡ b → nat_lt n from ≡ low → op.seq ≡ from → times n run ≡ one (not (nat_lt n (from + 1)) && nat_lt n (from + 1 + length run))
        → one b + times n run ≡ one (not low && nat_lt n (from + suc (length run)))
    below true low at less first rest =
        let none : times n run ≡ 0 = rest ∙ one_false (not (nat_lt n (from + 1)) && nat_lt n (from + 1 + length run)) (grind (arith, nat_tests)) in
        let all : one (not low && nat_lt n (from + suc (length run))) ≡ 1
        = one_true (not low && nat_lt n (from + suc (length run))) (ap (λ (l : Bool). not l && nat_lt n (from + suc (length run))) (sym less) ∙ grind (arith, nat_tests)) in
        omega arith
    below false true at less first rest = add_none (times n run) ∙ (rest ∙ one_false (not (nat_lt n (from + 1)) && nat_lt n (from + 1 + length run)) (grind (arith, nat_tests)))
    below false false at less first rest = add_none (times n run) ∙ (rest ∙ ap (λ (b : Bool). one b) (grind (arith, nat_tests)))

pub run-within : (from : ℕ) (run : List Operation) → IsRun from run → AllByRecursion (λ (op : Operation). op.seq < from + length run) run
run-within from [] begins = tt
run-within from (op ∷ run) begins =
    let first : op.seq ≡ from = begins.0 in
    (omega arith, All-weaker (λ (x : Operation). x.seq < from + 1 + length run) (λ (x : Operation). x.seq < from + suc (length run)) (λ x lt. omega arith) run (run-within (from + 1) run begins.1))

pub run-above : (from : ℕ) (run : List Operation) → IsRun from run → AllByRecursion (λ (op : Operation). from ≤ op.seq) run
run-above from [] begins = tt
run-above from (op ∷ run) begins =
    let first : op.seq ≡ from = begins.0 in
    (omega arith, All-weaker (λ (x : Operation). from + 1 ≤ x.seq) (λ (x : Operation). from ≤ x.seq) (λ x le. omega arith) run (run-above (from + 1) run begins.1))

pub one-le : (b : Bool) → one b ≤ 1
one-le true = omega arith
one-le false = omega arith

-- ---- cuts

pub record FrontOk (from : ℕ) (P : Operation → Type 0) (max_ops max_bytes : ℕ) (cut : List Operation) : Type 0 where
  pub begins : IsRun from cut
  pub each : AllByRecursion P cut
  pub number : length cut ≤ max_ops
  pub size : bytes_of cut ≤ max_bytes

pub front-ok : (P : Operation → Type 0) (from max_ops max_bytes : ℕ) (xs : List Operation) → IsRun from xs → AllByRecursion P xs → FrontOk from P max_ops max_bytes (front_within max_ops max_bytes xs)
front-ok P from max_ops max_bytes [] begins all = record { begins = tt; each = tt; number = omega arith; size = omega arith }
front-ok P from max_ops max_bytes (op ∷ xs) begins all =
    on_if (FrontOk from P max_ops max_bytes) ((max_ops == 0) || nat_lt max_bytes (size_of op)) [] (op ∷ front_within (max_ops - 1) (max_bytes - size_of op) xs)
    (λ full. record { begins = tt; each = tt; number = omega arith; size = omega arith })
    (λ room.
    let rest : FrontOk (from + 1) P (max_ops - 1) (max_bytes - size_of op) (front_within (max_ops - 1) (max_bytes - size_of op) xs)
    = front-ok P (from + 1) (max_ops - 1) (max_bytes - size_of op) xs begins.1 all.1 in
    let few : length (front_within (max_ops - 1) (max_bytes - size_of op) xs) ≤ max_ops - 1 = rest.number in
    let small : bytes_of (front_within (max_ops - 1) (max_bytes - size_of op) xs) ≤ max_bytes - size_of op = rest.size in
    let some : 0 < max_ops = more (max_ops == 0) (nat_lt max_bytes (size_of op)) room refl in
    let fits : size_of op ≤ max_bytes = less (max_ops == 0) (nat_lt max_bytes (size_of op)) room refl in
    record { begins = (begins.0, rest.begins); each = (all.0, rest.each); number = omega arith; size = omega arith })
  where
    more : (a b : Bool) → (a || b) ≡ false → (max_ops == 0) ≡ a → 0 < max_ops
    more true b room is = cc
    more false b room is = grind (arith, nat_tests)

    less : (a b : Bool) → (a || b) ≡ false → nat_lt max_bytes (size_of op) ≡ b → size_of op ≤ max_bytes
    less true b room is = cc
    less false true room is = cc
    less false false room is = grind (arith, nat_tests)

pub record CutOk (from : ℕ) (P : Operation → Type 0) (max_ops max_bytes : ℕ) (xs cut : List Operation) : Type 0 where
  pub begins : IsRun from cut
  pub each : AllByRecursion P cut
  pub number : length cut ≤ max max_ops 1
  pub size : (bytes_of cut ≤ max_bytes) ⊎ (length cut ≡ 1)
  pub some : 1 ≤ length xs → 1 ≤ length cut

pub cut-ok : (P : Operation → Type 0) (from max_ops max_bytes : ℕ) (xs : List Operation) → IsRun from xs → AllByRecursion P xs → CutOk from P max_ops max_bytes xs (cut_of max_ops max_bytes xs)
cut-ok P from max_ops max_bytes xs begins all = by_front (front_within max_ops max_bytes xs) (front-ok P from max_ops max_bytes xs begins all)
  where
    first : (xs : List Operation) → IsRun from xs → AllByRecursion P xs → CutOk from P max_ops max_bytes xs (take 1 xs)
    first [] begins all = record { begins = tt; each = tt; number = omega arith; size = inl (omega arith); some = λ some. absurd (omega arith) }
    first (x ∷ xs) begins all = record { begins = (begins.0, tt); each = (all.0, tt); number = omega arith; size = inr refl; some = λ some. omega arith }

    by_front : (front : List Operation) → FrontOk from P max_ops max_bytes front → CutOk from P max_ops max_bytes xs (if is_empty front then take 1 xs else front)
    by_front [] ok = first xs begins all
    by_front (x ∷ front) ok = record {
      begins = ok.begins;
      each = ok.each;
      number = let few : length (x ∷ front) ≤ max_ops = ok.number in omega arith;
      size = inl ok.size;
      some = λ some. omega arith;
    }

-- ---- reads

pub All-empty : {X : Type 0} (P : X → Type 0) (xs : List X) → length xs ≡ 0 → AllByRecursion P xs
All-empty P [] none = tt
All-empty P (x ∷ xs) none = absurd (omega arith)

-- a run of what was given has given operations below its end
pub run-given : (ops : ℕ → Option Operation) (xs : List Operation) (from count : ℕ) (run : List Operation) → AllByRecursion (IsAmong ops) xs → RunOk xs from (count - from) run
    → AllByRecursion (λ (op : Operation). IsAmong ops op × (op.seq < count)) run
run-given ops xs from count run all ok =
    let number : length run ≡ count - from = ok.number in
    below_or (AllByRecursion (λ (op : Operation). IsAmong ops op × (op.seq < count)) run) from count
    (λ lt. All-both (IsAmong ops) (λ (op : Operation). op.seq < count) run
    (All-weaker (λ (op : Operation). IsIn xs op) (IsAmong ops) (λ x there. All-in (IsAmong ops) xs x all there) run ok.members)
    (All-weaker (λ (op : Operation). op.seq < from + length run) (λ (op : Operation). op.seq < count) (λ x less. omega arith) run (run-within from run ok.begins)))
    (λ le. All-empty (λ (op : Operation). IsAmong ops op × (op.seq < count)) run (omega arith))

-- what a read of a copy brings, from a number at or above its floor and the count that it was restored with
pub read-brings : (ops : ℕ → Option Operation) (restored : ℕ) (c : Copy) (from max_ops max_bytes : ℕ) → ((n : ℕ) → n < c.global → is_some (ops n) ≡ true)
    → max c.floor restored ≤ from → IsTrueStore ops restored c → Brings ops from c.global max_ops max_bytes (read_ops c from max_ops max_bytes)
read-brings ops restored c from max_ops max_bytes whole high ok =
    let run : RunOk (held c.store) from (c.global - from) (run_from (held c.store) from c.global)
    = run-ok (held c.store) from (c.global - from) (λ n le lt. ok.kept n (omega arith) (whole n (omega arith))) in
    let number : length (run_from (held c.store) from c.global) ≡ c.global - from = run.number in
    let cut : CutOk from (λ (op : Operation). IsAmong ops op × (op.seq < c.global)) max_ops max_bytes (run_from (held c.store) from c.global) (read_ops c from max_ops max_bytes)
    = cut-ok (λ (op : Operation). IsAmong ops op × (op.seq < c.global)) from max_ops max_bytes (run_from (held c.store) from c.global) run.begins
    (run-given ops (held c.store) from c.global (run_from (held c.store) from c.global) ok.ours run) in
    record { begins = cut.begins; given = cut.each; number = cut.number; size = cut.size; some = λ lt. cut.some (omega arith) }
