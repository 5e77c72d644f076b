-- What each change of a copy makes of the claims on what it holds, over plain variables.
use Rattle.std.specs.List.{AllByRecursion}
use Rattle.std.proofs.Common.{◌≡◌, ℕ, ◌+◌, ◌<◌, ◌≤◌, ◌==◌, ◌⊎◌, inl, inr, Bool, true, false, nat_lt, if◌then◌else◌, Option, Some, None, is_some, List, refl, sym, ◌∙◌, ap, subst, arith}
use Rattle.std.proofs.lemmas.Bool.Decides.{nat_tests}
use Rattle.ccr_op.specs.Operation.{Operation}
use Rattle.ccr_op.specs.declared.operation.Kind.{Kind}
use Rattle.ccr_op.specs.declared.operation.Kind.TheVariants.{Index, Delete, NoOp}
use Rattle.ccr_model.specs.Operations.{has_number, op_at}
use Rattle.ccr_model.specs.Stores.{Store, held, stored, flushed}
use Rattle.ccr_model.specs.Given.{IsAmong, or_else, gaining}
use Rattle.ccr_law_base.proofs.Lists.{All-weaker, All-in}
use Rattle.ccr_law_stores.specs.TrueStores.{Passed, IsNotMissed, one, times, StoreOk, AreNumbered}
use Rattle.ccr_law_stores.proofs.Counting.{has-same, times_none, times_some, has_by_times, in-find, found_at}
use Rattle.ccr_law_stores.proofs.Holding.{times-stored, All-stored, held-flushed}

pub below_or : (P : Type 0) (a b : ℕ) → (a < b → P) → (b ≤ a → P) → P
below_or P a b low high =
    (elim (nat_lt a b) as (λ t. nat_lt a b ≡ t → P) [ true ↦ λ is. low (grind (arith, nat_tests)) | false ↦ λ isnt. high (grind (arith, nat_tests)) ]) refl

-- what is held was given
pub held_given : (ops : ℕ → Option Operation) (xs : List Operation) (n : ℕ) → AllByRecursion (IsAmong ops) xs → has_number xs n ≡ true → is_some (ops n) ≡ true
held_given ops xs n all there =
    let at : (x : Operation) × (op_at n xs ≡ Some x) × (x.seq ≡ n) = found_at xs n there in
    let own : ops at.0.seq ≡ Some at.0 = All-in (IsAmong ops) xs at.0 all (in-find n xs at.0 at.1) in
    ap (λ (k : ℕ). is_some (ops k)) (sym at.2) ∙ ap (λ (o : Option Operation). is_some o) own

-- ---- why an operation isn't missed

-- fewer are held, and the count is greater
pub not_missed-fewer : (ops : ℕ → Option Operation) (there fewer : ℕ → Bool) (count later n : ℕ) (kind : Kind) → ((k : ℕ) → fewer k ≡ true → there k ≡ true) → count ≤ later
    → IsNotMissed ops there count n kind → IsNotMissed ops fewer later n kind
not_missed-fewer ops there fewer count later n (Index id routing body) few le why = passed-later ops count later id n le why
  where
    passed-later : (ops : ℕ → Option Operation) (count later : ℕ) (id : List ℕ) (n : ℕ) → count ≤ later → Passed ops count id n → Passed ops later id n
    passed-later ops count later id n le p = record { op = p.op; given = p.given; about = p.about; above = p.above; below = let lt : p.op.seq < count = p.below in omega arith }
not_missed-fewer ops there fewer count later n (Delete id routing) few le (inl p) =
    inl record { op = p.op; given = p.given; about = p.about; above = p.above; below = let lt : p.op.seq < count = p.below in omega arith }
not_missed-fewer ops there fewer count later n (Delete id routing) few le (inr least) = inr (λ op given held about. least op given (few op.seq held) about)
not_missed-fewer ops there fewer count later n NoOp few le why = tt

-- what was given and what is held change at the count or above it
pub not_missed-above : (ops later : ℕ → Option Operation) (there now : ℕ → Bool) (count n : ℕ) (kind : Kind) → ((k : ℕ) → k < count → later k ≡ ops k)
    → ((k : ℕ) → k < count → now k ≡ there k) → n ≤ count → IsNotMissed ops there count n kind → IsNotMissed later now count n kind
not_missed-above ops later there now count n (Index id routing body) same held low p =
    record { op = p.op; given = same p.op.seq p.below ∙ p.given; about = p.about; above = p.above; below = p.below }
not_missed-above ops later there now count n (Delete id routing) same held low (inl p) =
    inl record { op = p.op; given = same p.op.seq p.below ∙ p.given; about = p.about; above = p.above; below = p.below }
not_missed-above ops later there now count n (Delete id routing) same held low (inr least) =
    inr (λ op given is about. below_or (n ≤ op.seq) op.seq count
    (λ lt. least op (sym (same op.seq lt) ∙ given) (sym (held op.seq lt) ∙ is) about) (λ le. omega arith))
not_missed-above ops later there now count n NoOp same held low why = tt

-- ---- changes of what is held and of the counts

-- the same operations are held
pub store-same : (ops : ℕ → Option Operation) (restored : ℕ) (xs ys : List Operation) (floor commit count : ℕ) → ((n : ℕ) → times n ys ≡ times n xs)
    → AllByRecursion (IsAmong ops) ys → StoreOk ops restored xs floor commit count → StoreOk ops restored ys floor commit count
store-same ops restored xs ys floor commit count same all ok = record {
  low = ok.low;
  since = ok.since;
  closed = ok.closed;
  ours = all;
  once = λ n. subst (λ (k : ℕ). k ≤ 1) (sym (same n)) (ok.once n);
  kept = λ n le is. has-same ys xs n (same n) ∙ ok.kept n le is;
  covered = λ n x at out. not_missed-fewer ops (has_number xs) (has_number ys) count count x.seq x.kind
      (λ k there. sym (has-same ys xs k (same k)) ∙ there) (omega arith) (ok.covered n x at (sym (has-same ys xs n (same n)) ∙ out));
}

-- the global count that is known rises
pub store-counts : (ops : ℕ → Option Operation) (restored : ℕ) (xs : List Operation) (floor commit count later : ℕ) → count ≤ later
    → StoreOk ops restored xs floor commit count → StoreOk ops restored xs floor commit later
store-counts ops restored xs floor commit count later le ok = record {
  low = let l : floor ≤ count = ok.low in omega arith;
  since = let l : restored ≤ count = ok.since in omega arith;
  closed = let l : commit ≤ count = ok.closed in omega arith;
  ours = ok.ours;
  once = ok.once;
  kept = ok.kept;
  covered = λ n x at out. not_missed-fewer ops (has_number xs) (has_number xs) count later x.seq x.kind (λ k there. there) le (ok.covered n x at out);
}

-- the commit count is another, no greater than the global count
pub store-commits : (ops : ℕ → Option Operation) (restored : ℕ) (xs : List Operation) (floor commit now count : ℕ) → now ≤ count
    → StoreOk ops restored xs floor commit count → StoreOk ops restored xs floor now count
store-commits ops restored xs floor commit now count le ok =
    record { low = ok.low; since = ok.since; closed = le; ours = ok.ours; once = ok.once; kept = ok.kept; covered = ok.covered }

-- the floor rises, no further than the global count
pub store-floors : (ops : ℕ → Option Operation) (restored : ℕ) (xs : List Operation) (floor now commit count : ℕ) → floor ≤ now → now ≤ count
    → StoreOk ops restored xs floor commit count → StoreOk ops restored xs now commit count
store-floors ops restored xs floor now commit count rises le ok = record {
  low = le;
  since = ok.since;
  closed = ok.closed;
  ours = ok.ours;
  once = ok.once;
  kept = λ n high is. ok.kept n (omega arith) is;
  covered = ok.covered;
}

-- what was given and what is held change only at the count or above it
pub store-above : (ops later : ℕ → Option Operation) (restored : ℕ) (xs ys : List Operation) (floor commit count : ℕ) → AreNumbered ops
    → ((n : ℕ) → n < count → later n ≡ ops n) → ((n : ℕ) → n < count → times n ys ≡ times n xs) → AllByRecursion (IsAmong later) ys
    → ((n : ℕ) → count ≤ n → times n ys ≤ 1) → ((n : ℕ) → count ≤ n → is_some (later n) ≡ true → has_number ys n ≡ true)
    → StoreOk ops restored xs floor commit count → StoreOk later restored ys floor commit count
store-above ops later restored xs ys floor commit count numbered same held all once kept ok = record {
  low = ok.low;
  since = ok.since;
  closed = ok.closed;
  ours = all;
  once = λ n. below_or (times n ys ≤ 1) n count (λ lt. subst (λ (k : ℕ). k ≤ 1) (sym (held n lt)) (ok.once n)) (λ le. once n le);
  kept = λ n le is. below_or (has_number ys n ≡ true) n count
      (λ lt. has-same ys xs n (held n lt) ∙ ok.kept n le (ap (λ (o : Option Operation). is_some o) (sym (same n lt)) ∙ is)) (λ high. kept n high is);
  covered = λ n x at out. below_or (IsNotMissed later (has_number ys) count x.seq x.kind) n count
      (λ lt. not_missed-above ops later (has_number xs) (has_number ys) count x.seq x.kind same (λ k less. has-same ys xs k (held k less))
      (let number : x.seq ≡ n = numbered n x (sym (same n lt) ∙ at) in omega arith)
      (ok.covered n x (sym (same n lt) ∙ at) (sym (has-same ys xs n (held n lt)) ∙ out)))
      (λ high. let there : has_number ys n ≡ true = kept n high (ap (λ (o : Option Operation). is_some o) at) in cc);
}

-- the same was given
pub store-given : (ops later : ℕ → Option Operation) (restored : ℕ) (xs : List Operation) (floor commit count : ℕ) → AreNumbered ops → ((n : ℕ) → later n ≡ ops n)
    → StoreOk ops restored xs floor commit count → StoreOk later restored xs floor commit count
store-given ops later restored xs floor commit count numbered same ok =
    store-above ops later restored xs xs floor commit count numbered (λ n lt. same n) (λ n lt. refl)
    (All-weaker (IsAmong ops) (IsAmong later) (λ x at. same x.seq ∙ at) xs ok.ours) (λ n le. ok.once n)
    (λ n le is. ok.kept n (let low : floor ≤ count = ok.low in let since : restored ≤ count = ok.since in omega arith) (ap (λ (o : Option Operation). is_some o) (sym (same n)) ∙ is)) ok

-- ---- flushes

pub store-flushes : (ops : ℕ → Option Operation) (restored : ℕ) (s : Store) (floor commit count : ℕ)
    → StoreOk ops restored (held s) floor commit count → StoreOk ops restored (held (flushed s)) floor count count
store-flushes ops restored s floor commit count ok =
    subst (λ (xs : List Operation). StoreOk ops restored xs floor count count) (sym (held-flushed s))
    (store-commits ops restored (held s) floor commit count count (omega arith) ok)

-- ---- one more operation

pub some_of_none : (o : Option Operation) → is_some o ≡ false → (later : Option Operation) → or_else o later ≡ later
some_of_none None out later = refl
some_of_none (Some x) out later = cc

pub gained_old : (o : Option Operation) (x : Operation) (later : Option Operation) → o ≡ Some x → or_else o later ≡ Some x
gained_old (Some y) x later at = at
gained_old None x later at = cc

pub gained_if : (o : Option Operation) (b : Bool) (op : Operation) → is_some (or_else o (if b then Some op else None)) ≡ true → (is_some o ≡ true) ⊎ (b ≡ true)
gained_if (Some y) b op is = inl refl
gained_if None true op is = inr refl
gained_if None false op is = cc

-- an operation of a new number, at the count or above it, was given and is held
pub store-gains : (ops : ℕ → Option Operation) (restored : ℕ) (s : Store) (floor commit count seq : ℕ) (op : Operation) → AreNumbered ops → op.seq ≡ seq
    → is_some (ops seq) ≡ false → count ≤ seq
    → StoreOk ops restored (held s) floor commit count → StoreOk (gaining ops seq (Some op)) restored (held (stored op s)) floor commit count
store-gains ops restored s floor commit count seq op numbered number new high ok =
    store-above ops (gaining ops seq (Some op)) restored (held s) (held (stored op s)) floor commit count numbered
    (λ n lt. let isnt : (n == seq) ≡ false = grind (arith, nat_tests) in rw isnt (or_none (ops n)))
    (λ n lt. times-stored n op s ∙ (let isnt : (op.seq == n) ≡ false = grind (arith, nat_tests) in rw isnt (omega arith)))
    (All-stored (IsAmong (gaining ops seq (Some op))) op s
    (let is : (op.seq == seq) ≡ true = grind (arith, nat_tests) in rw is (some_of_none (ops op.seq) (ap (λ (k : ℕ). is_some (ops k)) number ∙ new) (Some op)))
    (All-weaker (IsAmong ops) (IsAmong (gaining ops seq (Some op))) (λ x at. gained_old (ops x.seq) x _ at) (held s) ok.ours))
    (λ n le. few n (op.seq == n) refl)
    (λ n le is. there n le (gained_if (ops n) (n == seq) op is))
    ok
  where
    or_none : (o : Option Operation) → or_else o None ≡ o
    or_none None = refl
    or_none (Some x) = refl

    out : has_number (held s) seq ≡ false
    out = absent (has_number (held s) seq) (held_given ops (held s) seq ok.ours)
      where
        absent : (b : Bool) → (b ≡ true → is_some (ops seq) ≡ true) → b ≡ false
        absent false given = refl
        absent true given = let is : is_some (ops seq) ≡ true = given refl in cc

    few : (n : ℕ) (b : Bool) → (op.seq == n) ≡ b → times n (held (stored op s)) ≤ 1
    few n false isnt = let e : times n (held (stored op s)) ≡ one (op.seq == n) + times n (held s) = times-stored n op s in
        let at : times n (held (stored op s)) ≡ one false + times n (held s) = e ∙ ap (λ (b : Bool). one b + times n (held s)) isnt in
        let few_old : times n (held s) ≤ 1 = ok.once n in omega arith
    few n true is = let e : times n (held (stored op s)) ≡ one (op.seq == n) + times n (held s) = times-stored n op s in
        let at : times n (held (stored op s)) ≡ one true + times n (held s) = e ∙ ap (λ (b : Bool). one b + times n (held s)) is in
        let same : seq ≡ n = (let own : op.seq ≡ n = grind (arith, nat_tests) in sym number ∙ own) in
        let none : times n (held s) ≡ 0 = subst (λ (k : ℕ). times k (held s) ≡ 0) same (times_none (held s) seq out) in omega arith

    there : (n : ℕ) → count ≤ n → (is_some (ops n) ≡ true) ⊎ ((n == seq) ≡ true) → has_number (held (stored op s)) n ≡ true
    there n le (inl old) =
        let was : has_number (held s) n ≡ true = ok.kept n (let low : floor ≤ count = ok.low in let since : restored ≤ count = ok.since in omega arith) old in
        let e : times n (held (stored op s)) ≡ one (op.seq == n) + times n (held s) = times-stored n op s in
        has_by_times (held (stored op s)) n (omega (arith, times_some (held s) n was))
    there n le (inr is) =
        let e : times n (held (stored op s)) ≡ one (op.seq == n) + times n (held s) = times-stored n op s in
        let own : (op.seq == n) ≡ true = grind (arith, nat_tests) in
        let at : times n (held (stored op s)) ≡ one true + times n (held s) = e ∙ ap (λ (b : Bool). one b + times n (held s)) own in
        has_by_times (held (stored op s)) n (omega arith)
