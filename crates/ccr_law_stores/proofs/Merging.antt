-- A merge drops only what isn't missed.
use Rattle.std.specs.List.{AllByRecursion, list_any}
use Rattle.std.proofs.Common.{◌≡◌, ℕ, ◌+◌, ◌-◌, ◌<◌, ◌≤◌, ◌==◌, ◌&&◌, ◌||◌, ◌⊎◌, inl, inr, min, Bool, true, false, not, nat_lt, if◌then◌else◌, Option, Some, List, [], ◌∷◌, ◌++◌, refl, sym, ◌∙◌, ap, subst, arith}
use Rattle.std.proofs.lemmas.Bool.Decides.{nat_tests}
use Rattle.ccr_lease.specs.declared.retention.Lease.{Lease}
use Rattle.ccr_op.specs.Operation.{Operation, id_of}
use Rattle.ccr_op.specs.declared.operation.Kind.{Kind}
use Rattle.ccr_op.specs.declared.operation.Kind.TheVariants.{Index, Delete, NoOp}
use Rattle.ccr_model.specs.Operations.{has_number, is_about}
use Rattle.ccr_model.specs.Stores.{Store, held, is_passed, is_least, is_droppable, without_number, dropped, picked_ops, merge_drops, is_among, merged, joined, capped}
use Rattle.ccr_model.specs.Copies.{Copy}
use Rattle.ccr_model.specs.CopyRows.{risen_floor, merge_bound, after_merge}
use Rattle.ccr_model.specs.Answers.{IsIn}
use Rattle.ccr_model.specs.Given.{IsAmong}
use Rattle.ccr_law_base.proofs.Cases.{on_if}
use Rattle.ccr_law_base.proofs.Lists.{All-append, All-append_front, All-append_back, All-filter, some_equal, All-in, about_id, id_about}
use Rattle.ccr_law_stores.specs.TrueStores.{Passed, IsLeast, IsNotMissed, times, StoreOk, IsTrueStore}
use Rattle.ccr_law_stores.proofs.Counting.{times-append, times-filter, times_none, times_some, has_by_times, none_by_times, in-given}
use Rattle.ccr_law_stores.proofs.Holding.{in_parts}
use Rattle.ccr_law_stores.proofs.Joining.{others_at, times-picked, times-joined, All-picked, All-joined}
use Rattle.ccr_law_stores.proofs.CopyChanges.{not_missed-fewer, store-same, store-floors}
use Rattle.std.proofs.lemmas.Bool.{and_parts, not-true}

-- ---- what the tests of a merge say

pub any-in : {X : Type 0} (test : X → Bool) (xs : List X) → list_any test xs ≡ true → (x : X) × IsIn xs x × (test x ≡ true)
any-in test [] is = cc
any-in test (x ∷ xs) is =
    (elim (test x) as (λ b. test x ≡ b → (b || list_any test xs) ≡ true → (y : _) × IsIn (x ∷ xs) y × (test y ≡ true)) [
      | true ↦ λ at all. (x, inl refl, at)
      | false ↦ λ isnt all. let rest : (y : _) × IsIn xs y × (test y ≡ true) = any-in test xs all in (rest.0, inr rest.1, rest.2)
    ]) refl is

pub any_none : {X : Type 0} (test : X → Bool) (xs : List X) → list_any test xs ≡ false → AllByRecursion (λ x. test x ≡ false) xs
any_none test [] out = tt
any_none test (x ∷ xs) out =
    (elim (test x) as (λ b. test x ≡ b → (b || list_any test xs) ≡ false → AllByRecursion (λ y. test y ≡ false) (x ∷ xs)) [
      | true ↦ λ at none. cc
      | false ↦ λ isnt none. (isnt, any_none test xs none)
    ]) refl out

pub passed_by : (ops : ℕ → Option Operation) (xs : List Operation) (id : List ℕ) (op : Operation) (count : ℕ) → AllByRecursion (IsAmong ops) xs
    → is_passed id op count xs ≡ true → Passed ops count id op.seq
passed_by ops xs id op count all is =
    let at : (x : Operation) × IsIn xs x × ((is_about id x && nat_lt op.seq x.seq && nat_lt x.seq count) ≡ true)
    = any-in (λ (x : Operation). is_about id x && nat_lt op.seq x.seq && nat_lt x.seq count) xs is in
    let outer : ((is_about id at.0 && nat_lt op.seq at.0.seq) ≡ true) × (nat_lt at.0.seq count ≡ true) = and_parts (is_about id at.0 && nat_lt op.seq at.0.seq) (nat_lt at.0.seq count) at.2 in
    let inner : (is_about id at.0 ≡ true) × (nat_lt op.seq at.0.seq ≡ true) = and_parts (is_about id at.0) (nat_lt op.seq at.0.seq) outer.0 in
    record {
      op = at.0;
      given = All-in (IsAmong ops) xs at.0 all at.1;
      about = about_id id (id_of at.0.kind) inner.0;
      above = let lt : nat_lt op.seq at.0.seq ≡ true = inner.1 in grind (arith, nat_tests);
      below = let lt : nat_lt at.0.seq count ≡ true = outer.1 in grind (arith, nat_tests);
    }

pub least_by : (ops : ℕ → Option Operation) (xs : List Operation) (there : ℕ → Bool) (id : List ℕ) (op : Operation) → AllByRecursion (IsAmong ops) xs
    → ((n : ℕ) → there n ≡ true → has_number xs n ≡ true) → is_least id op xs ≡ true → IsLeast ops there id op.seq
least_by ops xs there id op all few is x given held about =
    let none : list_any (λ (y : Operation). is_about id y && nat_lt y.seq op.seq) xs ≡ false = not-true (list_any (λ (y : Operation). is_about id y && nat_lt y.seq op.seq) xs) is in
    let out : (is_about id x && nat_lt x.seq op.seq) ≡ false
    = All-in (λ (y : Operation). (is_about id y && nat_lt y.seq op.seq) ≡ false) xs x (any_none (λ (y : Operation). is_about id y && nat_lt y.seq op.seq) xs none)
    (in-given ops xs x all given (few x.seq held)) in
    let own : is_about id x ≡ true = id_about id (id_of x.kind) about in
    let not_less : nat_lt x.seq op.seq ≡ false = sym (ap (λ (b : Bool). b && nat_lt x.seq op.seq) own) ∙ out in
    grind (arith, nat_tests)

-- ---- one operation goes

abbrev pub drops_kind : ℕ → List Operation → Operation → Kind → Bool
drops_kind count xs op kind = elim kind as (λ _. Bool) [
  | Index id routing body ↦ is_passed id op count xs
  | Delete id routing ↦ is_passed id op count xs || is_least id op xs
  | NoOp ↦ true
]

pub not_missed_by : (ops : ℕ → Option Operation) (xs : List Operation) (there : ℕ → Bool) (op : Operation) (count : ℕ) (kind : Kind) → AllByRecursion (IsAmong ops) xs
    → ((n : ℕ) → there n ≡ true → has_number xs n ≡ true) → drops_kind count xs op kind ≡ true → IsNotMissed ops there count op.seq kind
not_missed_by ops xs there op count (Index id routing body) all few is = passed_by ops xs id op count all is
not_missed_by ops xs there op count (Delete id routing) all few is =
    (elim (is_passed id op count xs) as (λ b. is_passed id op count xs ≡ b → (b || is_least id op xs) ≡ true → Passed ops count id op.seq ⊎ IsLeast ops there id op.seq) [
      | true ↦ λ passes either. inl (passed_by ops xs id op count all passes)
      | false ↦ λ isnt either. inr (least_by ops xs there id op all few either)
    ]) refl is
not_missed_by ops xs there op count NoOp all few is = tt

pub times-without : (m n : ℕ) (xs : List Operation) → times n (without_number m xs) ≡ (if not (n == m) then times n xs else 0)
times-without m n xs = times-filter (λ k. not (k == m)) n xs

pub without-other : (m n : ℕ) (xs : List Operation) → (n == m) ≡ false → times n (without_number m xs) ≡ times n xs
without-other m n xs isnt = times-without m n xs ∙ ap (λ (b : Bool). if not b then times n xs else 0) isnt

pub without-own : (m n : ℕ) (xs : List Operation) → (n == m) ≡ true → times n (without_number m xs) ≡ 0
without-own m n xs is = times-without m n xs ∙ ap (λ (b : Bool). if not b then times n xs else 0) is

pub without-le : (m n : ℕ) (xs : List Operation) → times n (without_number m xs) ≤ times n xs
without-le m n xs =
    (elim (n == m) as (λ b. (n == m) ≡ b → times n (without_number m xs) ≤ times n xs) [
      | true ↦ λ is. omega (arith, without-own m n xs is)
      | false ↦ λ isnt. omega (arith, without-other m n xs isnt)
    ]) refl

pub without-few : (m n : ℕ) (xs : List Operation) → has_number (without_number m xs) n ≡ true → has_number xs n ≡ true
without-few m n xs there = has_by_times xs n (omega (arith, times_some (without_number m xs) n there, without-le m n xs))

pub store-drops_one : (ops : ℕ → Option Operation) (restored : ℕ) (xs : List Operation) (floor commit count bound : ℕ) (op : Operation) → ops op.seq ≡ Some op → bound ≤ floor
    → is_droppable bound count xs op ≡ true → StoreOk ops restored xs floor commit count → StoreOk ops restored (without_number op.seq xs) floor commit count
store-drops_one ops restored xs floor commit count bound op given low is ok =
    let both : (nat_lt op.seq bound ≡ true) × (drops_kind count xs op op.kind ≡ true) = and_parts (nat_lt op.seq bound) (drops_kind count xs op op.kind) is in
    record {
      low = ok.low;
      since = ok.since;
      closed = ok.closed;
      ours = All-filter (IsAmong ops) (λ x. not (x.seq == op.seq)) xs ok.ours;
      once = λ n. let few : times n xs ≤ 1 = ok.once n in omega (arith, without-le op.seq n xs);
      kept = λ n le some.
          let lt : nat_lt op.seq bound ≡ true = both.0 in
          let isnt : (n == op.seq) ≡ false = (let less : op.seq < bound = grind (arith, nat_tests) in let past : op.seq < n = omega arith in grind (arith, nat_tests)) in
          has_by_times (without_number op.seq xs) n (omega (arith, times_some xs n (ok.kept n le some), without-other op.seq n xs isnt));
      covered = λ n x at out. (elim (n == op.seq) as (λ b. (n == op.seq) ≡ b → IsNotMissed ops (has_number (without_number op.seq xs)) count x.seq x.kind) [
        | true ↦ λ same. let number : n ≡ op.seq = grind (arith, nat_tests) in
            let own : op ≡ x = some_equal op x (sym given ∙ (ap ops (sym number) ∙ at)) in
            subst (λ (y : Operation). IsNotMissed ops (has_number (without_number op.seq xs)) count y.seq y.kind) own
            (not_missed_by ops xs (has_number (without_number op.seq xs)) op count op.kind ok.ours (λ k there. without-few op.seq k xs there) both.1)
        | false ↦ λ isnt. not_missed-fewer ops (has_number xs) (has_number (without_number op.seq xs)) count count x.seq x.kind
            (λ k there. without-few op.seq k xs there) (omega arith)
            (ok.covered n x at (none_by_times xs n (sym (without-other op.seq n xs isnt) ∙ times_none (without_number op.seq xs) n out)))
      ]) refl;
    }

-- ---- all that a merge drops

abbrev pub without_numbers : List ℕ → List Operation → List Operation
without_numbers [] xs = xs
without_numbers (n ∷ ns) xs = without_numbers ns (without_number n xs)

pub store-drops : (ops : ℕ → Option Operation) (restored : ℕ) (xs picked : List Operation) (floor commit count bound : ℕ) → AllByRecursion (IsAmong ops) picked → bound ≤ floor
    → StoreOk ops restored xs floor commit count → StoreOk ops restored (without_numbers (dropped bound count xs picked) xs) floor commit count
store-drops ops restored xs [] floor commit count bound all low ok = ok
store-drops ops restored xs (op ∷ picked) floor commit count bound all low ok =
    on_if (λ (ns : List ℕ). StoreOk ops restored (without_numbers ns xs) floor commit count) (is_droppable bound count xs op)
    (op.seq ∷ dropped bound count (without_number op.seq xs) picked) (dropped bound count xs picked)
    (λ is. store-drops ops restored (without_number op.seq xs) picked floor commit count bound all.1 low (store-drops_one ops restored xs floor commit count bound op all.0 low is ok))
    (λ isnt. store-drops ops restored xs picked floor commit count bound all.1 low ok)

pub times-without_numbers : (ns : List ℕ) (n : ℕ) (xs : List Operation) → times n (without_numbers ns xs) ≡ (if is_among ns n then 0 else times n xs)
times-without_numbers [] n xs = refl
times-without_numbers (m ∷ ns) n xs =
    let rest : times n (without_numbers ns (without_number m xs)) ≡ (if is_among ns n then 0 else times n (without_number m xs)) = times-without_numbers ns n (without_number m xs) in
    (elim (m == n) as (λ b. (m == n) ≡ b → times n (without_numbers ns (without_number m xs)) ≡ (if b || is_among ns n then 0 else times n xs)) [
      | true ↦ λ is. rest ∙ (ap (λ (k : ℕ). if is_among ns n then 0 else k) (without-own m n xs (grind (arith, nat_tests))) ∙ none (is_among ns n))
      | false ↦ λ isnt. rest ∙ ap (λ (k : ℕ). if is_among ns n then 0 else k) (without-other m n xs (grind (arith, nat_tests)))
    ]) refl
  where
    none : (b : Bool) → ◌≡◌ {A = ℕ} (if b then 0 else 0) 0
    none true = refl
    none false = refl

-- what goes was picked
pub dropped-picked : (bound count : ℕ) (xs picked : List Operation) (n : ℕ) → is_among (dropped bound count xs picked) n ≡ true → has_number picked n ≡ true
dropped-picked bound count xs [] n is = cc
dropped-picked bound count xs (op ∷ picked) n is =
    on_if (λ (ns : List ℕ). is_among ns n ≡ true → has_number (op ∷ picked) n ≡ true) (is_droppable bound count xs op)
    (op.seq ∷ dropped bound count (without_number op.seq xs) picked) (dropped bound count xs picked)
    (λ goes. (elim (op.seq == n) as (λ b. (b || is_among (dropped bound count (without_number op.seq xs) picked) n) ≡ true → (b || has_number picked n) ≡ true) [
      | true ↦ λ all. refl
      | false ↦ λ all. dropped-picked bound count (without_number op.seq xs) picked n all
    ]))
    (λ stays all. (elim (op.seq == n) as (λ b. (b || has_number picked n) ≡ true) [ true ↦ refl | false ↦ dropped-picked bound count xs picked n all ]))
    is

-- ---- the merge

pub times-merged : (picks : List ℕ) (bound count : ℕ) (s : Store) (n : ℕ) → times n (held s) ≤ 1
    → times n (held (merged picks bound count s)) ≡ times n (without_numbers (merge_drops picks bound count s) (held s))
times-merged picks bound count s n few =
    let drops = merge_drops picks bound count s in
    let now : times n (in_parts (joined picks drops s.parts) ++ s.open_part) ≡ times n (in_parts (joined picks drops s.parts)) + times n s.open_part
    = times-append n (in_parts (joined picks drops s.parts)) s.open_part in
    let old : times n (in_parts s.parts ++ s.open_part) ≡ times n (in_parts s.parts) + times n s.open_part = times-append n (in_parts s.parts) s.open_part in
    let split : times n (picked_ops picks s.parts) + times n (others_at picks s.parts) ≡ times n (in_parts s.parts) = times-picked n picks s.parts in
    now ∙ (ap (λ (k : ℕ). k + times n s.open_part) (times-joined n picks drops s.parts)
    ∙ (both (is_among drops n) (λ is. times_some (picked_ops picks s.parts) n (dropped-picked bound count (held s) (picked_ops picks s.parts) n is))
    (times n (picked_ops picks s.parts)) (times n (others_at picks s.parts)) (times n s.open_part) (times n (held s)) (omega arith) few
    ∙ sym (times-without_numbers drops n (held s))))
  where
    both : (b : Bool) → (b ≡ true → 1 ≤ times n (picked_ops picks s.parts)) → (picked others last all : ℕ) → all ≡ times n (picked_ops picks s.parts) + others + last → all ≤ 1
        → ((if not b then times n (picked_ops picks s.parts) else 0) + others) + last ≡ (if b then 0 else all)
    both true some picked others last all sum le = let least : 1 ≤ times n (picked_ops picks s.parts) = some refl in omega arith
    both false some picked others last all sum le = omega arith

pub All-merged : (P : Operation → Type 0) (picks : List ℕ) (bound count : ℕ) (s : Store) → AllByRecursion P (held s) → AllByRecursion P (held (merged picks bound count s))
All-merged P picks bound count s all =
    All-append P (in_parts (joined picks (merge_drops picks bound count s) s.parts)) s.open_part
    (All-joined P picks (merge_drops picks bound count s) s.parts (All-append_front P (in_parts s.parts) s.open_part all))
    (All-append_back P (in_parts s.parts) s.open_part all)

pub store-merges : (ops : ℕ → Option Operation) (restored : ℕ) (s : Store) (floor commit count : ℕ) (picks : List ℕ) (bound : ℕ) → bound ≤ floor
    → StoreOk ops restored (held s) floor commit count → StoreOk ops restored (held (merged picks bound count s)) floor commit count
store-merges ops restored s floor commit count picks bound low ok =
    store-same ops restored (without_numbers (merge_drops picks bound count s) (held s)) (held (merged picks bound count s)) floor commit count
    (λ n. times-merged picks bound count s n (ok.once n)) (All-merged (IsAmong ops) picks bound count s ok.ours)
    (store-drops ops restored (held s) (picked_ops picks s.parts) floor commit count bound
    (All-picked (IsAmong ops) picks s.parts (All-append_front (IsAmong ops) (in_parts s.parts) s.open_part ok.ours)) low ok)

pub capped-le : (leases : List Lease) (n : ℕ) → capped leases n ≤ n
capped-le [] n = omega arith
capped-le (lease ∷ leases) n = let rest : capped leases n ≤ n = capped-le leases n in omega arith

pub copy-merges : (ops : ℕ → Option Operation) (restored retention : ℕ) (picks : List ℕ) (c : Copy) → IsTrueStore ops restored c → IsTrueStore ops restored (after_merge retention picks c)
copy-merges ops restored retention picks c ok =
    store-merges ops restored c.store (risen_floor retention c) c.commit c.global picks (merge_bound retention c) (capped-le c.leases.leases (risen_floor retention c))
    (store-floors ops restored (held c.store) c.floor (risen_floor retention c) c.commit c.global (omega arith)
    (let low : c.floor ≤ c.global = ok.low in
    let closed : c.commit ≤ c.global = ok.closed in
    omega (arith, capped-le c.leases.leases (min (c.global - retention) c.commit))) ok)
