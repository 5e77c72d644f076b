-- Runs of numbers: what is left of one, and what a loop over it has done.
use Rattle.std.specs.Prelude.{find, filter}
use Rattle.std.specs.List.{fold, range_with_len}
use Rattle.std.specs.Ordering.{nat_cmp}
use Rattle.std.specs.BTreeSet.{insert_key}
use Rattle.std.proofs.Common.{◌≡◌, ℕ, zero, suc, ◌+◌, ◌-◌, ◌<◌, ◌≤◌, ◌==◌, ◌⊎◌, Bool, true, false, not, ◌||◌, nat_lt, cond, if◌then◌else◌, Option, Some, None, List, [], ◌∷◌, length, map, refl, sym, ◌∙◌, ap, subst, inl, inr, arith}
use Rattle.std.proofs.lemmas.Bool.{eqb-true}
use Rattle.std.proofs.lemmas.Bool.Decides.{nat_tests}
use Rattle.ccr_op.specs.Operation.{Operation}
use Rattle.ccr_op.specs.declared.operation.Kind.TheVariants.{NoOp}
use Rattle.ccr_tracker.specs.Numbers.{Numbers, has, marked}
use Rattle.ccr_tracker.specs.Numbers as numbers
use Rattle.ccr_model.specs.Operations.{has_number, op_at, before_none, run_from}
use Rattle.ccr_model.specs.Stores.{Store, held, stored, stored_all}
use Rattle.ccr_model.specs.Copies.{Copy, greatest, taking}
use Rattle.ccr_model.specs.LeaderRows.{end_of, missing_numbers, filled}
use Rattle.ccr_model.specs.FollowerRows.{new_in}
use Rattle.ccr_law_base.proofs.Lists.{some_equal}
use Rattle.ccr_law_base.proofs.Tests.{by_test, or_true}
use Rattle.ccr_law_copies.proofs.Sets.{has-marked}
use Rattle.ccr_copies.proofs.Holding.{has-stored}

less-one : (from to : ℕ) → from < to → to - from ≡ suc (to - (from + 1))
less-one from to low = omega arith

none-left : (from to : ℕ) → to ≤ from → to - from ≡ zero
none-left from to over = omega arith

range-more : (from to : ℕ) → from < to → range_with_len from (to - from) ≡ from ∷ range_with_len (from + 1) (to - (from + 1))
range-more from to low = ap (λ (n : ℕ). range_with_len from n) (less-one from to low)

range-none : (from to : ℕ) → to ≤ from → range_with_len from (to - from) ≡ []
range-none from to over = ap (λ (n : ℕ). range_with_len from n) (none-left from to over)

-- ---- noting a run of numbers

pub marks-more : (from to : ℕ) (seen next goal : Numbers) → from < to → next ≡ marked seen from → fold {A = ℕ} {B = Numbers} marked seen (range_with_len from (to - from)) ≡ goal
    → fold {A = ℕ} {B = Numbers} marked next (range_with_len (from + 1) (to - (from + 1))) ≡ goal
marks-more from to seen next goal low is before =
    ap (λ (s : Numbers). fold {A = ℕ} {B = Numbers} marked s (range_with_len (from + 1) (to - (from + 1)))) is
    ∙ (sym (ap (λ (ns : List ℕ). fold {A = ℕ} {B = Numbers} marked seen ns) (range-more from to low)) ∙ before)

pub marks-end : (from to : ℕ) (seen goal : Numbers) → to ≤ from → fold {A = ℕ} {B = Numbers} marked seen (range_with_len from (to - from)) ≡ goal → seen ≡ goal
marks-end from to seen goal over before = sym (ap (λ (ns : List ℕ). fold {A = ℕ} {B = Numbers} marked seen ns) (range-none from to over)) ∙ before

-- ---- taking a run of operations

run-more : (ops : List Operation) (from to : ℕ) (op : Operation) → from < to → op_at from ops ≡ Some op → run_from ops from to ≡ op ∷ run_from ops (from + 1) to
run-more ops from to op low at =
    ap (λ (ns : List ℕ). before_none (map {A = ℕ} {B = Option Operation} (λ n. op_at n ops) ns)) (range-more from to low)
    ∙ ap (λ (o : Option Operation). before_none (o ∷ map {A = ℕ} {B = Option Operation} (λ n. op_at n ops) (range_with_len (from + 1) (to - (from + 1))))) at

run-stops : (ops : List Operation) (from to : ℕ) → from < to → op_at from ops ≡ None → run_from ops from to ≡ []
run-stops ops from to low at =
    ap (λ (ns : List ℕ). before_none (map {A = ℕ} {B = Option Operation} (λ n. op_at n ops) ns)) (range-more from to low)
    ∙ ap (λ (o : Option Operation). before_none (o ∷ map {A = ℕ} {B = Option Operation} (λ n. op_at n ops) (range_with_len (from + 1) (to - (from + 1))))) at

pub takes-more : (ops : List Operation) (from to : ℕ) (op : Operation) (store next goal : Store) → from < to → op_at from ops ≡ Some op → next ≡ stored op store
    → stored_all (run_from ops from to) store ≡ goal → stored_all (run_from ops (from + 1) to) next ≡ goal
takes-more ops from to op store next goal low at is before =
    ap (λ (s : Store). stored_all (run_from ops (from + 1) to) s) is
    ∙ (sym (ap (λ (run : List Operation). stored_all run store) (run-more ops from to op low at)) ∙ before)

pub takes-stop : (ops : List Operation) (from to : ℕ) (store goal : Store) → from < to → op_at from ops ≡ None → stored_all (run_from ops from to) store ≡ goal → store ≡ goal
takes-stop ops from to store goal low at before = sym (ap (λ (run : List Operation). stored_all run store) (run-stops ops from to low at)) ∙ before

pub takes-end : (ops : List Operation) (from to : ℕ) (store goal : Store) → to ≤ from → stored_all (run_from ops from to) store ≡ goal → store ≡ goal
takes-end ops from to store goal over before =
    sym (ap (λ (ns : List ℕ). stored_all (before_none (map {A = ℕ} {B = Option Operation} (λ n. op_at n ops) ns)) store) (range-none from to over)) ∙ before

-- how far a run of numbers is noted: what is left of it leads to the whole, none is forgotten, and those before are there
pub record IsMarking (from to at : ℕ) (start now : Numbers) : Type 0 where
  pub rest : fold {A = ℕ} {B = Numbers} marked now (range_with_len at (to - at)) ≡ fold {A = ℕ} {B = Numbers} marked start (range_with_len from (to - from))
  pub kept : (k : ℕ) → has start k ≡ true → has now k ≡ true
  pub run : (k : ℕ) → from ≤ k → k < at → has now k ≡ true

pub marking-begins : (from to : ℕ) (start : Numbers) → IsMarking from to from start start
marking-begins from to start = record {
  rest = refl;
  kept = λ k there. there;
  run = λ k low high. absurd (none k low high);
}
  where
    none : (k : ℕ) → from ≤ k → k < from → ⊥
    none k low high = omega arith

pub marking-goes : (from to at : ℕ) (start now next : Numbers) → at < to → next ≡ marked now at → ((k : ℕ) → has next k ≡ (has now k || (k == at))) → IsMarking from to at start now
    → IsMarking from to (at + 1) start next
marking-goes from to at start now next low is members before = record {
  rest = marks-more at to now next _ low is before.rest;
  kept = λ k there. members k ∙ ap (λ b. b || (k == at)) (before.kept k there);
  run = λ k from_low high. by_test (has next k ≡ true) (k == at)
      (λ own. members k ∙ (ap (λ b. has now k || b) own ∙ or_true (has now k)))
      (λ other. members k ∙ ap (λ b. b || (k == at)) (before.run k from_low (smaller k at high other)));
}
  where
    smaller : (k at : ℕ) → k < at + 1 → (k == at) ≡ false → k < at
    smaller k at high other = grind (arith, nat_tests)

-- how far a run of operations is taken: what is left of it leads to the whole, and what is held was held before or is of the run
pub record IsTakingRun (ops : List Operation) (from to at : ℕ) (start now : Store) : Type 0 where
  pub rest : stored_all (run_from ops at to) now ≡ stored_all (run_from ops from to) start
  pub within : (k : ℕ) → has_number (held now) k ≡ true → (has_number (held start) k ≡ true) ⊎ ((from ≤ k) × (k < at))
  pub low : from ≤ at

pub taking_run-begins : (ops : List Operation) (from to : ℕ) (start : Store) → IsTakingRun ops from to from start start
taking_run-begins ops from to start = record {
  rest = refl;
  within = λ k there. inl there;
  low = omega arith;
}

-- the operation of a number has it
pub number-of-found : (n : ℕ) (ops : List Operation) (op : Operation) → op_at n ops ≡ Some op → op.seq ≡ n
number-of-found n [] op at = absurd (cc)
number-of-found n (x ∷ xs) op at =
    by_test (op.seq ≡ n) (x.seq == n)
    (λ own. subst (λ (y : Operation). y.seq ≡ n) (some_equal x op (sym (ap (λ b. cond b (Some x) (find (λ (y : Operation). y.seq == n) xs)) own) ∙ at)) (eqb-true x.seq n own))
    (λ other. number-of-found n xs op (sym (ap (λ b. cond b (Some x) (find (λ (y : Operation). y.seq == n) xs)) other) ∙ at))

-- the other copy's operation of a number is taken under that number
pub found-taken : (c : Copy) (seq : ℕ) (op : Operation) (ops : List Operation) (next : Copy) → op_at seq ops ≡ Some op → next ≡ taking c op.seq (Some op) → next ≡ taking c seq (op_at seq ops)
found-taken c seq op ops next at is =
    is ∙ (ap (λ (n : ℕ). taking c n (Some op)) (number-of-found seq ops op at) ∙ ap (λ (o : Option Operation). taking c seq o) (sym at))

pub none-taken : (c : Copy) (seq : ℕ) (ops : List Operation) (next : Copy) → op_at seq ops ≡ None → next ≡ taking c seq None → next ≡ taking c seq (op_at seq ops)
none-taken c seq ops next at is = is ∙ ap (λ (o : Option Operation). taking c seq o) (sym at)

-- what is held after one more operation of a run
pub within-more : (old store next : Store) (from at to : ℕ) (op : Operation) → from ≤ at → at < to → op.seq ≡ at → next ≡ stored op store
    → ((k : ℕ) → has_number (held store) k ≡ true → (has_number (held old) k ≡ true) ⊎ ((from ≤ k) × (k < at)))
    → (k : ℕ) → has_number (held next) k ≡ true → (has_number (held old) k ≡ true) ⊎ ((from ≤ k) × (k < at + 1))
within-more old store next from at to op low high number is before k there =
    by_test ((has_number (held old) k ≡ true) ⊎ ((from ≤ k) × (k < at + 1))) (has_number (held store) k)
    (λ was. later (before k was))
    (λ wasnt. own (sym (ap (λ b. b || (op.seq == k)) wasnt) ∙ (sym (ap (λ (s : Store). has_number (held s) k) is ∙ has-stored op store k) ∙ there)))
  where
    later : (has_number (held old) k ≡ true) ⊎ ((from ≤ k) × (k < at)) → (has_number (held old) k ≡ true) ⊎ ((from ≤ k) × (k < at + 1))
    later (inl was) = inl was
    later (inr both) = let first : from ≤ k = both.0 in let second : k < at = both.1 in inr (first, omega arith)

    own : (op.seq == k) ≡ true → (has_number (held old) k ≡ true) ⊎ ((from ≤ k) × (k < at + 1))
    own same = let e : op.seq ≡ k = eqb-true op.seq k same in inr (omega arith, omega arith)

-- the next number of a run isn't held
pub next-absent : (old store : Store) (from at : ℕ) → from ≤ at → ((n : ℕ) → has_number (held old) n ≡ true → n < from)
    → ((k : ℕ) → has_number (held store) k ≡ true → (has_number (held old) k ≡ true) ⊎ ((from ≤ k) × (k < at))) → has_number (held store) at ≡ false
next-absent old store from at low high within =
    by_test (has_number (held store) at ≡ false) (has_number (held store) at) (λ there. absurd (none (within at there))) (λ isnt. isnt)
  where
    none : (has_number (held old) at ≡ true) ⊎ ((from ≤ at) × (at < at)) → ⊥
    none (inl was) = let below : at < from = high at was in omega arith
    none (inr both) = let below : at < at = both.1 in omega arith

-- ---- filling gaps

greatest-same : (ns : List ℕ) → numbers.greatest ns ≡ greatest ns
greatest-same [] = refl
greatest-same (n ∷ ns) = let rest : numbers.greatest ns ≡ greatest ns = greatest-same ns in grind (arith, rest)

pub end-same : (s : Numbers) → numbers.end_of s ≡ end_of s
end-same s = greatest-same (s.count ∷ map {A = ℕ} {B = ℕ} (λ n. n + 1) s.above)

-- the numbers from one on and below another that a set lacks
abbrev pub missing_from : Numbers → ℕ → ℕ → List ℕ
missing_from seen from to = filter (λ n. not (has seen n)) (range_with_len from (to - from))

pub missing-has : (seen : Numbers) (from to : ℕ) → from < to → has seen from ≡ true → missing_from seen from to ≡ missing_from seen (from + 1) to
missing-has seen from to low there =
    ap (λ (ns : List ℕ). filter (λ n. not (has seen n)) ns) (range-more from to low)
    ∙ ap (λ b. if not b then from ∷ missing_from seen (from + 1) to else missing_from seen (from + 1) to) there

pub missing-lacks : (seen : Numbers) (from to : ℕ) → from < to → has seen from ≡ false → missing_from seen from to ≡ from ∷ missing_from seen (from + 1) to
missing-lacks seen from to low lacks =
    ap (λ (ns : List ℕ). filter (λ n. not (has seen n)) ns) (range-more from to low)
    ∙ ap (λ b. if not b then from ∷ missing_from seen (from + 1) to else missing_from seen (from + 1) to) lacks

pub missing-none : (seen : Numbers) (from to : ℕ) → to ≤ from → missing_from seen from to ≡ []
missing-none seen from to over = ap (λ (ns : List ℕ). filter (λ n. not (has seen n)) ns) (range-none from to over)

-- how far a filling has come: what is left of it leads to the whole, and above what was looked at nothing has changed
pub record IsFilling (term at end : ℕ) (start now : Copy) (count : ℕ) : Type 0 where
  pub rest : filled term (missing_from start.seen at end) now ≡ filled term (missing_from start.seen start.seen.count end) start
  pub told : count + length (missing_from start.seen at end) ≡ length (missing_from start.seen start.seen.count end)
  pub same : (k : ℕ) → at ≤ k → has now.seen k ≡ has start.seen k
  pub few : count ≤ at
  pub number : now.number ≡ start.number

pub filling-begins : (term end : ℕ) (start : Copy) → IsFilling term start.seen.count end start start 0
filling-begins term end start = record {
  rest = refl;
  told = omega arith;
  same = λ k low. refl;
  few = omega arith;
  number = refl;
}

pub filling-passes : (term at end count : ℕ) (start now : Copy) → at < end → has now.seen at ≡ true → IsFilling term at end start now count → IsFilling term (at + 1) end start now count
filling-passes term at end count start now low there is =
    let was : has start.seen at ≡ true = sym (is.same at (omega arith)) ∙ there in
    record {
      rest = sym (ap (λ (ns : List ℕ). filled term ns now) (missing-has start.seen at end low was)) ∙ is.rest;
      told = ap (λ (ns : List ℕ). count + length ns) (sym (missing-has start.seen at end low was)) ∙ is.told;
      same = λ k high. is.same k (omega arith);
      few = let few : count ≤ at = is.few in omega arith;
      number = is.number;
    }

pub filling-takes : (term at end count : ℕ) (start now next : Copy) → at < end → has now.seen at ≡ false → next ≡ taking now at (Some record { seq = at; term = term; version = 0; kind = NoOp })
    → IsFilling term at end start now count → IsFilling term (at + 1) end start next (count + 1)
filling-takes term at end count start now next low lacks takes is =
    let was : has start.seen at ≡ false = sym (is.same at (omega arith)) ∙ lacks in
    let more : missing_from start.seen at end ≡ at ∷ missing_from start.seen (at + 1) end = missing-lacks start.seen at end low was in
    record {
      rest = ap (λ (c : Copy). filled term (missing_from start.seen (at + 1) end) c) takes ∙ (sym (ap (λ (ns : List ℕ). filled term ns now) more) ∙ is.rest);
      told = longer (missing_from start.seen (at + 1) end) count (length (missing_from start.seen start.seen.count end)) (ap (λ (ns : List ℕ). count + length ns) (sym more) ∙ is.told);
      same = λ k high. ap (λ (c : Copy). has c.seen k) takes ∙ (has-marked now.seen at k ∙ (apart k high ∙ is.same k (omega arith)));
      few = let few : count ≤ at = is.few in omega arith;
      number = ap (λ (c : Copy). c.number) takes ∙ is.number;
    }
  where
    longer : (ns : List ℕ) (count all : ℕ) → count + length (at ∷ ns) ≡ all → count + 1 + length ns ≡ all
    longer ns count all before = omega arith

    no : (b : Bool) → (b || false) ≡ b
    no true = refl
    no false = refl

    apart : (k : ℕ) → at + 1 ≤ k → (has now.seen k || (at == k)) ≡ has now.seen k
    apart k high = let other : (at == k) ≡ false = differ at k high in ap (λ b. has now.seen k || b) other ∙ no (has now.seen k)
      where
        differ : (a b : ℕ) → a + 1 ≤ b → (a == b) ≡ false
        differ a b low = grind arith

pub filling-ends : (term at end count : ℕ) (start now : Copy) → end ≤ at → end ≡ end_of start.seen → IsFilling term at end start now count
    → (now ≡ filled term (missing_numbers start.seen) start) × (count ≡ length (missing_numbers start.seen))
filling-ends term at end count start now over is_end is = (
  sym (ap (λ (ns : List ℕ). filled term ns now) (missing-none start.seen at end over)) ∙ (is.rest ∙ ap (λ (e : ℕ). filled term (missing_from start.seen start.seen.count e) start) is_end),
  bare count (length (missing_from start.seen start.seen.count end)) (ap (λ (ns : List ℕ). count + length ns) (sym (missing-none start.seen at end over)) ∙ is.told)
      ∙ ap (λ (e : ℕ). length (missing_from start.seen start.seen.count e)) is_end,
)
  where
    bare : (count all : ℕ) → count + 0 ≡ all → count ≡ all
    bare count all e = omega arith

-- ---- taking a batch

abbrev pub take_each : List Operation → Copy → Copy
take_each batch c = fold {A = Operation} {B = Copy} (λ own op. taking own op.seq (Some op)) c batch

-- how far a batch is taken: what is left of it leads to the whole
pub record IsTaking (left batch : List Operation) (start now : Copy) (count at : ℕ) : Type 0 where
  pub rest : take_each left now ≡ take_each batch start
  pub told : count + new_in now.seen left ≡ new_in start.seen batch
  pub few : count ≤ at
  pub number : now.number ≡ start.number

pub taking-passes : (op : Operation) (left batch : List Operation) (start now : Copy) (count at : ℕ) → has now.seen op.seq ≡ true → IsTaking (op ∷ left) batch start now count at
    → IsTaking left batch start now count (at + 1)
taking-passes op left batch start now count at there is = record {
  rest = ap (λ (c : Copy). take_each left c) (sym (unchanged there)) ∙ is.rest;
  told = ap (λ b. count + (if b then new_in now.seen left else 1 + new_in (marked now.seen op.seq) left)) (sym there) ∙ is.told;
  few = let few : count ≤ at = is.few in omega arith;
  number = is.number;
}
  where
    unchanged : has now.seen op.seq ≡ true → taking now op.seq (Some op) ≡ now
    unchanged there =
        ap (λ (seen : Numbers). record now { seen = seen; store = if has now.seen op.seq then now.store else stored op now.store })
        (ap (λ b. if b then now.seen else (if op.seq == now.seen.count then numbers.risen (op.seq + 1) now.seen.above else record now.seen { above = insert_key nat_cmp now.seen.above op.seq })) there)
        ∙ ap (λ b. record now { store = if b then now.store else stored op now.store }) there

pub taking-takes : (op : Operation) (left batch : List Operation) (start now next : Copy) (count at : ℕ) → has now.seen op.seq ≡ false → next ≡ taking now op.seq (Some op) → IsTaking (op ∷ left) batch start now count at
    → IsTaking left batch start next (count + 1) (at + 1)
taking-takes op left batch start now next count at lacks takes is = record {
  rest = ap (λ (c : Copy). take_each left c) takes ∙ is.rest;
  told = one_more (new_in next.seen left) (new_in (marked now.seen op.seq) left) (new_in start.seen batch) (ap (λ (c : Copy). new_in c.seen left) takes)
      (ap (λ b. count + (if b then new_in now.seen left else 1 + new_in (marked now.seen op.seq) left)) (sym lacks) ∙ is.told);
  few = let few : count ≤ at = is.few in omega arith;
  number = ap (λ (c : Copy). c.number) takes ∙ is.number;
}
  where
    one_more : (a b all : ℕ) → a ≡ b → count + (1 + b) ≡ all → count + 1 + a ≡ all
    one_more a b all same before = omega arith
