-- Nothing is left undone, as tests tell.
use Rattle.std.proofs.Common.{◌≡◌, ◌≤◌, ◌<◌, suc, ◌==◌, Bool, true, false, not, ◌&&◌, ◌||◌, nat_lt, nat_le, List, [], ◌∷◌, length, inl, inr, refl, ap, arith}
use Rattle.std.specs.List.{AllByRecursion, list_any}
use Rattle.std.proofs.lemmas.Bool.{both_ways, and_parts, and_from, or_cases, or_parts, or_from, or_left, or_right, not-true, not_from_false, leb-true, le-leb, eqb-true, eq-eqb, ltb-true, lt-ltb}
use Rattle.ccr_op.specs.Operation.{Operation}
use Rattle.ccr_model.specs.Tasks.{Task, Read, may_read, has_budget, is_held}
use Rattle.ccr_model.specs.TaskFacts.{IsSaturated}

-- the tests of writes, of held reads and of reads to begin
abbrev pub writes_all : Task → Bool
writes_all t = (length t.buffer == 0) || nat_le t.params.max_outstanding_write_requests (length t.writes)

abbrev pub sends_all : Task → Bool
sends_all t = not (may_read t) || not (list_any is_held t.reads)

abbrev pub reads_all : Task → Bool
reads_all t = not (has_budget t) || (nat_le t.known t.next && nat_lt 0 (length t.reads))

none_held : (reads : List Read) → list_any is_held reads ≡ false → AllByRecursion (λ (r : Read). is_held r ≡ false) reads
none_held [] none = tt
none_held (r ∷ reads) none = let parts = or_parts (is_held r) (list_any is_held reads) none in (parts.0, none_held reads parts.1)

any_held : (reads : List Read) → AllByRecursion (λ (r : Read). is_held r ≡ false) reads → list_any is_held reads ≡ false
any_held [] all = refl
any_held (r ∷ reads) all = or_from (is_held r) (list_any is_held reads) all.0 (any_held reads all.1)

empty_at : (xs : List Operation) → length xs ≡ 0 → xs ≡ []
empty_at [] none = refl
empty_at (x ∷ xs) none = let e : suc (length xs) ≡ 0 = none in absurd (cc)

-- of a test that is false or whose claim holds
implied : (b c : Bool) → (not b || c) ≡ true → b ≡ true → c ≡ true
implied true c either holds = either
implied false c either holds = absurd (both_ways false refl holds)

implies : (b c : Bool) → (b ≡ true → c ≡ true) → (not b || c) ≡ true
implies true c step = step refl
implies false c step = refl

pub saturated-by : (t : Task) → writes_all t ≡ true → sends_all t ≡ true → reads_all t ≡ true → IsSaturated t
saturated-by t writes sends reads = record {
  writes = elim (or_cases (length t.buffer == 0) (nat_le t.params.max_outstanding_write_requests (length t.writes)) writes) [
    | inl none ↦ inl (empty_at t.buffer (eqb-true (length t.buffer) 0 none))
    | inr full ↦ inr (leb-true t.params.max_outstanding_write_requests (length t.writes) full)
  ];
  held = λ may. none_held t.reads (not-true (list_any is_held t.reads) (implied (may_read t) (not (list_any is_held t.reads)) sends may));
  reads = λ has. leb-true t.known t.next (and_parts (nat_le t.known t.next) (nat_lt 0 (length t.reads)) (implied (has_budget t) (nat_le t.known t.next && nat_lt 0 (length t.reads)) reads has)).0;
  one = λ has.
      let some : 0 < length t.reads = ltb-true 0 (length t.reads) (and_parts (nat_le t.known t.next) (nat_lt 0 (length t.reads)) (implied (has_budget t) (nat_le t.known t.next && nat_lt 0 (length t.reads)) reads has)).1 in
      omega arith;
}

pub saturated-writes : (t : Task) → IsSaturated t → writes_all t ≡ true
saturated-writes t s = elim s.writes [
  | inl none ↦ or_left (length t.buffer == 0) (nat_le t.params.max_outstanding_write_requests (length t.writes)) (eq-eqb (length t.buffer) 0 (ap length none))
  | inr full ↦ or_right (length t.buffer == 0) (nat_le t.params.max_outstanding_write_requests (length t.writes)) (le-leb t.params.max_outstanding_write_requests (length t.writes) full)
]

pub saturated-sends : (t : Task) → IsSaturated t → sends_all t ≡ true
saturated-sends t s = implies (may_read t) (not (list_any is_held t.reads)) (λ may. not_from_false (list_any is_held t.reads) (any_held t.reads (s.held may)))

pub saturated-reads : (t : Task) → IsSaturated t → reads_all t ≡ true
saturated-reads t s = implies (has_budget t) (nat_le t.known t.next && nat_lt 0 (length t.reads)) (λ has.
    let one : 1 ≤ length t.reads = s.one has in
    let some : 0 < length t.reads = omega arith in
    and_from (nat_le t.known t.next) (nat_lt 0 (length t.reads)) (le-leb t.known t.next (s.reads has)) (lt-ltb 0 (length t.reads) some))
