-- The parts of a store ascend by number, after each change of it.
use Rattle.std.specs.List.{AllByRecursion, enumerate_from}
use Rattle.std.specs.Prelude.{filter, take_while}
use Rattle.std.proofs.Common.{◌≡◌, ℕ, ◌+◌, ◌<◌, ◌≤◌, ◌==◌, Bool, true, false, not, nat_lt, Option, Some, None, List, [], ◌∷◌, ◌++◌, length, drop, refl, sym, ap, subst, arith}
use Rattle.std.proofs.lemmas.Bool.Decides.{nat_tests}
use Rattle.std.proofs.lemmas.List.Concat.{flat_map-cons}
use Rattle.ccr_op.specs.Operation.{Operation}
use Rattle.ccr_segment.specs.Segment.{AscendsFrom}
use Rattle.ccr_tracker.specs.Numbers.{has}
use Rattle.ccr_model.specs.Operations.{has_number, with_op, with_ops, ascending}
use Rattle.ccr_model.specs.Stores.{Store, held, stored, stored_if_some, stored_all, one_part, flushed, sifted, files_below, merged, merge_drops, is_picked, is_among, picked_ops, parts_at}
use Rattle.ccr_model.specs.Copies.{Copy, taking}
use Rattle.ccr_law_base.proofs.Cases.{on_if}
use Rattle.ccr_law_base.proofs.Lists.{All-append, All-filter, All-take, All-drop, All-map}
use Rattle.ccr_law_stores.specs.TrueStores.{one, times, IsSorted}
use Rattle.ccr_law_stores.proofs.Counting.{times-append, none_by_times}
use Rattle.ccr_law_stores.proofs.Holding.{in_parts, times-with_op, times-stored, times-stored_all, sifted_parts}
use Rattle.ccr_law_stores.proofs.Joining.{ops_at, ops_at-placed, times-chosen}
use Rattle.std.proofs.lemmas.Bool.{or_parts}
use Rattle.ccr_law_base.proofs.Tests.{itself}

pub ascends-lower : (low high : ℕ) (xs : List Operation) → low ≤ high → AscendsFrom high xs → AscendsFrom low xs
ascends-lower low high [] le up = tt
ascends-lower low high (x ∷ xs) le up = (let first : high ≤ x.seq = up.0 in omega arith, up.1)

pub ascends-with_op : (low : ℕ) (op : Operation) (xs : List Operation) → low ≤ op.seq → has_number xs op.seq ≡ false → AscendsFrom low xs → AscendsFrom low (with_op op xs)
ascends-with_op low op [] le out up = (le, tt)
ascends-with_op low op (x ∷ xs) le out up =
    let first : low ≤ x.seq = up.0 in
    on_if (AscendsFrom low) (nat_lt op.seq x.seq) (op ∷ x ∷ xs) (x ∷ with_op op xs)
    (λ is. (le, ((let lt : op.seq < x.seq = grind (arith, nat_tests) in omega arith), up.1)))
    (λ isnt. (
      first,
      ascends-with_op (x.seq + 1) op xs
          (past (x.seq == op.seq) refl isnt (or_parts (x.seq == op.seq) (has_number xs op.seq) out).0) (or_parts (x.seq == op.seq) (has_number xs op.seq) out).1 up.1,
    ))
  where
    past : (b : Bool) → (x.seq == op.seq) ≡ b → nat_lt op.seq x.seq ≡ false → b ≡ false → x.seq + 1 ≤ op.seq
    past true is isnt never = cc
    past false is isnt never = grind (arith, nat_tests)

pub ascends-with_ops : (more xs : List Operation) → ((n : ℕ) → times n more + times n xs ≤ 1) → AscendsFrom 0 xs → AscendsFrom 0 (with_ops more xs)
ascends-with_ops [] xs once up = up
ascends-with_ops (op ∷ more) xs once up =
    ascends-with_ops more (with_op op xs)
    (λ n. let few : times n (op ∷ more) + times n xs ≤ 1 = once n in omega (arith, times-with_op n op xs))
    (ascends-with_op 0 op xs (omega arith)
    (none_by_times xs op.seq
    (let few : times op.seq (op ∷ more) + times op.seq xs ≤ 1 = once op.seq in
    let own : one (op.seq == op.seq) ≡ 1 = ap one (itself op.seq) in omega arith)) up)

pub ascends-ascending : (xs : List Operation) → ((n : ℕ) → times n xs ≤ 1) → AscendsFrom 0 (ascending xs)
ascends-ascending xs once = ascends-with_ops xs [] (λ n. let few : times n xs ≤ 1 = once n in omega arith) tt

pub ascends-filter : (test : Operation → Bool) (low : ℕ) (xs : List Operation) → AscendsFrom low xs → AscendsFrom low (filter test xs)
ascends-filter test low [] up = tt
ascends-filter test low (x ∷ xs) up =
    on_if (AscendsFrom low) (test x) (x ∷ filter test xs) (filter test xs)
    (λ is. (up.0, ascends-filter test (x.seq + 1) xs up.1))
    (λ isnt. ascends-lower low (x.seq + 1) (filter test xs) (let first : low ≤ x.seq = up.0 in omega arith) (ascends-filter test (x.seq + 1) xs up.1))

-- ---- the changes

pub sorted-stored : (op : Operation) (s : Store) → ((n : ℕ) → times n (held (stored op s)) ≤ 1) → IsSorted s → IsSorted (stored op s)
sorted-stored op s once ok = record {
  closed = ok.closed;
  last = ascends-with_op 0 op s.open_part (omega arith)
      (none_by_times s.open_part op.seq
      (let few : times op.seq (held (stored op s)) ≤ 1 = once op.seq in
      let own : one (op.seq == op.seq) ≡ 1 = ap one (itself op.seq) in
      omega (arith, times-stored op.seq op s, times-append op.seq (in_parts s.parts) s.open_part))) ok.last;
}

pub sorted-taking : (c : Copy) (seq : ℕ) (o : Option Operation) → ((n : ℕ) → times n (held (taking c seq o).store) ≤ 1) → IsSorted c.store → IsSorted (taking c seq o).store
sorted-taking c seq o once ok =
    on_if (λ (s : Store). ((n : ℕ) → times n (held s) ≤ 1) → IsSorted s) (has c.seen seq) c.store (stored_if_some o c.store) (λ is few. ok) (λ isnt. by_some o) once
  where
    by_some : (o : Option Operation) → ((n : ℕ) → times n (held (stored_if_some o c.store)) ≤ 1) → IsSorted (stored_if_some o c.store)
    by_some None few = ok
    by_some (Some op) few = sorted-stored op c.store few ok

pub sorted-stored_all : (more : List Operation) (s : Store) → ((n : ℕ) → times n (held (stored_all more s)) ≤ 1) → IsSorted s → IsSorted (stored_all more s)
sorted-stored_all more s once ok = record {
  closed = ok.closed;
  last = ascends-with_ops more s.open_part
      (λ n. let few : times n (held (stored_all more s)) ≤ 1 = once n in omega (arith, times-stored_all n more s, times-append n (in_parts s.parts) s.open_part)) ok.last;
}

pub All-one_part : (P : List Operation → Type 0) (xs : List Operation) → P xs → AllByRecursion P (one_part xs)
All-one_part P [] holds = tt
All-one_part P (x ∷ xs) holds = (holds, tt)

pub sorted-flushed : (s : Store) → IsSorted s → IsSorted (flushed s)
sorted-flushed s ok = record { closed = All-append (AscendsFrom 0) s.parts (one_part s.open_part) ok.closed (All-one_part (AscendsFrom 0) s.open_part ok.last); last = tt }

pub All-sifted : (test : Operation → Bool) (parts : List (List Operation)) → AllByRecursion (AscendsFrom 0) parts → AllByRecursion (AscendsFrom 0) (sifted_parts test parts)
All-sifted test [] all = tt
All-sifted test (part ∷ parts) all =
    subst (AllByRecursion (AscendsFrom 0)) (sym (flat_map-cons {X = List Operation} {A = List Operation} (λ p. one_part (filter test p)) part parts))
    (All-append (AscendsFrom 0) (one_part (filter test part)) (sifted_parts test parts)
    (All-one_part (AscendsFrom 0) (filter test part) (ascends-filter test 0 part all.0)) (All-sifted test parts all.1))

pub sorted-sifted : (test : Operation → Bool) (s : Store) → IsSorted s → IsSorted (sifted test s)
sorted-sifted test s ok = record { closed = All-sifted test s.parts ok.closed; last = ascends-filter test 0 s.open_part ok.last }

-- each file of what is below a count ascends
pub files-ascend : (count : ℕ) (s : Store) → IsSorted s → AllByRecursion (AscendsFrom 0) (files_below count s)
files-ascend count s ok =
    All-append (AscendsFrom 0) (sifted_parts (λ op. nat_lt op.seq count) s.parts) (one_part (filter (λ op. nat_lt op.seq count) s.open_part))
    (All-sifted (λ op. nat_lt op.seq count) s.parts ok.closed)
    (All-one_part (AscendsFrom 0) (filter (λ op. nat_lt op.seq count) s.open_part) (ascends-filter (λ op. nat_lt op.seq count) 0 s.open_part ok.last))

pub All-placed : (P : List Operation → Type 0) (k : ℕ) (parts : List (List Operation)) → AllByRecursion P parts
    → AllByRecursion (λ (at : ℕ × List Operation). P at.1) (enumerate_from k parts)
All-placed P k [] all = tt
All-placed P k (part ∷ parts) all = (all.0, All-placed P (k + 1) parts all.1)

pub sorted-merged : (picks : List ℕ) (bound count : ℕ) (s : Store) → ((n : ℕ) → times n (held s) ≤ 1) → IsSorted s → IsSorted (merged picks bound count s)
sorted-merged picks bound count s once ok = record {
  closed =
      let P : ℕ × List Operation → Type 0 = λ at. AscendsFrom 0 at.1 in
      let drops = merge_drops picks bound count s in
      let test : ℕ × List Operation → Bool = λ at. not (is_picked picks at) in
      let placed = enumerate_from 0 s.parts in
      let front = take_while test placed in
      let kept = filter (λ (op : Operation). not (is_among drops op.seq)) (picked_ops picks s.parts) in
      let all : AllByRecursion P placed = All-placed (AscendsFrom 0) 0 s.parts ok.closed in
      All-append (AscendsFrom 0) (parts_at front ++ one_part kept) (parts_at (filter test (drop (length front) placed)))
      (All-append (AscendsFrom 0) (parts_at front) (one_part kept)
      (All-map (AscendsFrom 0) (λ at. at.1) front (All-take P _ placed all))
      (All-one_part (AscendsFrom 0) kept (ascends-filter (λ op. not (is_among drops op.seq)) 0 (picked_ops picks s.parts)
      (ascends-ascending (ops_at (filter (is_picked picks) placed))
      (λ n. let few : times n (held s) ≤ 1 = once n in
      omega (arith, times-chosen (is_picked picks) n placed, ap (times n) (ops_at-placed 0 s.parts), times-append n (in_parts s.parts) s.open_part))))))
      (All-map (AscendsFrom 0) (λ at. at.1) (filter test (drop (length front) placed)) (All-filter P test (drop (length front) placed) (All-drop P (length front) placed all)));
  last = ok.last;
}
