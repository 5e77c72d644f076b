-- Reads that ascend by the first number that each is for, over their changes.
use Rattle.std.proofs.Common.{◌≡◌, ℕ, ◌≤◌, ◌+◌, ◌-◌, zero, suc, true, List, [], ◌∷◌, ◌++◌, length, set, slice_get, refl, sym, ◌∙◌, ap, arith}
use Rattle.std.specs.List.{AllByRecursion, remove}
use Rattle.std.specs.Option.{option_map_or}
use Rattle.std.proofs.lemmas.Bool.{and_parts, leb-true}
use Rattle.ccr_model.specs.Tasks.{Read, least_from}
use Rattle.ccr_law_base.proofs.Lists.{All-push, All-remove, All-weaker}
use Rattle.ccr_task.specs.Indexed.{AreAscending, begins_by, begins_from, fits_at}

all_by : (reads : List Read) (n : ℕ) → AreAscending reads → begins_by n (slice_get reads (length reads - 1)) ≡ true → AllByRecursion (λ (x : Read). x.from ≤ n) reads
all_by [] n up last = tt
all_by (x ∷ []) n up last = (leb-true x.from n last, tt)
all_by (x ∷ y ∷ reads) n up last =
    let place : suc (suc (length reads)) - 1 ≡ suc (suc (length reads) - 1) = omega arith in
    let rest : AllByRecursion (λ (r : Read). r.from ≤ n) (y ∷ reads) = all_by (y ∷ reads) n up.1 (ap (λ (k : ℕ). begins_by n (slice_get (x ∷ y ∷ reads) k)) (sym place) ∙ last) in
    let next : y.from ≤ n = rest.0 in
    let own : x.from ≤ y.from = up.0.0 in
    (omega arith, rest)

pushed_all : (reads : List Read) (y : Read) → AreAscending reads → AllByRecursion (λ (x : Read). x.from ≤ y.from) reads → AreAscending (reads ++ y ∷ [])
pushed_all [] y up all = (tt, tt)
pushed_all (x ∷ reads) y up all = (All-push (λ (r : Read). x.from ≤ r.from) reads y up.0 all.0, pushed_all reads y up.1 all.1)

pub ascending-push : (reads : List Read) (y : Read) → AreAscending reads → begins_by y.from (slice_get reads (length reads - 1)) ≡ true → AreAscending (reads ++ y ∷ [])
ascending-push reads y up last = pushed_all reads y up (all_by reads y.from up last)

pub ascending-remove : (reads : List Read) (i : ℕ) → AreAscending reads → AreAscending (remove reads i)
ascending-remove [] zero up = tt
ascending-remove [] (suc i) up = tt
ascending-remove (x ∷ reads) zero up = up.1
ascending-remove (x ∷ reads) (suc i) up = (All-remove (λ (r : Read). x.from ≤ r.from) reads i up.0, ascending-remove reads i up.1)

set_all : (n : ℕ) (reads : List Read) (i : ℕ) (y : Read) → AllByRecursion (λ (x : Read). n ≤ x.from) reads → begins_by y.from (slice_get reads i) ≡ true → AllByRecursion (λ (x : Read). n ≤ x.from) (set reads i y)
set_all n [] i y all by = tt
set_all n (x ∷ reads) zero y all by = let le : x.from ≤ y.from = leb-true x.from y.from by in let from : n ≤ x.from = all.0 in (omega arith, all.1)
set_all n (x ∷ reads) (suc i) y all by = (all.0, set_all n reads i y all.1 by)

head_all : (y : Read) (reads : List Read) → AreAscending reads → begins_from y.from (slice_get reads 0) ≡ true → AllByRecursion (λ (x : Read). y.from ≤ x.from) reads
head_all y [] up from = tt
head_all y (z ∷ reads) up from =
    let le : y.from ≤ z.from = leb-true y.from z.from from in
    (le, All-weaker (λ (x : Read). z.from ≤ x.from) (λ (x : Read). y.from ≤ x.from) (λ x h. omega arith) reads up.0)

set_by : (reads : List Read) (i : ℕ) (y : Read) → AreAscending reads → begins_by y.from (slice_get reads i) ≡ true → begins_from y.from (slice_get reads (suc i)) ≡ true → AreAscending (set reads i y)
set_by [] i y up by from = tt
set_by (x ∷ reads) zero y up by from = (head_all y reads up.1 from, up.1)
set_by (x ∷ reads) (suc i) y up by from = (set_all x.from reads i y up.0 by, set_by reads i y up.1 by from)

pub ascending-set : (reads : List Read) (i : ℕ) (y : Read) → AreAscending reads → fits_at reads i y.from ≡ true → AreAscending (set reads i y)
ascending-set reads i y up fits =
    let parts = and_parts (begins_by y.from (slice_get reads i)) (begins_from y.from (slice_get reads (i + 1))) fits in
    let next : i + 1 ≡ suc i = omega arith in
    set_by reads i y up parts.0 (ap (λ (n : ℕ). begins_from y.from (slice_get reads n)) (sym next) ∙ parts.1)

least_over : (n m : ℕ) (reads : List Read) → AllByRecursion (λ (x : Read). n ≤ x.from) reads → n ≤ m → n ≤ least_from m reads
least_over n m [] all le = le
least_over n m (x ∷ reads) all le =
    let rest : n ≤ least_from x.from reads = least_over n x.from reads all.1 all.0 in
    let own : n ≤ x.from = all.0 in
    omega arith

le_self : (n : ℕ) → n ≤ n
le_self n = omega arith

pub least-first : (next : ℕ) (reads : List Read) → AreAscending reads → option_map_or (λ (r : Read). r.from) (slice_get reads 0) next ≡ least_from next reads
least-first next [] up = refl
least-first next (r ∷ reads) up = let over : r.from ≤ least_from r.from reads = least_over r.from r.from reads up.0 (le_self r.from) in omega arith
