-- Lemmas on sets of numbers: which numbers are in a set after a change, and that it stays in the one form.
use Rattle.std.specs.List.{list_any, range_with_len, fold}
use Rattle.std.specs.Ordering.{nat_cmp}
use Rattle.std.specs.BTreeSet.{insert_key}
use Rattle.std.proofs.Common.{◌≡◌, ℕ, ◌+◌, ◌-◌, ◌<◌, ◌≤◌, ◌==◌, ◌||◌, ◌&&◌, Bool, true, false, not, min, max, if◌then◌else◌, nat_lt, List, [], ◌∷◌, filter, map, refl, ◌∙◌, subst, arith}
use Rattle.std.proofs.lemmas.Bool.Decides.{nat_tests}
use Rattle.ccr_tracker.specs.Numbers.{Numbers, has, marked, risen, kept_below, IsCanonical, AscendsFrom}
use Rattle.ccr_tracker.proofs.Members.{AscendsFrom-lower, AscendsFrom-insert, any_below, any-insert, any-filter, has-risen, one_form}
use Rattle.ccr_model.specs.Copies.{greatest}
use Rattle.ccr_model.specs.LeaderRows.{end_of, missing_numbers}
use Rattle.ccr_law_base.proofs.Cases.{on_if}
use Rattle.ccr_law_base.proofs.Lists.{any-range}
use Rattle.ccr_law_base.proofs.Tests.{and_false}

pub or_false : (b : Bool) → b ≡ (b || false)
or_false true = refl
or_false false = refl

-- ---- the one form

pub canonical-risen : (count low : ℕ) (xs : List ℕ) → AscendsFrom low xs → IsCanonical (risen count xs)
canonical-risen count low [] up = tt
canonical-risen count low (x ∷ xs) up =
    on_if IsCanonical (nat_lt x count) (risen count xs) (if x == count then risen (count + 1) xs else record { count = count; above = x ∷ xs })
    (λ is. canonical-risen count (x + 1) xs up.1)
    (λ isnt. on_if IsCanonical (x == count) (risen (count + 1) xs) (record { count = count; above = x ∷ xs })
    (λ at. canonical-risen (count + 1) (x + 1) xs up.1)
    (λ past. (grind (arith, nat_tests), up.1)))

-- a number above the count and not in the set
pub above_count : (s : Numbers) (n : ℕ) → has s n ≡ false → (n == s.count) ≡ false → s.count + 1 ≤ n
above_count s n out past = grind (arith, nat_tests)

pub canonical-marked : (s : Numbers) (n : ℕ) → IsCanonical s → IsCanonical (marked s n)
canonical-marked s n up =
    on_if IsCanonical (has s n) s (if n == s.count then risen (n + 1) s.above else record s { above = insert_key nat_cmp s.above n })
    (λ is. up)
    (λ isnt. on_if IsCanonical (n == s.count) (risen (n + 1) s.above) (record s { above = insert_key nat_cmp s.above n })
    (λ at. canonical-risen (n + 1) (s.count + 1) s.above up)
    (λ past. AscendsFrom-insert (s.count + 1) n s.above (above_count s n isnt past) up))

pub canonical-marked_all : (s : Numbers) (ns : List ℕ) → IsCanonical s → IsCanonical (fold {A = ℕ} {B = Numbers} marked s ns)
canonical-marked_all s [] up = up
canonical-marked_all s (n ∷ ns) up = canonical-marked_all (marked s n) ns (canonical-marked s n up)

pub ascends-filter : (low n : ℕ) (xs : List ℕ) → AscendsFrom low xs → AscendsFrom low (filter (λ k. nat_lt k n) xs)
ascends-filter low n [] up = tt
ascends-filter low n (x ∷ xs) up =
    on_if (AscendsFrom low) (nat_lt x n) (x ∷ filter (λ k. nat_lt k n) xs) (filter (λ k. nat_lt k n) xs)
    (λ is. (up.0, ascends-filter (x + 1) n xs up.1))
    (λ isnt. AscendsFrom-lower low (x + 1) (filter (λ k. nat_lt k n) xs) (omega (arith, up.0)) (ascends-filter (x + 1) n xs up.1))

pub canonical-kept : (s : Numbers) (n : ℕ) → IsCanonical s → IsCanonical (kept_below s n)
canonical-kept s n up = AscendsFrom-lower (min s.count n + 1) (s.count + 1) (filter (λ k. nat_lt k n) s.above) (omega arith) (ascends-filter (s.count + 1) n s.above up)

-- ---- members

pub has-marked : (s : Numbers) (n k : ℕ) → has (marked s n) k ≡ (has s k || (n == k))
has-marked s n k =
    on_if (λ (t : Numbers). has t k ≡ (has s k || (n == k))) (has s n) s (if n == s.count then risen (n + 1) s.above else record s { above = insert_key nat_cmp s.above n })
    (λ is. old is)
    (λ isnt. on_if (λ (t : Numbers). has t k ≡ (has s k || (n == k))) (n == s.count) (risen (n + 1) s.above) (record s { above = insert_key nat_cmp s.above n })
    (λ at. has-risen (n + 1) s.above k ∙ grind (arith, nat_tests))
    (λ past. rw (any-insert n k s.above) (grind (arith, nat_tests))))
  where
    old : has s n ≡ true → has s k ≡ (has s k || (n == k))
    old is =
        (elim (n == k) as (λ b. (n == k) ≡ b → has s k ≡ (has s k || b)) [
          | true ↦ λ same. let e : n ≡ k = grind (arith, nat_tests) in let at : has s k ≡ true = subst (λ m. has s m ≡ true) e is in rw at refl
          | false ↦ λ other. or_false (has s k)
        ]) refl

pub has-marked_all : (s : Numbers) (ns : List ℕ) (k : ℕ) → has (fold {A = ℕ} {B = Numbers} marked s ns) k ≡ (has s k || list_any (λ n. n == k) ns)
has-marked_all s [] k = or_false (has s k)
has-marked_all s (n ∷ ns) k =
    let rest : has (fold {A = ℕ} {B = Numbers} marked (marked s n) ns) k ≡ (has (marked s n) k || list_any (λ n. n == k) ns) = has-marked_all (marked s n) ns k in
    rest ∙ rw (has-marked s n k) (or_assoc (has s k) (n == k) (list_any (λ n. n == k) ns))
  where
    or_assoc : (a b c : Bool) → ((a || b) || c) ≡ (a || (b || c))
    or_assoc true b c = refl
    or_assoc false b c = refl

pub has-kept : (s : Numbers) (n k : ℕ) → has (kept_below s n) k ≡ (has s k && nat_lt k n)
has-kept s n k = rw (any-filter n k s.above) (grind (arith, nat_tests))

-- ---- counts

-- the count itself is not in the set
pub count_absent : (s : Numbers) → IsCanonical s → has s s.count ≡ false
count_absent s up = let out : list_any (λ j. j == s.count) s.above ≡ false = any_below s.count (s.count + 1) s.above (omega arith) up in grind (arith, nat_tests)

pub has-below : (s : Numbers) (k : ℕ) → k < s.count → has s k ≡ true
has-below s k lt = grind (arith, nat_tests)

pub count_within : (s : Numbers) (bound : ℕ) → ((k : ℕ) → has s k ≡ true → k < bound) → s.count ≤ bound
count_within s bound all =
    let reach : bound < s.count → bound < bound = (λ lt. all bound (has-below s bound lt)) in
    (elim (nat_lt bound s.count) as (λ c. nat_lt bound s.count ≡ c → s.count ≤ bound) [
      | true ↦ λ is. (let lt : bound < s.count = grind (arith, nat_tests) in let no : bound < bound = reach lt in absurd (omega arith))
      | false ↦ λ isnt. grind (arith, nat_tests)
    ]) refl

-- a set that has all numbers below a bound counts as far
pub count_reaches : (s : Numbers) (bound : ℕ) → IsCanonical s → ((k : ℕ) → k < bound → has s k ≡ true) → bound ≤ s.count
count_reaches s bound up all =
    let out : has s s.count ≡ false = count_absent s up in
    let inside : s.count < bound → has s s.count ≡ true = all s.count in
    grind (arith, nat_tests)

-- marks lower no count
pub count-risen : (count : ℕ) (xs : List ℕ) → count ≤ (risen count xs).count
count-risen count [] = omega arith
count-risen count (x ∷ xs) =
    on_if (λ (t : Numbers). count ≤ t.count) (nat_lt x count) (risen count xs) (if x == count then risen (count + 1) xs else record { count = count; above = x ∷ xs })
    (λ is. count-risen count xs)
    (λ isnt. on_if (λ (t : Numbers). count ≤ t.count) (x == count) (risen (count + 1) xs) (record { count = count; above = x ∷ xs })
    (λ at. let more : count + 1 ≤ (risen (count + 1) xs).count = count-risen (count + 1) xs in omega arith)
    (λ past. omega arith))

pub count-marked : (s : Numbers) (n : ℕ) → s.count ≤ (marked s n).count
count-marked s n =
    on_if (λ (t : Numbers). s.count ≤ t.count) (has s n) s (if n == s.count then risen (n + 1) s.above else record s { above = insert_key nat_cmp s.above n })
    (λ is. omega arith)
    (λ isnt. on_if (λ (t : Numbers). s.count ≤ t.count) (n == s.count) (risen (n + 1) s.above) (record s { above = insert_key nat_cmp s.above n })
    (λ at. let more : n + 1 ≤ (risen (n + 1) s.above).count = count-risen (n + 1) s.above in grind (arith, nat_tests))
    (λ past. omega arith))

-- the set of all numbers below a bound
pub all_below : (s : Numbers) (bound : ℕ) → IsCanonical s → ((k : ℕ) → has s k ≡ nat_lt k bound) → s ≡ record { count = bound; above = [] }
all_below s bound up same = one_form s (record { count = bound; above = [] }) up tt (λ k. same k ∙ or_false (nat_lt k bound))

-- ---- the gaps

pub greatest-above : (xs : List ℕ) (k : ℕ) → list_any (λ n. n == k) xs ≡ true → k < greatest (map {A = ℕ} {B = ℕ} (λ n. n + 1) xs)
greatest-above [] k is = cc
greatest-above (x ∷ xs) k is =
    (elim (x == k) as (λ b. (x == k) ≡ b → (b || list_any (λ n. n == k) xs) ≡ true → k < max (x + 1) (greatest (map {A = ℕ} {B = ℕ} (λ n. n + 1) xs))) [
      | true ↦ λ same all. let e : x ≡ k = grind (arith, nat_tests) in omega arith
      | false ↦ λ other all. let rest : k < greatest (map {A = ℕ} {B = ℕ} (λ n. n + 1) xs) = greatest-above xs k all in omega arith
    ]) refl is

-- no number of the set is at its end or above
pub has-end : (s : Numbers) (k : ℕ) → has s k ≡ true → k < end_of s
has-end s k is =
    (elim (nat_lt k s.count) as (λ b. nat_lt k s.count ≡ b → (b || list_any (λ n. n == k) s.above) ≡ true → k < max s.count (greatest (map {A = ℕ} {B = ℕ} (λ n. n + 1) s.above))) [
      | true ↦ λ low all. let lt : k < s.count = grind (arith, nat_tests) in omega arith
      | false ↦ λ high all. let rest : k < greatest (map {A = ℕ} {B = ℕ} (λ n. n + 1) s.above) = greatest-above s.above k all in omega arith
    ]) refl is

pub any-filter_test : (test : ℕ → Bool) (k : ℕ) (xs : List ℕ) → list_any (λ n. n == k) (filter test xs) ≡ (list_any (λ n. n == k) xs && test k)
any-filter_test test k [] = refl
any-filter_test test k (x ∷ xs) =
    let ih : list_any (λ n. n == k) (filter test xs) ≡ (list_any (λ n. n == k) xs && test k) = any-filter_test test k xs in
    on_if (λ (ys : List ℕ). list_any (λ n. n == k) ys ≡ (((x == k) || list_any (λ n. n == k) xs) && test k)) (test x) (x ∷ filter test xs) (filter test xs)
    (λ is. rw ih (picked (x == k) is refl)) (λ isnt. rw ih (left (x == k) isnt refl))
  where
    picked : (b : Bool) → test x ≡ true → (x == k) ≡ b → (b || (list_any (λ n. n == k) xs && test k)) ≡ ((b || list_any (λ n. n == k) xs) && test k)
    picked true is same = let e : x ≡ k = grind (arith, nat_tests) in let at : test k ≡ true = subst (λ m. test m ≡ true) e is in rw at refl
    picked false is other = refl

    left : (b : Bool) → test x ≡ false → (x == k) ≡ b → (list_any (λ n. n == k) xs && test k) ≡ ((b || list_any (λ n. n == k) xs) && test k)
    left true is same = let e : x ≡ k = grind (arith, nat_tests) in let at : test k ≡ false = subst (λ m. test m ≡ false) e is in rw at (and_false (list_any (λ n. n == k) xs))
    left false is other = refl

-- with the numbers that are missing the set has all below its end
pub has-whole : (s : Numbers) (k : ℕ) → has (fold {A = ℕ} {B = Numbers} marked s (missing_numbers s)) k ≡ nat_lt k (end_of s)
has-whole s k =
    has-marked_all s (missing_numbers s) k
    ∙ (rw (any-filter_test (λ n. not (has s n)) k (range_with_len s.count (end_of s - s.count)), any-range s.count (end_of s - s.count) k)
    (by_end (has s k) (has-end s k) (low_in)))
  where
    low_in : has s k ≡ false → s.count ≤ k
    low_in out = grind (arith, nat_tests)

    by_end : (b : Bool) → (b ≡ true → k < end_of s) → (b ≡ false → s.count ≤ k)
        → (b || ((not (nat_lt k s.count) && nat_lt k (s.count + (end_of s - s.count))) && not b)) ≡ nat_lt k (end_of s)
    by_end true inside outside = let lt : k < end_of s = inside refl in grind (arith, nat_tests)
    by_end false inside outside = let le : s.count ≤ k = outside refl in grind (arith, nat_tests)

pub whole : (s : Numbers) → IsCanonical s → fold {A = ℕ} {B = Numbers} marked s (missing_numbers s) ≡ record { count = end_of s; above = [] }
whole s up = all_below (fold {A = ℕ} {B = Numbers} marked s (missing_numbers s)) (end_of s) (canonical-marked_all s (missing_numbers s) up) (has-whole s)
