-- A set of numbers, kept as its least absent number and the numbers above that.
use Rattle.std.specs.Prelude.{◌≡◌, ℕ, ◌+◌, ◌-◌, ◌^◌, ◌<◌, ◌≤◌, ◌==◌, ◌||◌, Bool, true, false, nat_lt, min, max, List, [], ◌∷◌, filter, map, if◌then◌else◌, Option, Some, None}
use Rattle.std.specs.List.{list_any}
use Rattle.std.specs.Ordering.{nat_cmp}
use Rattle.std.specs.BTreeSet.{insert_key}

pub record Numbers : Type 0 where
  pub count : ℕ
  pub above : List ℕ

-- the numbers of the set: those below the count, and those above it
abbrev pub has : Numbers → ℕ → Bool
has s n = nat_lt n s.count || list_any (λ k. k == n) s.above

-- the empty set
abbrev pub no_numbers : Numbers
no_numbers = record { count = 0; above = [] }

-- the list ascends, and begins at `low` or above
abbrev pub AscendsFrom : ℕ → List ℕ → Type 0
AscendsFrom low [] = Unit {0}
AscendsFrom low (x ∷ xs) = (low ≤ x) × AscendsFrom (x + 1) xs

-- the one form of each set: the numbers above the count ascend and leave it out
abbrev pub IsCanonical : Numbers → Type 0
IsCanonical s = AscendsFrom (s.count + 1) s.above

-- `count` is the least number that the test does not hold of
pub record IsLeastAbsent (test : ℕ → Bool) (count : ℕ) : Type 0 where
  pub absent : test count ≡ false
  pub below : (k : ℕ) → k < count → test k ≡ true

-- a number above the least absent one is in the set
abbrev pub HasGap : Numbers → Type 0
HasGap s = (n : ℕ) × (s.count < n) × (has s n ≡ true)

-- the set of all numbers below `count` and those of an ascending list
abbrev pub risen : ℕ → List ℕ → Numbers
risen count [] = record { count = count; above = [] }
risen count (x ∷ xs) =
    if nat_lt x count then risen count xs
    else if x == count then risen (count + 1) xs
    else record { count = count; above = x ∷ xs }

-- the set with n
abbrev pub marked : Numbers → ℕ → Numbers
marked s n =
    if has s n then s
    else if n == s.count then risen (n + 1) s.above
    else record s { above = insert_key nat_cmp s.above n }

-- the set with all numbers below n
abbrev pub filled_below : Numbers → ℕ → Numbers
filled_below s n = risen (max s.count n) s.above

-- the set without n and the numbers above it
abbrev pub kept_below : Numbers → ℕ → Numbers
kept_below s n = record { count = min s.count n; above = filter (λ k. nat_lt k n) s.above }

-- the greatest of the numbers, and 0 where there is none
abbrev pub greatest : List ℕ → ℕ
greatest [] = 0
greatest (n ∷ ns) = max n (greatest ns)

-- the greatest number of the set and one more, and 0 where it has none
abbrev pub end_of : Numbers → ℕ
end_of s = greatest (s.count ∷ map {A = ℕ} {B = ℕ} (λ n. n + 1) s.above)

-- the test holds of no number from `end` on, and of the number before it
pub record IsEnd (test : ℕ → Bool) (end : ℕ) : Type 0 where
  pub above : (k : ℕ) → end ≤ k → test k ≡ false
  pub reached : (k : ℕ) → end ≡ k + 1 → test k ≡ true

-- the least number that the first test holds of and the second does not: none where the second holds of each
abbrev pub IsFirstLacking : (ℕ → Bool) → (ℕ → Bool) → Option ℕ → Type 0
IsFirstLacking from held None = (k : ℕ) → from k ≡ true → held k ≡ true
IsFirstLacking from held (Some n) = (from n ≡ true) × (held n ≡ false) × ((k : ℕ) → k < n → from k ≡ true → held k ≡ true)

-- the test holds of each number from `from` on and below `to`
abbrev pub HoldsBetween : (ℕ → Bool) → ℕ → ℕ → Type 0
HoldsBetween test from to = (k : ℕ) → from ≤ k → k < to → test k ≡ true

-- two sets in the one form that have the same numbers are equal
abbrev pub OneForm : Type 0
OneForm = (a b : Numbers) → IsCanonical a → IsCanonical b → ((k : ℕ) → has a k ≡ has b k) → a ≡ b
