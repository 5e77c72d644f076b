-- A set of numbers as its ranges: of each the first number, and the first one after it.
use Rattle.std.specs.Prelude.{◌≡◌, ℕ, zero, suc, ◌+◌, ◌-◌, ◌<◌, ◌≤◌, ◌==◌, ◌&&◌, Bool, false, not, nat_lt, List, [], ◌∷◌, ◌++◌, if◌then◌else◌}
use Rattle.std.specs.List.{list_any}
use Rattle.ccr_tracker.specs.Numbers.{HoldsBetween}

-- the number lies in the range
abbrev pub is_within : ℕ × ℕ → ℕ → Bool
is_within r k = not (nat_lt k r.0) && nat_lt k r.1

-- the number lies in one of the ranges
abbrev pub covers : List (ℕ × ℕ) → ℕ → Bool
covers rs k = list_any (λ r. is_within r k) rs

-- so many numbers, from `first` on
abbrev pub run_of : ℕ → ℕ → List ℕ
run_of first zero = []
run_of first (suc count) = first ∷ run_of (first + 1) count

-- the numbers of all ranges, in order
abbrev pub numbers_of : List (ℕ × ℕ) → List ℕ
numbers_of [] = []
numbers_of (r ∷ rs) = run_of r.0 (r.1 - r.0) ++ numbers_of rs

-- no range is empty, and they ascend with a gap before each but the first, which begins at `low` or above
abbrev pub AreApart : ℕ → List (ℕ × ℕ) → Type 0
AreApart low [] = Unit {0}
AreApart low (r ∷ rs) = (low ≤ r.0) × (r.0 < r.1) × AreApart (r.1 + 1) rs

-- where the range that ends at n begins, and n where none ends there
abbrev pub start_of : List (ℕ × ℕ) → ℕ → ℕ
start_of [] n = n
start_of (r ∷ rs) n = if r.1 == n then r.0 else start_of rs n

-- where the range that begins at n ends, and n where none begins there
abbrev pub end_from : List (ℕ × ℕ) → ℕ → ℕ
end_from [] n = n
end_from (r ∷ rs) n = if r.0 == n then r.1 else end_from rs n

-- `next` is the least number from n on that the test does not hold of
pub record IsNextAbsent (test : ℕ → Bool) (n next : ℕ) : Type 0 where
  pub reached : n ≤ next
  pub absent : test next ≡ false
  pub held : HoldsBetween test n next

-- the range is the last one that begins at n or below
pub record IsBefore (rs : List (ℕ × ℕ)) (n : ℕ) (r : ℕ × ℕ) : Type 0 where
  pub begins : r.0 ≤ n
  pub ordered : r.0 < r.1
  pub held : HoldsBetween (covers rs) r.0 r.1
  pub absent : covers rs r.1 ≡ false
  pub past : r.1 ≤ n → covers rs n ≡ false
  pub start : start_of rs n ≡ (if r.1 == n then r.0 else n)
