-- How the polls are kept: each under its age, and beside them for each follower the ages of its polls, and two ordered sets of keys.
use Rattle.std.specs.Prelude.{◌≡◌, ℕ, ◌+◌, ◌<◌, ◌≤◌, ◌==◌, ◌&&◌, Bool, true, false, List, [], ◌∷◌, filter, Option, MatchOption}
use Rattle.std.specs.Bool.{MatchBool}
use Rattle.std.specs.Option.{option_map_or}
use Rattle.std.specs.List.{list_any}
use Rattle.std.specs.Ordering.{nat_cmp, ordering_then}
use Rattle.std.specs.declared.cmp.Ordering.{Ordering}
use Rattle.std.specs.Cmp.Lexicographic.{slice_cmp}
use Rattle.std.specs.Str.{bytes_eq}
use Rattle.std.specs.Map.{lookup, keys_of}
use Rattle.std.specs.BTreeMap.{is_at}
use Rattle.std.specs.declared.collections.VecDeque.{VecDeque}
use Rattle.std.specs.declared.alloc.Global.{Global}
use Rattle.ccr_model.specs.Leaders.{Poll}

-- the ages of a follower's polls, the oldest first
abbrev pub Listed : Type 0
Listed = VecDeque ℕ Global

-- the order of copy, number asked for and age
abbrev pub copy_cmp : ℕ × ℕ × ℕ → ℕ × ℕ × ℕ → Ordering
copy_cmp x y = ordering_then (ordering_then (nat_cmp x.0 y.0) (nat_cmp x.1 y.1)) (nat_cmp x.2 y.2)

-- the order of follower, request and age
abbrev pub request_cmp : List ℕ × ℕ × ℕ → List ℕ × ℕ × ℕ → Ordering
request_cmp x y = ordering_then (ordering_then (slice_cmp nat_cmp x.0 y.0) (nat_cmp x.1 y.1)) (nat_cmp x.2 y.2)

-- the key of a copy is among these
abbrev pub has_copy : List (ℕ × ℕ × ℕ) → ℕ × ℕ × ℕ → Bool
has_copy keys key = list_any (is_at (copy_cmp key)) keys

-- the key of a request is among these
abbrev pub has_request : List (List ℕ × ℕ × ℕ) → List ℕ × ℕ × ℕ → Bool
has_request keys key = list_any (is_at (request_cmp key)) keys

-- the ages that are listed for a follower
abbrev pub ages_in : List (List ℕ × Listed) → List ℕ → List ℕ
ages_in ages follower = option_map_or (λ (listed : Listed). listed.items) (lookup (is_at (slice_cmp nat_cmp follower)) ages) []

-- the ages of a follower's polls
abbrev pub ages_of : List (ℕ × Poll) → List ℕ → List ℕ
ages_of polls follower = keys_of (filter (λ e. bytes_eq e.1.follower follower) polls)

-- the poll of an age is there and passes a test
abbrev pub has_poll : List (ℕ × Poll) → (Poll → Bool) → ℕ → Bool
has_poll polls test age = option_map_or test (lookup (is_at (nat_cmp age)) polls) false

-- the ages ascend, from `low` on and below `next`
abbrev pub AreAges : {X : Type 0} → ℕ → ℕ → List (ℕ × X) → Type 0
AreAges low next [] = Unit {0}
AreAges low next (e ∷ polls) = (low ≤ e.0) × (e.0 < next) × AreAges (e.0 + 1) next polls

-- numbers rise, from `low` on
abbrev pub AreRising : ℕ → List ℕ → Type 0
AreRising low [] = Unit {0}
AreRising low (x ∷ xs) = (low ≤ x) × AreRising (x + 1) xs

-- each index has what the polls have, and nothing else
pub record IsIndexed (polls : List (ℕ × Poll)) (next : ℕ) (ages : List (List ℕ × Listed)) (copies : List (ℕ × ℕ × ℕ)) (requests : List (List ℕ × ℕ × ℕ)) : Type 0 where
  pub ordered : AreAges 0 next polls
  pub listed : (follower : List ℕ) → ages_in ages follower ≡ ages_of polls follower
  pub at_copies : (key : ℕ × ℕ × ℕ) → has_copy copies key ≡ has_poll polls (λ p. (p.copy == key.0) && (p.from == key.1)) key.2
  pub requested : (key : List ℕ × ℕ × ℕ) → has_request requests key ≡ has_poll polls (λ p. bytes_eq p.follower key.0 && (p.request == key.1)) key.2

-- the key of this copy with the least number
pub record IsFirstKey (keys : List (ℕ × ℕ × ℕ)) (copy from age : ℕ) : Type 0 where
  pub there : has_copy keys (copy, from, age) ≡ true
  pub least : (number other : ℕ) → has_copy keys (copy, number, other) ≡ true → from ≤ number

-- no key is of this copy, or this is the first of them
abbrev pub IsLeastKey : List (ℕ × ℕ × ℕ) → ℕ → Option (ℕ × ℕ) → Type 0
IsLeastKey keys copy found = MatchOption found ((from age : ℕ) → has_copy keys (copy, from, age) ≡ false) (λ first. IsFirstKey keys copy first.0 first.1)

-- whether a key is of this request
abbrev pub IsAnyRequest : List (List ℕ × ℕ × ℕ) → List ℕ → ℕ → Bool → Type 0
IsAnyRequest keys follower request found =
    MatchBool found ((age : ℕ) × (has_request keys (follower, request, age) ≡ true)) ((age : ℕ) → has_request keys (follower, request, age) ≡ false)
