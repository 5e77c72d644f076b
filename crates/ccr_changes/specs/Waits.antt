-- Which reads wait at a copy.
use Rattle.std.specs.Prelude.{◌≡◌, ℕ, ◌≤◌, ◌==◌, ◌&&◌, Bool, true, List, slice_get, Some}
use Rattle.std.specs.List.{AllByRecursion}
use Rattle.std.specs.Str.{bytes_eq}
use Rattle.ccr_model.specs.Leaders.{Poll, polls_of}
use Rattle.ccr_changes.specs.declared.polls.Least.{Least}

-- the poll waits at this copy
abbrev pub waits_at : ℕ → Poll → Bool
waits_at copy p = p.copy == copy

-- the poll waits for the answer to this request of this follower
abbrev pub waits_for : List ℕ → ℕ → Poll → Bool
waits_for follower request p = bytes_eq p.follower follower && (p.request == request)

-- where it waits at this copy, its `from` isn't below this number
abbrev pub IsFromAbove : ℕ → ℕ → Poll → Type 0
IsFromAbove copy least p = waits_at copy p ≡ true → least ≤ p.from

-- the place is that of a poll at this copy among its follower's, with this `from`, and no poll at this copy has a lesser one
pub record IsLeastAt (copy : ℕ) (polls : List Poll) (found : Least) : Type 0 where
  pub poll : Poll
  pub there : slice_get (polls_of polls found.follower) found.at ≡ Some poll
  pub here : waits_at copy poll ≡ true
  pub number : poll.from ≡ found.from
  pub least : AllByRecursion (IsFromAbove copy found.from) polls
