-- How the reads are kept: in the order in which they were begun, and beside them the request numbers of those that were sent, in ascending
-- order.
use Rattle.std.specs.Prelude.{◌≡◌, ℕ, ◌+◌, ◌≤◌, ◌<◌, ◌==◌, ◌&&◌, Bool, true, nat_lt, nat_le, slice_index, slice_get, if◌then◌else◌, List, [], ◌∷◌, length, filter, filter_map, map, Option, Some, None}
use Rattle.std.specs.List.{AllByRecursion}
use Rattle.ccr_model.specs.Settling.{time_of, least_of}
use Rattle.ccr_model.specs.Tasks.{Read, is_held}
use Rattle.ccr_task.specs.Ordering.{sent_under}

-- so many reads have this request number
abbrev pub numbered : ℕ → List Read → ℕ
numbered request reads = length (filter (λ (r : Read). r.request == request) reads)

-- so often the number is among these
abbrev pub times : ℕ → List ℕ → ℕ
times n numbers = length (filter (λ (m : ℕ). m == n) numbers)

-- numbers rise, from `low` on and below `high`
abbrev pub AreRising : ℕ → List ℕ → ℕ → Type 0
AreRising low [] high = low ≤ high
AreRising low (n ∷ numbers) high = (low ≤ n) × AreRising (n + 1) numbers high

-- the number stands at this place
pub record IsThere (n : ℕ) (numbers : List ℕ) (i : ℕ) : Type 0 where
  pub within : i < length numbers
  pub here : slice_index numbers i ≡ n

-- a number is not among these any more
pub record IsUnlisted (n : ℕ) (old new : List ℕ) (high : ℕ) : Type 0 where
  pub rising : AreRising 0 new high
  pub without : (m : ℕ) → times m new ≡ (if n == m then 0 else times m old)

-- No two reads have the same request number, and each has one below the next; the numbers of those that were sent, and of no others, are
-- listed once and rise; and those that are held are counted.
pub record IsIndexed (next_request : ℕ) (reads : List Read) (sent : List ℕ) (held : ℕ) : Type 0 where
  pub apart : (request : ℕ) → numbered request reads ≤ (if nat_lt request next_request then 1 else 0)
  pub rising : AreRising 0 sent next_request
  pub listed : (request : ℕ) → times request sent ≡ sent_under request reads
  pub counted : held ≡ length (filter is_held reads)

-- the reads ascend by the first number that each is for
abbrev pub AreAscending : List Read → Type 0
AreAscending [] = Unit {0}
AreAscending (r ∷ reads) = AllByRecursion (λ (x : Read). r.from ≤ x.from) reads × AreAscending reads

-- a read, if there is one, is from no more than this number on, or from no less
abbrev pub begins_by : ℕ → Option Read → Bool
begins_by from None = true
begins_by from (Some r) = nat_le r.from from

abbrev pub begins_from : ℕ → Option Read → Bool
begins_from from None = true
begins_from from (Some r) = nat_le from r.from

-- a read at a place may be from this number on
abbrev pub fits_at : List Read → ℕ → ℕ → Bool
fits_at reads place from = begins_by from (slice_get reads place) && begins_from from (slice_get reads (place + 1))

-- the earliest time until which a read waits
abbrev pub soonest_of : List Read → Option ℕ
soonest_of reads = least_of (filter_map time_of (map (λ (r : Read). r.progress) reads))

-- what is kept beside the reads: their index, whether they are known to ascend, and the earliest time where that is known
pub record IsKept (next_request : ℕ) (reads : List Read) (sent : List ℕ) (held : ℕ) (ascends timed : Bool) (soonest : Option ℕ) : Type 0 where
  pub indexed : IsIndexed next_request reads sent held
  pub ascending : ascends ≡ true → AreAscending reads
  pub earliest : timed ≡ true → soonest ≡ soonest_of reads
