-- What a follower has outstanding: a bootstrap always has a request that is sent or waits to be sent again, and a task that was stopped has nothing left but its writes.
use Rattle.std.specs.Prelude.{◌≡◌, ℕ, ◌≤◌, Bool, true, false, List, [], length, slice_get, Some}
use Rattle.std.specs.List.{AllByRecursion}
use Rattle.ccr_journal.specs.declared.events.Event.{Event}
use Rattle.ccr_model.specs.Requests.{Progress, on_its_way, waiting, held_back}
use Rattle.ccr_model.specs.Tasks.{Task, Write, is_active}
use Rattle.ccr_model.specs.Restores.{Stage, leasing, opening, fetching, Fetch, ChunkAsked, places_of}
use Rattle.ccr_model.specs.Leaders.{Start}
use Rattle.ccr_model.specs.Followers.{Follower, Work, restoring, replicating}
use Rattle.ccr_model.specs.World.{State, start_state}
use Rattle.ccr_model.specs.Step.{step}

abbrev pub is_held_back : Progress → Bool
is_held_back on_its_way = false
is_held_back (waiting until) = false
is_held_back held_back = true

-- a fetch waits for some part, has asked for no more parts than there are, and holds no request back
pub record IsFetchPending (chunk_size : ℕ) (f : Fetch) : Type 0 where
  pub some : 1 ≤ length f.asks
  pub parts : f.asked ≤ length (places_of chunk_size f.sizes)
  pub asks : AllByRecursion (λ (a : ChunkAsked). is_held_back a.progress ≡ false) f.asks

abbrev pub IsStagePending : ℕ → Stage → Type 0
IsStagePending chunk_size (leasing a) = is_held_back a.progress ≡ false
IsStagePending chunk_size (opening a) = is_held_back a.progress ≡ false
IsStagePending chunk_size (fetching f) = IsFetchPending chunk_size f

-- no write is held back; where the task isn't active, it has no reads and an empty buffer
pub record IsTaskPending (t : Task) : Type 0 where
  pub writes : AllByRecursion (λ (w : Write). is_held_back w.progress ≡ false) t.writes
  pub reads : is_active t.phase ≡ false → t.reads ≡ []
  pub buffer : is_active t.phase ≡ false → t.buffer ≡ []

abbrev pub IsWorkPending : Work → Type 0
IsWorkPending (restoring r) = IsStagePending r.chunk_size r.stage
IsWorkPending (replicating t) = IsTaskPending t

abbrev pub HasPending : State → Type 0
HasPending s = (f : ℕ) (own : Follower) → slice_get s.followers f ≡ Some own → IsWorkPending own.work

abbrev pub PendingStart : Type 0
PendingStart = (start : Start) → HasPending (start_state start)

abbrev pub PendingKeep : Type 0
PendingKeep = (s : State) (event : Event) (picks : List ℕ) → HasPending s → HasPending (step s event picks).next
