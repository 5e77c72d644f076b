-- Five numbers of a world that settling makes smaller, compared from the first on.
use Rattle.std.specs.Prelude.{◌⊎◌, ℕ, ◌+◌, ◌-◌, ◌*◌, ◌<◌, ◌≤◌, Bool, true, false, not, ◌&&◌, ◌||◌, ◌==◌, nat_lt, nat_le, if◌then◌else◌, List, [], ◌∷◌, length, is_none}
use Rattle.std.specs.List.{list_any, range_with_len}
use Rattle.std.specs.Str.{bytes_eq}
use Rattle.ccr_tracker.specs.Numbers.{has}
use Rattle.ccr_lease.specs.Leases.{supersedes}
use Rattle.ccr_wire.specs.Message.{Frame, kind_of_content}
use Rattle.ccr_wire.specs.declared.content.Content.{Content}
use Rattle.ccr_wire.specs.declared.content.Content.TheVariants as contents
use Rattle.ccr_model.specs.Operations.{is_empty}
use Rattle.ccr_model.specs.Copies.{Copy, Replica, Copies}
use Rattle.ccr_model.specs.Requests.{Progress, on_its_way, waiting, held_back, is_sent}
use Rattle.ccr_model.specs.Tasks.{Task, Read, Write}
use Rattle.ccr_model.specs.Restores.{Asked, ChunkAsked, Stage, leasing, opening, fetching, Fetch, answers, places_of}
use Rattle.ccr_model.specs.Leaders.{Session, session_of}
use Rattle.ccr_model.specs.Followers.{Follower, Work, restoring, replicating, uuid_of}
use Rattle.ccr_model.specs.World.{State, goes_to_leader}
use Rattle.ccr_model.specs.Settling.{may_be_answered}

pub record Five : Type 0 where
  pub ranks : ℕ
  pub lacking : ℕ
  pub idle : ℕ
  pub underway : ℕ
  pub leases : ℕ

-- the first number is less, or it is no greater and the rest is below
abbrev pub IsLess : ℕ → ℕ → Type 0 → Type 0
IsLess a b Rest = (a < b) ⊎ ((a ≤ b) × Rest)

abbrev pub IsBelow : Five → Five → Type 0
IsBelow a b = IsLess a.ranks b.ranks (IsLess a.lacking b.lacking (IsLess a.idle b.idle (IsLess a.underway b.underway (a.leases < b.leases))))

-- a sum over a list, and how many of its elements pass a test
abbrev pub total : {X : Type 0} → (X → ℕ) → List X → ℕ
total amount [] = 0
total amount (x ∷ xs) = amount x + total amount xs

abbrev pub passing : {X : Type 0} → (X → Bool) → List X → ℕ
passing test xs = total (λ x. if test x then 1 else 0) xs

-- a sum over the followers from a number on, each with its number
abbrev pub over_followers : (ℕ → Follower → ℕ) → ℕ → List Follower → ℕ
over_followers amount f [] = 0
over_followers amount f (x ∷ followers) = amount f x + over_followers amount (f + 1) followers

-- ---- 1: how far the bootstraps are

-- the session that a message opens, where it opens none that is still there
abbrev pub opens_closed : List Session → Content → Bool
opens_closed sessions (contents.SessionOpened session history count sizes) = is_none (session_of sessions session)
opens_closed sessions _ = false

abbrev pub is_gone : Content → Bool
is_gone (contents.SessionGone session) = true
is_gone _ = false

-- a message in flight answers the follower's request for a session with one that isn't open
abbrev pub is_opened_in_vain : List Frame → List Session → ℕ → Asked → Bool
is_opened_in_vain flight sessions f a =
    list_any (λ m. bytes_eq m.follower (uuid_of f) && answers m a && opens_closed sessions m.content) flight

-- a message in flight answers a request for a part of a file with that its session is gone
abbrev pub is_told_gone : List Frame → ℕ → Fetch → Bool
is_told_gone flight f fetch =
    list_any (λ m. bytes_eq m.follower (uuid_of f) && is_gone m.content && list_any (λ (a : ChunkAsked). (m.request == a.request) && is_sent a.progress) fetch.asks) flight

-- the session that is fetched isn't open, or the follower is about to learn so
abbrev pub is_in_vain : List Frame → List Session → ℕ → Fetch → Bool
is_in_vain flight sessions f fetch = is_none (session_of sessions fetch.session) || is_told_gone flight f fetch

abbrev pub rank_of_stage : List Frame → List Session → ℕ → Stage → ℕ
rank_of_stage flight sessions f (leasing a) = 5
rank_of_stage flight sessions f (opening a) = if is_opened_in_vain flight sessions f a then 4 else 2
rank_of_stage flight sessions f (fetching fetch) = if is_in_vain flight sessions f fetch then 3 else 1

abbrev pub rank_of : List Frame → List Session → ℕ → Work → ℕ
rank_of flight sessions f (restoring r) = rank_of_stage flight sessions f r.stage
rank_of flight sessions f (replicating t) = 0

abbrev pub ranks_of : State → ℕ
ranks_of s = over_followers (λ f own. rank_of s.flight s.leader.sessions f own.work) 0 s.followers

-- ---- 2: what is lacking of a history of so many operations

-- the numbers that a copy hasn't processed, and how far it is from knowing the history's count
abbrev pub copy_lacks : ℕ → Copy → ℕ
copy_lacks count c = passing (λ n. not (has c.seen n)) (range_with_len 0 count) + (count - c.global)

-- besides, how far the primary is from knowing the replica's count, and whether it has to be resynced and acked
abbrev pub replica_lacks : ℕ → Replica → ℕ
replica_lacks count r = copy_lacks count r.copy + (count - r.known) + (if r.resynced then 0 else 1) + (if r.acked then 0 else 1)

abbrev pub copies_lack : ℕ → Copies → ℕ
copies_lack count s = copy_lacks count s.primary + total (replica_lacks count) s.replicas

-- the parts of files that aren't there: those that were not asked for yet, and those that are asked for
abbrev pub stage_lacks : ℕ → Stage → ℕ
stage_lacks chunk_size (leasing a) = 0
stage_lacks chunk_size (opening a) = 0
stage_lacks chunk_size (fetching f) = (length (places_of chunk_size f.sizes) - f.asked) + length f.asks

-- an operation counts 5 as long as it was never asked for, 4 while a read has it, 3 in the buffer and 1 in a write, and each write 1 more;
-- besides, how far the task is from knowing the history's count
abbrev pub task_lacks : ℕ → Task → ℕ
task_lacks count t =
    5 * (count - t.next)
    + 4 * total (λ (r : Read). r.to - r.from) t.reads
    + 3 * length t.buffer
    + total (λ (w : Write). 1 + length w.batch) t.writes
    + (count - t.known)

abbrev pub work_lacks : ℕ → Work → ℕ
work_lacks count (restoring r) = stage_lacks r.chunk_size r.stage
work_lacks count (replicating t) = task_lacks count t

-- where `count_of` tells how many operations each history has
abbrev pub follower_lacks : (List ℕ → ℕ) → ℕ → Follower → ℕ
follower_lacks count_of f s = copies_lack (count_of s.history) s.copies + work_lacks (count_of s.history) s.work

abbrev pub lacking_of : (List ℕ → ℕ) → State → ℕ
lacking_of count_of s = copies_lack (count_of s.leader.history) s.leader.copies + over_followers (follower_lacks count_of) 0 s.followers

-- ---- 3: what passes without bringing anything

-- a message that brings a follower nothing, or that takes a lease away
abbrev pub is_idle_content : Content → Bool
is_idle_content (contents.NotReady copy) = true
is_idle_content (contents.ReadReply from global ops) = is_empty ops
is_idle_content (contents.LeaseRemove id) = true
is_idle_content _ = false

-- the peeks that ask below what was asked for
abbrev pub old_peeks : Work → ℕ
old_peeks (restoring r) = 0
old_peeks (replicating t) = passing (λ (r : Read). (r.from == r.to) && nat_lt r.from t.next) t.reads

abbrev pub idle_of : State → ℕ
idle_of s =
    passing (λ (m : Frame). is_idle_content m.content) s.flight
    + over_followers (λ f own. old_peeks own.work + length own.lease_requests) 0 s.followers

-- ---- 4: what is under way

-- a request that was sent counts where it may be lost; one that waits counts, and less where it is due; so does one that is held back
abbrev pub weight_of_progress : Bool → ℕ → Progress → ℕ
weight_of_progress may_come now on_its_way = if may_come then 0 else 6
weight_of_progress may_come now (waiting until) = if nat_le until now then 4 else 5
weight_of_progress may_come now held_back = 4

abbrev pub weight_of_stage : (ℕ → Bool) → ℕ → Stage → ℕ
weight_of_stage may_come now (leasing a) = weight_of_progress (may_come a.request) now a.progress
weight_of_stage may_come now (opening a) = weight_of_progress (may_come a.request) now a.progress
weight_of_stage may_come now (fetching f) = total (λ (a : ChunkAsked). weight_of_progress (may_come a.request) now a.progress) f.asks

-- a write that was sent counts nothing: it can always be taken
abbrev pub weight_of_work : (ℕ → Bool) → ℕ → Work → ℕ
weight_of_work may_come now (restoring r) = weight_of_stage may_come now r.stage
weight_of_work may_come now (replicating t) =
    total (λ (r : Read). weight_of_progress (may_come r.request) now r.progress) t.reads
    + total (λ (w : Write). weight_of_progress true now w.progress) t.writes

-- a message to the leader counts more than what the leader keeps of it, and this more than the answer
abbrev pub weight_of_frame : Frame → ℕ
weight_of_frame m = if goes_to_leader (kind_of_content m.content) then 3 else 1

abbrev pub underway_of : State → ℕ
underway_of s =
    total weight_of_frame s.flight
    + 2 * length s.leader.polls
    + 2 * length s.leader.kept
    + over_followers (λ f own. weight_of_work (may_be_answered s (uuid_of f)) own.now own.work) 0 s.followers

-- ---- 5: the replicas with old leases

abbrev pub old_leases : Copies → ℕ
old_leases s = passing (λ (r : Replica). supersedes s.primary.leases r.copy.leases) s.replicas

abbrev pub leases_of : State → ℕ
leases_of s = old_leases s.leader.copies + over_followers (λ f own. old_leases own.copies) 0 s.followers

-- ---- the measure

abbrev pub measure : (List ℕ → ℕ) → State → Five
measure count_of s = record {
  ranks = ranks_of s;
  lacking = lacking_of count_of s;
  idle = idle_of s;
  underway = underway_of s;
  leases = leases_of s;
}

abbrev pub IsLower : (List ℕ → ℕ) → State → State → Type 0
IsLower count_of new old = IsBelow (measure count_of new) (measure count_of old)

-- there is no endless descent: what holds of five numbers where it holds of all that are below them holds of all
abbrev pub HasNoEndlessDescent : Type 1
HasNoEndlessDescent = (P : Five → Type 0) → ((x : Five) → ((y : Five) → IsBelow y x → P y) → P x) → (x : Five) → P x
