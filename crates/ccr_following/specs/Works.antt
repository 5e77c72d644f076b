-- What a follower does, as the model has it, and what becomes of it at each event.
use Rattle.std.specs.Prelude.{◌≡◌, ℕ, ◌+◌, ◌<◌, min, Bool, true, false, ◌&&◌, if◌then◌else◌, List, [], ◌∷◌, slice_get, Option, Some, None}
use Rattle.std.specs.Option.{option_map}
use Rattle.std.specs.List.{AllByRecursion}
use Rattle.ccr_op.specs.Operation.{Operation}
use Rattle.ccr_wire.specs.Message.{Frame}
use Rattle.ccr_wire.specs.declared.content.Content.{Content}
use Rattle.ccr_wire.specs.declared.content.Content.TheVariants as contents
use Rattle.ccr_journal.specs.declared.params.ParamValues.{ParamValues}
use Rattle.ccr_journal.specs.declared.sides.Phase.TheVariants as phases
use Rattle.ccr_model.specs.Operations.{is_empty}
use Rattle.ccr_model.specs.Requests.{Sending, quiet}
use Rattle.ccr_model.specs.Tasks.{Task, Read, Write, is_active, least_from, never_started, read_lost, sent_reads, started, stopped, ticked, write_ended, write_lost, write_sent}
use Rattle.ccr_model.specs.Restores.{Restore, restore_lost, restore_ticked, sent_requests}
use Rattle.ccr_model.specs.Followers.{Work, restoring, replicating}
use Rattle.ccr_model.specs.FrameFacts.{next_request_of}
use Rattle.ccr_model.specs.FollowerRows.{Sent, is_paused, sent_write}
use Rattle.ccr_following.specs.declared.work.Work.{Work as Doing}
use Rattle.ccr_following.specs.declared.work.Work.TheVariants.{Restoring, Replicating}

abbrev pub work_of : Doing → Work
work_of (Restoring r) = restoring r
work_of (Replicating t) = replicating t

-- a work after a step, and what the step told
pub record Stepped (X : Type 0) : Type 0 where
  pub next : Work
  pub told : X

-- ---- losses and retries

abbrev pub request_lost : Restore → ℕ → Option ℕ → Stepped Bool
request_lost r now None = record { next = restoring r; told = false }
request_lost r now (Some request) = record { next = restoring (restore_lost r now request); told = true }

abbrev pub read_lost_if : Task → ℕ → Option Read → Stepped Bool
read_lost_if t now None = record { next = replicating t; told = false }
read_lost_if t now (Some r) = record { next = replicating (read_lost t now r); told = true }

-- the request at this place among the sent ones is lost, if there is one
abbrev pub lost_at : ℕ → ℕ → Work → Stepped Bool
lost_at now at (restoring r) = request_lost r now (slice_get (sent_requests r.stage) at)
lost_at now at (replicating t) = read_lost_if t now (slice_get (sent_reads t) at)

-- what is due is sent again
abbrev pub work_ticked : ℕ → Work → Stepped (List Frame)
work_ticked now (restoring r) = record { next = restoring (restore_ticked now r).next; told = (restore_ticked now r).sent }
work_ticked now (replicating t) = record { next = replicating (ticked now t).next; told = (ticked now t).sent }

-- ---- writes

abbrev pub write_lost_if : Task → ℕ → Option Write → Stepped Bool
write_lost_if t now None = record { next = replicating t; told = false }
write_lost_if t now (Some w) = record { next = replicating (write_lost t now w); told = true }

-- the write of this number is lost, if it was sent
abbrev pub lost_write : ℕ → ℕ → Work → Stepped Bool
lost_write now number (restoring r) = record { next = restoring r; told = false }
lost_write now number (replicating t) = write_lost_if t now (write_sent t number)

-- the batch of a write that was sent
abbrev pub batch_of : Work → ℕ → Option (List Operation)
batch_of work number = option_map {T = Sent} {U = List Operation} (λ w. w.write.batch) (sent_write work number)

abbrev pub write_ended_if : Task → Option Write → Stepped (Option (List Frame))
write_ended_if t None = record { next = replicating t; told = None }
write_ended_if t (Some w) = record { next = replicating (write_ended t w).next; told = Some (write_ended t w).sent }

-- the write of this number is over, if it was sent
abbrev pub ended_write : ℕ → Work → Stepped (Option (List Frame))
ended_write number (restoring r) = record { next = restoring r; told = None }
ended_write number (replicating t) = write_ended_if t (write_sent t number)

-- ---- lease requests, pauses and restarts

-- the task asks this under its next request number
abbrev pub asks : Task → Content → Stepped (Option Frame)
asks t content = record {
  next = replicating (record t { next_request = t.next_request + 1 });
  told = Some (record { follower = t.follower; request = t.next_request; content = content });
}

-- it stays as it is and asks nothing
abbrev pub asks_nothing : Work → Stepped (Option Frame)
asks_nothing work = record { next = work; told = None }

-- an active task asks to renew the lease for what is still needed
abbrev pub renews : List ℕ → ℕ → Work → Stepped (Option Frame)
renews lease global (restoring r) = asks_nothing (restoring r)
renews lease global (replicating t) =
    if is_active t.phase then asks t (contents.LeaseRenew lease (min global (least_from t.next t.reads))) else asks_nothing (replicating t)

-- a task that isn't active follows no more, and asks to remove the lease
abbrev pub unfollows : List ℕ → Work → Stepped (Option Frame)
unfollows lease (restoring r) = asks_nothing (restoring r)
unfollows lease (replicating t) =
    if is_active t.phase then asks_nothing (replicating t) else asks (record t { phase = phases.Unfollowed }) (contents.LeaseRemove lease)

-- an active task is paused; a bootstrap can't be
abbrev pub pauses : Work → Stepped Bool
pauses (restoring r) = record { next = restoring r; told = false }
pauses (replicating t) = record { next = replicating (if is_active t.phase then stopped phases.Paused t else t); told = true }

abbrev pub is_active_work : Work → Bool
is_active_work (restoring r) = false
is_active_work (replicating t) = is_active t.phase

-- the bootstrap is over, and nothing is to be written
abbrev pub is_idle_work : Work → Bool
is_idle_work (restoring r) = false
is_idle_work (replicating t) = is_empty t.buffer && is_empty t.writes

abbrev pub is_paused_work : Work → Bool
is_paused_work (restoring r) = false
is_paused_work (replicating t) = is_paused t.phase

abbrev pub follower_of : Work → List ℕ
follower_of (restoring r) = r.follower
follower_of (replicating t) = t.follower

abbrev pub history_of : Work → List ℕ
history_of (restoring r) = r.history
history_of (replicating t) = t.history

-- a task begins an epoch in place of a work, and reads a history from a count on
abbrev pub begins : ParamValues → ℕ → ℕ → List ℕ → Work → Stepped (List Frame)
begins params count epoch history work =
    let begun : Sending Task = started params count epoch history (follower_of work) (next_request_of work) in
    record { next = replicating begun.next; told = begun.sent }

-- a task that never began stands in place of a work
abbrev pub ended : ParamValues → Work → Work
ended params work = replicating (never_started params (history_of work) (follower_of work) (next_request_of work) phases.History)

-- ---- request numbers

-- the requests that stand were drawn: each is below the next number, and in the bootstrap none stands
abbrev pub AreDrawn : Work → List ℕ → Type 0
AreDrawn (restoring r) requests = requests ≡ []
AreDrawn (replicating t) requests = AllByRecursion (λ (n : ℕ). n < t.next_request) requests
