-- What a follower's work makes of a message.
use Rattle.std.specs.Prelude.{ℕ, Bool, if◌then◌else◌, List, [], Option, Some, None}
use Rattle.ccr_wire.specs.Message.{Frame}
use Rattle.ccr_wire.specs.declared.content.Content.{Content}
use Rattle.ccr_wire.specs.declared.content.Content.TheVariants as contents
use Rattle.ccr_journal.specs.declared.sides.Phase.TheVariants as phases
use Rattle.ccr_journal.specs.declared.replies.Heard.{Heard as Answered}
use Rattle.ccr_journal.specs.declared.replies.Heard.TheVariants as heard
use Rattle.ccr_model.specs.Requests.{Sending}
use Rattle.ccr_model.specs.Tasks.{Task, Read, after_reply, filled_if_active, read_sent, stopped}
use Rattle.ccr_model.specs.Restores.{Restore, ends_restore, restore_hears}
use Rattle.ccr_model.specs.Followers.{Work, restoring, replicating}
use Rattle.ccr_restore.specs.Finishing.{has_all}
use Rattle.ccr_following.specs.Works.{Stepped}
use Rattle.ccr_following.specs.declared.hearing.Hearing.{Hearing}
use Rattle.ccr_following.specs.declared.hearing.Hearing.TheVariants.{GoesOn, Ended, Fetched}

-- it answers nothing that was asked
abbrev pub ignores : Work → Stepped Hearing
ignores work = record { next = work; told = GoesOn heard.Ignored [] }

-- the bootstrap after a message: it has all parts of the files, or goes on
abbrev pub restore_goes : Restore → Option (Sending Restore) → Stepped Hearing
restore_goes r None = ignores (restoring r)
restore_goes r (Some done) = record { next = restoring done.next; told = if has_all done.next then Fetched else GoesOn heard.Done done.sent }

-- a session of another history ends the bootstrap
abbrev pub restore_heard_by : ℕ → Frame → Restore → Stepped Hearing
restore_heard_by now m r = if ends_restore r m then record { next = restoring r; told = Ended } else restore_goes r (restore_hears r now m)

-- what the bootstrap made of a message, by what it heard, and whether it has all parts of the files then
abbrev pub hearing_of : Answered → Bool → List Frame → Hearing
hearing_of heard.StoppedHistory complete sent = Ended
hearing_of heard.Done complete sent = if complete then Fetched else GoesOn heard.Done sent
hearing_of other complete sent = GoesOn other sent

-- the task after an answer to a read that was sent
abbrev pub read_goes : Task → Content → Option Read → Stepped Hearing
read_goes t content None = ignores (replicating t)
read_goes t (contents.ReadReply from global ops) (Some r) =
    let done : Sending Task = filled_if_active (after_reply t r global ops) in
    record { next = replicating done.next; told = GoesOn heard.Done done.sent }
read_goes t (contents.ReadMissing from floor) (Some r) = record { next = replicating (stopped phases.Missing (record t { retry = 0 })); told = GoesOn heard.StoppedMissing [] }
read_goes t (contents.ReadHistory history) (Some r) = record { next = replicating (stopped phases.History (record t { retry = 0 })); told = GoesOn heard.StoppedHistory [] }
read_goes t _ (Some r) = ignores (replicating t)

abbrev pub work_heard_by : ℕ → Frame → Work → Stepped Hearing
work_heard_by now m (restoring r) = restore_heard_by now m r
work_heard_by now m (replicating t) = read_goes t m.content (read_sent t m.request)
