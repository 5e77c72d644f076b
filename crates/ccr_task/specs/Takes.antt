-- What a task makes of a message.
use Rattle.std.specs.Prelude.{◌≡◌, Option, Some, None}
use Rattle.ccr_wire.specs.declared.content.Content.{Content}
use Rattle.ccr_wire.specs.declared.content.Content.TheVariants as contents
use Rattle.ccr_journal.specs.declared.sides.Phase.TheVariants as phases
use Rattle.ccr_model.specs.Requests.{Sending}
use Rattle.ccr_model.specs.Tasks.{Task, Read, stopped, after_reply, filled_if_active}
use Rattle.ccr_task.specs.declared.task.Taken.{Taken}
use Rattle.ccr_task.specs.declared.task.Taken.TheVariants as takens
use Rattle.ccr_task.specs.declared.task.Stopped.TheVariants as stops

-- it leaves the task as it is
abbrev pub Ignores : Task → Taken → Task → Type 0
Ignores t taken new = (taken ≡ takens.Ignored) × (new ≡ t)

-- By the read that was sent under the message's number: a reply is kept, and what is asked for then is told; that the
-- operations are gone, or that the history is another, stops the task; everything else is ignored.
abbrev pub Takes : Task → Content → Option Read → Taken → Task → Type 0
Takes t content None taken new = Ignores t taken new
Takes t (contents.ReadReply from global ops) (Some r) taken new =
    let done : Sending Task = filled_if_active (after_reply t r global ops) in
    (taken ≡ takens.Kept done.sent) × (new ≡ done.next)
Takes t (contents.ReadMissing from floor) (Some r) taken new =
    (taken ≡ takens.Stopped (stops.Missing from floor)) × (new ≡ stopped phases.Missing (record t { retry = 0 }))
Takes t (contents.ReadHistory history) (Some r) taken new =
    (taken ≡ takens.Stopped (stops.HistoryChanged history)) × (new ≡ stopped phases.History (record t { retry = 0 }))
Takes t _ (Some r) taken new = Ignores t taken new
