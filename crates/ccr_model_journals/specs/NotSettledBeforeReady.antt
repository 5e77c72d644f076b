-- A world is not settled before its leader is ready.
use Rattle.std.specs.Prelude.{List, [], ◌∷◌}
use Rattle.ccr_journal.specs.declared.sides.Side.TheVariants as sides
use Rattle.ccr_journal.specs.declared.events.Event.TheVariants as events
use Rattle.ccr_journal.specs.declared.journals.Entry.{Entry}
use Rattle.ccr_journal.specs.declared.replies.Refusal.TheVariants as refusals
use Rattle.ccr_journal.specs.declared.replies.Reply.TheVariants as replies
use Rattle.ccr_model.specs.Leaders.{Start}
use Rattle.ccr_model_journals.specs.Words.{begun, entry}

abbrev pub not_settled_before_ready_start : Start
not_settled_before_ready_start = begun 3 7 43200000 0

abbrev pub not_settled_before_ready_entries : List Entry
not_settled_before_ready_entries =
    entry events.Settle replies.Settled ∷
    entry (events.Promote sides.Leader 1) (replies.Promoted 2 0) ∷
    entry events.Settle (replies.Refused refusals.NotSettled) ∷
    entry (events.Resync 2) (replies.Resynced 0 0) ∷
    entry events.Settle (replies.Refused refusals.NotSettled) ∷
    entry (events.Ack sides.Leader 2) (replies.Acked 0) ∷
    entry events.Settle replies.Settled ∷
    []
