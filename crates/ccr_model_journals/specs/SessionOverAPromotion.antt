-- A session ends with a promotion, and its number is not used again.
use Rattle.std.specs.Prelude.{true, false, List, [], ◌∷◌, Some, None, codes}
use Rattle.ccr_journal.specs.declared.sides.Side.TheVariants as sides
use Rattle.ccr_journal.specs.declared.events.Event.TheVariants as events
use Rattle.ccr_journal.specs.declared.journals.Entry.{Entry}
use Rattle.ccr_journal.specs.declared.replies.Heard.TheVariants as heard
use Rattle.ccr_journal.specs.declared.replies.Reply.TheVariants as replies
use Rattle.ccr_journal.specs.declared.replies.WriteResult.TheVariants as written
use Rattle.ccr_model.specs.Leaders.{Start}
use Rattle.ccr_model_journals.specs.Words.{begun, entry, params, request, wrote}

abbrev pub session_over_a_promotion_start : Start
session_over_a_promotion_start = begun 2 7 1000000 0

abbrev pub session_over_a_promotion_entries : List Entry
session_over_a_promotion_entries =
    entry (events.Write (request (codes "a") None (Some (codes "{\"n\":1}")) false None)) (replies.Written (wrote 0 1 1 written.Created)) ∷
    entry (events.Write (request (codes "b") None (Some (codes "{\"n\":1}")) false None)) (replies.Written (wrote 1 1 1 written.Created)) ∷
    entry (events.Replicate sides.Leader 1 0) replies.Done ∷
    entry (events.Ack sides.Leader 1) (replies.Acked 1) ∷
    entry (events.Sync sides.Leader 1) replies.Done ∷
    entry (events.Follow (params 3 1000 2 3 1000 1 4 1000 100 50 64) 1 (codes "n")) replies.Done ∷
    entry (events.Deliver 0 0 false) (replies.Heard (heard.Waiting 1)) ∷
    entry (events.Sync sides.Leader 1) replies.Done ∷
    entry (events.Deliver 0 0 false) (replies.Heard heard.Done) ∷
    entry (events.Promote sides.Leader 1) (replies.Promoted 2 0) ∷
    entry (events.AddCopy sides.Leader) (replies.Added 2) ∷
    entry (events.Write (request (codes "c") None (Some (codes "{\"n\":1}")) false None)) (replies.Written (wrote 1 2 1 written.Created)) ∷
    entry (events.Deliver 0 1 false) (replies.Heard heard.Done) ∷
    entry (events.Deliver 0 1 false) (replies.Heard heard.Done) ∷
    entry (events.Clock sides.Leader 50000) replies.Done ∷
    entry (events.Deliver 0 1 true) (replies.Heard heard.Done) ∷
    entry (events.Clock sides.Leader 100000) replies.Done ∷
    entry events.CloseSessions (replies.Closed 0) ∷
    entry (events.Replicate sides.Leader 2 1) replies.Done ∷
    entry (events.Ack sides.Leader 2) (replies.Acked 2) ∷
    entry (events.Promote sides.Leader 2) (replies.Promoted 3 0) ∷
    entry (events.Deliver 0 2 false) (replies.Heard heard.Gone) ∷
    entry (events.AddCopy sides.Leader) (replies.Added 3) ∷
    entry (events.Promote sides.Leader 3) (replies.Promoted 4 0) ∷
    entry (events.Lose 0 0) replies.Done ∷
    []
