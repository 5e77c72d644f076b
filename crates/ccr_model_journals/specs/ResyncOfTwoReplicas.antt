-- Two replicas are resynced after a promotion.
use Rattle.std.specs.Prelude.{false, List, [], ◌∷◌, Some, None, codes}
use Rattle.ccr_journal.specs.declared.sides.Side.TheVariants as sides
use Rattle.ccr_journal.specs.declared.events.Event.TheVariants as events
use Rattle.ccr_journal.specs.declared.journals.Entry.{Entry}
use Rattle.ccr_journal.specs.declared.replies.Reply.TheVariants as replies
use Rattle.ccr_journal.specs.declared.replies.WriteResult.TheVariants as written
use Rattle.ccr_model.specs.Leaders.{Start}
use Rattle.ccr_model_journals.specs.Words.{begun, entry, request, status, wrote}

abbrev pub resync_of_two_replicas_start : Start
resync_of_two_replicas_start = begun 3 7 1000000 0

abbrev pub resync_of_two_replicas_entries : List Entry
resync_of_two_replicas_entries =
    entry (events.Write (request (codes "a") None (Some (codes "{\"n\":1}")) false None)) (replies.Written (wrote 0 1 1 written.Created)) ∷
    entry (events.Write (request (codes "b") None (Some (codes "{\"n\":1}")) false None)) (replies.Written (wrote 1 1 1 written.Created)) ∷
    entry (events.Write (request (codes "c") None (Some (codes "{\"n\":1}")) false None)) (replies.Written (wrote 2 1 1 written.Created)) ∷
    entry (events.Replicate sides.Leader 1 0) replies.Done ∷
    entry (events.Replicate sides.Leader 1 1) replies.Done ∷
    entry (events.Ack sides.Leader 1) (replies.Acked 0) ∷
    entry (events.Sync sides.Leader 1) replies.Done ∷
    entry (events.Replicate sides.Leader 2 0) replies.Done ∷
    entry (events.Replicate sides.Leader 2 1) replies.Done ∷
    entry (events.Ack sides.Leader 2) (replies.Acked 2) ∷
    entry (events.Sync sides.Leader 1) replies.Done ∷
    entry (events.Status sides.Leader) (replies.LeaderStatus 1 (status 0 3 2 0 3 ∷ status 1 2 2 0 2 ∷ status 2 2 0 0 2 ∷ []) []) ∷
    entry (events.Promote sides.Leader 1) (replies.Promoted 2 0) ∷
    entry (events.Resync 2) (replies.Resynced 0 0) ∷
    entry (events.Status sides.Leader) (replies.LeaderStatus 2 (status 1 2 2 0 2 ∷ status 2 2 0 0 2 ∷ []) []) ∷
    []
