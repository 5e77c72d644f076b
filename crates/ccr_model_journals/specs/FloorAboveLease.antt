-- A lease is answered with the greatest floor of the copies, which is above the primary's.
use Rattle.std.specs.Prelude.{false, List, [], ◌∷◌, Some, None, codes}
use Rattle.ccr_journal.specs.declared.sides.Side.TheVariants as sides
use Rattle.ccr_journal.specs.declared.events.Event.TheVariants as events
use Rattle.ccr_journal.specs.declared.journals.Entry.{Entry}
use Rattle.ccr_journal.specs.declared.replies.Heard.TheVariants as heard
use Rattle.ccr_journal.specs.declared.replies.Reply.TheVariants as replies
use Rattle.ccr_journal.specs.declared.replies.WriteResult.TheVariants as written
use Rattle.ccr_model.specs.Leaders.{Start}
use Rattle.ccr_model_journals.specs.Words.{begun, default_params, entry, lease, request, status, wrote}

abbrev pub floor_above_lease_start : Start
floor_above_lease_start = begun 2 7 43200000 0

abbrev pub floor_above_lease_entries : List Entry
floor_above_lease_entries =
    entry (events.Write (request (codes "a") None (Some (codes "{\"n\":1}")) false None)) (replies.Written (wrote 0 1 1 written.Created)) ∷
    entry (events.Write (request (codes "a") None (Some (codes "{\"n\":2}")) false None)) (replies.Written (wrote 1 1 2 written.Updated)) ∷
    entry (events.Write (request (codes "b") None (Some (codes "{\"n\":2}")) false None)) (replies.Written (wrote 2 1 1 written.Created)) ∷
    entry (events.Replicate sides.Leader 1 0) replies.Done ∷
    entry (events.Replicate sides.Leader 1 1) replies.Done ∷
    entry (events.Replicate sides.Leader 1 2) replies.Done ∷
    entry (events.Ack sides.Leader 1) (replies.Acked 3) ∷
    entry (events.Sync sides.Leader 1) replies.Done ∷
    entry (events.Ack sides.Leader 1) (replies.Acked 3) ∷
    entry (events.Sync sides.Leader 1) replies.Done ∷
    entry (events.Flush sides.Leader 1) (replies.Flushed 3) ∷
    entry (events.Merge sides.Leader 1) (replies.Merged 3 0 []) ∷
    entry (events.Follow default_params 1 (codes "f")) replies.Done ∷
    entry (events.Deliver 0 0 false) (replies.Heard (heard.Waiting 1)) ∷
    entry (events.Sync sides.Leader 1) replies.Done ∷
    entry (events.Merge sides.Leader 1) (replies.Merged 3 0 (0 ∷ [])) ∷
    entry (events.Status sides.Leader) (replies.LeaderStatus 1 (status 0 3 3 0 3 ∷ status 1 3 3 3 3 ∷ []) (lease (codes "f") 0 0 ∷ [])) ∷
    []
