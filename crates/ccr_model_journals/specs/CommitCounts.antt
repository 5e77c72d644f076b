-- A flush sets the commit count, beyond which no floor rises.
use Rattle.std.specs.Prelude.{true, false, List, [], ◌∷◌, Some, None, codes}
use Rattle.ccr_wire.specs.declared.kind.LeaseResult.TheVariants as results
use Rattle.ccr_journal.specs.declared.sides.Side.TheVariants as sides
use Rattle.ccr_journal.specs.declared.events.Event.TheVariants as events
use Rattle.ccr_journal.specs.declared.journals.Entry.{Entry}
use Rattle.ccr_journal.specs.declared.replies.Heard.TheVariants as heard
use Rattle.ccr_journal.specs.declared.replies.Reply.TheVariants as replies
use Rattle.ccr_journal.specs.declared.replies.WriteResult.TheVariants as written
use Rattle.ccr_model.specs.Leaders.{Start}
use Rattle.ccr_model_journals.specs.Words.{begun, entry, lease, params, request, status, wrote}

abbrev pub commit_counts_start : Start
commit_counts_start = begun 2 7 1000000 0

abbrev pub commit_counts_entries : List Entry
commit_counts_entries =
    entry (events.Write (request (codes "a") None (Some (codes "{\"n\":1}")) false None)) (replies.Written (wrote 0 1 1 written.Created)) ∷
    entry (events.Write (request (codes "b") None (Some (codes "{\"n\":2}")) false None)) (replies.Written (wrote 1 1 1 written.Created)) ∷
    entry (events.Replicate sides.Leader 1 0) replies.Done ∷
    entry (events.Replicate sides.Leader 1 1) replies.Done ∷
    entry (events.Ack sides.Leader 1) (replies.Acked 2) ∷
    entry (events.Sync sides.Leader 1) replies.Done ∷
    entry (events.Flush sides.Leader 1) (replies.Flushed 2) ∷
    entry (events.Merge sides.Leader 1) (replies.Merged 2 0 []) ∷
    entry (events.Status sides.Leader) (replies.LeaderStatus 1 (status 0 2 2 0 2 ∷ status 1 2 2 2 2 ∷ []) []) ∷
    entry (events.Write (request (codes "a") None (Some (codes "{\"n\":3}")) false None)) (replies.Written (wrote 2 1 2 written.Updated)) ∷
    entry (events.Write (request (codes "c") None (Some (codes "{\"n\":2}")) false None)) (replies.Written (wrote 3 1 1 written.Created)) ∷
    entry (events.Replicate sides.Leader 1 2) replies.Done ∷
    entry (events.Replicate sides.Leader 1 3) replies.Done ∷
    entry (events.Ack sides.Leader 1) (replies.Acked 4) ∷
    entry (events.Sync sides.Leader 1) replies.Done ∷
    entry (events.Follow (params 3 1000 2 3 1000 1 4 1000 100 50 4096) 1 (codes "n")) replies.Done ∷
    entry (events.Deliver 0 0 true) (replies.Heard (heard.Waiting 1)) ∷
    entry (events.Sync sides.Leader 1) replies.Done ∷
    entry (events.Status sides.Leader) (replies.LeaderStatus 1 (status 0 4 4 0 4 ∷ status 1 4 4 2 4 ∷ []) (lease (codes "n") 0 0 ∷ [])) ∷
    entry (events.Deliver 0 0 false) (replies.Heard (heard.Lease results.Exists 2)) ∷
    entry (events.Flush sides.Leader 1) (replies.Flushed 4) ∷
    entry (events.Merge sides.Leader 1) (replies.Merged 2 0 (0 ∷ 1 ∷ [])) ∷
    []
