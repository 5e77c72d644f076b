-- Merges drop no-ops, deletes and what they supersede, and join parts at the least place that is picked.
use Rattle.std.specs.Prelude.{false, List, [], ◌∷◌, Some, None, codes}
use Rattle.ccr_journal.specs.declared.sides.Side.TheVariants as sides
use Rattle.ccr_journal.specs.declared.events.Event.TheVariants as events
use Rattle.ccr_journal.specs.declared.journals.Entry.{Entry}
use Rattle.ccr_journal.specs.declared.replies.Reply.TheVariants as replies
use Rattle.ccr_journal.specs.declared.replies.WriteResult.TheVariants as written
use Rattle.ccr_model.specs.Leaders.{Start}
use Rattle.ccr_model_journals.specs.Words.{begun, entry, request, status, wrote}

abbrev pub deletes_in_merges_start : Start
deletes_in_merges_start = begun 1 7 1000000 0

abbrev pub deletes_in_merges_entries : List Entry
deletes_in_merges_entries =
    entry (events.Write (request (codes "a") None (Some (codes "{\"n\":1}")) false None)) (replies.Written (wrote 0 1 1 written.Created)) ∷
    entry (events.Flush sides.Leader 0) (replies.Flushed 1) ∷
    entry (events.Write (request (codes "a") None None false None)) (replies.Written (wrote 1 1 2 written.Deleted)) ∷
    entry (events.Flush sides.Leader 0) (replies.Flushed 2) ∷
    entry (events.Merge sides.Leader 0) (replies.Merged 2 0 (1 ∷ [])) ∷
    entry (events.Write (request (codes "x") None (Some (codes "{\"n\":1}")) false None)) (replies.Written (wrote 2 1 1 written.Created)) ∷
    entry (events.Flush sides.Leader 0) (replies.Flushed 3) ∷
    entry (events.Write (request (codes "y") None (Some (codes "{\"n\":1}")) false None)) (replies.Written (wrote 3 1 1 written.Created)) ∷
    entry (events.Flush sides.Leader 0) (replies.Flushed 4) ∷
    entry (events.Write (request (codes "x") None (Some (codes "{\"n\":2}")) false None)) (replies.Written (wrote 4 1 2 written.Updated)) ∷
    entry (events.Flush sides.Leader 0) (replies.Flushed 5) ∷
    entry (events.Status sides.Leader) (replies.LeaderStatus 1 (status 0 5 5 2 5 ∷ []) []) ∷
    entry (events.Merge sides.Leader 0) (replies.Merged 5 1 (1 ∷ 2 ∷ [])) ∷
    entry (events.Merge sides.Leader 0) (replies.Merged 5 0 (1 ∷ [])) ∷
    entry (events.Merge sides.Leader 0) (replies.Merged 5 0 (2 ∷ [])) ∷
    entry (events.Status sides.Leader) (replies.LeaderStatus 1 (status 0 5 5 5 4 ∷ []) []) ∷
    []
