-- A merge keeps an operation where only one that is not committed supersedes it.
use Rattle.std.specs.Prelude.{false, List, [], ◌∷◌, Some, None, codes}
use Rattle.ccr_query.specs.Queries.{condition}
use Rattle.ccr_query.specs.declared.conditions.Condition.TheVariants as conditions
use Rattle.ccr_journal.specs.declared.sides.Side.TheVariants as sides
use Rattle.ccr_journal.specs.declared.events.Event.TheVariants as events
use Rattle.ccr_journal.specs.declared.journals.Entry.{Entry}
use Rattle.ccr_journal.specs.declared.replies.Reply.TheVariants as replies
use Rattle.ccr_journal.specs.declared.replies.WriteResult.TheVariants as written
use Rattle.ccr_model.specs.Leaders.{Start}
use Rattle.ccr_model_journals.specs.Words.{begun, entry, found, hit, request, search_for, wrote}

abbrev pub uncommitted_superseder_by_hand_start : Start
uncommitted_superseder_by_hand_start = begun 3 233123597930171938637576872671869459266 43200000 0

abbrev pub uncommitted_superseder_by_hand_entries : List Entry
uncommitted_superseder_by_hand_entries =
    entry (events.Write (request (codes "a") None (Some (codes "{\"n\":1}")) false None)) (replies.Written (wrote 0 1 1 written.Created)) ∷
    entry (events.Replicate sides.Leader 1 0) replies.Done ∷
    entry (events.Replicate sides.Leader 2 0) replies.Done ∷
    entry (events.Ack sides.Leader 1) (replies.Acked 0) ∷
    entry (events.Ack sides.Leader 2) (replies.Acked 1) ∷
    entry (events.Sync sides.Leader 1) replies.Done ∷
    entry (events.Write (request (codes "a") None (Some (codes "{\"n\":2}")) false None)) (replies.Written (wrote 1 1 2 written.Updated)) ∷
    entry (events.Replicate sides.Leader 1 1) replies.Done ∷
    entry (events.Flush sides.Leader 1) (replies.Flushed 1) ∷
    entry (events.Merge sides.Leader 1) (replies.Merged 1 0 (0 ∷ [])) ∷
    entry (events.Promote sides.Leader 2) (replies.Promoted 2 0) ∷
    entry (events.Resync 1) (replies.Resynced 1 0) ∷
    entry (events.Search sides.Leader 1 (search_for (condition conditions.MatchAll) [])) (replies.Found (found 1 false (hit (codes "a") None (codes "{\"n\":1}") ∷ []))) ∷
    []
