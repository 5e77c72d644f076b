-- A new primary knows nothing of the others before they are resynced and acked.
use Rattle.std.specs.Prelude.{false, List, [], ◌∷◌, Some, None, codes}
use Rattle.ccr_journal.specs.declared.sides.Side.TheVariants as sides
use Rattle.ccr_journal.specs.declared.events.Event.TheVariants as events
use Rattle.ccr_journal.specs.declared.journals.Entry.{Entry}
use Rattle.ccr_journal.specs.declared.replies.Reply.TheVariants as replies
use Rattle.ccr_journal.specs.declared.replies.WriteResult.TheVariants as written
use Rattle.ccr_model.specs.Leaders.{Start}
use Rattle.ccr_model_journals.specs.Words.{begun, entry, request, status, wrote}

abbrev pub known_counts_after_a_promotion_start : Start
known_counts_after_a_promotion_start = begun 3 233123597930171938637576872671869459266 43200000 0

abbrev pub known_counts_after_a_promotion_entries : List Entry
known_counts_after_a_promotion_entries =
    entry (events.Write (request (codes "a") None (Some (codes "{\"n\":1}")) false None)) (replies.Written (wrote 0 1 1 written.Created)) ∷
    entry (events.Replicate sides.Leader 1 0) replies.Done ∷
    entry (events.Replicate sides.Leader 2 0) replies.Done ∷
    entry (events.Ack sides.Leader 2) (replies.Acked 0) ∷
    entry (events.Promote sides.Leader 1) (replies.Promoted 2 0) ∷
    entry (events.Status sides.Leader) (replies.LeaderStatus 2 (status 1 1 0 0 1 ∷ status 2 1 0 0 1 ∷ []) []) ∷
    entry (events.Resync 2) (replies.Resynced 1 1) ∷
    entry (events.Status sides.Leader) (replies.LeaderStatus 2 (status 1 1 0 0 1 ∷ status 2 1 0 0 1 ∷ []) []) ∷
    entry (events.Ack sides.Leader 2) (replies.Acked 1) ∷
    []
