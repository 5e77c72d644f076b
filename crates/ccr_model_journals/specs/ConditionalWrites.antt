-- Writes that expect an operation, or no document, are refused where they find another.
use Rattle.std.specs.Prelude.{true, false, List, [], ◌∷◌, Some, None, codes}
use Rattle.ccr_journal.specs.declared.events.Event.TheVariants as events
use Rattle.ccr_journal.specs.declared.journals.Entry.{Entry}
use Rattle.ccr_journal.specs.declared.replies.Refusal.TheVariants as refusals
use Rattle.ccr_journal.specs.declared.replies.Reply.TheVariants as replies
use Rattle.ccr_journal.specs.declared.replies.WriteResult.TheVariants as written
use Rattle.ccr_model.specs.Leaders.{Start}
use Rattle.ccr_model_journals.specs.Words.{begun, entry, request, wrote}

abbrev pub conditional_writes_start : Start
conditional_writes_start = begun 1 233123597930171938637576872671869459266 43200000 0

abbrev pub conditional_writes_entries : List Entry
conditional_writes_entries =
    entry (events.Write (request (codes "a") None (Some (codes "{\"n\":1}")) false None)) (replies.Written (wrote 0 1 1 written.Created)) ∷
    entry (events.Write (request (codes "a") None (Some (codes "{\"n\":2}")) false None)) (replies.Written (wrote 1 1 2 written.Updated)) ∷
    entry (events.Write (request (codes "a") None (Some (codes "{\"n\":3}")) false (Some (0, 1)))) (replies.Refused (refusals.Conflict (Some (1, 1)))) ∷
    entry (events.Write (request (codes "a") None (Some (codes "{\"n\":3}")) false (Some (1, 1)))) (replies.Written (wrote 2 1 3 written.Updated)) ∷
    entry (events.Write (request (codes "b") None (Some (codes "{\"n\":1}")) false (Some (0, 1)))) (replies.Refused (refusals.Conflict None)) ∷
    entry (events.Write (request (codes "a") None (Some (codes "{\"n\":4}")) true None)) (replies.Refused (refusals.Exists 2)) ∷
    []
