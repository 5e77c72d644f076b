-- A document is found with the routing of its write, or with none.
use Rattle.std.specs.Prelude.{false, List, [], ◌∷◌, Some, None, codes}
use Rattle.ccr_query.specs.Queries.{condition}
use Rattle.ccr_query.specs.declared.conditions.Condition.TheVariants as conditions
use Rattle.ccr_journal.specs.declared.sides.Side.TheVariants as sides
use Rattle.ccr_journal.specs.declared.events.Event.TheVariants as events
use Rattle.ccr_journal.specs.declared.journals.Entry.{Entry}
use Rattle.ccr_journal.specs.declared.replies.Reply.TheVariants as replies
use Rattle.ccr_journal.specs.declared.replies.WriteResult.TheVariants as written
use Rattle.ccr_model.specs.Leaders.{Start}
use Rattle.ccr_model_journals.specs.Words.{begun, entry, found, hit, request, search_for, wrote}

abbrev pub routed_writes_0_start : Start
routed_writes_0_start = begun 1 233123597930171938637576872671869459266 43200000 0

abbrev pub routed_writes_0_entries : List Entry
routed_writes_0_entries =
    entry (events.Write (request (codes "a") None (Some (codes "{\"n\":2}")) false None)) (replies.Written (wrote 0 1 1 written.Created)) ∷
    entry (events.Search sides.Leader 0 (search_for (condition conditions.MatchAll) [])) (replies.Found (found 1 false (hit (codes "a") None (codes "{\"n\":2}") ∷ []))) ∷
    []
