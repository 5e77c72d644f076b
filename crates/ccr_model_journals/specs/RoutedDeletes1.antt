-- Writes and deletes with a routing or without one, at the leader and at a follower that is restored.
use Rattle.std.specs.Prelude.{false, List, [], ◌∷◌, Some, None, codes}
use Rattle.ccr_wire.specs.declared.kind.LeaseResult.TheVariants as results
use Rattle.ccr_query.specs.Queries.{condition}
use Rattle.ccr_query.specs.declared.conditions.Condition.TheVariants as conditions
use Rattle.ccr_journal.specs.declared.sides.Side.TheVariants as sides
use Rattle.ccr_journal.specs.declared.events.Event.TheVariants as events
use Rattle.ccr_journal.specs.declared.journals.Entry.{Entry}
use Rattle.ccr_journal.specs.declared.replies.Heard.TheVariants as heard
use Rattle.ccr_journal.specs.declared.replies.Reply.TheVariants as replies
use Rattle.ccr_journal.specs.declared.replies.WriteResult.TheVariants as written
use Rattle.ccr_model.specs.Leaders.{Start}
use Rattle.ccr_model_journals.specs.Words.{begun, default_params, entry, found, hit, request, search_for, wrote}

abbrev pub routed_deletes_1_start : Start
routed_deletes_1_start = begun 1 188732171658098847573992426085372534834 43200000 0

abbrev pub routed_deletes_1_entries : List Entry
routed_deletes_1_entries =
    entry (events.Write (request (codes "b") None (Some (codes "{\"n\":2}")) false None)) (replies.Written (wrote 0 1 1 written.Created)) ∷
    entry (events.Write (request (codes "c") (Some (codes "b")) None false None)) (replies.Written (wrote 1 1 1 written.NotFound)) ∷
    entry (events.Search sides.Leader 0 (search_for (condition conditions.MatchAll) [])) (replies.Found (found 2 false (hit (codes "b") None (codes "{\"n\":2}") ∷ []))) ∷
    entry (events.Write (request (codes "b") None None false None)) (replies.Written (wrote 2 1 2 written.Deleted)) ∷
    entry (events.Search sides.Leader 0 (search_for (condition conditions.MatchAll) [])) (replies.Found (found 3 false [])) ∷
    entry (events.Follow default_params 1 (codes "b/f/0d4c2c54-b543-5c37-9e34-0a9608dd1386-following-a/l/223c283b-627d-5bac-9463-bf337a05a8ea")) replies.Done ∷
    entry (events.Deliver 0 0 false) (replies.Heard (heard.Lease results.Ok 0)) ∷
    entry (events.Deliver 0 0 false) (replies.Heard heard.Done) ∷
    entry (events.Deliver 0 0 false) (replies.Heard heard.Done) ∷
    entry (events.Deliver 0 0 false) (replies.Heard heard.Done) ∷
    entry (events.Deliver 0 0 false) (replies.Heard heard.Done) ∷
    entry (events.Deliver 0 0 false) (replies.Heard heard.Done) ∷
    entry (events.Deliver 0 0 false) (replies.Heard heard.Parked) ∷
    entry events.Settle replies.Settled ∷
    entry (events.Search (sides.Follower 0) 0 (search_for (condition conditions.MatchAll) [])) (replies.Found (found 3 false [])) ∷
    []
