-- Answers that come out of order leave a gap, which the late one closes.
use Rattle.std.specs.Prelude.{true, false, List, [], ◌∷◌, Some, None, codes}
use Rattle.ccr_wire.specs.declared.kind.LeaseResult.TheVariants as results
use Rattle.ccr_query.specs.Queries.{condition}
use Rattle.ccr_query.specs.declared.conditions.Condition.TheVariants as conditions
use Rattle.ccr_journal.specs.declared.sides.Side.TheVariants as sides
use Rattle.ccr_journal.specs.declared.events.Event.TheVariants as events
use Rattle.ccr_journal.specs.declared.journals.Entry.{Entry}
use Rattle.ccr_journal.specs.declared.replies.Heard.TheVariants as heard
use Rattle.ccr_journal.specs.declared.replies.Reply.TheVariants as replies
use Rattle.ccr_journal.specs.declared.replies.WriteResult.TheVariants as written
use Rattle.ccr_model.specs.Leaders.{Start}
use Rattle.ccr_model_journals.specs.Words.{begun, entry, found, hit, index, params, request, search_for, wrote}

abbrev pub reordering_start : Start
reordering_start = begun 1 233123597930171938637576872671869459266 43200000 0

abbrev pub reordering_entries : List Entry
reordering_entries =
    entry (events.Follow (params 1 33554432 12 5120 9223372036854775807 9 2147483647 536870912 500 60000 1048576) 1 (codes "b/f/0d4c2c54-b543-5c37-9e34-0a9608dd1386-following-a/l/223c283b-627d-5bac-9463-bf337a05a8ea")) replies.Done ∷
    entry (events.Deliver 0 0 false) (replies.Heard (heard.Lease results.Ok 0)) ∷
    entry (events.Deliver 0 0 false) (replies.Heard heard.Done) ∷
    entry (events.Deliver 0 0 false) (replies.Heard heard.Done) ∷
    entry (events.Deliver 0 0 false) (replies.Heard heard.Done) ∷
    entry (events.Deliver 0 0 false) (replies.Heard heard.Parked) ∷
    entry events.Settle replies.Settled ∷
    entry (events.Write (request (codes "b") None (Some (codes "{\"n\":5}")) false None)) (replies.Written (wrote 0 1 1 written.Created)) ∷
    entry (events.Write (request (codes "a") None (Some (codes "{\"n\":1}")) false None)) (replies.Written (wrote 1 1 1 written.Created)) ∷
    entry (events.Write (request (codes "a") None (Some (codes "{\"n\":2}")) false None)) (replies.Written (wrote 2 1 2 written.Updated)) ∷
    entry (events.Wake 0 0) (replies.Heard heard.Done) ∷
    entry (events.Deliver 0 0 false) (replies.Heard heard.Done) ∷
    entry (events.Take 0 0) (replies.Took (index 0 1 1 (codes "b") None (codes "{\"n\":5}") ∷ [])) ∷
    entry (events.Apply 0 1 0 (index 0 1 1 (codes "b") None (codes "{\"n\":5}") ∷ [])) (replies.Applied 1) ∷
    entry (events.Deliver 1 0 false) (replies.Heard heard.Done) ∷
    entry (events.Deliver 1 0 false) (replies.Heard heard.Done) ∷
    entry (events.Take 0 1) (replies.Took (index 2 1 2 (codes "a") None (codes "{\"n\":2}") ∷ [])) ∷
    entry (events.Apply 0 1 1 (index 2 1 2 (codes "a") None (codes "{\"n\":2}") ∷ [])) (replies.Applied 1) ∷
    entry (events.Search (sides.Follower 0) 0 (search_for (condition conditions.MatchAll) [])) (replies.Found (found 1 true (hit (codes "a") None (codes "{\"n\":2}") ∷ hit (codes "b") None (codes "{\"n\":5}") ∷ []))) ∷
    entry (events.Deliver 0 0 false) (replies.Heard heard.Done) ∷
    entry (events.Deliver 0 0 false) (replies.Heard heard.Done) ∷
    entry (events.Take 0 2) (replies.Took (index 1 1 1 (codes "a") None (codes "{\"n\":1}") ∷ [])) ∷
    entry (events.Apply 0 1 2 (index 1 1 1 (codes "a") None (codes "{\"n\":1}") ∷ [])) (replies.Applied 1) ∷
    entry (events.Search (sides.Follower 0) 0 (search_for (condition conditions.MatchAll) [])) (replies.Found (found 3 false (hit (codes "a") None (codes "{\"n\":2}") ∷ hit (codes "b") None (codes "{\"n\":5}") ∷ []))) ∷
    []
