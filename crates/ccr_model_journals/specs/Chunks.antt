-- A follower fetches a file in parts, out of order, until its session closes, and fetches it again from another.
use Rattle.std.specs.Prelude.{false, List, [], ◌∷◌, Some, None, codes}
use Rattle.ccr_wire.specs.declared.kind.LeaseResult.TheVariants as results
use Rattle.ccr_query.specs.Queries.{condition}
use Rattle.ccr_query.specs.declared.conditions.Condition.TheVariants as conditions
use Rattle.ccr_journal.specs.declared.sides.Side.TheVariants as sides
use Rattle.ccr_journal.specs.declared.events.Event.TheVariants as events
use Rattle.ccr_journal.specs.declared.journals.Entry.{Entry}
use Rattle.ccr_journal.specs.declared.replies.Heard.TheVariants as heard
use Rattle.ccr_journal.specs.declared.replies.Reply.TheVariants as replies
use Rattle.ccr_journal.specs.declared.replies.WriteResult.TheVariants as written
use Rattle.ccr_model.specs.Leaders.{Start}
use Rattle.ccr_model_journals.specs.Words.{begun, entry, found, hit, params, request, search_for, wrote}

abbrev pub chunks_start : Start
chunks_start = begun 1 233123597930171938637576872671869459266 43200000 0

abbrev pub chunks_entries : List Entry
chunks_entries =
    entry (events.Write (request (codes "a") None (Some (codes "{\"n\":1}")) false None)) (replies.Written (wrote 0 1 1 written.Created)) ∷
    entry (events.Follow (params 5120 33554432 12 5120 9223372036854775807 9 2147483647 536870912 500 60000 16) 1 (codes "b/f/0d4c2c54-b543-5c37-9e34-0a9608dd1386-following-a/l/223c283b-627d-5bac-9463-bf337a05a8ea")) replies.Done ∷
    entry (events.Deliver 0 0 false) (replies.Heard (heard.Lease results.Ok 0)) ∷
    entry (events.Deliver 0 0 false) (replies.Heard heard.Done) ∷
    entry (events.Deliver 0 0 false) (replies.Heard heard.Done) ∷
    entry (events.Deliver 0 0 false) (replies.Heard heard.Done) ∷
    entry (events.Deliver 2 0 false) (replies.Heard heard.Done) ∷
    entry (events.Deliver 2 0 false) (replies.Heard heard.Done) ∷
    entry (events.Drop 0) replies.Done ∷
    entry (events.Deliver 0 0 false) (replies.Heard heard.Done) ∷
    entry (events.Deliver 0 0 false) (replies.Heard heard.Done) ∷
    entry (events.Clock sides.Leader 60001) replies.Done ∷
    entry events.Expire (replies.Expired []) ∷
    entry events.CloseSessions (replies.Closed 1) ∷
    entry (events.Lose 0 0) replies.Done ∷
    entry (events.Clock (sides.Follower 0) 50) replies.Done ∷
    entry (events.Tick 0) replies.Done ∷
    entry (events.Deliver 0 0 false) (replies.Heard heard.Gone) ∷
    entry (events.Deliver 0 0 false) (replies.Heard heard.Done) ∷
    entry (events.Deliver 0 0 false) (replies.Heard heard.Done) ∷
    entry (events.Deliver 0 0 false) (replies.Heard heard.Done) ∷
    entry (events.Deliver 0 0 false) (replies.Heard heard.Done) ∷
    entry (events.Deliver 0 0 false) (replies.Heard heard.Done) ∷
    entry (events.Deliver 0 0 false) (replies.Heard heard.Done) ∷
    entry (events.Deliver 0 0 false) (replies.Heard heard.Done) ∷
    entry (events.Deliver 0 0 false) (replies.Heard heard.Done) ∷
    entry (events.Deliver 0 0 false) (replies.Heard heard.Done) ∷
    entry (events.Deliver 0 0 false) (replies.Heard heard.Parked) ∷
    entry events.Settle replies.Settled ∷
    entry (events.Search (sides.Follower 0) 0 (search_for (condition conditions.MatchAll) [])) (replies.Found (found 1 false (hit (codes "a") None (codes "{\"n\":1}") ∷ []))) ∷
    []
