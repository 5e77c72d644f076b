-- Promotions, expiries and a retention setting over a leader of three copies and its follower, in a random order.
use Rattle.std.specs.Prelude.{true, false, pos, List, [], ◌∷◌, ◌++◌, Some, None, codes}
use Rattle.ccr_doc.specs.declared.scalars.Scalar.TheVariants as scalars
use Rattle.ccr_wire.specs.declared.kind.LeaseResult.TheVariants as results
use Rattle.ccr_query.specs.Queries.{condition}
use Rattle.ccr_query.specs.declared.conditions.Condition.TheVariants as conditions
use Rattle.ccr_journal.specs.declared.sides.Side.TheVariants as sides
use Rattle.ccr_journal.specs.declared.events.Event.TheVariants as events
use Rattle.ccr_journal.specs.declared.journals.Entry.{Entry}
use Rattle.ccr_journal.specs.declared.replies.Heard.TheVariants as heard
use Rattle.ccr_journal.specs.declared.replies.Refusal.TheVariants as refusals
use Rattle.ccr_journal.specs.declared.replies.Reply.TheVariants as replies
use Rattle.ccr_journal.specs.declared.replies.WriteResult.TheVariants as written
use Rattle.ccr_model.specs.Leaders.{Start}
use Rattle.ccr_model_journals.specs.Words.{begun, delete, entry, found, index, params, request, search_for, wrote}

abbrev pub promotions_and_expiry_start : Start
promotions_and_expiry_start = begun 3 233123597930171938637576872671869459266 1 3

abbrev pub promotions_and_expiry_entries : List Entry
promotions_and_expiry_entries =
    entry (events.Follow (params 5120 300 12 3 9223372036854775807 1 2147483647 120 500 60000 1048576) 3 (codes "b/f/0d4c2c54-b543-5c37-9e34-0a9608dd1386-following-a/l/223c283b-627d-5bac-9463-bf337a05a8ea")) replies.Done ∷
    entry (events.Sync sides.Leader 2) replies.Done ∷
    entry (events.Write (request (codes "d") None (Some (codes "{\"n\":8}")) false None)) (replies.Written (wrote 0 1 1 written.Created)) ∷
    entry (events.Replicate sides.Leader 2 0) replies.Done ∷
    entry (events.Promote sides.Leader 1) (replies.Promoted 2 0) ∷
    entry (events.Wake 0 0) (replies.Refused (refusals.NoPoll 0)) ∷
    entry (events.Clock sides.Leader 0) replies.Done ∷
    entry events.Expire (replies.Expired []) ∷
    entry events.CloseSessions (replies.Closed 0) ∷
    entry (events.Ack sides.Leader 2) (replies.Refused (refusals.NotReady 2)) ∷
    entry (events.Renew 0) (replies.Refused refusals.NotActive) ∷
    entry (events.Replicate sides.Leader 2 0) (replies.Refused (refusals.NotReady 2)) ∷
    entry (events.Deliver 0 1 false) (replies.Heard (heard.NotReady 2)) ∷
    entry (events.Flush sides.Leader 2) (replies.Flushed 0) ∷
    entry (events.Deliver 0 1 false) (replies.Heard heard.Done) ∷
    entry (events.Resync 2) (replies.Resynced 1 0) ∷
    entry (events.Ack sides.Leader 2) (replies.Acked 0) ∷
    entry (events.Sync sides.Leader 2) replies.Done ∷
    entry (events.Write (request (codes "c") None None false None)) (replies.Written (wrote 0 2 1 written.NotFound)) ∷
    entry (events.Write (request (codes "a") None None false None)) (replies.Written (wrote 1 2 1 written.NotFound)) ∷
    entry (events.Replicate sides.Leader 2 0) replies.Done ∷
    entry (events.Replicate sides.Leader 2 1) replies.Done ∷
    entry (events.Ack sides.Leader 2) (replies.Acked 2) ∷
    entry (events.Sync sides.Leader 2) replies.Done ∷
    entry (events.Clock (sides.Follower 0) 50) replies.Done ∷
    entry (events.Tick 0) replies.Done ∷
    entry (events.Deliver 0 1 false) (replies.Heard (heard.Waiting 2)) ∷
    entry (events.Sync sides.Leader 2) replies.Done ∷
    entry (events.Deliver 0 1 false) (replies.Heard heard.Done) ∷
    entry (events.Deliver 0 1 false) (replies.Heard heard.Done) ∷
    entry (events.Deliver 0 1 false) (replies.Heard heard.Done) ∷
    entry (events.Deliver 0 1 false) (replies.Heard heard.Done) ∷
    entry (events.Deliver 0 1 false) (replies.Heard heard.Done) ∷
    entry (events.Deliver 0 1 false) (replies.Heard heard.Parked) ∷
    entry events.Settle replies.Settled ∷
    entry (events.Ack sides.Leader 2) (replies.Acked 2) ∷
    entry (events.Sync sides.Leader 2) replies.Done ∷
    entry (events.Promote sides.Leader 2) (replies.Promoted 3 0) ∷
    entry (events.Search (sides.Follower 0) 0 (search_for (condition conditions.MatchAll) [])) (replies.Found (found 2 false [])) ∷
    entry (events.FailCopy sides.Leader 2) (replies.Refused (refusals.LastCopy 2)) ∷
    entry (events.Merge sides.Leader 2) (replies.Merged 0 0 []) ∷
    entry (events.Flush sides.Leader 2) (replies.Flushed 2) ∷
    entry (events.Clock (sides.Follower 0) 1) replies.Done ∷
    entry (events.Tick 0) replies.Done ∷
    entry (events.Lose 0 0) replies.Done ∷
    entry (events.Restart 0) replies.Done ∷
    entry (events.Flush sides.Leader 2) (replies.Flushed 2) ∷
    entry (events.Write (request (codes "a") None None false None)) (replies.Written (wrote 2 3 1 written.NotFound)) ∷
    entry (events.Search sides.Leader 2 (search_for (condition (conditions.Term (codes "n") (scalars.Number (pos 1)))) [])) (replies.Found (found 3 false [])) ∷
    entry (events.Flush sides.Leader 2) (replies.Flushed 3) ∷
    entry (events.Write (request (codes "a") None (Some (codes "{\"n\":[2,null],\"o\":{\"p.q\":-5},\"t\":\"" ++ (195 ∷ 169 ∷ []) ++ codes "-b\"}")) false (Some (5, 1)))) (replies.Refused (refusals.Conflict None)) ∷
    entry (events.Write (request (codes "d") None None false None)) (replies.Written (wrote 3 3 1 written.NotFound)) ∷
    entry (events.Flush sides.Leader 0) (replies.Refused (refusals.NoCopy 0)) ∷
    entry (events.Deliver 0 2 false) (replies.Heard heard.Done) ∷
    entry (events.Clock (sides.Follower 0) 60002) replies.Done ∷
    entry (events.Tick 0) replies.Done ∷
    entry (events.Renew 0) replies.Done ∷
    entry (events.Deliver 0 2 false) (replies.Heard heard.Done) ∷
    entry (events.Merge sides.Leader 2) (replies.Merged 0 0 (0 ∷ 1 ∷ [])) ∷
    entry (events.Flush sides.Leader 2) (replies.Flushed 4) ∷
    entry (events.Flush sides.Leader 2) (replies.Flushed 4) ∷
    entry (events.Deliver 0 2 true) (replies.Heard (heard.Lease results.Ok 2)) ∷
    entry (events.Flush sides.Leader 2) (replies.Flushed 4) ∷
    entry (events.Deliver 2 2 false) (replies.Heard heard.Done) ∷
    entry (events.Flush sides.Leader 2) (replies.Flushed 4) ∷
    entry (events.Write (request (codes "b") None None false (Some (3, 1)))) (replies.Refused (refusals.Conflict None)) ∷
    entry (events.Clock sides.Leader 0) replies.Done ∷
    entry events.Expire (replies.Expired []) ∷
    entry events.CloseSessions (replies.Closed 0) ∷
    entry (events.Take 0 0) (replies.Took (delete 2 3 1 (codes "a") None ∷ delete 3 3 1 (codes "d") None ∷ [])) ∷
    entry (events.Apply 0 2 0 (delete 2 3 1 (codes "a") None ∷ delete 3 3 1 (codes "d") None ∷ [])) (replies.Applied 2) ∷
    entry (events.Replicate (sides.Follower 0) 1 2) replies.Done ∷
    entry (events.Replicate (sides.Follower 0) 1 3) replies.Done ∷
    entry (events.Ack (sides.Follower 0) 1) (replies.Acked 2) ∷
    entry (events.Replicate (sides.Follower 0) 2 2) replies.Done ∷
    entry (events.Replicate (sides.Follower 0) 2 3) replies.Done ∷
    entry (events.Written 0 0) replies.Done ∷
    entry (events.Ack (sides.Follower 0) 2) (replies.Acked 4) ∷
    entry (events.Sync (sides.Follower 0) 1) replies.Done ∷
    entry (events.Sync (sides.Follower 0) 2) replies.Done ∷
    entry (events.Deliver 0 2 false) (replies.Heard (heard.Lease results.Ok 2)) ∷
    entry (events.Deliver 0 2 false) (replies.Heard heard.Parked) ∷
    entry (events.Deliver 0 2 false) (replies.Heard heard.Ignored) ∷
    entry events.Settle replies.Settled ∷
    entry (events.Ack (sides.Follower 0) 1) (replies.Acked 4) ∷
    entry (events.Sync (sides.Follower 0) 1) replies.Done ∷
    entry (events.Merge sides.Leader 2) (replies.Merged 1 1 (0 ∷ 1 ∷ [])) ∷
    entry (events.Write (request (codes "a") None (Some (codes "{\"n\":8}")) false None)) (replies.Written (wrote 4 3 1 written.Created)) ∷
    entry (events.Wake 0 0) (replies.Heard heard.Done) ∷
    entry (events.Wake 0 1) (replies.Refused (refusals.NoPoll 1)) ∷
    entry (events.Deliver 0 2 true) (replies.Heard heard.Done) ∷
    entry (events.Flush sides.Leader 2) (replies.Flushed 5) ∷
    entry (events.Flush sides.Leader 2) (replies.Flushed 5) ∷
    entry (events.Flush sides.Leader 2) (replies.Flushed 5) ∷
    entry (events.Take 0 1) (replies.Took (index 4 3 1 (codes "a") None (codes "{\"n\":8}") ∷ [])) ∷
    entry (events.Apply 0 2 1 (index 4 3 1 (codes "a") None (codes "{\"n\":8}") ∷ [])) (replies.Applied 1) ∷
    []
