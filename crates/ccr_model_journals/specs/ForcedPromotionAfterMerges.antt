-- A stale copy is promoted by force after merges, while a follower is in its bootstrap.
use Rattle.std.specs.Prelude.{true, false, List, [], ◌∷◌, Some, None, codes}
use Rattle.ccr_wire.specs.declared.kind.LeaseResult.TheVariants as results
use Rattle.ccr_query.specs.Queries.{condition}
use Rattle.ccr_query.specs.declared.conditions.Condition.TheVariants as conditions
use Rattle.ccr_query.specs.declared.sorting.SortOrder.TheVariants as orders
use Rattle.ccr_journal.specs.declared.sides.Side.TheVariants as sides
use Rattle.ccr_journal.specs.declared.sides.Phase.TheVariants as phases
use Rattle.ccr_journal.specs.declared.events.Event.TheVariants as events
use Rattle.ccr_journal.specs.declared.journals.Entry.{Entry}
use Rattle.ccr_journal.specs.declared.replies.Heard.TheVariants as heard
use Rattle.ccr_journal.specs.declared.replies.Refusal.TheVariants as refusals
use Rattle.ccr_journal.specs.declared.replies.Reply.TheVariants as replies
use Rattle.ccr_journal.specs.declared.replies.WriteResult.TheVariants as written
use Rattle.ccr_model.specs.Leaders.{Start}
use Rattle.ccr_model_journals.specs.Words.{begun, entry, follower_status, found, hit, key, params, request, search_for, status, wrote}

abbrev pub forced_promotion_after_merges_start : Start
forced_promotion_after_merges_start = begun 3 233123597930171938637576872671869459266 43200000 0

abbrev pub forced_promotion_after_merges_entries : List Entry
forced_promotion_after_merges_entries =
    entry (events.Follow (params 1 33554432 12 1 1 2 2147483647 536870912 60 60000 1) 3 (codes "b/f/0d4c2c54-b543-5c37-9e34-0a9608dd1386-following-a/l/223c283b-627d-5bac-9463-bf337a05a8ea")) replies.Done ∷
    entry (events.Deliver 0 1 false) (replies.Heard (heard.Waiting 1)) ∷
    entry (events.Search (sides.Follower 0) 0 (search_for (condition conditions.MatchAll) [])) (replies.Found (found 0 false [])) ∷
    entry (events.Write (request (codes "b") None (Some (codes "{\"n\":7}")) false None)) (replies.Written (wrote 0 1 1 written.Created)) ∷
    entry (events.Write (request (codes "d") None (Some (codes "{\"n\":9}")) false None)) (replies.Written (wrote 1 1 1 written.Created)) ∷
    entry (events.Write (request (codes "c") None (Some (codes "{\"n\":2}")) false None)) (replies.Written (wrote 2 1 1 written.Created)) ∷
    entry (events.Write (request (codes "a") None (Some (codes "{\"n\":[1,null],\"o\":{\"p.q\":true},\"t\":\"Xa\"}")) false None)) (replies.Written (wrote 3 1 1 written.Created)) ∷
    entry (events.Write (request (codes "d") None (Some (codes "{\"n\":3}")) true None)) (replies.Refused (refusals.Exists 1)) ∷
    entry (events.Sync sides.Leader 2) replies.Done ∷
    entry (events.Merge (sides.Follower 0) 2) (replies.Merged 0 0 []) ∷
    entry (events.Deliver 1 0 false) (replies.Refused (refusals.NoFrame 1)) ∷
    entry (events.Clock sides.Leader 1) replies.Done ∷
    entry events.Expire (replies.Expired []) ∷
    entry events.CloseSessions (replies.Closed 0) ∷
    entry (events.Deliver 2 0 false) (replies.Refused (refusals.NoFrame 2)) ∷
    entry (events.Write (request (codes "b") None (Some (codes "{\"n\":7}")) false None)) (replies.Written (wrote 4 1 2 written.Updated)) ∷
    entry (events.Write (request (codes "c") None (Some (codes "{\"n\":1}")) false None)) (replies.Written (wrote 5 1 2 written.Updated)) ∷
    entry (events.Write (request (codes "c") None (Some (codes "{\"n\":[2,null],\"o\":{\"p.q\":-5},\"t\":\"x y\"}")) false None)) (replies.Written (wrote 6 1 3 written.Updated)) ∷
    entry (events.Lose 0 0) replies.Done ∷
    entry (events.Merge (sides.Follower 0) 0) (replies.Merged 0 0 []) ∷
    entry (events.Write (request (codes "a") None (Some (codes "{\"n\":8}")) false None)) (replies.Written (wrote 7 1 2 written.Updated)) ∷
    entry (events.Status (sides.Follower 0)) (replies.FollowerStatus (follower_status phases.Leasing 0 1 (status 0 0 0 0 0 ∷ status 1 0 0 0 0 ∷ status 2 0 0 0 0 ∷ []) 0 0 0)) ∷
    entry (events.Write (request (codes "c") None (Some (codes "{\"n\":1}")) false None)) (replies.Written (wrote 8 1 4 written.Updated)) ∷
    entry (events.Deliver 2 0 false) (replies.Refused (refusals.NoFrame 2)) ∷
    entry (events.FailCopy sides.Leader 2) replies.Done ∷
    entry (events.Clock sides.Leader 50) replies.Done ∷
    entry events.Expire (replies.Expired []) ∷
    entry events.CloseSessions (replies.Closed 0) ∷
    entry (events.Write (request (codes "b") None (Some (codes "{\"n\":7}")) false None)) (replies.Written (wrote 9 1 3 written.Updated)) ∷
    entry (events.Ack sides.Leader 0) (replies.Refused (refusals.IsPrimary 0)) ∷
    entry (events.Clock (sides.Follower 0) 60001) replies.Done ∷
    entry (events.Tick 0) replies.Done ∷
    entry (events.Write (request (codes "c") None (Some (codes "{\"n\":9}")) false None)) (replies.Written (wrote 10 1 5 written.Updated)) ∷
    entry (events.Replicate sides.Leader 1 10) replies.Done ∷
    entry (events.Deliver 0 0 false) (replies.Heard (heard.Waiting 1)) ∷
    entry (events.Write (request (codes "a") None (Some (codes "{\"n\":8}")) false None)) (replies.Written (wrote 11 1 3 written.Updated)) ∷
    entry (events.Search sides.Leader 0 (search_for (condition conditions.MatchAll) (key (codes "n") orders.Asc ∷ []))) (replies.Found (found 12 false (hit (codes "b") None (codes "{\"n\":7}") ∷ hit (codes "a") None (codes "{\"n\":8}") ∷ hit (codes "c") None (codes "{\"n\":9}") ∷ hit (codes "d") None (codes "{\"n\":9}") ∷ []))) ∷
    entry (events.AddCopy (sides.Follower 0)) (replies.Refused refusals.Bootstrapping) ∷
    entry (events.Write (request (codes "b") None (Some (codes "{\"n\":4}")) false None)) (replies.Written (wrote 12 1 4 written.Updated)) ∷
    entry (events.Write (request (codes "a") None (Some (codes "{\"n\":6}")) true None)) (replies.Refused (refusals.Exists 11)) ∷
    entry (events.Promote sides.Leader 0) (replies.Refused (refusals.IsPrimary 0)) ∷
    entry (events.Write (request (codes "d") None (Some (codes "{\"n\":0}")) false None)) (replies.Written (wrote 13 1 2 written.Updated)) ∷
    entry (events.ForcePromote 2) (replies.Forced 2 0) ∷
    entry (events.Write (request (codes "b") None (Some (codes "{\"n\":6}")) false None)) (replies.Written (wrote 0 2 1 written.Created)) ∷
    entry (events.Flush sides.Leader 2) (replies.Flushed 1) ∷
    entry (events.Take 0 1) (replies.Refused (refusals.NoBatch 1)) ∷
    entry (events.Apply 0 0 1 []) (replies.Refused (refusals.NoBatch 1)) ∷
    entry (events.Status (sides.Follower 0)) (replies.FollowerStatus (follower_status phases.Leasing 0 1 (status 0 0 0 0 0 ∷ status 1 0 0 0 0 ∷ status 2 0 0 0 0 ∷ []) 0 0 0)) ∷
    entry (events.Merge sides.Leader 2) (replies.Merged 1 0 (0 ∷ [])) ∷
    entry (events.Replicate sides.Leader 2 1) (replies.Refused (refusals.IsPrimary 2)) ∷
    entry (events.Write (request (codes "b") None (Some (codes "{\"n\":9}")) false None)) (replies.Written (wrote 1 2 2 written.Updated)) ∷
    entry (events.Flush sides.Leader 2) (replies.Flushed 2) ∷
    entry (events.Ack sides.Leader 2) (replies.Refused (refusals.IsPrimary 2)) ∷
    entry (events.Merge sides.Leader 2) (replies.Merged 2 1 (0 ∷ 1 ∷ [])) ∷
    entry (events.Write (request (codes "c") None (Some (codes "{\"n\":2}")) false None)) (replies.Written (wrote 2 2 1 written.Created)) ∷
    entry (events.Ack (sides.Follower 0) 2) (replies.Acked 0) ∷
    entry (events.Sync (sides.Follower 0) 2) replies.Done ∷
    entry (events.Flush sides.Leader 2) (replies.Flushed 3) ∷
    entry (events.Write (request (codes "c") None (Some (codes "{\"n\":6}")) false None)) (replies.Written (wrote 3 2 2 written.Updated)) ∷
    entry (events.Write (request (codes "d") None (Some (codes "{\"n\":8}")) false None)) (replies.Written (wrote 4 2 1 written.Created)) ∷
    entry (events.Clock sides.Leader 550) replies.Done ∷
    entry events.Expire (replies.Expired []) ∷
    entry events.CloseSessions (replies.Closed 0) ∷
    entry (events.Write (request (codes "b") None None false None)) (replies.Written (wrote 5 2 3 written.Deleted)) ∷
    entry (events.Lose 0 0) replies.Done ∷
    entry (events.Clock (sides.Follower 0) 60061) replies.Done ∷
    entry (events.Tick 0) replies.Done ∷
    entry (events.Deliver 0 2 false) (replies.Heard (heard.Lease results.Ok 2)) ∷
    entry (events.Deliver 0 2 false) (replies.Heard heard.Done) ∷
    entry (events.Deliver 0 2 false) (replies.Heard heard.Done) ∷
    entry (events.Deliver 0 2 false) (replies.Heard heard.StoppedHistory) ∷
    entry events.Settle replies.Settled ∷
    entry (events.Write (request (codes "c") None (Some (codes "{\"b\":\"\\u0007\\\"\"}")) false None)) (replies.Written (wrote 6 2 3 written.Updated)) ∷
    entry (events.Write (request (codes "b") None (Some (codes "{\"n\":2}")) false None)) (replies.Written (wrote 7 2 1 written.Created)) ∷
    entry (events.Write (request (230 ∷ 151 ∷ 165 ∷ 230 ∷ 156 ∷ 172 ∷ []) None (Some (codes "{\"n\":9}")) false None)) (replies.Written (wrote 8 2 1 written.Created)) ∷
    entry (events.Write (request (codes "c") None (Some (codes "{\"n\":5}")) false None)) (replies.Written (wrote 9 2 4 written.Updated)) ∷
    entry (events.Flush sides.Leader 2) (replies.Flushed 10) ∷
    entry (events.Write (request (codes "d") None (Some (codes "{\"n\":7}")) false None)) (replies.Written (wrote 10 2 2 written.Updated)) ∷
    entry (events.Flush sides.Leader 2) (replies.Flushed 11) ∷
    entry (events.Write (request (codes "d") None (Some (codes "{\"n\":[0,null],\"o\":{\"p.q\":\"z\"},\"t\":\"x y\"}")) false None)) (replies.Written (wrote 11 2 3 written.Updated)) ∷
    entry events.Settle replies.Settled ∷
    entry (events.Flush sides.Leader 2) (replies.Flushed 12) ∷
    entry (events.Write (request (codes "c") None (Some (codes "{\"n\":0}")) false (Some (2, 2)))) (replies.Refused (refusals.Conflict (Some (9, 2)))) ∷
    entry (events.Write (request (codes "b") None (Some (codes "{\"n\":4}")) false None)) (replies.Written (wrote 12 2 2 written.Updated)) ∷
    entry (events.Flush sides.Leader 2) (replies.Flushed 13) ∷
    entry (events.FailCopy (sides.Follower 0) 1) replies.Done ∷
    entry (events.Merge (sides.Follower 0) 2) (replies.Merged 0 0 []) ∷
    entry (events.Write (request (codes "c") None (Some (codes "{\"n\":2}")) false None)) (replies.Written (wrote 13 2 5 written.Updated)) ∷
    entry (events.Write (request (codes "c") None (Some (codes "{\"n\":2}")) false None)) (replies.Written (wrote 14 2 6 written.Updated)) ∷
    entry (events.Flush sides.Leader 2) (replies.Flushed 15) ∷
    entry (events.Write (request (codes "c") None (Some (codes "{\"n\":9}")) true None)) (replies.Refused (refusals.Exists 14)) ∷
    entry (events.Merge sides.Leader 9007199254740991) (replies.Refused (refusals.NoCopy 9007199254740991)) ∷
    entry (events.Promote (sides.Follower 0) 2) (replies.Promoted 2 0) ∷
    entry (events.Write (request (codes "a") None (Some (codes "{\"n\":7}")) false (Some (1, 1)))) (replies.Refused (refusals.Conflict None)) ∷
    []
