-- Four copies of a leader and five followers of many parameters, in a random order.
use Rattle.std.specs.Prelude.{true, false, List, [], ◌∷◌, ◌++◌, Some, None, codes}
use Rattle.ccr_wire.specs.declared.kind.LeaseResult.TheVariants as results
use Rattle.ccr_query.specs.Queries.{condition}
use Rattle.ccr_query.specs.declared.conditions.Condition.TheVariants as conditions
use Rattle.ccr_query.specs.declared.sorting.SortOrder.TheVariants as orders
use Rattle.ccr_journal.specs.declared.sides.Side.TheVariants as sides
use Rattle.ccr_journal.specs.declared.sides.Phase.TheVariants as phases
use Rattle.ccr_journal.specs.declared.events.Event.TheVariants as events
use Rattle.ccr_journal.specs.declared.journals.Entry.{Entry}
use Rattle.ccr_journal.specs.declared.replies.Heard.TheVariants as heard
use Rattle.ccr_journal.specs.declared.replies.Refusal.TheVariants as refusals
use Rattle.ccr_journal.specs.declared.replies.Reply.TheVariants as replies
use Rattle.ccr_journal.specs.declared.replies.WriteResult.TheVariants as written
use Rattle.ccr_model.specs.Leaders.{Start}
use Rattle.ccr_model_journals.specs.Words.{begun, entry, follower_status, found, gone, index, key, lease, params, request, search_for, status, wrote}

abbrev pub four_copies_and_five_followers_start : Start
four_copies_and_five_followers_start = begun 4 238093196691738063576597003065483410332 500 0

abbrev pub four_copies_and_five_followers_entries : List Entry
four_copies_and_five_followers_entries =
    entry (events.Write (request (codes "a") None (Some (codes "{\"n\":3}")) true None)) (replies.Written (wrote 0 1 1 written.Created)) ∷
    entry (events.Replicate sides.Leader 1 0) replies.Done ∷
    entry (events.Replicate sides.Leader 2 0) replies.Done ∷
    entry (events.Replicate sides.Leader 3 0) replies.Done ∷
    entry (events.Ack sides.Leader 1) (replies.Acked 0) ∷
    entry (events.Ack sides.Leader 2) (replies.Acked 0) ∷
    entry (events.Ack sides.Leader 3) (replies.Acked 1) ∷
    entry (events.Sync sides.Leader 1) replies.Done ∷
    entry (events.Sync sides.Leader 2) replies.Done ∷
    entry (events.Sync sides.Leader 3) replies.Done ∷
    entry (events.Flush sides.Leader 0) (replies.Flushed 1) ∷
    entry (events.Write (request (codes "c") None (Some (codes "{\"n\":1}")) false None)) (replies.Written (wrote 1 1 1 written.Created)) ∷
    entry (events.Follow (params 5120 45 4 1 9223372036854775807 9 2147483647 536870912 9007199254740991 1 1048576) 1 (codes "f1")) replies.Done ∷
    entry (events.Follow (params 5120 33554432 12 5 138 9 2147483647 92 5000 60000 1048576) 3 (codes "A2")) replies.Done ∷
    entry (events.Follow (params 5120 33554432 12 5120 92 3 4 536870912 399 60000 1048576) 3 (codes "f1")) (replies.Refused (refusals.SameName 0)) ∷
    entry (events.Follow (params 5120 33554432 12 5120 9223372036854775807 2 2147483647 536870912 500 100 13) 2 ((195 ∷ 169 ∷ []) ++ codes "3")) replies.Done ∷
    entry (events.Replicate sides.Leader 1 1) replies.Done ∷
    entry (events.Deliver 1 0 false) (replies.Heard (heard.Waiting 1)) ∷
    entry (events.Ack sides.Leader 1) (replies.Acked 1) ∷
    entry (events.Deliver 1 0 false) (replies.Heard (heard.Waiting 1)) ∷
    entry (events.Sync sides.Leader 3) replies.Done ∷
    entry (events.Replicate sides.Leader 2 1) replies.Done ∷
    entry (events.Sync sides.Leader 1) replies.Done ∷
    entry (events.Sync sides.Leader 2) replies.Done ∷
    entry (events.Deliver 0 0 false) (replies.Heard (heard.Waiting 1)) ∷
    entry (events.Sync sides.Leader 3) replies.Done ∷
    entry (events.Ack sides.Leader 2) (replies.Acked 1) ∷
    entry (events.Deliver 0 0 false) (replies.Heard heard.Done) ∷
    entry (events.Replicate sides.Leader 3 1) replies.Done ∷
    entry (events.Ack sides.Leader 3) (replies.Acked 2) ∷
    entry (events.Sync sides.Leader 3) replies.Done ∷
    entry (events.Sync sides.Leader 2) replies.Done ∷
    entry (events.Deliver 1 0 false) (replies.Heard heard.Done) ∷
    entry (events.Deliver 0 0 false) (replies.Heard heard.Done) ∷
    entry (events.Deliver 1 0 false) (replies.Heard heard.Done) ∷
    entry (events.Deliver 1 0 false) (replies.Heard heard.Done) ∷
    entry (events.Deliver 1 0 false) (replies.Heard heard.Done) ∷
    entry (events.Sync sides.Leader 1) replies.Done ∷
    entry (events.Deliver 6 0 false) (replies.Heard heard.Done) ∷
    entry (events.Deliver 5 0 false) (replies.Heard heard.Done) ∷
    entry (events.Deliver 4 0 false) (replies.Heard heard.Done) ∷
    entry (events.Deliver 4 0 false) (replies.Heard heard.Done) ∷
    entry (events.Deliver 0 0 false) (replies.Heard heard.Done) ∷
    entry (events.Deliver 3 0 false) (replies.Heard heard.Done) ∷
    entry (events.Deliver 4 0 false) (replies.Heard heard.Done) ∷
    entry (events.Deliver 1 0 false) (replies.Heard heard.Done) ∷
    entry (events.Deliver 2 0 false) (replies.Heard heard.Done) ∷
    entry (events.Deliver 0 0 false) (replies.Heard heard.Done) ∷
    entry (events.Deliver 7 0 false) (replies.Heard heard.Done) ∷
    entry (events.Deliver 0 0 false) (replies.Heard heard.Done) ∷
    entry (events.Deliver 1 0 false) (replies.Heard heard.Done) ∷
    entry (events.Deliver 1 0 false) (replies.Heard heard.Done) ∷
    entry (events.Deliver 0 0 false) (replies.Heard heard.Done) ∷
    entry (events.Deliver 2 0 false) (replies.Heard heard.Done) ∷
    entry (events.Deliver 1 0 false) (replies.Heard heard.Done) ∷
    entry (events.Deliver 3 0 false) (replies.Heard heard.Done) ∷
    entry (events.Deliver 1 0 false) (replies.Heard heard.Done) ∷
    entry (events.Deliver 5 0 false) (replies.Heard heard.Done) ∷
    entry (events.Deliver 2 0 false) (replies.Heard heard.Done) ∷
    entry (events.Deliver 3 0 false) (replies.Heard heard.Done) ∷
    entry (events.Deliver 3 0 false) (replies.Heard heard.Parked) ∷
    entry (events.Deliver 1 0 false) (replies.Heard heard.Done) ∷
    entry (events.Deliver 1 0 false) (replies.Heard heard.Done) ∷
    entry (events.Deliver 1 0 false) (replies.Heard heard.Done) ∷
    entry (events.Deliver 1 0 false) (replies.Heard heard.Parked) ∷
    entry (events.Deliver 0 0 false) (replies.Heard heard.Done) ∷
    entry (events.Deliver 0 0 false) (replies.Heard heard.Done) ∷
    entry (events.Deliver 0 0 false) (replies.Heard heard.Parked) ∷
    entry events.Settle replies.Settled ∷
    entry events.Expire (replies.Expired []) ∷
    entry (events.Flush sides.Leader 1) (replies.Flushed 2) ∷
    entry (events.Write (request (195 ∷ 169 ∷ []) None (Some (codes "{}")) false None)) (replies.Written (wrote 2 1 1 written.Created)) ∷
    entry (events.Write (request (codes "b") None (Some (codes "{\"n\":6}")) false None)) (replies.Written (wrote 3 1 1 written.Created)) ∷
    entry (events.Write (request (codes "b") None (Some (codes "{\"n\":[1,null],\"t\":\"x y\",\"o\":{\"p.q\":true}}")) false None)) (replies.Written (wrote 4 1 2 written.Updated)) ∷
    entry (events.Replicate sides.Leader 3 2) replies.Done ∷
    entry (events.Replicate sides.Leader 3 3) replies.Done ∷
    entry (events.Replicate sides.Leader 3 4) replies.Done ∷
    entry (events.Sync sides.Leader 3) replies.Done ∷
    entry (events.Search sides.Leader 1 (search_for (condition (conditions.Exists (codes "o.p.q"))) (key (codes "n") orders.Desc ∷ key (codes "o") orders.Asc ∷ []))) (replies.Found (found 2 false [])) ∷
    entry (events.Resync 2) (replies.Resynced 0 0) ∷
    entry (events.Tick 1) replies.Done ∷
    entry (events.Replicate sides.Leader 1 2) replies.Done ∷
    entry (events.Write (request (codes "b") None (Some (codes "{\"n\":0}")) false None)) (replies.Written (wrote 5 1 3 written.Updated)) ∷
    entry (events.Merge (sides.Follower 1) 0) (replies.Merged 0 0 (0 ∷ 1 ∷ [])) ∷
    entry (events.Clock sides.Leader 500) replies.Done ∷
    entry events.Expire (replies.Expired []) ∷
    entry (events.Tick 0) replies.Done ∷
    entry (events.Resync 2) (replies.Resynced 0 0) ∷
    entry (events.Follow (params 2 33554432 1 1 9223372036854775807 1 4 536870912 50 60000 1048576) 3 (codes "z/4-following")) replies.Done ∷
    entry (events.Sync (sides.Follower 2) 1) replies.Done ∷
    entry (events.Wake 0 0) (replies.Heard heard.Empty) ∷
    entry (events.Lose 3 0) replies.Done ∷
    entry (events.Write (request (codes "c") None (Some (codes "{\"a\":1,\"a\":2}")) true None)) (replies.Refused (refusals.Exists 1)) ∷
    entry (events.Written 3 5) (replies.Refused (refusals.NoBatch 5)) ∷
    entry events.CloseSessions (replies.Closed 0) ∷
    entry (events.Pause 3) (replies.Refused refusals.Bootstrapping) ∷
    entry (events.Wake 2 0) (replies.Heard heard.Empty) ∷
    entry (events.Deliver 2 0 true) (replies.Heard heard.Done) ∷
    entry (events.Flush sides.Leader 3) (replies.Flushed 2) ∷
    entry (events.Ack (sides.Follower 1) 1) (replies.Acked 2) ∷
    entry (events.Renew 0) replies.Done ∷
    entry (events.Write (request (codes "d") None (Some (codes "{\"n\":1}")) false None)) (replies.Written (wrote 6 1 1 written.Created)) ∷
    entry (events.Merge (sides.Follower 0) 0) (replies.Merged 0 0 (1 ∷ [])) ∷
    entry (events.Renew 0) replies.Done ∷
    entry (events.FailCopy (sides.Follower 3) 2) replies.Done ∷
    entry (events.Replicate sides.Leader 1 5) replies.Done ∷
    entry (events.Sync (sides.Follower 2) 1) replies.Done ∷
    entry (events.Clock sides.Leader 501) replies.Done ∷
    entry events.Expire (replies.Expired (gone (codes "A2") 0 501 ∷ gone (codes "f1") 0 501 ∷ gone ((195 ∷ 169 ∷ []) ++ codes "3") 0 501 ∷ [])) ∷
    entry (events.Replicate sides.Leader 1 3) replies.Done ∷
    entry (events.Replicate sides.Leader 1 4) replies.Done ∷
    entry (events.Replicate sides.Leader 1 6) replies.Done ∷
    entry (events.Ack sides.Leader 1) (replies.Acked 2) ∷
    entry (events.Replicate sides.Leader 2 2) replies.Done ∷
    entry (events.Replicate sides.Leader 2 3) replies.Done ∷
    entry (events.Replicate sides.Leader 2 4) replies.Done ∷
    entry (events.Replicate sides.Leader 2 5) replies.Done ∷
    entry (events.Replicate sides.Leader 2 6) replies.Done ∷
    entry (events.Ack sides.Leader 2) (replies.Acked 2) ∷
    entry (events.Replicate sides.Leader 3 5) replies.Done ∷
    entry (events.Replicate sides.Leader 3 6) replies.Done ∷
    entry (events.Ack sides.Leader 3) (replies.Acked 7) ∷
    entry (events.Sync sides.Leader 1) replies.Done ∷
    entry (events.Sync sides.Leader 2) replies.Done ∷
    entry (events.Sync sides.Leader 3) replies.Done ∷
    entry (events.Wake 1 0) (replies.Heard heard.Done) ∷
    entry (events.Deliver 0 0 false) (replies.Heard (heard.Waiting 1)) ∷
    entry (events.Sync sides.Leader 1) replies.Done ∷
    entry (events.Sync sides.Leader 2) replies.Done ∷
    entry (events.Sync sides.Leader 3) replies.Done ∷
    entry (events.Deliver 0 0 false) (replies.Heard heard.Done) ∷
    entry (events.Deliver 0 0 false) (replies.Heard heard.Ignored) ∷
    entry (events.Deliver 0 0 false) (replies.Heard heard.Done) ∷
    entry (events.Deliver 0 0 false) (replies.Heard (heard.Lease results.NotFound 0)) ∷
    entry (events.Deliver 0 0 false) (replies.Heard (heard.Lease results.NotFound 0)) ∷
    entry (events.Deliver 0 0 false) (replies.Heard heard.Done) ∷
    entry (events.Take 1 0) (replies.Took (index 2 1 1 (195 ∷ 169 ∷ []) None (codes "{}") ∷ index 3 1 1 (codes "b") None (codes "{\"n\":6}") ∷ [])) ∷
    entry (events.Apply 1 1 0 (index 2 1 1 (195 ∷ 169 ∷ []) None (codes "{}") ∷ index 3 1 1 (codes "b") None (codes "{\"n\":6}") ∷ [])) (replies.Applied 2) ∷
    entry (events.Take 1 1) (replies.Took (index 4 1 2 (codes "b") None (codes "{\"n\":[1,null],\"o\":{\"p.q\":true},\"t\":\"x y\"}") ∷ index 5 1 3 (codes "b") None (codes "{\"n\":0}") ∷ [])) ∷
    entry (events.Apply 1 1 1 (index 4 1 2 (codes "b") None (codes "{\"n\":[1,null],\"o\":{\"p.q\":true},\"t\":\"x y\"}") ∷ index 5 1 3 (codes "b") None (codes "{\"n\":0}") ∷ [])) (replies.Applied 2) ∷
    entry (events.Take 1 2) (replies.Took (index 6 1 1 (codes "d") None (codes "{\"n\":1}") ∷ [])) ∷
    entry (events.Apply 1 1 2 (index 6 1 1 (codes "d") None (codes "{\"n\":1}") ∷ [])) (replies.Applied 1) ∷
    entry (events.Replicate (sides.Follower 1) 1 2) replies.Done ∷
    entry (events.Replicate (sides.Follower 1) 1 3) replies.Done ∷
    entry (events.Replicate (sides.Follower 1) 1 4) replies.Done ∷
    entry (events.Replicate (sides.Follower 1) 1 5) replies.Done ∷
    entry (events.Replicate (sides.Follower 1) 1 6) replies.Done ∷
    entry (events.Ack (sides.Follower 1) 1) (replies.Acked 2) ∷
    entry (events.Replicate (sides.Follower 1) 2 2) replies.Done ∷
    entry (events.Replicate (sides.Follower 1) 2 3) replies.Done ∷
    entry (events.Written 1 0) replies.Done ∷
    entry (events.Replicate (sides.Follower 1) 2 4) replies.Done ∷
    entry (events.Replicate (sides.Follower 1) 2 5) replies.Done ∷
    entry (events.Written 1 1) replies.Done ∷
    entry (events.Replicate (sides.Follower 1) 2 6) replies.Done ∷
    entry (events.Written 1 2) replies.Done ∷
    entry (events.Ack (sides.Follower 1) 2) (replies.Acked 7) ∷
    entry (events.Sync (sides.Follower 1) 1) replies.Done ∷
    entry (events.Sync (sides.Follower 1) 2) replies.Done ∷
    entry (events.Deliver 0 0 false) (replies.Heard heard.Ignored) ∷
    entry (events.Deliver 0 0 false) (replies.Heard heard.Done) ∷
    entry (events.Deliver 0 0 false) (replies.Heard heard.Done) ∷
    entry (events.Take 2 0) (replies.Took (index 2 1 1 (195 ∷ 169 ∷ []) None (codes "{}") ∷ index 3 1 1 (codes "b") None (codes "{\"n\":6}") ∷ index 4 1 2 (codes "b") None (codes "{\"n\":[1,null],\"o\":{\"p.q\":true},\"t\":\"x y\"}") ∷ index 5 1 3 (codes "b") None (codes "{\"n\":0}") ∷ index 6 1 1 (codes "d") None (codes "{\"n\":1}") ∷ [])) ∷
    entry (events.Apply 2 1 0 (index 2 1 1 (195 ∷ 169 ∷ []) None (codes "{}") ∷ index 3 1 1 (codes "b") None (codes "{\"n\":6}") ∷ index 4 1 2 (codes "b") None (codes "{\"n\":[1,null],\"o\":{\"p.q\":true},\"t\":\"x y\"}") ∷ index 5 1 3 (codes "b") None (codes "{\"n\":0}") ∷ index 6 1 1 (codes "d") None (codes "{\"n\":1}") ∷ [])) (replies.Applied 5) ∷
    entry (events.Replicate (sides.Follower 2) 1 2) replies.Done ∷
    entry (events.Replicate (sides.Follower 2) 1 3) replies.Done ∷
    entry (events.Replicate (sides.Follower 2) 1 4) replies.Done ∷
    entry (events.Replicate (sides.Follower 2) 1 5) replies.Done ∷
    entry (events.Replicate (sides.Follower 2) 1 6) replies.Done ∷
    entry (events.Written 2 0) replies.Done ∷
    entry (events.Ack (sides.Follower 2) 1) (replies.Acked 7) ∷
    entry (events.Sync (sides.Follower 2) 1) replies.Done ∷
    entry (events.Deliver 0 0 false) (replies.Heard heard.Done) ∷
    entry (events.Deliver 0 0 false) (replies.Heard heard.Done) ∷
    entry (events.Deliver 0 0 false) (replies.Heard heard.Parked) ∷
    entry (events.Deliver 0 0 false) (replies.Heard heard.Done) ∷
    entry (events.Take 0 0) (replies.Took (index 2 1 1 (195 ∷ 169 ∷ []) None (codes "{}") ∷ [])) ∷
    entry (events.Apply 0 1 0 (index 2 1 1 (195 ∷ 169 ∷ []) None (codes "{}") ∷ [])) (replies.Applied 1) ∷
    entry (events.Written 0 0) replies.Done ∷
    entry (events.Deliver 0 0 false) (replies.Heard heard.Parked) ∷
    entry (events.Deliver 0 0 false) (replies.Heard heard.Done) ∷
    entry (events.Deliver 0 0 false) (replies.Heard heard.Done) ∷
    entry (events.Take 0 1) (replies.Took (index 3 1 1 (codes "b") None (codes "{\"n\":6}") ∷ [])) ∷
    entry (events.Apply 0 1 1 (index 3 1 1 (codes "b") None (codes "{\"n\":6}") ∷ [])) (replies.Applied 1) ∷
    entry (events.Written 0 1) replies.Done ∷
    entry (events.Deliver 0 0 false) (replies.Heard heard.Done) ∷
    entry (events.Deliver 0 0 false) (replies.Heard heard.Done) ∷
    entry (events.Take 0 2) (replies.Took (index 4 1 2 (codes "b") None (codes "{\"n\":[1,null],\"o\":{\"p.q\":true},\"t\":\"x y\"}") ∷ [])) ∷
    entry (events.Apply 0 1 2 (index 4 1 2 (codes "b") None (codes "{\"n\":[1,null],\"o\":{\"p.q\":true},\"t\":\"x y\"}") ∷ [])) (replies.Applied 1) ∷
    entry (events.Written 0 2) replies.Done ∷
    entry (events.Deliver 0 0 false) (replies.Heard heard.Done) ∷
    entry (events.Deliver 0 0 false) (replies.Heard heard.Done) ∷
    entry (events.Take 0 3) (replies.Took (index 5 1 3 (codes "b") None (codes "{\"n\":0}") ∷ [])) ∷
    entry (events.Apply 0 1 3 (index 5 1 3 (codes "b") None (codes "{\"n\":0}") ∷ [])) (replies.Applied 1) ∷
    entry (events.Written 0 3) replies.Done ∷
    entry (events.Deliver 0 0 false) (replies.Heard heard.Done) ∷
    entry (events.Deliver 0 0 false) (replies.Heard heard.Done) ∷
    entry (events.Take 0 4) (replies.Took (index 6 1 1 (codes "d") None (codes "{\"n\":1}") ∷ [])) ∷
    entry (events.Apply 0 1 4 (index 6 1 1 (codes "d") None (codes "{\"n\":1}") ∷ [])) (replies.Applied 1) ∷
    entry (events.Written 0 4) replies.Done ∷
    entry (events.Deliver 0 0 false) (replies.Heard heard.Parked) ∷
    entry (events.Clock (sides.Follower 3) 50) replies.Done ∷
    entry (events.Tick 3) replies.Done ∷
    entry (events.Deliver 0 0 false) (replies.Heard (heard.Lease results.Exists 0)) ∷
    entry (events.Deliver 0 0 false) (replies.Heard heard.Done) ∷
    entry (events.Deliver 0 0 false) (replies.Heard heard.Done) ∷
    entry (events.Deliver 0 0 false) (replies.Heard heard.Done) ∷
    entry (events.Deliver 0 0 false) (replies.Heard heard.Done) ∷
    entry (events.Deliver 0 0 false) (replies.Heard heard.Done) ∷
    entry (events.Deliver 0 0 false) (replies.Heard heard.Done) ∷
    entry (events.Deliver 0 0 false) (replies.Heard heard.Done) ∷
    entry (events.Deliver 0 0 false) (replies.Heard heard.Parked) ∷
    entry events.Settle replies.Settled ∷
    entry (events.Status sides.Leader) (replies.LeaderStatus 1 (status 0 7 7 0 7 ∷ status 1 7 7 0 7 ∷ status 2 7 7 0 7 ∷ status 3 7 7 0 7 ∷ []) (lease (codes "z/4-following") 0 501 ∷ [])) ∷
    entry (events.Status (sides.Follower 0)) (replies.FollowerStatus (follower_status phases.Active 1 1 (status 0 7 7 0 7 ∷ []) 1 0 0)) ∷
    entry (events.Status (sides.Follower 1)) (replies.FollowerStatus (follower_status phases.Active 1 1 (status 0 7 7 0 7 ∷ status 1 7 7 0 7 ∷ status 2 7 7 0 7 ∷ []) 1 0 0)) ∷
    entry (events.Status (sides.Follower 2)) (replies.FollowerStatus (follower_status phases.Active 1 1 (status 0 7 7 0 7 ∷ status 1 7 7 0 7 ∷ []) 1 0 0)) ∷
    entry (events.Status (sides.Follower 3)) (replies.FollowerStatus (follower_status phases.Active 1 1 (status 0 7 7 0 7 ∷ status 1 7 7 0 7 ∷ []) 1 0 0)) ∷
    []
