-- Merges, flushes and lost requests of a leader of two copies and its follower, in a random order.
use Rattle.std.specs.Prelude.{true, false, List, [], ◌∷◌, ◌++◌, Some, None, codes}
use Rattle.ccr_doc.specs.declared.sources.BadSource.TheVariants as faults
use Rattle.ccr_query.specs.Queries.{condition}
use Rattle.ccr_query.specs.declared.conditions.Condition.TheVariants as conditions
use Rattle.ccr_query.specs.declared.sorting.SortOrder.TheVariants as orders
use Rattle.ccr_journal.specs.declared.sides.Side.TheVariants as sides
use Rattle.ccr_journal.specs.declared.sides.Phase.TheVariants as phases
use Rattle.ccr_journal.specs.declared.events.Event.TheVariants as events
use Rattle.ccr_journal.specs.declared.journals.Entry.{Entry}
use Rattle.ccr_journal.specs.declared.replies.Heard.TheVariants as heard
use Rattle.ccr_journal.specs.declared.replies.Refusal.TheVariants as refusals
use Rattle.ccr_journal.specs.declared.replies.Reply.TheVariants as replies
use Rattle.ccr_journal.specs.declared.replies.WriteResult.TheVariants as written
use Rattle.ccr_model.specs.Leaders.{Start}
use Rattle.ccr_model_journals.specs.Words.{begun, entry, follower_status, found, hit, key, params, request, search_for, status, wrote}

abbrev pub merges_and_losses_start : Start
merges_and_losses_start = begun 2 233123597930171938637576872671869459266 2000 0

abbrev pub merges_and_losses_entries : List Entry
merges_and_losses_entries =
    entry (events.Write (request (codes "d") None (Some (codes "{\"n\":0}")) false None)) (replies.Written (wrote 0 1 1 written.Created)) ∷
    entry (events.Write (request (codes "a") None (Some (codes "{\"n\":2}")) false None)) (replies.Written (wrote 1 1 1 written.Created)) ∷
    entry (events.Write (request (codes "b") None (Some (codes "{\"n\":0}")) false None)) (replies.Written (wrote 2 1 1 written.Created)) ∷
    entry (events.Write (request (codes "d") None (Some (codes "{\"n\":4}")) false None)) (replies.Written (wrote 3 1 2 written.Updated)) ∷
    entry (events.Write (request (codes "d") None (Some (codes "{\"n\":8}")) false None)) (replies.Written (wrote 4 1 3 written.Updated)) ∷
    entry (events.Write (request (codes "c") None (Some (codes "{\"n\":5}")) false None)) (replies.Written (wrote 5 1 1 written.Created)) ∷
    entry (events.Write (request (codes "a") None (Some (codes "{\"n\":6}")) false None)) (replies.Written (wrote 6 1 2 written.Updated)) ∷
    entry (events.Write (request (195 ∷ 169 ∷ []) None (Some (codes "{\"n\":5}")) false None)) (replies.Written (wrote 7 1 1 written.Created)) ∷
    entry (events.Follow (params 5120 1 12 5120 100 1 2147483647 50 500 60000 1048576) 2 (codes "b/f/0d4c2c54-b543-5c37-9e34-0a9608dd1386-following-a/l/223c283b-627d-5bac-9463-bf337a05a8ea")) replies.Done ∷
    entry (events.Sync sides.Leader 1) replies.Done ∷
    entry (events.Deliver 0 0 true) (replies.Heard (heard.Waiting 1)) ∷
    entry (events.Deliver 0 0 true) (replies.Heard (heard.Waiting 1)) ∷
    entry (events.Deliver 0 0 false) (replies.Heard (heard.Waiting 1)) ∷
    entry (events.Write (request (codes "a") None None false None)) (replies.Written (wrote 8 1 3 written.Deleted)) ∷
    entry (events.Search sides.Leader 1 (search_for (condition conditions.MatchAll) [])) (replies.Found (found 0 false [])) ∷
    entry (events.Promote sides.Leader 1) (replies.Promoted 2 0) ∷
    entry (events.Clock (sides.Follower 0) 51) replies.Done ∷
    entry (events.Tick 0) replies.Done ∷
    entry (events.Merge sides.Leader 1) (replies.Merged 0 0 []) ∷
    entry (events.Write (request (codes "d") None (Some (codes "{\"n\":7}")) false None)) (replies.Written (wrote 0 2 1 written.Created)) ∷
    entry (events.Write (request (codes "b") None None false (Some (9, 1)))) (replies.Refused (refusals.Conflict None)) ∷
    entry (events.Search (sides.Follower 0) 1 (search_for (condition conditions.MatchAll) [])) (replies.Found (found 0 false [])) ∷
    entry (events.Deliver 2 1 false) (replies.Refused (refusals.NoFrame 2)) ∷
    entry (events.Status sides.Leader) (replies.LeaderStatus 2 (status 1 1 1 0 1 ∷ []) []) ∷
    entry (events.Flush sides.Leader 1) (replies.Flushed 1) ∷
    entry (events.Write (request (codes "c") None (Some (codes "{\"n\":[1,null],\"o\":{\"p.q\":-5},\"t\":\"\"}")) false None)) (replies.Written (wrote 1 2 1 written.Created)) ∷
    entry (events.Lose 0 0) replies.Done ∷
    entry (events.Flush sides.Leader 1) (replies.Flushed 2) ∷
    entry (events.Merge sides.Leader 1) (replies.Merged 2 0 (0 ∷ 1 ∷ [])) ∷
    entry (events.Flush sides.Leader 1) (replies.Flushed 2) ∷
    entry (events.Merge sides.Leader 1) (replies.Merged 2 0 (0 ∷ [])) ∷
    entry (events.Deliver 2 1 false) (replies.Refused (refusals.NoFrame 2)) ∷
    entry (events.Merge sides.Leader 1) (replies.Merged 2 0 (0 ∷ [])) ∷
    entry (events.Status sides.Leader) (replies.LeaderStatus 2 (status 1 2 2 2 2 ∷ []) []) ∷
    entry (events.Flush sides.Leader 1) (replies.Flushed 2) ∷
    entry (events.Merge sides.Leader 1) (replies.Merged 2 0 (0 ∷ [])) ∷
    entry (events.Write (request (codes "b") None (Some (codes "{\"n\":6}")) false (Some (7, 2)))) (replies.Refused (refusals.Conflict None)) ∷
    entry (events.Merge sides.Leader 1) (replies.Merged 2 0 (0 ∷ [])) ∷
    entry (events.Clock sides.Leader 50) replies.Done ∷
    entry events.Expire (replies.Expired []) ∷
    entry events.CloseSessions (replies.Closed 0) ∷
    entry (events.Flush sides.Leader 1) (replies.Flushed 2) ∷
    entry (events.AddCopy sides.Leader) (replies.Added 2) ∷
    entry (events.Written 0 4) (replies.Refused (refusals.NoBatch 4)) ∷
    entry (events.Ack sides.Leader 2) (replies.Acked 2) ∷
    entry (events.Sync sides.Leader 2) replies.Done ∷
    entry (events.Clock sides.Leader 2050) replies.Done ∷
    entry events.Expire (replies.Expired []) ∷
    entry events.CloseSessions (replies.Closed 0) ∷
    entry (events.Written 0 5) (replies.Refused (refusals.NoBatch 5)) ∷
    entry (events.Sync sides.Leader 2) replies.Done ∷
    entry (events.Resync 2) (replies.Resynced 0 0) ∷
    entry (events.Write (request (codes "c") None (Some (codes "{\"n\":1.5}")) false None)) (replies.Refused (refusals.BadSource faults.Number)) ∷
    entry (events.Sync (sides.Follower 0) 1) replies.Done ∷
    entry (events.Replicate sides.Leader 2 0) replies.Done ∷
    entry (events.Lose 0 0) (replies.Refused (refusals.NoRequest 0)) ∷
    entry (events.Status (sides.Follower 0)) (replies.FollowerStatus (follower_status phases.Leasing 0 1 (status 0 0 0 0 0 ∷ status 1 0 0 0 0 ∷ []) 0 0 0)) ∷
    entry (events.Sync sides.Leader 2) replies.Done ∷
    entry (events.Write (request (codes "d") None (Some (codes "null")) true None)) (replies.Refused (refusals.BadSource faults.NotObject)) ∷
    entry (events.Deliver 0 1 false) (replies.Refused (refusals.NoFrame 0)) ∷
    entry (events.Write (request (codes "c") None None false None)) (replies.Written (wrote 2 2 2 written.Deleted)) ∷
    entry (events.Write (request (codes "a") None None false None)) (replies.Written (wrote 3 2 1 written.NotFound)) ∷
    entry (events.Write (request (codes "b") None None false None)) (replies.Written (wrote 4 2 1 written.NotFound)) ∷
    entry (events.FailCopy sides.Leader 2) replies.Done ∷
    entry (events.Flush sides.Leader 1) (replies.Flushed 5) ∷
    entry (events.Merge sides.Leader 1) (replies.Merged 5 4 (0 ∷ 1 ∷ [])) ∷
    entry (events.Write (request (codes "d") None (Some (codes "{\"n\":5}")) false None)) (replies.Written (wrote 5 2 2 written.Updated)) ∷
    entry (events.Search (sides.Follower 0) 0 (search_for (condition (conditions.Match (codes "t") (195 ∷ 169 ∷ []))) [])) (replies.Found (found 0 false [])) ∷
    entry (events.Merge sides.Leader 1) (replies.Merged 5 1 (0 ∷ [])) ∷
    entry (events.Deliver 1 1 false) (replies.Refused (refusals.NoFrame 1)) ∷
    entry (events.FailCopy (sides.Follower 0) 1) replies.Done ∷
    entry (events.Clock (sides.Follower 0) 0) replies.Done ∷
    entry (events.Tick 0) replies.Done ∷
    entry (events.Write (request (codes "b") None None false None)) (replies.Written (wrote 6 2 1 written.NotFound)) ∷
    entry (events.Ack sides.Leader 1) (replies.Refused (refusals.IsPrimary 1)) ∷
    entry (events.Search (sides.Follower 0) 0 (search_for (condition conditions.MatchAll) [])) (replies.Found (found 0 false [])) ∷
    entry (events.Merge (sides.Follower 0) 0) (replies.Merged 0 0 []) ∷
    entry (events.Merge sides.Leader 1) (replies.Merged 5 0 []) ∷
    entry (events.FailCopy (sides.Follower 0) 0) (replies.Refused (refusals.LastCopy 0)) ∷
    entry (events.Write (request (codes "a") None (Some (codes "{\"n\":9}")) false None)) (replies.Written (wrote 7 2 1 written.Created)) ∷
    entry (events.Flush sides.Leader 1) (replies.Flushed 8) ∷
    entry (events.Flush (sides.Follower 0) 0) (replies.Flushed 0) ∷
    entry (events.Write (request (codes "a") None (Some (codes "{\"n\":1}")) true None)) (replies.Refused (refusals.Exists 7)) ∷
    entry (events.Flush sides.Leader 1) (replies.Flushed 8) ∷
    entry (events.Write (request (codes "c") None (Some (codes "{\"n\":[3,null],\"o\":{\"p.q\":-5},\"t\":\"" ++ (195 ∷ 169 ∷ []) ++ codes "-b\"}")) false None)) (replies.Written (wrote 8 2 1 written.Created)) ∷
    entry (events.Search sides.Leader 1 (search_for (condition conditions.MatchAll) (key (codes "o.p.q") orders.Desc ∷ key (codes "o.p.q") orders.Asc ∷ []))) (replies.Found (found 9 false (hit (codes "c") None (codes "{\"n\":[3,null],\"o\":{\"p.q\":-5},\"t\":\"" ++ (195 ∷ 169 ∷ []) ++ codes "-b\"}") ∷ hit (codes "a") None (codes "{\"n\":9}") ∷ hit (codes "d") None (codes "{\"n\":5}") ∷ []))) ∷
    entry (events.Lose 0 0) (replies.Refused (refusals.NoRequest 0)) ∷
    entry (events.Written 0 2) (replies.Refused (refusals.NoBatch 2)) ∷
    entry (events.Write (request (codes "a") None (Some (codes "{\"n\":3}")) false None)) (replies.Written (wrote 9 2 2 written.Updated)) ∷
    entry (events.Flush sides.Leader 1) (replies.Flushed 10) ∷
    []
