-- Each event of a follower is refused where it has to be, and its bootstrap goes to its end with narrow parameters.
use Rattle.std.specs.Prelude.{true, false, List, [], ◌∷◌, Some, None, codes}
use Rattle.ccr_wire.specs.declared.kind.LeaseResult.TheVariants as results
use Rattle.ccr_query.specs.Queries.{condition}
use Rattle.ccr_query.specs.declared.conditions.Condition.TheVariants as conditions
use Rattle.ccr_journal.specs.declared.sides.Side.TheVariants as sides
use Rattle.ccr_journal.specs.declared.sides.Phase.TheVariants as phases
use Rattle.ccr_journal.specs.declared.events.Event.TheVariants as events
use Rattle.ccr_journal.specs.declared.journals.Entry.{Entry}
use Rattle.ccr_journal.specs.declared.replies.Heard.TheVariants as heard
use Rattle.ccr_journal.specs.declared.replies.Refusal.TheVariants as refusals
use Rattle.ccr_journal.specs.declared.replies.Reply.TheVariants as replies
use Rattle.ccr_journal.specs.declared.replies.WriteResult.TheVariants as written
use Rattle.ccr_model.specs.Leaders.{Start}
use Rattle.ccr_model_journals.specs.Words.{begun, entry, follower_status, index, lease, params, request, search_for, status, wrote}

abbrev pub each_refusal_of_a_follower_start : Start
each_refusal_of_a_follower_start = begun 2 7 100 0

abbrev pub each_refusal_of_a_follower_entries : List Entry
each_refusal_of_a_follower_entries =
    entry (events.Tick 0) (replies.Refused (refusals.NoFollower 0)) ∷
    entry (events.Wake 0 0) (replies.Refused (refusals.NoFollower 0)) ∷
    entry (events.Lose 0 0) (replies.Refused (refusals.NoFollower 0)) ∷
    entry (events.LoseWrite 0 0) (replies.Refused (refusals.NoFollower 0)) ∷
    entry (events.Take 0 0) (replies.Refused (refusals.NoFollower 0)) ∷
    entry (events.Apply 0 0 0 []) (replies.Refused (refusals.NoFollower 0)) ∷
    entry (events.Written 0 0) (replies.Refused (refusals.NoFollower 0)) ∷
    entry (events.Renew 0) (replies.Refused (refusals.NoFollower 0)) ∷
    entry (events.Pause 0) (replies.Refused (refusals.NoFollower 0)) ∷
    entry (events.Resume 0) (replies.Refused (refusals.NoFollower 0)) ∷
    entry (events.Restart 0) (replies.Refused (refusals.NoFollower 0)) ∷
    entry (events.Unfollow 0) (replies.Refused (refusals.NoFollower 0)) ∷
    entry (events.Status (sides.Follower 0)) (replies.Refused (refusals.NoFollower 0)) ∷
    entry (events.Clock (sides.Follower 0) 1) (replies.Refused (refusals.NoFollower 0)) ∷
    entry (events.Search (sides.Follower 0) 0 (search_for (condition conditions.MatchAll) [])) (replies.Refused (refusals.NoFollower 0)) ∷
    entry (events.AddCopy (sides.Follower 0)) (replies.Refused (refusals.NoFollower 0)) ∷
    entry (events.Drop 0) (replies.Refused (refusals.NoFrame 0)) ∷
    entry (events.Write (request (codes "a") None (Some (codes "{\"n\":1}")) false None)) (replies.Written (wrote 0 1 1 written.Created)) ∷
    entry events.Settle (replies.Refused refusals.NotSettled) ∷
    entry (events.Ack sides.Leader 9) (replies.Refused (refusals.NoCopy 9)) ∷
    entry (events.Sync sides.Leader 9) (replies.Refused (refusals.NoCopy 9)) ∷
    entry (events.Promote sides.Leader 9) (replies.Refused (refusals.NoCopy 9)) ∷
    entry (events.Promote sides.Leader 0) (replies.Refused (refusals.IsPrimary 0)) ∷
    entry (events.Replicate sides.Leader 9 0) (replies.Refused (refusals.NoCopy 9)) ∷
    entry (events.Flush sides.Leader 9) (replies.Refused (refusals.NoCopy 9)) ∷
    entry (events.Merge sides.Leader 9) (replies.Refused (refusals.NoCopy 9)) ∷
    entry (events.Resync 9) (replies.Refused (refusals.NoCopy 9)) ∷
    entry (events.Resync 0) (replies.Refused (refusals.IsPrimary 0)) ∷
    entry (events.Search sides.Leader 9 (search_for (condition conditions.MatchAll) [])) (replies.Refused (refusals.NoCopy 9)) ∷
    entry (events.FailCopy sides.Leader 9) (replies.Refused (refusals.NoCopy 9)) ∷
    entry (events.Follow (params 2 1000 2 2 1000 2 4 1000 100 50 64) 2 (codes "n")) replies.Done ∷
    entry (events.Follow (params 2 1000 2 2 1000 2 4 1000 100 50 64) 1 (codes "n")) (replies.Refused (refusals.SameName 0)) ∷
    entry (events.AddCopy (sides.Follower 0)) (replies.Refused refusals.Bootstrapping) ∷
    entry (events.Pause 0) (replies.Refused refusals.Bootstrapping) ∷
    entry (events.Resume 0) (replies.Refused refusals.NotPaused) ∷
    entry (events.Restart 0) (replies.Refused refusals.NotActive) ∷
    entry (events.Unfollow 0) (replies.Refused refusals.NotPaused) ∷
    entry (events.Renew 0) (replies.Refused refusals.NotActive) ∷
    entry (events.Deliver 0 9 false) (replies.Refused (refusals.NoCopy 9)) ∷
    entry (events.Deliver 0 0 true) (replies.Heard (heard.Waiting 1)) ∷
    entry (events.Sync sides.Leader 1) replies.Done ∷
    entry (events.Deliver 0 0 true) (replies.Heard (heard.Lease results.Exists 0)) ∷
    entry (events.Deliver 1 0 false) (replies.Heard heard.Done) ∷
    entry (events.Replicate sides.Leader 1 0) replies.Done ∷
    entry (events.Ack sides.Leader 1) (replies.Acked 1) ∷
    entry (events.Sync sides.Leader 1) replies.Done ∷
    entry (events.Deliver 2 0 false) (replies.Heard heard.Done) ∷
    entry (events.Deliver 2 0 false) (replies.Heard heard.Done) ∷
    entry (events.Deliver 2 0 false) (replies.Heard heard.Done) ∷
    entry (events.Deliver 2 0 false) (replies.Heard heard.Done) ∷
    entry (events.Status (sides.Follower 0)) (replies.FollowerStatus (follower_status phases.Active 1 1 (status 0 1 1 0 1 ∷ status 1 1 1 0 1 ∷ []) 1 0 0)) ∷
    entry (events.Deliver 2 1 false) (replies.Heard heard.Parked) ∷
    entry (events.Write (request (codes "b") None (Some (codes "{\"n\":2}")) false None)) (replies.Written (wrote 1 1 1 written.Created)) ∷
    entry (events.Write (request (codes "a") None (Some (codes "{\"n\":3}")) false None)) (replies.Written (wrote 2 1 2 written.Updated)) ∷
    entry (events.Replicate sides.Leader 1 1) replies.Done ∷
    entry (events.Replicate sides.Leader 1 2) replies.Done ∷
    entry (events.Ack sides.Leader 1) (replies.Acked 3) ∷
    entry (events.Sync sides.Leader 1) replies.Done ∷
    entry (events.Wake 0 0) (replies.Heard heard.Done) ∷
    entry (events.Deliver 2 0 false) (replies.Heard heard.Done) ∷
    entry (events.Renew 0) replies.Done ∷
    entry (events.LoseWrite 0 0) replies.Done ∷
    entry (events.Clock (sides.Follower 0) 50) replies.Done ∷
    entry (events.Tick 0) replies.Done ∷
    entry (events.Take 0 0) (replies.Took (index 1 1 1 (codes "b") None (codes "{\"n\":2}") ∷ index 2 1 2 (codes "a") None (codes "{\"n\":3}") ∷ [])) ∷
    entry (events.Apply 0 1 0 (index 1 1 1 (codes "b") None (codes "{\"n\":2}") ∷ index 2 1 2 (codes "a") None (codes "{\"n\":3}") ∷ [])) (replies.Applied 2) ∷
    entry (events.Ack (sides.Follower 0) 9) (replies.Refused (refusals.NoCopy 9)) ∷
    entry (events.Sync (sides.Follower 0) 9) (replies.Refused (refusals.NoCopy 9)) ∷
    entry (events.Promote (sides.Follower 0) 9) (replies.Refused (refusals.NoCopy 9)) ∷
    entry (events.Promote (sides.Follower 0) 0) (replies.Refused (refusals.IsPrimary 0)) ∷
    entry (events.Replicate (sides.Follower 0) 9 0) (replies.Refused (refusals.NoCopy 9)) ∷
    entry (events.Replicate (sides.Follower 0) 0 0) (replies.Refused (refusals.IsPrimary 0)) ∷
    entry (events.Replicate (sides.Follower 0) 1 7) (replies.Refused (refusals.NoOperation 7)) ∷
    entry (events.Flush (sides.Follower 0) 9) (replies.Refused (refusals.NoCopy 9)) ∷
    entry (events.Merge (sides.Follower 0) 9) (replies.Refused (refusals.NoCopy 9)) ∷
    entry (events.Search (sides.Follower 0) 9 (search_for (condition conditions.MatchAll) [])) (replies.Refused (refusals.NoCopy 9)) ∷
    entry (events.FailCopy (sides.Follower 0) 0) (replies.Refused (refusals.IsPrimary 0)) ∷
    entry (events.FailCopy (sides.Follower 0) 9) (replies.Refused (refusals.NoCopy 9)) ∷
    entry (events.Ack (sides.Follower 0) 0) (replies.Refused (refusals.IsPrimary 0)) ∷
    entry (events.Sync (sides.Follower 0) 0) (replies.Refused (refusals.IsPrimary 0)) ∷
    entry (events.Replicate (sides.Follower 0) 1 1) replies.Done ∷
    entry (events.Replicate (sides.Follower 0) 1 2) replies.Done ∷
    entry (events.Ack (sides.Follower 0) 1) (replies.Acked 3) ∷
    entry (events.Sync (sides.Follower 0) 1) replies.Done ∷
    entry (events.Written 0 0) replies.Done ∷
    entry (events.Renew 0) replies.Done ∷
    entry (events.Deliver 4 0 true) (replies.Heard (heard.Lease results.Ok 3)) ∷
    entry (events.Deliver 3 0 false) (replies.Heard (heard.Lease results.LowNumber 3)) ∷
    entry (events.Renew 0) replies.Done ∷
    entry (events.AddCopy (sides.Follower 0)) (replies.Added 2) ∷
    entry (events.FailCopy (sides.Follower 0) 1) replies.Done ∷
    entry (events.FailCopy (sides.Follower 0) 2) replies.Done ∷
    entry (events.FailCopy (sides.Follower 0) 0) (replies.Refused (refusals.LastCopy 0)) ∷
    entry (events.Flush (sides.Follower 0) 0) (replies.Flushed 3) ∷
    entry (events.Merge (sides.Follower 0) 0) (replies.Merged 3 0 []) ∷
    entry (events.Status (sides.Follower 0)) (replies.FollowerStatus (follower_status phases.Active 1 1 (status 0 3 3 3 3 ∷ []) 1 0 0)) ∷
    entry (events.Restart 0) replies.Done ∷
    entry (events.Status (sides.Follower 0)) (replies.FollowerStatus (follower_status phases.Active 2 1 (status 0 3 3 3 3 ∷ []) 1 0 0)) ∷
    entry (events.Pause 0) replies.Done ∷
    entry (events.Status (sides.Follower 0)) (replies.FollowerStatus (follower_status phases.Paused 2 1 (status 0 3 3 3 3 ∷ []) 0 0 0)) ∷
    entry (events.Resume 0) replies.Done ∷
    entry (events.Renew 0) replies.Done ∷
    entry (events.Promote sides.Leader 1) (replies.Promoted 2 0) ∷
    entry (events.Status sides.Leader) (replies.LeaderStatus 2 (status 1 3 3 0 3 ∷ []) (lease (codes "n") 0 0 ∷ [])) ∷
    entry (events.AddCopy sides.Leader) (replies.Added 2) ∷
    entry (events.AddCopy sides.Leader) (replies.Added 3) ∷
    entry (events.Write (request (codes "c") None (Some (codes "{\"n\":4}")) false None)) (replies.Written (wrote 3 2 1 written.Created)) ∷
    entry (events.Promote sides.Leader 2) (replies.Promoted 3 0) ∷
    entry (events.Ack sides.Leader 3) (replies.Refused (refusals.NotReady 3)) ∷
    entry (events.Sync sides.Leader 3) (replies.Refused (refusals.NotReady 3)) ∷
    entry (events.Replicate sides.Leader 3 0) (replies.Refused (refusals.NotReady 3)) ∷
    entry (events.Resync 3) (replies.Resynced 0 0) ∷
    entry (events.Ack sides.Leader 3) (replies.Acked 3) ∷
    entry (events.Resync 3) (replies.Resynced 0 0) ∷
    entry (events.AddCopy sides.Leader) (replies.Added 4) ∷
    entry (events.AddCopy sides.Leader) (replies.Added 5) ∷
    entry (events.AddCopy sides.Leader) (replies.Added 6) ∷
    entry (events.AddCopy sides.Leader) (replies.Added 7) ∷
    entry (events.AddCopy sides.Leader) (replies.Added 8) ∷
    entry (events.AddCopy sides.Leader) (replies.Added 9) ∷
    entry (events.AddCopy sides.Leader) (replies.Refused refusals.TooMany) ∷
    entry (events.Clock sides.Leader 40) replies.Done ∷
    entry (events.Deliver 3 2 false) (replies.Heard (heard.Lease results.Ok 3)) ∷
    entry (events.Pause 0) replies.Done ∷
    entry (events.Unfollow 0) replies.Done ∷
    entry (events.Deliver 10 2 true) (replies.Heard (heard.Lease results.Ok 3)) ∷
    entry (events.Deliver 10 2 false) (replies.Heard (heard.Lease results.NotFound 0)) ∷
    entry (events.Pause 0) replies.Done ∷
    entry (events.Resume 0) (replies.Refused refusals.NotPaused) ∷
    entry (events.Unfollow 0) replies.Done ∷
    entry (events.Status (sides.Follower 0)) (replies.FollowerStatus (follower_status phases.Unfollowed 3 1 (status 0 3 3 3 3 ∷ []) 0 0 0)) ∷
    entry (events.Status sides.Leader) (replies.LeaderStatus 3 (status 2 3 3 0 3 ∷ status 3 3 3 0 3 ∷ status 4 3 3 0 3 ∷ status 5 3 3 0 3 ∷ status 6 3 3 0 3 ∷ status 7 3 3 0 3 ∷ status 8 3 3 0 3 ∷ status 9 3 3 0 3 ∷ []) []) ∷
    []
