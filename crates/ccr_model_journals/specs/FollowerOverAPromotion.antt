-- A follower's writes, renewals, restart and pause over the promotion of its replica.
use Rattle.std.specs.Prelude.{false, List, [], ◌∷◌, Some, None, codes}
use Rattle.ccr_wire.specs.declared.kind.LeaseResult.TheVariants as results
use Rattle.ccr_journal.specs.declared.sides.Side.TheVariants as sides
use Rattle.ccr_journal.specs.declared.sides.Phase.TheVariants as phases
use Rattle.ccr_journal.specs.declared.events.Event.TheVariants as events
use Rattle.ccr_journal.specs.declared.journals.Entry.{Entry}
use Rattle.ccr_journal.specs.declared.replies.Heard.TheVariants as heard
use Rattle.ccr_journal.specs.declared.replies.Refusal.TheVariants as refusals
use Rattle.ccr_journal.specs.declared.replies.Reply.TheVariants as replies
use Rattle.ccr_journal.specs.declared.replies.WriteResult.TheVariants as written
use Rattle.ccr_model.specs.Leaders.{Start}
use Rattle.ccr_model_journals.specs.Words.{begun, entry, follower_status, index, params, request, status, wrote}

abbrev pub follower_over_a_promotion_start : Start
follower_over_a_promotion_start = begun 2 7 1000000 0

abbrev pub follower_over_a_promotion_entries : List Entry
follower_over_a_promotion_entries =
    entry (events.Write (request (codes "a") None (Some (codes "{\"n\":1}")) false None)) (replies.Written (wrote 0 1 1 written.Created)) ∷
    entry (events.Write (request (codes "b") None (Some (codes "{\"n\":1}")) false None)) (replies.Written (wrote 1 1 1 written.Created)) ∷
    entry (events.Write (request (codes "c") None (Some (codes "{\"n\":1}")) false None)) (replies.Written (wrote 2 1 1 written.Created)) ∷
    entry (events.Replicate sides.Leader 1 0) replies.Done ∷
    entry (events.Replicate sides.Leader 1 1) replies.Done ∷
    entry (events.Ack sides.Leader 1) (replies.Acked 2) ∷
    entry (events.Sync sides.Leader 1) replies.Done ∷
    entry (events.Follow (params 3 1000 2 3 1000 1 4 1000 100 50 4096) 3 (codes "n")) replies.Done ∷
    entry (events.Deliver 0 0 false) (replies.Heard (heard.Waiting 1)) ∷
    entry (events.Sync sides.Leader 1) replies.Done ∷
    entry (events.Deliver 0 0 false) (replies.Heard heard.Done) ∷
    entry (events.Deliver 0 0 false) (replies.Heard heard.Done) ∷
    entry (events.Deliver 0 0 false) (replies.Heard heard.Done) ∷
    entry (events.Deliver 0 0 false) (replies.Heard heard.Done) ∷
    entry (events.Deliver 0 0 false) (replies.Heard heard.Done) ∷
    entry (events.Status (sides.Follower 0)) (replies.FollowerStatus (follower_status phases.Active 1 1 (status 0 2 2 0 2 ∷ status 1 2 2 0 2 ∷ status 2 2 2 0 2 ∷ []) 1 0 0)) ∷
    entry (events.Write (request (codes "a") None (Some (codes "{\"n\":2}")) false None)) (replies.Written (wrote 3 1 2 written.Updated)) ∷
    entry (events.Write (request (codes "d") None (Some (codes "{\"n\":1}")) false None)) (replies.Written (wrote 4 1 1 written.Created)) ∷
    entry (events.Write (request (codes "e") None (Some (codes "{\"n\":1}")) false None)) (replies.Written (wrote 5 1 1 written.Created)) ∷
    entry (events.Replicate sides.Leader 1 2) replies.Done ∷
    entry (events.Replicate sides.Leader 1 3) replies.Done ∷
    entry (events.Replicate sides.Leader 1 4) replies.Done ∷
    entry (events.Replicate sides.Leader 1 5) replies.Done ∷
    entry (events.Ack sides.Leader 1) (replies.Acked 6) ∷
    entry (events.Sync sides.Leader 1) replies.Done ∷
    entry (events.Deliver 0 0 false) (replies.Heard heard.Done) ∷
    entry (events.Deliver 0 0 false) (replies.Heard heard.Done) ∷
    entry (events.Status (sides.Follower 0)) (replies.FollowerStatus (follower_status phases.Active 1 1 (status 0 2 2 0 2 ∷ status 1 2 2 0 2 ∷ status 2 2 2 0 2 ∷ []) 1 0 1)) ∷
    entry (events.Apply 0 1 0 (index 2 1 1 (codes "c") None (codes "{\"n\":1}") ∷ index 3 1 2 (codes "a") None (codes "{\"n\":2}") ∷ [])) (replies.Refused (refusals.NoBatch 0)) ∷
    entry (events.Unfollow 0) (replies.Refused refusals.NotPaused) ∷
    entry (events.Take 0 0) (replies.Took (index 2 1 1 (codes "c") None (codes "{\"n\":1}") ∷ index 3 1 2 (codes "a") None (codes "{\"n\":2}") ∷ index 4 1 1 (codes "d") None (codes "{\"n\":1}") ∷ [])) ∷
    entry (events.Apply 0 1 0 (index 2 1 1 (codes "c") None (codes "{\"n\":1}") ∷ index 3 1 2 (codes "a") None (codes "{\"n\":2}") ∷ index 4 1 1 (codes "d") None (codes "{\"n\":1}") ∷ [])) (replies.Applied 3) ∷
    entry (events.Renew 0) replies.Done ∷
    entry (events.Deliver 1 0 false) (replies.Heard (heard.Lease results.Ok 2)) ∷
    entry (events.Replicate (sides.Follower 0) 1 2) replies.Done ∷
    entry (events.Replicate (sides.Follower 0) 1 3) replies.Done ∷
    entry (events.Replicate (sides.Follower 0) 2 2) replies.Done ∷
    entry (events.Promote (sides.Follower 0) 1) (replies.Promoted 2 0) ∷
    entry (events.Status (sides.Follower 0)) (replies.FollowerStatus (follower_status phases.Active 1 2 (status 1 4 3 0 4 ∷ status 2 3 2 0 3 ∷ []) 1 0 1)) ∷
    entry (events.Restart 0) replies.Done ∷
    entry (events.Deliver 0 0 false) (replies.Heard heard.Done) ∷
    entry (events.Deliver 2 0 false) (replies.Heard heard.Ignored) ∷
    entry (events.Status (sides.Follower 0)) (replies.FollowerStatus (follower_status phases.Active 2 2 (status 1 4 3 0 4 ∷ status 2 3 2 0 3 ∷ []) 1 0 0)) ∷
    entry (events.Pause 0) replies.Done ∷
    entry (events.Status (sides.Follower 0)) (replies.FollowerStatus (follower_status phases.Paused 2 2 (status 1 4 3 0 4 ∷ status 2 3 2 0 3 ∷ []) 0 0 0)) ∷
    entry (events.Resume 0) replies.Done ∷
    entry (events.FailCopy (sides.Follower 0) 2) replies.Done ∷
    entry (events.Status (sides.Follower 0)) (replies.FollowerStatus (follower_status phases.Active 3 2 (status 1 4 4 0 4 ∷ []) 1 0 0)) ∷
    entry (events.Renew 0) replies.Done ∷
    entry (events.Deliver 3 0 false) (replies.Heard (heard.Lease results.Ok 3)) ∷
    entry (events.Deliver 2 0 false) (replies.Heard heard.Done) ∷
    entry (events.Deliver 3 0 false) (replies.Heard heard.Done) ∷
    entry (events.Take 0 0) (replies.Took (index 3 1 2 (codes "a") None (codes "{\"n\":2}") ∷ index 4 1 1 (codes "d") None (codes "{\"n\":1}") ∷ index 5 1 1 (codes "e") None (codes "{\"n\":1}") ∷ [])) ∷
    entry (events.Apply 0 3 0 (index 3 1 2 (codes "a") None (codes "{\"n\":2}") ∷ index 4 1 1 (codes "d") None (codes "{\"n\":1}") ∷ index 5 1 1 (codes "e") None (codes "{\"n\":1}") ∷ [])) (replies.Applied 2) ∷
    entry events.Settle (replies.Refused refusals.NotSettled) ∷
    entry (events.Flush (sides.Follower 0) 1) (replies.Flushed 6) ∷
    entry (events.Merge (sides.Follower 0) 1) (replies.Merged 6 1 (0 ∷ [])) ∷
    entry (events.Status (sides.Follower 0)) (replies.FollowerStatus (follower_status phases.Active 3 2 (status 1 6 6 6 5 ∷ []) 1 0 1)) ∷
    []
