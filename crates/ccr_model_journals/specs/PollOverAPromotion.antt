-- A poll at the lost primary ends with a promotion, and one at another copy stays until that leaves.
use Rattle.std.specs.Prelude.{false, List, [], ◌∷◌, Some, None, codes}
use Rattle.ccr_journal.specs.declared.sides.Side.TheVariants as sides
use Rattle.ccr_journal.specs.declared.events.Event.TheVariants as events
use Rattle.ccr_journal.specs.declared.journals.Entry.{Entry}
use Rattle.ccr_journal.specs.declared.replies.Heard.TheVariants as heard
use Rattle.ccr_journal.specs.declared.replies.Refusal.TheVariants as refusals
use Rattle.ccr_journal.specs.declared.replies.Reply.TheVariants as replies
use Rattle.ccr_journal.specs.declared.replies.WriteResult.TheVariants as written
use Rattle.ccr_model.specs.Leaders.{Start}
use Rattle.ccr_model_journals.specs.Words.{begun, entry, lease, params, request, status, wrote}

abbrev pub poll_over_a_promotion_start : Start
poll_over_a_promotion_start = begun 3 7 1000000 0

abbrev pub poll_over_a_promotion_entries : List Entry
poll_over_a_promotion_entries =
    entry (events.Write (request (codes "a") None (Some (codes "{\"n\":1}")) false None)) (replies.Written (wrote 0 1 1 written.Created)) ∷
    entry (events.Write (request (codes "b") None (Some (codes "{\"n\":1}")) false None)) (replies.Written (wrote 1 1 1 written.Created)) ∷
    entry (events.Replicate sides.Leader 1 0) replies.Done ∷
    entry (events.Replicate sides.Leader 1 1) replies.Done ∷
    entry (events.Ack sides.Leader 1) (replies.Acked 0) ∷
    entry (events.Sync sides.Leader 1) replies.Done ∷
    entry (events.Replicate sides.Leader 2 0) replies.Done ∷
    entry (events.Replicate sides.Leader 2 1) replies.Done ∷
    entry (events.Ack sides.Leader 2) (replies.Acked 2) ∷
    entry (events.Sync sides.Leader 1) replies.Done ∷
    entry (events.Follow (params 3 1000 2 3 1000 1 4 1000 100 50 4096) 1 (codes "n")) replies.Done ∷
    entry (events.Deliver 0 0 false) (replies.Heard (heard.Waiting 1)) ∷
    entry (events.Sync sides.Leader 1) replies.Done ∷
    entry (events.Sync sides.Leader 2) replies.Done ∷
    entry (events.Write (request (codes "c") None (Some (codes "{\"n\":1}")) false None)) (replies.Written (wrote 2 1 1 written.Created)) ∷
    entry (events.Replicate sides.Leader 2 2) replies.Done ∷
    entry (events.Promote sides.Leader 1) (replies.Promoted 2 0) ∷
    entry (events.Write (request (codes "d") None (Some (codes "{\"n\":1}")) false None)) (replies.Written (wrote 2 2 1 written.Created)) ∷
    entry (events.Status sides.Leader) (replies.LeaderStatus 2 (status 1 3 2 0 3 ∷ status 2 3 2 0 3 ∷ []) (lease (codes "n") 0 0 ∷ [])) ∷
    entry (events.Deliver 0 1 false) (replies.Heard heard.Done) ∷
    entry (events.Deliver 0 1 false) (replies.Heard (heard.NotReady 2)) ∷
    entry (events.Resync 2) (replies.Resynced 1 1) ∷
    entry (events.Ack sides.Leader 2) (replies.Acked 3) ∷
    entry (events.Status sides.Leader) (replies.LeaderStatus 2 (status 1 3 3 0 3 ∷ status 2 3 2 0 3 ∷ []) (lease (codes "n") 0 0 ∷ [])) ∷
    entry (events.Clock (sides.Follower 0) 50) replies.Done ∷
    entry (events.Deliver 0 1 false) (replies.Heard heard.Done) ∷
    entry (events.Clock (sides.Follower 0) 100) replies.Done ∷
    entry (events.Tick 0) replies.Done ∷
    entry (events.Deliver 0 1 false) (replies.Heard heard.Done) ∷
    entry (events.Deliver 0 1 false) (replies.Heard heard.Done) ∷
    entry (events.Deliver 0 1 false) (replies.Heard heard.Done) ∷
    entry (events.Deliver 0 1 false) (replies.Heard heard.Done) ∷
    entry (events.Deliver 0 2 false) (replies.Heard heard.Parked) ∷
    entry (events.FailCopy sides.Leader 2) replies.Done ∷
    entry (events.Wake 0 0) (replies.Refused (refusals.NoPoll 0)) ∷
    entry (events.Write (request (codes "e") None (Some (codes "{\"n\":1}")) false None)) (replies.Written (wrote 3 2 1 written.Created)) ∷
    entry (events.Status sides.Leader) (replies.LeaderStatus 2 (status 1 4 4 0 4 ∷ []) (lease (codes "n") 0 0 ∷ [])) ∷
    []
