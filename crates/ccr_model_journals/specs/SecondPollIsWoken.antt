-- Of two polls of a follower the second is woken.
use Rattle.std.specs.Prelude.{false, List, [], ◌∷◌, Some, None, codes}
use Rattle.ccr_journal.specs.declared.sides.Side.TheVariants as sides
use Rattle.ccr_journal.specs.declared.sides.Phase.TheVariants as phases
use Rattle.ccr_journal.specs.declared.events.Event.TheVariants as events
use Rattle.ccr_journal.specs.declared.journals.Entry.{Entry}
use Rattle.ccr_journal.specs.declared.replies.Heard.TheVariants as heard
use Rattle.ccr_journal.specs.declared.replies.Refusal.TheVariants as refusals
use Rattle.ccr_journal.specs.declared.replies.Reply.TheVariants as replies
use Rattle.ccr_journal.specs.declared.replies.WriteResult.TheVariants as written
use Rattle.ccr_model.specs.Leaders.{Start}
use Rattle.ccr_model_journals.specs.Words.{begun, default_params, entry, follower_status, request, status, wrote}

abbrev pub second_poll_is_woken_start : Start
second_poll_is_woken_start = begun 2 7 43200000 0

abbrev pub second_poll_is_woken_entries : List Entry
second_poll_is_woken_entries =
    entry (events.Follow default_params 1 (codes "f")) replies.Done ∷
    entry (events.Deliver 0 0 false) (replies.Heard (heard.Waiting 1)) ∷
    entry (events.Sync sides.Leader 1) replies.Done ∷
    entry (events.Deliver 0 0 false) (replies.Heard heard.Done) ∷
    entry (events.Deliver 0 0 false) (replies.Heard heard.Done) ∷
    entry (events.Deliver 0 0 false) (replies.Heard heard.Done) ∷
    entry (events.Deliver 0 1 false) (replies.Heard heard.Parked) ∷
    entry (events.Restart 0) replies.Done ∷
    entry (events.Deliver 0 0 false) (replies.Heard heard.Parked) ∷
    entry (events.Write (request (codes "a") None (Some (codes "{\"n\":1}")) false None)) (replies.Written (wrote 0 1 1 written.Created)) ∷
    entry (events.Wake 0 1) (replies.Refused (refusals.Wait 0)) ∷
    entry (events.Ack sides.Leader 1) (replies.Acked 0) ∷
    entry (events.Replicate sides.Leader 1 0) replies.Done ∷
    entry (events.Ack sides.Leader 1) (replies.Acked 1) ∷
    entry (events.Wake 0 1) (replies.Heard heard.Done) ∷
    entry (events.Status (sides.Follower 0)) (replies.FollowerStatus (follower_status phases.Active 2 1 (status 0 0 0 0 0 ∷ []) 1 0 0)) ∷
    entry (events.Deliver 0 0 false) (replies.Heard heard.Done) ∷
    entry (events.Status (sides.Follower 0)) (replies.FollowerStatus (follower_status phases.Active 2 1 (status 0 0 0 0 0 ∷ []) 1 0 1)) ∷
    entry (events.Wake 0 0) (replies.Refused (refusals.Wait 0)) ∷
    entry (events.Deliver 0 0 false) (replies.Heard heard.Parked) ∷
    entry (events.Status (sides.Follower 0)) (replies.FollowerStatus (follower_status phases.Active 2 1 (status 0 0 0 0 0 ∷ []) 1 0 1)) ∷
    entry (events.Sync sides.Leader 1) replies.Done ∷
    entry (events.Wake 0 0) (replies.Heard heard.Done) ∷
    entry (events.Deliver 0 0 false) (replies.Heard heard.Ignored) ∷
    entry (events.Status (sides.Follower 0)) (replies.FollowerStatus (follower_status phases.Active 2 1 (status 0 0 0 0 0 ∷ []) 1 0 1)) ∷
    []
