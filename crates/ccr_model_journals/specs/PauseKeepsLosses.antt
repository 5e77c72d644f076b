-- A pause leaves the count of losses, which a write that ends sets to 0.
use Rattle.std.specs.Prelude.{false, List, [], ◌∷◌, Some, None, codes}
use Rattle.ccr_wire.specs.declared.kind.LeaseResult.TheVariants as results
use Rattle.ccr_journal.specs.declared.sides.Side.TheVariants as sides
use Rattle.ccr_journal.specs.declared.sides.Phase.TheVariants as phases
use Rattle.ccr_journal.specs.declared.events.Event.TheVariants as events
use Rattle.ccr_journal.specs.declared.journals.Entry.{Entry}
use Rattle.ccr_journal.specs.declared.replies.Heard.TheVariants as heard
use Rattle.ccr_journal.specs.declared.replies.Refusal.TheVariants as refusals
use Rattle.ccr_journal.specs.declared.replies.Reply.TheVariants as replies
use Rattle.ccr_journal.specs.declared.replies.WriteResult.TheVariants as written
use Rattle.ccr_model.specs.Leaders.{Start}
use Rattle.ccr_model_journals.specs.Words.{begun, entry, follower_status, index, params, request, status, wrote}

abbrev pub pause_keeps_losses_start : Start
pause_keeps_losses_start = begun 1 7 43200000 0

abbrev pub pause_keeps_losses_entries : List Entry
pause_keeps_losses_entries =
    entry (events.Follow (params 5120 33554432 12 1 9223372036854775807 9 2147483647 536870912 500 60000 1048576) 1 (codes "f")) replies.Done ∷
    entry (events.Deliver 0 0 false) (replies.Heard (heard.Lease results.Ok 0)) ∷
    entry (events.Deliver 0 0 false) (replies.Heard heard.Done) ∷
    entry (events.Deliver 0 0 false) (replies.Heard heard.Done) ∷
    entry (events.Deliver 0 0 false) (replies.Heard heard.Done) ∷
    entry (events.Deliver 0 0 false) (replies.Heard heard.Parked) ∷
    entry (events.Write (request (codes "a") None (Some (codes "{\"n\":0}")) false None)) (replies.Written (wrote 0 1 1 written.Created)) ∷
    entry (events.Write (request (codes "b") None (Some (codes "{\"n\":1}")) false None)) (replies.Written (wrote 1 1 1 written.Created)) ∷
    entry (events.Write (request (codes "c") None (Some (codes "{\"n\":2}")) false None)) (replies.Written (wrote 2 1 1 written.Created)) ∷
    entry (events.Wake 0 0) (replies.Heard heard.Done) ∷
    entry (events.Deliver 0 0 false) (replies.Heard heard.Done) ∷
    entry (events.Status (sides.Follower 0)) (replies.FollowerStatus (follower_status phases.Active 1 1 (status 0 0 0 0 0 ∷ []) 1 0 3)) ∷
    entry (events.Deliver 0 0 false) (replies.Heard heard.Parked) ∷
    entry (events.Deliver 0 0 false) (replies.Refused (refusals.NoFrame 0)) ∷
    entry (events.Status (sides.Follower 0)) (replies.FollowerStatus (follower_status phases.Active 1 1 (status 0 0 0 0 0 ∷ []) 1 0 3)) ∷
    entry (events.LoseWrite 0 0) replies.Done ∷
    entry (events.Pause 0) replies.Done ∷
    entry (events.LoseWrite 0 1) replies.Done ∷
    entry (events.Clock (sides.Follower 0) 49) replies.Done ∷
    entry (events.Tick 0) replies.Done ∷
    entry (events.Take 0 0) (replies.Refused (refusals.NoBatch 0)) ∷
    entry (events.Take 0 1) (replies.Refused (refusals.NoBatch 1)) ∷
    entry (events.Clock (sides.Follower 0) 50) replies.Done ∷
    entry (events.Tick 0) replies.Done ∷
    entry (events.Take 0 0) (replies.Took (index 0 1 1 (codes "a") None (codes "{\"n\":0}") ∷ [])) ∷
    entry (events.Take 0 1) (replies.Refused (refusals.NoBatch 1)) ∷
    entry (events.Clock (sides.Follower 0) 99) replies.Done ∷
    entry (events.Tick 0) replies.Done ∷
    entry (events.Take 0 0) (replies.Took (index 0 1 1 (codes "a") None (codes "{\"n\":0}") ∷ [])) ∷
    entry (events.Take 0 1) (replies.Refused (refusals.NoBatch 1)) ∷
    entry (events.Clock (sides.Follower 0) 100) replies.Done ∷
    entry (events.Tick 0) replies.Done ∷
    entry (events.Take 0 0) (replies.Took (index 0 1 1 (codes "a") None (codes "{\"n\":0}") ∷ [])) ∷
    entry (events.Take 0 1) (replies.Took (index 1 1 1 (codes "b") None (codes "{\"n\":1}") ∷ [])) ∷
    entry (events.Clock (sides.Follower 0) 101) replies.Done ∷
    entry (events.Tick 0) replies.Done ∷
    entry (events.Take 0 0) (replies.Took (index 0 1 1 (codes "a") None (codes "{\"n\":0}") ∷ [])) ∷
    entry (events.Take 0 1) (replies.Took (index 1 1 1 (codes "b") None (codes "{\"n\":1}") ∷ [])) ∷
    entry (events.Unfollow 0) replies.Done ∷
    entry (events.Status (sides.Follower 0)) (replies.FollowerStatus (follower_status phases.Unfollowed 1 1 (status 0 0 0 0 0 ∷ []) 0 0 3)) ∷
    entry (events.Take 0 0) (replies.Took (index 0 1 1 (codes "a") None (codes "{\"n\":0}") ∷ [])) ∷
    entry (events.Take 0 0) (replies.Took (index 0 1 1 (codes "a") None (codes "{\"n\":0}") ∷ [])) ∷
    entry (events.Apply 0 1 0 (index 0 1 1 (codes "a") None (codes "{\"n\":0}") ∷ [])) (replies.Applied 1) ∷
    entry (events.Written 0 0) replies.Done ∷
    entry (events.Status (sides.Follower 0)) (replies.FollowerStatus (follower_status phases.Unfollowed 1 1 (status 0 1 1 0 1 ∷ []) 0 0 2)) ∷
    entry (events.LoseWrite 0 1) replies.Done ∷
    entry (events.Clock (sides.Follower 0) 149) replies.Done ∷
    entry (events.Tick 0) replies.Done ∷
    entry (events.Take 0 1) (replies.Refused (refusals.NoBatch 1)) ∷
    entry (events.Clock (sides.Follower 0) 151) replies.Done ∷
    entry (events.Tick 0) replies.Done ∷
    entry (events.Take 0 1) (replies.Took (index 1 1 1 (codes "b") None (codes "{\"n\":1}") ∷ [])) ∷
    []
