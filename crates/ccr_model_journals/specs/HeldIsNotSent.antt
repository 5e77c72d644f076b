-- A read that is held back is not sent while the buffer is full, and can not be lost.
use Rattle.std.specs.Prelude.{true, false, List, [], ◌∷◌, Some, None, codes}
use Rattle.ccr_wire.specs.declared.kind.LeaseResult.TheVariants as results
use Rattle.ccr_journal.specs.declared.sides.Side.TheVariants as sides
use Rattle.ccr_journal.specs.declared.sides.Phase.TheVariants as phases
use Rattle.ccr_journal.specs.declared.events.Event.TheVariants as events
use Rattle.ccr_journal.specs.declared.journals.Entry.{Entry}
use Rattle.ccr_journal.specs.declared.replies.Heard.TheVariants as heard
use Rattle.ccr_journal.specs.declared.replies.Refusal.TheVariants as refusals
use Rattle.ccr_journal.specs.declared.replies.Reply.TheVariants as replies
use Rattle.ccr_journal.specs.declared.replies.WriteResult.TheVariants as written
use Rattle.ccr_model.specs.Leaders.{Start}
use Rattle.ccr_model_journals.specs.Words.{begun, entry, follower_status, index, params, request, status, wrote}

abbrev pub held_is_not_sent_start : Start
held_is_not_sent_start = begun 1 7 43200000 0

abbrev pub held_is_not_sent_entries : List Entry
held_is_not_sent_entries =
    entry (events.Follow (params 3 1 2 1 9223372036854775807 1 1 536870912 500 60000 1048576) 1 (codes "f")) replies.Done ∷
    entry (events.Deliver 0 0 false) (replies.Heard (heard.Lease results.Ok 0)) ∷
    entry (events.Deliver 0 0 false) (replies.Heard heard.Done) ∷
    entry (events.Deliver 0 0 false) (replies.Heard heard.Done) ∷
    entry (events.Deliver 0 0 false) (replies.Heard heard.Done) ∷
    entry (events.Deliver 0 0 false) (replies.Heard heard.Parked) ∷
    entry (events.Write (request (codes "a") None (Some (codes "{\"n\":0}")) false None)) (replies.Written (wrote 0 1 1 written.Created)) ∷
    entry (events.Write (request (codes "b") None (Some (codes "{\"n\":1}")) false None)) (replies.Written (wrote 1 1 1 written.Created)) ∷
    entry (events.Write (request (codes "c") None (Some (codes "{\"n\":2}")) false None)) (replies.Written (wrote 2 1 1 written.Created)) ∷
    entry (events.Write (request (codes "d") None (Some (codes "{\"n\":3}")) false None)) (replies.Written (wrote 3 1 1 written.Created)) ∷
    entry (events.Write (request (codes "e") None (Some (codes "{\"n\":4}")) false None)) (replies.Written (wrote 4 1 1 written.Created)) ∷
    entry (events.Write (request (codes "f") None (Some (codes "{\"n\":5}")) false None)) (replies.Written (wrote 5 1 1 written.Created)) ∷
    entry (events.Wake 0 0) (replies.Heard heard.Done) ∷
    entry (events.Deliver 0 0 false) (replies.Heard heard.Done) ∷
    entry (events.Deliver 1 0 false) (replies.Heard heard.Done) ∷
    entry (events.Deliver 1 0 true) (replies.Heard heard.Done) ∷
    entry (events.Status (sides.Follower 0)) (replies.FollowerStatus (follower_status phases.Active 1 1 (status 0 0 0 0 0 ∷ []) 2 1 1)) ∷
    entry (events.Deliver 1 0 false) (replies.Heard heard.Ignored) ∷
    entry (events.Status (sides.Follower 0)) (replies.FollowerStatus (follower_status phases.Active 1 1 (status 0 0 0 0 0 ∷ []) 2 1 1)) ∷
    entry (events.Lose 0 1) (replies.Refused (refusals.NoRequest 1)) ∷
    entry (events.Lose 0 0) replies.Done ∷
    entry (events.Status (sides.Follower 0)) (replies.FollowerStatus (follower_status phases.Active 1 1 (status 0 0 0 0 0 ∷ []) 2 1 1)) ∷
    entry (events.Take 0 0) (replies.Took (index 0 1 1 (codes "a") None (codes "{\"n\":0}") ∷ [])) ∷
    entry (events.Apply 0 1 0 (index 0 1 1 (codes "a") None (codes "{\"n\":0}") ∷ [])) (replies.Applied 1) ∷
    entry (events.Written 0 0) replies.Done ∷
    entry (events.Status (sides.Follower 0)) (replies.FollowerStatus (follower_status phases.Active 1 1 (status 0 1 1 0 1 ∷ []) 2 0 1)) ∷
    entry (events.Clock (sides.Follower 0) 10) replies.Done ∷
    entry (events.Tick 0) replies.Done ∷
    entry (events.Clock (sides.Follower 0) 50) replies.Done ∷
    entry (events.Tick 0) replies.Done ∷
    entry (events.Status (sides.Follower 0)) (replies.FollowerStatus (follower_status phases.Active 1 1 (status 0 1 1 0 1 ∷ []) 2 0 1)) ∷
    []
