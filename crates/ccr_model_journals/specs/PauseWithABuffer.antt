-- A pause drops the buffer, and the task reads it again after the resumption.
use Rattle.std.specs.Prelude.{false, List, [], ◌∷◌, Some, None, codes}
use Rattle.ccr_wire.specs.declared.kind.LeaseResult.TheVariants as results
use Rattle.ccr_journal.specs.declared.sides.Side.TheVariants as sides
use Rattle.ccr_journal.specs.declared.sides.Phase.TheVariants as phases
use Rattle.ccr_journal.specs.declared.events.Event.TheVariants as events
use Rattle.ccr_journal.specs.declared.journals.Entry.{Entry}
use Rattle.ccr_journal.specs.declared.replies.Heard.TheVariants as heard
use Rattle.ccr_journal.specs.declared.replies.Reply.TheVariants as replies
use Rattle.ccr_journal.specs.declared.replies.WriteResult.TheVariants as written
use Rattle.ccr_model.specs.Leaders.{Start}
use Rattle.ccr_model_journals.specs.Words.{begun, entry, follower_status, index, params, request, status, wrote}

abbrev pub pause_with_a_buffer_start : Start
pause_with_a_buffer_start = begun 1 7 1000000 0

abbrev pub pause_with_a_buffer_entries : List Entry
pause_with_a_buffer_entries =
    entry (events.Write (request (codes "a") None (Some (codes "{\"n\":0}")) false None)) (replies.Written (wrote 0 1 1 written.Created)) ∷
    entry (events.Write (request (codes "b") None (Some (codes "{\"n\":1}")) false None)) (replies.Written (wrote 1 1 1 written.Created)) ∷
    entry (events.Write (request (codes "c") None (Some (codes "{\"n\":2}")) false None)) (replies.Written (wrote 2 1 1 written.Created)) ∷
    entry (events.Write (request (codes "d") None (Some (codes "{\"n\":3}")) false None)) (replies.Written (wrote 3 1 1 written.Created)) ∷
    entry (events.Write (request (codes "e") None (Some (codes "{\"n\":4}")) false None)) (replies.Written (wrote 4 1 1 written.Created)) ∷
    entry (events.Write (request (codes "f") None (Some (codes "{\"n\":5}")) false None)) (replies.Written (wrote 5 1 1 written.Created)) ∷
    entry (events.Write (request (codes "g") None (Some (codes "{\"n\":6}")) false None)) (replies.Written (wrote 6 1 1 written.Created)) ∷
    entry (events.Write (request (codes "h") None (Some (codes "{\"n\":7}")) false None)) (replies.Written (wrote 7 1 1 written.Created)) ∷
    entry (events.Follow (params 3 1000 2 1 1000 1 4 1000 100 50 4096) 1 (codes "n")) replies.Done ∷
    entry (events.Deliver 0 0 false) (replies.Heard (heard.Lease results.Ok 0)) ∷
    entry (events.Deliver 0 0 false) (replies.Heard heard.Done) ∷
    entry (events.Deliver 0 0 false) (replies.Heard heard.Done) ∷
    entry (events.Deliver 0 0 false) (replies.Heard heard.Done) ∷
    entry (events.Deliver 0 0 false) (replies.Heard heard.Done) ∷
    entry (events.Deliver 0 0 false) (replies.Heard heard.Done) ∷
    entry (events.Write (request (codes "x") None (Some (codes "{\"n\":0}")) false None)) (replies.Written (wrote 8 1 1 written.Created)) ∷
    entry (events.Write (request (codes "x") None (Some (codes "{\"n\":1}")) false None)) (replies.Written (wrote 9 1 2 written.Updated)) ∷
    entry (events.Write (request (codes "x") None (Some (codes "{\"n\":2}")) false None)) (replies.Written (wrote 10 1 3 written.Updated)) ∷
    entry (events.Write (request (codes "x") None (Some (codes "{\"n\":3}")) false None)) (replies.Written (wrote 11 1 4 written.Updated)) ∷
    entry (events.Write (request (codes "x") None (Some (codes "{\"n\":4}")) false None)) (replies.Written (wrote 12 1 5 written.Updated)) ∷
    entry (events.Write (request (codes "x") None (Some (codes "{\"n\":5}")) false None)) (replies.Written (wrote 13 1 6 written.Updated)) ∷
    entry (events.Write (request (codes "x") None (Some (codes "{\"n\":6}")) false None)) (replies.Written (wrote 14 1 7 written.Updated)) ∷
    entry (events.Write (request (codes "x") None (Some (codes "{\"n\":7}")) false None)) (replies.Written (wrote 15 1 8 written.Updated)) ∷
    entry (events.Deliver 0 0 false) (replies.Heard heard.Done) ∷
    entry (events.Deliver 0 0 false) (replies.Heard heard.Done) ∷
    entry (events.Status (sides.Follower 0)) (replies.FollowerStatus (follower_status phases.Active 1 1 (status 0 8 8 0 8 ∷ []) 2 2 1)) ∷
    entry (events.Write (request (codes "y") None (Some (codes "{\"n\":9}")) false None)) (replies.Written (wrote 16 1 1 written.Created)) ∷
    entry (events.Deliver 1 0 false) (replies.Heard heard.Done) ∷
    entry (events.Deliver 1 0 false) (replies.Heard heard.Done) ∷
    entry (events.Status (sides.Follower 0)) (replies.FollowerStatus (follower_status phases.Active 1 1 (status 0 8 8 0 8 ∷ []) 1 4 1)) ∷
    entry (events.Pause 0) replies.Done ∷
    entry (events.Status (sides.Follower 0)) (replies.FollowerStatus (follower_status phases.Paused 1 1 (status 0 8 8 0 8 ∷ []) 0 0 1)) ∷
    entry (events.Take 0 0) (replies.Took (index 8 1 1 (codes "x") None (codes "{\"n\":0}") ∷ [])) ∷
    entry (events.Apply 0 1 0 (index 8 1 1 (codes "x") None (codes "{\"n\":0}") ∷ [])) (replies.Applied 1) ∷
    entry (events.Written 0 0) replies.Done ∷
    entry (events.Resume 0) replies.Done ∷
    entry (events.Status (sides.Follower 0)) (replies.FollowerStatus (follower_status phases.Active 2 1 (status 0 9 9 0 9 ∷ []) 1 0 0)) ∷
    entry (events.Deliver 1 0 false) (replies.Heard heard.Done) ∷
    entry (events.Deliver 1 0 false) (replies.Heard heard.Done) ∷
    entry (events.Status (sides.Follower 0)) (replies.FollowerStatus (follower_status phases.Active 2 1 (status 0 9 9 0 9 ∷ []) 2 2 1)) ∷
    entry (events.Write (request (codes "z") None (Some (codes "{\"n\":1}")) false None)) (replies.Written (wrote 17 1 1 written.Created)) ∷
    entry (events.Deliver 0 0 false) (replies.Heard heard.Done) ∷
    entry (events.Deliver 0 0 false) (replies.Heard heard.Done) ∷
    entry (events.Status (sides.Follower 0)) (replies.FollowerStatus (follower_status phases.Active 2 1 (status 0 9 9 0 9 ∷ []) 2 2 1)) ∷
    []
