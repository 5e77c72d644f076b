-- A follower with narrow parameters reads and writes in several batches.
use Rattle.std.specs.Prelude.{false, List, [], ◌∷◌, Some, None, codes}
use Rattle.ccr_wire.specs.declared.kind.LeaseResult.TheVariants as results
use Rattle.ccr_journal.specs.declared.sides.Side.TheVariants as sides
use Rattle.ccr_journal.specs.declared.sides.Phase.TheVariants as phases
use Rattle.ccr_journal.specs.declared.events.Event.TheVariants as events
use Rattle.ccr_journal.specs.declared.journals.Entry.{Entry}
use Rattle.ccr_journal.specs.declared.replies.Heard.TheVariants as heard
use Rattle.ccr_journal.specs.declared.replies.Reply.TheVariants as replies
use Rattle.ccr_journal.specs.declared.replies.WriteResult.TheVariants as written
use Rattle.ccr_model.specs.Leaders.{Start}
use Rattle.ccr_model_journals.specs.Words.{begun, entry, follower_status, index, params, request, status, wrote}

abbrev pub batches_and_reads_start : Start
batches_and_reads_start = begun 1 7 1000000 0

abbrev pub batches_and_reads_entries : List Entry
batches_and_reads_entries =
    entry (events.Write (request (codes "a") None (Some (codes "{\"n\":0}")) false None)) (replies.Written (wrote 0 1 1 written.Created)) ∷
    entry (events.Follow (params 3 1000 2 3 1000 1 4 1000 100 50 4096) 1 (codes "n")) replies.Done ∷
    entry (events.Deliver 0 0 false) (replies.Heard (heard.Lease results.Ok 0)) ∷
    entry (events.Deliver 0 0 false) (replies.Heard heard.Done) ∷
    entry (events.Deliver 0 0 false) (replies.Heard heard.Done) ∷
    entry (events.Deliver 0 0 false) (replies.Heard heard.Done) ∷
    entry (events.Deliver 0 0 false) (replies.Heard heard.Done) ∷
    entry (events.Deliver 0 0 false) (replies.Heard heard.Done) ∷
    entry (events.Write (request (codes "b") None (Some (codes "{\"n\":0}")) false None)) (replies.Written (wrote 1 1 1 written.Created)) ∷
    entry (events.Write (request (codes "b") None (Some (codes "{\"n\":1}")) false None)) (replies.Written (wrote 2 1 2 written.Updated)) ∷
    entry (events.Write (request (codes "b") None (Some (codes "{\"n\":2}")) false None)) (replies.Written (wrote 3 1 3 written.Updated)) ∷
    entry (events.Write (request (codes "b") None (Some (codes "{\"n\":3}")) false None)) (replies.Written (wrote 4 1 4 written.Updated)) ∷
    entry (events.Write (request (codes "b") None (Some (codes "{\"n\":4}")) false None)) (replies.Written (wrote 5 1 5 written.Updated)) ∷
    entry (events.Deliver 0 0 false) (replies.Heard heard.Done) ∷
    entry (events.Deliver 0 0 false) (replies.Heard heard.Done) ∷
    entry (events.Write (request (codes "c") None (Some (codes "{\"n\":1}")) false None)) (replies.Written (wrote 6 1 1 written.Created)) ∷
    entry (events.Status (sides.Follower 0)) (replies.FollowerStatus (follower_status phases.Active 1 1 (status 0 1 1 0 1 ∷ []) 1 0 1)) ∷
    entry (events.Deliver 0 0 false) (replies.Heard heard.Done) ∷
    entry (events.Deliver 0 0 false) (replies.Heard heard.Done) ∷
    entry (events.Status (sides.Follower 0)) (replies.FollowerStatus (follower_status phases.Active 1 1 (status 0 1 1 0 1 ∷ []) 1 3 1)) ∷
    entry (events.Take 0 0) (replies.Took (index 1 1 1 (codes "b") None (codes "{\"n\":0}") ∷ index 2 1 2 (codes "b") None (codes "{\"n\":1}") ∷ index 3 1 3 (codes "b") None (codes "{\"n\":2}") ∷ [])) ∷
    entry (events.Apply 0 1 0 (index 1 1 1 (codes "b") None (codes "{\"n\":0}") ∷ index 2 1 2 (codes "b") None (codes "{\"n\":1}") ∷ index 3 1 3 (codes "b") None (codes "{\"n\":2}") ∷ [])) (replies.Applied 3) ∷
    entry (events.Written 0 0) replies.Done ∷
    entry (events.Take 0 1) (replies.Took (index 4 1 4 (codes "b") None (codes "{\"n\":3}") ∷ index 5 1 5 (codes "b") None (codes "{\"n\":4}") ∷ index 6 1 1 (codes "c") None (codes "{\"n\":1}") ∷ [])) ∷
    entry (events.Apply 0 1 1 (index 4 1 4 (codes "b") None (codes "{\"n\":3}") ∷ index 5 1 5 (codes "b") None (codes "{\"n\":4}") ∷ index 6 1 1 (codes "c") None (codes "{\"n\":1}") ∷ [])) (replies.Applied 3) ∷
    entry (events.Status (sides.Follower 0)) (replies.FollowerStatus (follower_status phases.Active 1 1 (status 0 7 7 0 7 ∷ []) 1 0 1)) ∷
    []
