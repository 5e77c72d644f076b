-- A read at a replica is answered with what that copy has and knows.
use Rattle.std.specs.Prelude.{false, List, [], ◌∷◌, Some, None, codes}
use Rattle.ccr_journal.specs.declared.sides.Side.TheVariants as sides
use Rattle.ccr_journal.specs.declared.sides.Phase.TheVariants as phases
use Rattle.ccr_journal.specs.declared.events.Event.TheVariants as events
use Rattle.ccr_journal.specs.declared.journals.Entry.{Entry}
use Rattle.ccr_journal.specs.declared.replies.Heard.TheVariants as heard
use Rattle.ccr_journal.specs.declared.replies.Reply.TheVariants as replies
use Rattle.ccr_journal.specs.declared.replies.WriteResult.TheVariants as written
use Rattle.ccr_model.specs.Leaders.{Start}
use Rattle.ccr_model_journals.specs.Words.{begun, entry, follower_status, lease, params, request, status, wrote}

abbrev pub reply_tells_its_copys_count_start : Start
reply_tells_its_copys_count_start = begun 2 7 43200000 0

abbrev pub reply_tells_its_copys_count_entries : List Entry
reply_tells_its_copys_count_entries =
    entry (events.Write (request (codes "a") None (Some (codes "{\"n\":0}")) false None)) (replies.Written (wrote 0 1 1 written.Created)) ∷
    entry (events.Write (request (codes "b") None (Some (codes "{\"n\":1}")) false None)) (replies.Written (wrote 1 1 1 written.Created)) ∷
    entry (events.Write (request (codes "c") None (Some (codes "{\"n\":2}")) false None)) (replies.Written (wrote 2 1 1 written.Created)) ∷
    entry (events.Write (request (codes "d") None (Some (codes "{\"n\":3}")) false None)) (replies.Written (wrote 3 1 1 written.Created)) ∷
    entry (events.Follow (params 1 33554432 4 5120 9223372036854775807 9 2147483647 536870912 500 60000 1048576) 1 (codes "f")) replies.Done ∷
    entry (events.Ack sides.Leader 1) (replies.Acked 0) ∷
    entry (events.Deliver 0 0 false) (replies.Heard (heard.Waiting 1)) ∷
    entry (events.Sync sides.Leader 1) replies.Done ∷
    entry (events.Deliver 0 0 false) (replies.Heard heard.Done) ∷
    entry (events.Deliver 0 0 false) (replies.Heard heard.Done) ∷
    entry (events.Deliver 0 0 false) (replies.Heard heard.Done) ∷
    entry (events.Replicate sides.Leader 1 0) replies.Done ∷
    entry (events.Ack sides.Leader 1) (replies.Acked 1) ∷
    entry (events.Sync sides.Leader 1) replies.Done ∷
    entry (events.Replicate sides.Leader 1 1) replies.Done ∷
    entry (events.Replicate sides.Leader 1 2) replies.Done ∷
    entry (events.Replicate sides.Leader 1 3) replies.Done ∷
    entry (events.Status sides.Leader) (replies.LeaderStatus 1 (status 0 4 1 0 4 ∷ status 1 4 1 0 4 ∷ []) (lease (codes "f") 0 0 ∷ [])) ∷
    entry (events.Ack sides.Leader 1) (replies.Acked 4) ∷
    entry (events.Status sides.Leader) (replies.LeaderStatus 1 (status 0 4 4 0 4 ∷ status 1 4 1 0 4 ∷ []) (lease (codes "f") 0 0 ∷ [])) ∷
    entry (events.Deliver 0 1 false) (replies.Heard heard.Done) ∷
    entry (events.Status (sides.Follower 0)) (replies.FollowerStatus (follower_status phases.Active 1 1 (status 0 0 0 0 0 ∷ []) 1 0 0)) ∷
    entry (events.Deliver 0 0 false) (replies.Heard heard.Done) ∷
    entry (events.Status (sides.Follower 0)) (replies.FollowerStatus (follower_status phases.Active 1 1 (status 0 0 0 0 0 ∷ []) 1 0 1)) ∷
    []
