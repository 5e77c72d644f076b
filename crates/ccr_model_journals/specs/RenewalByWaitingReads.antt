-- A renewal keeps what the least of the sent, held and waiting reads asks for.
use Rattle.std.specs.Prelude.{false, List, [], ◌∷◌, Some, None, codes}
use Rattle.ccr_wire.specs.declared.kind.LeaseResult.TheVariants as results
use Rattle.ccr_journal.specs.declared.sides.Side.TheVariants as sides
use Rattle.ccr_journal.specs.declared.sides.Phase.TheVariants as phases
use Rattle.ccr_journal.specs.declared.events.Event.TheVariants as events
use Rattle.ccr_journal.specs.declared.journals.Entry.{Entry}
use Rattle.ccr_journal.specs.declared.replies.Heard.TheVariants as heard
use Rattle.ccr_journal.specs.declared.replies.Refusal.TheVariants as refusals
use Rattle.ccr_journal.specs.declared.replies.Reply.TheVariants as replies
use Rattle.ccr_journal.specs.declared.replies.WriteResult.TheVariants as written
use Rattle.ccr_model.specs.Leaders.{Start}
use Rattle.ccr_model_journals.specs.Words.{begun, entry, follower_status, index, lease, params, request, status, wrote}

abbrev pub renewal_by_waiting_reads_start : Start
renewal_by_waiting_reads_start = begun 1 7 43200000 0

abbrev pub renewal_by_waiting_reads_entries : List Entry
renewal_by_waiting_reads_entries =
    entry (events.Follow (params 2 33554432 3 5120 9223372036854775807 9 2147483647 536870912 500 60000 1048576) 2 (codes "f")) replies.Done ∷
    entry (events.Deliver 0 0 false) (replies.Heard (heard.Lease results.Ok 0)) ∷
    entry (events.Deliver 0 0 false) (replies.Heard heard.Done) ∷
    entry (events.Deliver 0 0 false) (replies.Heard heard.Done) ∷
    entry (events.Deliver 0 0 false) (replies.Heard heard.Done) ∷
    entry (events.Deliver 0 0 false) (replies.Heard heard.Parked) ∷
    entry (events.Write (request (codes "a") None (Some (codes "{\"n\":0}")) false None)) (replies.Written (wrote 0 1 1 written.Created)) ∷
    entry (events.Write (request (codes "b") None (Some (codes "{\"n\":1}")) false None)) (replies.Written (wrote 1 1 1 written.Created)) ∷
    entry (events.Write (request (codes "c") None (Some (codes "{\"n\":2}")) false None)) (replies.Written (wrote 2 1 1 written.Created)) ∷
    entry (events.Write (request (codes "d") None (Some (codes "{\"n\":3}")) false None)) (replies.Written (wrote 3 1 1 written.Created)) ∷
    entry (events.Write (request (codes "e") None (Some (codes "{\"n\":4}")) false None)) (replies.Written (wrote 4 1 1 written.Created)) ∷
    entry (events.Write (request (codes "f") None (Some (codes "{\"n\":5}")) false None)) (replies.Written (wrote 5 1 1 written.Created)) ∷
    entry (events.Wake 0 0) (replies.Heard heard.Done) ∷
    entry (events.Deliver 0 0 false) (replies.Heard heard.Done) ∷
    entry (events.Status (sides.Follower 0)) (replies.FollowerStatus (follower_status phases.Active 1 1 (status 0 0 0 0 0 ∷ status 1 0 0 0 0 ∷ []) 2 0 1)) ∷
    entry (events.Deliver 0 0 false) (replies.Heard heard.Done) ∷
    entry (events.Deliver 0 0 false) (replies.Heard heard.Done) ∷
    entry (events.Deliver 0 0 false) (replies.Heard heard.Done) ∷
    entry (events.Deliver 0 0 false) (replies.Heard heard.Done) ∷
    entry (events.Deliver 0 0 false) (replies.Heard heard.Parked) ∷
    entry (events.Take 0 0) (replies.Took (index 0 1 1 (codes "a") None (codes "{\"n\":0}") ∷ index 1 1 1 (codes "b") None (codes "{\"n\":1}") ∷ [])) ∷
    entry (events.Apply 0 1 0 (index 0 1 1 (codes "a") None (codes "{\"n\":0}") ∷ index 1 1 1 (codes "b") None (codes "{\"n\":1}") ∷ [])) (replies.Applied 2) ∷
    entry (events.Take 0 1) (replies.Took (index 2 1 1 (codes "c") None (codes "{\"n\":2}") ∷ index 3 1 1 (codes "d") None (codes "{\"n\":3}") ∷ [])) ∷
    entry (events.Apply 0 1 1 (index 2 1 1 (codes "c") None (codes "{\"n\":2}") ∷ index 3 1 1 (codes "d") None (codes "{\"n\":3}") ∷ [])) (replies.Applied 2) ∷
    entry (events.Take 0 2) (replies.Took (index 4 1 1 (codes "e") None (codes "{\"n\":4}") ∷ index 5 1 1 (codes "f") None (codes "{\"n\":5}") ∷ [])) ∷
    entry (events.Apply 0 1 2 (index 4 1 1 (codes "e") None (codes "{\"n\":4}") ∷ index 5 1 1 (codes "f") None (codes "{\"n\":5}") ∷ [])) (replies.Applied 2) ∷
    entry (events.Take 0 3) (replies.Refused (refusals.NoBatch 3)) ∷
    entry (events.Apply 0 1 3 []) (replies.Refused (refusals.NoBatch 3)) ∷
    entry (events.Take 0 4) (replies.Refused (refusals.NoBatch 4)) ∷
    entry (events.Apply 0 1 4 []) (replies.Refused (refusals.NoBatch 4)) ∷
    entry (events.Take 0 5) (replies.Refused (refusals.NoBatch 5)) ∷
    entry (events.Apply 0 1 5 []) (replies.Refused (refusals.NoBatch 5)) ∷
    entry (events.Restart 0) replies.Done ∷
    entry (events.Replicate (sides.Follower 0) 1 0) replies.Done ∷
    entry (events.Replicate (sides.Follower 0) 1 1) replies.Done ∷
    entry (events.Replicate (sides.Follower 0) 1 2) replies.Done ∷
    entry (events.Replicate (sides.Follower 0) 1 3) replies.Done ∷
    entry (events.Replicate (sides.Follower 0) 1 4) replies.Done ∷
    entry (events.Replicate (sides.Follower 0) 1 5) replies.Done ∷
    entry (events.Deliver 0 0 false) (replies.Heard heard.Done) ∷
    entry (events.Wake 0 0) (replies.Refused (refusals.Wait 6)) ∷
    entry (events.Deliver 0 0 false) (replies.Heard heard.Done) ∷
    entry (events.Ack (sides.Follower 0) 1) (replies.Acked 6) ∷
    entry (events.Lose 0 0) replies.Done ∷
    entry (events.Renew 0) replies.Done ∷
    entry (events.Deliver 2 0 false) (replies.Heard (heard.Lease results.Ok 2)) ∷
    entry (events.Status sides.Leader) (replies.LeaderStatus 1 (status 0 6 6 0 6 ∷ []) (lease (codes "f") 2 0 ∷ [])) ∷
    entry (events.Deliver 0 0 false) (replies.Heard heard.Done) ∷
    entry (events.Deliver 0 0 false) (replies.Heard heard.Done) ∷
    entry (events.Renew 0) replies.Done ∷
    entry (events.Deliver 3 0 false) (replies.Heard (heard.Lease results.Ok 2)) ∷
    entry (events.Status sides.Leader) (replies.LeaderStatus 1 (status 0 6 6 0 6 ∷ []) (lease (codes "f") 2 0 ∷ [])) ∷
    []
