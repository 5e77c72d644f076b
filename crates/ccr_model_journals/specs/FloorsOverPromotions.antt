-- Floors, leases and polls over three promotions, two new copies and a copy that leaves.
use Rattle.std.specs.Prelude.{true, false, List, [], ◌∷◌, Some, None, codes}
use Rattle.ccr_journal.specs.declared.sides.Side.TheVariants as sides
use Rattle.ccr_journal.specs.declared.events.Event.TheVariants as events
use Rattle.ccr_journal.specs.declared.journals.Entry.{Entry}
use Rattle.ccr_journal.specs.declared.replies.Heard.TheVariants as heard
use Rattle.ccr_journal.specs.declared.replies.Refusal.TheVariants as refusals
use Rattle.ccr_journal.specs.declared.replies.Reply.TheVariants as replies
use Rattle.ccr_journal.specs.declared.replies.WriteResult.TheVariants as written
use Rattle.ccr_model.specs.Leaders.{Start}
use Rattle.ccr_model_journals.specs.Words.{begun, entry, gone, lease, params, request, status, wrote}

abbrev pub floors_over_promotions_start : Start
floors_over_promotions_start = begun 3 7 1000000 0

abbrev pub floors_over_promotions_entries : List Entry
floors_over_promotions_entries =
    entry (events.Write (request (codes "a") None (Some (codes "{\"n\":1}")) false None)) (replies.Written (wrote 0 1 1 written.Created)) ∷
    entry (events.Write (request (codes "a") None (Some (codes "{\"n\":2}")) false None)) (replies.Written (wrote 1 1 2 written.Updated)) ∷
    entry (events.Write (request (codes "b") None (Some (codes "{\"n\":1}")) true (Some (9, 9)))) (replies.Refused (refusals.Conflict None)) ∷
    entry (events.Write (request (codes "a") None (Some (codes "{\"n\":5}")) true (Some (1, 2)))) (replies.Refused (refusals.Conflict (Some (1, 1)))) ∷
    entry (events.Flush sides.Leader 0) (replies.Flushed 0) ∷
    entry (events.Replicate sides.Leader 1 0) replies.Done ∷
    entry (events.Replicate sides.Leader 1 1) replies.Done ∷
    entry (events.Ack sides.Leader 1) (replies.Acked 0) ∷
    entry (events.Replicate sides.Leader 2 0) replies.Done ∷
    entry (events.Replicate sides.Leader 2 1) replies.Done ∷
    entry (events.Ack sides.Leader 2) (replies.Acked 2) ∷
    entry (events.Status sides.Leader) (replies.LeaderStatus 1 (status 0 2 2 0 2 ∷ status 1 2 0 0 2 ∷ status 2 2 0 0 2 ∷ []) []) ∷
    entry (events.Merge sides.Leader 0) (replies.Merged 0 0 (0 ∷ [])) ∷
    entry (events.Status sides.Leader) (replies.LeaderStatus 1 (status 0 2 2 0 2 ∷ status 1 2 0 0 2 ∷ status 2 2 0 0 2 ∷ []) []) ∷
    entry (events.Flush sides.Leader 0) (replies.Flushed 2) ∷
    entry (events.Merge sides.Leader 0) (replies.Merged 2 1 (0 ∷ [])) ∷
    entry (events.Promote sides.Leader 1) (replies.Promoted 2 0) ∷
    entry (events.Status sides.Leader) (replies.LeaderStatus 2 (status 1 2 0 0 2 ∷ status 2 2 0 0 2 ∷ []) []) ∷
    entry (events.Follow (params 3 1000 2 3 1000 1 4 1000 100 50 4096) 1 (codes "n")) replies.Done ∷
    entry (events.Resync 2) (replies.Resynced 2 2) ∷
    entry (events.Deliver 0 1 true) (replies.Heard (heard.NotReady 2)) ∷
    entry (events.Ack sides.Leader 2) (replies.Acked 2) ∷
    entry (events.Sync sides.Leader 2) replies.Done ∷
    entry (events.Deliver 0 1 false) (replies.Heard (heard.Waiting 2)) ∷
    entry (events.Sync sides.Leader 2) replies.Done ∷
    entry (events.Deliver 1 1 false) (replies.Heard heard.Done) ∷
    entry (events.Deliver 1 1 false) (replies.Heard heard.Done) ∷
    entry (events.Deliver 1 1 false) (replies.Heard heard.Done) ∷
    entry (events.Deliver 1 1 false) (replies.Heard heard.Done) ∷
    entry (events.Deliver 1 1 false) (replies.Heard heard.Done) ∷
    entry (events.Deliver 1 2 false) (replies.Heard heard.Parked) ∷
    entry (events.Write (request (codes "c") None (Some (codes "{\"n\":1}")) false None)) (replies.Written (wrote 2 2 1 written.Created)) ∷
    entry (events.Promote sides.Leader 2) (replies.Promoted 3 0) ∷
    entry (events.Wake 0 0) (replies.Refused (refusals.Wait 2)) ∷
    entry (events.AddCopy sides.Leader) (replies.Added 3) ∷
    entry (events.Write (request (codes "d") None None false None)) (replies.Written (wrote 2 3 1 written.NotFound)) ∷
    entry (events.Write (request (codes "c") None (Some (codes "{\"n\":2}")) false None)) (replies.Written (wrote 3 3 1 written.Created)) ∷
    entry (events.Status sides.Leader) (replies.LeaderStatus 3 (status 2 4 2 0 4 ∷ status 3 2 2 0 2 ∷ []) (lease (codes "n") 0 0 ∷ [])) ∷
    entry (events.Replicate sides.Leader 3 3) replies.Done ∷
    entry (events.Flush sides.Leader 3) (replies.Flushed 2) ∷
    entry (events.Promote sides.Leader 3) (replies.Promoted 4 1) ∷
    entry (events.Flush sides.Leader 3) (replies.Flushed 4) ∷
    entry (events.Clock sides.Leader 1000001) replies.Done ∷
    entry events.Expire (replies.Expired (gone (codes "n") 0 1000001 ∷ [])) ∷
    entry (events.Status sides.Leader) (replies.LeaderStatus 4 (status 3 4 4 0 4 ∷ []) []) ∷
    entry (events.Merge sides.Leader 3) (replies.Merged 4 2 (0 ∷ 1 ∷ 2 ∷ [])) ∷
    entry (events.Status sides.Leader) (replies.LeaderStatus 4 (status 3 4 4 4 2 ∷ []) []) ∷
    entry (events.AddCopy sides.Leader) (replies.Added 4) ∷
    entry (events.FailCopy sides.Leader 4) replies.Done ∷
    entry (events.Wake 0 0) (replies.Refused (refusals.NoPoll 0)) ∷
    []
