-- The places of reads that are lost go by their request numbers.
use Rattle.std.specs.Prelude.{false, List, [], ◌∷◌, Some, None, codes}
use Rattle.ccr_wire.specs.declared.kind.LeaseResult.TheVariants as results
use Rattle.ccr_journal.specs.declared.sides.Side.TheVariants as sides
use Rattle.ccr_journal.specs.declared.sides.Phase.TheVariants as phases
use Rattle.ccr_journal.specs.declared.events.Event.TheVariants as events
use Rattle.ccr_journal.specs.declared.journals.Entry.{Entry}
use Rattle.ccr_journal.specs.declared.replies.Heard.TheVariants as heard
use Rattle.ccr_journal.specs.declared.replies.Refusal.TheVariants as refusals
use Rattle.ccr_journal.specs.declared.replies.Reply.TheVariants as replies
use Rattle.ccr_journal.specs.declared.replies.WriteResult.TheVariants as written
use Rattle.ccr_model.specs.Leaders.{Start}
use Rattle.ccr_model_journals.specs.Words.{begun, entry, follower_status, params, request, status, wrote}

abbrev pub lose_by_request_number_start : Start
lose_by_request_number_start = begun 1 233123597930171938637576872671869459266 43200000 0

abbrev pub lose_by_request_number_entries : List Entry
lose_by_request_number_entries =
    entry (events.Follow (params 2 33554432 2 5120 9223372036854775807 9 2147483647 536870912 500 60000 1048576) 1 (codes "b/f/0d4c2c54-b543-5c37-9e34-0a9608dd1386-following-a/l/223c283b-627d-5bac-9463-bf337a05a8ea")) replies.Done ∷
    entry (events.Deliver 0 0 false) (replies.Heard (heard.Lease results.Ok 0)) ∷
    entry (events.Deliver 0 0 false) (replies.Heard heard.Done) ∷
    entry (events.Deliver 0 0 false) (replies.Heard heard.Done) ∷
    entry (events.Deliver 0 0 false) (replies.Heard heard.Done) ∷
    entry (events.Deliver 0 0 false) (replies.Heard heard.Parked) ∷
    entry events.Settle replies.Settled ∷
    entry (events.Write (request (codes "a") None (Some (codes "{\"n\":1}")) false None)) (replies.Written (wrote 0 1 1 written.Created)) ∷
    entry (events.Write (request (codes "b") None (Some (codes "{\"n\":1}")) false None)) (replies.Written (wrote 1 1 1 written.Created)) ∷
    entry (events.Write (request (codes "c") None (Some (codes "{\"n\":1}")) false None)) (replies.Written (wrote 2 1 1 written.Created)) ∷
    entry (events.Write (request (codes "d") None (Some (codes "{\"n\":1}")) false None)) (replies.Written (wrote 3 1 1 written.Created)) ∷
    entry (events.Write (request (codes "e") None (Some (codes "{\"n\":1}")) false None)) (replies.Written (wrote 4 1 1 written.Created)) ∷
    entry (events.Write (request (codes "f") None (Some (codes "{\"n\":1}")) false None)) (replies.Written (wrote 5 1 1 written.Created)) ∷
    entry (events.Write (request (codes "g") None (Some (codes "{\"n\":1}")) false None)) (replies.Written (wrote 6 1 1 written.Created)) ∷
    entry (events.Wake 0 0) (replies.Heard heard.Done) ∷
    entry (events.Deliver 0 0 false) (replies.Heard heard.Done) ∷
    entry (events.Lose 0 0) replies.Done ∷
    entry (events.Deliver 0 0 false) (replies.Heard heard.Done) ∷
    entry (events.Deliver 1 0 false) (replies.Heard heard.Ignored) ∷
    entry (events.Clock (sides.Follower 0) 50) replies.Done ∷
    entry (events.Tick 0) replies.Done ∷
    entry (events.Lose 0 0) replies.Done ∷
    entry (events.Deliver 0 0 false) (replies.Heard heard.Done) ∷
    entry (events.Deliver 1 0 false) (replies.Heard heard.Ignored) ∷
    entry (events.Deliver 0 0 false) (replies.Heard heard.Done) ∷
    entry (events.Deliver 0 0 false) (replies.Heard heard.Done) ∷
    entry (events.Status (sides.Follower 0)) (replies.FollowerStatus (follower_status phases.Active 1 1 (status 0 0 0 0 0 ∷ []) 2 0 2)) ∷
    entry (events.Clock (sides.Follower 0) 149) replies.Done ∷
    entry (events.Tick 0) replies.Done ∷
    entry (events.Drop 1) (replies.Refused (refusals.NoFrame 1)) ∷
    entry (events.Clock (sides.Follower 0) 150) replies.Done ∷
    entry (events.Tick 0) replies.Done ∷
    entry (events.Deliver 1 0 false) (replies.Heard heard.Done) ∷
    entry (events.Deliver 1 0 false) (replies.Heard heard.Done) ∷
    entry (events.Status (sides.Follower 0)) (replies.FollowerStatus (follower_status phases.Active 1 1 (status 0 0 0 0 0 ∷ []) 1 0 3)) ∷
    []
