-- A lease expires, a merge drops what it retained, and the follower that asks for it stops.
use Rattle.std.specs.Prelude.{false, List, [], ◌∷◌, Some, None, codes}
use Rattle.ccr_wire.specs.declared.kind.LeaseResult.TheVariants as results
use Rattle.ccr_journal.specs.declared.sides.Side.TheVariants as sides
use Rattle.ccr_journal.specs.declared.sides.Phase.TheVariants as phases
use Rattle.ccr_journal.specs.declared.events.Event.TheVariants as events
use Rattle.ccr_journal.specs.declared.journals.Entry.{Entry}
use Rattle.ccr_journal.specs.declared.replies.Heard.TheVariants as heard
use Rattle.ccr_journal.specs.declared.replies.Reply.TheVariants as replies
use Rattle.ccr_journal.specs.declared.replies.WriteResult.TheVariants as written
use Rattle.ccr_model.specs.Leaders.{Start}
use Rattle.ccr_model_journals.specs.Words.{begun, default_params, entry, follower_status, gone, request, status, wrote}

abbrev pub expired_lease_start : Start
expired_lease_start = begun 1 233123597930171938637576872671869459266 500 0

abbrev pub expired_lease_entries : List Entry
expired_lease_entries =
    entry (events.Follow default_params 1 (codes "b/f/0d4c2c54-b543-5c37-9e34-0a9608dd1386-following-a/l/223c283b-627d-5bac-9463-bf337a05a8ea")) replies.Done ∷
    entry (events.Deliver 0 0 false) (replies.Heard (heard.Lease results.Ok 0)) ∷
    entry (events.Deliver 0 0 false) (replies.Heard heard.Done) ∷
    entry (events.Deliver 0 0 false) (replies.Heard heard.Done) ∷
    entry (events.Deliver 0 0 false) (replies.Heard heard.Done) ∷
    entry (events.Deliver 0 0 false) (replies.Heard heard.Parked) ∷
    entry events.Settle replies.Settled ∷
    entry (events.Write (request (codes "a") None (Some (codes "{\"n\":1}")) false None)) (replies.Written (wrote 0 1 1 written.Created)) ∷
    entry (events.Write (request (codes "a") None (Some (codes "{\"n\":2}")) false None)) (replies.Written (wrote 1 1 2 written.Updated)) ∷
    entry (events.Clock sides.Leader 501) replies.Done ∷
    entry events.Expire (replies.Expired (gone (codes "b/f/0d4c2c54-b543-5c37-9e34-0a9608dd1386-following-a/l/223c283b-627d-5bac-9463-bf337a05a8ea") 0 501 ∷ [])) ∷
    entry events.CloseSessions (replies.Closed 0) ∷
    entry (events.Flush sides.Leader 0) (replies.Flushed 2) ∷
    entry (events.Merge sides.Leader 0) (replies.Merged 2 1 (0 ∷ [])) ∷
    entry (events.Wake 0 0) (replies.Heard (heard.Missing 0 2)) ∷
    entry (events.Deliver 0 0 false) (replies.Heard heard.StoppedMissing) ∷
    entry (events.Status (sides.Follower 0)) (replies.FollowerStatus (follower_status phases.Missing 1 1 (status 0 0 0 0 0 ∷ []) 0 0 0)) ∷
    []
