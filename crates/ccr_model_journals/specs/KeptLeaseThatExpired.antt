-- A lease expires while its request is kept, and the request comes again.
use Rattle.std.specs.Prelude.{false, List, [], ◌∷◌, codes}
use Rattle.ccr_journal.specs.declared.sides.Side.TheVariants as sides
use Rattle.ccr_journal.specs.declared.events.Event.TheVariants as events
use Rattle.ccr_journal.specs.declared.journals.Entry.{Entry}
use Rattle.ccr_journal.specs.declared.replies.Heard.TheVariants as heard
use Rattle.ccr_journal.specs.declared.replies.Refusal.TheVariants as refusals
use Rattle.ccr_journal.specs.declared.replies.Reply.TheVariants as replies
use Rattle.ccr_model.specs.Leaders.{Start}
use Rattle.ccr_model_journals.specs.Words.{begun, default_params, entry, gone, lease, status}

abbrev pub kept_lease_that_expired_start : Start
kept_lease_that_expired_start = begun 2 233123597930171938637576872671869459266 500 0

abbrev pub kept_lease_that_expired_entries : List Entry
kept_lease_that_expired_entries =
    entry (events.Follow default_params 1 (codes "b/f/0d4c2c54-b543-5c37-9e34-0a9608dd1386-following-a/l/223c283b-627d-5bac-9463-bf337a05a8ea")) replies.Done ∷
    entry (events.Deliver 0 0 false) (replies.Heard (heard.Waiting 1)) ∷
    entry (events.Clock sides.Leader 501) replies.Done ∷
    entry events.Expire (replies.Expired (gone (codes "b/f/0d4c2c54-b543-5c37-9e34-0a9608dd1386-following-a/l/223c283b-627d-5bac-9463-bf337a05a8ea") 0 501 ∷ [])) ∷
    entry events.CloseSessions (replies.Closed 0) ∷
    entry (events.Sync sides.Leader 1) replies.Done ∷
    entry (events.Drop 0) (replies.Refused (refusals.NoFrame 0)) ∷
    entry (events.Lose 0 0) replies.Done ∷
    entry (events.Clock (sides.Follower 0) 50) replies.Done ∷
    entry (events.Tick 0) replies.Done ∷
    entry (events.Deliver 0 0 false) (replies.Heard (heard.Waiting 1)) ∷
    entry (events.Drop 0) (replies.Refused (refusals.NoFrame 0)) ∷
    entry (events.Sync sides.Leader 1) replies.Done ∷
    entry (events.Drop 2) (replies.Refused (refusals.NoFrame 2)) ∷
    entry (events.Deliver 0 0 false) (replies.Heard heard.Ignored) ∷
    entry (events.Deliver 0 0 false) (replies.Heard heard.Done) ∷
    entry (events.Status sides.Leader) (replies.LeaderStatus 1 (status 0 0 0 0 0 ∷ status 1 0 0 0 0 ∷ []) (lease (codes "b/f/0d4c2c54-b543-5c37-9e34-0a9608dd1386-following-a/l/223c283b-627d-5bac-9463-bf337a05a8ea") 0 501 ∷ [])) ∷
    []
