-- A session that is asked for before the leader is ready waits for a retry.
use Rattle.std.specs.Prelude.{false, List, [], ◌∷◌, codes}
use Rattle.ccr_journal.specs.declared.sides.Side.TheVariants as sides
use Rattle.ccr_journal.specs.declared.sides.Phase.TheVariants as phases
use Rattle.ccr_journal.specs.declared.events.Event.TheVariants as events
use Rattle.ccr_journal.specs.declared.journals.Entry.{Entry}
use Rattle.ccr_journal.specs.declared.replies.Heard.TheVariants as heard
use Rattle.ccr_journal.specs.declared.replies.Refusal.TheVariants as refusals
use Rattle.ccr_journal.specs.declared.replies.Reply.TheVariants as replies
use Rattle.ccr_model.specs.Leaders.{Start}
use Rattle.ccr_model_journals.specs.Words.{begun, default_params, entry, follower_status, lease, status}

abbrev pub session_not_ready_start : Start
session_not_ready_start = begun 3 233123597930171938637576872671869459266 43200000 0

abbrev pub session_not_ready_entries : List Entry
session_not_ready_entries =
    entry (events.Follow default_params 1 (codes "b/f/0d4c2c54-b543-5c37-9e34-0a9608dd1386-following-a/l/223c283b-627d-5bac-9463-bf337a05a8ea")) replies.Done ∷
    entry (events.Deliver 0 0 false) (replies.Heard (heard.Waiting 1)) ∷
    entry (events.Sync sides.Leader 1) replies.Done ∷
    entry (events.Sync sides.Leader 2) replies.Done ∷
    entry (events.Deliver 0 0 false) (replies.Heard heard.Done) ∷
    entry (events.Promote sides.Leader 1) (replies.Promoted 2 0) ∷
    entry (events.Deliver 0 1 false) (replies.Heard (heard.NotReady 2)) ∷
    entry (events.Deliver 0 1 false) (replies.Heard heard.Done) ∷
    entry (events.Resync 2) (replies.Resynced 0 0) ∷
    entry (events.Clock (sides.Follower 0) 50) replies.Done ∷
    entry (events.Tick 0) replies.Done ∷
    entry (events.Deliver 0 1 false) (replies.Heard (heard.NotReady 2)) ∷
    entry (events.Ack sides.Leader 2) (replies.Acked 0) ∷
    entry (events.Deliver 0 1 false) (replies.Heard heard.Done) ∷
    entry (events.Clock (sides.Follower 0) 149) replies.Done ∷
    entry (events.Tick 0) replies.Done ∷
    entry (events.Drop 0) (replies.Refused (refusals.NoFrame 0)) ∷
    entry (events.Clock (sides.Follower 0) 150) replies.Done ∷
    entry (events.Tick 0) replies.Done ∷
    entry (events.Deliver 0 1 false) (replies.Heard heard.Done) ∷
    entry (events.Deliver 0 1 false) (replies.Heard heard.Done) ∷
    entry (events.Status (sides.Follower 0)) (replies.FollowerStatus (follower_status phases.Active 1 1 (status 0 0 0 0 0 ∷ []) 1 0 0)) ∷
    entry (events.Status sides.Leader) (replies.LeaderStatus 2 (status 1 0 0 0 0 ∷ status 2 0 0 0 0 ∷ []) (lease (codes "b/f/0d4c2c54-b543-5c37-9e34-0a9608dd1386-following-a/l/223c283b-627d-5bac-9463-bf337a05a8ea") 0 0 ∷ [])) ∷
    []
