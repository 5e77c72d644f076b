-- Events that are refused, each for its cause.
use Rattle.std.specs.Prelude.{false, List, [], ◌∷◌, Some, None, codes}
use Rattle.ccr_doc.specs.declared.sources.BadSource.TheVariants as faults
use Rattle.ccr_wire.specs.declared.kind.LeaseResult.TheVariants as results
use Rattle.ccr_journal.specs.declared.sides.Side.TheVariants as sides
use Rattle.ccr_journal.specs.declared.events.Event.TheVariants as events
use Rattle.ccr_journal.specs.declared.journals.Entry.{Entry}
use Rattle.ccr_journal.specs.declared.replies.Heard.TheVariants as heard
use Rattle.ccr_journal.specs.declared.replies.Refusal.TheVariants as refusals
use Rattle.ccr_journal.specs.declared.replies.Reply.TheVariants as replies
use Rattle.ccr_model.specs.Leaders.{Start}
use Rattle.ccr_model_journals.specs.Words.{begun, default_params, entry, request}

abbrev pub refusals_start : Start
refusals_start = begun 1 233123597930171938637576872671869459266 43200000 0

abbrev pub refusals_entries : List Entry
refusals_entries =
    entry (events.Follow default_params 1 (codes "b/f/0d4c2c54-b543-5c37-9e34-0a9608dd1386-following-a/l/223c283b-627d-5bac-9463-bf337a05a8ea")) replies.Done ∷
    entry (events.Deliver 0 0 false) (replies.Heard (heard.Lease results.Ok 0)) ∷
    entry (events.Deliver 0 0 false) (replies.Heard heard.Done) ∷
    entry (events.Deliver 0 0 false) (replies.Heard heard.Done) ∷
    entry (events.Deliver 0 0 false) (replies.Heard heard.Done) ∷
    entry (events.Deliver 0 0 false) (replies.Heard heard.Parked) ∷
    entry events.Settle replies.Settled ∷
    entry (events.Write (request (codes "a") None (Some (codes "{\"n\":1.5}")) false None)) (replies.Refused (refusals.BadSource faults.Number)) ∷
    entry (events.Write (request (codes "a") None (Some (codes "[1]")) false None)) (replies.Refused (refusals.BadSource faults.NotObject)) ∷
    entry (events.FailCopy sides.Leader 0) (replies.Refused (refusals.LastCopy 0)) ∷
    entry (events.FailCopy sides.Leader 3) (replies.Refused (refusals.NoCopy 3)) ∷
    entry (events.AddCopy sides.Leader) (replies.Added 1) ∷
    entry (events.FailCopy sides.Leader 0) (replies.Refused (refusals.IsPrimary 0)) ∷
    entry (events.Replicate sides.Leader 1 0) (replies.Refused (refusals.NoOperation 0)) ∷
    entry (events.Deliver 0 0 false) (replies.Refused (refusals.NoFrame 0)) ∷
    entry (events.Wake 0 1) (replies.Refused (refusals.NoPoll 1)) ∷
    entry (events.Lose 0 1) (replies.Refused (refusals.NoRequest 1)) ∷
    entry (events.Take 0 0) (replies.Refused (refusals.NoBatch 0)) ∷
    entry (events.Apply 0 1 0 []) (replies.Refused (refusals.NoBatch 0)) ∷
    entry (events.Pause 0) replies.Done ∷
    entry (events.Renew 0) (replies.Refused refusals.NotActive) ∷
    entry (events.Unfollow 0) replies.Done ∷
    entry (events.Deliver 0 0 false) (replies.Heard (heard.Lease results.Ok 0)) ∷
    entry (events.Deliver 0 0 false) (replies.Heard heard.Done) ∷
    []
