-- Eight followers of one shard, a ninth that is refused, and a world that settles once the write has ended.
use Rattle.std.specs.Prelude.{false, List, [], ◌∷◌, Some, None, codes}
use Rattle.ccr_wire.specs.declared.kind.LeaseResult.TheVariants as results
use Rattle.ccr_journal.specs.declared.events.Event.TheVariants as events
use Rattle.ccr_journal.specs.declared.journals.Entry.{Entry}
use Rattle.ccr_journal.specs.declared.replies.Heard.TheVariants as heard
use Rattle.ccr_journal.specs.declared.replies.Refusal.TheVariants as refusals
use Rattle.ccr_journal.specs.declared.replies.Reply.TheVariants as replies
use Rattle.ccr_journal.specs.declared.replies.WriteResult.TheVariants as written
use Rattle.ccr_model.specs.Leaders.{Start}
use Rattle.ccr_model_journals.specs.Words.{begun, entry, index, params, request, wrote}

abbrev pub ninth_follower_start : Start
ninth_follower_start = begun 1 7 1000000 0

abbrev pub ninth_follower_entries : List Entry
ninth_follower_entries =
    entry (events.Follow (params 3 1000 2 3 1000 1 4 1000 100 50 4096) 1 (codes "n")) replies.Done ∷
    entry (events.Deliver 0 0 false) (replies.Heard (heard.Lease results.Ok 0)) ∷
    entry (events.Deliver 0 0 false) (replies.Heard heard.Done) ∷
    entry (events.Deliver 0 0 false) (replies.Heard heard.Done) ∷
    entry (events.Deliver 0 0 false) (replies.Heard heard.Done) ∷
    entry (events.Deliver 0 0 false) (replies.Heard heard.Parked) ∷
    entry (events.Write (request (codes "a") None (Some (codes "{\"n\":1}")) false None)) (replies.Written (wrote 0 1 1 written.Created)) ∷
    entry (events.Write (request (codes "b") None (Some (codes "{\"n\":1}")) false None)) (replies.Written (wrote 1 1 1 written.Created)) ∷
    entry (events.Wake 0 0) (replies.Heard heard.Done) ∷
    entry (events.Deliver 0 0 false) (replies.Heard heard.Done) ∷
    entry (events.Take 0 0) (replies.Took (index 0 1 1 (codes "a") None (codes "{\"n\":1}") ∷ index 1 1 1 (codes "b") None (codes "{\"n\":1}") ∷ [])) ∷
    entry (events.Apply 0 1 0 (index 0 1 1 (codes "a") None (codes "{\"n\":1}") ∷ index 1 1 1 (codes "b") None (codes "{\"n\":1}") ∷ [])) (replies.Applied 2) ∷
    entry (events.Deliver 0 0 false) (replies.Heard heard.Parked) ∷
    entry events.Settle (replies.Refused refusals.NotSettled) ∷
    entry (events.Written 0 0) replies.Done ∷
    entry events.Settle replies.Settled ∷
    entry (events.Follow (params 3 1000 2 3 1000 1 4 1000 100 50 4096) 1 (codes "m0")) replies.Done ∷
    entry (events.Follow (params 3 1000 2 3 1000 1 4 1000 100 50 4096) 1 (codes "m1")) replies.Done ∷
    entry (events.Follow (params 3 1000 2 3 1000 1 4 1000 100 50 4096) 1 (codes "m2")) replies.Done ∷
    entry (events.Follow (params 3 1000 2 3 1000 1 4 1000 100 50 4096) 1 (codes "m3")) replies.Done ∷
    entry (events.Follow (params 3 1000 2 3 1000 1 4 1000 100 50 4096) 1 (codes "m4")) replies.Done ∷
    entry (events.Follow (params 3 1000 2 3 1000 1 4 1000 100 50 4096) 1 (codes "m5")) replies.Done ∷
    entry (events.Follow (params 3 1000 2 3 1000 1 4 1000 100 50 4096) 1 (codes "m6")) replies.Done ∷
    entry (events.Follow (params 3 1000 2 3 1000 1 4 1000 100 50 4096) 1 (codes "m7")) (replies.Refused refusals.TooMany) ∷
    []
