-- A replica with a gap becomes the primary, and the missing number becomes a no-op.
use Rattle.std.specs.Prelude.{false, List, [], ◌∷◌, Some, None, codes}
use Rattle.ccr_query.specs.Queries.{condition}
use Rattle.ccr_query.specs.declared.conditions.Condition.TheVariants as conditions
use Rattle.ccr_journal.specs.declared.sides.Side.TheVariants as sides
use Rattle.ccr_journal.specs.declared.events.Event.TheVariants as events
use Rattle.ccr_journal.specs.declared.journals.Entry.{Entry}
use Rattle.ccr_journal.specs.declared.replies.Heard.TheVariants as heard
use Rattle.ccr_journal.specs.declared.replies.Reply.TheVariants as replies
use Rattle.ccr_journal.specs.declared.replies.WriteResult.TheVariants as written
use Rattle.ccr_model.specs.Leaders.{Start}
use Rattle.ccr_model_journals.specs.Words.{begun, default_params, entry, found, hit, lease, request, search_for, status, wrote}

abbrev pub filled_gap_start : Start
filled_gap_start = begun 2 233123597930171938637576872671869459266 43200000 0

abbrev pub filled_gap_entries : List Entry
filled_gap_entries =
    entry (events.Follow default_params 2 (codes "b/f/0d4c2c54-b543-5c37-9e34-0a9608dd1386-following-a/l/223c283b-627d-5bac-9463-bf337a05a8ea")) replies.Done ∷
    entry (events.Deliver 0 0 false) (replies.Heard (heard.Waiting 1)) ∷
    entry (events.Sync sides.Leader 1) replies.Done ∷
    entry (events.Deliver 0 0 false) (replies.Heard heard.Done) ∷
    entry (events.Deliver 0 0 false) (replies.Heard heard.Done) ∷
    entry (events.Deliver 0 0 false) (replies.Heard heard.Done) ∷
    entry (events.Deliver 0 0 false) (replies.Heard heard.Parked) ∷
    entry events.Settle replies.Settled ∷
    entry (events.Write (request (codes "a") None (Some (codes "{\"n\":1}")) false None)) (replies.Written (wrote 0 1 1 written.Created)) ∷
    entry (events.Write (request (codes "b") None (Some (codes "{\"n\":1}")) false None)) (replies.Written (wrote 1 1 1 written.Created)) ∷
    entry (events.Write (request (codes "c") None (Some (codes "{\"n\":1}")) false None)) (replies.Written (wrote 2 1 1 written.Created)) ∷
    entry (events.Write (request (codes "d") None (Some (codes "{\"n\":1}")) false None)) (replies.Written (wrote 3 1 1 written.Created)) ∷
    entry (events.Write (request (codes "e") None (Some (codes "{\"n\":1}")) false None)) (replies.Written (wrote 4 1 1 written.Created)) ∷
    entry (events.Replicate sides.Leader 1 0) replies.Done ∷
    entry (events.Replicate sides.Leader 1 1) replies.Done ∷
    entry (events.Replicate sides.Leader 1 2) replies.Done ∷
    entry (events.Replicate sides.Leader 1 4) replies.Done ∷
    entry (events.Promote sides.Leader 1) (replies.Promoted 2 1) ∷
    entry (events.Status sides.Leader) (replies.LeaderStatus 2 (status 1 5 5 0 5 ∷ []) (lease (codes "b/f/0d4c2c54-b543-5c37-9e34-0a9608dd1386-following-a/l/223c283b-627d-5bac-9463-bf337a05a8ea") 0 0 ∷ [])) ∷
    entry (events.Search sides.Leader 1 (search_for (condition conditions.MatchAll) [])) (replies.Found (found 5 false (hit (codes "a") None (codes "{\"n\":1}") ∷ hit (codes "b") None (codes "{\"n\":1}") ∷ hit (codes "c") None (codes "{\"n\":1}") ∷ hit (codes "e") None (codes "{\"n\":1}") ∷ []))) ∷
    []
