-- A document that was deleted and merged away is not there at a follower that follows afterwards.
use Rattle.std.specs.Prelude.{false, List, [], ◌∷◌, Some, None, codes}
use Rattle.ccr_wire.specs.declared.kind.LeaseResult.TheVariants as results
use Rattle.ccr_query.specs.Queries.{condition}
use Rattle.ccr_query.specs.declared.conditions.Condition.TheVariants as conditions
use Rattle.ccr_journal.specs.declared.sides.Side.TheVariants as sides
use Rattle.ccr_journal.specs.declared.sides.Phase.TheVariants as phases
use Rattle.ccr_journal.specs.declared.events.Event.TheVariants as events
use Rattle.ccr_journal.specs.declared.journals.Entry.{Entry}
use Rattle.ccr_journal.specs.declared.replies.Heard.TheVariants as heard
use Rattle.ccr_journal.specs.declared.replies.Reply.TheVariants as replies
use Rattle.ccr_journal.specs.declared.replies.WriteResult.TheVariants as written
use Rattle.ccr_model.specs.Leaders.{Start}
use Rattle.ccr_model_journals.specs.Words.{begun, default_params, entry, follower_status, found, request, search_for, status, wrote}

abbrev pub deleted_document_start : Start
deleted_document_start = begun 1 233123597930171938637576872671869459266 43200000 0

abbrev pub deleted_document_entries : List Entry
deleted_document_entries =
    entry (events.Write (request (codes "a") None (Some (codes "{\"n\":1}")) false None)) (replies.Written (wrote 0 1 1 written.Created)) ∷
    entry (events.Write (request (codes "a") None None false None)) (replies.Written (wrote 1 1 2 written.Deleted)) ∷
    entry (events.Flush sides.Leader 0) (replies.Flushed 2) ∷
    entry (events.Merge sides.Leader 0) (replies.Merged 2 2 (0 ∷ [])) ∷
    entry (events.Follow default_params 1 (codes "b/f/0d4c2c54-b543-5c37-9e34-0a9608dd1386-following-a/l/223c283b-627d-5bac-9463-bf337a05a8ea")) replies.Done ∷
    entry (events.Deliver 0 0 false) (replies.Heard (heard.Lease results.Ok 2)) ∷
    entry (events.Deliver 0 0 false) (replies.Heard heard.Done) ∷
    entry (events.Deliver 0 0 false) (replies.Heard heard.Done) ∷
    entry (events.Deliver 0 0 false) (replies.Heard heard.Done) ∷
    entry (events.Deliver 0 0 false) (replies.Heard heard.Parked) ∷
    entry events.Settle replies.Settled ∷
    entry (events.Search (sides.Follower 0) 0 (search_for (condition conditions.MatchAll) [])) (replies.Found (found 2 false [])) ∷
    entry (events.Status (sides.Follower 0)) (replies.FollowerStatus (follower_status phases.Active 1 1 (status 0 2 2 0 0 ∷ []) 1 0 0)) ∷
    []
