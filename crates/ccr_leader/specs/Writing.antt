-- What a write asks of the document that it finds, and what it becomes.
use Rattle.std.specs.Prelude.{◌≡◌, ℕ, ◌&&◌, Bool, true, false, if◌then◌else◌, List, Option, Some, None, is_some, Ok}
use Rattle.ccr_op.specs.Operation.{Operation}
use Rattle.ccr_doc.specs.Sources.{compact_of}
use Rattle.ccr_journal.specs.declared.requests.WriteRequest.{WriteRequest}
use Rattle.ccr_journal.specs.declared.replies.WriteResult.{WriteResult}
use Rattle.ccr_journal.specs.declared.replies.WriteResult.TheVariants.{Created, Updated, Deleted, NotFound}
use Rattle.ccr_journal.specs.declared.replies.Refusal.{Refusal}
use Rattle.ccr_journal.specs.declared.replies.Refusal.TheVariants.{Conflict, Exists}
use Rattle.ccr_model.specs.LeaderRows.{conflicts, place_of_live, number_of}

-- why a write is refused that can be read, where it is
abbrev pub expectation : WriteRequest → Option Operation → Option Refusal
expectation request found =
    if conflicts request.expect found then Some (Conflict (place_of_live found))
    else if request.create && is_some found then Some (Exists (number_of found))
    else None

-- the source is the compact text of what was given, and none where none was given
abbrev pub IsCompactOf : Option (List ℕ) → Option (List ℕ) → Type 0
IsCompactOf None None = Unit {0}
IsCompactOf (Some body) (Some text) = compact_of body ≡ Ok text
IsCompactOf _ _ = ⊥

-- what a write, or else a delete, finds where the document is there, and where it is not
abbrev pub result_for : Bool → Bool → WriteResult
result_for true true = Updated
result_for true false = Created
result_for false true = Deleted
result_for false false = NotFound
