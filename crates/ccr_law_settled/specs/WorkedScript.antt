-- A script on a shard of two copies, worked out.
use Rattle.std.specs.Prelude.{◌≡◌, true, false, List, [], ◌∷◌, ◌++◌, None}
use Rattle.ccr_op.specs.Operation.{Operation}
use Rattle.ccr_op.specs.declared.operation.Kind.TheVariants.{Delete}
use Rattle.ccr_query.specs.Queries.{condition}
use Rattle.ccr_query.specs.declared.conditions.Condition.TheVariants as conditions
use Rattle.ccr_journal.specs.declared.sides.Side.TheVariants as sides
use Rattle.ccr_journal.specs.declared.events.Event.{Event}
use Rattle.ccr_journal.specs.declared.events.Event.TheVariants as events
use Rattle.ccr_journal.specs.declared.journals.Entry.{Entry}
use Rattle.ccr_journal.specs.declared.replies.Reply.TheVariants as replies
use Rattle.ccr_journal.specs.declared.replies.WriteResult.TheVariants as results
use Rattle.ccr_model.specs.Leaders.{Start}
use Rattle.ccr_model.specs.World.{start_state}
use Rattle.ccr_model.specs.Step.{IsLegal}
use Rattle.ccr_law_settled.specs.ScriptLine.{line_of_script, script_of, script_line}
use Rattle.ccr_law_settled.specs.WhenSettled.{ends_settled}

abbrev pub two_copies : Start
two_copies = record { copies = 2; history = []; period = 1000; retention = 0 }

-- a delete of the document "a", which isn't there
abbrev pub deleting : Event
deleting = events.Write (record { id = 97 ∷ []; routing = None; body = None; create = false; expect = None })

abbrev pub deletion : Operation
deletion = record { seq = 0; term = 1; version = 1; kind = Delete (97 ∷ []) None }

-- it is written and copied, and the world is settled
abbrev pub settled_journal : List Entry
settled_journal =
    record { event = deleting; reply = replies.Written (record { seq = 0; term = 1; version = 1; result = results.NotFound }) }
    ∷ record { event = events.Replicate sides.Leader 1 0; reply = replies.Done }
    ∷ record { event = events.Ack sides.Leader 1; reply = replies.Acked 1 }
    ∷ record { event = events.Sync sides.Leader 1; reply = replies.Done }
    ∷ record { event = events.Settle; reply = replies.Settled }
    ∷ []

-- a search of the replica
abbrev pub found_then : Entry
found_then = record {
  event = events.Search sides.Leader 1 (record { query = condition conditions.MatchAll; sort = [] });
  reply = replies.Found (record { count = 1; gap = false; hits = [] });
}

-- The journal comes about so, and is settled before the search. Its script is the write and the settle, whose line has the operation. A copy
-- that fails after a settle has the operation to go on with, and one that fails before it lacks it.
pub record IsWorked : Type 0 where
  pub legal : IsLegal (start_state two_copies) (settled_journal ++ found_then ∷ [])
  pub ends : ends_settled false settled_journal ≡ true
  pub script : script_of settled_journal ≡ deleting ∷ events.Settle ∷ []
  pub line : script_line two_copies settled_journal ≡ deletion ∷ []
  pub kept : line_of_script two_copies (deleting ∷ events.Settle ∷ events.FailCopy sides.Leader 1 ∷ events.ForcePromote 1 ∷ []) ≡ deletion ∷ []
  pub lacked : line_of_script two_copies (deleting ∷ events.FailCopy sides.Leader 1 ∷ events.ForcePromote 1 ∷ []) ≡ []
