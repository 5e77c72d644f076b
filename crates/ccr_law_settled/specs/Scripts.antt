-- The commands on a shard, by which its journal went on.
use Rattle.std.specs.Prelude.{◌≡◌, List, [], ◌∷◌, ◌++◌}
use Rattle.ccr_journal.specs.declared.events.Event.{Event}
use Rattle.ccr_journal.specs.declared.events.Event.TheVariants as events
use Rattle.ccr_journal.specs.declared.journals.Entry.{Entry}
use Rattle.ccr_journal.specs.declared.replies.Reply.{Reply}
use Rattle.ccr_model.specs.Leaders.{Start}
use Rattle.ccr_model.specs.World.{State, start_state}
use Rattle.ccr_model.specs.Step.{state_after}
use Rattle.ccr_model.specs.Settling.{IsSettleRun}
use Rattle.ccr_law_reached.specs.Reached.{told_by}
use Rattle.ccr_law_settled.specs.ScriptLine.{line_of_script}

-- by a settle the journal goes on with some events that settling may use and the settle that is answered; by any other command with its event
abbrev pub GoesOnBy : Event → State → List Entry → Type 0
GoesOnBy events.Settle s entries = IsSettleRun s entries
GoesOnBy event s entries = (told : Reply) × (entries ≡ record { event = event; reply = told } ∷ [])

-- so it does by each of these commands, one after another
abbrev pub IsByScript : State → List Event → List Entry → Type 0
IsByScript s [] entries = entries ≡ []
IsByScript s (event ∷ script) entries =
    (first : List Entry) × (rest : List Entry) × (entries ≡ first ++ rest) × GoesOnBy event s first × IsByScript (state_after s first) script rest

-- the line of the leader's history is the one that the commands make, whatever was done to settle the world
abbrev pub LineIsOfCommands : Start → List Entry → Type 0
LineIsOfCommands start entries = (script : List Event) → IsByScript (start_state start) script entries → (told_by start entries).line.ops ≡ line_of_script start script
