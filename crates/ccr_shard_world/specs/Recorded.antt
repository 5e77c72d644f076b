-- A shard world with its journal as its callers see it, and what it keeps.
use Rattle.std.specs.Prelude.{◌≡◌, Bool, false, List}
use Rattle.ccr_journal.specs.declared.events.Event.{Event}
use Rattle.ccr_journal.specs.declared.journals.Entry.{Entry}
use Rattle.ccr_journal.specs.declared.replies.Reply.{Reply}
use Rattle.ccr_model.specs.Leaders.{Start}
use Rattle.ccr_model.specs.World.{State, start_state}
use Rattle.ccr_model.specs.Step.{step, picks_in, state_after}
use Rattle.ccr_law_reached.specs.Reached.{IsPossible}

-- what it began with, its journal, and whether it is broken
pub record Recorded : Type 0 where
  pub start : Start
  pub journal : List Entry
  pub broken : Bool

-- the state that these tell
abbrev pub state_of : Recorded → State
state_of r = state_after (start_state r.start) r.journal

-- the journal is possible, and the state is the one after it unless the world is broken
pub record IsRecorded (start : Start) (s : State) (entries : List Entry) (broken : Bool) : Type 0 where
  pub possible : IsPossible start entries
  pub whole : broken ≡ false → s ≡ state_after (start_state start) entries

-- the reply is the one that the event gets, with the picks that it keeps
abbrev pub IsReplyTo : State → Event → Reply → Type 0
IsReplyTo s event reply = reply ≡ (step s event (picks_in reply)).reply
