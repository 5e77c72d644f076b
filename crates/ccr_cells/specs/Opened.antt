-- A shard world with its number among those of a run, and what its machine tells.
use Rattle.std.specs.Prelude.{◌≡◌, ℕ, true, List}
use Rattle.ccr_journal.specs.declared.events.Event.{Event}
use Rattle.ccr_journal.specs.declared.journals.Entry.{Entry}
use Rattle.ccr_journal.specs.declared.replies.Reply.{Reply}
use Rattle.ccr_model.specs.World.{State, start_state}
use Rattle.ccr_model.specs.Step.{state_after}
use Rattle.ccr_model.specs.Settled.{is_settled}
use Rattle.ccr_model.specs.Settling.{Note, note_of, MaySettle}
use Rattle.ccr_shard_world.specs.Recorded.{Recorded, IsReplyTo}
use Rattle.ccr_deeds.specs.Deeds.{IsOrderedFor}
use Rattle.ccr_workers.specs.Settles.{IsChosen}
use Rattle.ccr_cells.specs.declared.numbered.Opening.{Opening}

pub record NumberedWorld : Type 0 where
  pub number : ℕ
  pub recorded : Recorded

-- what it began with
abbrev pub opening_of : NumberedWorld → Opening
opening_of w = record { number = w.number; start = w.recorded.start }

-- its state after these entries
abbrev pub state_from : Opening → List Entry → State
state_from opening entries = state_after (start_state opening.start) entries

abbrev pub entry_in : Event → Reply → Entry
entry_in event reply = record { event = event; reply = reply }

-- which replies it may give, which events it may choose, whether nothing is left, and what is read of it
abbrev pub may_reply_in : Opening → List Entry → Event → Reply → Type 0
may_reply_in opening entries event reply = IsReplyTo (state_from opening entries) event reply × IsOrderedFor event reply

abbrev pub may_choose_in : Opening → List Entry → Event → Type 0
may_choose_in opening entries event = MaySettle (state_from opening entries) event

abbrev pub is_idle_in : Opening → List Entry → Type 0
is_idle_in opening entries = is_settled (state_from opening entries) ≡ true

abbrev pub note_in : Opening → List Entry → ℕ → Note
note_in opening entries of = note_of (state_from opening entries) of

-- the machine may choose the entry's event there, and may answer it so
abbrev pub chosen_in : Opening → List Entry → Entry → Type 0
chosen_in = IsChosen entry_in may_reply_in may_choose_in is_idle_in
