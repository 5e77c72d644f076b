-- The shard worlds of a run, told by their journals.
use Rattle.std.specs.Prelude.{◌≡◌, ℕ, zero, suc, List, [], ◌∷◌, ◌++◌, Some, slice_get}
use Rattle.std.specs.Option.{option_map}
use Rattle.ccr_journal.specs.declared.journals.Entry.{Entry}
use Rattle.ccr_model.specs.Leaders.{Start}
use Rattle.ccr_model.specs.World.{State, start_state}
use Rattle.ccr_model.specs.Step.{state_after}
use Rattle.ccr_model.specs.Settling.{Note, note_of}

-- a world's start and its journal
pub record Log : Type 0 where
  pub start : Start
  pub entries : List Entry

abbrev pub new_log : Start → Log
new_log start = record { start = start; entries = [] }

abbrev pub state_of : Log → State
state_of log = state_after (start_state log.start) log.entries

abbrev pub extended : Log → List Entry → Log
extended log entries = record log { entries = log.entries ++ entries }

-- the logs, where that of the world of this number has these entries at its end
abbrev pub entered : List Log → ℕ → List Entry → List Log
entered [] w entries = []
entered (log ∷ logs) zero entries = extended log entries ∷ logs
entered (log ∷ logs) (suc w) entries = log ∷ entered logs w entries

-- what is read of the world of this number, and of a follower there
abbrev pub IsNoteOf : List Log → ℕ → ℕ → Note → Type 0
IsNoteOf logs w f note = option_map {T = Log} {U = Note} (λ log. note_of (state_of log) f) (slice_get logs w) ≡ Some note
