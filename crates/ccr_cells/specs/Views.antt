-- The shard worlds of a run in cells, told by what the passes of the cells have seen.
use Rattle.std.specs.Prelude.{◌≡◌, ◌⊎◌, ℕ, ◌+◌, ◌≤◌, Bool, false, List, [], ◌∷◌, length, map, Option, Some, None}
use Rattle.ccr_journal.specs.declared.journals.Entry.{Entry}
use Rattle.ccr_journal.specs.declared.events.Event.{Event}
use Rattle.ccr_journal.specs.declared.replies.Reply.{Reply}
use Rattle.ccr_model.specs.Leaders.{Start}
use Rattle.ccr_model.specs.Settling.{Note}
use Rattle.ccr_deeds.specs.Logs.{Log, extended}
use Rattle.ccr_shard_world.specs.Runs.{settle_entry}
use Rattle.ccr_workers.specs.Lending.{Went}
use Rattle.ccr_worlds.specs.Fated.{Fate, AreLeft}
use Rattle.ccr_cell.specs.declared.view.View.{View}
use Rattle.ccr_cell.specs.declared.cell.Cell.{Cell}
use Rattle.ccr_cell.specs.declared.pass.Ticket.{Ticket}
use Rattle.ccr_cell.specs.Passes.{view_of}
use Rattle.ccr_workers.specs.Lists.{Each}
use Rattle.ccr_workers.specs.Settles.{IsOnlyPass}
use Rattle.ccr_cells.specs.declared.numbered.Opening.{Opening}
use Rattle.ccr_cells.specs.Opened.{NumberedWorld, opening_of}

-- the start of a world, as a pass knows it; one that knows of none doesn't occur
abbrev pub start_in : Option Opening → Start
start_in None = record { copies = 0; history = []; period = 0; retention = 0 }
start_in (Some opening) = opening.start

abbrev pub log_with : Option Opening → List Entry → Log
log_with opening entries = record { start = start_in opening; entries = entries }

-- the log of a world, as a pass has seen it
abbrev pub log_in : View Opening Entry → Log
log_in v = log_with v.start v.seen

abbrev pub Pass : Type 0
Pass = Ticket NumberedWorld Opening Entry

abbrev pub CellOfWorld : Type 0
CellOfWorld = Cell NumberedWorld Opening Event Reply Entry Note

abbrev pub logs_in : List Pass → List Log
logs_in passes = map (λ (p : Pass). log_in (view_of p)) passes

-- the worlds are numbered from this number on
abbrev pub AreNumbered : ℕ → List Pass → Type 0
AreNumbered n [] = Unit {0}
AreNumbered n (p ∷ ps) = ((start : Start) × ((view_of p).start ≡ Some (record { number = n; start = start }))) × AreNumbered (n + 1) ps

-- Each pass is the only one of its cell, and knows the number of its world. Unless the worlds broke, the policies that are left are those for the numbers
-- that come next. The list for the journals is empty and has room for them.
pub record AreCells (fates : ℕ → Fate) (cells : List CellOfWorld) (passes : List Pass) (broken : Bool) (left : List Fate) (journals : List (List Entry)) (room : ℕ) : Type 0 where
  pub only : Each (IsOnlyPass opening_of) cells passes
  pub numbered : AreNumbered 0 passes
  pub handed : broken ≡ false → AreLeft fates (length passes) left
  pub empty : journals ≡ []
  pub enough : length passes ≤ room

-- ---- a settle is entered

abbrev pub anything : Opening → List Entry → Entry → Type 0
anything opening front entry = Unit {0}

-- it was entered that a world is settled, through its pass
pub record Entered (p q : Pass) : Type 0 where
  pub went : Went anything 0 0 p q
  pub log : log_in (view_of q) ≡ extended (log_in (view_of p)) (settle_entry ∷ [])

-- or nothing was
pub record MayBeEntered (p q : Pass) : Type 0 where
  pub went : Went anything 0 0 p q
  pub log : (log_in (view_of q) ≡ log_in (view_of p)) ⊎ (log_in (view_of q) ≡ extended (log_in (view_of p)) (settle_entry ∷ []))
