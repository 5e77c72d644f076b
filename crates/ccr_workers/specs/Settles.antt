-- What settling adds to the journals of machines in cells.
use Rattle.std.specs.Prelude.{◌≡◌, ◌≤◌, List, [], ◌∷◌, ◌++◌, length, Some}
use Rattle.ccr_cell.specs.declared.view.View.{View}
use Rattle.ccr_cell.specs.declared.pass.Ticket.{Ticket}
use Rattle.ccr_cell.specs.declared.cell.Cell.{Cell}
use Rattle.ccr_cell.specs.Passes.{view_of, IsOf, first_of}
use Rattle.ccr_cell.specs.Law.{Owns, IsWhole}
use Rattle.ccr_cell.specs.Told.{Same}

-- from this start after these entries something is left to be done, the machine may choose this entry's event, and may answer it so
pub record IsChosen {S V R E : Type 0} (entry_of : V → R → E) (may_reply : S → List E → V → R → Type 0) (may_choose : S → List E → V → Type 0) (is_idle : S → List E → Type 0) (start : S) (front : List E) (entry : E) : Type 0 where
  pub event : V
  pub reply : R
  pub is : entry ≡ entry_of event reply
  pub left : ¬ is_idle start front
  pub may : may_choose start front event
  pub replied : may_reply start front event reply

module _ {S E : Type 0} (chosen : S → List E → E → Type 0) where
  -- each of the entries was chosen at its place behind these
  abbrev pub AreChosen : S → List E → List E → Type 0
  AreChosen start front [] = Unit {0}
  AreChosen start front (entry ∷ entries) = chosen start front entry × AreChosen start (front ++ entry ∷ []) entries

  -- The journal that a pass has seen went on by entries, each of which was chosen at its place. Its share, and what it knows of the cell's opening, stay.
  pub record Settles (v w : View S E) : Type 0 where
    pub added : List E
    pub grew : w.seen ≡ v.seen ++ added
    pub each : (start : S) → v.start ≡ Some start → AreChosen start v.seen added
    pub same : Same v w

module _ {S E : Type 0} where
  -- nothing is left to be done, from its start after what the pass has seen
  abbrev pub IsIdleAt : (S → List E → Type 0) → View S E → Type 0
  IsIdleAt is_idle v = (start : S) → v.start ≡ Some start → is_idle start v.seen

  -- there is no other pass, and each entry after the cell's opening is one of the pass's own calls, once
  pub record IsAlone (v : View S E) : Type 0 where
    pub whole : IsWhole v
    pub owns : Owns v
    pub opened : v.opened ≤ length v.seen

module _ {X S V R E N : Type 0} (start : X → S) where
  -- the pass is of the cell, and knows the start of its machine
  pub record IsHome (cell : Cell X S V R E N) (pass : Ticket X S E) : Type 0 where
    pub own : IsOf cell pass
    pub from_start : (view_of pass).start ≡ Some (start (first_of cell))

  -- it is the only pass of the cell
  pub record IsOnlyPass (cell : Cell X S V R E N) (pass : Ticket X S E) : Type 0 where
    pub home : IsHome cell pass
    pub alone : IsAlone (view_of pass)
