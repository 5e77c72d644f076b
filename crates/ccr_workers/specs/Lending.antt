-- Passes of which parts were given to workers.
use Rattle.std.specs.Prelude.{◌≡◌, ◌≢◌, ℕ, ◌+◌, ◌≤◌, List, ◌∷◌, ◌++◌, length, Some}
use mathlib.Core.List.{IsPrefix}
use Rattle.ccr_cell.specs.declared.view.View.{View}
use Rattle.ccr_cell.specs.declared.pass.Ticket.{Ticket}
use Rattle.ccr_cell.specs.declared.cell.Cell.{Cell}
use Rattle.ccr_cell.specs.Counts.{times}
use Rattle.ccr_cell.specs.Passes.{view_of}
use Rattle.ccr_cell.specs.Law.{Owns, IsWhole, kept_half}
use Rattle.ccr_workers.specs.Settles.{IsHome, IsIdleAt}

module _ {S E : Type 0} (chosen : S → List E → E → Type 0) where
  -- the entry at the place was chosen behind those before it
  pub record ChosenAt (start : S) (seen : List E) (place : ℕ) : Type 0 where
    pub front : List E
    pub entry : E
    pub back : List E
    pub split : seen ≡ front ++ (entry ∷ back)
    pub here : place ≡ length front
    pub is : chosen start front entry

  -- A pass went on from one view to another: it saw more, lent so many shares and got so many back, and each of the calls that came to its own was
  -- chosen at its place.
  pub record WentOn (lent back : ℕ) (v w : View S E) : Type 0 where
    pub begins : IsPrefix v.seen w.seen
    pub share : w.share + lent ≡ v.share + back
    pub start : w.start ≡ v.start
    pub opened : w.opened ≡ v.opened
    pub added : List ℕ
    pub mine : w.mine ≡ v.mine ++ added
    pub each : (start : S) → v.start ≡ Some start → (p : ℕ) → times p added ≢ 0 → ChosenAt start w.seen p
    pub owns : (IsWhole v → Owns v) → IsWhole w → Owns w

  module _ {X : Type 0} where
    -- the same of passes of one cell
    pub record Went (lent back : ℕ) (p q : Ticket X S E) : Type 0 where
      pub table : q.seat.table_id ≡ p.seat.table_id
      pub on : WentOn lent back (view_of p) (view_of q)

module _ {X S E : Type 0} (chosen : S → List E → E → Type 0) (is_idle : S → List E → Type 0) where
  -- a pass went on until nothing was left to be done
  pub record Finished (p q : Ticket X S E) : Type 0 where
    pub went : Went chosen 0 0 p q
    pub idle : IsIdleAt is_idle (view_of q)

module _ {X S V R E N : Type 0} (start : X → S) (chosen : S → List E → E → Type 0) where
  -- a worker's pass of the cell: it has one share, and each of its calls was chosen at its place
  pub record IsReady (cell : Cell X S V R E N) (pass : Ticket X S E) : Type 0 where
    pub home : IsHome start cell pass
    pub share : (view_of pass).share ≡ 1
    pub each : (s : S) → (view_of pass).start ≡ Some s → (place : ℕ) → times place (view_of pass).mine ≢ 0 → ChosenAt chosen s (view_of pass).seen place

module _ {X S V R E N : Type 0} (start : X → S) where
  -- the pass of the cell has a share to give away
  pub record MayLend (cell : Cell X S V R E N) (pass : Ticket X S E) : Type 0 where
    pub home : IsHome start cell pass
    pub two : 2 ≤ (view_of pass).share

module _ {X S E : Type 0} where
  -- a share of it was given away
  pub record Halved (p q : Ticket X S E) : Type 0 where
    pub table : q.seat.table_id ≡ p.seat.table_id
    pub view : view_of q ≡ kept_half (view_of p)
