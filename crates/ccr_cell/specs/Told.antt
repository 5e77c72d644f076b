-- What the calls of a cell tell, from the view of the pass before to its view after.
use Rattle.std.specs.Prelude.{◌≡◌, ◌+◌, ℕ, true, List, [], ◌∷◌, ◌++◌, length, Some}
use mathlib.Core.List.{IsPrefix}
use Rattle.atomic_table.specs.Table.{Me}
use Rattle.ccr_cell.specs.declared.view.View.{View}
use Rattle.ccr_cell.specs.Counts.{longer}
use Rattle.ccr_cell.specs.Law.{Owns, IsWhole}

module _ {S E : Type 0} where
  -- the share, the start and the length of the first journal stay
  pub record Same (v w : View S E) : Type 0 where
    pub share : w.share ≡ v.share
    pub start : w.start ≡ v.start
    pub opened : w.opened ≡ v.opened

  -- There is one list, of which all that the pass had seen is a beginning, and which it has then seen with this entry at its end.
  -- `may` holds of the machine's start and the entries before. The entry's place is one more of the pass's own calls.
  -- With the whole share, nobody's entry stands between, and the pass's own calls are all that were made through the cell, each once.
  pub record Acted (may : S → List E → Type 0) (entry : E) (place : ℕ) (v w : View S E) : Type 0 where
    pub start : S
    pub front : List E
    pub begins : IsPrefix v.seen front
    pub seen : w.seen ≡ front ++ entry ∷ []
    pub here : place ≡ length front
    pub may_be : may start front
    pub from_start : v.start ≡ Some start
    pub mine : w.mine ≡ v.mine ++ place ∷ []
    pub same : Same v w
    pub alone : IsWhole v → front ≡ v.seen
    pub owns : IsWhole v → Owns w

  -- The pass has then seen a list of which all that it had seen is a beginning. `may` holds of the machine's start and that list. It made no entry.
  pub record Looked (may : S → List E → Type 0) (v w : View S E) : Type 0 where
    pub start : S
    pub begins : IsPrefix v.seen w.seen
    pub may_be : may start w.seen
    pub from_start : v.start ≡ Some start
    pub mine : w.mine ≡ v.mine
    pub same : Same v w
    pub alone : IsWhole v → w.seen ≡ v.seen
    pub owns : IsWhole v → Owns w

  -- One pass with the view u is made of two with the views v and w: it has seen the longer of what they had, which both begin, and keeps the calls of both.
  pub record Joined (v w u : View S E) : Type 0 where
    pub seen : u.seen ≡ longer v.seen w.seen
    pub one : IsPrefix v.seen u.seen
    pub other : IsPrefix w.seen u.seen
    pub mine : u.mine ≡ v.mine ++ w.mine
    pub share : u.share ≡ v.share + w.share
    pub start : u.start ≡ v.start
    pub opened : u.opened ≡ v.opened
    pub owns : IsWhole u → Owns u

module _ {X S E : Type 0} (start : X → S) (journal : X → List E) where
  -- The machine that comes back has the start of the first one, and its journal, which goes on from that of the first, is all that the pass has seen.
  -- Each entry that was made through the cell is one of the pass's own calls, once.
  pub record Closed (first : X) (v : View S E) (machine : X) : Type 0 where
    pub start_is : start machine ≡ start first
    pub from_start : v.start ≡ Some (start machine)
    pub journal_is : journal machine ≡ v.seen
    pub begun : IsPrefix (journal first) (journal machine)
    pub first_is : v.opened ≡ length (journal first)
    pub owns : Owns v

  -- a seat has the machine in hand, whose journal this is
  pub record InHand (me : Me X (View S E)) (seen : List E) : Type 0 where
    pub machine : X
    pub holds : me.1 ≡ (0, machine) ∷ []
    pub turn : me.0.turn ≡ true
    pub from_start : me.0.start ≡ Some (start machine)
    pub journal_is : journal machine ≡ seen
