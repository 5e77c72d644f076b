-- A call in one cell, and a world more.
use Rattle.std.specs.Prelude.{Option, Some, slice_set}
use Rattle.std.proofs.Common.{◌≡◌, ℕ, zero, suc, ◌+◌, ◌<◌, ◌≤◌, Bool, false, List, [], ◌∷◌, ◌++◌, length, get_or, sym, ◌∙◌, ap, subst, arith, length-append}
use Rattle.std.proofs.Math.ListN.{length-set}
use Rattle.ccr_journal.specs.declared.journals.Entry.{Entry}
use Rattle.ccr_model.specs.Leaders.{Start}
use Rattle.ccr_model.specs.World.{start_state}
use Rattle.ccr_model.specs.Step.{state_after}
use Rattle.ccr_model.specs.Settling.{Note, note_of}
use Rattle.ccr_cell.specs.declared.view.View.{View}
use Rattle.ccr_cell.specs.Passes.{view_of, first_of, IsOf}
use Rattle.ccr_cell.specs.Law.{IsWhole, Owns, first_view}
use Rattle.ccr_cell.specs.Told.{Acted, Looked}
use Rattle.ccr_workers.specs.Lists.{Each}
use Rattle.ccr_workers.specs.Settles.{IsOnlyPass}
use Rattle.ccr_workers.specs.Lending.{Went}
use Rattle.ccr_workers.proofs.Growing.{acted_on, looked_on}
use Rattle.ccr_deeds.specs.Logs.{Log, state_of}
use Rattle.ccr_worlds.specs.Fated.{Fate, AreLeft}
use Rattle.ccr_cells.specs.declared.numbered.Opening.{Opening}
use Rattle.ccr_cells.specs.Opened.{NumberedWorld, opening_of, state_from, note_in}
use Rattle.ccr_cells.specs.Views.{Pass, CellOfWorld, AreCells, AreNumbered, anything, logs_in, log_in, start_in}
use Rattle.ccr_cells.proofs.Slots.{only_set, numbers_set, each_push, numbered_more}

-- ---- what a call does to a pass that is alone

module _ (cell : CellOfWorld) (p q : Pass) (only : IsOnlyPass opening_of cell p) where
  pub acted_went : (may : Opening → List Entry → Type 0) (entry : Entry) (place : ℕ) → IsOf cell q → Acted may entry place (view_of p) (view_of q) → Went anything 0 0 p q
  acted_went may entry place own it = record {
    table = own ∙ sym only.home.own;
    on = acted_on anything may entry place (view_of p) (view_of q) (λ o front is. tt) it;
  }

  pub looked_went : (may : Opening → List Entry → Type 0) → IsOf cell q → Looked may (view_of p) (view_of q) → Went anything 0 0 p q
  looked_went may own it = record { table = own ∙ sym only.home.own; on = looked_on anything may (view_of p) (view_of q) it }

-- what a look finds is of the log that the pass had seen
pub noted : (v w : View Opening Entry) (of : ℕ) (note : Note) → IsWhole v → Looked (λ o front. note ≡ note_in o front of) v w → note ≡ note_of (state_of (log_in v)) of
noted v w of note whole it =
    it.may_be
    ∙ (ap (λ (es : List Entry). note_of (state_from it.start es) of) (it.alone whole)
    ∙ ap (λ (s : Option Opening). note_of (state_after (start_state (start_in s)) v.seen) of) (sym it.from_start))

-- ---- the pass at a place goes on

pub kept_at : (ps : List Pass) (i : ℕ) (d p q : Pass) → i < length ps → p ≡ get_or ps i d → log_in (view_of q) ≡ log_in (view_of p) → logs_in (slice_set ps i q) ≡ logs_in ps
kept_at [] i d p q within is same = absurd (omega arith)
kept_at (x ∷ ps) zero d p q within is same = ap (λ (l : Log). l ∷ logs_in ps) (same ∙ ap (λ (t : Pass). log_in (view_of t)) is)
kept_at (x ∷ ps) (suc i) d p q within is same = ap (λ (ls : List Log). log_in (view_of x) ∷ ls) (kept_at ps i d p q (omega arith) is same)

module _ (fates : ℕ → Fate) (cells : List CellOfWorld) (ps : List Pass) (broken : Bool) (left : List Fate) (journals : List (List Entry)) (room : ℕ)
    (are : AreCells fates cells ps broken left journals room) where
  pub cells_set : (i : ℕ) (lt : i < length (logs_in ps)) (c d : CellOfWorld) (p f q : Pass) → c ≡ get_or cells i d → p ≡ get_or ps i f → Went anything 0 0 p q
      → AreCells fates cells (slice_set ps i q) broken left journals room
  cells_set i lt c d p f q at_cell at_pass went = record {
    only = only_set cells ps are.only i lt c d p f at_cell at_pass q went;
    numbered = numbers_set cells ps are.only i lt c d p f at_cell at_pass q went are.numbered;
    handed = λ e. subst (λ (n : ℕ). AreLeft fates n left) (sym (length-set ps i q)) (are.handed e);
    empty = are.empty;
    enough = let same = length-set ps i q in omega (arith, same, are.enough);
  }

  -- all passes went on
  pub cells_all : (qs : List Pass) → length qs ≡ length ps → Each (IsOnlyPass opening_of) cells qs → AreNumbered 0 qs → AreCells fates cells qs broken left journals room
  cells_all qs same only numbered = record {
    only = only;
    numbered = numbered;
    handed = λ e. subst (λ (n : ℕ). AreLeft fates n left) (sym same) (are.handed e);
    empty = are.empty;
    enough = omega (arith, same, are.enough);
  }

-- ---- a world more

pub made_only : (cell : CellOfWorld) (p : Pass) (w : NumberedWorld) → IsOf cell p → first_of cell ≡ w → view_of p ≡ first_view (opening_of w) w.recorded.journal → Owns (view_of p)
    → IsOnlyPass opening_of cell p
made_only cell p w own first view owns = record {
  home = record { own = own; from_start = ap (λ (v : View Opening Entry). v.start) view ∙ ap (λ (x : NumberedWorld). Some (opening_of x)) (sym first) };
  alone = record {
    whole = ap (λ (v : View Opening Entry). v.share) view;
    owns = owns;
    opened = let a = ap (λ (v : View Opening Entry). v.opened) view in let b = ap (λ (v : View Opening Entry). length v.seen) view in omega (arith, a, b);
  };
}

pub one_made : (fates : ℕ → Fate) (cells cells' : List CellOfWorld) (ps qs : List Pass) (left : List Fate) (journals : List (List Entry)) (room : ℕ) (cell : CellOfWorld) (p : Pass) (w : NumberedWorld)
    (number : ℕ) (start : Start) → Each (IsOnlyPass opening_of) cells ps → AreNumbered 0 ps → cells' ≡ cells ++ cell ∷ [] → qs ≡ ps ++ p ∷ [] → IsOf cell p → first_of cell ≡ w
    → view_of p ≡ first_view (opening_of w) w.recorded.journal → Owns (view_of p) → opening_of w ≡ record { number = number; start = start } → length ps ≡ number
    → AreLeft fates (length ps + 1) left → journals ≡ [] → length ps + 1 ≤ room → AreCells fates cells' qs false left journals room
one_made fates cells cells' ps qs left journals room cell p w number start only numbered more grew own first view owns opening at next empty enough =
    let long : length qs ≡ length ps + 1 = ap length grew ∙ length-append ps (p ∷ []) in
    record {
      only = subst (λ (cs : List CellOfWorld). Each (IsOnlyPass opening_of) cs qs) (sym more)
          (subst (λ (l : List Pass). Each (IsOnlyPass opening_of) (cells ++ cell ∷ []) l) (sym grew)
          (each_push (IsOnlyPass opening_of) cells ps cell p only (made_only cell p w own first view owns)));
      numbered = numbered_more number ps qs p start at grew (ap (λ (v : View Opening Entry). v.start) view ∙ ap (λ (o : Opening). Some o) opening) numbered;
      handed = λ e. subst (λ (n : ℕ). AreLeft fates n left) (sym long) next;
      empty = empty;
      enough = omega (arith, long, enough);
    }
