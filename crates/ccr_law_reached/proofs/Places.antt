-- What holds at every place of a possible journal holds of the state that it leads to.
use Rattle.std.proofs.Common.{◌≡◌, List, [], ◌∷◌, sym, ◌∙◌}
use Rattle.ccr_journal.specs.declared.journals.Entry.{Entry}
use Rattle.ccr_model.specs.Leaders.{Start}
use Rattle.ccr_model.specs.World.{State}
use Rattle.ccr_model.specs.Past.{Past, start_past, past_after, past_of}
use Rattle.ccr_law_base.proofs.Journals.{state-of}
use Rattle.ccr_law.specs.Journals.{AtEachPlace, AlwaysHolds}
use Rattle.ccr_law_reached.specs.Reached.{IsPossible, IsReached, told_by}

pub at_last_place : (P : Past → Type 0) (p : Past) (entries : List Entry) → AtEachPlace P p entries → P (past_of p entries)
at_last_place P p [] holds = holds
at_last_place P p (entry ∷ entries) holds = at_last_place P (past_after p entry) entries holds.1

-- behind a possible journal
pub possible_at : (P : Past → Type 0) → AlwaysHolds P → (start : Start) (entries : List Entry) → IsPossible start entries → P (told_by start entries)
possible_at P holds start entries possible =
    at_last_place P (start_past start) entries (holds start possible.count entries possible.fit possible.legal)

-- a place of that state at which it holds
pub record Reached (P : Past → Type 0) (s : State) : Type 0 where
  pub past : Past
  pub is : past.state ≡ s
  pub holds : P past

pub state_is : (s : State) (reached : IsReached s) → (told_by reached.start reached.entries).state ≡ s
state_is s reached = state-of reached.start reached.entries ∙ sym reached.is

pub reached_at : (P : Past → Type 0) → AlwaysHolds P → (s : State) → IsReached s → Reached P s
reached_at P holds s reached = record {
  past = told_by reached.start reached.entries;
  is = state_is s reached;
  holds = possible_at P holds reached.start reached.entries reached.possible;
}
