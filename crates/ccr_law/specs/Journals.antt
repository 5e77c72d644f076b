-- What holds at every place of every journal.
use Rattle.std.specs.Prelude.{List, [], ◌∷◌}
use Rattle.ccr_journal.specs.Params.{IsCopyCount}
use Rattle.ccr_journal.specs.declared.journals.Entry.{Entry}
use Rattle.ccr_model.specs.Leaders.{Start}
use Rattle.ccr_model.specs.World.{start_state}
use Rattle.ccr_model.specs.Fit.{AreFit}
use Rattle.ccr_model.specs.Step.{IsLegal}
use Rattle.ccr_model.specs.Past.{Past, start_past, past_after}

-- before each entry and after the last
abbrev pub AtEachPlace : (Past → Type 0) → Past → List Entry → Type 0
AtEachPlace P p [] = P p
AtEachPlace P p (entry ∷ entries) = P p × AtEachPlace P (past_after p entry) entries

-- from every start, for every legal journal whose events are fit
abbrev pub AlwaysHolds : (Past → Type 0) → Type 0
AlwaysHolds P =
    (start : Start) → IsCopyCount start.copies → (entries : List Entry) → AreFit entries → IsLegal (start_state start) entries
    → AtEachPlace P (start_past start) entries
