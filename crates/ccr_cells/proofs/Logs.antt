-- What the calls of a cell tell of the log of its world.
use Rattle.std.specs.Prelude.{Option}
use Rattle.std.proofs.Common.{◌≡◌, ℕ, List, [], ◌∷◌, ◌++◌, ap, ◌∙◌}
use Rattle.ccr_journal.specs.declared.journals.Entry.{Entry}
use Rattle.ccr_deeds.specs.Logs.{extended}
use Rattle.ccr_cell.specs.declared.view.View.{View}
use Rattle.ccr_cell.specs.Law.{IsWhole}
use Rattle.ccr_cell.specs.Told.{Acted, Looked}
use Rattle.ccr_cells.specs.declared.numbered.Opening.{Opening}
use Rattle.ccr_cells.specs.Views.{log_in, log_with}

pub log_grew : (v w : View Opening Entry) (added : List Entry) → w.start ≡ v.start → w.seen ≡ v.seen ++ added → log_in w ≡ extended (log_in v) added
log_grew v w added same grew = ap (λ (s : Option Opening). log_with s w.seen) same ∙ ap (λ (es : List Entry). log_with v.start es) grew

pub log_same : (v w : View Opening Entry) → w.start ≡ v.start → w.seen ≡ v.seen → log_in w ≡ log_in v
log_same v w same seen = ap (λ (s : Option Opening). log_with s w.seen) same ∙ ap (λ (es : List Entry). log_with v.start es) seen

-- a pass that is alone enters behind all that there is
pub acted_log : (may : Opening → List Entry → Type 0) (v w : View Opening Entry) (entry : Entry) (place : ℕ) → IsWhole v → Acted may entry place v w
    → log_in w ≡ extended (log_in v) (entry ∷ [])
acted_log may v w entry place whole it = log_grew v w (entry ∷ []) it.same.start (it.seen ∙ ap (λ (l : List Entry). l ++ entry ∷ []) (it.alone whole))

pub looked_log : (may : Opening → List Entry → Type 0) (v w : View Opening Entry) → IsWhole v → Looked may v w → log_in w ≡ log_in v
looked_log may v w whole it = log_same v w it.same.start (it.alone whole)
