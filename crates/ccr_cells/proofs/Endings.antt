-- Worlds in cells hand out their journals, as the calls tell it.
use Rattle.std.specs.Prelude.{Some}
use Rattle.std.proofs.Common.{◌≡◌, ℕ, ◌+◌, List, [], ◌∷◌, map, refl, sym, ◌∙◌, ap, subst}
use Rattle.ccr_journal.specs.declared.journals.Entry.{Entry}
use Rattle.ccr_model.specs.Leaders.{Start}
use Rattle.ccr_model.specs.World.{start_state}
use Rattle.ccr_model.specs.Policies.{ArePicked}
use Rattle.ccr_law_base.proofs.Lists.{some_equal}
use Rattle.ccr_cell.specs.declared.view.View.{View}
use Rattle.ccr_cell.specs.Passes.{view_of}
use Rattle.ccr_cell.specs.Told.{Closed}
use Rattle.ccr_workers.specs.Lists.{Each}
use Rattle.ccr_workers.specs.Settles.{IsOnlyPass}
use Rattle.ccr_deeds.specs.Logs.{Log}
use Rattle.ccr_worlds.specs.Fated.{Fate, PicksAreHanded, log_of}
use Rattle.ccr_worlds.specs.HandedOut.{IsHandedOut}
use Rattle.ccr_cells.specs.declared.numbered.Opening.{Opening}
use Rattle.ccr_cells.specs.Opened.{NumberedWorld, opening_of}
use Rattle.ccr_cells.specs.Views.{Pass, CellOfWorld, AreNumbered, log_in, log_with, logs_in}

-- ---- a world that was taken out of its cell

closed_log : (first w : NumberedWorld) (v : View Opening Entry) → Closed opening_of (λ (x : NumberedWorld). x.recorded.journal) first v w → log_of w.recorded ≡ log_in v
closed_log first w v it = ap (λ s. log_with s w.recorded.journal) (sym it.from_start) ∙ ap (λ (es : List Entry). log_with v.start es) it.journal_is

pub closed_handed : (first w : NumberedWorld) (v : View Opening Entry) → Closed opening_of (λ (x : NumberedWorld). x.recorded.journal) first v w → IsHandedOut (log_of w.recorded)
    → IsHandedOut (log_in v)
closed_handed first w v it handed = subst IsHandedOut (closed_log first w v it) handed

pub closed_picks : (fates : ℕ → Fate) (first w : NumberedWorld) (v : View Opening Entry) → Closed opening_of (λ (x : NumberedWorld). x.recorded.journal) first v w
    → ArePicked (fates w.number) (start_state w.recorded.start) w.recorded.journal
    → (number : ℕ) (start : Start) → v.start ≡ Some (record { number = number; start = start }) → ArePicked (fates number) (start_state start) v.seen
closed_picks fates first w v it picked number start is =
    let same : opening_of w ≡ record { number = number; start = start } = some_equal (opening_of w) (record { number = number; start = start }) (sym it.from_start ∙ is) in
    subst (λ (o : Opening). ArePicked (fates o.number) (start_state o.start) v.seen) same
    (subst (λ (es : List Entry). ArePicked (fates w.number) (start_state w.recorded.start) es) it.journal_is picked)

-- ---- the cells and their passes, one after another

pub first_only : (c : CellOfWorld) (p : Pass) (cells more : List CellOfWorld) (ps others : List Pass) → cells ≡ c ∷ more → ps ≡ p ∷ others → Each (IsOnlyPass opening_of) cells ps
    → IsOnlyPass opening_of c p × Each (IsOnlyPass opening_of) more others
first_only c p cells more ps others one two each =
    subst (λ (l : List Pass). Each (IsOnlyPass opening_of) (c ∷ more) l) two (subst (λ (l : List CellOfWorld). Each (IsOnlyPass opening_of) l ps) one each)

pub has_pass : (c : CellOfWorld) (cells more : List CellOfWorld) (ps : List Pass) → cells ≡ c ∷ more → Each (IsOnlyPass opening_of) cells ps → ps ≡ [] → ⊥
has_pass c cells more ps one each none =
    subst (λ (l : List Pass). Each (IsOnlyPass opening_of) (c ∷ more) l) none (subst (λ (l : List CellOfWorld). Each (IsOnlyPass opening_of) l ps) one each)

pub no_pass : (cells : List CellOfWorld) (ps : List Pass) → cells ≡ [] → Each (IsOnlyPass opening_of) cells ps → ps ≡ []
no_pass [] [] none each = refl
no_pass [] (p ∷ ps) none each = absurd each
no_pass (c ∷ cells) ps none each = absurd cc

pub next_numbered : (n m : ℕ) (p : Pass) (ps others : List Pass) → ps ≡ p ∷ others → m ≡ n + 1 → AreNumbered n ps → AreNumbered m others
next_numbered n m p ps others two more are =
    subst (λ (k : ℕ). AreNumbered k others) (sym more) (subst (AreNumbered n) two are).1

pub picks_more : (fates : ℕ → Fate) (n m : ℕ) (p : Pass) (ps others : List Pass) (T : Type 0) → ps ≡ p ∷ others → m ≡ n + 1 → AreNumbered n ps
    → ((number : ℕ) (start : Start) → (view_of p).start ≡ Some (record { number = number; start = start }) → ArePicked (fates number) (start_state start) (view_of p).seen)
    → (PicksAreHanded fates n (logs_in ps) → T) → PicksAreHanded fates m (logs_in others) → T
picks_more fates n m p ps others T two more are picked before rest =
    let own = (subst (AreNumbered n) two are).0 in
    before (subst (λ (l : List Pass). PicksAreHanded fates n (logs_in l)) (sym two) (
      subst (λ (s : Start). ArePicked (fates n) (start_state s) (view_of p).seen) (sym (ap (λ s. (log_with s []).start) own.1)) (picked n own.0 own.1),
      subst (λ (k : ℕ). PicksAreHanded fates k (logs_in others)) more rest,
    ))

pub seen_entries : (ps : List Pass) → map (λ (log : Log). log.entries) (logs_in ps) ≡ map (λ (p : Pass). (view_of p).seen) ps
seen_entries [] = refl
seen_entries (p ∷ ps) = ap (λ (es : List (List Entry)). (view_of p).seen ∷ es) (seen_entries ps)
