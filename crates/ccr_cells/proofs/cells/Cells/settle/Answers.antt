use Rattle.std.proofs.Common.{◌≡◌, ◌++◌, List, length, take, drop, map, reverse, sym, ◌∙◌, ap, subst, arith}
use Rattle.std.specs.Prelude.{OnOk, OnErr, vec_capacity}
use Rattle.ccr_workers.specs.Lists.{Each}
use Rattle.ccr_workers.specs.Settles.{IsOnlyPass}
use Rattle.ccr_deeds.specs.Logs.{Log}
use Rattle.ccr_deeds.specs.Settles.{EachWorld, IsSettled, MayBeSettled}
use Rattle.ccr_cells.specs.Opened.{opening_of}
use Rattle.ccr_cells.specs.Views.{Pass, CellOfWorld, AreCells, AreNumbered, logs_in}
use Rattle.ccr_cells.proofs.Slots.{whole_again}
use Rattle.ccr_cells.proofs.Turns.{cells_all}
use Rattle.ccr_cells.proofs.cells.Cells.settle.Goals as goal

pub settle_each-requires-clause-only : goal.settle_each-requires-clause-only
settle_each-requires-clause-only g c κs within =
    subst (λ (cs : List CellOfWorld). Each (IsOnlyPass opening_of) cs c.as_mut_slice.result.now) (sym c.as_slice.ensures.value)
    (subst (λ (ps : List Pass). Each (IsOnlyPass opening_of) c.self.inside.cells.items ps) (sym c.as_mut_slice.ensures.value) c.self.invariant.only)

pub settle_each-requires-clause-numbered : goal.settle_each-requires-clause-numbered
settle_each-requires-clause-numbered g c κs within = subst (AreNumbered 0) (sym c.as_mut_slice.ensures.value) c.self.invariant.numbered

pub invariant_of-self : goal.invariant_of-self
invariant_of-self g c =
    let new = c.settle_each.new.passes in
    let old = c.self.inside.passes.items in
    let all : c.self.inside.passes.len ≡ length c.settle_each.new.passes =
    omega (arith, c.self.inside.passes.ok.0, ap length c.as_mut_slice.ensures.value, c.settle_each.auto.passes) in
    let same : length c.settle_each.new.passes ≡ length c.self.inside.passes.items = omega (arith, c.self.inside.passes.ok.0, all) in
    let left = map g.P.Chooser.fate (reverse c.self.inside.left.items) in
    subst (λ (ps : List Pass). AreCells g.K.Handed.fates c.self.inside.cells.items ps c.self.inside.broken left c.self.inside.journals.items (vec_capacity c.self.inside.journals))
    (sym (whole_again c.self.inside.passes.len new (drop (length new) old) all))
    (cells_all g.K.Handed.fates c.self.inside.cells.items old c.self.inside.broken left c.self.inside.journals.items (vec_capacity c.self.inside.journals) c.self.invariant new same
    (subst (λ (cs : List CellOfWorld). Each (IsOnlyPass opening_of) cs new) c.as_slice.ensures.value c.settle_each.ensures.only) c.settle_each.ensures.numbered)

pub returns-clause-ok : goal.returns-clause-ok
returns-clause-ok g c =
    let new = c.settle_each.new.passes in
    let old = c.self.inside.passes.items in
    let all : c.self.inside.passes.len ≡ length c.settle_each.new.passes =
    omega (arith, c.self.inside.passes.ok.0, ap length c.as_mut_slice.ensures.value, c.settle_each.auto.passes) in
    subst (λ (ls : List Log). OnOk c.settle_each.result (EachWorld IsSettled ls (logs_in (take c.self.inside.passes.len (new ++ drop (length new) old)))))
    (ap logs_in c.as_mut_slice.ensures.value ∙ c.self.view_is)
    (subst (λ (ps : List Pass). OnOk c.settle_each.result (EachWorld IsSettled (logs_in c.as_mut_slice.result.now) (logs_in ps)))
    (sym (whole_again c.self.inside.passes.len new (drop (length new) old) all)) c.settle_each.ensures.ok)

pub returns-clause-err : goal.returns-clause-err
returns-clause-err g c =
    let new = c.settle_each.new.passes in
    let old = c.self.inside.passes.items in
    let all : c.self.inside.passes.len ≡ length c.settle_each.new.passes =
    omega (arith, c.self.inside.passes.ok.0, ap length c.as_mut_slice.ensures.value, c.settle_each.auto.passes) in
    subst (λ (ls : List Log). OnErr c.settle_each.result (EachWorld MayBeSettled ls (logs_in (take c.self.inside.passes.len (new ++ drop (length new) old)))))
    (ap logs_in c.as_mut_slice.ensures.value ∙ c.self.view_is)
    (subst (λ (ps : List Pass). OnErr c.settle_each.result (EachWorld MayBeSettled (logs_in c.as_mut_slice.result.now) (logs_in ps)))
    (sym (whole_again c.self.inside.passes.len new (drop (length new) old) all)) c.settle_each.ensures.err)
