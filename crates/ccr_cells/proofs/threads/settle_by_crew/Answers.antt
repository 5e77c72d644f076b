use Rattle.std.proofs.Common.{length, drop, sym, ap, ◌∙◌, arith}
use Rattle.ccr_workers.specs.Settles.{IsOnlyPass, IsHome}
use Rattle.ccr_workers.specs.Lending.{Went}
use Rattle.ccr_workers.proofs.Growing.{home_went}
use Rattle.ccr_workers.proofs.Lists.{each_then}
use Rattle.ccr_cells.specs.Opened.{opening_of, chosen_in}
use Rattle.ccr_cells.proofs.Crews.{all_back}
use Rattle.ccr_cells.proofs.Slots.{whole_again}
use Rattle.ccr_cells.proofs.threads.settle_by_crew.Goals as goal

pub release_all-requires-clause-own : goal.release_all-requires-clause-own
release_all-requires-clause-own g c =
    each_then (IsOnlyPass opening_of) (Went chosen_in (length c.hire_all-hired.new.crew.items) 0) (IsHome opening_of)
    (λ cell p q only went. home_went opening_of chosen_in (length c.hire_all-hired.new.crew.items) 0 cell p q only.home went)
    c.args.cells.now c.args.passes.now c.hire_all-hired.new.passes c.requires c.hire_all-hired.ensures.lent

pub returns : goal.returns
returns g c =
    all_back (length c.hire_all-hired.new.crew.items) _ c.args.passes.now c.hire_all-hired.new.passes c.release_all.new.passes c.hire_all-hired.ensures.lent c.release_all.ensures
    (sym (ap length (whole_again c.hire_all-hired.new.crew.len c.set_to_work.new.crew (drop (length c.set_to_work.new.crew) c.hire_all-hired.new.crew.items)
    (omega (arith, c.hire_all-hired.new.crew.ok.0, ap length c.deref_mut.ensures.value, c.set_to_work.ensures.all)))
    ∙ (c.set_to_work.ensures.all ∙ ap length c.deref_mut.ensures.value)))
