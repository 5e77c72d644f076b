use Rattle.ccr_workers.specs.Lending.{Went, Finished}
use Rattle.ccr_workers.proofs.Growing.{went_on}
use Rattle.ccr_workers.proofs.Lists.{each_then}
use Rattle.ccr_cells.specs.Opened.{chosen_in, is_idle_in}
use Rattle.ccr_cells.proofs.Slots.{went_only, ok_then}
use Rattle.ccr_cells.proofs.threads.settle_all.Goals as goal

pub settle_rest-requires : goal.settle_rest-requires
settle_rest-requires g c = went_only chosen_in c.args.cells.now c.args.passes.now c.settle_by_crew.new.passes c.requires c.settle_by_crew.ensures

pub returns-clause-went : goal.returns-clause-went
returns-clause-went g c =
    each_then (Went chosen_in 0 0) (Went chosen_in 0 0) (Went chosen_in 0 0) (λ p q r one two. went_on chosen_in p q r one two)
    c.args.passes.now c.settle_by_crew.new.passes c.settle_rest.new.passes c.settle_by_crew.ensures c.settle_rest.ensures.went

pub returns-clause-ok : goal.returns-clause-ok
returns-clause-ok g c =
    ok_then _ _ c.settle_rest.result
    (each_then (Went chosen_in 0 0) (Finished chosen_in is_idle_in) (Finished chosen_in is_idle_in)
    (λ p q r one two. record { went = went_on chosen_in p q r one two.went; idle = two.idle })
    c.args.passes.now c.settle_by_crew.new.passes c.settle_rest.new.passes c.settle_by_crew.ensures) c.settle_rest.ensures.ok
