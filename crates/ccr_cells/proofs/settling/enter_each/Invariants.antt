use Rattle.ccr_workers.specs.Lists.{UpTo}
use Rattle.ccr_cells.specs.Views.{Entered}
use Rattle.ccr_cells.proofs.settling.enter_each.Given as goal

abbrev pub invariant-loop-at : goal.invariant-loop-at
invariant-loop-at g l = UpTo Entered l.at l.initial.passes l.passes
