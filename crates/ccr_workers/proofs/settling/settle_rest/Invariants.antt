use Rattle.ccr_workers.specs.Lists.{UpTo}
use Rattle.ccr_workers.specs.Settles.{IsChosen}
use Rattle.ccr_workers.specs.Lending.{Finished}
use Rattle.ccr_workers.proofs.settling.settle_rest.Given as goal

abbrev pub invariant-loop-at : goal.invariant-loop-at
invariant-loop-at g l = UpTo (Finished (IsChosen g.X.Machine.entry_of g.X.Machine.may_reply g.X.Machine.may_choose g.X.Machine.is_idle) g.X.Machine.is_idle) l.at l.initial.passes l.passes
