use Rattle.std.proofs.Common.{sym, subst}
use Rattle.ccr_task.specs.declared.task.Load.{Load}
use Rattle.ccr_task.specs.Keeps.{LoadsWell}
use Rattle.ccr_task.proofs.Laws.{loads-well}
use Rattle.ccr_task.proofs.task.Task.load.Goals as goal

pub returns-clause-well : goal.returns-clause-well
returns-clause-well c = subst (λ (load : Load). LoadsWell c.args.self.now load) (sym c.measure.ensures) (loads-well c.args.self.now)
