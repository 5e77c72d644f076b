use Rattle.ccr_model.specs.Stores.{held}
use Rattle.ccr_copies.proofs.Progress.{IsTakingRun}
use Rattle.ccr_copies.proofs.runs.take_run.Given as goal

abbrev pub invariant-loop-n : goal.invariant-loop-n
invariant-loop-n l = IsTakingRun (held l.of) l.from l.to l.n l.initial.store l.store
