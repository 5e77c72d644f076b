use Rattle.std.proofs.Common.{drop}
use Rattle.ccr_copies.proofs.Progress.{IsTaking}
use Rattle.ccr_copies.proofs.copy_side.CopySide.take_all.Given as goal

abbrev pub invariant-loop-op : goal.invariant-loop-op
invariant-loop-op l = IsTaking (drop l.op-index l.batch) l.batch l.initial.self l.self l.taken l.op-index
