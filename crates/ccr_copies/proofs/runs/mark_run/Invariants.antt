use Rattle.ccr_copies.proofs.Progress.{IsMarking}
use Rattle.ccr_copies.proofs.runs.mark_run.Given as goal

abbrev pub invariant-loop-n : goal.invariant-loop-n
invariant-loop-n l = IsMarking l.from l.to l.n l.initial.seen l.seen
