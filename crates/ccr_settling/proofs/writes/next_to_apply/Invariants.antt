use Rattle.ccr_settling.specs.Still.{IsApplied}
use Rattle.ccr_settling.proofs.Following.{NumbersBelow}
use Rattle.ccr_settling.proofs.writes.next_to_apply.Given as goal

abbrev pub invariant-loop-at : goal.invariant-loop-at
invariant-loop-at l = NumbersBelow l.at (IsApplied l.own) l.task.writes
