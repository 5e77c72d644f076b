use Rattle.ccr_settling.specs.Still.{IsStillGoing}
use Rattle.ccr_settling.proofs.Following.{NumbersBelow}
use Rattle.ccr_settling.proofs.writes.next_to_end.Given as goal

abbrev pub invariant-loop-at : goal.invariant-loop-at
invariant-loop-at l = NumbersBelow l.at (IsStillGoing l.own) l.task.writes
