use Rattle.std.proofs.Common.{take}
use Rattle.ccr_auto.specs.Patterns.{HasNoStar}
use Rattle.ccr_auto.proofs.pattern.split_star.Given as goal

abbrev pub invariant-loop-at : goal.invariant-loop-at
invariant-loop-at l = HasNoStar (take l.at l.pattern)
