use Rattle.std.proofs.Common.{◌≡◌, length}
use Rattle.ccr_auto.specs.Patterns.{after_piece}
use Rattle.ccr_auto.proofs.pattern.after_piece.Given as goal

abbrev pub invariant-loop-rest : goal.invariant-loop-rest
invariant-loop-rest l = after_piece l.piece l.end ≡ after_piece l.fn.piece l.fn.name

abbrev pub decreases-loop-rest : goal.decreases-loop-rest
decreases-loop-rest l = length l.end
