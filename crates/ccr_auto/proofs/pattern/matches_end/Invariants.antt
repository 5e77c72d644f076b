use Rattle.std.proofs.Common.{◌≡◌, length}
use Rattle.ccr_auto.specs.Patterns.{is_match, some_end}
use Rattle.ccr_auto.proofs.pattern.matches_end.Given as goal

abbrev pub invariant-loop-piece : goal.invariant-loop-piece
invariant-loop-piece l = some_end (is_match l.left) l.end ≡ some_end (is_match l.fn.pattern) l.fn.name

abbrev pub decreases-loop-piece : goal.decreases-loop-piece
decreases-loop-piece l = length l.left
