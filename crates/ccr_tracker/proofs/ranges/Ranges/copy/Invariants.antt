use Rattle.std.proofs.Common.{◌≡◌, ◌++◌}
use Rattle.ccr_tracker.proofs.ranges.Ranges.copy.Given as goal

abbrev pub invariant-loop-first : goal.invariant-loop-first
invariant-loop-first l = l.by_start.entries ++ l.first-iterator ≡ l.self
