use Rattle.std.proofs.Common.{◌≡◌, ◌+◌, ◌++◌}
use Rattle.ccr_plans.specs.Forms.{in_worlds}
use Rattle.ccr_plans.proofs.making.push_in_worlds.Given as goal

abbrev pub invariant-loop-left : goal.invariant-loop-left
invariant-loop-left l = record {
  done : l.deeds.items ++ in_worlds l.event l.world l.left ≡ l.initial.deeds.items ++ in_worlds l.event l.fn.first l.fn.n;
  place : l.world + l.left ≡ l.fn.first + l.fn.n;
}

abbrev pub decreases-loop-left : goal.decreases-loop-left
decreases-loop-left l = l.left
