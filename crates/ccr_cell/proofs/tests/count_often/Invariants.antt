use Rattle.std.proofs.Common.{◌≡◌}
use Rattle.ccr_cell.specs.Passes.{view_of, IsOf}
use Rattle.ccr_cell.proofs.tests.count_often.Given as goal

abbrev pub invariant-loop : goal.invariant-loop
invariant-loop g l = IsOf l.cell l.pass × ((view_of l.pass).share ≡ (view_of l.initial.pass).share)
