use Rattle.std.proofs.Common.{◌≡◌, ◌++◌, drop}
use Rattle.std.specs.Prelude.{flat_map}
use Rattle.ccr_plans.specs.Made.{followed_deeds}
use Rattle.ccr_plans.proofs.making.all_followed.Given as goal

abbrev pub invariant-loop-decided : goal.invariant-loop-decided
invariant-loop-decided l = l.deeds.items ++ flat_map (followed_deeds l.leader l.x) (drop l.decided-index l.list) ≡ flat_map (followed_deeds l.leader l.x) l.list
