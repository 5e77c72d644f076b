use Rattle.std.proofs.Common.{◌≤◌, length, sym, arith}
use Rattle.ccr_settling.proofs.Following.{each-applied}
use Rattle.ccr_settling.proofs.writes.next_to_apply.Goals as goal

pub returns : goal.returns
returns c =
    each-applied c.args.own.now c.in-Some.task.now c.loop-at.at (sym c.in-Some.ensures) (let far : length c.in-Some.task.now.writes ≤ c.loop-at.at = omega arith in far) c.loop-at.invariant
