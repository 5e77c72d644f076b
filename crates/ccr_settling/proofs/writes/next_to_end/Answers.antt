use Rattle.std.proofs.Common.{◌≤◌, length, sym, arith}
use Rattle.ccr_settling.proofs.Following.{each-goes}
use Rattle.ccr_settling.proofs.writes.next_to_end.Goals as goal

pub returns : goal.returns
returns c =
    each-goes c.args.own.now c.in_ok-task.task.now c.loop-at.at (sym c.in_ok-task.ensures) (let far : length c.in_ok-task.task.now.writes ≤ c.loop-at.at = omega arith in far) c.loop-at.invariant
