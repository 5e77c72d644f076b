use Rattle.std.specs.VecDeque.{deque_len}
use Rattle.ccr_meta.proofs.meta.Meta.+follow_each.Given as goal

abbrev pub decreases-follow_each : goal.decreases-follow_each
decreases-follow_each l = deque_len l.decisions.now
