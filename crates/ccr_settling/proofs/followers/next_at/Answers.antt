use Rattle.std.proofs.Common.{sym}
use Rattle.ccr_settling.proofs.Idleness.{next-there}
use Rattle.ccr_settling.proofs.followers.next_at.Goals as goal

pub returns : goal.returns
returns c =
    next-there c.args.shard.now c.args.f c.in-Some.own.now c.polls.result.now c.leader.result.now c.in_ok-next.next (sym c.in-Some.ensures) c.polls.ensures c.leader.ensures c.in_ok-next.ensures
