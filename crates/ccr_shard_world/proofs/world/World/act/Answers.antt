use Rattle.ccr_shard_world.specs.Recorded.{state_of}
use Rattle.ccr_shard_world.proofs.Asking.{keeps_unasked}
use Rattle.ccr_shard_world.proofs.world.World.act.Goals as goal

pub returns-clause-fate : goal.returns-clause-fate
returns-clause-fate g c =
    keeps_unasked g.P.Chooser.fate c.args.self.now.policy (state_of c.args.self.now.recorded) c.args.event.now c.in_ok-reply.reply _ c.requires c.in_ok-reply.ensures.reply
