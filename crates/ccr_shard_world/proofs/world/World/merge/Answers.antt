use Rattle.ccr_shard_world.specs.Recorded.{state_of}
use Rattle.ccr_shard_world.proofs.Asking.{keeps_asked}
use Rattle.ccr_shard_world.proofs.world.World.merge.Goals as goal

pub returns-clause-fate : goal.returns-clause-fate
returns-clause-fate g c =
    keeps_asked g.P.Chooser.fate c.args.self.now.policy c.picks_for.new.policy _ (state_of c.args.self.now.recorded) c.args.side c.args.copy c.args.event.now c.in_ok-reply.reply c.requires
    c.in_ok-reply.ensures.reply c.in-Ok.ensures.asked
