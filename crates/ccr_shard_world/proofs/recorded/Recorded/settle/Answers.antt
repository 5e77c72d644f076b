use Rattle.std.proofs.Common.{[]}
use Rattle.ccr_shard_world.proofs.Settling.{settled_push}
use Rattle.ccr_shard_world.proofs.recorded.Recorded.settle.Goals as goal

pub returns-clause-ok : goal.returns-clause-ok
returns-clause-ok c =
    settled_push c.args.self.now c.settle_rest.new.world c.step.new.self _ [] c.settle_rest.ensures.grew c.settle_rest.ensures.start c.in_ok-settle_rest.ensures.ok
    c.in_ok-step.ensures.reply c.in_ok-step.ensures.entry
