use Rattle.ccr_shard.proofs.Rows.{lost_reply, lost_after, unlost_reply, unlost_after}
use Rattle.ccr_shard.proofs.shard.Shard.lose.Goals as goal

pub returns-then-lose-clause-reply : goal.returns-then-lose-clause-reply
returns-then-lose-clause-reply c = lost_reply c.args.self.now _ c.args.at c.lose.result c.self.view_is c.lose.ensures.lost c.if-lose.true

pub returns-then-lose-clause-after : goal.returns-then-lose-clause-after
returns-then-lose-clause-after c = lost_after c.args.self.now _ c.args.at c.lose.result c.lose.new.self c.self.view_is c.lose.ensures.lost c.if-lose.true c.lose.ensures.after

pub returns-clause-reply : goal.returns-clause-reply
returns-clause-reply c = unlost_reply c.args.self.now _ c.args.at c.lose.result c.in_ok-reply.reply c.self.view_is c.lose.ensures.lost c.if-lose.false c.in_ok-reply.ensures

pub returns-clause-after : goal.returns-clause-after
returns-clause-after c = unlost_after c.args.self.now _ c.args.at c.lose.result c.lose.new.self c.self.view_is c.lose.ensures.lost c.if-lose.false c.lose.ensures.after
