use Rattle.ccr_shard.proofs.Rows.{woken_reply, woken_after}
use Rattle.ccr_shard.proofs.shard.Shard.wake.Goals as goal

pub returns-clause-reply : goal.returns-clause-reply
returns-clause-reply c =
    woken_reply c.args.self.now _ c.args.f c.args.at c.in-Some._own.now c.uuid_of.result c.in_ok-told.told c.wake.new.leader c.in_ok-reply-2.reply c.self.view_is c.in-Some.ensures c.uuid_of.ensures
    c.in_ok-told.ensures c.in_ok-reply-2.ensures.reply

pub returns-clause-after : goal.returns-clause-after
returns-clause-after c =
    woken_after c.args.self.now _ c.args.f c.args.at c.in-Some._own.now c.uuid_of.result c.in_ok-told.told c.wake.new.leader c.tell.new.self c.self.view_is c.in-Some.ensures c.uuid_of.ensures
    c.in_ok-told.ensures c.in_ok-reply-2.ensures.sent
