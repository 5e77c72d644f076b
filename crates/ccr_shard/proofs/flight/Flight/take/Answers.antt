use Rattle.ccr_shard.proofs.Flying.{message_at, taken_out}
use Rattle.ccr_shard.proofs.flight.Flight.take.Goals as goal

pub returns-clause-message : goal.returns-clause-message
returns-clause-message c =
    message_at c.self.inside.net c.args.self.now c.args.at c.in-Some.frame c.in_ok-message.message c.self.view_is c.in-Some.ensures.frame c.in_ok-message.ensures

pub returns-clause-after : goal.returns-clause-after
returns-clause-after c = taken_out c.self.inside.net c.take.new.self c.args.self.now c.args.at c.self.view_is c.in-Some.ensures.after
