use Rattle.ccr_shard.proofs.Flying.{sent-messages, sent-spelled}
use Rattle.ccr_shard.proofs.flight.Flight.send.Goals as goal

pub invariant_of-self-2 : goal.invariant_of-self-2
invariant_of-self-2 c =
    sent-spelled c.self.inside.net c.send.new.self c.in_ok-frame.frame c.args.message.now c.self.invariant c.in_ok-frame.ensures.spelled c.in_ok-frame.ensures.fits
    c.in_ok-send.ensures.ok

pub returns-clause-ok : goal.returns-clause-ok
returns-clause-ok c =
    sent-messages c.self.inside.net c.send.new.self c.args.self.now c.in_ok-frame.frame c.args.message.now c.self.view_is c.in_ok-frame.ensures.spelled
    c.in_ok-frame.ensures.fits c.in_ok-send.ensures.ok
