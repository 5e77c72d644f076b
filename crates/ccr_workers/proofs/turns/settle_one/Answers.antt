use Rattle.std.proofs.Common.{◌∙◌}
use Rattle.ccr_workers.proofs.Growing.{went_self, went_on}
use Rattle.ccr_workers.proofs.turns.settle_one.Goals as goal

pub loop-init : goal.loop-init
loop-init g c = record { can_next = tt; is_finite = tt; own = c.requires.own; went = went_self _ c.args.pass.now }

pub returns-in_err-take_turn-clause-went : goal.returns-in_err-take_turn-clause-went
returns-in_err-take_turn-clause-went g c = went_on _ c.args.pass.now c.loop.pass c.take_turn.new.pass c.loop.invariant.went c.take_turn.ensures.went

pub returns-then-not-branch-clause-went : goal.returns-then-not-branch-clause-went
returns-then-not-branch-clause-went g c = went_on _ c.args.pass.now c.loop.pass c.take_turn.new.pass c.loop.invariant.went c.take_turn.ensures.went

pub loop-preserved : goal.loop-preserved
loop-preserved g c = record {
  can_next = tt;
  is_finite = tt;
  own = c.take_turn.ensures.went.table ∙ c.loop.invariant.own;
  went = went_on _ c.args.pass.now c.loop.pass c.take_turn.new.pass c.loop.invariant.went c.take_turn.ensures.went;
}
