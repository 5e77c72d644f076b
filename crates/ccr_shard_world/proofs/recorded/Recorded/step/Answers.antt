use Rattle.std.proofs.Common.{rules, ◌≡◌, false, arith, subst}
use Rattle.ccr_shard_world.specs.Recorded.{IsRecorded}
use Rattle.ccr_shard_world.proofs.Recording.{ready, recorded_push}
use Rattle.ccr_shard_world.proofs.recorded.Recorded.step.Goals as goal

pub step-requires : goal.step-requires
step-requires c = ready _ _ _ _ _ c.self.invariant (search rules) c.know_fit.ensures (omega (arith, c.len.ensures, c.if-len-ge-MOST_ENTRIES.false))

pub invariant_of-self-2 : goal.invariant_of-self-2
invariant_of-self-2 c =
    let now : c.self.inside.broken ≡ false = search rules in
    subst (λ entries. IsRecorded c.self.inside.start c.step.new.self entries false) (search rules)
    (recorded_push c.self.inside.start c.self.inside.journal c.self.inside.shard c.step.new.self c.args.event.now c.in_ok-reply.reply c.args.picks.now c.self.invariant.possible
    (c.self.invariant.whole now) c.in_ok-reply.ensures.reply c.in_ok-reply.ensures.after c.know_fit.ensures (omega (arith, c.len.ensures, c.if-len-ge-MOST_ENTRIES.false)))

pub returns-clause-possible : goal.returns-clause-possible
returns-clause-possible c = (invariant_of-self-2 c).possible
