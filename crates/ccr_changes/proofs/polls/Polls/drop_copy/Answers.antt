use Rattle.std.proofs.Common.{◌==◌, not, ◌∙◌, ap, sym, subst}
use Rattle.ccr_changes.specs.Waits.{waits_at}
use Rattle.ccr_changes.proofs.Takes.{TookOther, none-others, took-other}
use Rattle.ccr_changes.proofs.polls.Polls.drop_copy.Goals as goal

pub loop-least-smaller : goal.loop-least-smaller
loop-least-smaller c =
    let least = c.in-Some.ensures in
    let it : TookOther (λ p. not (p.copy == c.args.copy)) c.loop-least.self c.take.new.self =
    subst (TookOther (λ p. not (p.copy == c.args.copy)) c.loop-least.self) (sym c.take.ensures.after)
    (took-other (λ p. not (p.copy == c.args.copy)) c.in-Some.least.follower c.in-Some.least.at least.poll c.loop-least.self least.there (ap not least.here)) in
    it.fewer

pub loop-least-preserved : goal.loop-least-preserved
loop-least-preserved c =
    let least = c.in-Some.ensures in
    let it : TookOther (λ p. not (p.copy == c.args.copy)) c.loop-least.self c.take.new.self =
    subst (TookOther (λ p. not (p.copy == c.args.copy)) c.loop-least.self) (sym c.take.ensures.after)
    (took-other (λ p. not (p.copy == c.args.copy)) c.in-Some.least.follower c.in-Some.least.at least.poll c.loop-least.self least.there (ap not least.here)) in
    it.same ∙ c.loop-least.invariant

pub returns : goal.returns
returns c = sym (none-others (waits_at c.args.copy) c.loop-least.self c.in_default.ensures) ∙ c.loop-least.invariant
