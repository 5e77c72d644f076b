use Rattle.std.proofs.Common.{refl, sym, ap, rules}
use Rattle.ccr_leader.proofs.Settled.{kept-more_at}
use Rattle.ccr_leader.proofs.leader.Leader.answer_or_keep.Goals as goal

pub invariant_of-self-in-Some : goal.invariant_of-self-in-Some
invariant_of-self-in-Some c = λ whole.
    kept-more_at c.self.inside.copies c.self.inside.kept c.keep.new.self c.args.asked c.asked.inside.id c.in-Some.copy c.in_ok-keep-in-Some.ensures.ok (ap (λ k. k.id) (sym c.asked.view_is))
    c.in-Some.ensures (c.self.invariant whole)
