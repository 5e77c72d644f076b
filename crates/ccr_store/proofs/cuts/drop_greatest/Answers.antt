use Rattle.ccr_store.proofs.Lengths.{up-to-below}
use Rattle.ccr_store.proofs.Cutting.{below-all}
use Rattle.ccr_store.proofs.cuts.drop_greatest.Goals as goal

pub returns-then-last-bound-clause-done : goal.returns-then-last-bound-clause-done
returns-then-last-bound-clause-done c = λ _. below-all c.args.bound c.args.numbers.now.keys (up-to-below c.args.bound c.in-Some.last.now c.args.numbers.now.keys c.in-Some.ensures.all_up_to c.if-last-bound.true)
