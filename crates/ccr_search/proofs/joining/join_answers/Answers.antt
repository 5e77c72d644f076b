use Rattle.ccr_search.specs.declared.joining.Answer.{Answer}
use Rattle.ccr_search.proofs.Pages.{said_joined}
use Rattle.ccr_search.proofs.joining.join_answers.Goals as goal

pub returns-clause-answer : goal.returns-clause-answer
returns-clause-answer c = λ order.
    let a : Answer = record { checkpoints = c.in_ok-checkpoints.checkpoints; gaps = c.in_ok-gaps.gaps; hits = c.in_ok-hits.hits; total = c.in_ok-total.total } in
    said_joined a c.args.sort.now c.args.from c.args.size c.args.parts.now c.in_ok-checkpoints.ensures c.in_ok-gaps.ensures c.in_ok-total.ensures (c.in_ok-hits.ensures order)
