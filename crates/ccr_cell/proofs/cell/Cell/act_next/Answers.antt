use Rattle.ccr_cell.proofs.Moves.{acted}
use Rattle.ccr_cell.proofs.cell.Cell.act_next.Goals as goal

pub returns-in-Ok-step-clause-ok : goal.returns-in-Ok-step-clause-ok
returns-in-Ok-step-clause-ok g c =
    acted _ _ _ _ _ _ _ _ _ _ _ c.take-word.ensures.took c.choose.ensures.view c.in-Ok-step.ensures.view c.in-Ok-step.ensures.place c.in-Ok-step.ensures.ok c.add.ensures.added
    (λ s e. let chosen = rw c.in-Some.is at (c.in-Ok.ensures.chosen s e) in (chosen.0, chosen.1, c.in-Ok-step.ensures.may s e))
