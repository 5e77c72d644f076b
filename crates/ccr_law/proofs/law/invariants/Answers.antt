use Rattle.ccr_model.specs.Invariants.{Invariant}
use Rattle.ccr_law.proofs.Leading.{leading-spells}
use Rattle.ccr_law.proofs.Whole.{whole-true}
use Rattle.ccr_law.proofs.Theorem.{always}
use Rattle.ccr_law.proofs.law.invariants.Goals as goal
use Rattle.ccr_law_stores.specs.Spelled.{IsSpelled}

pub returns-clause-truth : goal.returns-clause-truth
returns-clause-truth c = always Invariant (λ p short now. whole-true p now)

pub returns-clause-spelled : goal.returns-clause-spelled
returns-clause-spelled c = always IsSpelled (λ p short now. leading-spells p short now.leading)
