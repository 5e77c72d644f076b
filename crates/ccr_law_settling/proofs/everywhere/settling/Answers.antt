use Rattle.ccr_law_settling.specs.Settles.{IsFull, EachLowers, NoneIsLeft}
use Rattle.ccr_law_settling.proofs.Joined.Events.{each_lowers, none_is_left}
use Rattle.ccr_law_settling.proofs.Joined.Says.{always}
use Rattle.ccr_law_settling.proofs.everywhere.settling.Goals as goal

pub returns-clause-grounds : goal.returns-clause-grounds
returns-clause-grounds c = always IsFull (λ p full. full)

pub returns-clause-lowers : goal.returns-clause-lowers
returns-clause-lowers c = always EachLowers each_lowers

pub returns-clause-settled : goal.returns-clause-settled
returns-clause-settled c = always NoneIsLeft none_is_left
