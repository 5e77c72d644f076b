use Rattle.ccr_law_tasks.proofs.Asked.{started-asks, asks-on}
use Rattle.ccr_law_tasks.proofs.task.asks.Goals as goal

pub returns-clause-start : goal.returns-clause-start
returns-clause-start c = started-asks

pub returns-clause-others : goal.returns-clause-others
returns-clause-others c = asks-on
