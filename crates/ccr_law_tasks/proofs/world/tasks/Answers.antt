use Rattle.ccr_law_tasks.proofs.Within.{replies-within}
use Rattle.ccr_law_tasks.proofs.NewAsks.{asks-new}
use Rattle.ccr_law_tasks.proofs.Group.{tasks-start, tasks-keep, tasks-say}
use Rattle.ccr_law_tasks.proofs.world.tasks.Goals as goal

pub returns-clause-start : goal.returns-clause-start
returns-clause-start c = tasks-start

pub returns-clause-keeps : goal.returns-clause-keeps
returns-clause-keeps c = tasks-keep

pub returns-clause-says : goal.returns-clause-says
returns-clause-says c = tasks-say

pub returns-clause-within : goal.returns-clause-within
returns-clause-within c = replies-within

pub returns-clause-new : goal.returns-clause-new
returns-clause-new c = asks-new
