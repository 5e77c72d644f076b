use Rattle.ccr_law_tasks.proofs.Least.{started-from, reply-from, stays-from, least-on}
use Rattle.ccr_law_tasks.proofs.task.stays_from.Goals as goal

pub returns-clause-start : goal.returns-clause-start
returns-clause-start c = started-from

pub returns-clause-replies : goal.returns-clause-replies
returns-clause-replies c = reply-from

pub returns-clause-others : goal.returns-clause-others
returns-clause-others c = stays-from

pub returns-clause-least : goal.returns-clause-least
returns-clause-least c = least-on
