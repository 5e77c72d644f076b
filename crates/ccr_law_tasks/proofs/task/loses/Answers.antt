use Rattle.ccr_law_tasks.proofs.Calls.{read_lost-good, write_lost-good}
use Rattle.ccr_law_tasks.proofs.task.loses.Goals as goal

pub returns-clause-reads : goal.returns-clause-reads
returns-clause-reads c = λ now r line begun_at written t. read_lost-good line begun_at written t now r

pub returns-clause-writes : goal.returns-clause-writes
returns-clause-writes c = λ now w line begun_at written t. write_lost-good line begun_at written t now w
