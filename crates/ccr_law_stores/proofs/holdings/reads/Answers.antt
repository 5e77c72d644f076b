use Rattle.ccr_law_stores.proofs.Runs.{read-brings}
use Rattle.ccr_law_stores.proofs.Reading.{read-of-leader}
use Rattle.ccr_law_stores.proofs.holdings.reads.Goals as goal

pub returns-clause-copy : goal.returns-clause-copy
returns-clause-copy c = read-brings

pub returns-clause-leader : goal.returns-clause-leader
returns-clause-leader c = read-of-leader
