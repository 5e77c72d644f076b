use Rattle.ccr_law_stores.proofs.StoreEvents.{stores-at, enough-at, retention-at}
use Rattle.ccr_law_stores.proofs.LeaderFacts.{leader-at}
use Rattle.ccr_law_stores.proofs.holdings.leader_stores.Goals as goal

pub returns-clause-truth : goal.returns-clause-truth
returns-clause-truth c = stores-at

pub returns-clause-enough : goal.returns-clause-enough
returns-clause-enough c = enough-at

pub returns-clause-retention : goal.returns-clause-retention
returns-clause-retention c = retention-at

pub returns-clause-leader : goal.returns-clause-leader
returns-clause-leader c = leader-at
