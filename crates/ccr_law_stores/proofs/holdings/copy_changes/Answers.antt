use Rattle.ccr_law_stores.proofs.StoreChanges.{copy-takes, copy-flushes, copy-knows}
use Rattle.ccr_law_stores.proofs.Merging.{copy-merges}
use Rattle.ccr_law_stores.proofs.StoreViews.{holds-enough}
use Rattle.ccr_law_stores.proofs.holdings.copy_changes.Goals as goal

pub returns-clause-takes : goal.returns-clause-takes
returns-clause-takes c = copy-takes

pub returns-clause-flushes : goal.returns-clause-flushes
returns-clause-flushes c = copy-flushes

pub returns-clause-merges : goal.returns-clause-merges
returns-clause-merges c = copy-merges

pub returns-clause-knows : goal.returns-clause-knows
returns-clause-knows c = copy-knows

pub returns-clause-enough : goal.returns-clause-enough
returns-clause-enough c = holds-enough
