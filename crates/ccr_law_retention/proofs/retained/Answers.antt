use Rattle.ccr_law_retention.proofs.Events.{retaining-start, retaining-keeps}
use Rattle.ccr_law_retention.proofs.Floors.{floors-low}
use Rattle.ccr_law_retention.proofs.Says.{retaining-says}
use Rattle.ccr_law_retention.proofs.Stopping.{stops-truly}
use Rattle.ccr_law_retention.proofs.retained.Goals as goal

pub returns-clause-start : goal.returns-clause-start
returns-clause-start c = retaining-start

pub returns-clause-keeps : goal.returns-clause-keeps
returns-clause-keeps c = retaining-keeps

pub returns-clause-says : goal.returns-clause-says
returns-clause-says c = retaining-says

pub returns-clause-stops : goal.returns-clause-stops
returns-clause-stops c = stops-truly

pub returns-clause-floors : goal.returns-clause-floors
returns-clause-floors c = floors-low
