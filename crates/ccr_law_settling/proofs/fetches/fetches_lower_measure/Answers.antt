use Rattle.ccr_law_settling.proofs.Fetch.Coming.{fetches_lower}
use Rattle.ccr_law_settling.proofs.fetches.fetches_lower_measure.Goals as goal

pub returns : goal.returns
returns c = record { lower = fetches_lower }
