use Rattle.ccr_law_settling.proofs.Measure.Says.{ending_lowers}
use Rattle.ccr_law_settling.proofs.measuring.ending_lowers_measure.Goals as goal

pub returns : goal.returns
returns c = record { lower = ending_lowers }
