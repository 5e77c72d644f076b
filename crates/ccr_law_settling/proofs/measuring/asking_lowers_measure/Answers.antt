use Rattle.ccr_law_settling.proofs.Measure.Framing.{asking_lowers}
use Rattle.ccr_law_settling.proofs.measuring.asking_lowers_measure.Goals as goal

pub returns : goal.returns
returns c = record { lower = asking_lowers }
