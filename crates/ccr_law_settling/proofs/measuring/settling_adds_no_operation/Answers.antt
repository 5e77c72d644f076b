use Rattle.ccr_law_settling.proofs.Measure.Counts.{counts_stay, lowers_at}
use Rattle.ccr_law_settling.proofs.measuring.settling_adds_no_operation.Goals as goal

pub returns : goal.returns
returns c = record { stay = counts_stay; lower = lowers_at }
