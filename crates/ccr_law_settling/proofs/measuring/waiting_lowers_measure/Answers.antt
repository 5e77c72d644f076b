use Rattle.ccr_law_settling.proofs.Measure.Says.{readable_at, waiting_lowers}
use Rattle.ccr_law_settling.proofs.measuring.waiting_lowers_measure.Goals as goal

pub returns : goal.returns
returns c = record { lower = λ count_of p leader. waiting_lowers count_of p.state (readable_at p leader) }
