use Rattle.ccr_law_settling.proofs.Measure.Says.{readable_at, delivery_lowers}
use Rattle.ccr_law_settling.proofs.measuring.delivery_lowers_measure.Goals as goal

pub returns : goal.returns
returns c = record { lower = λ count_of p leader. delivery_lowers count_of p.state (readable_at p leader) }
