use Rattle.ccr_law_settling.specs.Lowering.{counts_of}
use Rattle.ccr_law_settling.proofs.Measure.Says.{within_at, copying_lowers}
use Rattle.ccr_law_settling.proofs.measuring.copying_lowers_measure.Goals as goal

pub returns : goal.returns
returns c = record { lower = λ p core followers. copying_lowers (counts_of p) p.state (within_at p core followers) }
