use Rattle.ccr_law_settling.proofs.Measure.Descent.{no_descent}
use Rattle.ccr_law_settling.proofs.measuring.no_endless_descent.Goals as goal

pub returns : goal.returns
returns c = record { descent = no_descent }
