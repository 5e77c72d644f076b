use Rattle.ccr_law_settling.proofs.Left.Bootstraps.{bootstraps-end}
use Rattle.ccr_law_settling.proofs.Left.Writes.{writes-end}
use Rattle.ccr_law_settling.proofs.remains.nothing_left_to_fetch_or_write.Goals as goal

pub returns : goal.returns
returns c = record { bootstraps = bootstraps-end; writes = writes-end }
