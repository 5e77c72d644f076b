use Rattle.ccr_law_settling.proofs.Left.Active.{active-whole}
use Rattle.ccr_law_settling.proofs.remains.active_copies_are_whole.Goals as goal

pub returns : goal.returns
returns c = active-whole
