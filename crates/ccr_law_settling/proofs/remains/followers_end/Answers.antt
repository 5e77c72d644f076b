use Rattle.ccr_law_settling.proofs.Left.Says.{followers-end}
use Rattle.ccr_law_settling.proofs.remains.followers_end.Goals as goal

pub returns : goal.returns
returns c = followers-end
