use Rattle.ccr_law_stores.proofs.Cuts.{cut-is}
use Rattle.ccr_law_stores.proofs.holdings.longest_cut.Goals as goal

pub returns : goal.returns
returns c = cut-is
