use Rattle.ccr_law_stores.proofs.Leased.{leader-leased}
use Rattle.ccr_law_stores.proofs.holdings.leased_stays.Goals as goal

pub returns : goal.returns
returns c = leader-leased
