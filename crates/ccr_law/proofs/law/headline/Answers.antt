use Rattle.ccr_law.proofs.Theorem.{headline_holds, committed_prefix}
use Rattle.ccr_law.proofs.law.headline.Goals as goal

pub returns-clause-places : goal.returns-clause-places
returns-clause-places c = headline_holds

pub returns-clause-prefix : goal.returns-clause-prefix
returns-clause-prefix c = committed_prefix
