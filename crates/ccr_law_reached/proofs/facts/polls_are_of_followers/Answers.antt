use Rattle.ccr_law_reached.proofs.InReached.{polls_at}
use Rattle.ccr_law_reached.proofs.facts.polls_are_of_followers.Goals as goal

pub returns : goal.returns
returns c = polls_at
