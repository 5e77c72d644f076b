use Rattle.ccr_law_followers.proofs.MergesLeased.{keeps-leased}
use Rattle.ccr_law_followers.proofs.Group.{group-start, group-keeps, group-rises, group-says, group-holds}
use Rattle.ccr_law_followers.proofs.follower_copies.Goals as goal

pub returns-clause-start : goal.returns-clause-start
returns-clause-start c = group-start

pub returns-clause-keep : goal.returns-clause-keep
returns-clause-keep c = group-keeps

pub returns-clause-rise : goal.returns-clause-rise
returns-clause-rise c = group-rises

pub returns-clause-say : goal.returns-clause-say
returns-clause-say c = group-says

pub returns-clause-hold : goal.returns-clause-hold
returns-clause-hold c = group-holds

pub returns-clause-leased : goal.returns-clause-leased
returns-clause-leased c = keeps-leased
