use Rattle.ccr_law_stores.proofs.SearchSays.{over_given, over_line, leader_answers, follower_answers}
use Rattle.ccr_law_stores.proofs.SearchPlaces.{at_places}
use Rattle.ccr_law_stores.proofs.searches.searches_answer.Goals as goal

pub returns-clause-given : goal.returns-clause-given
returns-clause-given c = over_given

pub returns-clause-line : goal.returns-clause-line
returns-clause-line c = over_line

pub returns-clause-leader : goal.returns-clause-leader
returns-clause-leader c = leader_answers

pub returns-clause-follower : goal.returns-clause-follower
returns-clause-follower c = follower_answers

pub returns-clause-places : goal.returns-clause-places
returns-clause-places c = at_places
