-- What a choice rests on in a state that was reached.
use Rattle.ccr_model.specs.World.{State}
use Rattle.ccr_law_reached.specs.Reached.{EndsSettled, ArePollsOfFollowers, KeptRequestsWait}

-- where nothing may be used it is settled, each poll is of a follower that is there, and each kept request waits for a lease that some copy
-- lacks, where no replica has leases that the primary doesn't know of
pub record Grounds (s : State) : Type 0 where
  pub ends : EndsSettled s
  pub polls : ArePollsOfFollowers s
  pub kept : KeptRequestsWait s
