use Rattle.ccr_model.specs.Followers.{Follower}
use Rattle.ccr_model.specs.FollowerRows.{tick_row}
use Rattle.ccr_following.specs.Works.{work_of}
use Rattle.ccr_following.proofs.Drawing.{ticked-keeps}
use Rattle.ccr_following.proofs.Stepping.{drawn-seen, seen, tick-done}
use Rattle.ccr_following.proofs.side.FollowerSide.tick.Goals as goal

pub invariant_of-self-2 : goal.invariant_of-self-2
invariant_of-self-2 c = λ whole.
    ticked-keeps c.self.inside.now (work_of c.self.inside.work) (work_of c.tick.new.self) c.in_ok-sent.sent c.self.inside.lease_requests c.in_ok-sent.ensures
    (drawn-seen _ _ c.self.view_is c.in_ok-is_whole.ensures)

pub returns : goal.returns
returns c = seen tick_row _ _ _ c.self.view_is (tick-done _ _ _ c.in_ok-sent.ensures)
