use Rattle.ccr_model.specs.Followers.{Follower}
use Rattle.ccr_model.specs.FollowerRows.{follower_clock_row}
use Rattle.ccr_following.proofs.Stepping.{clock-done, seen}
use Rattle.ccr_following.proofs.side.FollowerSide.clock.Goals as goal

pub returns : goal.returns
returns c = seen (λ (s : Follower). follower_clock_row s c.args.now) _ _ _ c.self.view_is (clock-done _ c.args.now _ c.none.ensures)
