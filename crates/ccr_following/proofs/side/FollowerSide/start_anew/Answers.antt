use Rattle.ccr_model.specs.Followers.{Follower}
use Rattle.ccr_following.specs.Works.{work_of}
use Rattle.ccr_following.proofs.Drawing.{begins-keeps}
use Rattle.ccr_following.proofs.Stepping.{drawn-seen}
use Rattle.ccr_following.proofs.side.FollowerSide.start_anew.Goals as goal

pub invariant_of-self-2 : goal.invariant_of-self-2
invariant_of-self-2 c = λ whole.
    begins-keeps c.self.inside.params c.global-count.result c.in-Some.epoch c.history-history.result (work_of c.self.inside.work) (work_of c.begin.new.self) c.in_ok-sent.sent c.self.inside.lease_requests c.in_ok-sent.ensures
    (drawn-seen _ _ c.self.view_is c.requires)
