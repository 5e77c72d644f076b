use Rattle.std.proofs.Common.{refl}
use Rattle.ccr_model.specs.Followers.{Follower}
use Rattle.ccr_model.specs.FollowerRows.{pause_row, task_of}
use Rattle.ccr_following.specs.Works.{work_of}
use Rattle.ccr_following.proofs.Drawing.{pauses-keeps}
use Rattle.ccr_following.proofs.Stepping.{drawn-seen, pause-done, pause-refused, seen, so, turned}
use Rattle.ccr_following.proofs.side.FollowerSide.pause.Goals as goal

pub returns-then-not-pause : goal.returns-then-not-pause
returns-then-not-pause c = so c.refuse.result c.refuse.new.self _ _
    (seen (λ (s : Follower). pause_row s (task_of s.work)) _ _ _ c.self.view_is (pause-refused _ _ _ (turned _ _ _ _ c.pause.ensures c.if-not-pause.true) refl)) c.refuse.ensures

pub invariant_of-self-2 : goal.invariant_of-self-2
invariant_of-self-2 c = λ whole.
    pauses-keeps (work_of c.self.inside.work) (work_of c.pause.new.self) c.pause.result c.self.inside.lease_requests c.pause.ensures (drawn-seen _ _ c.self.view_is c.in_ok-is_whole.ensures)

pub returns : goal.returns
returns c = seen (λ (s : Follower). pause_row s (task_of s.work)) _ _ _ c.self.view_is (pause-done _ _ _ (turned _ _ _ _ c.pause.ensures c.if-not-pause.false) c.none.ensures)
