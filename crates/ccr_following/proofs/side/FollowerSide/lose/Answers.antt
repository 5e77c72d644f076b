use Rattle.std.proofs.Common.{refl}
use Rattle.ccr_model.specs.Followers.{Follower}
use Rattle.ccr_model.specs.FollowerRows.{lose_row}
use Rattle.ccr_following.specs.Works.{work_of}
use Rattle.ccr_following.proofs.Drawing.{lost-keeps}
use Rattle.ccr_following.proofs.Stepping.{drawn-seen, lose-done, lose-refused, seen, so, turned}
use Rattle.ccr_following.proofs.side.FollowerSide.lose.Goals as goal

pub returns-then-not-branch : goal.returns-then-not-branch
returns-then-not-branch c = so c.refuse.result c.refuse.new.self _ _
    (seen (λ (s : Follower). lose_row s c.args.at) _ _ _ c.self.view_is (lose-refused _ c.args.at _ _ (turned _ _ _ _ c.in_ok-lose.ensures c.if-not-branch.true) refl)) c.refuse.ensures

pub invariant_of-self-2 : goal.invariant_of-self-2
invariant_of-self-2 c = λ whole.
    lost-keeps c.self.inside.now c.args.at (work_of c.self.inside.work) (work_of c.lose.new.self) c.in_ok-lose.field-0 c.self.inside.lease_requests c.in_ok-lose.ensures
    (drawn-seen _ _ c.self.view_is c.in_ok-is_whole.ensures)

pub returns : goal.returns
returns c = seen (λ (s : Follower). lose_row s c.args.at) _ _ _ c.self.view_is
    (lose-done _ c.args.at _ _ (turned _ _ _ _ c.in_ok-lose.ensures c.if-not-branch.false) c.none.ensures)
