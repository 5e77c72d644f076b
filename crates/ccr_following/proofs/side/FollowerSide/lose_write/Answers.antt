use Rattle.std.proofs.Common.{refl}
use Rattle.ccr_model.specs.Followers.{Follower}
use Rattle.ccr_model.specs.FollowerRows.{lose_write_row, sent_write}
use Rattle.ccr_following.specs.Works.{work_of}
use Rattle.ccr_following.proofs.Drawing.{lost_write-keeps}
use Rattle.ccr_following.proofs.Stepping.{drawn-seen, lose_write-done, lose_write-refused, seen, so, turned}
use Rattle.ccr_following.proofs.side.FollowerSide.lose_write.Goals as goal

pub returns-then-not-branch : goal.returns-then-not-branch
returns-then-not-branch c = so c.refuse.result c.refuse.new.self _ _
    (seen (λ (s : Follower). lose_write_row s c.args.write (sent_write s.work c.args.write)) _ _ _ c.self.view_is
    (lose_write-refused _ c.args.write _ _ (turned _ _ _ _ c.in_ok-lose_write.ensures c.if-not-branch.true) refl)) c.refuse.ensures

pub invariant_of-self-2 : goal.invariant_of-self-2
invariant_of-self-2 c = λ whole.
    lost_write-keeps c.self.inside.now c.args.write (work_of c.self.inside.work) (work_of c.lose_write.new.self) c.in_ok-lose_write.field-0 c.self.inside.lease_requests c.in_ok-lose_write.ensures
    (drawn-seen _ _ c.self.view_is c.in_ok-is_whole.ensures)

pub returns : goal.returns
returns c = seen (λ (s : Follower). lose_write_row s c.args.write (sent_write s.work c.args.write)) _ _ _ c.self.view_is
    (lose_write-done _ c.args.write _ _ (turned _ _ _ _ c.in_ok-lose_write.ensures c.if-not-branch.false) c.none.ensures)
