use Rattle.std.proofs.Common.{refl, sym, ◌∙◌}
use Rattle.ccr_model.specs.Followers.{Follower}
use Rattle.ccr_model.specs.FollowerRows.{sent_write, take_row}
use Rattle.ccr_following.proofs.Stepping.{seen, so, take-done, take-refused}
use Rattle.ccr_following.proofs.side.FollowerSide.take.Goals as goal

pub returns-in_default : goal.returns-in_default
returns-in_default c = so c.refuse.result c.refuse.new.self _ _
    (seen (λ (s : Follower). take_row s c.args.write (sent_write s.work c.args.write)) _ _ _ c.self.view_is (take-refused _ c.args.write _ (sym c.in_default.is ∙ c.in_ok-batch.ensures) refl)) c.refuse.ensures

pub returns : goal.returns
returns c = seen (λ (s : Follower). take_row s c.args.write (sent_write s.work c.args.write)) _ _ _ c.self.view_is
    (take-done _ c.args.write c.in-Some.batch _ (sym c.in-Some.is ∙ c.in_ok-batch.ensures) c.none.ensures)
