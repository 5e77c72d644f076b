use Rattle.std.proofs.Common.{◌≡◌, None, refl, sym, subst}
use Rattle.ccr_model.specs.Followers.{Follower}
use Rattle.ccr_model.specs.FollowerRows.{apply_row, sent_write}
use Rattle.ccr_following.specs.Refusals.{not_applied}
use Rattle.ccr_following.proofs.Stepping.{apply-done, apply-refused, seen, so}
use Rattle.ccr_following.proofs.side.FollowerSide.apply.Goals as goal

pub returns-in-Some : goal.returns-in-Some
returns-in-Some c = so c.refuse.result c.refuse.new.self _ _
    (apply-refused c.args.self.now c.args.epoch c.args.write c.args.batch.now (sent_write c.args.self.now.work c.args.write) c.in-Some.why _ c.in-Some.ensures refl) c.refuse.ensures

pub returns : goal.returns
returns c = seen (λ (s : Follower). apply_row s c.args.epoch c.args.write c.args.batch.now (sent_write s.work c.args.write)) _ _ _ c.self.view_is
    (apply-done _ c.args.epoch c.args.write c.args.batch.now _ c.in-Ok.new c.apply.new.self _
    (subst (λ (s : Follower). None ≡ not_applied s c.args.epoch c.args.write c.args.batch.now (sent_write s.work c.args.write)) (sym c.self.view_is) c.in_default.ensures) c.in-Ok.ensures.ok c.none.ensures)
