use Rattle.std.proofs.Common.{◌≡◌, true, false, refl, sym, subst, ◌∙◌}
use Rattle.ccr_model.specs.Followers.{Follower}
use Rattle.ccr_following.specs.Works.{is_active_work}
use Rattle.ccr_following.proofs.Stepping.{restart-done, restart-refused, so, so-anew}
use Rattle.ccr_following.proofs.side.FollowerSide.restart.Goals as goal

pub returns-then-not-is_active : goal.returns-then-not-is_active
returns-then-not-is_active c = so c.refuse.result c.refuse.new.self _ _
    (restart-refused c.args.self.now _
    (subst (λ (s : Follower). is_active_work s.work ≡ false) c.self.view_is (sym c.is_active.ensures ∙ c.if-not-is_active.true)) refl) c.refuse.ensures

pub returns : goal.returns
returns c = so-anew c.start_anew.result c.start_anew.new.self c.args.self.now _
    (λ o anew. restart-done c.args.self.now o (subst (λ (s : Follower). is_active_work s.work ≡ true) c.self.view_is (sym c.is_active.ensures ∙ c.if-not-is_active.false)) anew) c.start_anew.ensures
