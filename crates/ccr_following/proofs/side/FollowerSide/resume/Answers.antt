use Rattle.std.proofs.Common.{◌≡◌, true, false, refl, sym, subst, ◌∙◌}
use Rattle.ccr_model.specs.Followers.{Follower}
use Rattle.ccr_following.specs.Works.{is_paused_work}
use Rattle.ccr_following.proofs.Stepping.{resume-done, resume-refused, so, so-anew}
use Rattle.ccr_following.proofs.side.FollowerSide.resume.Goals as goal

pub returns-then-not-is_paused : goal.returns-then-not-is_paused
returns-then-not-is_paused c = so c.refuse.result c.refuse.new.self _ _
    (resume-refused c.args.self.now _
    (subst (λ (s : Follower). is_paused_work s.work ≡ false) c.self.view_is (sym c.is_paused.ensures ∙ c.if-not-is_paused.true)) refl) c.refuse.ensures

pub returns : goal.returns
returns c = so-anew c.start_anew.result c.start_anew.new.self c.args.self.now _
    (λ o anew. resume-done c.args.self.now o (subst (λ (s : Follower). is_paused_work s.work ≡ true) c.self.view_is (sym c.is_paused.ensures ∙ c.if-not-is_paused.false)) anew) c.start_anew.ensures
