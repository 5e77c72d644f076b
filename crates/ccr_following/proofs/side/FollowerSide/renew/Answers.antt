use Rattle.std.proofs.Common.{◌≡◌, ℕ, Option, Some, refl, sym, ap, subst, ◌∙◌}
use Rattle.ccr_wire.specs.Message.{Frame}
use Rattle.ccr_model.specs.Followers.{Follower}
use Rattle.ccr_model.specs.FollowerRows.{renew_row, task_of}
use Rattle.ccr_following.specs.Works.{renews, work_of}
use Rattle.ccr_following.proofs.Drawing.{StandsBy, renews-stands}
use Rattle.ccr_following.proofs.Stepping.{drawn-seen, renew-by, seen, so, turned}
use Rattle.ccr_following.proofs.side.FollowerSide.renew.Goals as goal

pub returns-in_default : goal.returns-in_default
returns-in_default c = so c.refuse.result c.refuse.new.self _ _
    (seen (λ (s : Follower). renew_row s (task_of s.work)) _ _ _ c.self.view_is (renew-by _ _ _ _ (turned _ _ _ _ (ap (λ (n : ℕ). renews c.self.inside.lease n (work_of c.self.inside.work)) (sym c.global.ensures) ∙ c.in_ok-message.ensures) c.in_default.is) refl)) c.refuse.ensures

pub send_request-requires-clause-older : goal.send_request-requires-clause-older
send_request-requires-clause-older c =
    let stands : StandsBy c.self.inside.lease_requests (work_of c.renew.new.self) (Some c.in-Some.message)
    = subst (λ (o : Option Frame). StandsBy c.self.inside.lease_requests (work_of c.renew.new.self) o) c.in-Some.is
    (renews-stands c.self.inside.lease c.global.result (work_of c.self.inside.work) (work_of c.renew.new.self) c.in_ok-message.field-0 c.self.inside.lease_requests c.in_ok-message.ensures
    (drawn-seen _ _ c.self.view_is c.in_ok-is_whole.ensures)) in
    stands.0

pub send_request-requires-clause-drawn : goal.send_request-requires-clause-drawn
send_request-requires-clause-drawn c =
    let stands : StandsBy c.self.inside.lease_requests (work_of c.renew.new.self) (Some c.in-Some.message)
    = subst (λ (o : Option Frame). StandsBy c.self.inside.lease_requests (work_of c.renew.new.self) o) c.in-Some.is
    (renews-stands c.self.inside.lease c.global.result (work_of c.self.inside.work) (work_of c.renew.new.self) c.in_ok-message.field-0 c.self.inside.lease_requests c.in_ok-message.ensures
    (drawn-seen _ _ c.self.view_is c.in_ok-is_whole.ensures)) in
    stands.1

pub returns : goal.returns
returns c = so c.send_request.result c.send_request.new.self _ _
    (seen (λ (s : Follower). renew_row s (task_of s.work)) _ _ _ c.self.view_is (renew-by _ _ _ _ (turned _ _ _ _ (ap (λ (n : ℕ). renews c.self.inside.lease n (work_of c.self.inside.work)) (sym c.global.ensures) ∙ c.in_ok-message.ensures) c.in-Some.is) refl)) c.send_request.ensures
