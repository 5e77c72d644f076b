use Rattle.std.proofs.Common.{◌≡◌, None, refl, sym, subst}
use Rattle.ccr_model.specs.Followers.{Follower}
use Rattle.ccr_model.specs.FollowerRows.{sent_write, written_row}
use Rattle.ccr_following.specs.Refusals.{not_written}
use Rattle.ccr_following.specs.Works.{work_of}
use Rattle.ccr_following.proofs.Drawing.{ended_write-keeps}
use Rattle.ccr_following.proofs.Stepping.{drawn-seen, seen, so, turned, written-done, written-refused}
use Rattle.ccr_following.proofs.side.FollowerSide.written.Goals as goal

pub returns-in-Some : goal.returns-in-Some
returns-in-Some c = so c.refuse.result c.refuse.new.self _ _
    (written-refused c.args.self.now c.args.write c.in-Some.why _ c.in-Some.ensures refl) c.refuse.ensures

pub invariant_of-self-2 : goal.invariant_of-self-2
invariant_of-self-2 c = λ whole.
    ended_write-keeps c.args.write (work_of c.self.inside.work) (work_of c.end_write.new.self) c.in_ok-sent.field-0 c.self.inside.lease_requests c.in_ok-sent.ensures
    (drawn-seen _ _ c.self.view_is c.in_ok-is_whole.ensures)

pub returns : goal.returns
returns c = seen (λ (s : Follower). written_row s c.args.write (sent_write s.work c.args.write)) _ _ _ c.self.view_is
    (written-done _ c.args.write _ _
    (subst (λ (s : Follower). None ≡ not_written s c.args.write (sent_write s.work c.args.write)) (sym c.self.view_is) c.in_default.ensures)
    (turned _ _ _ _ c.in_ok-sent.ensures c.in-Some-2.is))
