use Rattle.std.proofs.Common.{◌≡◌, true, false, refl, sym, subst, ◌∙◌}
use Rattle.ccr_journal.specs.declared.replies.Reply.TheVariants as replies
use Rattle.ccr_model.specs.CopyRows.{add_copy_row}
use Rattle.ccr_model.specs.Followers.{Follower}
use Rattle.ccr_model.specs.FollowerRows.{follower_add_copy_row, is_bootstrapping}
use Rattle.ccr_following.specs.Works.{work_of}
use Rattle.ccr_following.proofs.Lifting.{add-copy-done, add-copy-refused, copies-done, copies-refused}
use Rattle.ccr_following.proofs.Stepping.{seen, so}
use Rattle.ccr_following.proofs.side.FollowerSide.add_copy.Goals as goal

pub returns-then-is_restoring : goal.returns-then-is_restoring
returns-then-is_restoring c = so c.refuse.result c.refuse.new.self _ _
    (add-copy-refused c.args.self.now _
    (subst (λ (s : Follower). is_bootstrapping s.work ≡ true) c.self.view_is (sym c.is_restoring.ensures ∙ c.if-is_restoring.true)) refl) c.refuse.ensures

pub returns-in-Ok : goal.returns-in-Ok
returns-in-Ok c =
    let view : Follower = record {
      lease = c.self.inside.lease;
      history = c.self.inside.history;
      params = c.self.inside.params;
      retention = c.self.inside.engine.retention;
      now = c.self.inside.now;
      work = work_of c.self.inside.work;
      lease_requests = c.self.inside.lease_requests;
      epoch = c.self.inside.engine.epoch;
      copies = c.self.inside.engine.copies;
    } in
    seen follower_add_copy_row view _ _ c.self.view_is
    (add-copy-done view _ (sym c.is_restoring.ensures ∙ c.if-is_restoring.false)
    (copies-done view (add_copy_row view.copies) (replies.Added c.in-Ok.copy) c.add_copy.new.self _ c.in-Ok.ensures.ok c.told.ensures))

pub returns-in_ok-told-in-Err : goal.returns-in_ok-told-in-Err
returns-in_ok-told-in-Err c =
    let view : Follower = record {
      lease = c.self.inside.lease;
      history = c.self.inside.history;
      params = c.self.inside.params;
      retention = c.self.inside.engine.retention;
      now = c.self.inside.now;
      work = work_of c.self.inside.work;
      lease_requests = c.self.inside.lease_requests;
      epoch = c.self.inside.engine.epoch;
      copies = c.self.inside.engine.copies;
    } in
    seen follower_add_copy_row view _ _ c.self.view_is
    (add-copy-done view _ (sym c.is_restoring.ensures ∙ c.if-is_restoring.false)
    (copies-refused view (add_copy_row view.copies) c.in-Err.fault c.add_copy.new.self _ c.in_ok-told-in-Err.ensures.refusal c.in-Err.ensures.err c.in_ok-told-in-Err.ensures.refused))
