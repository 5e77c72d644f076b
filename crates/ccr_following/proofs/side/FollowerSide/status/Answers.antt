use Rattle.std.proofs.Common.{◌≡◌, subst, ◌∙◌}
use Rattle.ccr_journal.specs.declared.replies.Reply.TheVariants as replies
use Rattle.ccr_model.specs.Followers.{Follower}
use Rattle.ccr_model.specs.FollowerRows.{follower_status_row}
use Rattle.ccr_following.specs.Works.{work_of}
use Rattle.ccr_following.proofs.Stepping.{status-done, status-is}
use Rattle.ccr_following.proofs.side.FollowerSide.status.Goals as goal

pub returns : goal.returns
returns c =
    let view : Follower = record {
      lease = c.self.inside.lease;
      history = c.self.inside.history;
      params = c.self.inside.params;
      retention = c.self.inside.engine.retention;
      now = c.self.inside.now;
      work = work_of c.self.inside.work;
      lease_requests = c.self.inside.lease_requests;
      epoch = c.self.inside.engine.epoch;
      copies = c.self.inside.engine.copies;
    } in
    subst (λ (s : Follower). follower_status_row s ≡ record { reply = replies.FollowerStatus c.in_ok-status.status; next = s; sent = c.none.result }) c.self.view_is
    (status-done view c.in_ok-status.status c.none.result
    (c.in_ok-status.ensures
    ∙ status-is view c.phase.result c.epoch.result c.term.result c.in_ok-copies.copies c.loads-reads.result c.phase.ensures c.epoch.ensures c.term.ensures c.in_ok-copies.ensures c.loads-reads.ensures)
    c.none.ensures)
