use Rattle.std.proofs.Common.{◌≡◌, subst}
use Rattle.ccr_journal.specs.declared.replies.Reply.TheVariants as replies
use Rattle.ccr_model.specs.Outcomes.{answered}
use Rattle.ccr_model.specs.Leaders.{Leader}
use Rattle.ccr_model.specs.LeaderRows.{leader_close_sessions}
use Rattle.ccr_leader.proofs.Rows.{closed-done}
use Rattle.ccr_leader.proofs.leader.Leader.close_sessions.Goals as goal

pub returns : goal.returns
returns c =
    let old : Leader = record { start = c.self.inside.start; history = c.self.inside.history; copies = c.self.inside.copies; stale = c.self.inside.stale; now = c.self.inside.now; next_session = c.self.inside.sessions.next; sessions = c.self.inside.sessions.sessions; kept = c.self.inside.kept; polls = c.self.inside.polls } in
    subst (λ (l : Leader). leader_close_sessions l ≡ answered (replies.Closed c.expire.result) (record old { next_session = c.expire.new.self.next; sessions = c.expire.new.self.sessions })) c.self.view_is
    (closed-done old c.expire.result c.expire.new.self c.expire.ensures.closed c.expire.ensures.kept)
