use Rattle.std.proofs.Common.{◌≡◌, subst}
use Rattle.ccr_journal.specs.declared.replies.Reply.TheVariants as replies
use Rattle.ccr_model.specs.Outcomes.{answered}
use Rattle.ccr_model.specs.Leaders.{Leader}
use Rattle.ccr_model.specs.LeaderRows.{leader_clock}
use Rattle.ccr_leader.proofs.Rows.{clock-done}
use Rattle.ccr_leader.proofs.leader.Leader.clock.Goals as goal

pub returns : goal.returns
returns c =
    let old : Leader = record { start = c.self.inside.start; history = c.self.inside.history; copies = c.self.inside.copies; stale = c.self.inside.stale; now = c.self.inside.now; next_session = c.self.inside.sessions.next; sessions = c.self.inside.sessions.sessions; kept = c.self.inside.kept; polls = c.self.inside.polls } in
    subst (λ (l : Leader). leader_clock l c.args.now ≡ answered replies.Done (record old { now = c.args.now })) c.self.view_is (clock-done old c.args.now)
