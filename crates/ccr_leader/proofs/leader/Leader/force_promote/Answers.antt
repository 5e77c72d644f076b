use Rattle.std.proofs.Common.{◌≡◌, ℕ, ◌+◌, List, sym, subst, ap, ◌∙◌}
use Rattle.ccr_journal.specs.declared.replies.Reply.TheVariants as replies
use Rattle.ccr_journal.specs.declared.replies.Refusal.TheVariants.{NoStale}
use Rattle.ccr_model.specs.Outcomes.{answered, refused}
use Rattle.ccr_model.specs.Copies.{Copy}
use Rattle.ccr_model.specs.Leaders.{Leader, stale_of, history_of_term}
use Rattle.ccr_model.specs.LeaderRows.{leader_force_promote}
use Rattle.ccr_leader.proofs.Rows.{forced-all, forced-down}
use Rattle.ccr_leader.proofs.leader.Leader.force_promote.Goals as goal

pub returns-in_default-clause-err : goal.returns-in_default-clause-err
returns-in_default-clause-err c = λ is.
    let old : Leader = record { start = c.self.inside.start; history = c.self.inside.history; copies = c.self.inside.copies; stale = c.self.inside.stale; now = c.self.inside.now; next_session = c.self.inside.sessions.next; sessions = c.self.inside.sessions.sessions; kept = c.self.inside.kept; polls = c.self.inside.polls } in
    subst (λ (l : Leader). leader_force_promote l c.args.copy ≡ refused (record old { stale = c.take.new.self }) (NoStale c.args.copy)) c.self.view_is
    (forced-down old c.args.copy (stale_of old.stale c.args.copy) (sym c.in_default.ensures.taken)
    ∙ ap (λ (cs : List Copy). refused (record old { stale = cs }) (NoStale c.args.copy)) (sym c.in_default.ensures.none))

pub returns-clause-ok : goal.returns-clause-ok
returns-clause-ok c =
    let old : Leader = record { start = c.self.inside.start; history = c.self.inside.history; copies = c.self.inside.copies; stale = c.self.inside.stale; now = c.self.inside.now; next_session = c.self.inside.sessions.next; sessions = c.self.inside.sessions.sessions; kept = c.self.inside.kept; polls = c.self.inside.polls } in
    subst (λ (l : Leader). leader_force_promote l c.args.copy
    ≡ answered (replies.Forced c.in_ok-told.told.0 c.in_ok-told.told.1)
    (record old {
      history = c.next_history-history.result;
      copies = c.force_promote.new.self;
      stale = c.clear.new.self;
      next_session = c.end_all.new.self.next;
      sessions = c.end_all.new.self.sessions;
      kept = c.clear-2.new.self;
      polls = c.new.result;
    })) c.self.view_is
    (forced-all old c.args.copy c.in_ok-told.told.0 c.in_ok-told.told.1 (stale_of old.stale c.args.copy) c.in-Some.stale c.force_promote.new.self c.next_history-history.result c.clear.new.self c.end_all.new.self c.clear-2.new.self c.new.result
    (sym c.in-Some.ensures.taken) c.in_ok-told.ensures.ok c.in_ok-told.ensures.term c.in_ok-told.ensures.filled
    (c.next_history-history.ensures ∙ ap (λ (l : Leader). history_of_term l.start.history (l.copies.term + 1)) (sym c.self.view_is)) c.clear.ensures c.end_all.ensures c.clear-2.ensures c.new.ensures)
