use Rattle.std.proofs.Common.{◌≡◌, sym, ◌∙◌, ap, subst}
use Rattle.ccr_journal.specs.declared.replies.Heard.TheVariants as heard
use Rattle.ccr_model.specs.Copies.{not_ready}
use Rattle.ccr_model.specs.Leaders.{Leader}
use Rattle.ccr_model.specs.LeaderFrames.{hears, session_open_row}
use Rattle.ccr_leader.proofs.Opened.{unopened-row, opening-told}
use Rattle.ccr_leader.proofs.leader.Leader.hear_opening.Goals as goal

pub returns-in-Some-clause-ok : goal.returns-in-Some-clause-ok
returns-in-Some-clause-ok c =
    let old : Leader = record {
      start = c.self.inside.start;
      history = c.self.inside.history;
      copies = c.self.inside.copies;
      stale = c.self.inside.stale;
      now = c.self.inside.now;
      next_session = c.self.inside.sessions.next;
      sessions = c.self.inside.sessions.sessions;
      kept = c.self.inside.kept;
      polls = c.self.inside.polls;
    } in
    subst (λ (l : Leader). session_open_row l c.args.follower.now c.args.request (not_ready l.copies) ≡ hears (heard.NotReady c.in-Some.copy) l c.in_ok-sent.sent) c.self.view_is
    (unopened-row old c.args.follower.now c.args.request (not_ready old.copies) c.in-Some.copy c.in_ok-sent.sent (sym c.in-Some.ensures) c.in_ok-sent.ensures)

pub returns-clause-ok : goal.returns-clause-ok
returns-clause-ok c =
    let old : Leader = record {
      start = c.self.inside.start;
      history = c.self.inside.history;
      copies = c.self.inside.copies;
      stale = c.self.inside.stale;
      now = c.self.inside.now;
      next_session = c.self.inside.sessions.next;
      sessions = c.self.inside.sessions.sessions;
      kept = c.self.inside.kept;
      polls = c.self.inside.polls;
    } in
    subst (λ (l : Leader). session_open_row l c.args.follower.now c.args.request (not_ready l.copies)
    ≡ hears heard.Done (record old { next_session = c.begin.new.self.next; sessions = c.begin.new.self.sessions }) c.in_ok-sent-2.sent) c.self.view_is
    (opening-told old c.args.follower.now c.args.request (not_ready old.copies) c.primary-primary.result.now c.known_global-count.result c.store.result.now c.in_ok-files.files.items c.as_slice.result.now
    c.in_ok-sizes.sizes.items c.new.result c.in_ok-session.session c.begin.new.self c.in_ok-sent-2.sent
    (sym c.in_default.ensures) c.primary-primary.ensures c.known_global-count.ensures c.store.ensures c.in_ok-files.ensures c.as_slice.ensures.value c.in_ok-sizes.ensures c.new.ensures
    c.in_ok-session.ensures.number c.in_ok-session.ensures.ok c.in_ok-sent-2.ensures)
