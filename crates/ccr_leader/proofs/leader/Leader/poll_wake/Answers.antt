use Rattle.std.specs.Prelude.{slice_get}
use Rattle.std.proofs.Common.{◌≡◌, ℕ, true, false, Some, None, sym, ◌∙◌, ap, subst}
use Rattle.ccr_journal.specs.declared.replies.Refusal.TheVariants.{NoPoll, Wait}
use Rattle.ccr_model.specs.Outcomes.{refused}
use Rattle.ccr_model.specs.Copies.{copy_of}
use Rattle.ccr_model.specs.Leaders.{Leader, Poll, polls_of, without_poll}
use Rattle.ccr_model.specs.LeaderFrames.{hears, leader_wake}
use Rattle.ccr_leader.proofs.Fetched.{pollless-row, copyless-row, waiting-row, woken-row}
use Rattle.ccr_leader.proofs.leader.Leader.poll_wake.Goals as goal

pub returns-in_default-clause-err : goal.returns-in_default-clause-err
returns-in_default-clause-err c = λ is.
    let old : Leader = record {
      start = c.self.inside.start;
      history = c.self.inside.history;
      copies = c.self.inside.copies;
      stale = c.self.inside.stale;
      now = c.self.inside.now;
      next_session = c.self.inside.sessions.next;
      sessions = c.self.inside.sessions.sessions;
      kept = c.self.inside.kept;
      polls = c.self.inside.polls;
    } in
    subst (λ (l : Leader). leader_wake l c.args.follower.now c.args.at ≡ refused l (NoPoll c.args.at)) c.self.view_is
    (pollless-row old c.args.follower.now c.args.at (sym c.in_default.ensures))

pub returns-in_default-copy_of-clause-err : goal.returns-in_default-copy_of-clause-err
returns-in_default-copy_of-clause-err c = λ is.
    let old : Leader = record {
      start = c.self.inside.start;
      history = c.self.inside.history;
      copies = c.self.inside.copies;
      stale = c.self.inside.stale;
      now = c.self.inside.now;
      next_session = c.self.inside.sessions.next;
      sessions = c.self.inside.sessions.sessions;
      kept = c.self.inside.kept;
      polls = c.self.inside.polls;
    } in
    let same : c.from.result ≡ c.in-Some.poll.now.copy = c.from.ensures ∙ ap (λ (p : Poll). p.copy) c.poll.view_is in
    subst (λ (l : Leader). leader_wake l c.args.follower.now c.args.at ≡ refused l (NoPoll c.args.at)) c.self.view_is
    (copyless-row old c.args.follower.now c.args.at c.in-Some.poll.now (sym c.in-Some.ensures) (ap (λ (n : ℕ). copy_of c.self.inside.copies n) (sym same) ∙ sym c.in_default-copy_of.ensures))

pub returns-then-has_to_stay-clause-err : goal.returns-then-has_to_stay-clause-err
returns-then-has_to_stay-clause-err c = λ is.
    let same : c.from.result ≡ c.in-Some.poll.now.copy = c.from.ensures ∙ ap (λ (p : Poll). p.copy) c.poll.view_is in
    waiting-row c.args.self.now c.args.follower.now c.args.at c.in-Some.poll.now c.in-Some-copy_of.side.now
    (ap (λ (l : Leader). slice_get (polls_of l.polls c.args.follower.now) c.args.at) (sym c.self.view_is) ∙ sym c.in-Some.ensures)
    (ap (λ (l : Leader). copy_of l.copies c.in-Some.poll.now.copy) (sym c.self.view_is) ∙ (ap (λ (n : ℕ). copy_of c.self.inside.copies n) (sym same) ∙ sym c.in-Some-copy_of.ensures))
    (sym c.has_to_stay.ensures ∙ c.if-has_to_stay.true)
    ∙ ap (λ (n : ℕ). refused c.args.self.now (Wait n)) (sym c.known_global.ensures)

pub returns-clause-ok : goal.returns-clause-ok
returns-clause-ok c =
    let same : c.from.result ≡ c.in-Some.poll.now.copy = c.from.ensures ∙ ap (λ (p : Poll). p.copy) c.poll.view_is in
    woken-row c.args.self.now c.args.follower.now c.args.at c.in-Some.poll.now c.in-Some-copy_of.side.now c.take-poll.new.self c.in_ok-told.told.0 c.in_ok-told.told.1
    (ap (λ (l : Leader). slice_get (polls_of l.polls c.args.follower.now) c.args.at) (sym c.self.view_is) ∙ sym c.in-Some.ensures)
    (ap (λ (l : Leader). copy_of l.copies c.in-Some.poll.now.copy) (sym c.self.view_is) ∙ (ap (λ (n : ℕ). copy_of c.self.inside.copies n) (sym same) ∙ sym c.in-Some-copy_of.ensures))
    (sym c.has_to_stay.ensures ∙ c.if-has_to_stay.false)
    (c.take-poll.ensures.after ∙ ap (λ (l : Leader). without_poll c.args.follower.now c.args.at l.polls) c.self.view_is)
    c.in_ok-told.ensures
    ∙ ap (λ (l : Leader). hears c.in_ok-told.told.0 (record l { polls = c.take-poll.new.self }) c.in_ok-told.told.1) (sym c.self.view_is)
