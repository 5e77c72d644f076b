use Rattle.std.proofs.Common.{◌≡◌, ℕ, true, false, Some, None, List, [], ◌∷◌, ◌++◌, sym, ◌∙◌, ap, subst}
use Rattle.ccr_journal.specs.declared.replies.Heard.TheVariants as heard
use Rattle.ccr_journal.specs.declared.replies.Refusal.TheVariants.{NoCopy}
use Rattle.ccr_model.specs.Outcomes.{refused}
use Rattle.ccr_model.specs.Copies.{copy_of}
use Rattle.ccr_model.specs.Leaders.{Leader, Poll}
use Rattle.ccr_model.specs.LeaderFrames.{hears, read_row}
use Rattle.ccr_leader.proofs.Fetched.{nowhere-row, parked-row, answered-row}
use Rattle.ccr_leader.proofs.leader.Leader.hear_read.Goals as goal

pub returns-in_default-clause-err : goal.returns-in_default-clause-err
returns-in_default-clause-err c = λ is.
    let old : Leader = record {
      start = c.self.inside.start;
      history = c.self.inside.history;
      copies = c.self.inside.copies;
      stale = c.self.inside.stale;
      now = c.self.inside.now;
      next_session = c.self.inside.sessions.next;
      sessions = c.self.inside.sessions.sessions;
      kept = c.self.inside.kept;
      polls = c.self.inside.polls;
    } in
    subst (λ (l : Leader). read_row l c.args.poll c.args.copy (copy_of l.copies c.args.copy) ≡ refused l (NoCopy c.args.copy)) c.self.view_is
    (nowhere-row old c.args.poll c.args.copy (copy_of old.copies c.args.copy) (sym c.in_default.ensures))

pub returns-then-has_to_wait-clause-ok : goal.returns-then-has_to_wait-clause-ok
returns-then-has_to_wait-clause-ok c =
    let old : Leader = record {
      start = c.self.inside.start;
      history = c.self.inside.history;
      copies = c.self.inside.copies;
      stale = c.self.inside.stale;
      now = c.self.inside.now;
      next_session = c.self.inside.sessions.next;
      sessions = c.self.inside.sessions.sessions;
      kept = c.self.inside.kept;
      polls = c.self.inside.polls;
    } in
    let there : copy_of c.args.self.now.copies c.args.copy ≡ Some c.in-Some.side.now = ap (λ (l : Leader). copy_of l.copies c.args.copy) (sym c.self.view_is) ∙ sym c.in-Some.ensures in
    let parked : c.park.new.self ≡ c.args.self.now.polls ++ c.args.poll ∷ [] = c.in_ok-park.ensures.ok ∙ ap (λ (l : Leader). l.polls ++ c.args.poll ∷ []) c.self.view_is in
    parked-row c.args.self.now c.args.poll c.args.copy (copy_of c.args.self.now.copies c.args.copy) c.in-Some.side.now c.park.new.self c.none.result there
    (sym c.has_to_wait.ensures ∙ c.if-has_to_wait.true) parked c.none.ensures
    ∙ ap (λ (l : Leader). hears heard.Parked (record l { polls = c.park.new.self }) c.none.result) (sym c.self.view_is)

pub returns-clause-ok : goal.returns-clause-ok
returns-clause-ok c =
    let there : copy_of c.args.self.now.copies c.args.copy ≡ Some c.in-Some.side.now = ap (λ (l : Leader). copy_of l.copies c.args.copy) (sym c.self.view_is) ∙ sym c.in-Some.ensures in
    answered-row c.args.self.now c.args.poll c.args.copy (copy_of c.args.self.now.copies c.args.copy) c.in-Some.side.now c.in_ok-told.told.0 c.in_ok-told.told.1 there
    (sym c.has_to_wait.ensures ∙ c.if-has_to_wait.false) (c.in_ok-told.ensures c.args.self.now)
