use Rattle.std.proofs.Common.{◌≡◌, ℕ, ◌++◌, ◌==◌, not, filter, List, sym, subst, ap, ◌∙◌}
use Rattle.ccr_wire.specs.Message.{Frame}
use Rattle.ccr_journal.specs.declared.replies.Reply.TheVariants as replies
use Rattle.ccr_model.specs.Outcomes.{Outcome, refused}
use Rattle.ccr_model.specs.Copies.{replica_of}
use Rattle.ccr_model.specs.CopyRows.{fail_copy_row}
use Rattle.ccr_model.specs.Leaders.{Leader, Poll}
use Rattle.ccr_model.specs.LeaderRows.{leader_fail_copy}
use Rattle.ccr_copies.specs.Faults.{refusal_of as copy_refusal}
use Rattle.ccr_law_settling_grounds.specs.Parked.{AreKeptRightly}
use Rattle.ccr_leader.specs.Faults.{refusal_of}
use Rattle.ccr_leader.proofs.Due.{answers_due, kept-same, left-kept}
use Rattle.ccr_leader.proofs.Rows.{told-down, left-done, left-down, left-same}
use Rattle.ccr_leader.proofs.leader.Leader.fail_copy.Goals as goal

pub invariant_of-self : goal.invariant_of-self
invariant_of-self c =
    let kept : AreKeptRightly c.self.inside.copies c.self.inside.kept = subst (λ (l : Leader). AreKeptRightly l.copies l.kept) (sym c.self.view_is) c.in_ok-is_whole.ensures.ok in
    kept-same c.self.inside.copies c.fail_copy.new.self c.in-Err.fault c.noted.new.broken c.self.inside.kept
    (λ is. left-same c.self.inside.copies c.fail_copy.new.self c.args.copy (replica_of c.self.inside.copies c.args.copy) (copy_refusal c.in-Err.fault) c.in-Err.ensures.err) kept c.noted.ensures.broken

pub returns-in-Err-clause-err : goal.returns-in-Err-clause-err
returns-in-Err-clause-err c = λ is.
    let old : Leader = record { start = c.self.inside.start; history = c.self.inside.history; copies = c.self.inside.copies; stale = c.self.inside.stale; now = c.self.inside.now; next_session = c.self.inside.sessions.next; sessions = c.self.inside.sessions.sessions; kept = c.self.inside.kept; polls = c.self.inside.polls } in
    subst (λ (l : Leader). leader_fail_copy l c.args.copy ≡ refused (record old { copies = c.fail_copy.new.self }) (refusal_of c.noted.result)) c.self.view_is
    (left-down old c.args.copy (replica_of old.copies c.args.copy) c.fail_copy.new.self (refusal_of c.noted.result)
    (told-down (fail_copy_row old.copies c.args.copy (replica_of old.copies c.args.copy)) c.fail_copy.new.self c.in-Err.fault c.noted.result c.noted.ensures.fault (λ one. c.in-Err.ensures.err) is))

pub invariant_of-self-2 : goal.invariant_of-self-2
invariant_of-self-2 c = λ whole. left-kept c.fail_copy.new.self c.self.inside.kept c.answer_due.new.self c.in_ok-answer_due.ensures.kept

pub returns-clause-ok : goal.returns-clause-ok
returns-clause-ok c =
    let old : Leader = record { start = c.self.inside.start; history = c.self.inside.history; copies = c.self.inside.copies; stale = c.self.inside.stale; now = c.self.inside.now; next_session = c.self.inside.sessions.next; sessions = c.self.inside.sessions.sessions; kept = c.self.inside.kept; polls = c.self.inside.polls } in
    subst (λ (l : Leader). leader_fail_copy l c.args.copy
    ≡ record { reply = replies.Done; next = record old { copies = c.fail_copy.new.self; stale = c.keep.new.self; kept = c.answer_due.new.self; polls = c.drop_copy.new.self }; sent = c.answer_due.new.sent }) c.self.view_is
    (left-done old c.args.copy c.in-Ok.left c.fail_copy.new.self c.keep.new.self c.drop_copy.new.self c.answer_due.new.self c.answer_due.new.sent c.in-Ok.ensures.left c.in-Ok.ensures.ok c.in_ok-keep.ensures
    (c.drop_copy.ensures ∙ ap (λ (n : ℕ). filter (λ (p : Poll). not (p.copy == n)) old.polls) c.number.ensures)
    (record { left = c.in_ok-answer_due.ensures.kept; told = c.in_ok-answer_due.ensures.sent ∙ ap (λ (ms : List Frame). ms ++ answers_due c.fail_copy.new.self old.kept) c.none-sent.ensures }))
