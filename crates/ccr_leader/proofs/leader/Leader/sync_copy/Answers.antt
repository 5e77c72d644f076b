use Rattle.std.proofs.Common.{◌≡◌, ◌++◌, List, sym, subst, ap, ◌∙◌}
use Rattle.ccr_wire.specs.Message.{Frame}
use Rattle.ccr_journal.specs.declared.replies.Reply.TheVariants as replies
use Rattle.ccr_model.specs.Outcomes.{Outcome}
use Rattle.ccr_model.specs.Copies.{replica_of}
use Rattle.ccr_model.specs.CopyRows.{sync_row}
use Rattle.ccr_model.specs.Leaders.{Leader}
use Rattle.ccr_model.specs.LeaderRows.{leader_sync}
use Rattle.ccr_copies.specs.Faults.{refusal_of as copy_refusal}
use Rattle.ccr_law_settling_grounds.specs.Parked.{AreKeptRightly}
use Rattle.ccr_leader.proofs.Due.{answers_due, kept-same, left-kept}
use Rattle.ccr_leader.proofs.Rows.{settled-done, sync-same}
use Rattle.ccr_leader.proofs.leader.Leader.sync_copy.Goals as goal

pub invariant_of-self : goal.invariant_of-self
invariant_of-self c =
    let kept : AreKeptRightly c.self.inside.copies c.self.inside.kept = subst (λ (l : Leader). AreKeptRightly l.copies l.kept) (sym c.self.view_is) c.in_ok-is_whole.ensures.ok in
    kept-same c.self.inside.copies c.sync_copy.new.self c.in-Err.fault c.noted.new.broken c.self.inside.kept
    (λ is. sync-same c.self.inside.copies c.sync_copy.new.self c.args.copy (replica_of c.self.inside.copies c.args.copy) (copy_refusal c.in-Err.fault) (c.in-Err.ensures.err is)) kept c.noted.ensures.broken

pub invariant_of-self-2 : goal.invariant_of-self-2
invariant_of-self-2 c = λ whole. left-kept c.sync_copy.new.self c.self.inside.kept c.answer_due.new.self c.in_ok-answer_due.ensures.kept

pub returns-clause-ok : goal.returns-clause-ok
returns-clause-ok c =
    let old : Leader = record { start = c.self.inside.start; history = c.self.inside.history; copies = c.self.inside.copies; stale = c.self.inside.stale; now = c.self.inside.now; next_session = c.self.inside.sessions.next; sessions = c.self.inside.sessions.sessions; kept = c.self.inside.kept; polls = c.self.inside.polls } in
    subst (λ (l : Leader). leader_sync l c.args.copy
    ≡ record { reply = replies.Done; next = record old { copies = c.sync_copy.new.self; kept = c.answer_due.new.self }; sent = c.answer_due.new.sent }) c.self.view_is
    (settled-done old (sync_row old.copies c.args.copy (replica_of old.copies c.args.copy)) c.sync_copy.new.self c.answer_due.new.self c.answer_due.new.sent c.in-Ok.ensures.ok
    (record { left = c.in_ok-answer_due.ensures.kept; told = c.in_ok-answer_due.ensures.sent ∙ ap (λ (ms : List Frame). ms ++ answers_due c.sync_copy.new.self old.kept) c.none-sent.ensures }))
