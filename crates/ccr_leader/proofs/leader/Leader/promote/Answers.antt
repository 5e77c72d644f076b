use Rattle.std.proofs.Common.{◌≡◌, sym, subst, ap, ◌∙◌}
use Rattle.ccr_journal.specs.declared.replies.Reply.TheVariants as replies
use Rattle.ccr_model.specs.Outcomes.{answered, refused}
use Rattle.ccr_model.specs.Copies.{Copy, replica_of}
use Rattle.ccr_model.specs.Leaders.{Leader}
use Rattle.ccr_model.specs.LeaderRows.{leader_promote}
use Rattle.ccr_copies.specs.Changes.{leader_copies_promote_row}
use Rattle.ccr_copies.specs.Faults.{refusal_of as copy_refusal}
use Rattle.ccr_law_settling_grounds.specs.Parked.{AreKeptRightly}
use Rattle.ccr_leader.specs.Faults.{refusal_of}
use Rattle.ccr_leader.proofs.Due.{kept-same}
use Rattle.ccr_leader.proofs.Rows.{told-down, promoted-all, promotion-down, promotion-same}
use Rattle.ccr_leader.proofs.leader.Leader.promote.Goals as goal

pub invariant_of-self-in-Err : goal.invariant_of-self-in-Err
invariant_of-self-in-Err c =
    let kept : AreKeptRightly c.self.inside.copies c.self.inside.kept = subst (λ (l : Leader). AreKeptRightly l.copies l.kept) (sym c.self.view_is) c.in_ok-is_whole.ensures.ok in
    kept-same c.self.inside.copies c.promote_leader.new.self c.in-Err.fault c.noted.new.broken c.self.inside.kept
    (λ is. promotion-same c.self.inside.copies c.promote_leader.new.self c.args.copy (replica_of c.self.inside.copies c.args.copy) (copy_refusal c.in-Err.fault) (c.in-Err.ensures.err is)) kept c.noted.ensures.broken

pub returns-in-Ok-clause-ok : goal.returns-in-Ok-clause-ok
returns-in-Ok-clause-ok c =
    let old : Leader = record { start = c.self.inside.start; history = c.self.inside.history; copies = c.self.inside.copies; stale = c.self.inside.stale; now = c.self.inside.now; next_session = c.self.inside.sessions.next; sessions = c.self.inside.sessions.sessions; kept = c.self.inside.kept; polls = c.self.inside.polls } in
    subst (λ (l : Leader). leader_promote l c.args.copy
    ≡ answered (replies.Promoted c.in-Ok.told.0 c.in-Ok.told.1)
    (record old { copies = c.promote_leader.new.self; next_session = c.end_all.new.self.next; sessions = c.end_all.new.self.sessions; kept = c.clear.new.self; polls = c.drop_copy.new.self })) c.self.view_is
    (promoted-all old c.args.copy c.in-Ok.told.0 c.in-Ok.told.1 c.number-lost.result (replica_of old.copies c.args.copy) c.promote_leader.new.self c.end_all.new.self c.clear.new.self c.drop_copy.new.self
    c.in-Ok.ensures.ok c.end_all.ensures c.clear.ensures (c.number-lost.ensures ∙ ap (λ (x : Copy). x.number) c.primary.ensures) c.drop_copy.ensures)

pub returns-in-Err-clause-err : goal.returns-in-Err-clause-err
returns-in-Err-clause-err c = λ is.
    let old : Leader = record { start = c.self.inside.start; history = c.self.inside.history; copies = c.self.inside.copies; stale = c.self.inside.stale; now = c.self.inside.now; next_session = c.self.inside.sessions.next; sessions = c.self.inside.sessions.sessions; kept = c.self.inside.kept; polls = c.self.inside.polls } in
    subst (λ (l : Leader). leader_promote l c.args.copy ≡ refused (record old { copies = c.promote_leader.new.self }) (refusal_of c.noted.result)) c.self.view_is
    (promotion-down old c.args.copy (replica_of old.copies c.args.copy) c.promote_leader.new.self (refusal_of c.noted.result)
    (told-down (leader_copies_promote_row old.copies c.args.copy (replica_of old.copies c.args.copy)) c.promote_leader.new.self c.in-Err.fault c.noted.result c.noted.ensures.fault c.in-Err.ensures.err is))
