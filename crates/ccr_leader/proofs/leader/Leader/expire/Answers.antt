use Rattle.std.proofs.Common.{◌≡◌, ℕ, List, sym, subst, ap, ◌∙◌}
use Rattle.ccr_lease.specs.declared.retention.Expired.{Expired}
use Rattle.ccr_lease.specs.Leases.{expired, after_expiry}
use Rattle.ccr_journal.specs.declared.replies.Reply.TheVariants as replies
use Rattle.ccr_model.specs.Outcomes.{answered}
use Rattle.ccr_model.specs.Copies.{Copies}
use Rattle.ccr_model.specs.Leaders.{Leader}
use Rattle.ccr_model.specs.LeaderRows.{leader_expire}
use Rattle.ccr_copies.specs.Changes.{with_leases}
use Rattle.ccr_law_settling_grounds.specs.Parked.{AreKeptRightly}
use Rattle.ccr_leader.proofs.Due.{kept-expired, on-either}
use Rattle.ccr_leader.proofs.Rows.{expired-done}
use Rattle.ccr_leader.proofs.leader.Leader.expire.Goals as goal

pub invariant_of-self : goal.invariant_of-self
invariant_of-self c = λ whole.
    let old : Leader = record { start = c.self.inside.start; history = c.self.inside.history; copies = c.self.inside.copies; stale = c.self.inside.stale; now = c.self.inside.now; next_session = c.self.inside.sessions.next; sessions = c.self.inside.sessions.sessions; kept = c.self.inside.kept; polls = c.self.inside.polls } in
    let kept : AreKeptRightly old.copies old.kept = c.self.invariant whole in
    on-either c.expire_leases.result c.expire_leases.ensures.ok c.expire_leases.ensures.err
    (λ is. kept-expired old old.now c.lease_period-period.result c.expire_leases.new.self is kept)
    (λ same. subst (λ (s : Copies). AreKeptRightly s old.kept) (sym same) kept)

pub invariant_of-self-2 : goal.invariant_of-self-2
invariant_of-self-2 c = λ whole.
    let old : Leader = record { start = c.self.inside.start; history = c.self.inside.history; copies = c.self.inside.copies; stale = c.self.inside.stale; now = c.self.inside.now; next_session = c.self.inside.sessions.next; sessions = c.self.inside.sessions.sessions; kept = c.self.inside.kept; polls = c.self.inside.polls } in
    let kept : AreKeptRightly old.copies old.kept = c.self.invariant whole in
    on-either c.expire_leases.result c.expire_leases.ensures.ok c.expire_leases.ensures.err
    (λ is. kept-expired old old.now c.lease_period-period.result c.expire_leases.new.self is kept)
    (λ same. subst (λ (s : Copies). AreKeptRightly s old.kept) (sym same) kept)

pub returns-clause-ok : goal.returns-clause-ok
returns-clause-ok c =
    let old : Leader = record { start = c.self.inside.start; history = c.self.inside.history; copies = c.self.inside.copies; stale = c.self.inside.stale; now = c.self.inside.now; next_session = c.self.inside.sessions.next; sessions = c.self.inside.sessions.sessions; kept = c.self.inside.kept; polls = c.self.inside.polls } in
    let own : c.lease_period-period.result ≡ old.start.period = c.lease_period-period.ensures ∙ ap (λ (l : Leader). l.start.period) (sym c.self.view_is) in
    subst (λ (l : Leader). leader_expire l ≡ answered (replies.Expired c.new.result) (record old { copies = c.expire_leases.new.self })) c.self.view_is
    (expired-done old c.expire_leases.new.self c.new.result
    (c.new.ensures ∙ (c.in_ok-list.ensures.told ∙ ap (λ (p : ℕ). expired old.now p old.copies.primary.leases.leases) own))
    (c.in_ok-list.ensures.ok ∙ ap (λ (p : ℕ). with_leases old.copies (after_expiry old.now p old.copies.primary.leases)) own))
