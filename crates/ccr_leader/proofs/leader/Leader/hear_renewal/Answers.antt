use Rattle.std.proofs.Common.{◌≡◌, refl, sym, subst}
use Rattle.ccr_lease.specs.Leases.{lease_of}
use Rattle.ccr_model.specs.Copies.{Copies}
use Rattle.ccr_model.specs.Leaders.{Leader}
use Rattle.ccr_model.specs.LeaderRows.{with_copies}
use Rattle.ccr_model.specs.LeaderFrames.{hears, lease_renew_row}
use Rattle.ccr_law_settling_grounds.specs.Parked.{AreKeptRightly}
use Rattle.ccr_leader.proofs.Settled.{kept-renewed}
use Rattle.ccr_leader.proofs.Asked.{renewed-told, low-told, unrenewed-told}
use Rattle.ccr_leader.proofs.leader.Leader.hear_renewal.Goals as goal

pub invariant_of-self-in-Ok : goal.invariant_of-self-in-Ok
invariant_of-self-in-Ok c = λ is.
    subst (λ (cs : Copies). AreKeptRightly cs c.self.inside.kept) (sym c.in-Ok.ensures.ok)
    (kept-renewed c.self.inside.copies c.args.id.now c.args.number c.self.inside.now c.self.inside.kept (subst (λ (l : Leader). AreKeptRightly l.copies l.kept) (sym c.self.view_is) c.requires))

pub returns-in_ok-told-in-Ok-clause-kept : goal.returns-in_ok-told-in-Ok-clause-kept
returns-in_ok-told-in-Ok-clause-kept c =
    subst (λ (cs : Copies). AreKeptRightly cs c.self.inside.kept) (sym c.in-Ok.ensures.ok)
    (kept-renewed c.self.inside.copies c.args.id.now c.args.number c.self.inside.now c.self.inside.kept (subst (λ (l : Leader). AreKeptRightly l.copies l.kept) (sym c.self.view_is) c.requires))

pub returns-in_ok-told-in-Ok-clause-ok : goal.returns-in_ok-told-in-Ok-clause-ok
returns-in_ok-told-in-Ok-clause-ok c =
    let old : Leader = record {
      start = c.self.inside.start;
      history = c.self.inside.history;
      copies = c.self.inside.copies;
      stale = c.self.inside.stale;
      now = c.self.inside.now;
      next_session = c.self.inside.sessions.next;
      sessions = c.self.inside.sessions.sessions;
      kept = c.self.inside.kept;
      polls = c.self.inside.polls;
    } in
    subst (λ (l : Leader). lease_renew_row l c.args.follower.now c.args.request c.args.id.now c.args.number (lease_of c.args.id.now l.copies.primary.leases.leases)
    ≡ hears c.in_ok-told-in-Ok.told.0 (with_copies old c.renew_lease.new.self) c.in_ok-told-in-Ok.told.1) c.self.view_is
    (renewed-told old c.args.follower.now c.args.request c.args.id.now c.args.number c.renew_lease.new.self c.in_ok-told-in-Ok.told.0 c.in_ok-told-in-Ok.told.1
    (c.in-Ok.ensures.told tt) c.in-Ok.ensures.ok c.in_ok-told-in-Ok.ensures.what c.in_ok-told-in-Ok.ensures.sent)

pub returns-in_ok-told-in-Err-LowNumber-clause-ok : goal.returns-in_ok-told-in-Err-LowNumber-clause-ok
returns-in_ok-told-in-Err-LowNumber-clause-ok c =
    let old : Leader = record {
      start = c.self.inside.start;
      history = c.self.inside.history;
      copies = c.self.inside.copies;
      stale = c.self.inside.stale;
      now = c.self.inside.now;
      next_session = c.self.inside.sessions.next;
      sessions = c.self.inside.sessions.sessions;
      kept = c.self.inside.kept;
      polls = c.self.inside.polls;
    } in
    subst (λ (l : Leader). lease_renew_row l c.args.follower.now c.args.request c.args.id.now c.args.number (lease_of c.args.id.now l.copies.primary.leases.leases)
    ≡ hears c.in_ok-told-in-Err-LowNumber.told.0 (with_copies old c.renew_lease.new.self) c.in_ok-told-in-Err-LowNumber.told.1) c.self.view_is
    (low-told old c.args.follower.now c.args.request c.args.id.now c.args.number c.in-Err-LowNumber.kept c.in-Err-LowNumber.field-0 c.renew_lease.new.self c.in_ok-told-in-Err-LowNumber.told.0 c.in_ok-told-in-Err-LowNumber.told.1
    c.in-Err-LowNumber.field-0-is c.in-Err-LowNumber.ensures.told c.in-Err-LowNumber.ensures.err c.in_ok-told-in-Err-LowNumber.ensures.what c.in_ok-told-in-Err-LowNumber.ensures.sent)

pub returns-in_ok-told-in-Err-NotFound-clause-ok : goal.returns-in_ok-told-in-Err-NotFound-clause-ok
returns-in_ok-told-in-Err-NotFound-clause-ok c =
    let old : Leader = record {
      start = c.self.inside.start;
      history = c.self.inside.history;
      copies = c.self.inside.copies;
      stale = c.self.inside.stale;
      now = c.self.inside.now;
      next_session = c.self.inside.sessions.next;
      sessions = c.self.inside.sessions.sessions;
      kept = c.self.inside.kept;
      polls = c.self.inside.polls;
    } in
    subst (λ (l : Leader). lease_renew_row l c.args.follower.now c.args.request c.args.id.now c.args.number (lease_of c.args.id.now l.copies.primary.leases.leases)
    ≡ hears c.in_ok-told-in-Err-NotFound.told.0 (with_copies old c.renew_lease.new.self) c.in_ok-told-in-Err-NotFound.told.1) c.self.view_is
    (unrenewed-told old c.args.follower.now c.args.request c.args.id.now c.args.number c.in-Err-NotFound.field-0 c.renew_lease.new.self c.in_ok-told-in-Err-NotFound.told.0 c.in_ok-told-in-Err-NotFound.told.1
    c.in-Err-NotFound.field-0-is c.in-Err-NotFound.ensures.told c.in-Err-NotFound.ensures.err c.in_ok-told-in-Err-NotFound.ensures.what c.in_ok-told-in-Err-NotFound.ensures.sent)
