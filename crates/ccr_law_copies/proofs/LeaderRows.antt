-- What each event of the leader's side makes of the claims on its copies and its line.
use Rattle.std.specs.List.{fold}
use Rattle.std.proofs.Common.{◌≡◌, ℕ, ◌+◌, ◌-◌, ◌<◌, ◌≤◌, ◌==◌, ◌||◌, max, Bool, true, false, nat_lt, if◌then◌else◌, Option, Some, None, List, [], ◌∷◌, ◌++◌, map, length, slice_get, refl, sym, ◌∙◌, ap, subst, arith}
use Rattle.std.proofs.lemmas.Bool.Decides.{nat_tests}
use Rattle.ccr_op.specs.Operation.{Operation}
use Rattle.ccr_op.specs.declared.operation.Kind.TheVariants.{NoOp}
use Rattle.ccr_tracker.specs.Numbers.{Numbers, has, marked}
use Rattle.ccr_lease.specs.Leases.{supersedes}
use Rattle.ccr_doc.specs.declared.sources.BadSource.{BadSource as SourceFault}
use Rattle.ccr_journal.specs.declared.requests.WriteRequest.{WriteRequest}
use Rattle.ccr_journal.specs.declared.sides.Side.TheVariants as sides
use Rattle.ccr_journal.specs.declared.events.Event.{Event}
use Rattle.ccr_journal.specs.declared.events.Event.TheVariants as events
use Rattle.ccr_model.specs.Outcomes.{Outcome, within}
use Rattle.ccr_model.specs.Operations.{op_at}
use Rattle.ccr_model.specs.Stores.{Store, held, flushed, merged}
use Rattle.ccr_model.specs.Copies.{Copy, Replica, Copies, replica_in_step, replica_of, replaced, without, changed_replica, changed_at, least_known, taking, knowing}
use Rattle.ccr_model.specs.CopyRows.{replicate_row, ack_row, sync_row, fail_copy_row, add_copy_row, flush_row, merge_row, merge_bound, risen_floor, succeeded, unknown}
use Rattle.ccr_model.specs.Given.{gave, gaining, plugged, joined_at, listed}
use Rattle.ccr_model.specs.LeaderRows.{with_copies, write_row, wrote_at, written_operation, filled, as_primary, missing_numbers, end_of, resync_mark, resynced_copy, expire_row, leader_promote_row, force_promote_row, resync_row, leader_fail_copy_row, settling_requests}
use Rattle.ccr_model.specs.World.{State, at_leader}
use Rattle.ccr_model.specs.Past.{Line, Past, past_with, no_line, rewritten, end_of_replica, end_of_stale, resync_given}
use Rattle.ccr_model.specs.Leaders.{stale_of}
use Rattle.ccr_law_base.proofs.Cases.{on_if, on_guards}
use Rattle.ccr_law_copies.specs.Cores.{PrimaryOk, IsReplica, Uncounted, Core, CoreOf, IsLiving, StaleOk, AreStaleOf}
use Rattle.ccr_law_base.proofs.Lists.{All-weaker, All-both, All-push, All-map, All-replaced, All-without, All-find, All-changed}
use Rattle.ccr_law_copies.proofs.Replicas.{gave-same, gave-other, given-aside, replaced-alone, Apart-replaced, Apart-without, others-without, Apart-map, Apart-push, Apart-changed, least_known-primary, least_known-each, least_known-replaced, least_known-changed}
use Rattle.ccr_law_copies.proofs.CopyChanges.{some-of, some-within, replica-raised, primary-longer, replica-longer, replica-takes, replica-acked, replica-knowing, primary-promoted, replica-stale, replica-resynced, replica-next, replica-new}
use Rattle.ccr_law_copies.proofs.Sets.{or_false}
use Rattle.std.proofs.lemmas.Bool.{not-false, eqb-true}
use Rattle.ccr_law_base.proofs.Tests.{itself}

-- the claims after an event, where this is what it comes to
abbrev pub CoreAfter : Past → Event → Outcome State → Type 0
CoreAfter p event o = IsLiving (past_with p (record { event = event; reply = o.reply }) o)

-- an outcome of the copies, as one of the world
abbrev pub at_copies : Past → Outcome Copies → Outcome State
at_copies p o = at_leader p.state (within (with_copies p.state.leader) o)

-- the same, where the requests that are due are answered
abbrev pub at_copies_settling : Past → Outcome Copies → Outcome State
at_copies_settling p o = at_leader p.state (settling_requests (within (with_copies p.state.leader) o))

abbrev pub cut_at : Line → ℕ → Line
cut_at line global = record { ops = line.ops; cut = max line.cut global }

-- ---- what stays

-- the primary's count is not above the cut, so the cut stays
pub quiet : (line : Line) (given : ℕ → ℕ → Option Operation) (s : Copies) → CoreOf line given s → CoreOf (cut_at line s.primary.global) given s
quiet line given s core =
    let same : max line.cut s.primary.global ≡ line.cut = (let low : s.primary.global ≤ line.cut = core.rest.primary.known in omega arith) in
    subst (λ (cut : ℕ). CoreOf (record { ops = line.ops; cut = cut }) given s) (sym same) core

pub quietly : (line : Line) (given : ℕ → ℕ → Option Operation) (number : ℕ) (seen : Numbers) (global : ℕ) (replicas : List Replica) (next : ℕ)
    → Core line given number seen global replicas next → Core (cut_at line global) given number seen global replicas next
quietly line given number seen global replicas next core =
    let same : max line.cut global ≡ line.cut = (let low : global ≤ line.cut = core.rest.primary.known in omega arith) in
    subst (λ (cut : ℕ). Core (record { ops = line.ops; cut = cut }) given number seen global replicas next) (sym same) core

-- ---- the global count is worked out again

pub recounted : (line : Line) (given : ℕ → ℕ → Option Operation) (number : ℕ) (seen : Numbers) (global : ℕ) (replicas : List Replica) (next : ℕ)
    → Uncounted line given number seen global replicas next
    → Core (cut_at line (max global (least_known seen.count replicas))) given number seen (max global (least_known seen.count replicas)) replicas next
recounted line given number seen global replicas next ok = record {
  rest = record {
    old = ok.old;
    primary = record {
      given = ok.primary.given;
      gapless = ok.primary.gapless;
      full =
          let low : global ≤ line.cut = ok.primary.known in
          let full : line.cut ≤ length line.ops = ok.primary.full in
          let count : seen.count ≡ length line.ops = ap (λ (s : Numbers). s.count) ok.primary.gapless in
          omega (arith, least_known-primary seen.count replicas);
      known = omega arith;
      numbered = ok.primary.numbered;
    };
    replicas_ok = All-weaker
        (λ (r : Replica). IsReplica line number next (given r.copy.number) r × (least_known seen.count replicas ≤ r.known))
        (λ (r : Replica). IsReplica (cut_at line (max global (least_known seen.count replicas))) number next (given r.copy.number) r)
        (λ r both. replica-raised line number next (given r.copy.number) r.copy.number r.copy.seen r.copy.global r.known r.resynced r.acked global (least_known seen.count replicas)
        ok.primary.known both.1 both.0)
        replicas
        (All-both (λ (r : Replica). IsReplica line number next (given r.copy.number) r) (λ (r : Replica). least_known seen.count replicas ≤ r.known)
        replicas ok.replicas_ok (least_known-each seen.count replicas));
    apart = ok.apart;
  };
  counted = omega arith;
}

-- ---- look-ups

-- the primary was given what it has processed, and it is the line's
pub primary_has : (line : Line) (ops : ℕ → Option Operation) (seen : Numbers) (global n : ℕ) → PrimaryOk line ops seen global → has seen n ≡ true
    → (op : Operation) × (ops n ≡ Some op) × (slice_get line.ops n ≡ Some op)
primary_has line ops seen global n ok there =
    let inside : has seen n ≡ (nat_lt n (length line.ops) || false) = ap (λ (s : Numbers). has s n) ok.gapless in
    let at : (op : Operation) × (slice_get line.ops n ≡ Some op) = some-of (slice_get line.ops n) (some-within line.ops n ∙ (or_false (nat_lt n (length line.ops)) ∙ (sym inside ∙ there))) in
    (at.0, ok.given n ∙ at.1, at.1)

-- a replica that was found
pub record Found (line : Line) (given : ℕ → ℕ → Option Operation) (primary next copy : ℕ) (r : Replica) : Type 0 where
  pub number : r.copy.number ≡ copy
  pub other : (copy == primary) ≡ false
  pub replica : IsReplica line primary next (given copy) r

pub found_in : (line : Line) (given : ℕ → ℕ → Option Operation) (s : Copies) (copy : ℕ) (r : Replica) → CoreOf line given s → replica_of s copy ≡ Some r
    → Found line given s.primary.number s.next copy r
found_in line given s copy r core found =
    let both : IsReplica line s.primary.number s.next (given r.copy.number) r × ((r.copy.number == copy) ≡ true)
    = All-find (λ (x : Replica). IsReplica line s.primary.number s.next (given x.copy.number) x) (λ x. x.copy.number == copy) s.replicas r core.rest.replicas_ok found in
    let same : r.copy.number ≡ copy = eqb-true r.copy.number copy both.1 in
    record {
      number = same;
      other = subst (λ (k : ℕ). (k == s.primary.number) ≡ false) same both.0.other;
      replica = subst (λ (k : ℕ). IsReplica line s.primary.number s.next (given k) r) same both.0;
    }

-- ---- writes

pub written : (line : Line) (given : ℕ → ℕ → Option Operation) (number : ℕ) (seen : Numbers) (global : ℕ) (replicas : List Replica) (next : ℕ) (op : Operation)
    → op.seq ≡ seen.count → Uncounted line given number seen global replicas next
    → Uncounted (record { ops = line.ops ++ op ∷ []; cut = line.cut }) (gave given number (gaining (given number) op.seq (Some op))) number (marked seen op.seq) global replicas next
written line given number seen global replicas next op seq ok = record {
  old = ok.old;
  primary = subst (λ (ops : ℕ → Option Operation). PrimaryOk (record { ops = line.ops ++ op ∷ []; cut = line.cut }) ops (marked seen op.seq) global)
      (sym (gave-same given number (gaining (given number) op.seq (Some op)) number (itself number)))
      (primary-longer line (given number) seen global op seq ok.primary);
  replicas_ok = given-aside (λ o r. IsReplica line number next o r) (λ o r. IsReplica (record { ops = line.ops ++ op ∷ []; cut = line.cut }) number next o r)
      given number (gaining (given number) op.seq (Some op))
      (λ o r is. replica-longer line number next o r.copy.number r.copy.seen r.copy.global r.known r.resynced r.acked (op ∷ []) ok.primary.full is)
      replicas
      (All-weaker (λ (r : Replica). IsReplica line number next (given r.copy.number) r) (λ (r : Replica). (r.copy.number == number) ≡ false) (λ r is. is.other) replicas ok.replicas_ok)
      ok.replicas_ok;
  apart = ok.apart;
}

pub write_keeps : (p : Past) (request : WriteRequest) (fault : Option SourceFault) (found : Option Operation) → IsLiving p
    → CoreAfter p (events.Write request) (at_copies p (write_row p.state.leader.copies request fault found))
unfolding write_row
write_keeps p request (Some fault) found core = quiet p.line p.given p.state.leader.copies core
write_keeps p request None found core =
    on_guards (λ (o : Outcome Copies). CoreAfter p (events.Write request) (at_copies p o)) p.state.leader.copies _ _
    (λ why. quiet p.line p.given p.state.leader.copies core)
    (λ tests.
    let s = p.state.leader.copies in
    let op = written_operation request (wrote_at s request found) in
    recounted (record { ops = p.line.ops ++ op ∷ []; cut = p.line.cut }) (gave p.given s.primary.number (gaining (p.given s.primary.number) op.seq (Some op)))
    s.primary.number (marked s.primary.seen op.seq) s.primary.global s.replicas s.next
    (written p.line p.given s.primary.number s.primary.seen s.primary.global s.replicas s.next op refl core.rest))

-- ---- replications

-- one replica changed, which keeps its number and its known count, and it was given these operations
pub one_changed : (line : Line) (given : ℕ → ℕ → Option Operation) (s : Copies) (copy : ℕ) (r new : Replica) (ops : ℕ → Option Operation)
    → CoreOf line given s → replica_of s copy ≡ Some r → new.copy.number ≡ r.copy.number → new.known ≡ r.known
    → IsReplica line s.primary.number s.next ops new
    → Core line (gave given copy ops) s.primary.number s.primary.seen s.primary.global (replaced copy new s.replicas) s.next
one_changed line given s copy r new ops core found number known ok =
    let is : Found line given s.primary.number s.next copy r = found_in line given s copy r core found in
    record {
      rest = record {
        old = core.rest.old;
        primary = subst (λ (o : ℕ → Option Operation). PrimaryOk line o s.primary.seen s.primary.global)
            (sym (gave-other given copy ops s.primary.number (grind (arith, nat_tests, is.other)))) core.rest.primary;
        replicas_ok = replaced-alone (λ o x. IsReplica line s.primary.number s.next o x) (λ o x. IsReplica line s.primary.number s.next o x) given copy ops new
            (number ∙ is.number) ok (λ o x h. h) s.replicas core.rest.apart core.rest.replicas_ok;
        apart = Apart-replaced copy new s.replicas (number ∙ is.number) core.rest.apart;
      };
      counted = subst (λ (k : ℕ). k ≤ s.primary.global) (sym (least_known-replaced s.primary.seen.count copy r new s.replicas found known)) core.counted;
    }

-- one replica changed, which keeps its number, and nothing was given
pub one_replaced : (line : Line) (given : ℕ → ℕ → Option Operation) (s : Copies) (copy : ℕ) (r new : Replica)
    → CoreOf line given s → replica_of s copy ≡ Some r → new.copy.number ≡ r.copy.number
    → (Found line given s.primary.number s.next copy r → IsReplica line s.primary.number s.next (given copy) new)
    → Uncounted line given s.primary.number s.primary.seen s.primary.global (replaced copy new s.replicas) s.next
one_replaced line given s copy r new core found number made =
    let is : Found line given s.primary.number s.next copy r = found_in line given s copy r core found in
    record {
      old = core.rest.old;
      primary = core.rest.primary;
      replicas_ok = All-replaced (λ (x : Replica). IsReplica line s.primary.number s.next (given x.copy.number) x) copy new s.replicas
          (subst (λ (k : ℕ). IsReplica line s.primary.number s.next (given k) new) (sym (number ∙ is.number)) (made is)) core.rest.replicas_ok;
      apart = Apart-replaced copy new s.replicas (number ∙ is.number) core.rest.apart;
    }

pub replicate_keeps : (p : Past) (copy seq : ℕ) (found : Option Replica) → replica_of p.state.leader.copies copy ≡ found → IsLiving p
    → CoreAfter p (events.Replicate sides.Leader copy seq) (at_copies p (replicate_row p.state.leader.copies copy seq found))
unfolding replicate_row
replicate_keeps p copy seq None is core = quiet p.line p.given p.state.leader.copies core
replicate_keeps p copy seq (Some r) is core =
    on_guards (λ (o : Outcome Copies). CoreAfter p (events.Replicate sides.Leader copy seq) (at_copies p o)) p.state.leader.copies _ _
    (λ why. quiet p.line p.given p.state.leader.copies core)
    (λ tests. replicated p copy seq r is core (not-false (has p.state.leader.copies.primary.seen seq) tests.1.0))
  where
    replicated : (p : Past) (copy seq : ℕ) (r : Replica) → replica_of p.state.leader.copies copy ≡ Some r → IsLiving p → has p.state.leader.copies.primary.seen seq ≡ true
        → Core (cut_at p.line p.state.leader.copies.primary.global) (gave p.given copy (gaining (p.given copy) seq (p.given p.state.leader.copies.primary.number seq)))
        p.state.leader.copies.primary.number p.state.leader.copies.primary.seen p.state.leader.copies.primary.global
        (replaced copy (record r { copy = knowing p.state.leader.copies.primary.global (taking r.copy seq (op_at seq (held p.state.leader.copies.primary.store))) })
        p.state.leader.copies.replicas)
        p.state.leader.copies.next
    replicated p copy seq r is core there =
        let s = p.state.leader.copies in
        let f : Found p.line p.given s.primary.number s.next copy r = found_in p.line p.given s copy r core is in
        let at : (op : Operation) × (p.given s.primary.number seq ≡ Some op) × (slice_get p.line.ops seq ≡ Some op)
        = primary_has p.line (p.given s.primary.number) s.primary.seen s.primary.global seq core.rest.primary there in
        let new : Replica = record r { copy = knowing s.primary.global (taking r.copy seq (op_at seq (held s.primary.store))) } in
        subst (λ (o : Option Operation). Core (cut_at p.line s.primary.global) (gave p.given copy (gaining (p.given copy) seq o))
        s.primary.number s.primary.seen s.primary.global (replaced copy new s.replicas) s.next) (sym at.1)
        (quietly p.line (gave p.given copy (gaining (p.given copy) seq (Some at.0))) s.primary.number s.primary.seen s.primary.global (replaced copy new s.replicas) s.next
        (one_changed p.line p.given s copy r new (gaining (p.given copy) seq (Some at.0)) core is refl refl
        (replica-takes p.line s.primary.number s.next (p.given copy) r.copy.number r.copy.seen r.copy.global r.known r.resynced r.acked s.primary.global seq at.0
        core.rest.primary.known at.2 (core.rest.primary.numbered seq at.0 at.2) f.replica)))

-- ---- acks and syncs

-- one replica changed, which keeps its number and its known count, and nothing was given
pub one_kept : (line : Line) (given : ℕ → ℕ → Option Operation) (s : Copies) (copy : ℕ) (r new : Replica)
    → CoreOf line given s → replica_of s copy ≡ Some r → new.copy.number ≡ r.copy.number → new.known ≡ r.known
    → (Found line given s.primary.number s.next copy r → IsReplica line s.primary.number s.next (given copy) new)
    → Core (cut_at line s.primary.global) given s.primary.number s.primary.seen s.primary.global (replaced copy new s.replicas) s.next
one_kept line given s copy r new core found number known made =
    quietly line given s.primary.number s.primary.seen s.primary.global (replaced copy new s.replicas) s.next record {
      rest = one_replaced line given s copy r new core found number made;
      counted = subst (λ (k : ℕ). k ≤ s.primary.global) (sym (least_known-replaced s.primary.seen.count copy r new s.replicas found known)) core.counted;
    }

pub ack_keeps : (p : Past) (copy : ℕ) (found : Option Replica) → replica_of p.state.leader.copies copy ≡ found → IsLiving p
    → CoreAfter p (events.Ack sides.Leader copy) (at_copies p (ack_row p.state.leader.copies copy found))
unfolding ack_row
ack_keeps p copy None is core = quiet p.line p.given p.state.leader.copies core
ack_keeps p copy (Some r) is core =
    on_guards (λ (o : Outcome Copies). CoreAfter p (events.Ack sides.Leader copy) (at_copies p o)) p.state.leader.copies _ _
    (λ why. quiet p.line p.given p.state.leader.copies core)
    (λ tests.
    let s = p.state.leader.copies in
    let new : Replica = record r { known = r.copy.seen.count; acked = true } in
    recounted p.line p.given s.primary.number s.primary.seen s.primary.global (replaced copy new s.replicas) s.next
    (one_replaced p.line p.given s copy r new core is refl (λ f.
    replica-acked p.line s.primary.number s.next (p.given copy) r.copy.number r.copy.seen r.copy.global r.known r.resynced r.acked
    core.rest.primary.full (not-false r.resynced tests.0) f.replica)))

pub sync_keeps : (p : Past) (copy : ℕ) (found : Option Replica) → replica_of p.state.leader.copies copy ≡ found → IsLiving p
    → CoreAfter p (events.Sync sides.Leader copy) (at_copies_settling p (sync_row p.state.leader.copies copy found))
unfolding sync_row
sync_keeps p copy None is core = quiet p.line p.given p.state.leader.copies core
sync_keeps p copy (Some r) is core =
    on_guards (λ (o : Outcome Copies). CoreAfter p (events.Sync sides.Leader copy) (at_copies_settling p o)) p.state.leader.copies _ _
    (λ why. quiet p.line p.given p.state.leader.copies core)
    (λ tests.
    let s = p.state.leader.copies in
    on_if (λ (c : Copy). Core (cut_at p.line s.primary.global) p.given s.primary.number s.primary.seen s.primary.global
    (replaced copy (record r { copy = c }) s.replicas) s.next)
    (supersedes s.primary.leases r.copy.leases) (record (knowing s.primary.global r.copy) { leases = s.primary.leases }) (knowing s.primary.global r.copy)
    (λ newer. one_kept p.line p.given s copy r (record r { copy = record (knowing s.primary.global r.copy) { leases = s.primary.leases } }) core is refl refl (λ f.
    replica-knowing p.line s.primary.number s.next (p.given copy) r.copy.number r.copy.seen r.copy.global r.known r.resynced r.acked s.primary.global
    core.rest.primary.known f.replica))
    (λ older. one_kept p.line p.given s copy r (record r { copy = knowing s.primary.global r.copy }) core is refl refl (λ f.
    replica-knowing p.line s.primary.number s.next (p.given copy) r.copy.number r.copy.seen r.copy.global r.known r.resynced r.acked s.primary.global
    core.rest.primary.known f.replica)))

-- ---- promotions

-- the no-ops that fill a copy's gaps change only what it has processed and what it holds
pub filled_is : (term : ℕ) (ns : List ℕ) (c : Copy) → filled term ns c ≡ record c { seen = fold {A = ℕ} {B = Numbers} marked c.seen ns; store = (filled term ns c).store }
filled_is term [] c = refl
filled_is term (n ∷ ns) c = filled_is term ns (taking c n (Some record { seq = n; term = term; version = 0; kind = NoOp }))

pub promoted : (line : Line) (given : ℕ → ℕ → Option Operation) (s : Copies) (copy : ℕ) (r : Replica) (term : ℕ)
    → CoreOf line given s → replica_of s copy ≡ Some r
    → Uncounted (record { ops = rewritten line (plugged (given copy) term (end_of r.copy.seen)) (end_of r.copy.seen); cut = line.cut })
    (gave given copy (plugged (given copy) term (end_of r.copy.seen)))
    copy (fold {A = ℕ} {B = Numbers} marked r.copy.seen (missing_numbers r.copy.seen)) r.copy.global
    (map {A = Replica} {B = Replica} unknown (without copy s.replicas)) s.next
promoted line given s copy r term core found =
    let f : Found line given s.primary.number s.next copy r = found_in line given s copy r core found in
    let own : ℕ → Option Operation = plugged (given copy) term (end_of r.copy.seen) in
    let new : Line = record { ops = rewritten line own (end_of r.copy.seen); cut = line.cut } in
    record {
      old = subst (λ (k : ℕ). k < s.next) f.number f.replica.old;
      primary = subst (λ (o : ℕ → Option Operation). PrimaryOk new o (fold {A = ℕ} {B = Numbers} marked r.copy.seen (missing_numbers r.copy.seen)) r.copy.global)
          (sym (gave-same given copy own copy (itself copy)))
          (primary-promoted line s.primary.number s.next (given copy) r.copy.number r.copy.seen r.copy.global r.known r.resynced r.acked term core.rest.primary.full f.replica);
      replicas_ok = All-map (λ (x : Replica). IsReplica new copy s.next (gave given copy own x.copy.number) x) unknown (without copy s.replicas)
          (All-weaker
          (λ (x : Replica). IsReplica line s.primary.number s.next (given x.copy.number) x × ((x.copy.number == copy) ≡ false))
          (λ (x : Replica). IsReplica new copy s.next (gave given copy own x.copy.number) (unknown x))
          (λ x both. subst (λ (o : ℕ → Option Operation). IsReplica new copy s.next o (unknown x)) (sym (gave-other given copy own x.copy.number both.1))
          (replica-stale line s.primary.number s.next (given x.copy.number) x.copy.number x.copy.seen x.copy.global x.known x.resynced x.acked copy
          (listed own line.cut (end_of r.copy.seen - line.cut)) core.rest.primary.full both.1 both.0))
          (without copy s.replicas)
          (All-both (λ (x : Replica). IsReplica line s.primary.number s.next (given x.copy.number) x) (λ (x : Replica). (x.copy.number == copy) ≡ false) (without copy s.replicas)
          (All-without (λ (x : Replica). IsReplica line s.primary.number s.next (given x.copy.number) x) copy s.replicas core.rest.replicas_ok)
          (others-without copy s.replicas core.rest.apart)));
      apart = Apart-map unknown (λ x. refl) (without copy s.replicas) (Apart-without copy s.replicas core.rest.apart);
    }

-- the claims after a promotion: `own` are the operations of the new primary, and `at` is the replica as it was found
abbrev pub AfterPromotion : Past → ℕ → Option Replica → (ℕ → Option Operation) → Copy → Type 0
AfterPromotion p copy at own primary =
    CoreOf (cut_at (record { ops = rewritten p.line own (end_of_replica at); cut = p.line.cut }) (succeeded p.state.leader.copies copy primary unknown).primary.global)
    (gave p.given copy (plugged (p.given copy) (p.state.leader.copies.term + 1) (end_of_replica at)))
    (succeeded p.state.leader.copies copy primary unknown)

pub promote_keeps : (p : Past) (copy : ℕ) (found : Option Replica) → replica_of p.state.leader.copies copy ≡ found → IsLiving p
    → CoreAfter p (events.Promote sides.Leader copy) (at_leader p.state (leader_promote_row p.state.leader copy found))
unfolding leader_promote_row
promote_keeps p copy None is core = quiet p.line p.given p.state.leader.copies core
promote_keeps p copy (Some r) is core =
    let s = p.state.leader.copies in
    subst (λ (o : Option Replica). AfterPromotion p copy o (gave p.given copy (plugged (p.given copy) (s.term + 1) (end_of_replica o)) copy) (as_primary (s.term + 1) r.copy)) (sym is)
    (subst (λ (f : ℕ → Option Operation). AfterPromotion p copy (Some r) f (as_primary (s.term + 1) r.copy))
    (sym (gave-same p.given copy (plugged (p.given copy) (s.term + 1) (end_of r.copy.seen)) copy (itself copy)))
    (subst (λ (c : Copy). AfterPromotion p copy (Some r) (plugged (p.given copy) (s.term + 1) (end_of r.copy.seen)) (record c { leases = record c.leases { term = s.term + 1 } }))
    (sym (filled_is (s.term + 1) (missing_numbers r.copy.seen) r.copy))
    (done p.line p.given s copy r (s.term + 1) core is)))
  where
    done : (line : Line) (given : ℕ → ℕ → Option Operation) (s : Copies) (copy : ℕ) (r : Replica) (term : ℕ) → CoreOf line given s → replica_of s copy ≡ Some r
        → Core (cut_at (record { ops = rewritten line (plugged (given copy) term (end_of r.copy.seen)) (end_of r.copy.seen); cut = line.cut })
        (max r.copy.global (least_known (fold {A = ℕ} {B = Numbers} marked r.copy.seen (missing_numbers r.copy.seen)).count (map {A = Replica} {B = Replica} unknown (without copy s.replicas)))))
        (gave given copy (plugged (given copy) term (end_of r.copy.seen)))
        r.copy.number (fold {A = ℕ} {B = Numbers} marked r.copy.seen (missing_numbers r.copy.seen))
        (max r.copy.global (least_known (fold {A = ℕ} {B = Numbers} marked r.copy.seen (missing_numbers r.copy.seen)).count (map {A = Replica} {B = Replica} unknown (without copy s.replicas))))
        (map {A = Replica} {B = Replica} unknown (without copy s.replicas)) s.next
    done line given s copy r term core found =
        let f : Found line given s.primary.number s.next copy r = found_in line given s copy r core found in
        recounted (record { ops = rewritten line (plugged (given copy) term (end_of r.copy.seen)) (end_of r.copy.seen); cut = line.cut })
        (gave given copy (plugged (given copy) term (end_of r.copy.seen)))
        r.copy.number (fold {A = ℕ} {B = Numbers} marked r.copy.seen (missing_numbers r.copy.seen)) r.copy.global
        (map {A = Replica} {B = Replica} unknown (without copy s.replicas)) s.next
        (subst (λ (k : ℕ). Uncounted (record { ops = rewritten line (plugged (given copy) term (end_of r.copy.seen)) (end_of r.copy.seen); cut = line.cut })
        (gave given copy (plugged (given copy) term (end_of r.copy.seen)))
        k (fold {A = ℕ} {B = Numbers} marked r.copy.seen (missing_numbers r.copy.seen)) r.copy.global
        (map {A = Replica} {B = Replica} unknown (without copy s.replicas)) s.next)
        (sym f.number) (promoted line given s copy r term core found))

-- ---- resyncs

pub resync_keeps : (p : Past) (copy : ℕ) (found : Option Replica) → replica_of p.state.leader.copies copy ≡ found → IsLiving p
    → CoreAfter p (events.Resync copy) (at_copies p (resync_row p.state.leader.copies copy found))
unfolding resync_row
resync_keeps p copy None is core = quiet p.line p.given p.state.leader.copies core
resync_keeps p copy (Some r) is core =
    let s = p.state.leader.copies in
    on_if (λ (o : Outcome Copies). CoreAfter p (events.Resync copy) (at_copies p o)) r.resynced _ _
    (λ was. subst (λ (o : Option Replica). Core (cut_at p.line s.primary.global) (resync_given p.state.leader p.given copy o)
    s.primary.number s.primary.seen s.primary.global s.replicas s.next) (sym is)
    (subst (λ (b : Bool). Core (cut_at p.line s.primary.global)
    (if b then p.given else gave p.given copy (joined_at (resync_mark s r) (p.given copy) (p.given s.primary.number)))
    s.primary.number s.primary.seen s.primary.global s.replicas s.next) (sym was)
    (quiet p.line p.given s core)))
    (λ wasnt.
    let new : Replica = record r { copy = resynced_copy s (resync_mark s r) r.copy; resynced = true } in
    subst (λ (o : Option Replica). Core (cut_at p.line s.primary.global) (resync_given p.state.leader p.given copy o)
    s.primary.number s.primary.seen s.primary.global (replaced copy new s.replicas) s.next) (sym is)
    (subst (λ (b : Bool). Core (cut_at p.line s.primary.global)
    (if b then p.given else gave p.given copy (joined_at (resync_mark s r) (p.given copy) (p.given s.primary.number)))
    s.primary.number s.primary.seen s.primary.global (replaced copy new s.replicas) s.next) (sym wasnt)
    (quietly p.line (gave p.given copy (joined_at (resync_mark s r) (p.given copy) (p.given s.primary.number)))
    s.primary.number s.primary.seen s.primary.global (replaced copy new s.replicas) s.next
    (one_changed p.line p.given s copy r new (joined_at (resync_mark s r) (p.given copy) (p.given s.primary.number)) core is refl refl
    (resynced_ok p.line p.given s copy r core wasnt (found_in p.line p.given s copy r core is))))))
  where
    resynced_ok : (line : Line) (given : ℕ → ℕ → Option Operation) (s : Copies) (copy : ℕ) (r : Replica) → CoreOf line given s → r.resynced ≡ false
        → Found line given s.primary.number s.next copy r
        → IsReplica line s.primary.number s.next (joined_at (resync_mark s r) (given copy) (given s.primary.number))
        (record r { copy = resynced_copy s (resync_mark s r) r.copy; resynced = true })
    resynced_ok line given s copy r core wasnt f =
        replica-resynced line s.primary.number s.next (given copy) r.copy.number r.copy.seen r.copy.global r.known r.resynced r.acked
        (resync_mark s r) s.primary.seen.count (given s.primary.number)
        (let own : r.copy.global ≤ line.cut = f.replica.low in let all : s.primary.global ≤ line.cut = core.rest.primary.known in omega arith)
        (ap (λ (n : Numbers). n.count) core.rest.primary.gapless) core.rest.primary.given core.rest.primary.numbered core.rest.primary.full wasnt f.replica

-- ---- copies that leave and come

pub fail_copy_keeps : (p : Past) (copy : ℕ) (found : Option Replica) → IsLiving p
    → CoreAfter p (events.FailCopy sides.Leader copy) (at_leader p.state (settling_requests (leader_fail_copy_row p.state.leader copy found)))
unfolding leader_fail_copy_row fail_copy_row
fail_copy_keeps p copy None core = quiet p.line p.given p.state.leader.copies core
fail_copy_keeps p copy (Some r) core =
    let s = p.state.leader.copies in
    recounted p.line p.given s.primary.number s.primary.seen s.primary.global (without copy s.replicas) s.next record {
      old = core.rest.old;
      primary = core.rest.primary;
      replicas_ok = All-without (λ (x : Replica). IsReplica p.line s.primary.number s.next (p.given x.copy.number) x) copy s.replicas core.rest.replicas_ok;
      apart = Apart-without copy s.replicas core.rest.apart;
    }

pub added : (line : Line) (given : ℕ → ℕ → Option Operation) (s : Copies) → CoreOf line given s
    → Uncounted line (gave given s.next (given s.primary.number)) s.primary.number s.primary.seen s.primary.global
    (s.replicas ++ replica_in_step (record s.primary { number = s.next }) s.primary.seen.count ∷ []) (s.next + 1)
added line given s core = record {
  old = let less : s.primary.number < s.next = core.rest.old in omega arith;
  primary = subst (λ (o : ℕ → Option Operation). PrimaryOk line o s.primary.seen s.primary.global)
      (sym (gave-other given s.next (given s.primary.number) s.primary.number (let less : s.primary.number < s.next = core.rest.old in grind (arith, nat_tests)))) core.rest.primary;
  replicas_ok = All-push (λ (x : Replica). IsReplica line s.primary.number (s.next + 1) (gave given s.next (given s.primary.number) x.copy.number) x) s.replicas
      (replica_in_step (record s.primary { number = s.next }) s.primary.seen.count)
      (given-aside (λ o x. IsReplica line s.primary.number s.next o x) (λ o x. IsReplica line s.primary.number (s.next + 1) o x) given s.next (given s.primary.number)
      (λ o x ok. replica-next line s.primary.number s.next o x.copy.number x.copy.seen x.copy.global x.known x.resynced x.acked ok) s.replicas
      (All-weaker (λ (x : Replica). IsReplica line s.primary.number s.next (given x.copy.number) x) (λ (x : Replica). (x.copy.number == s.next) ≡ false)
      (λ x ok. let less : x.copy.number < s.next = ok.old in grind (arith, nat_tests)) s.replicas core.rest.replicas_ok)
      core.rest.replicas_ok)
      (subst (λ (o : ℕ → Option Operation). IsReplica line s.primary.number (s.next + 1) o (replica_in_step (record s.primary { number = s.next }) s.primary.seen.count))
      (sym (gave-same given s.next (given s.primary.number) s.next (itself s.next)))
      (replica-new line (given s.primary.number) s.primary.seen s.primary.global s.primary.number s.next core.rest.old core.rest.primary));
  apart = Apart-push s.replicas (replica_in_step (record s.primary { number = s.next }) s.primary.seen.count)
      (All-weaker (λ (x : Replica). IsReplica line s.primary.number s.next (given x.copy.number) x) (λ (x : Replica). (s.next == x.copy.number) ≡ false)
      (λ x ok. let less : x.copy.number < s.next = ok.old in grind (arith, nat_tests)) s.replicas core.rest.replicas_ok)
      core.rest.apart;
}

pub add_copy_keeps : (p : Past) → IsLiving p → CoreAfter p (events.AddCopy sides.Leader) (at_copies p (add_copy_row p.state.leader.copies))
unfolding add_copy_row
add_copy_keeps p core =
    on_guards (λ (o : Outcome Copies). CoreAfter p (events.AddCopy sides.Leader) (at_copies p o)) p.state.leader.copies _ _
    (λ why. quiet p.line p.given p.state.leader.copies core)
    (λ tests.
    let s = p.state.leader.copies in
    recounted p.line (gave p.given s.next (p.given s.primary.number)) s.primary.number s.primary.seen s.primary.global
    (s.replicas ++ replica_in_step (record s.primary { number = s.next }) s.primary.seen.count ∷ []) (s.next + 1) (added p.line p.given s core))

-- ---- flushes and merges

-- a change inside a copy: what it holds, its floor and its commit count
abbrev pub inside : (Copy → Store) → (Copy → ℕ) → (Copy → ℕ) → Copy → Copy
inside store floor commit c = record c { store = store c; floor = floor c; commit = commit c }

pub changed_inside : (line : Line) (given : ℕ → ℕ → Option Operation) (s : Copies) (copy : ℕ) (store : Copy → Store) (floor commit : Copy → ℕ)
    → CoreOf line given s → CoreOf (cut_at line (changed_at copy (inside store floor commit) s).primary.global) given (changed_at copy (inside store floor commit) s)
changed_inside line given s copy store floor commit core =
    on_if (λ (t : Copies). CoreOf (cut_at line t.primary.global) given t) (s.primary.number == copy)
    (record s { primary = inside store floor commit s.primary }) (record s { replicas = changed_replica copy (inside store floor commit) s.replicas })
    (λ is. quiet line given s core)
    (λ isnt. quietly line given s.primary.number s.primary.seen s.primary.global (changed_replica copy (inside store floor commit) s.replicas) s.next record {
      rest = record {
        old = core.rest.old;
        primary = core.rest.primary;
        replicas_ok = All-changed (λ (x : Replica). IsReplica line s.primary.number s.next (given x.copy.number) x)
            (λ (x : Replica). IsReplica line s.primary.number s.next (given x.copy.number) x) copy (inside store floor commit) (λ x h. h) (λ x at h. h) s.replicas core.rest.replicas_ok;
        apart = Apart-changed copy (inside store floor commit) (λ c. refl) s.replicas core.rest.apart;
      };
      counted = subst (λ (k : ℕ). k ≤ s.primary.global) (sym (least_known-changed s.primary.seen.count copy (inside store floor commit) s.replicas)) core.counted;
    })

pub flush_keeps : (p : Past) (copy : ℕ) (found : Option Copy) → IsLiving p
    → CoreAfter p (events.Flush sides.Leader copy) (at_copies p (flush_row p.state.leader.copies copy found))
unfolding flush_row
flush_keeps p copy None core = quiet p.line p.given p.state.leader.copies core
flush_keeps p copy (Some c) core = changed_inside p.line p.given p.state.leader.copies copy (λ own. flushed own.store) (λ own. own.floor) (λ own. own.global) core

pub merge_keeps : (p : Past) (copy : ℕ) (picks : List ℕ) (found : Option Copy) → IsLiving p
    → CoreAfter p (events.Merge sides.Leader copy) (at_copies p (merge_row p.state.leader.copies p.state.leader.start.retention copy picks found))
unfolding merge_row
merge_keeps p copy picks None core = quiet p.line p.given p.state.leader.copies core
merge_keeps p copy picks (Some c) core =
    changed_inside p.line p.given p.state.leader.copies copy
    (λ own. merged picks (merge_bound p.state.leader.start.retention own) own.global own.store) (λ own. risen_floor p.state.leader.start.retention own) (λ own. own.commit) core

-- ---- leases that expire

pub expire_keeps : (p : Past) → IsLiving p → CoreAfter p events.Expire (at_leader p.state (expire_row p.state.leader))
unfolding expire_row
expire_keeps p core = quiet p.line p.given p.state.leader.copies core

-- ---- forced promotions

-- a stale copy as the only one of a history that begins with all that it has
pub forced : (given : ℕ → ℕ → Option Operation) (copy primary next term : ℕ) (replicas : List Replica) (number : ℕ) (seen : Numbers) (global : ℕ)
    → number ≡ copy → StaleOk (given copy) primary next replicas number seen global
    → Core (record { ops = listed (plugged (given copy) term (end_of seen)) 0 (end_of seen); cut = max (length (listed (plugged (given copy) term (end_of seen)) 0 (end_of seen))) (fold {A = ℕ} {B = Numbers} marked seen (missing_numbers seen)).count })
    (gave given copy (plugged (given copy) term (end_of seen)))
    number (fold {A = ℕ} {B = Numbers} marked seen (missing_numbers seen)) (fold {A = ℕ} {B = Numbers} marked seen (missing_numbers seen)).count [] next
forced given copy primary next term replicas number seen global same ok =
    let own : ℕ → Option Operation = plugged (given copy) term (end_of seen) in
    let all : Numbers = fold {A = ℕ} {B = Numbers} marked seen (missing_numbers seen) in
    let from_zero : end_of seen - 0 ≡ end_of seen = omega arith in
    let alone : PrimaryOk (record { ops = listed own 0 (end_of seen); cut = 0 }) own all 0 =
    subst (λ (k : ℕ). PrimaryOk (record { ops = listed own 0 k; cut = 0 }) own all 0) from_zero
    (primary-promoted no_line primary next (given copy) number seen 0 0 false false term (omega arith) record {
      other = ok.other;
      old = ok.old;
      ordered = ok.ordered;
      processed = ok.processed;
      committed = λ n lt. absurd (omega arith);
      ours = λ is. absurd (cc);
      numbered = ok.numbered;
      low = omega arith;
      truly = omega arith;
      early = λ is. refl;
      late = λ is. absurd (cc);
    }) in
    let count : all.count ≡ length (listed own 0 (end_of seen)) = ap (λ (s : Numbers). s.count) alone.gapless in
    record {
      rest = record {
        old = ok.old;
        primary = subst (λ (o : ℕ → Option Operation). PrimaryOk (record { ops = listed own 0 (end_of seen); cut = max (length (listed own 0 (end_of seen))) all.count }) o all all.count)
            (sym (gave-same given copy own number (grind (arith, nat_tests, same)))) record {
              given = alone.given;
              gapless = alone.gapless;
              full = omega (arith, count);
              known = omega arith;
              numbered = alone.numbered;
            };
        replicas_ok = tt;
        apart = tt;
      };
      counted = omega arith;
    }

-- the claims after a forced promotion: `own` are the operations of the copy, and `at` is the stale copy as it was found
abbrev pub AfterForce : Past → ℕ → Option Copy → (ℕ → Option Operation) → Copy → Type 0
AfterForce p copy at own whole =
    CoreOf (record { ops = listed own 0 (end_of_stale at); cut = max (length (listed own 0 (end_of_stale at))) whole.seen.count })
    (gave p.given copy (plugged (p.given copy) (p.state.leader.copies.term + 1) (end_of_stale at)))
    (record p.state.leader.copies { term = p.state.leader.copies.term + 1; primary = record whole { global = whole.seen.count; leases = record { term = p.state.leader.copies.term + 1; version = 0; leases = [] } }; replicas = [] })

pub force_keeps : (p : Past) (copy : ℕ) (found : Option Copy) → stale_of p.state.leader.stale copy ≡ found → IsLiving p → AreStaleOf p.given p.state.leader
    → CoreAfter p (events.ForcePromote copy) (at_leader p.state (force_promote_row p.state.leader copy found))
unfolding force_promote_row
force_keeps p copy None is core stale = quiet p.line p.given p.state.leader.copies core
force_keeps p copy (Some c) is core stale =
    let s = p.state.leader.copies in
    let both : StaleOk (p.given c.number) s.primary.number s.next s.replicas c.number c.seen c.global × ((c.number == copy) ≡ true)
    = All-find (λ (x : Copy). StaleOk (p.given x.number) s.primary.number s.next s.replicas x.number x.seen x.global) (λ x. x.number == copy) p.state.leader.stale c stale is in
    let same : c.number ≡ copy = eqb-true c.number copy both.1 in
    let ok : StaleOk (p.given copy) s.primary.number s.next s.replicas c.number c.seen c.global
    = subst (λ (k : ℕ). StaleOk (p.given k) s.primary.number s.next s.replicas c.number c.seen c.global) same both.0 in
    subst (λ (o : Option Copy). AfterForce p copy o (gave p.given copy (plugged (p.given copy) (s.term + 1) (end_of_stale o)) copy) (filled (s.term + 1) (missing_numbers c.seen) c)) (sym is)
    (subst (λ (f : ℕ → Option Operation). AfterForce p copy (Some c) f (filled (s.term + 1) (missing_numbers c.seen) c))
    (sym (gave-same p.given copy (plugged (p.given copy) (s.term + 1) (end_of c.seen)) copy (itself copy)))
    (subst (λ (x : Copy). AfterForce p copy (Some c) (plugged (p.given copy) (s.term + 1) (end_of c.seen)) x)
    (sym (filled_is (s.term + 1) (missing_numbers c.seen) c))
    (forced p.given copy s.primary.number s.next (s.term + 1) s.replicas c.number c.seen c.global same ok)))
