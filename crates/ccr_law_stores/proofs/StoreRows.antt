-- What each event of the leader's side makes of the claims on what its copies hold.
use Rattle.std.specs.Prelude.{slice_get}
use Rattle.std.specs.List.{fold}
use Rattle.std.proofs.Common.{◌≡◌, ℕ, ◌+◌, ◌<◌, ◌≤◌, ◌==◌, max, Bool, true, false, nat_lt, if◌then◌else◌, Option, Some, None, is_some, List, [], ◌∷◌, ◌++◌, map, length, refl, sym, ◌∙◌, ap, subst, arith}
use Rattle.std.proofs.lemmas.Bool.Decides.{nat_tests}
use Rattle.ccr_op.specs.Operation.{Operation}
use Rattle.ccr_tracker.specs.Numbers.{Numbers, has, marked}
use Rattle.ccr_lease.specs.Leases.{Collection, supersedes}
use Rattle.ccr_doc.specs.declared.sources.BadSource.{BadSource as SourceFault}
use Rattle.ccr_journal.specs.declared.requests.WriteRequest.{WriteRequest}
use Rattle.ccr_journal.specs.declared.sides.Side.TheVariants as sides
use Rattle.ccr_journal.specs.declared.events.Event.{Event}
use Rattle.ccr_journal.specs.declared.events.Event.TheVariants as events
use Rattle.ccr_model.specs.Outcomes.{Outcome}
use Rattle.ccr_model.specs.Operations.{op_at, run_from}
use Rattle.ccr_model.specs.Stores.{held, flushed, sifted}
use Rattle.ccr_model.specs.Copies.{Copy, Replica, Copies, replica_in_step, replica_of, replaced, without, changed_replica, changed_at, least_known, taking, knowing}
use Rattle.ccr_model.specs.CopyRows.{replicate_row, ack_row, sync_row, fail_copy_row, add_copy_row, flush_row, merge_row, after_merge, unknown}
use Rattle.ccr_model.specs.Given.{gave, gaining, plugged, joined_at}
use Rattle.ccr_model.specs.LeaderRows.{write_row, wrote_at, written_operation, filled, as_primary, missing_numbers, end_of, resync_mark, resynced_copy, expire_row, leader_promote_row, as_only_copy, force_promote_row, resync_row, leader_fail_copy_row, settling_requests}
use Rattle.ccr_model.specs.World.{State, at_leader}
use Rattle.ccr_model.specs.Past.{Line, Past, past_with, end_of_replica, end_of_stale, resync_given}
use Rattle.ccr_model.specs.Leaders.{stale_of}
use Rattle.ccr_law_base.proofs.Cases.{on_if, on_guards}
use Rattle.ccr_law_copies.specs.Cores.{PrimaryOk, IsReplica, CoreOf, IsLiving, StaleOk, AreStaleOf}
use Rattle.ccr_law_base.proofs.Lists.{All-weaker, All-both, All-push, All-map, All-replaced, All-without, All-find, All-changed}
use Rattle.ccr_law_copies.proofs.Replicas.{gave-same, gave-other, given-aside, replaced-alone, others-without}
use Rattle.ccr_law_copies.proofs.CopyChanges.{some-within}
use Rattle.ccr_law_copies.proofs.Sets.{or_false, count_reaches, whole as whole_numbers}
use Rattle.ccr_law_copies.proofs.LeaderRows.{at_copies, at_copies_settling, primary_has, Found, found_in, filled_is}
use Rattle.ccr_law_stores.specs.TrueStores.{IsTrueStore, IsSound, AreNumbered, AreTrueStores, AreTrueStoresOf, HasLivingStores, AreSoundStale}
use Rattle.ccr_law_stores.proofs.CopyChanges.{below_or}
use Rattle.ccr_law_stores.proofs.StoreChanges.{held-op, store-resynced}
use Rattle.ccr_law_stores.proofs.Sorting.{sorted-stored_all, sorted-sifted}
use Rattle.ccr_law_stores.proofs.Sound.{sound-takes_found, sound-takes, sound-flushes, sound-knows, sound-plugged, sound-merges}
use Rattle.std.proofs.lemmas.Bool.{not-false, eqb-true}
use Rattle.ccr_law_base.proofs.Tests.{itself}

-- the claims after an event, where this is what it comes to
abbrev pub StoresAfter : Past → Event → Outcome State → Type 0
StoresAfter p event o = HasLivingStores (past_with p (record { event = event; reply = o.reply }) o)

-- ---- what the copies have processed

-- the operations that a copy was given are told by their numbers, are what it has processed, and are all of those below its global count
pub record IsFit (ops : ℕ → Option Operation) (c : Copy) : Type 0 where
  pub numbered : AreNumbered ops
  pub processed : (n : ℕ) → has c.seen n ≡ is_some (ops n)
  pub whole : (n : ℕ) → n < c.global → is_some (ops n) ≡ true

pub primary-fit : (line : Line) (ops : ℕ → Option Operation) (c : Copy) → PrimaryOk line ops c.seen c.global → IsFit ops c
primary-fit line ops c ok = record {
  numbered = λ n op at. ok.numbered n op (sym (ok.given n) ∙ at);
  processed = λ n. ap (λ (s : Numbers). has s n) ok.gapless
      ∙ (sym (or_false (nat_lt n (length line.ops))) ∙ (sym (some-within line.ops n) ∙ ap (λ (o : Option Operation). is_some o) (sym (ok.given n))));
  whole = λ n lt.
      let low : c.global ≤ line.cut = ok.known in
      let full : line.cut ≤ length line.ops = ok.full in
      let inside : nat_lt n (length line.ops) ≡ true = (let less : n < length line.ops = omega arith in grind (arith, nat_tests)) in
      ap (λ (o : Option Operation). is_some o) (ok.given n) ∙ (some-within line.ops n ∙ inside);
}

-- a replica has all that is committed
pub committed_there : (line : Line) (primary next : ℕ) (ops : ℕ → Option Operation) (r : Replica) → line.cut ≤ length line.ops → IsReplica line primary next ops r
    → (n : ℕ) → n < line.cut → is_some (ops n) ≡ true
committed_there line primary next ops r full ok n lt =
    let inside : nat_lt n (length line.ops) ≡ true = (let less : n < length line.ops = omega arith in grind (arith, nat_tests)) in
    ap (λ (o : Option Operation). is_some o) (ok.committed n lt) ∙ (some-within line.ops n ∙ inside)

pub replica-fit : (line : Line) (primary next : ℕ) (ops : ℕ → Option Operation) (r : Replica) → line.cut ≤ length line.ops → IsReplica line primary next ops r → IsFit ops r.copy
replica-fit line primary next ops r full ok = record {
  numbered = ok.numbered;
  processed = ok.processed;
  whole = λ n lt. committed_there line primary next ops r full ok n (let low : r.copy.global ≤ line.cut = ok.low in omega arith);
}

-- ---- changes that give nothing

-- the primary learns a global count
pub primary-knows : (given : ℕ → ℕ → Option Operation) (primary : Copy) (replicas : List Replica) (global : ℕ) → AreTrueStores given primary replicas
    → AreTrueStores given (knowing global primary) replicas
primary-knows given primary replicas global ok = record { own = sound-knows (given primary.number) 0 primary global ok.own; others = ok.others }

-- the primary's leases are others
pub leases-change : (given : ℕ → ℕ → Option Operation) (primary : Copy) (replicas : List Replica) (leases : Collection) → AreTrueStores given primary replicas
    → AreTrueStores given (record primary { leases = leases }) replicas
leases-change given primary replicas leases ok = record { own = ok.own; others = ok.others }

-- the replica that was found
pub found-store : (given : ℕ → ℕ → Option Operation) (s : Copies) (copy : ℕ) (r : Replica) → replica_of s copy ≡ Some r → AreTrueStoresOf given s
    → IsSound (given copy) 0 r.copy × (r.copy.number ≡ copy)
found-store given s copy r found ok =
    let both : IsSound (given r.copy.number) 0 r.copy × ((r.copy.number == copy) ≡ true)
    = All-find (λ (x : Replica). IsSound (given x.copy.number) 0 x.copy) (λ x. x.copy.number == copy) s.replicas r ok.others found in
    let same : r.copy.number ≡ copy = eqb-true r.copy.number copy both.1 in
    (subst (λ (k : ℕ). IsSound (given k) 0 r.copy) same both.0, same)

-- one replica changed, which keeps its number, and nothing was given
pub one_replaced : (given : ℕ → ℕ → Option Operation) (s : Copies) (copy : ℕ) (r new : Replica) → replica_of s copy ≡ Some r → new.copy.number ≡ r.copy.number
    → (IsSound (given copy) 0 r.copy → IsSound (given copy) 0 new.copy) → AreTrueStoresOf given s → AreTrueStores given s.primary (replaced copy new s.replicas)
one_replaced given s copy r new found number made ok =
    let is : IsSound (given copy) 0 r.copy × (r.copy.number ≡ copy) = found-store given s copy r found ok in
    record {
      own = ok.own;
      others = All-replaced (λ (x : Replica). IsSound (given x.copy.number) 0 x.copy) copy new s.replicas
          (subst (λ (k : ℕ). IsSound (given k) 0 new.copy) (sym (number ∙ is.1)) (made is.0)) ok.others;
    }

-- one replica changed, which keeps its number, and it was given these operations
pub one_changed : (line : Line) (given : ℕ → ℕ → Option Operation) (s : Copies) (copy : ℕ) (r new : Replica) (ops : ℕ → Option Operation) → CoreOf line given s
    → replica_of s copy ≡ Some r → new.copy.number ≡ r.copy.number → IsSound ops 0 new.copy → AreTrueStoresOf given s
    → AreTrueStores (gave given copy ops) s.primary (replaced copy new s.replicas)
one_changed line given s copy r new ops core found number made ok =
    let is : Found line given s.primary.number s.next copy r = found_in line given s copy r core found in
    record {
      own = subst (λ (o : ℕ → Option Operation). IsSound o 0 s.primary)
          (sym (gave-other given copy ops s.primary.number (grind (arith, nat_tests, is.other)))) ok.own;
      others = replaced-alone (λ o x. IsSound o 0 x.copy) (λ o x. IsSound o 0 x.copy) given copy ops new
          (number ∙ is.number) made (λ o x h. h) s.replicas core.rest.apart ok.others;
    }

-- ---- writes

pub write_keeps : (p : Past) (request : WriteRequest) (fault : Option SourceFault) (found : Option Operation) → IsLiving p → HasLivingStores p
    → StoresAfter p (events.Write request) (at_copies p (write_row p.state.leader.copies request fault found))
unfolding write_row
write_keeps p request (Some fault) found core ok = ok
write_keeps p request None found core ok =
    on_guards (λ (o : Outcome Copies). StoresAfter p (events.Write request) (at_copies p o)) p.state.leader.copies _ _
    (λ why. ok)
    (λ tests. written p.line p.given p.state.leader.copies (written_operation request (wrote_at p.state.leader.copies request found)) refl core ok)
  where
    written : (line : Line) (given : ℕ → ℕ → Option Operation) (s : Copies) (op : Operation) → op.seq ≡ s.primary.seen.count → CoreOf line given s → AreTrueStoresOf given s
        → AreTrueStores (gave given s.primary.number (gaining (given s.primary.number) op.seq (Some op)))
        (knowing (least_known (marked s.primary.seen op.seq).count s.replicas) (taking s.primary op.seq (Some op))) s.replicas
    written line given s op seq core ok =
        let fit : IsFit (given s.primary.number) s.primary = primary-fit line (given s.primary.number) s.primary core.rest.primary in
        record {
          own = subst (λ (o : ℕ → Option Operation). IsSound o 0 (knowing (least_known (marked s.primary.seen op.seq).count s.replicas) (taking s.primary op.seq (Some op))))
              (sym (gave-same given s.primary.number (gaining (given s.primary.number) op.seq (Some op)) s.primary.number (itself s.primary.number)))
              (sound-knows (gaining (given s.primary.number) op.seq (Some op)) 0 (taking s.primary op.seq (Some op)) (least_known (marked s.primary.seen op.seq).count s.replicas)
              (sound-takes (given s.primary.number) 0 s.primary op.seq op fit.numbered refl fit.processed fit.whole ok.own));
          others = given-aside (λ o x. IsSound o 0 x.copy) (λ o x. IsSound o 0 x.copy) given s.primary.number (gaining (given s.primary.number) op.seq (Some op))
              (λ o x h. h) s.replicas
              (All-weaker (λ (x : Replica). IsReplica line s.primary.number s.next (given x.copy.number) x) (λ (x : Replica). (x.copy.number == s.primary.number) ≡ false)
              (λ x is. is.other) s.replicas core.rest.replicas_ok) ok.others;
        }

-- ---- replications

pub replicate_keeps : (p : Past) (copy seq : ℕ) (found : Option Replica) → replica_of p.state.leader.copies copy ≡ found → IsLiving p → HasLivingStores p
    → StoresAfter p (events.Replicate sides.Leader copy seq) (at_copies p (replicate_row p.state.leader.copies copy seq found))
unfolding replicate_row
replicate_keeps p copy seq None is core ok = ok
replicate_keeps p copy seq (Some r) is core ok =
    on_guards (λ (o : Outcome Copies). StoresAfter p (events.Replicate sides.Leader copy seq) (at_copies p o)) p.state.leader.copies _ _
    (λ why. ok)
    (λ tests. replicated p.line p.given p.state.leader.copies copy seq r is core (not-false (has p.state.leader.copies.primary.seen seq) tests.1.0) ok)
  where
    replicated : (line : Line) (given : ℕ → ℕ → Option Operation) (s : Copies) (copy seq : ℕ) (r : Replica) → replica_of s copy ≡ Some r → CoreOf line given s
        → has s.primary.seen seq ≡ true → AreTrueStoresOf given s
        → AreTrueStores (gave given copy (gaining (given copy) seq (given s.primary.number seq))) s.primary
        (replaced copy (record r { copy = knowing s.primary.global (taking r.copy seq (op_at seq (held s.primary.store))) }) s.replicas)
    replicated line given s copy seq r is core there ok =
        let f : Found line given s.primary.number s.next copy r = found_in line given s copy r core is in
        let own : IsSound (given copy) 0 r.copy × (r.copy.number ≡ copy) = found-store given s copy r is ok in
        let fit : IsFit (given copy) r.copy = replica-fit line s.primary.number s.next (given copy) r core.rest.primary.full f.replica in
        let at : (op : Operation) × (given s.primary.number seq ≡ Some op) × (slice_get line.ops seq ≡ Some op)
        = primary_has line (given s.primary.number) s.primary.seen s.primary.global seq core.rest.primary there in
        let new : Replica = record r { copy = knowing s.primary.global (taking r.copy seq (op_at seq (held s.primary.store))) } in
        subst (λ (o : Option Operation). AreTrueStores (gave given copy (gaining (given copy) seq o)) s.primary (replaced copy new s.replicas)) (sym at.1)
        (one_changed line given s copy r new (gaining (given copy) seq (Some at.0)) core is refl
        (sound-knows (gaining (given copy) seq (Some at.0)) 0 (taking r.copy seq (op_at seq (held s.primary.store))) s.primary.global
        (sound-takes_found (given copy) 0 r.copy seq at.0 (op_at seq (held s.primary.store)) fit.numbered (core.rest.primary.numbered seq at.0 at.2) fit.processed fit.whole
        (λ isnt. held-op (given s.primary.number) (held s.primary.store) seq at.0 ok.own.store.ours at.1
        (ok.own.store.kept seq
        (below_or (max s.primary.floor 0 ≤ seq) seq line.cut
        (λ lt. let some : is_some (given copy seq) ≡ true = committed_there line s.primary.number next_of (given copy) r core.rest.primary.full f.replica seq lt in
        let none : is_some (given copy seq) ≡ false = sym (fit.processed seq) ∙ isnt in cc)
        (λ le. let low : s.primary.floor ≤ s.primary.global = ok.own.store.low in let known : s.primary.global ≤ line.cut = core.rest.primary.known in omega arith))
        (ap (λ (o : Option Operation). is_some o) at.1)))
        own.0)) ok)
      where
        next_of : ℕ
        next_of = s.next

-- ---- acks and syncs

pub ack_keeps : (p : Past) (copy : ℕ) (found : Option Replica) → replica_of p.state.leader.copies copy ≡ found → HasLivingStores p
    → StoresAfter p (events.Ack sides.Leader copy) (at_copies p (ack_row p.state.leader.copies copy found))
unfolding ack_row
ack_keeps p copy None is ok = ok
ack_keeps p copy (Some r) is ok =
    on_guards (λ (o : Outcome Copies). StoresAfter p (events.Ack sides.Leader copy) (at_copies p o)) p.state.leader.copies _ _
    (λ why. ok)
    (λ tests.
    let s = p.state.leader.copies in
    let new : Replica = record r { known = r.copy.seen.count; acked = true } in
    primary-knows p.given s.primary (replaced copy new s.replicas) (least_known s.primary.seen.count (replaced copy new s.replicas))
    (one_replaced p.given s copy r new is refl (λ h. h) ok))

pub sync_keeps : (p : Past) (copy : ℕ) (found : Option Replica) → replica_of p.state.leader.copies copy ≡ found → HasLivingStores p
    → StoresAfter p (events.Sync sides.Leader copy) (at_copies_settling p (sync_row p.state.leader.copies copy found))
unfolding sync_row
sync_keeps p copy None is ok = ok
sync_keeps p copy (Some r) is ok =
    on_guards (λ (o : Outcome Copies). StoresAfter p (events.Sync sides.Leader copy) (at_copies_settling p o)) p.state.leader.copies _ _
    (λ why. ok)
    (λ tests.
    let s = p.state.leader.copies in
    on_if (λ (c : Copy). AreTrueStores p.given s.primary (replaced copy (record r { copy = c }) s.replicas))
    (supersedes s.primary.leases r.copy.leases) (record (knowing s.primary.global r.copy) { leases = s.primary.leases }) (knowing s.primary.global r.copy)
    (λ newer. one_replaced p.given s copy r (record r { copy = record (knowing s.primary.global r.copy) { leases = s.primary.leases } }) is refl
    (λ h. sound-knows (p.given copy) 0 r.copy s.primary.global h) ok)
    (λ older. one_replaced p.given s copy r (record r { copy = knowing s.primary.global r.copy }) is refl
    (λ h. sound-knows (p.given copy) 0 r.copy s.primary.global h) ok))

-- ---- copies that leave and come

pub fail_copy_keeps : (p : Past) (copy : ℕ) (found : Option Replica) → HasLivingStores p
    → StoresAfter p (events.FailCopy sides.Leader copy) (at_leader p.state (settling_requests (leader_fail_copy_row p.state.leader copy found)))
unfolding leader_fail_copy_row fail_copy_row
fail_copy_keeps p copy None ok = ok
fail_copy_keeps p copy (Some r) ok =
    let s = p.state.leader.copies in
    primary-knows p.given s.primary (without copy s.replicas) (least_known s.primary.seen.count (without copy s.replicas)) record {
      own = ok.own;
      others = All-without (λ (x : Replica). IsSound (p.given x.copy.number) 0 x.copy) copy s.replicas ok.others;
    }

pub add_copy_keeps : (p : Past) → IsLiving p → HasLivingStores p → StoresAfter p (events.AddCopy sides.Leader) (at_copies p (add_copy_row p.state.leader.copies))
unfolding add_copy_row
add_copy_keeps p core ok =
    on_guards (λ (o : Outcome Copies). StoresAfter p (events.AddCopy sides.Leader) (at_copies p o)) p.state.leader.copies _ _
    (λ why. ok)
    (λ tests. added p.line p.given p.state.leader.copies core ok)
  where
    added : (line : Line) (given : ℕ → ℕ → Option Operation) (s : Copies) → CoreOf line given s → AreTrueStoresOf given s
        → AreTrueStores (gave given s.next (given s.primary.number))
        (knowing (least_known s.primary.seen.count (s.replicas ++ replica_in_step (record s.primary { number = s.next }) s.primary.seen.count ∷ [])) s.primary)
        (s.replicas ++ replica_in_step (record s.primary { number = s.next }) s.primary.seen.count ∷ [])
    added line given s core ok =
        primary-knows (gave given s.next (given s.primary.number)) s.primary (s.replicas ++ replica_in_step (record s.primary { number = s.next }) s.primary.seen.count ∷ [])
        (least_known s.primary.seen.count (s.replicas ++ replica_in_step (record s.primary { number = s.next }) s.primary.seen.count ∷ [])) record {
          own = subst (λ (o : ℕ → Option Operation). IsSound o 0 s.primary)
              (sym (gave-other given s.next (given s.primary.number) s.primary.number (let less : s.primary.number < s.next = core.rest.old in grind (arith, nat_tests)))) ok.own;
          others = All-push (λ (x : Replica). IsSound (gave given s.next (given s.primary.number) x.copy.number) 0 x.copy) s.replicas
              (replica_in_step (record s.primary { number = s.next }) s.primary.seen.count)
              (given-aside (λ o x. IsSound o 0 x.copy) (λ o x. IsSound o 0 x.copy) given s.next (given s.primary.number) (λ o x h. h) s.replicas
              (All-weaker (λ (x : Replica). IsReplica line s.primary.number s.next (given x.copy.number) x) (λ (x : Replica). (x.copy.number == s.next) ≡ false)
              (λ x is. let less : x.copy.number < s.next = is.old in grind (arith, nat_tests)) s.replicas core.rest.replicas_ok)
              ok.others)
              (subst (λ (o : ℕ → Option Operation). IsSound o 0 (record s.primary { number = s.next }))
              (sym (gave-same given s.next (given s.primary.number) s.next (itself s.next))) ok.own);
        }

-- ---- flushes and merges

pub changed_keeps : (given : ℕ → ℕ → Option Operation) (s : Copies) (copy : ℕ) (change : Copy → Copy) → ((c : Copy) → (change c).number ≡ c.number)
    → ((ops : ℕ → Option Operation) (c : Copy) → IsSound ops 0 c → IsSound ops 0 (change c)) → AreTrueStoresOf given s → AreTrueStoresOf given (changed_at copy change s)
changed_keeps given s copy change number keeps ok =
    on_if (λ (t : Copies). AreTrueStoresOf given t) (s.primary.number == copy)
    (record s { primary = change s.primary }) (record s { replicas = changed_replica copy change s.replicas })
    (λ is. record {
      own = subst (λ (k : ℕ). IsSound (given k) 0 (change s.primary)) (sym (number s.primary)) (keeps (given s.primary.number) s.primary ok.own);
      others = ok.others;
    })
    (λ isnt. record {
      own = ok.own;
      others = All-changed (λ (x : Replica). IsSound (given x.copy.number) 0 x.copy) (λ (x : Replica). IsSound (given x.copy.number) 0 x.copy) copy change
          (λ x h. h) (λ x at h. subst (λ (k : ℕ). IsSound (given k) 0 (change x.copy)) (sym (number x.copy)) (keeps (given x.copy.number) x.copy h)) s.replicas ok.others;
    })

pub flush_keeps : (p : Past) (copy : ℕ) (found : Option Copy) → HasLivingStores p
    → StoresAfter p (events.Flush sides.Leader copy) (at_copies p (flush_row p.state.leader.copies copy found))
unfolding flush_row
flush_keeps p copy None ok = ok
flush_keeps p copy (Some c) ok =
    changed_keeps p.given p.state.leader.copies copy (λ own. record own { store = flushed own.store; commit = own.global }) (λ own. refl)
    (λ ops own h. sound-flushes ops 0 own h) ok

pub merge_keeps : (p : Past) (copy : ℕ) (picks : List ℕ) (found : Option Copy) → HasLivingStores p
    → StoresAfter p (events.Merge sides.Leader copy) (at_copies p (merge_row p.state.leader.copies p.state.leader.start.retention copy picks found))
unfolding merge_row
merge_keeps p copy picks None ok = ok
merge_keeps p copy picks (Some c) ok =
    changed_keeps p.given p.state.leader.copies copy (after_merge p.state.leader.start.retention picks) (λ own. refl)
    (λ ops own h. sound-merges ops 0 p.state.leader.start.retention picks own h) ok

-- ---- leases that expire

pub expire_keeps : (p : Past) → HasLivingStores p → StoresAfter p events.Expire (at_leader p.state (expire_row p.state.leader))
unfolding expire_row
expire_keeps p ok = leases-change p.given p.state.leader.copies.primary p.state.leader.copies.replicas _ ok

-- ---- resyncs

pub resync_keeps : (p : Past) (copy : ℕ) (found : Option Replica) → replica_of p.state.leader.copies copy ≡ found → IsLiving p → HasLivingStores p
    → StoresAfter p (events.Resync copy) (at_copies p (resync_row p.state.leader.copies copy found))
unfolding resync_row
resync_keeps p copy None is core ok = ok
resync_keeps p copy (Some r) is core ok =
    let s = p.state.leader.copies in
    on_if (λ (o : Outcome Copies). StoresAfter p (events.Resync copy) (at_copies p o)) r.resynced _ _
    (λ was. subst (λ (o : Option Replica). AreTrueStores (resync_given p.state.leader p.given copy o) s.primary s.replicas) (sym is)
    (subst (λ (b : Bool). AreTrueStores (if b then p.given else gave p.given copy (joined_at (resync_mark s r) (p.given copy) (p.given s.primary.number))) s.primary s.replicas) (sym was)
    ok))
    (λ wasnt.
    let new : Replica = record r { copy = resynced_copy s (resync_mark s r) r.copy; resynced = true } in
    subst (λ (o : Option Replica). AreTrueStores (resync_given p.state.leader p.given copy o) s.primary (replaced copy new s.replicas)) (sym is)
    (subst (λ (b : Bool). AreTrueStores (if b then p.given else gave p.given copy (joined_at (resync_mark s r) (p.given copy) (p.given s.primary.number)))
    s.primary (replaced copy new s.replicas)) (sym wasnt)
    (one_changed p.line p.given s copy r new (joined_at (resync_mark s r) (p.given copy) (p.given s.primary.number)) core is refl
    (resynced p.line p.given s copy r is core ok) ok)))
  where
    resynced : (line : Line) (given : ℕ → ℕ → Option Operation) (s : Copies) (copy : ℕ) (r : Replica) → replica_of s copy ≡ Some r → CoreOf line given s → AreTrueStoresOf given s
        → IsSound (joined_at (resync_mark s r) (given copy) (given s.primary.number)) 0 (resynced_copy s (resync_mark s r) r.copy)
    resynced line given s copy r is core ok =
        let f : Found line given s.primary.number s.next copy r = found_in line given s copy r core is in
        let own : IsSound (given copy) 0 r.copy × (r.copy.number ≡ copy) = found-store given s copy r is ok in
        let count : s.primary.seen.count ≡ length line.ops = ap (λ (n : Numbers). n.count) core.rest.primary.gapless in
        let new : IsTrueStore (joined_at (resync_mark s r) (given copy) (given s.primary.number)) 0 (resynced_copy s (resync_mark s r) r.copy) =
        store-resynced (given copy) (given s.primary.number) 0 r.copy.store (held s.primary.store) r.copy.floor r.copy.commit r.copy.global (resync_mark s r) s.primary.seen.count
        f.replica.numbered (omega arith) ok.own.store.ours
        (λ n le some.
        let inside : nat_lt n (length line.ops) ≡ true = sym (some-within line.ops n) ∙ (sym (ap (λ (o : Option Operation). is_some o) (core.rest.primary.given n)) ∙ some) in
        let less : n < length line.ops = grind (arith, nat_tests) in omega arith)
        (λ n le lt. ok.own.store.kept n
        (let low : s.primary.floor ≤ s.primary.global = ok.own.store.low in omega arith)
        (let less : n < length line.ops = omega arith in
        let inside : nat_lt n (length line.ops) ≡ true = grind (arith, nat_tests) in
        ap (λ (o : Option Operation). is_some o) (core.rest.primary.given n) ∙ (some-within line.ops n ∙ inside)))
        own.0.store in
        record {
          store = new;
          sorted = sorted-stored_all (run_from (held s.primary.store) (resync_mark s r) s.primary.seen.count) (sifted (λ op. nat_lt op.seq (resync_mark s r)) r.copy.store) new.once
              (sorted-sifted (λ op. nat_lt op.seq (resync_mark s r)) r.copy.store own.0.sorted);
        }

-- ---- promotions

pub promote_keeps : (p : Past) (copy : ℕ) (found : Option Replica) → replica_of p.state.leader.copies copy ≡ found → IsLiving p → HasLivingStores p
    → StoresAfter p (events.Promote sides.Leader copy) (at_leader p.state (leader_promote_row p.state.leader copy found))
unfolding leader_promote_row
promote_keeps p copy None is core ok = ok
promote_keeps p copy (Some r) is core ok =
    let s = p.state.leader.copies in
    subst (λ (o : Option Replica). AreTrueStores (gave p.given copy (plugged (p.given copy) (s.term + 1) (end_of_replica o)))
    (knowing (least_known (as_primary (s.term + 1) r.copy).seen.count (map {A = Replica} {B = Replica} unknown (without copy s.replicas))) (as_primary (s.term + 1) r.copy))
    (map {A = Replica} {B = Replica} unknown (without copy s.replicas))) (sym is)
    (promoted p.line p.given s copy r (s.term + 1) is core ok)
  where
    promoted : (line : Line) (given : ℕ → ℕ → Option Operation) (s : Copies) (copy : ℕ) (r : Replica) (term : ℕ) → replica_of s copy ≡ Some r → CoreOf line given s
        → AreTrueStoresOf given s
        → AreTrueStores (gave given copy (plugged (given copy) term (end_of r.copy.seen)))
        (knowing (least_known (as_primary term r.copy).seen.count (map {A = Replica} {B = Replica} unknown (without copy s.replicas))) (as_primary term r.copy))
        (map {A = Replica} {B = Replica} unknown (without copy s.replicas))
    promoted line given s copy r term is core ok =
        let f : Found line given s.primary.number s.next copy r = found_in line given s copy r core is in
        let own : IsSound (given copy) 0 r.copy × (r.copy.number ≡ copy) = found-store given s copy r is ok in
        let fit : IsFit (given copy) r.copy = replica-fit line s.primary.number s.next (given copy) r core.rest.primary.full f.replica in
        let made : IsSound (plugged (given copy) term (end_of r.copy.seen)) 0 (filled term (missing_numbers r.copy.seen) r.copy)
        = sound-plugged term (given copy) 0 r.copy fit.numbered fit.processed fit.whole own.0 in
        let number : (filled term (missing_numbers r.copy.seen) r.copy).number ≡ copy
        = ap (λ (c : Copy). c.number) (filled_is term (missing_numbers r.copy.seen) r.copy) ∙ own.1 in
        let ops : ℕ → Option Operation = plugged (given copy) term (end_of r.copy.seen) in
        primary-knows (gave given copy ops) (as_primary term r.copy) (map {A = Replica} {B = Replica} unknown (without copy s.replicas))
        (least_known (as_primary term r.copy).seen.count (map {A = Replica} {B = Replica} unknown (without copy s.replicas))) record {
          own = subst (λ (k : ℕ). IsSound (gave given copy ops k) 0 (filled term (missing_numbers r.copy.seen) r.copy)) (sym number)
              (subst (λ (o : ℕ → Option Operation). IsSound o 0 (filled term (missing_numbers r.copy.seen) r.copy)) (sym (gave-same given copy ops copy (itself copy))) made);
          others = All-map (λ (x : Replica). IsSound (gave given copy ops x.copy.number) 0 x.copy) unknown (without copy s.replicas)
              (All-weaker (λ (x : Replica). IsSound (given x.copy.number) 0 x.copy × ((x.copy.number == copy) ≡ false))
              (λ (x : Replica). IsSound (gave given copy ops x.copy.number) 0 x.copy)
              (λ x both. subst (λ (o : ℕ → Option Operation). IsSound o 0 x.copy) (sym (gave-other given copy ops x.copy.number both.1)) both.0)
              (without copy s.replicas)
              (All-both (λ (x : Replica). IsSound (given x.copy.number) 0 x.copy) (λ (x : Replica). (x.copy.number == copy) ≡ false) (without copy s.replicas)
              (All-without (λ (x : Replica). IsSound (given x.copy.number) 0 x.copy) copy s.replicas ok.others)
              (others-without copy s.replicas core.rest.apart)));
        }

-- ---- forced promotions

pub force_keeps : (p : Past) (copy : ℕ) (found : Option Copy) → stale_of p.state.leader.stale copy ≡ found → AreStaleOf p.given p.state.leader → AreSoundStale p.given p.state.leader.stale → HasLivingStores p
    → StoresAfter p (events.ForcePromote copy) (at_leader p.state (force_promote_row p.state.leader copy found))
unfolding force_promote_row
force_keeps p copy None is core stale ok = ok
force_keeps p copy (Some c) is core stale ok =
    let s = p.state.leader.copies in
    let both : StaleOk (p.given c.number) s.primary.number s.next s.replicas c.number c.seen c.global × ((c.number == copy) ≡ true)
    = All-find (λ (x : Copy). StaleOk (p.given x.number) s.primary.number s.next s.replicas x.number x.seen x.global) (λ x. x.number == copy) p.state.leader.stale c core is in
    let sound : IsSound (p.given c.number) 0 c × ((c.number == copy) ≡ true)
    = All-find (λ (x : Copy). IsSound (p.given x.number) 0 x) (λ x. x.number == copy) p.state.leader.stale c stale is in
    let same : c.number ≡ copy = eqb-true c.number copy both.1 in
    let term : ℕ = s.term + 1 in
    let ops : ℕ → Option Operation = plugged (p.given copy) term (end_of c.seen) in
    let whole : Copy = filled term (missing_numbers c.seen) c in
    let number : whole.number ≡ copy = ap (λ (x : Copy). x.number) (filled_is term (missing_numbers c.seen) c) ∙ same in
    let fit : StaleOk (p.given copy) s.primary.number s.next s.replicas c.number c.seen c.global
    = subst (λ (k : ℕ). StaleOk (p.given k) s.primary.number s.next s.replicas c.number c.seen c.global) same both.0 in
    let made : IsSound ops 0 whole = sound-plugged term (p.given copy) 0 c fit.numbered fit.processed fit.whole (subst (λ (k : ℕ). IsSound (p.given k) 0 c) same sound.0) in
    let low : c.global ≤ c.seen.count = count_reaches c.seen c.global fit.ordered (λ k lt. fit.processed k ∙ fit.whole k lt) in
    let seen : whole.seen ≡ fold {A = ℕ} {B = Numbers} marked c.seen (missing_numbers c.seen) = ap (λ (x : Copy). x.seen) (filled_is term (missing_numbers c.seen) c) in
    let all : fold {A = ℕ} {B = Numbers} marked c.seen (missing_numbers c.seen) ≡ record { count = end_of c.seen; above = [] } = whole_numbers c.seen fit.ordered in
    let count : whole.seen.count ≡ end_of c.seen = ap (λ (x : Numbers). x.count) (seen ∙ all) in
    let reach : c.seen.count ≤ end_of c.seen = end_reaches c.seen in
    let old : whole.global ≡ c.global = ap (λ (x : Copy). x.global) (filled_is term (missing_numbers c.seen) c) in
    let knows : IsSound ops 0 (knowing whole.seen.count whole) = sound-knows ops 0 whole whole.seen.count made in
    let up : max whole.global whole.seen.count ≡ whole.seen.count = omega (arith, low, count, reach, old) in
    let risen : IsSound ops 0 (record whole { global = whole.seen.count }) = subst (λ (k : ℕ). IsSound ops 0 (record whole { global = k })) up knows in
    subst (λ (o : Option Copy). AreTrueStores (gave p.given copy (plugged (p.given copy) term (end_of_stale o))) (as_only_copy term c) []) (sym is) record {
      own = subst (λ (k : ℕ). IsSound (gave p.given copy ops k) 0 (record whole { global = whole.seen.count })) (sym number)
          (subst (λ (o : ℕ → Option Operation). IsSound o 0 (record whole { global = whole.seen.count })) (sym (gave-same p.given copy ops copy (itself copy))) risen);
      others = tt;
    }
  where
    end_reaches : (s : Numbers) → s.count ≤ end_of s
    end_reaches s = omega arith
