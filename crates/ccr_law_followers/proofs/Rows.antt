-- What each event about a follower's copies makes of the claims on them.
use Rattle.std.specs.List.{AllByRecursion}
use Rattle.std.specs.Prelude.{slice_get}
use Rattle.std.proofs.Common.{◌≡◌, ℕ, ◌+◌, ◌≤◌, ◌==◌, max, Bool, true, false, if◌then◌else◌, Option, Some, None, is_some, List, [], ◌∷◌, ◌++◌, refl, sym, ◌∙◌, ap, subst, arith}
use Rattle.std.proofs.lemmas.Bool.Decides.{nat_tests}
use Rattle.ccr_op.specs.Operation.{Operation}
use Rattle.ccr_tracker.specs.Numbers.{has, marked}
use Rattle.ccr_lease.specs.Leases.{supersedes}
use Rattle.ccr_journal.specs.declared.sides.Side.TheVariants as sides
use Rattle.ccr_journal.specs.declared.events.Event.TheVariants as events
use Rattle.ccr_journal.specs.declared.replies.Reply.TheVariants as replies
use Rattle.ccr_model.specs.Outcomes.{Outcome, within}
use Rattle.ccr_model.specs.Operations.{has_number, op_at}
use Rattle.ccr_model.specs.Stores.{held, flushed, merged, stored_if_some, Store}
use Rattle.ccr_model.specs.Copies.{Copy, Replica, Copies, replica_of, replaced, taking, knowing, changed_at, changed_replica, least_known}
use Rattle.ccr_model.specs.CopyRows.{replicate_row, ack_row, sync_row, fail_copy_row, add_copy_row, flush_row, merge_row, follower_promote_row, merge_bound, risen_floor, taking_leases}
use Rattle.ccr_model.specs.Given.{IsAmong, gave, gaining}
use Rattle.ccr_model.specs.Followers.{Follower}
use Rattle.ccr_model.specs.FollowerRows.{with_copies, is_bootstrapping, follower_add_copy_row}
use Rattle.ccr_model.specs.Past.{Line, FollowerPast, WrittenBatch}
use Rattle.ccr_model.specs.FrameFacts.{IsCommitted}
use Rattle.ccr_law_base.proofs.Cases.{on_if, on_guards}
use Rattle.ccr_law_copies.proofs.Replicas.{least_known-replaced, least_known-changed}
use Rattle.ccr_law_copies.proofs.CopyChanges.{some-of}
use Rattle.ccr_law_copies.proofs.Sets.{count-marked}
use Rattle.ccr_law_copies.proofs.LeaderRows.{inside}
use Rattle.ccr_law_stores.proofs.Counting.{in-find, found_at}
use Rattle.ccr_law_stores.proofs.CopyChanges.{store-flushes}
use Rattle.ccr_law_stores.proofs.Merging.{copy-merges}
use Rattle.ccr_law_followers.specs.TrueCopies.{ReplicaOk, CopiesOk, CopiesOf}
use Rattle.ccr_law_followers.proofs.One.{copy-knows, copy-takes}
use Rattle.ccr_law_followers.proofs.Several.{Found, found_in, recounted, one_given, one_kept, left, newcomer, added, promoted, promoted-rises, changed_inside}
use Rattle.ccr_law_followers.proofs.After.{OkOf, OkAfter, RowOk, settled}
use Rattle.std.proofs.lemmas.Bool.{not-false}
use Rattle.ccr_law_base.proofs.Lists.{All-in}
use Rattle.ccr_law_base.proofs.Tests.{itself}

-- ---- replications

-- what a copy holds of a number that it was given
pub held_at : (ops : ℕ → Option Operation) (xs : List Operation) (seq : ℕ) (op : Operation) → AllByRecursion (IsAmong ops) xs → has_number xs seq ≡ true → ops seq ≡ Some op
    → op_at seq xs ≡ Some op
held_at ops xs seq op all there given =
    let at : (x : Operation) × (op_at seq xs ≡ Some x) × (x.seq ≡ seq) = found_at xs seq there in
    let own : ops at.0.seq ≡ Some at.0 = All-in (IsAmong ops) xs at.0 all (in-find seq xs at.0 at.1) in
    at.1 ∙ (sym own ∙ (ap ops at.2 ∙ given))

-- what is taken doesn't matter where the number was processed
pub taking-op : (c : Copy) (seq : ℕ) (o : Option Operation) (op : Operation) → (has c.seen seq ≡ false → o ≡ Some op) → taking c seq o ≡ taking c seq (Some op)
taking-op c seq o op is =
    (elim (has c.seen seq) as (λ b. has c.seen seq ≡ b
    → ◌≡◌ {A = Copy} (record c { seen = marked c.seen seq; store = if b then c.store else stored_if_some o c.store })
    (record c { seen = marked c.seen seq; store = if b then c.store else stored_if_some (Some op) c.store })) [
      | true ↦ λ there. refl
      | false ↦ λ out. ap (λ (x : Option Operation). record c { seen = marked c.seen seq; store = stored_if_some x c.store }) (is out)
    ]) refl

-- the replica takes the primary's operation
pub replicated : (line : Line) (given : ℕ → ℕ → Option Operation) (restored : ℕ) (written : List WrittenBatch) (s : Copies) (copy seq : ℕ) (r : Replica)
    → CopiesOf line given restored written s → Found line given restored written s copy r → has s.primary.seen seq ≡ true
    → CopiesOk line (gave given copy (gaining (given copy) seq (slice_get line.ops seq))) restored written s.primary
    (replaced copy (record r { copy = knowing s.primary.global (taking r.copy seq (op_at seq (held s.primary.store))) }) s.replicas) s.next
replicated line given restored written s copy seq r ok is there =
    let at : (op : Operation) × (given s.primary.number seq ≡ Some op) = some-of (given s.primary.number seq) (sym (ok.own.processed seq) ∙ there) in
    let op = at.0 in
    let number : op.seq ≡ seq = (ok.own.committed seq op at.1).1 in
    let place : slice_get line.ops seq ≡ Some op = subst (λ (n : ℕ). slice_get line.ops n ≡ Some op) number (ok.own.committed seq op at.1).0.same in
    subst (λ (o : Option Operation). CopiesOk line (gave given copy (gaining (given copy) seq o)) restored written s.primary
    (replaced copy (record r { copy = knowing s.primary.global (taking r.copy seq (op_at seq (held s.primary.store))) }) s.replicas) s.next) (sym place)
    (subst (λ (c : Copy). CopiesOk line (gave given copy (gaining (given copy) seq (Some op))) restored written s.primary
    (replaced copy (record r { copy = knowing s.primary.global c }) s.replicas) s.next) (sym (taking-op r.copy seq (op_at seq (held s.primary.store)) op (holds op at.1)))
    (one_given line given restored written s copy r (record r { copy = knowing s.primary.global (taking r.copy seq (Some op)) }) (gaining (given copy) seq (Some op)) ok is refl
    (made op (ok.own.committed seq op at.1).0 number)))
  where
    holds : (op : Operation) → given s.primary.number seq ≡ Some op → has r.copy.seen seq ≡ false → op_at seq (held s.primary.store) ≡ Some op
    holds op given_is out =
        let high : r.copy.seen.count ≤ seq = grind (arith, nat_tests) in
        let level : s.primary.global ≤ r.copy.seen.count = is.replica.level in
        let floor : s.primary.floor ≤ s.primary.global = ok.own.store.low in
        let since : restored ≤ s.primary.global = ok.own.store.since in
        held_at (given s.primary.number) (held s.primary.store) seq op ok.own.store.ours
        (ok.own.store.kept seq (omega arith) (ap (λ (o : Option Operation). is_some o) given_is)) given_is

    made : (op : Operation) → IsCommitted line op → op.seq ≡ seq
        → ReplicaOk line (gaining (given copy) seq (Some op)) restored written s.primary.number s.primary.global s.next
        (record r { copy = knowing s.primary.global (taking r.copy seq (Some op)) })
    made op committed number =
        let level : s.primary.global ≤ r.copy.seen.count = is.replica.level in
        let behind : r.copy.global ≤ s.primary.global = is.replica.behind in
        let known : r.known ≤ r.copy.seen.count = is.replica.truly in
        let more : r.copy.seen.count ≤ (marked r.copy.seen seq).count = count-marked r.copy.seen seq in
        record {
          copy = copy-knows line (gaining (given copy) seq (Some op)) restored written s.next (taking r.copy seq (Some op)) (max r.copy.global s.primary.global) (omega arith) (omega arith)
              (copy-takes line (given copy) restored written s.next r.copy seq op committed number is.replica.copy);
          other = is.replica.other;
          truly = omega arith;
          behind = omega arith;
          level = omega arith;
          resynced = is.replica.resynced;
          acked = is.replica.acked;
        }

pub replicate_ok : (line : Line) (f : ℕ) (past : FollowerPast) (s : Follower) (copy seq : ℕ) (found : Option Replica) → replica_of s.copies copy ≡ found → OkOf line past s
    → RowOk line f past (events.Replicate (sides.Follower f) copy seq) s (within (with_copies s) (replicate_row s.copies copy seq found))
unfolding replicate_row
replicate_ok line f past s copy seq None is ok = settled line f past _ _ s (with_copies s s.copies) past.given past.written refl refl refl refl (omega arith) ok
replicate_ok line f past s copy seq (Some r) is ok =
    on_guards (λ (o : Outcome Copies). RowOk line f past (events.Replicate (sides.Follower f) copy seq) s (within (with_copies s) o)) s.copies _ _
    (λ why. settled line f past (events.Replicate (sides.Follower f) copy seq) (replies.Refused why) s (with_copies s s.copies) past.given past.written refl refl refl refl (omega arith) ok)
    (λ tests. taken (not-false (has s.copies.primary.seen seq) tests.1.0))
  where
    never : has s.copies.primary.seen seq ≡ true → has s.copies.primary.seen seq ≡ is_some (past.given s.copies.primary.number seq)
        → is_some (past.given s.copies.primary.number seq) ≡ false → ⊥
    never there same none = cc

    taken : has s.copies.primary.seen seq ≡ true → OkAfter line f past (events.Replicate (sides.Follower f) copy seq) replies.Done s
        (with_copies s (record s.copies {
          replicas = replaced copy (record r { copy = knowing s.copies.primary.global (taking r.copy seq (op_at seq (held s.copies.primary.store))) }) s.copies.replicas;
        }))
    taken there =
        settled line f past (events.Replicate (sides.Follower f) copy seq) replies.Done s
        (with_copies s (record s.copies {
          replicas = replaced copy (record r { copy = knowing s.copies.primary.global (taking r.copy seq (op_at seq (held s.copies.primary.store))) }) s.copies.replicas;
        }))
        (gave past.given copy (gaining (past.given copy) seq (slice_get line.ops seq))) past.written
        (ap (λ (b : Bool). if b then gave past.given copy (gaining (past.given copy) seq (slice_get line.ops seq)) else past.given) (itself f)) refl refl refl (omega arith)
        (record {
          copies = replicated line past.given past.restored past.written s.copies copy seq r ok.copies
              (found_in line past.given past.restored past.written s.copies copy r ok.copies is) there;
          counted = subst (λ (k : ℕ). k ≤ s.copies.primary.global) (sym (least_known-replaced s.copies.primary.seen.count copy r
              (record r { copy = knowing s.copies.primary.global (taking r.copy seq (op_at seq (held s.copies.primary.store))) }) s.copies.replicas is refl)) ok.counted;
          fresh = λ bootstrapping. absurd (never there (ok.copies.own.processed seq)
              (ap (λ (o : Option Operation). is_some o) ((ok.fresh bootstrapping).none s.copies.primary.number seq)));
        })

-- ---- acks and syncs

pub ack_ok : (line : Line) (f : ℕ) (past : FollowerPast) (s : Follower) (copy : ℕ) (found : Option Replica) → replica_of s.copies copy ≡ found → OkOf line past s
    → RowOk line f past (events.Ack (sides.Follower f) copy) s (within (with_copies s) (ack_row s.copies copy found))
unfolding ack_row
ack_ok line f past s copy None is ok = settled line f past _ _ s (with_copies s s.copies) past.given past.written refl refl refl refl (omega arith) ok
ack_ok line f past s copy (Some r) is ok =
    on_guards (λ (o : Outcome Copies). RowOk line f past (events.Ack (sides.Follower f) copy) s (within (with_copies s) o)) s.copies _ _
    (λ why. settled line f past (events.Ack (sides.Follower f) copy) (replies.Refused why) s (with_copies s s.copies) past.given past.written refl refl refl refl (omega arith) ok)
    (λ tests.
    let found : Found line past.given past.restored past.written s.copies copy r = found_in line past.given past.restored past.written s.copies copy r ok.copies is in
    let new : Replica = record r { known = r.copy.seen.count; acked = true } in
    settled line f past (events.Ack (sides.Follower f) copy) _ s _ past.given past.written refl refl refl refl (omega arith)
    (record {
      copies = recounted line past.given past.restored past.written s.copies.primary (replaced copy new s.copies.replicas) s.copies.next
          (one_kept line past.given past.restored past.written s.copies copy r new ok.copies found refl (record {
            copy = found.replica.copy;
            other = found.replica.other;
            truly = omega arith;
            behind = found.replica.behind;
            level = found.replica.level;
            resynced = found.replica.resynced;
            acked = refl;
          }));
      counted = omega arith;
      fresh = ok.fresh;
    }))

-- leases play no role
pub leases_aside : (line : Line) (ops : ℕ → Option Operation) (restored : ℕ) (written : List WrittenBatch) (primary global next : ℕ) (r : Replica) (other c : Copy)
    → ReplicaOk line ops restored written primary global next (record r { copy = c })
    → ReplicaOk line ops restored written primary global next (record r { copy = taking_leases other c })
leases_aside line ops restored written primary global next r other c ok =
    on_if (λ (x : Copy). ReplicaOk line ops restored written primary global next (record r { copy = x })) (supersedes other.leases c.leases) (record c { leases = other.leases }) c
    (λ is. record {
      copy = record {
        old = ok.copy.old;
        committed = ok.copy.committed;
        processed = ok.copy.processed;
        ordered = ok.copy.ordered;
        reached = ok.copy.reached;
        store = ok.copy.store;
        all = ok.copy.all;
      };
      other = ok.other;
      truly = ok.truly;
      behind = ok.behind;
      level = ok.level;
      resynced = ok.resynced;
      acked = ok.acked;
    })
    (λ isnt. ok)

pub sync_ok : (line : Line) (f : ℕ) (past : FollowerPast) (s : Follower) (copy : ℕ) (found : Option Replica) → replica_of s.copies copy ≡ found → OkOf line past s
    → RowOk line f past (events.Sync (sides.Follower f) copy) s (within (with_copies s) (sync_row s.copies copy found))
unfolding sync_row
sync_ok line f past s copy None is ok = settled line f past _ _ s (with_copies s s.copies) past.given past.written refl refl refl refl (omega arith) ok
sync_ok line f past s copy (Some r) is ok =
    on_guards (λ (o : Outcome Copies). RowOk line f past (events.Sync (sides.Follower f) copy) s (within (with_copies s) o)) s.copies _ _
    (λ why. settled line f past (events.Sync (sides.Follower f) copy) (replies.Refused why) s (with_copies s s.copies) past.given past.written refl refl refl refl (omega arith) ok)
    (λ tests.
    let found : Found line past.given past.restored past.written s.copies copy r = found_in line past.given past.restored past.written s.copies copy r ok.copies is in
    let level : s.copies.primary.global ≤ r.copy.seen.count = found.replica.level in
    let behind : r.copy.global ≤ s.copies.primary.global = found.replica.behind in
    let new : Replica = record r { copy = taking_leases s.copies.primary (knowing s.copies.primary.global r.copy) } in
    settled line f past (events.Sync (sides.Follower f) copy) replies.Done s (with_copies s (record s.copies { replicas = replaced copy new s.copies.replicas }))
    past.given past.written refl refl refl refl (omega arith)
    (record {
      copies = one_kept line past.given past.restored past.written s.copies copy r new ok.copies found
          (on_if (λ (x : Copy). x.number ≡ r.copy.number) (supersedes s.copies.primary.leases r.copy.leases) _ _ (λ yes. refl) (λ other. refl))
          (leases_aside line (past.given copy) past.restored past.written s.copies.primary.number s.copies.primary.global s.copies.next r s.copies.primary
          (knowing s.copies.primary.global r.copy)
          (record {
            copy = copy-knows line (past.given copy) past.restored past.written s.copies.next r.copy (max r.copy.global s.copies.primary.global) (omega arith) (omega arith)
                found.replica.copy;
            other = found.replica.other;
            truly = found.replica.truly;
            behind = omega arith;
            level = found.replica.level;
            resynced = found.replica.resynced;
            acked = found.replica.acked;
          }));
      counted = subst (λ (k : ℕ). k ≤ s.copies.primary.global) (sym (least_known-replaced s.copies.primary.seen.count copy r new s.copies.replicas is refl)) ok.counted;
      fresh = ok.fresh;
    }))

-- ---- copies that leave, come and are promoted

pub promote_ok : (line : Line) (f : ℕ) (past : FollowerPast) (s : Follower) (copy : ℕ) (found : Option Replica) → replica_of s.copies copy ≡ found → OkOf line past s
    → RowOk line f past (events.Promote (sides.Follower f) copy) s (within (with_copies s) (follower_promote_row s.copies copy found))
unfolding follower_promote_row
promote_ok line f past s copy None is ok = settled line f past _ _ s (with_copies s s.copies) past.given past.written refl refl refl refl (omega arith) ok
promote_ok line f past s copy (Some r) is ok =
    let found : Found line past.given past.restored past.written s.copies copy r = found_in line past.given past.restored past.written s.copies copy r ok.copies is in
    settled line f past (events.Promote (sides.Follower f) copy) _ s _ past.given past.written refl refl refl refl
    (promoted-rises line past.given past.restored past.written s.copies copy r ok.copies found)
    (record { copies = promoted line past.given past.restored past.written s.copies copy r ok.copies found; counted = omega arith; fresh = ok.fresh })

pub fail_copy_ok : (line : Line) (f : ℕ) (past : FollowerPast) (s : Follower) (copy : ℕ) (found : Option Replica) → OkOf line past s
    → RowOk line f past (events.FailCopy (sides.Follower f) copy) s (within (with_copies s) (fail_copy_row s.copies copy found))
unfolding fail_copy_row
fail_copy_ok line f past s copy None ok = settled line f past _ _ s (with_copies s s.copies) past.given past.written refl refl refl refl (omega arith) ok
fail_copy_ok line f past s copy (Some r) ok =
    settled line f past (events.FailCopy (sides.Follower f) copy) replies.Done s _ past.given past.written refl refl refl refl (omega arith)
    (record {
      copies = recounted line past.given past.restored past.written s.copies.primary _ s.copies.next (left line past.given past.restored past.written s.copies copy ok.copies);
      counted = omega arith;
      fresh = ok.fresh;
    })

pub add_copy_ok : (line : Line) (f : ℕ) (past : FollowerPast) (s : Follower) → OkOf line past s
    → RowOk line f past (events.AddCopy (sides.Follower f)) s (follower_add_copy_row s)
unfolding follower_add_copy_row add_copy_row
add_copy_ok line f past s ok =
    on_guards (RowOk line f past (events.AddCopy (sides.Follower f)) s) s _ _
    (λ why. settled line f past (events.AddCopy (sides.Follower f)) (replies.Refused why) s s past.given past.written refl refl refl refl (omega arith) ok)
    (λ over. on_guards (λ (o : Outcome Copies). RowOk line f past (events.AddCopy (sides.Follower f)) s (within (with_copies s) o)) s.copies _ _
    (λ why. settled line f past (events.AddCopy (sides.Follower f)) (replies.Refused why) s (with_copies s s.copies) past.given past.written refl refl refl refl (omega arith) ok)
    (λ tests.
    settled line f past (events.AddCopy (sides.Follower f)) (replies.Added s.copies.next) s _
    (gave past.given s.copies.next (past.given s.copies.primary.number)) past.written
    (ap (λ (b : Bool). if b then gave past.given s.copies.next (past.given s.copies.primary.number) else past.given) (itself f)) refl refl refl (omega arith)
    (record {
      copies = recounted line (gave past.given s.copies.next (past.given s.copies.primary.number)) past.restored past.written s.copies.primary
          (s.copies.replicas ++ newcomer s.copies ∷ []) (s.copies.next + 1) (added line past.given past.restored past.written s.copies ok.copies);
      counted = omega arith;
      fresh = λ bootstrapping. let isnt : is_bootstrapping s.work ≡ false = over.0 in cc;
    })))

-- ---- flushes and merges

-- a change inside a copy leaves the known counts
pub changed_counted : (s : Copies) (copy : ℕ) (store : Copy → Store) (floor commit : Copy → ℕ) → least_known s.primary.seen.count s.replicas ≤ s.primary.global
    → least_known (changed_at copy (inside store floor commit) s).primary.seen.count (changed_at copy (inside store floor commit) s).replicas
    ≤ (changed_at copy (inside store floor commit) s).primary.global
changed_counted s copy store floor commit counted =
    on_if (λ (t : Copies). least_known t.primary.seen.count t.replicas ≤ t.primary.global) (s.primary.number == copy)
    (record s { primary = inside store floor commit s.primary }) (record s { replicas = changed_replica copy (inside store floor commit) s.replicas })
    (λ own. counted)
    (λ other. subst (λ (k : ℕ). k ≤ s.primary.global) (sym (least_known-changed s.primary.seen.count copy (inside store floor commit) s.replicas)) counted)

pub flush_ok : (line : Line) (f : ℕ) (past : FollowerPast) (s : Follower) (copy : ℕ) (found : Option Copy) → OkOf line past s
    → RowOk line f past (events.Flush (sides.Follower f) copy) s (within (with_copies s) (flush_row s.copies copy found))
unfolding flush_row
flush_ok line f past s copy None ok = settled line f past _ _ s (with_copies s s.copies) past.given past.written refl refl refl refl (omega arith) ok
flush_ok line f past s copy (Some c) ok =
    settled line f past (events.Flush (sides.Follower f) copy) (replies.Flushed c.global) s _ past.given past.written refl refl refl refl
    (on_if (λ (t : Copies). s.copies.primary.global ≤ t.primary.global) (s.copies.primary.number == copy) _ _ (λ own. omega arith) (λ other. omega arith))
    (record {
      copies = changed_inside line past.given past.restored past.written s.copies copy (λ own. flushed own.store) (λ own. own.floor) (λ own. own.global)
          (λ ops own is. store-flushes ops past.restored own.store own.floor own.commit own.global is) ok.copies;
      counted = changed_counted s.copies copy (λ own. flushed own.store) (λ own. own.floor) (λ own. own.global) ok.counted;
      fresh = ok.fresh;
    })

pub merge_ok : (line : Line) (f : ℕ) (past : FollowerPast) (s : Follower) (copy : ℕ) (picks : List ℕ) (found : Option Copy) → OkOf line past s
    → RowOk line f past (events.Merge (sides.Follower f) copy) s (within (with_copies s) (merge_row s.copies s.retention copy picks found))
unfolding merge_row
merge_ok line f past s copy picks None ok = settled line f past _ _ s (with_copies s s.copies) past.given past.written refl refl refl refl (omega arith) ok
merge_ok line f past s copy picks (Some c) ok =
    settled line f past (events.Merge (sides.Follower f) copy) _ s _ past.given past.written refl refl refl refl
    (on_if (λ (t : Copies). s.copies.primary.global ≤ t.primary.global) (s.copies.primary.number == copy) _ _ (λ own. omega arith) (λ other. omega arith))
    (record {
      copies = changed_inside line past.given past.restored past.written s.copies copy
          (λ own. merged picks (merge_bound s.retention own) own.global own.store) (λ own. risen_floor s.retention own) (λ own. own.commit)
          (λ ops own is. copy-merges ops past.restored s.retention picks own is) ok.copies;
      counted = changed_counted s.copies copy (λ own. merged picks (merge_bound s.retention own) own.global own.store) (λ own. risen_floor s.retention own) (λ own. own.commit) ok.counted;
      fresh = ok.fresh;
    })
