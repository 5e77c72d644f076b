-- Writes, copying, flushes, merges, a new copy and expiry: a lease that some copy lacked is still lacked, and a copy that was there still is.
use Rattle.std.specs.Prelude.{is_some, find, filter}
use Rattle.std.specs.List.{list_any, list_all}
use Rattle.std.proofs.Common.{◌≡◌, ℕ, ◌+◌, ◌==◌, ◌&&◌, not, Bool, true, false, cond, Option, Some, None, List, [], ◌∷◌, ◌++◌, refl, ap}
use Rattle.std.specs.Str.{bytes_eq}
use Rattle.ccr_op.specs.Operation.{Operation}
use Rattle.ccr_doc.specs.declared.sources.BadSource.{BadSource as SourceFault}
use Rattle.ccr_lease.specs.declared.retention.Lease.{Lease}
use Rattle.ccr_lease.specs.Leases.{Collection, lease_of, has_expired, unexpired, after_expiry}
use Rattle.ccr_journal.specs.declared.requests.WriteRequest.{WriteRequest}
use Rattle.ccr_law_base.proofs.Cases.{on_if, on_guards}
use Rattle.ccr_model.specs.Stores.{flushed}
use Rattle.ccr_model.specs.Outcomes.{Outcome}
use Rattle.ccr_model.specs.Copies.{Copy, Replica, Copies, replica_of, has_lease, replica_in_step, replaced, changed_at, counted}
use Rattle.ccr_model.specs.CopyRows.{replicate_row, after_ack, ack_row, add_copy_row, flush_row, after_merge, merge_row}
use Rattle.ccr_model.specs.Leaders.{Leader}
use Rattle.ccr_model.specs.LeaderRows.{write_row, resync_row, expire_row}
use Rattle.ccr_law_base.proofs.Tests.{or-more}
use Rattle.ccr_law_settling_grounds.proofs.Wait.Alike.{copies_in, is_among, same_replaced, same_changed, stays_there}
use Rattle.ccr_law_settling_grounds.proofs.Wait.Staying.{LacksAndStays, stays_alike}

abbrev pub Stays : Copies → Outcome Copies → Type 0
Stays s o = LacksAndStays s o.next

pub stays_same : (s : Copies) → LacksAndStays s s
stays_same s = record { lacks = λ id lacks. lacks; there = λ copy there. there }

pub write_stays : (s : Copies) (request : WriteRequest) (fault : Option SourceFault) (found : Option Operation) → Stays s (write_row s request fault found)
unfolding write_row
write_stays s request (Some fault) found = stays_same s
write_stays s request None found = on_guards (Stays s) s _ _ (λ why. stays_same s) (λ tests. stays_alike s _ refl refl)

-- ---- events about a replica

-- the one that was found gives its place to one with its number and its leases, and the primary may learn a global count
replaced_stays : (s : Copies) (global copy : ℕ) (old new : Replica) → replica_of s copy ≡ Some old → new.copy.leases ≡ old.copy.leases → new.copy.number ≡ old.copy.number
    → LacksAndStays s (record s { primary = record s.primary { global = global }; replicas = replaced copy new s.replicas })
replaced_stays s global copy old new found leases number =
    stays_alike s (record s { primary = record s.primary { global = global }; replicas = replaced copy new s.replicas })
    (ap (λ cs. s.primary.leases ∷ cs) (same_replaced (λ (c : Copy). c.leases) copy old new s.replicas found leases))
    (ap (λ ns. s.primary.number ∷ ns) (same_replaced (λ (c : Copy). c.number) copy old new s.replicas found number))

pub replicate_stays : (s : Copies) (copy seq : ℕ) (found : Option Replica) → replica_of s copy ≡ found → Stays s (replicate_row s copy seq found)
unfolding replicate_row
replicate_stays s copy seq None is = stays_same s
replicate_stays s copy seq (Some r) is = on_guards (Stays s) s _ _ (λ why. stays_same s) (λ tests. replaced_stays s s.primary.global copy r _ is refl refl)

pub ack_stays : (s : Copies) (copy : ℕ) (found : Option Replica) → replica_of s copy ≡ found → Stays s (ack_row s copy found)
unfolding ack_row
ack_stays s copy None is = stays_same s
ack_stays s copy (Some r) is = on_guards (Stays s) s _ _ (λ why. stays_same s) (λ tests. replaced_stays s (after_ack s copy r).primary.global copy r _ is refl refl)

pub resync_stays : (s : Copies) (copy : ℕ) (found : Option Replica) → replica_of s copy ≡ found → Stays s (resync_row s copy found)
unfolding resync_row
resync_stays s copy None is = stays_same s
resync_stays s copy (Some r) is = on_if (Stays s) r.resynced _ _ (λ already. stays_same s) (λ not_yet. replaced_stays s s.primary.global copy r _ is refl refl)

-- ---- events about any copy

changed_stays : (s : Copies) (copy : ℕ) (change : Copy → Copy) → ((c : Copy) → (change c).leases ≡ c.leases) → ((c : Copy) → (change c).number ≡ c.number)
    → LacksAndStays s (changed_at copy change s)
changed_stays s copy change leases number =
    stays_alike s (changed_at copy change s) (same_changed (λ (c : Copy). c.leases) copy change s leases) (same_changed (λ (c : Copy). c.number) copy change s number)

pub flush_stays : (s : Copies) (copy : ℕ) (found : Option Copy) → Stays s (flush_row s copy found)
unfolding flush_row
flush_stays s copy None = stays_same s
flush_stays s copy (Some c) = changed_stays s copy (λ own. record own { store = flushed own.store; commit = own.global }) (λ own. refl) (λ own. refl)

pub merge_stays : (s : Copies) (retention copy : ℕ) (picks : List ℕ) (found : Option Copy) → Stays s (merge_row s retention copy picks found)
unfolding merge_row
merge_stays s retention copy picks None = stays_same s
merge_stays s retention copy picks (Some c) = changed_stays s copy (after_merge retention picks) (λ own. refl) (λ own. refl)

-- ---- a copy more

and_fails_by_second : (a b c : Bool) → (b ≡ false → c ≡ false) → (a && b) ≡ false → (a && c) ≡ false
and_fails_by_second false b c goes_on fails = refl
and_fails_by_second true b c goes_on fails = goes_on fails

-- each replica has the lease
abbrev each_holds : List ℕ → List Replica → Bool
each_holds id rs = list_all (has_lease id) (copies_in rs)

lacked_longer : (id : List ℕ) (rs more : List Replica) → each_holds id rs ≡ false → each_holds id (rs ++ more) ≡ false
lacked_longer id [] more fails = absurd cc
lacked_longer id (r ∷ rs) more fails =
    and_fails_by_second (has_lease id r.copy) (each_holds id rs) (each_holds id (rs ++ more)) (lacked_longer id rs more) fails

among_longer : (k : ℕ) (rs more : List Replica) → is_among k rs ≡ true → is_among k (rs ++ more) ≡ true
among_longer k [] more found = absurd cc
among_longer k (r ∷ rs) more found =
    or-more (r.copy.number == k) (is_among k rs) (is_among k (rs ++ more)) (among_longer k rs more) found

pub add_copy_stays : (s : Copies) → Stays s (add_copy_row s)
unfolding add_copy_row
add_copy_stays s =
    on_guards (Stays s) s _ _ (λ why. stays_same s) (λ tests.
    let new : Replica = replica_in_step (record s.primary { number = s.next }) s.primary.seen.count in
    let next : Copies = counted record s { replicas = s.replicas ++ new ∷ []; next = s.next + 1 } in
    record {
      lacks = λ id lacks.
          and_fails_by_second (has_lease id s.primary) (each_holds id s.replicas) (each_holds id (s.replicas ++ new ∷ [])) (lacked_longer id s.replicas (new ∷ [])) lacks;
      there = λ k there. stays_there s next k
          (or-more (s.primary.number == k) (is_among k s.replicas) (is_among k (s.replicas ++ new ∷ [])) (among_longer k s.replicas (new ∷ []))) there;
    })

-- ---- leases less

none_filtered : {X : Type 0} (test keep : X → Bool) (xs : List X) → is_some (find test xs) ≡ false → is_some (find test (filter keep xs)) ≡ false
none_filtered test keep [] none = refl
none_filtered test keep (x ∷ xs) none =
    elim (test x) as (λ b. test x ≡ b → is_some (cond b (Some x) (find test xs)) ≡ false → is_some (find test (filter keep (x ∷ xs))) ≡ false) [
      | true ↦ λ is some. absurd cc
      | false ↦ λ isnt some. on_if (λ (ys : List _). is_some (find test ys) ≡ false) (keep x) (x ∷ filter keep xs) (filter keep xs)
          (λ kept. rw isnt (none_filtered test keep xs some)) (λ gone. none_filtered test keep xs some)
    ] refl none

lacking_after_expiry : (id : List ℕ) (now period : ℕ) (c : Collection) → is_some (lease_of id c.leases) ≡ false → is_some (lease_of id (after_expiry now period c).leases) ≡ false
lacking_after_expiry id now period c none =
    on_if (λ (next : Collection). is_some (lease_of id next.leases) ≡ false) (list_any (has_expired now period) c.leases)
    (record c { version = c.version + 1; leases = unexpired now period c.leases }) c
    (λ some. none_filtered (λ (lease : Lease). bytes_eq lease.id id) (λ (lease : Lease). not (has_expired now period lease)) c.leases none) (λ isnt. none)

and_fails_by_first : (a b c : Bool) → (a ≡ false → b ≡ false) → (a && c) ≡ false → (b && c) ≡ false
and_fails_by_first true true c first fails = fails
and_fails_by_first true false c first fails = refl
and_fails_by_first false b c first fails = rw (first refl) refl

pub expire_stays : (l : Leader) → LacksAndStays l.copies (expire_row l).next.copies
unfolding expire_row
expire_stays l =
    let primary = l.copies.primary in
    record {
      lacks = λ id lacks. and_fails_by_first (has_lease id primary) (is_some (lease_of id (after_expiry l.now l.start.period primary.leases).leases))
          (each_holds id l.copies.replicas) (lacking_after_expiry id l.now l.start.period primary.leases) lacks;
      there = λ k there. stays_there l.copies (expire_row l).next.copies k (λ number. number) there;
    }
