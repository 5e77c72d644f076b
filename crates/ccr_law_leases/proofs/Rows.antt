-- The events about a leader's copies keep what is true of their leases.
use Rattle.std.proofs.Common.{◌≡◌, ℕ, ◌+◌, ◌<◌, List, [], ◌∷◌, map, refl, inl, arith}
use Rattle.std.specs.Prelude.{Option, Some, None, ◌==◌}
use Rattle.ccr_op.specs.Operation.{Operation}
use Rattle.ccr_op.specs.declared.operation.Kind.TheVariants.{NoOp}
use Rattle.ccr_doc.specs.declared.sources.BadSource.{BadSource as SourceFault}
use Rattle.ccr_lease.specs.Leases.{Collection, supersedes}
use Rattle.ccr_journal.specs.declared.requests.WriteRequest.{WriteRequest}
use Rattle.ccr_law_base.proofs.Cases.{on_if, on_guards}
use Rattle.ccr_model.specs.Outcomes.{Outcome}
use Rattle.ccr_model.specs.Stores.{Store, flushed}
use Rattle.ccr_model.specs.Copies.{Copy, Replica, Copies, replica_of, replaced, without, changed_replica, changed_at, counted, taking, replica_in_step}
use Rattle.ccr_model.specs.CopyRows.{replicate_row, ack_row, taking_leases, add_copy_row, flush_row, merge_row, after_merge, succeeded, unknown}
use Rattle.ccr_model.specs.LeaderRows.{write_row, resync_row, filled, as_primary, missing_numbers}
use Rattle.ccr_model.specs.LeaseHistory.{LeaseNote}
use Rattle.ccr_law_leases.specs.TrueLeases.{AgreeWithNotes, AreBehind, AreTrueLeases, AreTrueLeasesOf}
use Rattle.ccr_law_base.proofs.Lists.{All-weaker, All-append, All-map, All-find, All-replaced, All-changed, All-without}
use Rattle.ccr_law_leases.proofs.Collections.{agree-risen, behind-term}

-- a replica takes the place of one
pub true-replaced : (notes : List LeaseNote) (s : Copies) (copy : ℕ) (new : Replica) → AreBehind notes s.primary.leases new.copy.leases new.copy.floor
    → AreTrueLeasesOf notes s → AreTrueLeasesOf notes (record s { replicas = replaced copy new s.replicas })
true-replaced notes s copy new own are = record {
  agree = are.agree;
  current = are.current;
  behind = All-replaced (λ (r : Replica). AreBehind notes s.primary.leases r.copy.leases r.copy.floor) copy new s.replicas own are.behind;
}

-- what is true of the replica that a number finds
pub behind-found : (notes : List LeaseNote) (s : Copies) (copy : ℕ) (r : Replica) → replica_of s copy ≡ Some r → AreTrueLeasesOf notes s
    → AreBehind notes s.primary.leases r.copy.leases r.copy.floor
behind-found notes s copy r found are =
    (All-find (λ (r : Replica). AreBehind notes s.primary.leases r.copy.leases r.copy.floor) (λ r. r.copy.number == copy) s.replicas r are.behind found).0

pub write-true : (notes : List LeaseNote) (s : Copies) (request : WriteRequest) (fault : Option SourceFault) (found : Option Operation)
    → AreTrueLeasesOf notes s → AreTrueLeasesOf notes (write_row s request fault found).next
unfolding write_row
write-true notes s request (Some fault) found are = are
write-true notes s request None found are = on_guards (λ (o : Outcome Copies). AreTrueLeasesOf notes o.next) s _ _ (λ why. are) (λ tests. record { agree = are.agree; current = are.current; behind = are.behind })

pub replicate-true : (notes : List LeaseNote) (s : Copies) (copy seq : ℕ) (found : Option Replica) → replica_of s copy ≡ found
    → AreTrueLeasesOf notes s → AreTrueLeasesOf notes (replicate_row s copy seq found).next
unfolding replicate_row
replicate-true notes s copy seq None is are = are
replicate-true notes s copy seq (Some r) is are =
    on_guards (λ (o : Outcome Copies). AreTrueLeasesOf notes o.next) s _ _ (λ why. are) (λ tests. true-replaced notes s copy _ (behind-found notes s copy r is are) are)

pub ack-true : (notes : List LeaseNote) (s : Copies) (copy : ℕ) (found : Option Replica) → replica_of s copy ≡ found
    → AreTrueLeasesOf notes s → AreTrueLeasesOf notes (ack_row s copy found).next
unfolding ack_row
ack-true notes s copy None is are = are
ack-true notes s copy (Some r) is are =
    on_guards (λ (o : Outcome Copies). AreTrueLeasesOf notes o.next) s _ _ (λ why. are) (λ tests. true-replaced notes s copy _ (behind-found notes s copy r is are) are)

pub resync-true : (notes : List LeaseNote) (s : Copies) (copy : ℕ) (found : Option Replica) → replica_of s copy ≡ found
    → AreTrueLeasesOf notes s → AreTrueLeasesOf notes (resync_row s copy found).next
unfolding resync_row
resync-true notes s copy None is are = are
resync-true notes s copy (Some r) is are =
    on_if (λ (o : Outcome Copies). AreTrueLeasesOf notes o.next) r.resynced _ _ (λ already. are) (λ not_yet. true-replaced notes s copy _ (behind-found notes s copy r is are) are)

-- the replica has the primary's leases where these supersede its own
pub sync-behind : (notes : List LeaseNote) (primary own : Copy) → AgreeWithNotes notes primary.leases.leases primary.floor → AreBehind notes primary.leases own.leases own.floor
    → AreBehind notes primary.leases (taking_leases primary own).leases (taking_leases primary own).floor
sync-behind notes primary own agree behind =
    on_if (λ (c : Copy). AreBehind notes primary.leases c.leases c.floor) (supersedes primary.leases own.leases) (record own { leases = primary.leases }) own
    (λ newer. record {
      agree = record { numbers = agree.numbers; there = agree.there; floor = behind.agree.floor };
      behind = inl refl;
      earlier = omega arith;
    })
    (λ not_newer. behind)

pub fail-copy-true : (notes : List LeaseNote) (s : Copies) (copy : ℕ) → AreTrueLeasesOf notes s → AreTrueLeasesOf notes (counted record s { replicas = without copy s.replicas })
fail-copy-true notes s copy are = record {
  agree = are.agree;
  current = are.current;
  behind = All-without (λ (r : Replica). AreBehind notes s.primary.leases r.copy.leases r.copy.floor) copy s.replicas are.behind;
}

pub add-copy-true : (notes : List LeaseNote) (s : Copies) → AreTrueLeasesOf notes s → AreTrueLeasesOf notes (add_copy_row s).next
unfolding add_copy_row
add-copy-true notes s are =
    on_guards (λ (o : Outcome Copies). AreTrueLeasesOf notes o.next) s _ _ (λ why. are) (λ tests. record {
      agree = are.agree;
      current = are.current;
      behind = All-append (λ (r : Replica). AreBehind notes s.primary.leases r.copy.leases r.copy.floor) s.replicas
          (replica_in_step (record s.primary { number = s.next }) s.primary.seen.count ∷ []) are.behind
          (record { agree = are.agree; behind = inl refl; earlier = omega arith }, tt);
    })

-- ---- what is done to one copy's store, floor and commit count

abbrev pub inside : (Copy → Store) → (Copy → ℕ) → (Copy → ℕ) → Copy → Copy
inside store floor commit c = record c { store = store c; floor = floor c; commit = commit c }

pub changed-true : (notes : List LeaseNote) (store : Copy → Store) (floor commit : Copy → ℕ) (copy : ℕ) (s : Copies)
    → ((c : Copy) → AgreeWithNotes notes c.leases.leases c.floor → AgreeWithNotes notes c.leases.leases (floor c))
    → AreTrueLeasesOf notes s → AreTrueLeasesOf notes (changed_at copy (inside store floor commit) s)
changed-true notes store floor commit copy s keeps are =
    on_if (λ (c : Copies). AreTrueLeasesOf notes c) (s.primary.number == copy) (record s { primary = inside store floor commit s.primary })
    (record s { replicas = changed_replica copy (inside store floor commit) s.replicas })
    (λ first. record { agree = keeps s.primary are.agree; current = are.current; behind = are.behind })
    (λ other. record {
      agree = are.agree;
      current = are.current;
      behind = All-changed (λ (r : Replica). AreBehind notes s.primary.leases r.copy.leases r.copy.floor) (λ (r : Replica). AreBehind notes s.primary.leases r.copy.leases r.copy.floor)
          copy (inside store floor commit) (λ r own. own) (λ r is own. record { agree = keeps r.copy own.agree; behind = own.behind; earlier = own.earlier }) s.replicas are.behind;
    })

pub flush-true : (notes : List LeaseNote) (s : Copies) (copy : ℕ) (found : Option Copy) → AreTrueLeasesOf notes s → AreTrueLeasesOf notes (flush_row s copy found).next
unfolding flush_row
flush-true notes s copy None are = are
flush-true notes s copy (Some c) are = changed-true notes (λ own. flushed own.store) (λ own. own.floor) (λ own. own.global) copy s (λ own agree. agree) are

pub merge-true : (notes : List LeaseNote) (s : Copies) (retention copy : ℕ) (picks : List ℕ) (found : Option Copy)
    → AreTrueLeasesOf notes s → AreTrueLeasesOf notes (merge_row s retention copy picks found).next
unfolding merge_row
merge-true notes s retention copy picks None are = are
merge-true notes s retention copy picks (Some c) are =
    changed-true notes (λ own. (after_merge retention picks own).store) (λ own. (after_merge retention picks own).floor) (λ own. own.commit) copy s
    (λ own agree. agree-risen notes own.leases.leases own.floor _ agree) are

-- ---- promotions

-- no-ops change neither leases nor floor
filled-same : (P : Collection → ℕ → Type 0) (term : ℕ) (numbers : List ℕ) (c : Copy) → P c.leases c.floor → P (filled term numbers c).leases (filled term numbers c).floor
filled-same P term [] c it = it
filled-same P term (n ∷ numbers) c it = filled-same P term numbers (taking c n (Some record { seq = n; term = term; version = 0; kind = NoOp })) it

-- a collection of the next term has each replica's behind it
promoted : (notes : List LeaseNote) (s : Copies) (copy : ℕ) (leases : Collection) (low : ℕ) → AgreeWithNotes notes leases.leases low → AreTrueLeasesOf notes s
    → AreTrueLeases notes (s.term + 1) (record leases { term = s.term + 1 }) low (map {A = Replica} {B = Replica} unknown (without copy s.replicas))
promoted notes s copy leases low agree are = record {
  agree = record { numbers = agree.numbers; there = agree.there; floor = agree.floor };
  current = refl;
  behind = All-map (λ (r : Replica). AreBehind notes (record leases { term = s.term + 1 }) r.copy.leases r.copy.floor) unknown (without copy s.replicas)
      (All-without (λ (r : Replica). AreBehind notes (record leases { term = s.term + 1 }) r.copy.leases r.copy.floor) copy s.replicas
      (All-weaker (λ (r : Replica). AreBehind notes s.primary.leases r.copy.leases r.copy.floor)
      (λ (r : Replica). AreBehind notes (record leases { term = s.term + 1 }) r.copy.leases r.copy.floor)
      (λ r own. let older : r.copy.leases.term < s.term + 1 = (let e = own.earlier in let now = are.current in omega arith) in
      record { agree = own.agree; behind = behind-term (record leases { term = s.term + 1 }) r.copy.leases older; earlier = omega arith })
      s.replicas are.behind));
}

pub promote-true : (notes : List LeaseNote) (s : Copies) (copy : ℕ) (r : Replica) → replica_of s copy ≡ Some r
    → AreTrueLeasesOf notes s → AreTrueLeasesOf notes (succeeded s copy (as_primary (s.term + 1) r.copy) unknown)
promote-true notes s copy r is are =
    filled-same (λ (leases : Collection) (low : ℕ). AreTrueLeases notes (s.term + 1) (record leases { term = s.term + 1 }) low (map {A = Replica} {B = Replica} unknown (without copy s.replicas)))
    (s.term + 1) (missing_numbers r.copy.seen) r.copy (promoted notes s copy r.copy.leases r.copy.floor (behind-found notes s copy r is are).agree are)
