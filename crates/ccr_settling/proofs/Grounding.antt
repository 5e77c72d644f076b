-- What holds where the leader's copies are served.
use Rattle.std.specs.List.{AllByRecursion, list_all, list_any}
use Rattle.std.specs.Str.{bytes_eq}
use Rattle.std.proofs.Common.{◌≡◌, ℕ, ◌==◌, ◌&&◌, ◌||◌, not, nat_lt, Bool, true, false, inl, inr, None, is_some, List, [], ◌∷◌, map, find, refl, sym, subst}
use Rattle.ccr_lease.specs.Leases.{Collection, lease_of, supersedes}
use Rattle.ccr_model.specs.Copies.{Copy, Replica, Copies, has_lease, not_ready}
use Rattle.ccr_model.specs.CopyFacts.{IsBehind}
use Rattle.ccr_model.specs.Leaders.{KeptRequest}
use Rattle.ccr_model.specs.LeaderRows.{all_hold}
use Rattle.ccr_model.specs.World.{State}
use Rattle.ccr_law_reached.specs.Reached.{KeptRequestsWait}
use Rattle.ccr_settling.specs.Idle.{NoneIsKept}
use Rattle.ccr_settling.specs.Served.{IsAcked, IsSynced, IsResynced, AreServedAtLeader}

-- ---- readiness

resynced_true : (b : Bool) → not b ≡ false → b ≡ true
resynced_true true is = refl
resynced_true false is = cc

acked_true : (a b c : Bool) → a ≡ true → (a && (b || not c)) ≡ false → c ≡ true
acked_true a b true here none = refl
acked_true true true false here none = cc
acked_true true false false here none = cc
acked_true false b false here none = cc

find-none : (s : Copies) (rs : List Replica) → AllByRecursion (IsResynced s) rs → AllByRecursion (IsAcked s) rs → find (λ (r : Replica). not (r.resynced && r.acked)) rs ≡ None
find-none s [] resynced acked = refl
find-none s (r ∷ rs) resynced acked =
    let here : r.resynced ≡ true = resynced_true r.resynced resynced.0 in
    let heard : r.acked ≡ true = acked_true r.resynced (nat_lt r.known r.copy.seen.count) r.acked here acked.0 in
    rw here (rw heard (find-none s rs resynced.1 acked.1))

pub ready : (s : Copies) → AreServedAtLeader s → not_ready s ≡ None
ready s served = rw (find-none s s.replicas served.resynced served.served.acked) refl

-- ---- kept requests

-- a replica with which no sync may be done has the primary's leases
same-leases : (s : Copies) (r : Replica) → IsBehind s.primary.leases r.copy.leases → IsResynced s r → IsSynced s r → r.copy.leases ≡ s.primary.leases
same-leases s r (inl same) resync sync = same
same-leases s r (inr newer) resync sync =
    absurd (contrary r.resynced (nat_lt r.copy.global s.primary.global) (supersedes s.primary.leases r.copy.leases) resync newer sync)
  where
    contrary : (a b c : Bool) → not a ≡ false → c ≡ true → (a && (b || c)) ≡ false → ⊥
    contrary false b c resynced newer none = cc
    contrary true b false resynced newer none = cc
    contrary true true true resynced newer none = cc
    contrary true false true resynced newer none = cc

each-has : (s : Copies) (id : List ℕ) (rs : List Replica) → AllByRecursion (λ (r : Replica). IsBehind s.primary.leases r.copy.leases) rs → AllByRecursion (IsResynced s) rs → AllByRecursion (IsSynced s) rs
    → has_lease id s.primary ≡ true → list_all (has_lease id) (map {A = Replica} {B = Copy} (λ r. r.copy) rs) ≡ true
each-has s id [] behind resynced synced there = refl
each-has s id (r ∷ rs) behind resynced synced there =
    let same : r.copy.leases ≡ s.primary.leases = same-leases s r behind.0 resynced.0 synced.0 in
    let here : has_lease id r.copy ≡ true = subst (λ (c : Collection). is_some (lease_of id c.leases) ≡ true) (sym same) there in
    rw here (each-has s id rs behind.1 resynced.1 synced.1 there)

-- a lease that some copy lacks, the primary lacks
not-at-primary : (s : Copies) (id : List ℕ) → AllByRecursion (λ (r : Replica). IsBehind s.primary.leases r.copy.leases) s.replicas → AreServedAtLeader s → all_hold id s ≡ false
    → has_lease id s.primary ≡ false
not-at-primary s id behind served lacking = by (has_lease id s.primary) refl
  where
    contrary : (a b : Bool) → a ≡ true → b ≡ true → (a && b) ≡ false → ⊥
    contrary false b first second none = cc
    contrary true false first second none = cc
    contrary true true first second none = cc

    by : (b : Bool) → has_lease id s.primary ≡ b → b ≡ false
    by false is = refl
    by true is =
        absurd (contrary (has_lease id s.primary) (list_all (has_lease id) (map {A = Replica} {B = Copy} (λ r. r.copy) s.replicas)) is
        (each-has s id s.replicas behind served.resynced served.served.synced is) lacking)

none-of-them : (s : Copies) (uuid : List ℕ) (request : ℕ) (kept : List KeptRequest) → AllByRecursion (λ (r : Replica). IsBehind s.primary.leases r.copy.leases) s.replicas → AreServedAtLeader s
    → AllByRecursion (λ (k : KeptRequest). all_hold k.id s ≡ false) kept
    → list_any (λ (k : KeptRequest). bytes_eq k.follower uuid && (k.request == request) && has_lease k.id s.primary) kept ≡ false
none-of-them s uuid request [] behind served lacking = refl
none-of-them s uuid request (k ∷ kept) behind served lacking =
    neither (bytes_eq k.follower uuid && (k.request == request)) (has_lease k.id s.primary)
    (list_any (λ (k : KeptRequest). bytes_eq k.follower uuid && (k.request == request) && has_lease k.id s.primary) kept)
    (not-at-primary s k.id behind served lacking.0) (none-of-them s uuid request kept behind served lacking.1)
  where
    neither : (a b c : Bool) → b ≡ false → c ≡ false → ((a && b) || c) ≡ false
    neither true true c first rest = cc
    neither true false c first rest = rest
    neither false b c first rest = rest

pub none-is-kept : (s : State) → KeptRequestsWait s → AreServedAtLeader s.leader.copies → NoneIsKept s
none-is-kept s kept served uuid request = none-of-them s.leader.copies uuid request s.leader.kept kept.behind served kept.kept
