-- Where nothing may be done, no request may be answered but a read.
use Rattle.std.specs.List.{AllByRecursion, list_all, list_any}
use Rattle.std.specs.Str.{bytes_eq}
use Rattle.std.proofs.Common.{◌≡◌, ℕ, ◌==◌, ◌&&◌, ◌||◌, not, nat_lt, Bool, true, false, inl, inr, Option, Some, List, [], ◌∷◌, map, is_some, refl, sym, subst, arith}
use Rattle.std.proofs.lemmas.Bool.Decides.{nat_tests}
use Rattle.ccr_lease.specs.Leases.{Collection, lease_of, supersedes}
use Rattle.ccr_model.specs.Copies.{Copy, Replica, Copies, has_lease}
use Rattle.ccr_model.specs.CopyFacts.{IsBehind}
use Rattle.ccr_model.specs.Leaders.{KeptRequest, Poll}
use Rattle.ccr_model.specs.LeaderRows.{all_hold}
use Rattle.ccr_model.specs.Followers.{Work}
use Rattle.ccr_model.specs.World.{State}
use Rattle.ccr_model.specs.Settling.{may_resync, may_sync, may_be_answered}
use Rattle.ccr_law_settling_grounds.specs.Purposes.{Purpose, for_read, awaited, Agree}
use Rattle.ccr_law_settling_grounds.specs.Parked.{AreKeptRightly}
use Rattle.std.proofs.lemmas.Bool.{or_from}

-- ---- kept requests

-- a replica with which no sync may be done has the primary's leases
pub same_leases : (s : Copies) (r : Replica) → IsBehind s.primary.leases r.copy.leases → may_resync s r ≡ false → may_sync s r ≡ false → r.copy.leases ≡ s.primary.leases
same_leases s r (inl same) resync sync = same
same_leases s r (inr newer) resync sync =
    absurd (contrary r.resynced (nat_lt r.copy.global s.primary.global) (supersedes s.primary.leases r.copy.leases) resync newer sync)
  where
    contrary : (a b c : Bool) → not a ≡ false → c ≡ true → (a && (b || c)) ≡ false → ⊥
    contrary false b c resynced newer none = cc
    contrary true b false resynced newer none = cc
    contrary true true true resynced newer none = cc
    contrary true false true resynced newer none = cc

abbrev pub HaveLeases : Collection → List Replica → Type 0
HaveLeases leases rs = AllByRecursion (λ (r : Replica). r.copy.leases ≡ leases) rs

each_has : (id : List ℕ) (leases : Collection) (rs : List Replica) → HaveLeases leases rs → is_some (lease_of id leases.leases) ≡ true
    → list_all (has_lease id) (map {A = Replica} {B = Copy} (λ r. r.copy) rs) ≡ true
each_has id leases [] same there = refl
each_has id leases (r ∷ rs) same there =
    let here : has_lease id r.copy ≡ true = subst (λ (c : Collection). is_some (lease_of id c.leases) ≡ true) (sym same.0) there in
    rw here (each_has id leases rs same.1 there)

-- a lease that some copy lacks, the primary lacks
not_at_primary : (s : Copies) (id : List ℕ) → HaveLeases s.primary.leases s.replicas → all_hold id s ≡ false → has_lease id s.primary ≡ false
not_at_primary s id same lacking = by (has_lease id s.primary) refl
  where
    contrary : (a b : Bool) → a ≡ true → b ≡ true → (a && b) ≡ false → ⊥
    contrary false b first second none = cc
    contrary true false first second none = cc
    contrary true true first second none = cc

    by : (b : Bool) → has_lease id s.primary ≡ b → b ≡ false
    by false is = refl
    by true is =
        absurd (contrary (has_lease id s.primary) (list_all (has_lease id) (map {A = Replica} {B = Copy} (λ r. r.copy) s.replicas)) is
        (each_has id s.primary.leases s.replicas same is) lacking)

no_kept_answers : (s : Copies) (uuid : List ℕ) (request : ℕ) (kept : List KeptRequest) → HaveLeases s.primary.leases s.replicas → AreKeptRightly s kept
    → list_any (λ (k : KeptRequest). bytes_eq k.follower uuid && (k.request == request) && has_lease k.id s.primary) kept ≡ false
no_kept_answers s uuid request [] same rightly = refl
no_kept_answers s uuid request (k ∷ kept) same rightly =
    neither (bytes_eq k.follower uuid && (k.request == request)) (has_lease k.id s.primary)
    (list_any (λ (k : KeptRequest). bytes_eq k.follower uuid && (k.request == request) && has_lease k.id s.primary) kept)
    (not_at_primary s k.id same rightly.0) (no_kept_answers s uuid request kept same rightly.1)
  where
    neither : (a b c : Bool) → b ≡ false → c ≡ false → ((a && b) || c) ≡ false
    neither true true c first rest = cc
    neither true false c first rest = rest
    neither false b c first rest = rest

-- ---- polls

no_poll_answers : (work : Work) (uuid : List ℕ) (request : ℕ) (purpose : Purpose) → awaited work request ≡ Some purpose → (purpose ≡ for_read → ⊥) → (polls : List Poll)
    → AllByRecursion (λ (p : Poll). bytes_eq p.follower uuid ≡ true → Agree (awaited work p.request) (Some for_read)) polls
    → list_any (λ (p : Poll). bytes_eq p.follower uuid && (p.request == request)) polls ≡ false
no_poll_answers work uuid request purpose waits other [] alike = refl
no_poll_answers work uuid request purpose waits other (p ∷ polls) alike =
    or_from (bytes_eq p.follower uuid && (p.request == request)) (list_any (λ (p : Poll). bytes_eq p.follower uuid && (p.request == request)) polls)
    (not_both (bytes_eq p.follower uuid) (p.request == request) refl refl) (no_poll_answers work uuid request purpose waits other polls alike.1)
  where
    not_both : (a b : Bool) → bytes_eq p.follower uuid ≡ a → (p.request == request) ≡ b → (a && b) ≡ false
    not_both false b named same = refl
    not_both true false named same = refl
    not_both true true named same =
        let e : p.request ≡ request = grind (arith, nat_tests) in
        let agree : Agree (Some purpose) (Some for_read)
        = subst (λ (o : Option Purpose). Agree o (Some for_read)) waits (subst (λ (n : ℕ). Agree (awaited work n) (Some for_read)) e (alike.0 named)) in
        absurd (other agree)

-- ---- both

-- with nothing in flight, what isn't a read has no answer to come
pub unanswered : (s : State) (work : Work) (uuid : List ℕ) (request : ℕ) (purpose : Purpose) → awaited work request ≡ Some purpose → (purpose ≡ for_read → ⊥)
    → s.flight ≡ [] → HaveLeases s.leader.copies.primary.leases s.leader.copies.replicas → AreKeptRightly s.leader.copies s.leader.kept
    → AllByRecursion (λ (p : Poll). bytes_eq p.follower uuid ≡ true → Agree (awaited work p.request) (Some for_read)) s.leader.polls
    → may_be_answered s uuid request ≡ false
unanswered s work uuid request purpose waits other taken same rightly alike =
    rw taken (rw (no_poll_answers work uuid request purpose waits other s.leader.polls alike)
    (no_kept_answers s.leader.copies uuid request s.leader.kept same rightly))
