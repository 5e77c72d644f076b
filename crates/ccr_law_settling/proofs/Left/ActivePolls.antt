-- Where nothing may be done and nothing is in flight, an active task's reads wait as polls at copies that are whole: each is of the leader's history,
-- and asks from its count on.
use Rattle.std.specs.List.{AllByRecursion, list_any, list_all}
use Rattle.std.specs.Str.{bytes_eq}
use Rattle.std.specs.Prelude.{slice_get, IfSome}
use Rattle.std.specs.Option.{option_map, option_map_or, option_and_then}
use Rattle.std.proofs.Common.{◌≡◌, ℕ, ◌≤◌, ◌==◌, ◌&&◌, ◌||◌, nat_lt, nat_le, Bool, true, false, if◌then◌else◌, Option, Some, None, List, [], ◌∷◌, is_some, refl, ◌∙◌, ap, subst, arith}
use Rattle.std.proofs.lemmas.Bool.Decides.{nat_tests}
use Rattle.std.proofs.lemmas.Slice.Eq.{bytes_eq-Decides}
use Rattle.ccr_wire.specs.Message.{Frame}
use Rattle.ccr_model.specs.Copies.{Copy, Replica, Copies, copy_of, replica_of, all_copies, has_lease}
use Rattle.ccr_model.specs.Tasks.{Task, Read, read_sent}
use Rattle.ccr_model.specs.Leaders.{Poll, KeptRequest, polls_of}
use Rattle.ccr_model.specs.Followers.{Follower, Work, replicating, uuid_of}
use Rattle.ccr_model.specs.World.{State, follower_of}
use Rattle.ccr_model.specs.Settled.{is_whole}
use Rattle.ccr_model.specs.Settling.{may_be_answered, may_wake, for_named}
use Rattle.ccr_model.specs.Past.{Past}
use Rattle.ccr_model.specs.FrameFacts.{Reading, reading_in, reading_of, IsTruePoll, AsksAsRead}
use Rattle.ccr_law_base.proofs.Cases.{on_if}
use Rattle.ccr_law_base.proofs.Lists.{All-weaker, All-both, All-filter, All-find, All-map_back, some_equal, All-places}
use Rattle.ccr_law_leases.proofs.Finding.{All-unfilter, All-pass}
use Rattle.ccr_law_settling_grounds.specs.Purposes.{for_lease, for_read, Agree, awaited}
use Rattle.ccr_law_settling_grounds.specs.Parked.{ArePollsThere}
use Rattle.std.proofs.lemmas.Bool.{and_parts}

-- ---- polls wait for more than there is

-- what all copies pass, the copy of a number passes
found_passes : (test : Copy → Bool) (s : Copies) (n : ℕ) (c : Copy) → list_all test (all_copies s) ≡ true → copy_of s n ≡ Some c → test c ≡ true
found_passes test s n c all found =
    on_if (λ (o : Option Copy). o ≡ Some c → test c ≡ true) (s.primary.number == n) (Some s.primary) (option_map {T = Replica} {U = Copy} (λ r. r.copy) (replica_of s n))
    (λ is at. subst (λ (x : Copy). test x ≡ true) (some_equal s.primary c at) each.0)
    (λ isnt at. by (replica_of s n) refl at) found
  where
    each : AllByRecursion (λ (x : Copy). test x ≡ true) (all_copies s)
    each = All-pass test (all_copies s) all

    by : (o : Option Replica) → replica_of s n ≡ o → option_map {T = Replica} {U = Copy} (λ r. r.copy) o ≡ Some c → test c ≡ true
    by None is at = cc
    by (Some r) is at =
        subst (λ (x : Copy). test x ≡ true) (some_equal r.copy c at)
        (All-find (λ (x : Replica). test x.copy ≡ true) (λ (x : Replica). x.copy.number == n) s.replicas r
        (All-map_back (λ (x : Copy). test x ≡ true) (λ (x : Replica). x.copy) s.replicas each.1) is).0

-- a poll that has nothing to bring, at a copy that is whole, asks from the count on
asks_late : (count from : ℕ) (o : Option Copy) → ((c : Copy) → o ≡ Some c → is_whole count c ≡ true) → is_some o ≡ true → option_map_or (λ (c : Copy). nat_lt from c.global) o false ≡ false → count ≤ from
asks_late count from None whole there idle = cc
asks_late count from (Some c) whole there idle =
    let knows : (c.global == count) ≡ true = (and_parts (nat_le count c.seen.count) (c.global == count) (whole c refl)).1 in
    late c.global knows idle
  where
    late : (global : ℕ) → (global == count) ≡ true → nat_lt from global ≡ false → count ≤ from
    late global knows idle = grind (arith, nat_tests)

pub polls_ask_late : (s : State) (f : ℕ) (own : Follower) (count : ℕ) → slice_get s.followers f ≡ Some own → list_all (is_whole count) (all_copies s.leader.copies) ≡ true
    → ArePollsThere s.leader.copies s.leader.polls → ((at : ℕ) → for_named s f (λ x. may_wake s f at) ≡ false)
    → AllByRecursion (λ (p : Poll). bytes_eq p.follower (uuid_of f) ≡ true → count ≤ p.from) s.leader.polls
polls_ask_late s f own count there whole stand none =
    All-unfilter (λ (p : Poll). count ≤ p.from) (λ (p : Poll). bytes_eq p.follower (uuid_of f)) s.leader.polls
    (All-weaker
    (λ (p : Poll). (is_some (copy_of s.leader.copies p.copy) ≡ true) × (option_map_or (λ (c : Copy). nat_lt p.from c.global) (copy_of s.leader.copies p.copy) false ≡ false))
    (λ (p : Poll). count ≤ p.from)
    (λ p both. asks_late count p.from (copy_of s.leader.copies p.copy) (λ c found. found_passes (is_whole count) s.leader.copies p.copy c whole found) both.0 both.1)
    (polls_of s.leader.polls (uuid_of f))
    (All-both (λ (p : Poll). is_some (copy_of s.leader.copies p.copy) ≡ true)
    (λ (p : Poll). option_map_or (λ (c : Copy). nat_lt p.from c.global) (copy_of s.leader.copies p.copy) false ≡ false)
    (polls_of s.leader.polls (uuid_of f))
    (All-filter (λ (p : Poll). is_some (copy_of s.leader.copies p.copy) ≡ true) (λ (p : Poll). bytes_eq p.follower (uuid_of f)) s.leader.polls stand)
    (All-places (λ (p : Poll). option_map_or (λ (c : Copy). nat_lt p.from c.global) (copy_of s.leader.copies p.copy) false ≡ false) (polls_of s.leader.polls (uuid_of f))
    (λ at p found.
    subst (λ (o : Option Poll). option_map_or (λ (p : Poll). option_map_or (λ (c : Copy). nat_lt p.from c.global) (copy_of s.leader.copies p.copy) false) o false ≡ false) found
    (subst (λ (o : Option Follower). option_map_or (λ (x : Follower). may_wake s f at) o false ≡ false) there (none at))))))

-- ---- a poll asks as the read of its number

-- the poll asks what the read asks, where there is one
abbrev pub AsksWhatIsRead : Poll → Option Reading → Type 0
AsksWhatIsRead poll found = IfSome found (AsksAsRead poll.history poll.from poll.max_ops poll.max_bytes)

pub asks_as_read : (p : Past) (f : ℕ) (own : Follower) (t : Task) → follower_of p.state.followers (uuid_of f) ≡ Some f → slice_get p.state.followers f ≡ Some own → own.work ≡ replicating t
    → (poll : Poll) → IsTruePoll p poll → bytes_eq poll.follower (uuid_of f) ≡ true → (r : Read) → read_sent t poll.request ≡ Some r
    → AsksAsRead poll.history poll.from poll.max_ops poll.max_bytes (record { task = t; read = r })
asks_as_read p f own t named there is poll truth ours r found = asks
  where
    same : poll.follower ≡ uuid_of f
    same = (bytes_eq-Decides poll.follower (uuid_of f)).0 ours

    asks : AsksAsRead poll.history poll.from poll.max_ops poll.max_bytes (record { task = t; read = r })
    asks =
        subst (λ (o : Option Read). AsksWhatIsRead poll (option_map {T = Read} {U = Reading} (λ read. record { task = t; read = read }) o)) found
        (subst (λ (w : Work). AsksWhatIsRead poll (reading_in w poll.request)) is
        (subst (λ (o : Option Follower). AsksWhatIsRead poll (option_and_then (λ (x : Follower). reading_in x.work poll.request) o)) there
        (subst (λ (o : Option ℕ). AsksWhatIsRead poll (option_and_then (λ (x : Follower). reading_in x.work poll.request) (option_and_then (slice_get p.state.followers) o))) named
        (subst (λ (uuid : List ℕ). AsksWhatIsRead poll (reading_of p.state uuid poll.request)) same truth.asks))))

-- ---- no request for a lease is kept under a read's number

none_kept : (t : Task) (uuid : List ℕ) (primary : Copy) (request : ℕ) (r : Read) → read_sent t request ≡ Some r → (kept : List KeptRequest)
    → AllByRecursion (λ (k : KeptRequest). bytes_eq k.follower uuid ≡ true → Agree (awaited (replicating t) k.request) (Some for_lease)) kept
    → list_any (λ (k : KeptRequest). bytes_eq k.follower uuid && (k.request == request) && has_lease k.id primary) kept ≡ false
none_kept t uuid primary request r found [] all = refl
none_kept t uuid primary request r found (k ∷ kept) all =
    rw (alone (bytes_eq k.follower uuid) (k.request == request) (has_lease k.id primary) (λ named same. other (all.0 named) same)) (none_kept t uuid primary request r found kept all.1)
  where
    alone : (named same lease : Bool) → (named ≡ true → same ≡ true → ⊥) → (named && same && lease) ≡ false
    alone true true lease differ = absurd (differ refl refl)
    alone true false lease differ = refl
    alone false same lease differ = refl

    differ : Agree (Some for_read) (Some for_lease) → ⊥
    differ same = cc

    other : Agree (awaited (replicating t) k.request) (Some for_lease) → (k.request == request) ≡ true → ⊥
    other agree same =
        let e : k.request ≡ request = grind (arith, nat_tests) in
        differ (subst (λ (o : Option Read). Agree (if is_some o then Some for_read else None) (Some for_lease)) found
        (subst (λ (n : ℕ). Agree (awaited (replicating t) n) (Some for_lease)) e agree))

-- ---- so what holds of each read that has a poll holds of the read

by_poll : (P : Read → Type 0) (t : Task) (uuid : List ℕ) (request : ℕ) (r : Read) → read_sent t request ≡ Some r → (polls : List Poll)
    → AllByRecursion (λ (p : Poll). bytes_eq p.follower uuid ≡ true → (x : Read) → read_sent t p.request ≡ Some x → P x) polls
    → list_any (λ (p : Poll). bytes_eq p.follower uuid && (p.request == request)) polls ≡ true → P r
by_poll P t uuid request r found [] all any = cc
by_poll P t uuid request r found (p ∷ polls) all any =
    by (by_poll P t uuid request r found polls all.1) (bytes_eq p.follower uuid) refl (p.request == request) refl any
  where
    by : (list_any (λ (p : Poll). bytes_eq p.follower uuid && (p.request == request)) polls ≡ true → P r)
        → (named : Bool) → bytes_eq p.follower uuid ≡ named → (same : Bool) → (p.request == request) ≡ same
        → ((named && same) || list_any (λ (p : Poll). bytes_eq p.follower uuid && (p.request == request)) polls) ≡ true → P r
    by rest true ours true same any = let e : p.request ≡ request = grind (arith, nat_tests) in all.0 ours r (ap (read_sent t) e ∙ found)
    by rest true ours false other any = rest any
    by rest false theirs same is any = rest any

pub waits_as_poll : (P : Read → Type 0) (s : State) (t : Task) (uuid : List ℕ) (r : Read) → s.flight ≡ [] → read_sent t r.request ≡ Some r
    → AllByRecursion (λ (p : Poll). bytes_eq p.follower uuid ≡ true → (x : Read) → read_sent t p.request ≡ Some x → P x) s.leader.polls
    → AllByRecursion (λ (k : KeptRequest). bytes_eq k.follower uuid ≡ true → Agree (awaited (replicating t) k.request) (Some for_lease)) s.leader.kept
    → may_be_answered s uuid r.request ≡ true → P r
waits_as_poll P s t uuid r landed found late kept may =
    by_poll P t uuid r.request r found s.leader.polls late
    (last (list_any (λ (p : Poll). bytes_eq p.follower uuid && (p.request == r.request)) s.leader.polls)
    (list_any (λ (k : KeptRequest). bytes_eq k.follower uuid && (k.request == r.request) && has_lease k.id s.leader.copies.primary) s.leader.kept)
    (none_kept t uuid s.leader.copies.primary r.request r found s.leader.kept kept)
    (subst (λ (flight : List Frame). (list_any (λ (m : Frame). bytes_eq m.follower uuid && (m.request == r.request)) flight
    || list_any (λ (p : Poll). bytes_eq p.follower uuid && (p.request == r.request)) s.leader.polls
    || list_any (λ (k : KeptRequest). bytes_eq k.follower uuid && (k.request == r.request) && has_lease k.id s.leader.copies.primary) s.leader.kept) ≡ true) landed may))
  where
    last : (a b : Bool) → b ≡ false → ((false || a) || b) ≡ true → a ≡ true
    last true b none any = refl
    last false true none any = cc
    last false false none any = cc
