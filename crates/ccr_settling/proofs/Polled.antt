-- Which polls have something to bring.
use Rattle.std.specs.List.{AllByRecursion, list_any}
use Rattle.std.specs.Option.{option_map_or}
use Rattle.std.specs.Str.{bytes_eq}
use Rattle.std.proofs.Common.{◌≡◌, ◌≢◌, ℕ, zero, suc, ◌<◌, ◌≤◌, ◌==◌, ◌||◌, nat_lt, Bool, true, false, Option, Some, None, List, [], ◌∷◌, length, find, slice_get, refl, sym, ap, subst, ◌∙◌, arith}
use Rattle.std.proofs.lemmas.Bool.Decides.{nat_tests}
use Rattle.std.proofs.lemmas.Slice.Eq.{bytes_eq-Decides}
use Rattle.ccr_journal.specs.declared.events.Event.TheVariants as events
use Rattle.ccr_changes.specs.Waits.{waits_at, IsFromAbove, IsLeastAt}
use Rattle.ccr_changes.specs.declared.polls.Least.{Least}
use Rattle.ccr_model.specs.Copies.{Copy, Replica, replica_of, copy_of}
use Rattle.ccr_model.specs.Leaders.{Poll, polls_of}
use Rattle.ccr_model.specs.Followers.{Follower, uuid_of}
use Rattle.ccr_model.specs.World.{State}
use Rattle.ccr_model.specs.Settling.{may_act, may_wake}
use Rattle.ccr_law_reached.specs.Reached.{IsOneOf, ArePollsOfFollowers}
use Rattle.ccr_settling.specs.Idle.{NoneWakes, NoneWakesAt, NoneWakesAtReplica, brings}
use Rattle.ccr_settling.specs.Served.{Each}
use Rattle.ccr_settling.proofs.Serving.{found_in}

-- ---- lists

pub there : {A : Type 0} → (xs : List A) (n : ℕ) → n < length xs → (x : A) × (slice_get xs n ≡ Some x)
there [] n lt = absurd (omega (arith, lt))
there (x ∷ xs) zero lt = (x, refl)
there (x ∷ xs) (suc n) lt = there xs n (omega (arith, lt))

-- a poll of a follower is one of all polls, and has the follower's UUID
own-poll : (P : Poll → Type 0) (uuid : List ℕ) (polls : List Poll) (at : ℕ) (p : Poll) → AllByRecursion P polls → slice_get (polls_of polls uuid) at ≡ Some p
    → P p × (p.follower ≡ uuid)
own-poll P uuid [] at p all is = cc
own-poll P uuid (x ∷ polls) at p all is = by (bytes_eq x.follower uuid) refl at is (λ n. own-poll P uuid polls n p all.1)
  where
    by : (b : Bool) → bytes_eq x.follower uuid ≡ b → (n : ℕ) → slice_get (polls_of (x ∷ polls) uuid) n ≡ Some p
        → ((k : ℕ) → slice_get (polls_of polls uuid) k ≡ Some p → P p × (p.follower ≡ uuid)) → P p × (p.follower ≡ uuid)
    by true own zero is later =
        let e : Some x ≡ Some p = sym (rw own refl) ∙ is in
        let same : x ≡ p = cc in
        (subst P same all.0, ap (λ (q : Poll). q.follower) (sym same) ∙ (bytes_eq-Decides x.follower uuid).0 own)
    by true own (suc n) is later = later n (sym (rw own refl) ∙ is)
    by false other n is later = later n (sym (rw other refl) ∙ is)

find-test : (test : Replica → Bool) (rs : List Replica) (r : Replica) → find test rs ≡ Some r → test r ≡ true
find-test test [] r is = cc
find-test test (x ∷ rs) r is = by (test x) refl (λ e. find-test test rs r e)
  where
    by : (b : Bool) → test x ≡ b → (find test rs ≡ Some r → test r ≡ true) → test r ≡ true
    by true hit later = let e : Some x ≡ Some r = sym (rw hit refl) ∙ is in let same : x ≡ r = cc in subst (λ (q : Replica). test q ≡ true) same hit
    by false miss later = later (sym (rw miss refl) ∙ is)

-- ---- the polls at one copy

-- a poll at a copy with less than its global count
brings-below : (s : State) (p : Poll) (copy : ℕ) (c : Copy) → copy_of s.leader.copies copy ≡ Some c → (p.copy == copy) ≡ true → brings s p ≡ nat_lt p.from c.global
brings-below s p copy c is here =
    let same : p.copy ≡ copy = grind (arith, nat_tests) in
    ap (λ (o : Option Copy). option_map_or (λ (x : Copy). nat_lt p.from x.global) o false) (ap (λ (n : ℕ). copy_of s.leader.copies n) same ∙ is)

pub none-at-no-copy : (s : State) (copy : ℕ) → copy_of s.leader.copies copy ≡ None → NoneWakesAt s copy
none-at-no-copy s copy is = each s.leader.polls
  where
    one : (p : Poll) → (p.copy == copy) ≡ true → brings s p ≡ false
    one p here =
        let same : p.copy ≡ copy = grind (arith, nat_tests) in
        ap (λ (o : Option Copy). option_map_or (λ (x : Copy). nat_lt p.from x.global) o false) (ap (λ (n : ℕ). copy_of s.leader.copies n) same ∙ is)

    each : (polls : List Poll) → AllByRecursion (λ (p : Poll). (p.copy == copy) ≡ true → brings s p ≡ false) polls
    each [] = tt
    each (p ∷ polls) = (one p, each polls)

pub none-parked : (s : State) (copy : ℕ) → list_any (waits_at copy) s.leader.polls ≡ false → NoneWakesAt s copy
none-parked s copy none = each s.leader.polls none
  where
    apart : (a b : Bool) → (a || b) ≡ false → (a ≡ false) × (b ≡ false)
    apart true b is = cc
    apart false b is = (refl, is)

    each : (polls : List Poll) → list_any (waits_at copy) polls ≡ false → AllByRecursion (λ (p : Poll). (p.copy == copy) ≡ true → brings s p ≡ false) polls
    each [] none = tt
    each (p ∷ polls) none =
        let both = apart (p.copy == copy) (list_any (waits_at copy) polls) none in
        (λ here. let e : true ≡ false = sym here ∙ both.0 in cc, each polls both.1)

pub none-below : (s : State) (copy : ℕ) (c : Copy) (least : Least) → copy_of s.leader.copies copy ≡ Some c → IsLeastAt copy s.leader.polls least → c.global ≤ least.from → NoneWakesAt s copy
none-below s copy c least is found far = each s.leader.polls found.least
  where
    one : (p : Poll) → IsFromAbove copy least.from p → (p.copy == copy) ≡ true → brings s p ≡ false
    one p above here = let low : least.from ≤ p.from = above here in brings-below s p copy c is here ∙ grind (arith, nat_tests)

    each : (polls : List Poll) → AllByRecursion (IsFromAbove copy least.from) polls → AllByRecursion (λ (p : Poll). (p.copy == copy) ≡ true → brings s p ≡ false) polls
    each [] all = tt
    each (p ∷ polls) all = (one p all.0, each polls all.1)

pub wakes : (s : State) (copy f : ℕ) (c : Copy) (least : Least) → copy_of s.leader.copies copy ≡ Some c → IsLeastAt copy s.leader.polls least → least.from < c.global
    → f < length s.followers → uuid_of f ≡ least.follower → may_act s (events.Wake f least.at) ≡ true
wakes s copy f c least is found low few named =
    let own : (x : Follower) × (slice_get s.followers f ≡ Some x) = there s.followers f few in
    let poll : slice_get (polls_of s.leader.polls (uuid_of f)) least.at ≡ Some found.poll = ap (λ (uuid : List ℕ). slice_get (polls_of s.leader.polls uuid) least.at) named ∙ found.there in
    let number : found.poll.from ≡ least.from = found.number in
    let below : brings s found.poll ≡ true = brings-below s found.poll copy c is found.here ∙ grind (arith, nat_tests) in
    rw own.1 (rw poll below)

pub one-is-named : (s : State) (copy : ℕ) (least : Least) → ArePollsOfFollowers s → IsLeastAt copy s.leader.polls least
    → ((f : ℕ) → f < length s.followers → uuid_of f ≢ least.follower) → ⊥
one-is-named s copy least of found none =
    let own : IsOneOf (length s.followers) found.poll.follower × (found.poll.follower ≡ least.follower)
    = own-poll (λ (p : Poll). IsOneOf (length s.followers) p.follower) least.follower s.leader.polls least.at found.poll of found.there in
    none own.0.number own.0.low (sym own.0.is ∙ own.1)

-- ---- all polls

pub none-wakes : (s : State) → NoneWakesAt s s.leader.copies.primary.number → Each (NoneWakesAtReplica s) s.leader.copies → NoneWakes s
none-wakes s primary replicas f at = by (slice_get (polls_of s.leader.polls (uuid_of f)) at) refl
  where
    one : (p : Poll) → ((p.copy == s.leader.copies.primary.number) ≡ true → brings s p ≡ false)
        → ((r : Replica) → replica_of s.leader.copies p.copy ≡ Some r → brings s p ≡ false) → brings s p ≡ false
    one p first others = either (s.leader.copies.primary.number == p.copy) refl (replica_of s.leader.copies p.copy) refl
      where
        either : (b : Bool) → (s.leader.copies.primary.number == p.copy) ≡ b → (o : Option Replica) → replica_of s.leader.copies p.copy ≡ o → brings s p ≡ false
        either true same o is = first (grind (arith, nat_tests))
        either false apart None is = rw apart (rw is refl)
        either false apart (Some r) is = others r is

    by : (o : Option Poll) → slice_get (polls_of s.leader.polls (uuid_of f)) at ≡ o → may_wake s f at ≡ false
    by None is = rw is refl
    by (Some p) is = rw is (one p at_primary at_replica)
      where
        at_primary : (p.copy == s.leader.copies.primary.number) ≡ true → brings s p ≡ false
        at_primary = (own-poll (λ (q : Poll). (q.copy == s.leader.copies.primary.number) ≡ true → brings s q ≡ false) (uuid_of f) s.leader.polls at p primary is).0

        at_replica : (r : Replica) → replica_of s.leader.copies p.copy ≡ Some r → brings s p ≡ false
        at_replica r found =
            let named : (r.copy.number == p.copy) ≡ true = find-test (λ x. x.copy.number == p.copy) s.leader.copies.replicas r found in
            let none : NoneWakesAt s r.copy.number = found_in (λ (x : Replica). NoneWakesAt s x.copy.number) (λ x. x.copy.number == p.copy) s.leader.copies.replicas r replicas found in
            (own-poll (λ (q : Poll). (q.copy == r.copy.number) ≡ true → brings s q ≡ false) (uuid_of f) s.leader.polls at p none is).0 (grind (arith, nat_tests))
