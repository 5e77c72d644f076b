-- That nothing may be chosen, from what a look at each part of a world finds.
use Rattle.std.specs.List.{AllByRecursion, list_any}
use Rattle.std.specs.Option.{option_map, option_map_or, option_and_then}
use Rattle.std.specs.Str.{bytes_eq}
use Rattle.std.proofs.Common.{◌≡◌, ℕ, ◌≤◌, ◌<◌, ◌+◌, ◌==◌, ◌&&◌, ◌||◌, not, nat_lt, Bool, true, false, Option, Some, None, List, [], ◌∷◌, length, slice_get, IfSome, MatchOption, zero, suc, refl, sym, ap, subst, ◌∙◌, arith}
use Rattle.std.proofs.lemmas.Bool.Decides.{nat_tests}
use Rattle.ccr_wire.specs.Message.{Frame}
use Rattle.ccr_journal.specs.declared.sides.Side.{Side}
use Rattle.ccr_journal.specs.declared.sides.Side.TheVariants as sides
use Rattle.ccr_journal.specs.declared.events.Event.{Event}
use Rattle.ccr_journal.specs.declared.events.Event.TheVariants as events
use Rattle.ccr_changes.specs.Waits.{waits_for}
use Rattle.ccr_model.specs.Copies.{Replica, Copies, has_lease}
use Rattle.ccr_model.specs.Leaders.{Leader, KeptRequest, Poll}
use Rattle.ccr_model.specs.Followers.{Follower, uuid_of}
use Rattle.ccr_model.specs.FollowerRows.{sent_write}
use Rattle.ccr_model.specs.World.{State}
use Rattle.ccr_model.specs.Settled.{is_settled}
use Rattle.ccr_model.specs.Settling.{copies_at, for_replica, may_replicate, may_ack, may_sync, may_resync, may_be_answered, may_lose, may_apply, may_end, may_tick, request_at, may_act, may_wake, waits_until, MaySettle}
use Rattle.ccr_law_reached.specs.Reached.{EndsSettled}
use Rattle.ccr_settling.specs.Idle.{NoneIsKept, NoneWakes, NoneWaitsBelow, waits_of}
use Rattle.ccr_settling.specs.Next.{IsNext}
use Rattle.ccr_settling.specs.Served.{IsCaughtUp, AreServed, AreServedAtLeader, Serves}
use Rattle.ccr_settling.specs.Still.{Acts, ActsThere, AreStillBetween, IsStill, IsStillAt, is_unpolled}
use Rattle.ccr_settling.proofs.Grounding.{ready}
use Rattle.ccr_settling.proofs.Serving.{none-of}
use Rattle.ccr_settling.proofs.Polled.{there}

-- ---- what is found may be done

pub serves-may : (s : State) (side : Side) (copies : Copies) (event : Event) → copies_at s side ≡ Some copies → Serves side copies event → may_act s event ≡ true
serves-may s side copies (events.Replicate at copy seq) is serves =
    rw serves.0 (rw is serves.1)
serves-may s side copies (events.Ack at copy) is serves = rw serves.0 (rw is serves.1)
serves-may s side copies (events.Sync at copy) is serves = rw serves.0 (rw is serves.1)
serves-may s side copies (events.Resync copy) is serves =
    let e : copies_at s sides.Leader ≡ Some copies = subst (λ (x : Side). copies_at s x ≡ Some copies) serves.0 is in
    let same : s.leader.copies ≡ copies = cc in
    rw same serves.1
serves-may s side copies event is serves = absurd serves

pub acts-may : (s : State) → s.flight ≡ [] → NoneIsKept s → (event : Event) → ActsThere s event → may_act s event ≡ true
acts-may s taken kept event there = by event there.acts
  where
    answers : (request : ℕ) → list_any (waits_for (uuid_of there.f) request) s.leader.polls ≡ false → may_be_answered s (uuid_of there.f) request ≡ false
    answers request none = rw taken (rw none (rw (kept (uuid_of there.f) request) refl))

    lost : (at : ℕ) → is_unpolled s.leader.polls there.f there.follower.work at ≡ true → may_lose s there.f at ≡ true
    lost at unpolled = rw there.is (requested (request_at there.follower.work at) refl)
      where
        negated : (b : Bool) → not b ≡ true → b ≡ false
        negated false is = refl
        negated true is = cc

        requested : (o : Option ℕ) → request_at there.follower.work at ≡ o
            → option_map_or (λ (request : ℕ). not (may_be_answered s (uuid_of there.f) request)) (request_at there.follower.work at) false ≡ true
        requested None is = let e : false ≡ true = sym (rw is refl) ∙ unpolled in cc
        requested (Some request) is =
            let e : not (list_any (waits_for (uuid_of there.f) request) s.leader.polls) ≡ true = sym (rw is refl) ∙ unpolled in
            rw is (rw (answers request (negated (list_any (waits_for (uuid_of there.f) request) s.leader.polls) e)) refl)

    at_copies : (e : Event) → Serves (sides.Follower there.f) there.follower.copies e → may_act s e ≡ true
    at_copies e serves = serves-may s (sides.Follower there.f) there.follower.copies e (rw there.is refl) serves

    by : (e : Event) → Acts there.f s.leader.polls there.follower e → may_act s e ≡ true
    by (events.Written g write) acts = rw acts.0 (rw there.is acts.1)
    by (events.Apply g epoch write batch) acts = rw acts.0 (rw there.is acts.1)
    by (events.Tick g) acts = rw acts.0 (rw there.is acts.1)
    by (events.Lose g at) acts = rw acts.0 (lost at acts.1)
    by e acts = at_copies e acts

pub delivers : (s : State) → AreServedAtLeader s.leader.copies → 0 < length s.flight → may_act s (events.Deliver 0 s.leader.copies.primary.number false) ≡ true
delivers s served some =
    let first : (m : Frame) × (slice_get s.flight 0 ≡ Some m) = there s.flight 0 some in
    let same : (s.leader.copies.primary.number == s.leader.copies.primary.number) ≡ true = grind (arith, nat_tests) in
    rw first.1 (rw same (rw (ready s.leader.copies served) refl))

-- an event that may be done, no clock, is next
pub acts-next : (s : State) (event : Event) → is_settled s ≡ false → may_act s event ≡ true → IsNext s event
acts-next s (events.Clock side now) left may = cc
acts-next s event left may = record { unsettled = left; may = by event may }
  where
    by : (e : Event) → may_act s e ≡ true → MaySettle s e
    by (events.Clock side now) may = cc
    by _ may = may

-- ---- what is not found may not be done

weaker : (P Q : Replica → Type 0) → ((r : Replica) → P r → Q r) → (rs : List Replica) → AllByRecursion P rs → AllByRecursion Q rs
weaker P Q f [] all = tt
weaker P Q f (r ∷ rs) all = (f r all.0, weaker P Q f rs all.1)

no-replicate : (s : Copies) → AreServed s → (copy seq : ℕ) → for_replica (may_replicate seq) copy (Some s) ≡ false
no-replicate s served copy seq =
    none-of (may_replicate seq) s (weaker (IsCaughtUp s) (λ (r : Replica). may_replicate seq s r ≡ false) (λ r caught. caught seq) s.replicas served.caught_up) copy

-- where all parts are idle, no event acts
pub nothing-acts : (s : State) → AreServedAtLeader s.leader.copies → s.flight ≡ [] → NoneWakes s → AreStillBetween s 0 (length s.followers) → (event : Event) → may_act s event ≡ false
nothing-acts s served taken wakes still event = by event
  where
    none : (f : ℕ) → length s.followers ≤ f → slice_get s.followers f ≡ None
    none f le = beyond s.followers f le
      where
        beyond : (fs : List Follower) (n : ℕ) → length fs ≤ n → slice_get fs n ≡ None
        beyond [] n le = refl
        beyond (x ∷ fs) zero le = absurd (omega arith)
        beyond (x ∷ fs) (suc n) le = beyond fs n (omega arith)

    -- what holds of no follower, and of each that is still
    named : (f : ℕ) (may : Option Follower → Bool) → may None ≡ false → ((own : Follower) → IsStill f s.leader.polls own → may (Some own) ≡ false) → may (slice_get s.followers f) ≡ false
    named f may none_there each = by (slice_get s.followers f) refl
      where
        low : (own : Follower) → slice_get s.followers f ≡ Some own → (b : Bool) → nat_lt f (length s.followers) ≡ b → IsStill f s.leader.polls own
        low own is true lt = subst (λ (o : Option Follower). IfSome o (IsStill f s.leader.polls)) is (still f (omega arith) (grind (arith, nat_tests)))
        low own is false lt = let e : None ≡ Some own = sym (none f (grind (arith, nat_tests))) ∙ is in cc

        by : (o : Option Follower) → slice_get s.followers f ≡ o → may (slice_get s.followers f) ≡ false
        by None is = ap may is ∙ none_there
        by (Some own) is = ap may is ∙ each own (low own is (nat_lt f (length s.followers)) refl)

    awaited : (f at : ℕ) (own : Follower) → is_unpolled s.leader.polls f own.work at ≡ false
        → option_map_or (λ (request : ℕ). not (may_be_answered s (uuid_of f) request)) (request_at own.work at) false ≡ false
    awaited f at own polled = requested (request_at own.work at) refl
      where
        negated : (b : Bool) → not b ≡ false → b ≡ true
        negated true is = refl
        negated false is = cc

        second : (a b c : Bool) → b ≡ true → (a || b || c) ≡ true
        second true b c is = refl
        second false true c is = refl
        second false false c is = cc

        requested : (o : Option ℕ) → request_at own.work at ≡ o
            → option_map_or (λ (request : ℕ). not (may_be_answered s (uuid_of f) request)) (request_at own.work at) false ≡ false
        requested None is = rw is refl
        requested (Some request) is =
            let e : not (list_any (waits_for (uuid_of f) request) s.leader.polls) ≡ false = sym (rw is refl) ∙ polled in
            let answered : may_be_answered s (uuid_of f) request ≡ true
            = second (list_any (λ (m : Frame). bytes_eq m.follower (uuid_of f) && (m.request == request)) s.flight) (list_any (waits_for (uuid_of f) request) s.leader.polls)
            (list_any (λ (k : KeptRequest). bytes_eq k.follower (uuid_of f) && (k.request == request) && has_lease k.id s.leader.copies.primary) s.leader.kept)
            (negated (list_any (waits_for (uuid_of f) request) s.leader.polls) e) in
            rw is (rw answered refl)

    by : (e : Event) → may_act s e ≡ false
    by (events.Replicate sides.Leader copy seq) = no-replicate s.leader.copies served.served copy seq
    by (events.Replicate (sides.Follower f) copy seq) =
        named f (λ (o : Option Follower). for_replica (may_replicate seq) copy (option_map {T = Follower} {U = Copies} (λ own. own.copies) o)) refl
        (λ own idle. no-replicate own.copies idle.copies copy seq)
    by (events.Ack sides.Leader copy) = none-of may_ack s.leader.copies served.served.acked copy
    by (events.Ack (sides.Follower f) copy) =
        named f (λ (o : Option Follower). for_replica may_ack copy (option_map {T = Follower} {U = Copies} (λ own. own.copies) o)) refl
        (λ own idle. none-of may_ack own.copies idle.copies.acked copy)
    by (events.Sync sides.Leader copy) = none-of may_sync s.leader.copies served.served.synced copy
    by (events.Sync (sides.Follower f) copy) =
        named f (λ (o : Option Follower). for_replica may_sync copy (option_map {T = Follower} {U = Copies} (λ own. own.copies) o)) refl
        (λ own idle. none-of may_sync own.copies idle.copies.synced copy)
    by (events.Resync copy) = none-of may_resync s.leader.copies served.resynced copy
    by (events.Deliver at copy keep) = rw taken refl
    by (events.Wake f at) = named f (λ (o : Option Follower). option_map_or (λ (own : Follower). may_wake s f at) o false) refl (λ own idle. wakes f at)
    by (events.Lose f at) =
        named f (λ (o : Option Follower). option_map_or (λ (own : Follower). option_map_or (λ (request : ℕ). not (may_be_answered s (uuid_of f) request)) (request_at own.work at) false) o false)
        refl (λ own idle. awaited f at own (idle.awaited at))
    by (events.Apply f epoch write batch) =
        named f (λ (o : Option Follower). option_map_or (λ (own : Follower). may_apply own epoch batch (sent_write own.work write)) o false) refl (λ own idle. idle.applied write epoch batch)
    by (events.Written f write) =
        named f (λ (o : Option Follower). option_map_or (λ (own : Follower). may_end own (sent_write own.work write)) o false) refl (λ own idle. idle.written write)
    by (events.Tick f) = named f (λ (o : Option Follower). option_map_or may_tick o false) refl (λ own idle. idle.timely)
    by _ = refl

-- then a clock may be set where something waits
pub clock-next : (s : State) (f now : ℕ) → is_settled s ≡ false → AreServedAtLeader s.leader.copies → s.flight ≡ [] → NoneWakes s → AreStillBetween s 0 (length s.followers)
    → waits_of s f ≡ Some now → IsNext s (events.Clock (sides.Follower f) now)
clock-next s f now left served taken wakes still waits = by (slice_get s.followers f) refl waits
  where
    by : (o : Option Follower) → slice_get s.followers f ≡ o → option_and_then (λ (own : Follower). waits_until own.work) o ≡ Some now → IsNext s (events.Clock (sides.Follower f) now)
    by None is w = cc
    by (Some own) is w = record { unsettled = left; may = record { follower = own; is = is; least = w; alone = nothing-acts s served taken wakes still } }

-- and where nothing waits, the world is settled
pub one-is-left : (s : State) → EndsSettled s → is_settled s ≡ false → AreServedAtLeader s.leader.copies → s.flight ≡ [] → NoneWakes s → AreStillBetween s 0 (length s.followers)
    → NoneWaitsBelow s (length s.followers) → ⊥
one-is-left s ends left served taken wakes still waits = let e : is_settled s ≡ true = ends none in cc
  where
    nothing : (e : Event) → may_act s e ≡ true → ⊥
    nothing e is = let none : may_act s e ≡ false = nothing-acts s served taken wakes still e in cc

    waiting : (f now : ℕ) (own : Follower) → slice_get s.followers f ≡ Some own → waits_until own.work ≡ Some now → ⊥
    waiting f now own is least = either (nat_lt f (length s.followers)) refl
      where
        beyond : (fs : List Follower) (n : ℕ) → length fs ≤ n → slice_get fs n ≡ None
        beyond [] n le = refl
        beyond (x ∷ fs) zero le = absurd (omega arith)
        beyond (x ∷ fs) (suc n) le = beyond fs n (omega arith)

        either : (b : Bool) → nat_lt f (length s.followers) ≡ b → ⊥
        either true lt =
            let w : waits_of s f ≡ None = waits f (grind (arith, nat_tests)) in
            let e : waits_of s f ≡ Some now = rw is least in
            let bad : None ≡ Some now = sym w ∙ e in cc
        either false lt = let none : slice_get s.followers f ≡ None = beyond s.followers f (grind (arith, nat_tests)) in let bad : None ≡ Some own = sym none ∙ is in cc

    none : (event : Event) → MaySettle s event → ⊥
    none (events.Clock (sides.Follower f) now) may = waiting f now may.follower may.is may.least
    none (events.Clock sides.Leader now) may = nothing (events.Clock sides.Leader now) may
    none event may = nothing event may

-- ---- walks over the followers

pub still-none : (s : State) (first : ℕ) → AreStillBetween s first first
still-none s first f low high = absurd (omega arith)

pub still-push : (s : State) (first n : ℕ) → AreStillBetween s first n → IsStillAt s n → AreStillBetween s first (n + 1)
still-push s first n before this f low lt = by (nat_lt f n) refl
  where
    by : (b : Bool) → nat_lt f n ≡ b → IsStillAt s f
    by true is = before f low (grind (arith, nat_tests))
    by false is = let e : f ≡ n = grind (arith, nat_tests) in subst (λ m. IsStillAt s m) (sym e) this

pub still-joined : (s : State) (first end : ℕ) → AreStillBetween s first end → AreStillBetween s 0 first → AreStillBetween s 0 end
still-joined s first end upper lower f low high = by (nat_lt f first) refl
  where
    by : (b : Bool) → nat_lt f first ≡ b → IsStillAt s f
    by true is = lower f low (grind (arith, nat_tests))
    by false is = upper f (grind (arith, nat_tests)) high

pub waits-none : (s : State) → NoneWaitsBelow s 0
waits-none s f lt = absurd (omega (arith, lt))

pub waits-push : (s : State) (n : ℕ) → NoneWaitsBelow s n → waits_of s n ≡ None → NoneWaitsBelow s (n + 1)
waits-push s n before this f lt = by (nat_lt f n) refl
  where
    by : (b : Bool) → nat_lt f n ≡ b → waits_of s f ≡ None
    by true is = before f (grind (arith, nat_tests))
    by false is = let e : f ≡ n = grind (arith, nat_tests) in subst (λ m. waits_of s m ≡ None) (sym e) this

-- what is next at a follower that is there
pub next-there : (s : State) (f : ℕ) (own : Follower) (polls : List Poll) (leader : Leader) (next : Option Event) → slice_get s.followers f ≡ Some own → polls ≡ leader.polls → leader ≡ s.leader
    → MatchOption next (IsStill f polls own) (λ event. Acts f polls own event) → MatchOption next (IsStillAt s f) (λ event. ActsThere s event)
next-there s f own polls leader next is its at_leader told = by next told
  where
    same : polls ≡ s.leader.polls
    same = its ∙ ap (λ (l : Leader). l.polls) at_leader

    by : (o : Option Event) → MatchOption o (IsStill f polls own) (λ event. Acts f polls own event) → MatchOption o (IsStillAt s f) (λ event. ActsThere s event)
    by None still = subst (λ (o : Option Follower). IfSome o (IsStill f s.leader.polls)) (sym is) (subst (λ (ps : List Poll). IsStill f ps own) same still)
    by (Some event) acts = record { f = f; follower = own; is = is; acts = subst (λ (ps : List Poll). Acts f ps own event) same acts }

-- what is next at the followers from one on, and at those before it
pub next-joined : (s : State) (first end : ℕ) (rest : Option Event) → end ≡ length s.followers → AreStillBetween s first end
    → MatchOption rest (AreStillBetween s 0 first) (λ event. ActsThere s event) → MatchOption rest (AreStillBetween s 0 (length s.followers)) (λ event. ActsThere s event)
next-joined s first end rest all upper told = by rest told
  where
    by : (o : Option Event) → MatchOption o (AreStillBetween s 0 first) (λ event. ActsThere s event) → MatchOption o (AreStillBetween s 0 (length s.followers)) (λ event. ActsThere s event)
    by None lower = subst (λ (n : ℕ). AreStillBetween s 0 n) all (still-joined s first end upper lower)
    by (Some event) acts = acts

-- no message is in flight
pub none-flies : (flight : List Frame) (n : ℕ) → n ≡ length flight → n ≤ 0 → flight ≡ []
none-flies [] n is none = refl
none-flies (m ∷ flight) n is none = absurd (omega arith)
