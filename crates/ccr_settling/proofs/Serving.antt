-- Walks over the replicas of a shard, and what a look at one of them tells.
use Rattle.std.specs.List.{AllByRecursion}
use Rattle.std.specs.Option.{option_map_or}
use Rattle.std.proofs.Common.{◌≡◌, ℕ, suc, ◌+◌, ◌<◌, ◌≤◌, ◌==◌, ◌&&◌, not, nat_lt, Bool, true, false, Option, Some, None, List, [], ◌∷◌, length, find, slice_get, IfSome, refl, sym, subst, ◌∙◌, arith}
use Rattle.std.proofs.lemmas.Bool.Decides.{nat_tests}
use Rattle.ccr_tracker.specs.Numbers.{has, IsFirstLacking}
use Rattle.ccr_journal.specs.declared.sides.Side.{Side}
use Rattle.ccr_journal.specs.declared.sides.Side.TheVariants as sides
use Rattle.ccr_journal.specs.declared.events.Event.TheVariants as events
use Rattle.ccr_model.specs.Copies.{Replica, Copies, replica_of}
use Rattle.ccr_model.specs.Settling.{for_replica, may_ack, may_sync}
use Rattle.ccr_settling.specs.Served.{IsCaughtUp, Each, EachBelow, Serves}

-- ---- walks

pub below-none : (P : Copies → Replica → Type 0) (s : Copies) → EachBelow 0 P s
below-none P s i lt = absurd (omega (arith, lt))

pub below-push : (P : Copies → Replica → Type 0) (s : Copies) (n : ℕ) → EachBelow n P s → IfSome (slice_get s.replicas n) (P s) → EachBelow (n + 1) P s
below-push P s n before this i lt = by (nat_lt i n) refl
  where
    by : (b : Bool) → nat_lt i n ≡ b → IfSome (slice_get s.replicas i) (P s)
    by true is = before i (grind (arith, nat_tests))
    by false is = let e : i ≡ n = grind (arith, nat_tests) in subst (λ m. IfSome (slice_get s.replicas m) (P s)) (sym e) this

-- each of a list, from each of its places
each-place : (P : Replica → Type 0) (rs : List Replica) → ((i : ℕ) → i < length rs → IfSome (slice_get rs i) P) → AllByRecursion P rs
each-place P [] all = tt
each-place P (r ∷ rs) all = (all 0 (omega arith), each-place P rs (λ i lt. all (suc i) (omega (arith, lt))))

pub below-all : (P : Copies → Replica → Type 0) (s : Copies) (n : ℕ) → length s.replicas ≤ n → EachBelow n P s → Each P s
below-all P s n far below = each-place (P s) s.replicas (λ i lt. below i (omega arith))

-- what is found in a list holds what each of it does
pub found_in : (P : Replica → Type 0) (test : Replica → Bool) (rs : List Replica) (r : Replica) → AllByRecursion P rs → find test rs ≡ Some r → P r
found_in P test [] r all is = cc
found_in P test (x ∷ rs) r all is = by (test x) refl (λ e. found_in P test rs r all.1 e)
  where
    by : (b : Bool) → test x ≡ b → (find test rs ≡ Some r → P r) → P r
    by true hit later = let e : Some x ≡ Some r = sym (rw hit refl) ∙ is in subst (λ o. IfSome o P) e all.0
    by false miss later = later (sym (rw miss refl) ∙ is)

pub none-of : (may : Copies → Replica → Bool) (s : Copies) → AllByRecursion (λ (r : Replica). may s r ≡ false) s.replicas → (copy : ℕ) → for_replica may copy (Some s) ≡ false
none-of may s all copy = by (replica_of s copy) refl
  where
    by : (o : Option Replica) → replica_of s copy ≡ o → option_map_or (may s) (replica_of s copy) false ≡ false
    by None is = rw is refl
    by (Some r) is = rw is (found_in (λ (x : Replica). may s x ≡ false) (λ x. x.copy.number == copy) s.replicas r all is)

-- ---- a look at a replica

pub caught-up : (s : Copies) (r : Replica) → IsFirstLacking (has s.primary.seen) (has r.copy.seen) None → IsCaughtUp s r
caught-up s r none seq = by r.resynced (has s.primary.seen seq) (has r.copy.seen seq) refl refl
  where
    by : (a b c : Bool) → has s.primary.seen seq ≡ b → has r.copy.seen seq ≡ c → (a && b && not c) ≡ false
    by false b c own other = refl
    by true false c own other = refl
    by true true true own other = refl
    by true true false own other = let e : has r.copy.seen seq ≡ true = none seq own in cc

pub waits-for-resync : (s : Copies) (r : Replica) → r.resynced ≡ false → IsCaughtUp s r
waits-for-resync s r not_yet seq = rw not_yet refl

pub serves-number : (side : Side) (s : Copies) (r : Replica) (seq : ℕ) → replica_of s r.copy.number ≡ Some r → r.resynced ≡ true
    → IsFirstLacking (has s.primary.seen) (has r.copy.seen) (Some seq) → Serves side s (events.Replicate side r.copy.number seq)
serves-number side s r seq number resynced lacking = (refl, rw number (rw resynced (rw lacking.0 (rw lacking.1 refl))))

pub serves-ack : (side : Side) (s : Copies) (r : Replica) → replica_of s r.copy.number ≡ Some r → may_ack s r ≡ true → Serves side s (events.Ack side r.copy.number)
serves-ack side s r number may = (refl, rw number may)

pub serves-sync : (side : Side) (s : Copies) (r : Replica) → replica_of s r.copy.number ≡ Some r → may_sync s r ≡ true → Serves side s (events.Sync side r.copy.number)
serves-sync side s r number may = (refl, rw number may)

pub serves-resync : (s : Copies) (r : Replica) → replica_of s r.copy.number ≡ Some r → r.resynced ≡ false → Serves sides.Leader s (events.Resync r.copy.number)
serves-resync s r number not_yet = (refl, rw number (rw not_yet refl))
