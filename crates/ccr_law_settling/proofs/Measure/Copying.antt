-- Settling by a replication, an ack or a resync lowers the measure.
use Rattle.std.specs.Prelude.{slice_get}
use Rattle.std.specs.Option.{option_map}
use Rattle.std.proofs.Common.{◌≡◌, ℕ, ◌==◌, ◌≤◌, true, Option, Some, None, List, refl}
use Rattle.ccr_journal.specs.declared.sides.Side.{Side}
use Rattle.ccr_journal.specs.declared.sides.Side.TheVariants as sides
use Rattle.ccr_journal.specs.declared.events.Event.TheVariants as events
use Rattle.ccr_model.specs.Outcomes.{within}
use Rattle.ccr_model.specs.Copies.{Replica, Copies, replica_of}
use Rattle.ccr_model.specs.Followers.{Follower}
use Rattle.ccr_model.specs.FollowerRows.{follower_replicate, follower_ack}
use Rattle.ccr_model.specs.World.{State, for_follower}
use Rattle.ccr_model.specs.Step.{step}
use Rattle.ccr_model.specs.Settling.{may_act, may_replicate, may_ack, for_replica}
use Rattle.ccr_law_base.proofs.Lists.{All-find}
use Rattle.ccr_law_settling.specs.Measure.{IsLower}
use Rattle.ccr_law_settling.specs.Within.{IsReplicaWithin, AreWithin, IsWithin}
use Rattle.ccr_law_settling.proofs.Measure.CopyRows.{replicate_lowers, ack_lowers, resync_lowers}
use Rattle.ccr_law_settling.proofs.Measure.Joins.{leader_lower, follower_lower}

found_within : (count : ℕ) (s : Copies) (copy : ℕ) → AreWithin count s → (r : Replica) → replica_of s copy ≡ Some r → r.resynced ≡ true
    → (r.known ≤ r.copy.seen.count) × (r.copy.seen.count ≤ count)
found_within count s copy within r at resynced =
    let both : IsReplicaWithin count r × ((r.copy.number == copy) ≡ true) = All-find (IsReplicaWithin count) (λ x. x.copy.number == copy) s.replicas r within.replicas at in
    (both.0.known, both.0.counted resynced)

pub replicate_at : (count_of : List ℕ → ℕ) (s : State) (side : Side) (copy seq : ℕ) (picks : List ℕ) → IsWithin count_of s → may_act s (events.Replicate side copy seq) ≡ true
    → IsLower count_of (step s (events.Replicate side copy seq) picks).next s
replicate_at count_of s sides.Leader copy seq picks within may =
    leader_lower count_of s _ (replicate_lowers (count_of s.leader.history) s.leader.copies copy seq (within.leader.processed seq) (replica_of s.leader.copies copy) refl may)
replicate_at count_of s (sides.Follower f) copy seq picks within may = by (slice_get s.followers f) refl may
  where
    by : (o : Option Follower) → slice_get s.followers f ≡ o
        → for_replica (may_replicate seq) copy (option_map {T = Follower} {U = Copies} (λ own. own.copies) o) ≡ true
        → IsLower count_of (for_follower s f (λ x. follower_replicate x copy seq) o).next s
    by None at is = cc
    by (Some own) at is = follower_lower count_of s f own _ at
        (replicate_lowers (count_of own.history) own.copies copy seq ((within.followers f own at).processed seq) (replica_of own.copies copy) refl is)

pub ack_at : (count_of : List ℕ → ℕ) (s : State) (side : Side) (copy : ℕ) (picks : List ℕ) → IsWithin count_of s → may_act s (events.Ack side copy) ≡ true
    → IsLower count_of (step s (events.Ack side copy) picks).next s
ack_at count_of s sides.Leader copy picks within may =
    leader_lower count_of s _ (ack_lowers (count_of s.leader.history) s.leader.copies copy (replica_of s.leader.copies copy) refl
    (found_within (count_of s.leader.history) s.leader.copies copy within.leader) may)
ack_at count_of s (sides.Follower f) copy picks within may = by (slice_get s.followers f) refl may
  where
    by : (o : Option Follower) → slice_get s.followers f ≡ o
        → for_replica may_ack copy (option_map {T = Follower} {U = Copies} (λ own. own.copies) o) ≡ true
        → IsLower count_of (for_follower s f (λ x. follower_ack x copy) o).next s
    by None at is = cc
    by (Some own) at is = follower_lower count_of s f own _ at
        (ack_lowers (count_of own.history) own.copies copy (replica_of own.copies copy) refl
        (found_within (count_of own.history) own.copies copy (within.followers f own at)) is)

pub resync_at : (count_of : List ℕ → ℕ) (s : State) (copy : ℕ) (picks : List ℕ) → s.leader.copies.primary.seen.count ≡ count_of s.leader.history → may_act s (events.Resync copy) ≡ true → IsLower count_of (step s (events.Resync copy) picks).next s
resync_at count_of s copy picks counts may =
    leader_lower count_of s _ (resync_lowers (count_of s.leader.history) s.leader.copies copy counts (replica_of s.leader.copies copy) refl may)
