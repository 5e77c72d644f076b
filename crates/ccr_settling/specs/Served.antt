-- What may be done with the copies of a shard to settle them.
use Rattle.std.specs.Prelude.{◌≡◌, ℕ, ◌<◌, true, false, slice_get, IfSome, Some}
use Rattle.std.specs.List.{AllByRecursion}
use Rattle.ccr_journal.specs.declared.sides.Side.{Side}
use Rattle.ccr_journal.specs.declared.sides.Side.TheVariants as sides
use Rattle.ccr_journal.specs.declared.events.Event.{Event}
use Rattle.ccr_journal.specs.declared.events.Event.TheVariants as events
use Rattle.ccr_model.specs.Copies.{Replica, Copies}
use Rattle.ccr_model.specs.Settling.{for_replica, may_replicate, may_ack, may_sync, may_resync}

-- the replica takes no number of the primary's
abbrev pub IsCaughtUp : Copies → Replica → Type 0
IsCaughtUp s r = (seq : ℕ) → may_replicate seq s r ≡ false

abbrev pub IsAcked : Copies → Replica → Type 0
IsAcked s r = may_ack s r ≡ false

abbrev pub IsSynced : Copies → Replica → Type 0
IsSynced s r = may_sync s r ≡ false

abbrev pub IsResynced : Copies → Replica → Type 0
IsResynced s r = may_resync s r ≡ false

-- each replica
abbrev pub Each : (Copies → Replica → Type 0) → Copies → Type 0
Each P s = AllByRecursion (P s) s.replicas

-- each replica at the places below this one
abbrev pub EachBelow : ℕ → (Copies → Replica → Type 0) → Copies → Type 0
EachBelow place P s = (i : ℕ) → i < place → IfSome (slice_get s.replicas i) (P s)

-- nothing may be done with the replicas
pub record AreServed (s : Copies) : Type 0 where
  pub caught_up : Each IsCaughtUp s
  pub acked : Each IsAcked s
  pub synced : Each IsSynced s

-- nor is one of a leader to be resynced
pub record AreServedAtLeader (s : Copies) : Type 0 where
  pub resynced : Each IsResynced s
  pub served : AreServed s

-- the event serves a replica of these copies, which are that side's
abbrev pub Serves : Side → Copies → Event → Type 0
Serves side s (events.Replicate at copy seq) = (at ≡ side) × (for_replica (may_replicate seq) copy (Some s) ≡ true)
Serves side s (events.Ack at copy) = (at ≡ side) × (for_replica may_ack copy (Some s) ≡ true)
Serves side s (events.Sync at copy) = (at ≡ side) × (for_replica may_sync copy (Some s) ≡ true)
Serves side s (events.Resync copy) = (side ≡ sides.Leader) × (for_replica may_resync copy (Some s) ≡ true)
Serves side s _ = ⊥
