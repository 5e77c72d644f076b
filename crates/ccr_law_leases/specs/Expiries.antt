-- When the leader drops leases: each whose period is over, and no other.
use Rattle.std.specs.Prelude.{ℕ, ◌+◌, ◌<◌, ◌≤◌, List}
use Rattle.std.specs.List.{AllByRecursion}
use Rattle.ccr_lease.specs.declared.retention.Lease.{Lease}
use Rattle.ccr_journal.specs.declared.events.Event.TheVariants.{Expire}
use Rattle.ccr_model.specs.Answers.{IsIn}
use Rattle.ccr_model.specs.World.{State}
use Rattle.ccr_model.specs.Step.{step}

-- an expiry keeps each lease since whose stamp no more than the period has passed, also where just the period has, leaves no other, and
-- makes none
pub record ExpiresRightly (s : State) (left : List Lease) : Type 0 where
  pub kept : (lease : Lease) → IsIn s.leader.copies.primary.leases.leases lease → s.leader.now ≤ lease.stamp + s.leader.start.period → IsIn left lease
  pub gone : AllByRecursion (λ (lease : Lease). ¬ (lease.stamp + s.leader.start.period < s.leader.now)) left
  pub old : AllByRecursion (IsIn s.leader.copies.primary.leases.leases) left

abbrev pub ExpiriesAreRight : Type 0
ExpiriesAreRight = (s : State) (picks : List ℕ) → ExpiresRightly s (step s Expire picks).next.leader.copies.primary.leases.leases
