use Rattle.std.specs.Prelude.{ℕ, nat_lt, Option, Some, None, Result, Ok, Err, if◌then◌else◌}
use Rattle.ccr_lease.specs.declared.retention.Lease.{Lease}
use Rattle.ccr_lease.specs.declared.collection.LeaseFault.{LeaseFault}
use Rattle.ccr_lease.specs.declared.collection.LeaseFault.TheVariants.{NotFound, LowNumber}

-- the answer to a renewal, by the lease that is kept
abbrev pub renewal : ℕ → Option Lease → Result (Unit {0}) LeaseFault
renewal number None = Err NotFound
renewal number (Some kept) = if nat_lt number kept.number then Err (LowNumber kept.number) else Ok tt
