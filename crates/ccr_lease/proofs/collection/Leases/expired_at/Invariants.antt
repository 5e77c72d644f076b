use Rattle.std.proofs.Common.{◌≡◌, ◌++◌, drop}
use Rattle.ccr_lease.specs.Leases.{expired}
use Rattle.ccr_lease.proofs.collection.Leases.expired_at.Given as goal

abbrev pub invariant-loop-lease : goal.invariant-loop-lease
invariant-loop-lease l = l.list.items ++ expired l.now l.period (drop l.lease-index l.lease-items) ≡ expired l.now l.period l.lease-items
