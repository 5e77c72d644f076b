use Rattle.std.proofs.Common.{◌≡◌, take}
use Rattle.ccr_lease.proofs.collection.Leases.copy.Given as goal

abbrev pub invariant-loop-lease : goal.invariant-loop-lease
invariant-loop-lease l = l.list.items ≡ take l.lease-index l.lease-items
