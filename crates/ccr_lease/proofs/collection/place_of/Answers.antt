use Rattle.std.proofs.Common.{rules}
use Rattle.std.proofs.lemmas.List.Sorted.{IsPartitionPoint-from_clause}
use Rattle.ccr_lease.proofs.Falling.{place-is}
use Rattle.ccr_lease.proofs.Ordered.{partitioned, is_below, is_of}
use Rattle.ccr_lease.proofs.collection.place_of.Goals as goal

pub returns-clause-place : goal.returns-clause-place
returns-clause-place c =
    let id = c.args.id.now in
    let xs = c.args.leases.now in
    let at = IsPartitionPoint-from_clause (is_below id) xs c.partition_point.result c.partition_point.ensures.partitioned (partitioned id xs c.requires) (λ a r f called. search rules) in
    place-is (is_below id) (is_of id) xs c.partition_point.result c.partition_point.ensures.bound at.0 at.1
