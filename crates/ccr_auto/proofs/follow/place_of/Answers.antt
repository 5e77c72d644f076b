use Rattle.std.proofs.Common.{rules}
use Rattle.std.proofs.lemmas.List.Sorted.{IsPartitionPoint-from_clause}
use Rattle.ccr_auto.proofs.Falling.{place-is}
use Rattle.ccr_auto.proofs.Ordered.{partitioned, is_below, is_of}
use Rattle.ccr_auto.proofs.follow.place_of.Goals as goal

pub returns-clause-place : goal.returns-clause-place
returns-clause-place c =
    let name = c.args.name.now in
    let xs = c.args.list.now in
    let at = IsPartitionPoint-from_clause (is_below name) xs c.partition_point.result c.partition_point.ensures.partitioned (partitioned name xs c.requires) (λ a r f called. search rules) in
    place-is (is_below name) (is_of name) xs c.partition_point.result c.partition_point.ensures.bound at.0 at.1
