use Rattle.std.proofs.Common.{◌≡◌, ◌++◌}
use Rattle.std.specs.List.{filter_map}
use Rattle.ccr_meta.specs.Created.{decided_in}
use Rattle.ccr_meta.proofs.creating.decisions_of.Given as goal

abbrev pub invariant-loop-cluster : goal.invariant-loop-cluster
invariant-loop-cluster l = l.list.items ++ filter_map (decided_in l.index) l.cluster-iterator ≡ filter_map (decided_in l.index) l.clusters.entries
