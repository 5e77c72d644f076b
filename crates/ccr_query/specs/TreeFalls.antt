-- Each query inside another is smaller.
use Rattle.std.specs.Prelude.{◌+◌, ◌≤◌, max, List, [], ◌∷◌}
use Rattle.std.proofs.Common.{arith}
use denote.Param.Weighed.{most}
use Rattle.ccr_query.specs.declared.queries.Node.{Node}
use Rattle.ccr_query.specs.declared.queries.Node.TheVariants.{Condition, Bool}
use Rattle.ccr_query.specs.declared.queries.Query.TheDeep.{deep-Node}
use Rattle.ccr_query.specs.Queries.{Tree, trees_of}
use Rattle.ccr_query.specs.Codes.{tree_size, trees_size}
use Rattle.ccr_query.specs.Nodes.{tree_of}

most_le : (ts : List Tree) → most (λ t. tree_size t + 1) ts ≤ trees_size (trees_of ts)
most_le [] = omega arith
most_le (t ∷ ts) = omega (arith, most_le ts)

pub depth_le-tree_size : (n : Node) → max (deep-Node n) 0 ≤ tree_size (tree_of n)
depth_le-tree_size (Condition c) = omega arith
depth_le-tree_size (Bool must filter should must_not) =
    omega (arith, most_le must.items, most_le filter.items, most_le should.items, most_le must_not.items)
