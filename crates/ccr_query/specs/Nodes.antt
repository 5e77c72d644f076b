-- The tree of a query's node.
use Rattle.ccr_query.specs.declared.queries.Node.{Node}
use Rattle.ccr_query.specs.declared.queries.Node.TheVariants.{Condition, Bool}
use Rattle.ccr_query.specs.Queries.{Tree, condition, bool, trees_of}

abbrev pub tree_of : Node → Tree
tree_of (Condition c) = condition c
tree_of (Bool must filter should must_not) = bool (trees_of must.items) (trees_of filter.items) (trees_of should.items) (trees_of must_not.items)
