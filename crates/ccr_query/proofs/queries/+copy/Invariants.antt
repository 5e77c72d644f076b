use Rattle.std.proofs.Common.{◌≡◌, ◌+◌, ◌*◌, take}
use Rattle.ccr_query.specs.Queries.{trees_of}
use Rattle.ccr_query.specs.Codes.{tree_size, trees_size}
use Rattle.ccr_query.proofs.queries.+copy.Given as goal

abbrev pub invariant-copy_queries-loop-query : goal.invariant-copy_queries-loop-query
invariant-copy_queries-loop-query l = l.others.items ≡ take l.query-index l.query-items

abbrev pub decreases-copy_query : goal.decreases-copy_query
decreases-copy_query l = 2 * tree_size l.query.now + 1

abbrev pub decreases-copy_queries : goal.decreases-copy_queries
decreases-copy_queries l = 2 * trees_size (trees_of l.queries.now.items)
