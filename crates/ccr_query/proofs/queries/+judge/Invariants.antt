use Rattle.std.proofs.Common.{◌≡◌, ◌+◌, ◌*◌, drop}
use Rattle.ccr_query.specs.Queries.{trees_of}
use Rattle.ccr_query.specs.Queries.{all_hold as all_hold_of}
use Rattle.ccr_query.specs.Queries.{any_holds as any_holds_of}
use Rattle.ccr_query.specs.Codes.{tree_size, trees_size}
use Rattle.ccr_query.proofs.queries.+judge.Given as goal

abbrev pub invariant-all_hold-loop-query : goal.invariant-all_hold-loop-query
invariant-all_hold-loop-query l =
    all_hold_of (trees_of l.queries.items) l.document ≡ all_hold_of (trees_of (drop l.query-index l.query-items)) l.document

abbrev pub invariant-any_holds-loop-query : goal.invariant-any_holds-loop-query
invariant-any_holds-loop-query l =
    any_holds_of (trees_of l.queries.items) l.document ≡ any_holds_of (trees_of (drop l.query-index l.query-items)) l.document

abbrev pub decreases-judge : goal.decreases-judge
decreases-judge l = 2 * tree_size l.query.now + 1

abbrev pub decreases-all_hold : goal.decreases-all_hold
decreases-all_hold l = 2 * trees_size (trees_of l.queries.now.items)

abbrev pub decreases-any_holds : goal.decreases-any_holds
decreases-any_holds l = 2 * trees_size (trees_of l.queries.now.items)
