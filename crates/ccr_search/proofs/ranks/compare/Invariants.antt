use Rattle.std.proofs.Common.{◌≡◌, drop}
use Rattle.ccr_search.specs.Ranks.{rank_cmp}
use Rattle.ccr_search.proofs.ranks.compare.Given as goal

abbrev pub invariant-loop-at : goal.invariant-loop-at
invariant-loop-at l =
    rank_cmp l.sort l.left l.left_id l.right l.right_id
    ≡ rank_cmp (drop l.at l.sort) (drop l.at l.left) l.left_id (drop l.at l.right) l.right_id
