use Rattle.std.proofs.Common.{rules, ◌≡◌, ◌∙◌, sym, drop}
use Rattle.std.specs.declared.cmp.Ordering.TheVariants.{Equal}
use Rattle.ccr_query.specs.Sorting.{keys_cmp}
use Rattle.ccr_search.specs.Ranks.{first_value}
use Rattle.ccr_search.proofs.RankOrder.{rank_step, not_ne}
use Rattle.ccr_search.proofs.ranks.compare.Goals as goal

pub loop-at-preserved : goal.loop-at-preserved
loop-at-preserved c =
    let own = c.compare_values-order.ensures in
    let left = c.value_at.ensures in
    let right = c.value_at-in-loop-at.ensures in
    let same = not_ne c.compare_values-order.result (sym c.is_ne.ensures ∙ c.if-is_ne.false) in
    c.loop-at.invariant
    ∙ rank_step c.args.sort.now c.loop-at.at c.index-sort-at.result c.args.left.now c.args.right.now c.args.left_id.now c.args.right_id.now (search rules) (search rules)
    (rw (← left, ← right) (sym own ∙ same))
