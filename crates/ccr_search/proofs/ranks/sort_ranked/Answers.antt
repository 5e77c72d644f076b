use Rattle.std.proofs.Common.{rules, is_lt}
use Rattle.std.proofs.lemmas.Result.{on_ok_weaker}
use Rattle.std.proofs.lemmas.List.Sorted.{ranks_by}
use Rattle.std.proofs.lemmas.Fn.{always_returns_same}
use Rattle.ccr_search.specs.Ranks.{ranked_cmp}
use Rattle.ccr_search.proofs.RankOrder.{ranked_total}
use Rattle.ccr_search.proofs.ranks.sort_ranked.Goals as goal

pub returns-clause-sorted : goal.returns-clause-sorted
returns-clause-sorted c =
    on_ok_weaker c.sort_by.result
    (λ sorted. sorted (λ a b. is_lt (ranked_cmp c.args.sort.now a b)) (ranks_by (ranked_total c.args.sort.now) (λ r. r)) (always_returns_same _ _ _ (λ a r f k. search rules)))
    c.sort_by.ensures.sorted
