use Rattle.std.proofs.Common.{sym, subst}
use Rattle.std.proofs.lemmas.Result.{IfOk-weaker}
use Rattle.ccr_search.specs.Finds.{AreFound}
use Rattle.ccr_search.proofs.Sorts.{sorted_found}
use Rattle.ccr_search.proofs.shards.sorted.Goals as goal

pub returns : goal.returns
returns c = λ ops query found.
    IfOk-weaker c.hits_of-2.result _ _
    (λ hits is. subst (AreFound ops query c.args.sort.now) (sym is)
    (sorted_found ops query c.args.sort.now _ _ c.requires c.in_ok-sort_ranked.ensures.same c.in_ok-sort_ranked.ensures.sorted found))
    c.hits_of-2.ensures
