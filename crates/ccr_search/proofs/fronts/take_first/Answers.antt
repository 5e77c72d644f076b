use Rattle.ccr_search.proofs.Pages.{if_ok_on_ok, taken_at}
use Rattle.ccr_search.proofs.fronts.take_first.Goals as goal

pub returns-clause-taken : goal.returns-clause-taken
returns-clause-taken c = λ sorted.
    if_ok_on_ok c.take_hit.result _ _ _
    (λ hit is left. taken_at c.args.sort.now c.args.fronts.now c.first_place-place.result c.index-fronts-place.result c.take_hit.new.front _ c.first_place-place.ensures.place
    c.first_place-place.ensures.low is left sorted)
    c.take_hit.ensures.hit c.take_hit.ensures.left
