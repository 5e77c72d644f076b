use Rattle.std.proofs.Common.{◌≡◌, ◌∙◌, is_lt, ap, sym}
use Rattle.ccr_search.specs.Ranks.{rank_cmp}
use Rattle.ccr_search.proofs.Pages.{leads_is}
use Rattle.ccr_search.proofs.fronts.is_leading.Goals as goal

pub returns : goal.returns
returns c =
    let own = c.as_slice.ensures.value in
    let others = c.as_slice-2.ensures.value in
    let compared = c.compare.ensures in
    c.is_lt.ensures ∙ ap is_lt compared
    ∙ rw (own, others) (sym (leads_is c.args.sort.now c.args.front.now.hits.now c.args.other.now.hits.now c.args.front.now.values.items c.args.other.now.values.items
    c.in-Some.hit.now c.in-Some-first.than.now (c.in-Some.ensures.value) (c.in-Some-first.ensures.value) c.requires.own c.requires.others))
