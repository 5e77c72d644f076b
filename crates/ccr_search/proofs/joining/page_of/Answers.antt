use Rattle.std.proofs.Common.{◌+◌, ◌∙◌, take, drop, ap, sym, subst}
use Rattle.std.proofs.lemmas.Result.{IfOk-weaker}
use Rattle.ccr_search.specs.Joined.{rests_in, sorted_rests, AreSorted}
use Rattle.ccr_search.proofs.Pages.{fronts_sorted}
use Rattle.ccr_search.proofs.joining.page_of.Goals as goal

pub returns : goal.returns
returns c = λ order.
    let same = ap rests_in c.as_mut_slice.ensures.value ∙ c.in_ok-fronts.ensures.hits in
    IfOk-weaker c.page_from.result _ _
    (λ hits is. is ∙ ap (λ rests. take c.args.size (drop c.args.from (sorted_rests c.args.sort.now rests))) same)
    (c.page_from.ensures (subst (AreSorted c.args.sort.now) (sym same) (fronts_sorted c.args.sort.now (c.args.from + c.args.size) c.args.parts.now order)))
