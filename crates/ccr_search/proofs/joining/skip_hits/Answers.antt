use Rattle.std.proofs.Common.{rules}
use Rattle.ccr_search.proofs.Pages.{skipped-none, skipped-more, skipped-end}
use Rattle.ccr_search.proofs.joining.skip_hits.Goals as goal

pub loop-done-init : goal.loop-done-init
loop-done-init c = (c.requires, λ sorted. skipped-none _ _ sorted)

pub loop-done-preserved : goal.loop-done-preserved
loop-done-preserved c = (
  c.in_ok-hit.ensures.valued,
  λ sorted. let s = c.loop-done.invariant.1 sorted in skipped-more _ _ _ _ _ _ s (c.in_ok-hit.ensures.taken s.sorted),
)

pub returns-in-None-clause-skipped : goal.returns-in-None-clause-skipped
returns-in-None-clause-skipped c = λ sorted.
    let s = c.loop-done.invariant.1 sorted in
    let t = rw c.in-None.is at (c.in_ok-hit.ensures.taken s.sorted) in
    skipped-end _ _ _ _ _ _ s t (search rules)
