use Rattle.std.proofs.Common.{rules}
use Rattle.ccr_search.proofs.Pages.{paged-none, paged-more, paged-end, paged-all}
use Rattle.ccr_search.proofs.joining.take_hits.Goals as goal

pub loop-done-init : goal.loop-done-init
loop-done-init c = (c.requires, λ sorted. rw c.new-hits.ensures.items (paged-none _ _ _ sorted))

pub loop-done-preserved : goal.loop-done-preserved
loop-done-preserved c = (
  c.in_ok-taken.ensures.valued,
  λ sorted.
      let p = c.loop-done.invariant.1 sorted in
      let t = rw c.in-Some.is at (c.in_ok-taken.ensures.taken p.sorted) in
      rw (c.in_ok-push-in-Some.ensures.items, c.in_ok-copied-in-Some.ensures) (paged-more _ _ _ _ _ _ _ _ (search rules) p t),
)

pub returns-in-None : goal.returns-in-None
returns-in-None c = λ sorted.
    let p = c.loop-done.invariant.1 sorted in
    let t = rw c.in-None.is at (c.in_ok-taken.ensures.taken p.sorted) in
    paged-end _ _ _ _ _ _ _ p t

pub returns : goal.returns
returns c = λ sorted. paged-all _ _ _ _ _ _ (search rules) (c.loop-done.invariant.1 sorted)
