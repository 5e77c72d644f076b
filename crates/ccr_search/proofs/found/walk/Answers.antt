use Rattle.std.proofs.Common.{◌≡◌, ◌+◌, ◌≤◌, ◌<◌, arith, rules}
use Rattle.ccr_model.specs.Stores.{held}
use Rattle.ccr_search.proofs.Walks.{walked-none, walked-found, left-first, left-step}
use Rattle.ccr_search.proofs.found.walk.Goals as goal

pub live-init : goal.live-init
live-init c = (
  rw c.new-all.ensures.items (walked-none _ _ _),
  omega arith,
  let all = left-first (held c.args.store.now) in omega arith,
)

pub live-preserved : goal.live-preserved
live-preserved c =
    let next = c.in-Some.ensures in
    let was = c.live.invariant in
    let counted = c.judged.ensures.counted in
    let fall = left-step _ _ _ next in
    rw (c.id-last.ensures, c.in_ok-keep.ensures) (
      walked-found _ _ _ _ _ _ _ next c.in_ok-hit.ensures.hit c.in_ok-hit.ensures.ranked was.0,
      omega arith,
      omega arith,
    )

pub live-smaller : goal.live-smaller
live-smaller c =
    let fall = left-step _ _ _ c.in-Some.ensures in
    rw c.id-last.ensures (omega arith)

pub returns-in_err-hit-clause-counted : goal.returns-in_err-hit-clause-counted
returns-in_err-hit-clause-counted c =
    let was = c.live.invariant in
    let counted = c.judged.ensures.counted in
    let fall = left-step _ _ _ c.in-Some.ensures in
    (omega arith, omega arith)

pub returns-in_err-keep-clause-counted : goal.returns-in_err-keep-clause-counted
returns-in_err-keep-clause-counted c =
    let was = c.live.invariant in
    let counted = c.judged.ensures.counted in
    let fall = left-step _ _ _ c.in-Some.ensures in
    (omega arith, omega arith)
