use Rattle.std.proofs.Common.{◌≡◌, ◌<◌, ◌≤◌, ◌∙◌, ◌++◌, ap, suc, length, take, drop, arith}
use Rattle.ccr_restore.specs.Asks.{first_of}
use Rattle.ccr_restore.proofs.Asking.{without-first, without-none}
use Rattle.ccr_restore.proofs.asks.remove_ask.Goals as goal

pub returns-then-at-len : goal.returns-then-at-len
returns-then-at-len c =
    let asks = c.args.asks.now in
    let at : c.place_of-at.result ≡ first_of c.args.request asks.items = c.place_of-at.ensures ∙ ap (first_of c.args.request) c.as_slice.ensures.value in
    let lt : first_of c.args.request asks.items < length asks.items = omega (arith, asks.ok.0) in
    c.remove.ensures.items ∙ (ap (λ i. take i asks.items ++ drop (suc i) asks.items) at ∙ without-first c.args.request asks.items lt)

pub returns-else-at-len : goal.returns-else-at-len
returns-else-at-len c =
    let asks = c.args.asks.now in
    let at : c.place_of-at.result ≡ first_of c.args.request asks.items = c.place_of-at.ensures ∙ ap (first_of c.args.request) c.as_slice.ensures.value in
    without-none c.args.request asks.items (omega (arith, asks.ok.0))
