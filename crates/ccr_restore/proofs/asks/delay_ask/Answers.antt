use Rattle.std.proofs.Common.{◌≡◌, ◌<◌, ◌≤◌, ◌∙◌, ap, sym, length, get_or, set, arith}
use Rattle.ccr_model.specs.Requests.{waiting}
use Rattle.ccr_model.specs.Restores.{ChunkAsked}
use Rattle.ccr_restore.specs.Asks.{first_of}
use Rattle.ccr_restore.proofs.Asking.{changed-first, changed-none}
use Rattle.ccr_restore.proofs.asks.delay_ask.Goals as goal

pub returns-then-at-len : goal.returns-then-at-len
returns-then-at-len c =
    let asks = c.args.asks.now in
    let change : ChunkAsked → ChunkAsked = λ a. record a { progress = waiting c.args.until } in
    let at : c.place_of-at.result ≡ first_of c.args.request asks.items = c.place_of-at.ensures ∙ ap (first_of c.args.request) c.as_slice.ensures.value in
    let lt : first_of c.args.request asks.items < length asks.items = omega (arith, asks.ok.0) in
    ap (set asks.items c.place_of-at.result) (c.wait.ensures ∙ ap change c.index_mut.ensures.value)
    ∙ (ap (λ i. set asks.items i (change (get_or asks.items i c.index_mut.result.now))) at ∙ changed-first c.args.request change asks.items c.index_mut.result.now lt)

pub returns-else-at-len : goal.returns-else-at-len
returns-else-at-len c =
    let asks = c.args.asks.now in
    let at : c.place_of-at.result ≡ first_of c.args.request asks.items = c.place_of-at.ensures ∙ ap (first_of c.args.request) c.as_slice.ensures.value in
    changed-none c.args.request (λ (a : ChunkAsked). record a { progress = waiting c.args.until }) asks.items (omega (arith, asks.ok.0))
