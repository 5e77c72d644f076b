use Rattle.std.proofs.Common.{◌∙◌, ap, not}
use Rattle.ccr_tracker.specs.Numbers.{Numbers}
use Rattle.ccr_model.specs.Operations.{is_empty}
use Rattle.ccr_shard.proofs.Rows.{found_is}
use Rattle.ccr_shard.proofs.searches.found.Goals as goal

pub returns : goal.returns
returns c =
    found_is c.shard_search.result c.args.copy.now c.args.request.now.query c.as_slice.result.now c.args.request.now.sort c.count.result c.has_gap-gap.result c.store.result.now c.count.ensures
    (c.has_gap-gap.ensures ∙ ap (λ (seen : Numbers). not (is_empty seen.above)) c.seen.ensures) c.store.ensures c.as_slice.ensures c.requires c.shard_search.ensures.answer
