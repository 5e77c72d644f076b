use Rattle.std.proofs.Common.{◌∙◌, ap}
use Rattle.ccr_model.specs.Settled.{is_whole}
use Rattle.ccr_shard.proofs.Wholes.{whole_next}
use Rattle.ccr_shard.proofs.lookups.is_whole_at.Goals as goal

pub returns : goal.returns
returns c =
    whole_next c.args.count c.args.copies.now.replicas c.args.place c.in-Some.replica.now c.is_whole.result c.in-Some.ensures.value
    (c.is_whole.ensures ∙ ap (is_whole c.args.count) c.copy.ensures)
