use Rattle.ccr_shard.proofs.Wholes.{gap_is}
use Rattle.ccr_shard.proofs.searches.has_gap.Goals as goal

pub returns : goal.returns
returns c = gap_is c.args.seen.now.count c.args.seen.now.above c.gap.result c.count-count.ensures.canonical c.gap.ensures
