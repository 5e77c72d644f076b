use Rattle.ccr_leader.proofs.Histories.{next-history}
use Rattle.ccr_leader.proofs.events.history_after.Goals as goal

pub returns : goal.returns
returns c =
    next-history c.args.first.now c.as_bytes.result.now c.args.term c.from_be_bytes-first.result c.from.result c.to_be_bytes.result c.from_bytes.result
    c.as_bytes.ensures c.from_be_bytes-first.ensures c.from.ensures c.to_be_bytes.ensures c.from_bytes.ensures
