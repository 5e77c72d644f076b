use Rattle.ccr_wire.specs.Spelling.{u64}
use Rattle.ccr_wire.proofs.WireAppends.{appends}
use Rattle.ccr_wire.proofs.encoding.put_read_missing.Goals as goal

pub returns : goal.returns
returns c =
    (appends c.args.to.now.items c.put_u64.new.to.items c.put_u64-2.new.to.items (u64 c.args.from) (u64 c.args.floor) c.in_ok-put_u64.ensures c.in_ok-put_u64-2.ensures)
