use Rattle.std.proofs.Common.{◌++◌}
use Rattle.ccr_wire.specs.Spelling.{u64}
use Rattle.ccr_wire.proofs.WireAppends.{appends}
use Rattle.ccr_wire.proofs.encoding.put_read_request.Goals as goal

pub returns : goal.returns
returns c =
    (appends c.args.to.now.items c.put_uuid.new.to.items c.put_u64-4.new.to.items (c.args.history.now) (u64 c.args.from ++ (u64 c.args.max_ops ++ (u64 c.args.max_bytes ++ u64 c.args.timeout))) c.in_ok-put_uuid.ensures (appends c.put_uuid.new.to.items c.put_u64.new.to.items c.put_u64-4.new.to.items (u64 c.args.from) (u64 c.args.max_ops ++ (u64 c.args.max_bytes ++ u64 c.args.timeout)) c.in_ok-put_u64.ensures (appends c.put_u64.new.to.items c.put_u64-2.new.to.items c.put_u64-4.new.to.items (u64 c.args.max_ops) (u64 c.args.max_bytes ++ u64 c.args.timeout) c.in_ok-put_u64-2.ensures (appends c.put_u64-2.new.to.items c.put_u64-3.new.to.items c.put_u64-4.new.to.items (u64 c.args.max_bytes) (u64 c.args.timeout) c.in_ok-put_u64-3.ensures c.in_ok-put_u64-4.ensures))))
