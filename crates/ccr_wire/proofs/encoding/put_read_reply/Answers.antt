use Rattle.std.proofs.Common.{◌++◌, length}
use Rattle.std.specs.List.{flat_map}
use Rattle.ccr_op.specs.Spelling.{spelling}
use Rattle.ccr_wire.specs.Spelling.{u32, u64}
use Rattle.ccr_wire.proofs.WireAppends.{appends}
use Rattle.ccr_wire.proofs.encoding.put_read_reply.Goals as goal

pub returns : goal.returns
returns c =
    (appends c.args.to.now.items c.put_u64.new.to.items c.put_ops.new.to.items (u64 c.args.from) (u64 c.args.global ++ (u32 (length c.args.ops.now) ++ flat_map spelling c.args.ops.now)) c.in_ok-put_u64.ensures (appends c.put_u64.new.to.items c.put_u64-2.new.to.items c.put_ops.new.to.items (u64 c.args.global) (u32 (length c.args.ops.now) ++ flat_map spelling c.args.ops.now) c.in_ok-put_u64-2.ensures (appends c.put_u64-2.new.to.items c.put_u32.new.to.items c.put_ops.new.to.items (u32 (length c.args.ops.now)) (flat_map spelling c.args.ops.now) c.in_ok-put_u32.ensures c.in_ok-put_ops.ensures)))
