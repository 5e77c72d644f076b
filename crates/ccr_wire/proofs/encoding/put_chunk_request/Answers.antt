use Rattle.std.proofs.Common.{◌++◌}
use Rattle.ccr_wire.specs.Spelling.{u32, u64}
use Rattle.ccr_wire.proofs.WireAppends.{appends}
use Rattle.ccr_wire.proofs.encoding.put_chunk_request.Goals as goal

pub returns : goal.returns
returns c =
    (appends c.args.to.now.items c.put_u64.new.to.items c.put_u32-2.new.to.items (u64 c.args.session) (u32 c.args.file ++ (u64 c.args.offset ++ u32 c.args.size)) c.in_ok-put_u64.ensures (appends c.put_u64.new.to.items c.put_u32.new.to.items c.put_u32-2.new.to.items (u32 c.args.file) (u64 c.args.offset ++ u32 c.args.size) c.in_ok-put_u32.ensures (appends c.put_u32.new.to.items c.put_u64-2.new.to.items c.put_u32-2.new.to.items (u64 c.args.offset) (u32 c.args.size) c.in_ok-put_u64-2.ensures c.in_ok-put_u32-2.ensures)))
