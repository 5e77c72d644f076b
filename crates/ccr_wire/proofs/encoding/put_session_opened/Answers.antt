use Rattle.std.proofs.Common.{◌++◌, length}
use Rattle.std.specs.List.{flat_map}
use Rattle.ccr_wire.specs.Spelling.{u32, u64}
use Rattle.ccr_wire.proofs.WireAppends.{appends}
use Rattle.ccr_wire.proofs.encoding.put_session_opened.Goals as goal

pub returns : goal.returns
returns c =
    (appends c.args.to.now.items c.put_u64.new.to.items c.put_sizes.new.to.items (u64 c.args.session) (c.args.history.now ++ (u64 c.args.count ++ (u32 (length c.args.sizes.now) ++ flat_map u64 c.args.sizes.now))) c.in_ok-put_u64.ensures (appends c.put_u64.new.to.items c.put_uuid.new.to.items c.put_sizes.new.to.items (c.args.history.now) (u64 c.args.count ++ (u32 (length c.args.sizes.now) ++ flat_map u64 c.args.sizes.now)) c.in_ok-put_uuid.ensures (appends c.put_uuid.new.to.items c.put_u64-2.new.to.items c.put_sizes.new.to.items (u64 c.args.count) (u32 (length c.args.sizes.now) ++ flat_map u64 c.args.sizes.now) c.in_ok-put_u64-2.ensures (appends c.put_u64-2.new.to.items c.put_u32.new.to.items c.put_sizes.new.to.items (u32 (length c.args.sizes.now)) (flat_map u64 c.args.sizes.now) c.in_ok-put_u32.ensures c.in_ok-put_sizes.ensures))))
