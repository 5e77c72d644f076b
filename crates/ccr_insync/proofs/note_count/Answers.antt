use Rattle.std.proofs.Common.{arith}
use Rattle.ccr_insync.specs.Members.{as_acked}
use Rattle.ccr_insync.proofs.MemberLists.{map_turn}
use Rattle.ccr_insync.proofs.note_count.Goals as goal

pub loop-m-preserved : goal.loop-m-preserved
loop-m-preserved c =
    map_turn (as_acked c.args.copy c.args.count) c.args.members.now c.loop-m.members c.loop-m.m-index _ c.as_acked.result
    (omega arith) (omega arith) c.loop-m.invariant c.as_acked.ensures
