use Rattle.std.proofs.Common.{arith}
use Rattle.ccr_insync.specs.Members.{as_resynced}
use Rattle.ccr_insync.proofs.MemberLists.{map_turn}
use Rattle.ccr_insync.proofs.note_resync.Goals as goal

pub loop-m-preserved : goal.loop-m-preserved
loop-m-preserved c =
    map_turn (as_resynced c.args.copy) c.args.members.now c.loop-m.members c.loop-m.m-index _ c.as_resynced.result
    (omega arith) (omega arith) c.loop-m.invariant c.as_resynced.ensures
