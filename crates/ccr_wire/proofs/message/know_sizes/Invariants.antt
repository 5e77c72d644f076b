use Rattle.std.proofs.Common.{take}
use Rattle.std.specs.List.{AllByRecursion}
use Rattle.ccr_wire.specs.Message.{IsU64}
use Rattle.ccr_wire.proofs.message.know_sizes.Given as goal

abbrev pub invariant-loop-size : goal.invariant-loop-size
invariant-loop-size l = AllByRecursion IsU64 (take l.size-index l.sizes)
