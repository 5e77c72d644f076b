use Rattle.std.proofs.Common.{◌≡◌, ◌++◌, take}
use Rattle.std.specs.List.{flat_map}
use Rattle.ccr_wire.specs.Spelling.{u64}
use Rattle.ccr_wire.proofs.encoding.put_sizes.Given as goal

abbrev pub invariant-loop-size : goal.invariant-loop-size
invariant-loop-size l = l.to.items ≡ l.initial.to.items ++ flat_map u64 (take l.size-index l.sizes)
