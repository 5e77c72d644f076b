use Rattle.std.proofs.Common.{◌≡◌, ◌++◌, map, drop}
use Rattle.ccr_store.specs.Kept.{part_size}
use Rattle.ccr_store.proofs.store.sizes_of.Given as goal

abbrev pub invariant-loop-part : goal.invariant-loop-part
invariant-loop-part l = l.sizes.items ++ map part_size (drop l.part-index l.parts) ≡ map part_size l.parts
