use Rattle.std.specs.Vec.Iter.{into_iter_items}
use Rattle.ccr_store.proofs.Filled.{AreTaken}
use Rattle.ccr_store.proofs.filling.take_files.Given as goal

abbrev pub invariant-loop-file : goal.invariant-loop-file
invariant-loop-file l = AreTaken l.fn.files.items (into_iter_items l.file-iterator) l.parts.items l.ops.entries l.ids.entries
