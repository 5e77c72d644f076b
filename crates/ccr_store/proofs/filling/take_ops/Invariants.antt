use Rattle.std.specs.Vec.Iter.{into_iter_items}
use Rattle.ccr_store.proofs.Filled.{IsTaking}
use Rattle.ccr_store.proofs.filling.take_ops.Given as goal

abbrev pub invariant-loop-op : goal.invariant-loop-op
invariant-loop-op l = IsTaking l.fn.file.items l.initial.ops.entries l.initial.ids.entries (into_iter_items l.op-iterator) l.numbers.items l.ops.entries l.ids.entries
