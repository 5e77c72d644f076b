use Rattle.std.proofs.Common.{◌≡◌, ◌++◌}
use Rattle.ccr_store.proofs.store.copy_map.Given as goal

abbrev pub invariant-loop-n : goal.invariant-loop-n
invariant-loop-n l = l.copies.entries ++ l.n-iterator ≡ l.ops.entries
