use Rattle.std.proofs.Common.{◌≡◌, ◌≤◌, ◌+◌, ◌++◌, Some, length, vec_len, vec_capacity}
use Rattle.std.specs.BTreeSet.{contains}
use Rattle.std.specs.Ordering.{nat_cmp}
use Rattle.std.specs.Vec.Iter.{into_iter_items}
use Rattle.ccr_store.specs.Kept.{joined_parts}
use Rattle.ccr_store.proofs.merges.join.Given as goal

abbrev pub invariant-loop-part : goal.invariant-loop-part
invariant-loop-part l = record {
  room : vec_len l.joined + length (into_iter_items l.part-iterator) ≤ vec_capacity l.joined;
  at : l.place + length (into_iter_items l.part-iterator) ≡ length l.fn.parts.items;
  so_far : l.joined.items ++ joined_parts (contains nat_cmp l.chosen) l.place l.left (into_iter_items l.part-iterator) ≡ joined_parts (contains nat_cmp l.chosen) 0 (Some l.fn.left) l.fn.parts.items;
}
