use Rattle.std.proofs.Common.{◌≡◌, ◌+◌, ◌≤◌, ◌++◌, length}
use Rattle.std.specs.List.{AllByRecursion}
use Rattle.std.specs.Vec.Iter.{into_iter_items}
use Rattle.std.proofs.Common.{vec_len, vec_capacity}
use Rattle.ccr_store.specs.Kept.{kept_at, lists_of, cut_lists, IsClosed}
use Rattle.ccr_store.proofs.cuts.cut_parts.Given as goal

abbrev pub invariant-loop-part : goal.invariant-loop-part
invariant-loop-part l = record {
  room : vec_len l.shorter + length (into_iter_items l.part-iterator) ≤ vec_capacity l.shorter;
  so_far : lists_of l.shorter.items ++ cut_lists l.bound (lists_of (into_iter_items l.part-iterator)) ≡ cut_lists l.bound (lists_of l.fn.parts.items);
  rest : AllByRecursion (IsClosed (kept_at l.ops.entries)) (into_iter_items l.part-iterator);
  closed : AllByRecursion (IsClosed (kept_at l.ops.entries)) l.shorter.items;
}
