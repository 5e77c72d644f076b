use Rattle.std.proofs.Common.{◌≡◌, ◌≤◌, [], drop, length}
use Rattle.std.specs.BTreeSet.{contains}
use Rattle.std.specs.Ordering.{nat_cmp}
use Rattle.ccr_store.specs.Kept.{lists_of, with_keys, picked_numbers}
use Rattle.ccr_store.proofs.merges.numbers_at.Given as goal

abbrev pub invariant-loop-place : goal.invariant-loop-place
invariant-loop-place l = record {
  within : l.place-counter ≤ length l.parts;
  so_far : with_keys l.numbers.keys (picked_numbers (contains nat_cmp l.chosen) l.place-counter (drop l.place-counter (lists_of l.parts))) ≡ with_keys [] (picked_numbers (contains nat_cmp l.chosen) 0 (lists_of l.parts));
}
