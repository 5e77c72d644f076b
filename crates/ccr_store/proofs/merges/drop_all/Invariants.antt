use Rattle.std.proofs.Common.{◌≡◌, ◌≤◌, ◌+◌, ◌++◌, ℕ, List, true, drop, take, length, vec_len, vec_capacity}
use Rattle.ccr_model.specs.Stores.{dropped, is_among}
use Rattle.ccr_store.specs.Kept.{kept_at, ops_of, times, IsIndexed, IsWithout}
use Rattle.ccr_store.proofs.merges.drop_all.Given as goal

abbrev pub invariant-loop-n : goal.invariant-loop-n
invariant-loop-n l = record {
  room : vec_len l.drops + length (drop l.n-index l.all) ≤ vec_capacity l.drops;
  without : IsWithout l.drops.items (kept_at l.initial.ops.entries) (kept_at l.ops.entries);
  among : (q : ℕ) → is_among l.drops.items q ≡ true → 1 ≤ times q (take l.n-index l.all);
  indexed : (numbers : List ℕ) → IsIndexed (kept_at l.initial.ops.entries) numbers l.initial.ids.entries → IsIndexed (kept_at l.ops.entries) numbers l.ids.entries;
  went : (numbers : List ℕ) → IsIndexed (kept_at l.initial.ops.entries) numbers l.initial.ids.entries
      → l.drops.items ++ dropped l.bound l.count (ops_of (kept_at l.ops.entries) numbers) (ops_of (kept_at l.ops.entries) (drop l.n-index l.all))
      ≡ dropped l.bound l.count (ops_of (kept_at l.initial.ops.entries) numbers) (ops_of (kept_at l.initial.ops.entries) l.all);
}
