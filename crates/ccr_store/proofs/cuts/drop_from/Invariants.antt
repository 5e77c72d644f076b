use Rattle.std.proofs.Common.{◌≡◌, ℕ, ◌≤◌, true, nat_lt, List, length}
use Rattle.ccr_store.specs.Kept.{kept_at, IsIndexed}
use Rattle.ccr_store.proofs.cuts.drop_from.Given as goal

abbrev pub invariant-loop : goal.invariant-loop
invariant-loop l = record {
  same : (q : ℕ) → nat_lt q l.bound ≡ true → kept_at l.ops.entries q ≡ kept_at l.initial.ops.entries q;
  indexed : (numbers : List ℕ) → IsIndexed (kept_at l.initial.ops.entries) numbers l.initial.ids.entries → IsIndexed (kept_at l.ops.entries) numbers l.ids.entries;
  fewer : length l.ops.entries ≤ length l.initial.ops.entries;
}

abbrev pub decreases-loop : goal.decreases-loop
decreases-loop l = length l.ops.entries
