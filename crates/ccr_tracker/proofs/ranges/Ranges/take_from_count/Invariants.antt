use Rattle.std.proofs.Common.{ℕ, ◌≡◌, ◌||◌, nat_lt, length}
use Rattle.ccr_tracker.specs.Ranges.{AreApart, covers}
use Rattle.ccr_tracker.proofs.ranges.Ranges.take_from_count.Given as goal

abbrev pub invariant-loop-first : goal.invariant-loop-first
invariant-loop-first l =
    AreApart 0 l.self-inside.by_start.entries
    × ((k : ℕ) → (nat_lt k l.count || covers l.self-inside.by_start.entries k) ≡ (nat_lt k l.initial.count || covers l.initial.self-inside.by_start.entries k))

abbrev pub decreases-loop-first : goal.decreases-loop-first
decreases-loop-first l = length l.self-inside.by_start.entries
