use Rattle.std.proofs.Common.{ℕ, ◌≡◌, ◌&&◌, nat_lt, length}
use Rattle.ccr_tracker.specs.Ranges.{AreApart, covers}
use Rattle.ccr_tracker.proofs.ranges.Ranges.cut_from.Given as goal

abbrev pub invariant-loop-first : goal.invariant-loop-first
invariant-loop-first l =
    AreApart 0 l.self-inside.by_start.entries
    × ((k : ℕ) → (covers l.self-inside.by_start.entries k && nat_lt k l.n) ≡ (covers l.initial.self-inside.by_start.entries k && nat_lt k l.n))

abbrev pub decreases-loop-first : goal.decreases-loop-first
decreases-loop-first l = length l.self-inside.by_start.entries
