use Rattle.std.proofs.Common.{ℕ, ◌≡◌, ◌||◌, true, nat_lt}
use Rattle.ccr_tracker.specs.Ranges.{AreApart, covers}
use Rattle.ccr_tracker.proofs.ranges.Ranges.first_outside.Given as goal

abbrev pub invariant-loop-first : goal.invariant-loop-first
invariant-loop-first l =
    AreApart 0 l.first-iterator
    × ((k : ℕ) → covers l.first-iterator k ≡ true → covers l.self k ≡ true)
    × ((k : ℕ) → covers l.self k ≡ true → ((nat_lt k l.count || covers l.held k) || covers l.first-iterator k) ≡ true)
