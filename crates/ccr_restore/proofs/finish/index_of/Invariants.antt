use Rattle.std.proofs.Common.{◌≡◌, ℕ, ◌≤◌, length, drop}
use Rattle.std.specs.List.{position_from}
use Rattle.ccr_restore.specs.Index.{is_part_at, place_in}
use Rattle.ccr_restore.proofs.finish.index_of.Given as goal

abbrev pub invariant-loop-at : goal.invariant-loop-at
invariant-loop-at l = record {
  within : l.at ≤ length l.parts;
  indexed : (place : ℕ × ℕ) → place_in l.index.entries place ≡ position_from (is_part_at place) l.at (drop l.at l.parts);
}

abbrev pub decreases-loop-at : goal.decreases-loop-at
decreases-loop-at l = l.at
