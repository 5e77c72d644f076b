use Rattle.std.proofs.Common.{◌<◌, length}
use Rattle.ccr_search.specs.Joined.{rests_in, IsFirstOf}
use Rattle.ccr_search.proofs.fronts.first_place.Given as goal

abbrev pub invariant-loop-place : goal.invariant-loop-place
invariant-loop-place l = IsFirstOf l.sort (rests_in l.fronts) l.place l.first × (l.first < length l.fronts)
