use Rattle.std.proofs.Common.{◌≡◌, ◌<◌, ◌≤◌, length, take}
use Rattle.ccr_net.specs.Joined.{joined}
use Rattle.ccr_net.proofs.places.place_from_back.Given as goal

abbrev pub invariant-loop-index : goal.invariant-loop-index
invariant-loop-index l = record { in_range : l.index ≤ length l.chunks.items; counts : l.end ≡ length (joined (take l.index l.chunks.items)); before : l.at < l.end }

abbrev pub decreases-loop-index : goal.decreases-loop-index
decreases-loop-index l = l.index
