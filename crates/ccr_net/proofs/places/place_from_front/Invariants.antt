use Rattle.std.proofs.Common.{◌≡◌, ◌+◌, length, take}
use Rattle.ccr_net.specs.Joined.{joined}
use Rattle.ccr_net.proofs.places.place_from_front.Given as goal

abbrev pub invariant-loop-index : goal.invariant-loop-index
invariant-loop-index l = length (joined (take l.index l.chunks.items)) + l.offset ≡ l.at
