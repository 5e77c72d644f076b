use Rattle.std.proofs.Common.{◌≡◌, ◌+◌, drop}
use Rattle.ccr_restore.specs.Asks.{first_of}
use Rattle.ccr_restore.proofs.asks.place_of.Given as goal

abbrev pub invariant-loop-at : goal.invariant-loop-at
invariant-loop-at l = l.at + first_of l.request (drop l.at l.asks) ≡ first_of l.request l.asks
