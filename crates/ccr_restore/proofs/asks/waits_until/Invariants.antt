use Rattle.std.proofs.Common.{◌≡◌, drop}
use Rattle.ccr_restore.specs.Asks.{earlier}
use Rattle.ccr_restore.proofs.Asking.{least_in}
use Rattle.ccr_restore.proofs.asks.waits_until.Given as goal

abbrev pub invariant-loop-asked : goal.invariant-loop-asked
invariant-loop-asked l = earlier l.least (least_in (drop l.asked-index l.asks)) ≡ least_in l.asks
