use Rattle.std.proofs.Common.{◌≡◌, drop}
use Rattle.ccr_model.specs.Stores.{capped}
use Rattle.ccr_copies.proofs.floors.cap.Given as goal

abbrev pub invariant-loop-lease : goal.invariant-loop-lease
invariant-loop-lease l = capped (drop l.lease-index l.leases) l.least ≡ capped l.leases l.initial.least
