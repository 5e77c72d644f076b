use Rattle.std.proofs.Common.{◌≡◌, drop}
use Rattle.ccr_leader.proofs.stale_copies.forget_first.Given as goal

abbrev pub invariant-loop : goal.invariant-loop
invariant-loop l = l.copies.items ≡ drop l.counter l.initial.copies.items
