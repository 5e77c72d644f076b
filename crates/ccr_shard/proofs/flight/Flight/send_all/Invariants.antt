use Rattle.std.proofs.Common.{◌≡◌, ◌++◌, drop}
use Rattle.ccr_shard.proofs.flight.Flight.send_all.Given as goal

abbrev pub invariant-loop-message : goal.invariant-loop-message
invariant-loop-message l = l.self ++ drop l.message-index l.messages ≡ l.initial.self ++ l.messages
