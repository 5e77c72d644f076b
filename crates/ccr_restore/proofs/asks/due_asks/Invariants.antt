use Rattle.std.proofs.Common.{◌≡◌, ◌++◌, drop, filter}
use Rattle.ccr_model.specs.Requests.{is_due}
use Rattle.ccr_model.specs.Restores.{ChunkAsked}
use Rattle.ccr_restore.proofs.asks.due_asks.Given as goal

abbrev pub invariant-loop-asked : goal.invariant-loop-asked
invariant-loop-asked l = l.due.items ++ filter (λ (a : ChunkAsked). is_due l.now a.progress) (drop l.asked-index l.asks) ≡ filter (λ (a : ChunkAsked). is_due l.now a.progress) l.asks
