use Rattle.std.proofs.Common.{◌≡◌, ◌==◌, ◌&&◌, drop}
use Rattle.std.specs.Prelude.{find}
use Rattle.ccr_model.specs.Requests.{is_sent}
use Rattle.ccr_model.specs.Restores.{ChunkAsked}
use Rattle.ccr_restore.proofs.asks.ask_sent.Given as goal

abbrev pub invariant-loop-asked : goal.invariant-loop-asked
invariant-loop-asked l =
    find (λ (a : ChunkAsked). (a.request == l.request) && is_sent a.progress) (drop l.asked-index l.asks) ≡ find (λ (a : ChunkAsked). (a.request == l.request) && is_sent a.progress) l.asks
