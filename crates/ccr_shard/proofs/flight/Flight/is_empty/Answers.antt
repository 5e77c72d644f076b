use Rattle.std.proofs.Common.{ap, ◌∙◌, ℕ, List}
use Rattle.std.specs.Prelude.{◌==◌}
use Rattle.ccr_wire.specs.Message.{Frame}
use Rattle.ccr_model.specs.Operations.{is_empty}
use Rattle.ccr_shard.specs.InFlight.{message_in}
use Rattle.ccr_shard.proofs.Wholes.{none_left}
use Rattle.ccr_shard.proofs.flight.Flight.is_empty.Goals as goal

pub returns : goal.returns
returns c =
    ap (λ (n : ℕ). n == 0) c.len.ensures ∙ (none_left message_in c.self.inside.net ∙ ap (λ (ms : List Frame). is_empty ms) c.self.view_is)
