use Rattle.std.proofs.Common.{subst, Bool, ◌≡◌, sym}
use Rattle.std.specs.Prelude.{MatchBool, remove, map}
use Rattle.ccr_shard.specs.InFlight.{message_in}
use Rattle.ccr_shard.proofs.Flying.{lost}
use Rattle.ccr_shard.proofs.flight.Flight.lose.Goals as goal

pub returns-clause-after : goal.returns-clause-after
returns-clause-after c =
    subst (λ (b : Bool). MatchBool b (map message_in c.take-frame.new.self ≡ remove c.args.self.now c.args.at) (map message_in c.take-frame.new.self ≡ c.args.self.now))
    (sym c.is_some.ensures)
    (lost c.self.inside.net c.take-frame.new.self c.args.self.now c.args.at c.take-frame.result c.self.view_is c.take-frame.ensures.after)
