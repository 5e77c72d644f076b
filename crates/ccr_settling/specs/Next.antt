-- What may be done next to settle a world.
use Rattle.std.specs.Prelude.{◌≡◌, false}
use Rattle.ccr_journal.specs.declared.events.Event.{Event}
use Rattle.ccr_model.specs.World.{State}
use Rattle.ccr_model.specs.Settled.{is_settled}
use Rattle.ccr_model.specs.Settling.{MaySettle}

-- something is left to be done, and the event brings the world nearer to where nothing is
pub record IsNext (s : State) (event : Event) : Type 0 where
  pub unsettled : is_settled s ≡ false
  pub may : MaySettle s event
