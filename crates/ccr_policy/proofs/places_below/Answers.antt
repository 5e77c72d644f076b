use Rattle.ccr_policy.proofs.Places.{places_turn}
use Rattle.ccr_policy.proofs.places_below.Goals as goal

pub loop-place-preserved : goal.loop-place-preserved
loop-place-preserved c =
    places_turn c.loop-place.place c.loop-place.places.items c.push.new.self.items c.loop-place.invariant c.in_ok-push.ensures.items
