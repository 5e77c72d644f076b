use Rattle.std.specs.Prelude.{MatchOption}
use Rattle.std.proofs.Common.{Option, subst}
use Rattle.ccr_journal.specs.declared.events.Event.{Event}
use Rattle.ccr_settling.specs.Still.{ActsThere, AreStillBetween}
use Rattle.ccr_settling.proofs.Idleness.{next-joined}
use Rattle.ccr_settling.proofs.choosing.next_of_followers.Goals as goal

pub returns : goal.returns
returns c =
    next-joined c.args.shard.now c.first_of-first.result c.followers-end.result c.in_ok-rest.rest c.followers-end.ensures
    (subst (λ (o : Option Event). MatchOption o (AreStillBetween c.args.shard.now c.first_of-first.result c.followers-end.result) (λ event. ActsThere c.args.shard.now event)) c.in_default.is c.in_ok-event.ensures)
    c.in_ok-rest.ensures
