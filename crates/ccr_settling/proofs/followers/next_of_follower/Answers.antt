use Rattle.std.specs.Prelude.{MatchOption}
use Rattle.std.proofs.Common.{ℕ, List, Option, subst}
use Rattle.ccr_journal.specs.declared.events.Event.{Event}
use Rattle.ccr_model.specs.Leaders.{Poll}
use Rattle.ccr_settling.specs.Still.{Acts, IsApplied}
use Rattle.ccr_settling.proofs.followers.next_of_follower.Goals as goal

pub returns-in-Some-2 : goal.returns-in-Some-2
returns-in-Some-2 c =
    subst (λ (o : Option Event). MatchOption o ((write : ℕ) → IsApplied c.args.own.now write) (λ event. (polls : List Poll) → Acts c.args.f polls c.args.own.now event)) c.in-Some-2.is
    c.in_ok-event.ensures c.args.polls.now
