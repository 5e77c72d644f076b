-- What settling comes to, at a place of a journal.
use Rattle.std.specs.Prelude.{◌≡◌, true}
use Rattle.ccr_journal.specs.declared.events.Event.{Event}
use Rattle.ccr_model.specs.Settled.{is_settled}
use Rattle.ccr_model.specs.Settling.{MaySettle}
use Rattle.ccr_model.specs.Past.{Past}
use Rattle.ccr_law_settling.specs.Lowering.{LowersAt}
use Rattle.ccr_law_settling_grounds.specs.KnownCounts.{HasKnownCounts}
use Rattle.ccr_law_settling_grounds.specs.Parked.{IsParkedRightly}
use Rattle.ccr_law_settling_grounds.specs.Pending.{HasPending}
use Rattle.ccr_law.specs.Parts.{IsWhole}

-- what holds at every place: what the theorem rests on, and what settling needs besides
pub record IsFull (p : Past) : Type 0 where
  pub whole : IsWhole p
  pub known : HasKnownCounts p
  pub parked : IsParkedRightly p.state.leader
  pub pending : HasPending p.state

-- each event that may be used to settle makes the measure smaller, from place to place
abbrev pub EachLowers : Past → Type 0
EachLowers p = (event : Event) → LowersAt p event

-- where no event may be used, the world is settled
abbrev pub NoneIsLeft : Past → Type 0
NoneIsLeft p = ((event : Event) → ¬ MaySettle p.state event) → is_settled p.state ≡ true
