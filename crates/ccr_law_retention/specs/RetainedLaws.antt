-- What holds at the start, what each event keeps, and what it says in the words of the theorem.
use Rattle.std.specs.Prelude.{◌≡◌, ℕ, List, slice_get, Some}
use Rattle.ccr_journal.specs.Params.{IsCopyCount}
use Rattle.ccr_journal.specs.declared.events.Event.{Event}
use Rattle.ccr_model.specs.Copies.{all_copies}
use Rattle.ccr_model.specs.Leaders.{Start}
use Rattle.ccr_model.specs.Followers.{Follower}
use Rattle.ccr_model.specs.Step.{step}
use Rattle.ccr_model.specs.Past.{Past, start_past}
use Rattle.ccr_model.specs.Invariants.{IsTrueLeader}
use Rattle.ccr_model.specs.Headline.{StopsTruly}
use Rattle.ccr_law_base.specs.Events.{past_by}
use Rattle.ccr_law_retention.specs.Grounds.{FloorsLow, NoneHasNext, Rises, HasGrounds, SaysRetained}
use Rattle.ccr_law_retention.specs.Retaining.{IsRetaining}

abbrev pub RetainedStart : Type 0
RetainedStart = (start : Start) → IsCopyCount start.copies → IsRetaining (start_past start)

-- where no follower has the history that a forced promotion would begin, and no follower's primary comes to know a lesser global count
abbrev pub RetainedKeep : Type 0
RetainedKeep = (p : Past) (event : Event) (picks : List ℕ) → HasGrounds p → NoneHasNext p → Rises p.state (past_by p event picks).state → IsRetaining p → IsRetaining (past_by p event picks)

-- of each follower: what its lease retains, and what it is told to be missing
abbrev pub RetainedSay : Type 0
RetainedSay = (p : Past) → HasGrounds p → IsRetaining p → (f : ℕ) (s : Follower) → slice_get p.state.followers f ≡ Some s → SaysRetained p f s

-- a task stops for missing operations only after its lease was dropped or removed
abbrev pub StopsSay : Type 0
StopsSay = (p : Past) (event : Event) (picks : List ℕ) → IsRetaining p → StopsTruly p event (step p.state event picks).reply

-- the floors that are taken for granted are within what is committed, as it is stated of the leader's copies
abbrev pub FloorsFollow : Type 0
FloorsFollow = (p : Past) → IsTrueLeader p → FloorsLow p.line.cut (all_copies p.state.leader.copies)
