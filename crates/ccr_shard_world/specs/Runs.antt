-- What settling adds to a journal.
use Rattle.std.specs.Prelude.{◌≡◌, true, List, [], ◌∷◌, ◌++◌}
use Rattle.ccr_journal.specs.declared.events.Event.TheVariants as events
use Rattle.ccr_journal.specs.declared.replies.Reply.TheVariants as replies
use Rattle.ccr_journal.specs.declared.journals.Entry.{Entry}
use Rattle.ccr_model.specs.Leaders.{Start}
use Rattle.ccr_model.specs.World.{State, start_state}
use Rattle.ccr_model.specs.Step.{outcome_at, state_after}
use Rattle.ccr_model.specs.Settled.{is_settled}
use Rattle.ccr_model.specs.Past.{Past, past_after}
use Rattle.ccr_law_settling.specs.Measure.{IsBelow}
use Rattle.ccr_law_settling.specs.Lowering.{measure_at}
use Rattle.ccr_law_reached.specs.Reached.{told_by}
use Rattle.ccr_settling.specs.Next.{IsNext}

-- each entry is of an event that may be chosen where it stands
abbrev pub AreSettling : State → List Entry → Type 0
AreSettling s [] = Unit {0}
AreSettling s (entry ∷ entries) = IsNext s entry.event × AreSettling (outcome_at s entry).next entries

-- each entry makes the five numbers of settling smaller, from its place to the next
abbrev pub AreLowering : Past → List Entry → Type 0
AreLowering p [] = Unit {0}
AreLowering p (entry ∷ entries) = IsBelow (measure_at (past_after p entry)) (measure_at p) × AreLowering (past_after p entry) entries

-- a journal grew by such entries
pub record Settling (start : Start) (old new : List Entry) : Type 0 where
  pub added : List Entry
  pub grew : new ≡ old ++ added
  pub each : AreSettling (state_after (start_state start) old) added
  pub lowers : AreLowering (told_by start old) added

-- the entry that says that a world is settled
abbrev pub settle_entry : Entry
settle_entry = record { event = events.Settle; reply = replies.Settled }

-- it grew by such entries, behind which the world is settled, and by the one that says so
pub record SettledBy (start : Start) (old new : List Entry) : Type 0 where
  pub between : List Entry
  pub run : Settling start old between
  pub settled : is_settled (state_after (start_state start) between) ≡ true
  pub last : new ≡ between ++ settle_entry ∷ []
