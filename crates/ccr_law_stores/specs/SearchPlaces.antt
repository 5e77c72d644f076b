-- What the searches of a journal rest on at a place, and what they answer there.
use Rattle.std.specs.Prelude.{◌≡◌, ℕ, slice_get, Option, Some}
use Rattle.std.specs.List.{AllByRecursion}
use Rattle.ccr_op.specs.Operation.{Operation}
use Rattle.ccr_tracker.specs.Numbers.{IsCanonical}
use Rattle.ccr_journal.specs.declared.journals.Entry.{Entry}
use Rattle.ccr_model.specs.Copies.{Copy, all_copies}
use Rattle.ccr_model.specs.Followers.{Follower}
use Rattle.ccr_model.specs.Past.{Line, Past, line_of}
use Rattle.ccr_model.specs.CopyFacts.{HoldsEnough}
use Rattle.ccr_model.specs.Invariants.{IsTrueFollowerCopy}
use Rattle.ccr_model.specs.Headline.{AnswersTruly}
use Rattle.ccr_law_base.specs.Events.{IsLegalAt}
use Rattle.ccr_law_copies.specs.Cores.{IsCore}
use Rattle.ccr_law_stores.specs.Searchable.{HoldsOnce}

-- a leader's copy holds enough of what it was given, nothing twice
abbrev pub HoldsForLeader : (ℕ → ℕ → Option Operation) → Copy → Type 0
HoldsForLeader given c = HoldsEnough (given c.number) 0 c × HoldsOnce c

-- a follower's copy is true, keeps its numbers in their one form, and holds nothing twice
abbrev pub HoldsForFollower : Line → (ℕ → ℕ → Option Operation) → ℕ → Copy → Type 0
HoldsForFollower line given restored c = IsTrueFollowerCopy line given restored c × IsCanonical c.seen × HoldsOnce c

-- all copies can be searched
pub record AreSearchable (p : Past) : Type 0 where
  pub core : IsCore p
  pub leader : AllByRecursion (HoldsForLeader p.given) (all_copies p.state.leader.copies)
  pub followers : (f : ℕ) (s : Follower) → slice_get p.state.followers f ≡ Some s
      → AllByRecursion (HoldsForFollower (line_of p s.history) (p.followers f).given (p.followers f).restored) (all_copies s.copies)

-- each legal entry of a search is answered truly
abbrev pub AnswersAtPlaces : Type 0
AnswersAtPlaces = (p : Past) → AreSearchable p → (entry : Entry) → IsLegalAt p entry → AnswersTruly p entry.event entry.reply
