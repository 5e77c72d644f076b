-- What earlier claims say of a place and of an event, as far as leases and reads need it.
use Rattle.std.specs.Prelude.{◌≡◌, ℕ, ◌≤◌, ◌<◌, true, false, List, length, slice_get, Some}
use Rattle.std.specs.List.{AllByRecursion}
use Rattle.std.specs.Str.{bytes_eq}
use Rattle.ccr_wire.specs.Message.{Frame}
use Rattle.ccr_wire.specs.declared.content.Content.{Content}
use Rattle.ccr_wire.specs.declared.content.Content.TheVariants as contents
use Rattle.ccr_model.specs.Copies.{Copy, all_copies}
use Rattle.ccr_model.specs.CopyFacts.{KnowsWhenReady}
use Rattle.ccr_model.specs.Leaders.{KeptRequest}
use Rattle.ccr_model.specs.Tasks.{Read}
use Rattle.ccr_model.specs.Followers.{Follower, Work, restoring, replicating, uuid_of}
use Rattle.ccr_model.specs.World.{State, follower_of}
use Rattle.ccr_model.specs.Past.{Past}
use Rattle.ccr_model.specs.FrameFacts.{AreTrueFrames, next_request_of}
use Rattle.ccr_model.specs.Invariants.{RetainsForWork, IsMissingTruly}
use Rattle.ccr_law_copies.specs.Cores.{IsNotNext}
use Rattle.ccr_law_leases.specs.TrueLeases.{HasTrueLeases}
use Rattle.ccr_law_leases.specs.NoteOrder.{HasNotesInOrder}

-- no copy's floor is above a number
abbrev pub FloorsLow : ℕ → List Copy → Type 0
FloorsLow b copies = AllByRecursion (λ (c : Copy). c.floor ≤ b) copies

-- ---- whose messages are in flight

-- a request for a lease asks for the follower's own
abbrev pub AsksForOwn : List ℕ → Content → Type 0
AsksForOwn lease (contents.LeaseAdd id) = id ≡ lease
AsksForOwn lease _ = Unit {0}

-- a message of this follower has a number that was drawn
pub record IsMessageOf (s : Follower) (m : Frame) : Type 0 where
  pub drawn : m.request < next_request_of s.work
  pub own : AsksForOwn s.lease m.content

pub record HasMessages (p : Past) (f : ℕ) (s : Follower) : Type 0 where
  pub named : follower_of p.state.followers (uuid_of f) ≡ Some f
  pub flight : AllByRecursion (λ (m : Frame). bytes_eq m.follower (uuid_of f) ≡ true → IsMessageOf s m) p.state.flight
  pub kept : AllByRecursion (λ (k : KeptRequest). bytes_eq k.follower (uuid_of f) ≡ true → k.id ≡ s.lease) p.state.leader.kept

-- each follower's messages are its own, and there is none of a follower that wasn't made yet
pub record HasOwnMessages (p : Past) : Type 0 where
  pub made : (f : ℕ) (s : Follower) → slice_get p.state.followers f ≡ Some s → HasMessages p f s
  pub unmade : AllByRecursion (λ (m : Frame). bytes_eq m.follower (uuid_of (length p.state.followers)) ≡ false) p.state.flight

-- ---- tasks and copies

-- each read begins at or below the least number that was never asked for
abbrev pub AsksBelowNext : Work → Type 0
AsksBelowNext (restoring r) = Unit {0}
AsksBelowNext (replicating t) = AllByRecursion (λ (r : Read). r.from ≤ t.next) t.reads

abbrev pub AllAskBelowNext : Past → Type 0
AllAskBelowNext p = (f : ℕ) (s : Follower) → slice_get p.state.followers f ≡ Some s → AsksBelowNext s.work

-- no follower's primary knows a lesser global count than before
abbrev pub Rises : State → State → Type 0
Rises before after = (f : ℕ) (s now : Follower) → slice_get before.followers f ≡ Some s → slice_get after.followers f ≡ Some now
    → s.copies.primary.global ≤ now.copies.primary.global

-- ---- histories

-- no follower has the history that a forced promotion would begin now
abbrev pub NoneHasNext : Past → Type 0
NoneHasNext p = (f : ℕ) (s : Follower) → slice_get p.state.followers f ≡ Some s → IsNotNext p s.history

-- ---- all of it

pub record HasGrounds (p : Past) : Type 0 where
  pub floors : FloorsLow p.line.cut (all_copies p.state.leader.copies)
  pub ready : KnowsWhenReady p.line p.state.leader.copies
  pub leases : HasTrueLeases p
  pub order : HasNotesInOrder p
  pub frames : AreTrueFrames p
  pub messages : HasOwnMessages p
  pub reads : AllAskBelowNext p

-- ---- what is said of a place

-- what a follower's lease retains where it has the leader's history, and what it is told to be missing
pub record SaysRetained (p : Past) (f : ℕ) (s : Follower) : Type 0 where
  pub retained : s.history ≡ p.state.leader.history → RetainsForWork p f s s.work
  pub missing : AllByRecursion (IsMissingTruly p f s) p.state.flight
