-- Each event that settling may use makes the measure smaller.
use Rattle.std.specs.Prelude.{slice_get}
use Rattle.std.specs.Str.{bytes_eq}
use Rattle.std.proofs.Common.{◌≡◌, ℕ, ◌≤◌, true, List, Some, arith}
use Rattle.ccr_journal.specs.declared.sides.Side.TheVariants as sides
use Rattle.ccr_journal.specs.declared.events.Event.{Event}
use Rattle.ccr_journal.specs.declared.events.Event.TheVariants as events
use Rattle.ccr_model.specs.Followers.{Follower, Work, restoring, replicating, uuid_of}
use Rattle.ccr_model.specs.World.{State, follower_of}
use Rattle.ccr_model.specs.Past.{Past, line_of}
use Rattle.ccr_law_copies.specs.Cores.{IsCore}
use Rattle.ccr_law_copies.proofs.LeaderEvents.{line-is}
use Rattle.ccr_law_settling.specs.Within.{KnowsWithin}
use Rattle.ccr_law_settling.specs.Lowering.{counts_of, Lowers, CopyingLowers, WaitingLowers, EndingLowers}
use Rattle.ccr_law_settling.specs.TaskLowering.{TicksLower}
use Rattle.ccr_law_settling_grounds.specs.Purposes.{HasPurposes}
use Rattle.ccr_law_settling_grounds.specs.KnownCounts.{HasKnownCounts, IsWorkWithin}
use Rattle.ccr_law_settling.proofs.Joined.Awaited.{DeliveriesLower}
use Rattle.ccr_law_settling.proofs.Joined.Deliveries as deliveries

-- what each part of settling lowers
pub record AllLower (count_of : List ℕ → ℕ) (s : State) : Type 0 where
  pub copying : CopyingLowers count_of s
  pub waiting : WaitingLowers count_of s
  pub ending : EndingLowers count_of s
  pub ticks : TicksLower count_of s
  pub deliveries : DeliveriesLower count_of s

pub event_lowers : (count_of : List ℕ → ℕ) (s : State) → AllLower count_of s → HasPurposes s
    → ((f : ℕ) (own : Follower) → slice_get s.followers f ≡ Some own → follower_of s.followers (uuid_of f) ≡ Some f)
    → ((at : ℕ) (m : _) → slice_get s.flight at ≡ Some m → (f : ℕ) → follower_of s.followers m.follower ≡ Some f → bytes_eq m.follower (uuid_of f) ≡ true)
    → ((f : ℕ) (own : Follower) → slice_get s.followers f ≡ Some own → KnowsWithin (count_of own.history) own.work)
    → (event : Event) → Lowers count_of s event
event_lowers count_of s lower purposes named ours knows (events.Replicate side copy seq) = lower.copying.replicate side copy seq
event_lowers count_of s lower purposes named ours knows (events.Ack side copy) = lower.copying.ack side copy
event_lowers count_of s lower purposes named ours knows (events.Sync side copy) = lower.copying.sync side copy
event_lowers count_of s lower purposes named ours knows (events.Resync copy) = lower.copying.resync copy
event_lowers count_of s lower purposes named ours knows (events.Apply f epoch write batch) = lower.copying.apply f epoch write batch
event_lowers count_of s lower purposes named ours knows (events.Wake f at) = lower.waiting.wake f at
event_lowers count_of s lower purposes named ours knows (events.Clock (sides.Follower f) now) = lower.waiting.clock f now
event_lowers count_of s lower purposes named ours knows (events.Lose f at) = lower.deliveries.asking.lose f at
event_lowers count_of s lower purposes named ours knows (events.Written f write) = lower.ending.written f write (λ own there. knows f own there)
event_lowers count_of s lower purposes named ours knows (events.Tick f) = lower.ticks f
event_lowers count_of s lower purposes named ours knows (events.Deliver at copy keep) = deliveries.delivery_lowers count_of s at copy keep lower.deliveries purposes named ours
event_lowers count_of s lower purposes named ours knows _ = λ may picks. cc

-- ---- at a place

knows_within : (cut count : ℕ) (work : Work) → cut ≤ count → IsWorkWithin cut work → KnowsWithin count work
knows_within cut count (restoring r) le within = tt
knows_within cut count (replicating t) le within = let known : t.known ≤ cut = within.known in omega arith

pub known_within : (p : Past) → IsCore p → HasKnownCounts p → (f : ℕ) (own : Follower) → slice_get p.state.followers f ≡ Some own → KnowsWithin (counts_of p own.history) own.work
known_within p core known f own there =
    knows_within (line_of p own.history).cut (counts_of p own.history) own.work (line-is p core own.history).full (known.tasks f own there)
