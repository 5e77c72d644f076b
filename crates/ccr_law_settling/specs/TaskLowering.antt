-- What is proved of settling by ticks, and by answers to the reads of tasks.
use Rattle.std.specs.Prelude.{◌≡◌, ℕ, Bool, List, Some, slice_get}
use Rattle.ccr_op.specs.Operation.{Operation}
use Rattle.ccr_wire.specs.declared.content.Content.{Content}
use Rattle.ccr_wire.specs.declared.content.Content.TheVariants as contents
use Rattle.ccr_journal.specs.declared.events.Event.TheVariants as events
use Rattle.ccr_model.specs.Tasks.{Task, Read, read_sent}
use Rattle.ccr_model.specs.Followers.{Follower, replicating}
use Rattle.ccr_model.specs.World.{State, follower_of}
use Rattle.ccr_law_settling.specs.Lowering.{Lowers, IsInFlight}

-- each tick, of a bootstrap and of a task
abbrev pub TicksLower : (List ℕ → ℕ) → State → Type 0
TicksLower count_of s = (f : ℕ) → Lowers count_of s (events.Tick f)

-- the message at this place goes to a follower whose task waits for an answer to a read of its number
pub record IsAnswerToRead (s : State) (at : ℕ) (uuid : List ℕ) (request : ℕ) (content : Content) : Type 0 where
  pub found : IsInFlight s at uuid request content
  pub number : ℕ
  pub own : Follower
  pub named : follower_of s.followers uuid ≡ Some number
  pub there : slice_get s.followers number ≡ Some own
  pub task : Task
  pub works : own.work ≡ replicating task
  pub read : Read
  pub waits : read_sent task request ≡ Some read

-- the delivery of each answer to a read that waits for it
pub record RepliesLower (count_of : List ℕ → ℕ) (s : State) : Type 0 where
  pub reply : (at copy : ℕ) (keep : Bool) (uuid : List ℕ) (request from global : ℕ) (ops : List Operation)
      → IsAnswerToRead s at uuid request (contents.ReadReply from global ops) → Lowers count_of s (events.Deliver at copy keep)
  pub missing : (at copy : ℕ) (keep : Bool) (uuid : List ℕ) (request from floor : ℕ)
      → IsAnswerToRead s at uuid request (contents.ReadMissing from floor) → Lowers count_of s (events.Deliver at copy keep)
  pub history : (at copy : ℕ) (keep : Bool) (uuid : List ℕ) (request : ℕ) (history : List ℕ)
      → IsAnswerToRead s at uuid request (contents.ReadHistory history) → Lowers count_of s (events.Deliver at copy keep)
