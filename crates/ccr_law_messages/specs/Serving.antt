-- What is taken of the leader's stores and of the events: what a read of a copy brings, what a new session's files hold, and the parameters
-- of new followers.
use Rattle.std.specs.Prelude.{◌≡◌, ◌⊎◌, ℕ, ◌≤◌, List, length, Some}
use Rattle.std.specs.List.{AllByRecursion}
use Rattle.ccr_op.specs.Operation.{Operation}
use Rattle.ccr_wire.specs.Message.{IsRun}
use Rattle.ccr_journal.specs.Params.{AreInRange}
use Rattle.ccr_journal.specs.declared.events.Event.{Event}
use Rattle.ccr_journal.specs.declared.events.Event.TheVariants as events
use Rattle.ccr_model.specs.Tasks.{bytes_of}
use Rattle.ccr_model.specs.Copies.{Copy, copy_of}
use Rattle.ccr_model.specs.LeaderFrames.{read_ops, new_session}
use Rattle.ccr_model.specs.Past.{Line, Past}
use Rattle.ccr_model.specs.FrameFacts.{IsCommitted}
use Rattle.ccr_law_stores.specs.TrueStores.{IsTrueSession}

-- the operations that a read brings: committed, of consecutive numbers, at most so many, and at most so many bytes unless it is one
pub record ReadBrings (line : Line) (from max_ops max_bytes : ℕ) (ops : List Operation) : Type 0 where
  pub committed : AllByRecursion (IsCommitted line) ops
  pub run : IsRun from ops
  pub number : length ops ≤ max_ops
  pub size : (bytes_of ops ≤ max_bytes) ⊎ (length ops ≡ 1)

-- each read of a leader's copy at or above its floor, of one operation at least, brings that
abbrev pub ReadsBring : Past → Type 0
ReadsBring p = (copy : ℕ) (c : Copy) → copy_of p.state.leader.copies copy ≡ Some c → (from max_ops max_bytes : ℕ) → c.floor ≤ from → 1 ≤ max_ops
    → ReadBrings p.line from max_ops max_bytes (read_ops c from max_ops max_bytes)

-- the files of a session that is opened now are segments that serve for the line up to its count
abbrev pub OpensTruly : Past → Type 0
OpensTruly p = IsTrueSession p.line (new_session p.state.leader)

-- the parameters of a new follower are in their ranges
abbrev pub HasGoodParams : Event → Type 0
HasGoodParams (events.Follow params copies name) = AreInRange params
HasGoodParams _ = Unit {0}
