-- What a task sends agrees with its reads, and its reads with those that it had.
use Rattle.std.specs.Prelude.{◌≡◌, ℕ, ◌≤◌, ◌<◌, List, Some}
use Rattle.std.specs.List.{AllByRecursion}
use Rattle.ccr_op.specs.Operation.{Operation}
use Rattle.ccr_wire.specs.Message.{Frame}
use Rattle.ccr_wire.specs.declared.content.Content.{Content}
use Rattle.ccr_wire.specs.declared.content.Content.TheVariants as contents
use Rattle.ccr_journal.specs.Params.{AreInRange}
use Rattle.ccr_journal.specs.declared.params.ParamValues.{ParamValues}
use Rattle.ccr_model.specs.Requests.{Sending}
use Rattle.ccr_model.specs.Tasks.{Task, Read, Write, started, after_reply, filled_if_active, read_sent, read_lost, write_lost, write_sent, write_ended, ticked}
use Rattle.ccr_model.specs.Past.{Line, WrittenBatch}
use Rattle.ccr_model.specs.FrameFacts.{AsksAsRead}
use Rattle.ccr_law_tasks.specs.GoodTask.{IsGoodTask, IsTrueReply}

-- a read request asks what the task's read of that request number asks, where it is in the sent state
abbrev pub AsksAsSent : Task → ℕ → Content → Type 0
AsksAsSent t request (contents.ReadRequest history from max_ops max_bytes timeout) =
    (r : Read) → read_sent t request ≡ Some r → AsksAsRead history from max_ops max_bytes (record { task = t; read = r })
AsksAsSent t request _ = ⊥

-- a message that the task sent: a read request under a number that was drawn
pub record IsAskOf (t : Task) (m : Frame) : Type 0 where
  pub follower : m.follower ≡ t.follower
  pub drawn : m.request < t.next_request
  pub asks : AsksAsSent t m.request m.content

-- the read was in the sent state under this number, and asked for the same
pub record WasSent (t : Task) (request : ℕ) (now : Read) : Type 0 where
  pub read : Read
  pub sent : read_sent t request ≡ Some read
  pub from : now.from ≡ read.from
  pub asked : now.asked ≡ read.asked

-- what is in the sent state under a number that was drawn before was so before
pub record Continues (t next : Task) : Type 0 where
  pub history : next.history ≡ t.history
  pub follower : next.follower ≡ t.follower
  pub params : next.params ≡ t.params
  pub drawn : t.next_request ≤ next.next_request
  pub old : (request : ℕ) (now : Read) → request < t.next_request → read_sent next request ≡ Some now → WasSent t request now

pub record SendsAsks (t : Task) (done : Sending Task) : Type 0 where
  pub continues : Continues t done.next
  pub asks : AllByRecursion (IsAskOf done.next) done.sent

abbrev pub StartsAsking : Type 0
StartsAsking = (params : ParamValues) (count epoch : ℕ) (history follower : List ℕ) (request : ℕ)
    → AreInRange params → AllByRecursion (IsAskOf (started params count epoch history follower request).next) (started params count epoch history follower request).sent

-- over replies, retries, ended writes and losses
pub record GoesOnAsking (line : Line) (t : Task) : Type 0 where
  pub replies : (r : Read) (request from global : ℕ) (ops : List Operation) → IsTrueReply line t r request from ops → SendsAsks t (filled_if_active (after_reply t r global ops))
  pub ticked : (now : ℕ) → SendsAsks t (ticked now t)
  pub write_ended : (number : ℕ) (w : Write) → write_sent t number ≡ Some w → SendsAsks t (write_ended t w)
  pub read_lost : (now : ℕ) (r : Read) → Continues t (read_lost t now r)
  pub write_lost : (now : ℕ) (w : Write) → Continues t (write_lost t now w)

abbrev pub AsksTruly : Type 0
AsksTruly = (line : Line) (begun_at : ℕ) (written : List WrittenBatch) (t : Task) → IsGoodTask line t begun_at written → GoesOnAsking line t
