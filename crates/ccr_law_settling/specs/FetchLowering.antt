-- What is proved of settling by the messages that bring a bootstrap its session and the parts of its files.
use Rattle.std.specs.Prelude.{◌≡◌, ℕ, Bool, true, List, Some, slice_get}
use Rattle.ccr_wire.specs.declared.content.Content.{Content}
use Rattle.ccr_wire.specs.declared.content.Content.TheVariants as contents
use Rattle.ccr_journal.specs.declared.events.Event.TheVariants as events
use Rattle.ccr_model.specs.Restores.{Restore, Asked, opening, fetching, Fetch, ChunkAsked, answers, ask_sent}
use Rattle.ccr_model.specs.Followers.{Follower, restoring}
use Rattle.ccr_model.specs.World.{State, follower_of}
use Rattle.ccr_law_settling.specs.Lowering.{Lowers, IsInFlight}

-- the message at this place goes to a follower that bootstraps
pub record IsForRestore (s : State) (at : ℕ) (uuid : List ℕ) (request : ℕ) (content : Content) : Type 0 where
  pub found : IsInFlight s at uuid request content
  pub number : ℕ
  pub own : Follower
  pub named : follower_of s.followers uuid ≡ Some number
  pub there : slice_get s.followers number ≡ Some own
  pub restore : Restore
  pub works : own.work ≡ restoring restore

-- it waits for a session under the message's number
pub record IsAnswerToOpening (s : State) (at : ℕ) (uuid : List ℕ) (request : ℕ) (content : Content) : Type 0 where
  pub goes : IsForRestore s at uuid request content
  pub asked : Asked
  pub opens : goes.restore.stage ≡ opening asked
  pub waits : answers (record { follower = uuid; request = request; content = content }) asked ≡ true

-- it waits for a part of a file under the message's number
pub record IsAnswerToPart (s : State) (at : ℕ) (uuid : List ℕ) (request : ℕ) (content : Content) : Type 0 where
  pub goes : IsForRestore s at uuid request content
  pub fetch : Fetch
  pub fetches : goes.restore.stage ≡ fetching fetch
  pub ask : ChunkAsked
  pub waits : ask_sent fetch request ≡ Some ask

-- the delivery of the word that the session is open, and of a part, to a bootstrap that waits for it
pub record FetchesLower (count_of : List ℕ → ℕ) (s : State) : Type 0 where
  pub opened : (at copy : ℕ) (keep : Bool) (uuid : List ℕ) (request session : ℕ) (history : List ℕ) (count : ℕ) (sizes : List ℕ)
      → IsAnswerToOpening s at uuid request (contents.SessionOpened session history count sizes) → Lowers count_of s (events.Deliver at copy keep)
  pub part : (at copy : ℕ) (keep : Bool) (uuid : List ℕ) (request session file offset : ℕ) (bytes : List ℕ)
      → IsAnswerToPart s at uuid request (contents.ChunkReply session file offset bytes) → Lowers count_of s (events.Deliver at copy keep)
