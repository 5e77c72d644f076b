-- What a step of a task did: the task that it left, and the messages that it put behind those that were there.
use Rattle.std.specs.Prelude.{◌≡◌, List, ◌++◌}
use Rattle.ccr_wire.specs.Message.{Frame}
use Rattle.ccr_model.specs.Requests.{Sending}
use Rattle.ccr_model.specs.Tasks.{Task}

pub record Did (new : Task) (before after : List Frame) (done : Sending Task) : Type 0 where
  pub next : new ≡ done.next
  pub sent : after ≡ before ++ done.sent
