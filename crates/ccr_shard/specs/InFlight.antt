-- the messages in flight, as the bytes of their frames
use Rattle.std.specs.Prelude.{◌≡◌, ℕ, List, []}
use Rattle.std.specs.Result.{result_unwrap_or}
use Rattle.ccr_wire.specs.Message.{Frame, HasSpelling}
use Rattle.ccr_wire.specs.Spelling.{spelling}
use Rattle.ccr_wire.specs.Reading.{message_of}
use Rattle.ccr_wire.specs.declared.content.Content.TheVariants.{SessionOpen}

-- the message that the bytes of a frame spell; bytes that spell none stand for an arbitrary one
abbrev pub message_in : List ℕ → Frame
message_in bytes = result_unwrap_or (message_of bytes) (record { follower = []; request = 0; content = SessionOpen })

-- the bytes are the spelling of a message
pub record IsSpelled (bytes : List ℕ) : Type 0 where
  pub fits : HasSpelling (message_in bytes)
  pub spelled : bytes ≡ spelling (message_in bytes)
