-- What a message has to keep to that comes to a leader.
use Rattle.std.specs.Prelude.{◌≡◌, ℕ, ◌<◌, ◌+◌, Bool, not, ◌&&◌, nat_lt, List, length, slice_get, Some}
use Rattle.ccr_wire.specs.declared.content.Content.{Content}
use Rattle.ccr_wire.specs.declared.content.Content.TheVariants.{ChunkRequest}
use Rattle.ccr_model.specs.Copies.{Copy}
use Rattle.ccr_model.specs.Leaders.{Leader, Session, Poll, session_of}

-- a request for a part of a file of an open session names a file of it and an offset below the file's size
pub record IsWithin (sessions : List Session) (session file offset : ℕ) : Type 0 where
  pub each : (s : Session) → session_of sessions session ≡ Some s → (bytes : List ℕ) × ((slice_get s.files file ≡ Some bytes) × (offset < length bytes))

-- what a leader asks of a message that comes to it: a request for a part of a file is within what its session has
abbrev pub IsPlaced : Leader → Content → Type 0
IsPlaced s (ChunkRequest session file offset size) = IsWithin s.sessions session file offset
IsPlaced s _ = Unit {0}

-- the read that waits has nothing to bring yet, and its time is not over
abbrev pub has_to_stay : Leader → Poll → Copy → Bool
has_to_stay s p c = not (nat_lt p.from c.global) && nat_lt s.now (p.parked + p.timeout)
