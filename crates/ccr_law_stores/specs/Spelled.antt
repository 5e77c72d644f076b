-- Operations that can be spelled in bytes, in a journal whose events are fit: their numbers are no greater than the entries so far allow,
-- and their texts are within their bounds.
use Rattle.std.specs.Prelude.{◌≡◌, ℕ, ◌+◌, ◌≤◌, ◌<◌, length, Option, Some}
use Rattle.ccr_op.specs.Operation.{Operation, HasSpelling, KindFits}
use Rattle.ccr_model.specs.Past.{Past}
use Rattle.ccr_law_stores.specs.TrueStores.{CanBeSpelled}

-- after so many entries the numbers of an operation are no greater than these entries allow, and its texts are within their bounds
pub record IsSmall (place : ℕ) (op : Operation) : Type 0 where
  pub seq : op.seq < place
  pub term : op.term ≤ place + 1
  pub version : op.version ≤ place
  pub kind : KindFits op.kind op.version

-- so are all operations that were given, and the leader's term
pub record AreSmall (place : ℕ) (given : ℕ → ℕ → Option Operation) (leader_term : ℕ) : Type 0 where
  pub each : (copy n : ℕ) (op : Operation) → given copy n ≡ Some op → IsSmall place op
  pub low : leader_term ≤ place + 1

abbrev pub HasSmallOps : Past → Type 0
HasSmallOps p = AreSmall p.place p.given p.state.leader.copies.term

-- in the words of the formats: each operation of the line, and each that a copy of the leader was given, can be spelled in bytes, and the
-- line has no more operations than there were entries
pub record IsSpelled (p : Past) : Type 0 where
  pub line : CanBeSpelled p.line
  pub given : (copy n : ℕ) (op : Operation) → p.given copy n ≡ Some op → HasSpelling op
  pub few : length p.line.ops ≤ p.place
