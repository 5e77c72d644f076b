use Rattle.std.specs.Prelude.{ℕ, ◌≤◌, List, length}
use Rattle.std.specs.Str.{IsUtf8}

-- the most bytes of an id
abbrev pub most_id_bytes : ℕ
most_id_bytes = 512

-- a text that may be the id of a document or of a lease, or a routing: 1 to 512 bytes
pub record IsIdText (bytes : List ℕ) : Type 0 where
  pub some : 1 ≤ length bytes
  pub few : length bytes ≤ most_id_bytes
  pub text : IsUtf8 bytes
