-- Where in a segment's bytes each of its operations begins.
use Rattle.std.specs.Prelude.{◌≡◌, ℕ, ◌+◌, Bool, List, [], ◌∷◌, length, Option, Some, None, Result, Ok, Err}
use Rattle.ccr_op.specs.Operation.{Operation, is_routed}
use Rattle.ccr_op.specs.Spelling.{spelling as op_spelling}
use Rattle.ccr_segment.specs.declared.index.Place.{Place}
use Rattle.ccr_segment.specs.declared.bad_segment.BadSegment.{BadSegment}
use Rattle.ccr_segment.specs.Reading.{segment_of}

-- the places of operations that stand one after the other, the first at start
abbrev pub places_of : ℕ → List Operation → List Place
places_of start [] = []
places_of start (op ∷ ops) = record { seq = op.seq; start = start } ∷ places_of (start + length (op_spelling op)) ops

-- the result of a reading, seen by view
abbrev pub seen : {A B : Type 0} → (A → B) → Result A BadSegment → Result B BadSegment
seen view (Ok x) = Ok (view x)
seen view (Err e) = Err e

-- the value of a reading, and none where it failed
abbrev pub read_or_none : Result (List Operation) BadSegment → List Operation
read_or_none (Ok ops) = ops
read_or_none (Err e) = []

-- the operations that the bytes hold
abbrev pub ops_in : List ℕ → List Operation
ops_in bytes = read_or_none (segment_of bytes)

-- the bytes are a segment, and these are its places
pub record IsOpened (bytes : List ℕ) (places : List Place) : Type 0 where
  pub read : segment_of bytes ≡ Ok (ops_in bytes)
  pub indexed : places ≡ places_of 9 (ops_in bytes)

-- the least number that may follow
abbrev pub least_after : Option ℕ → ℕ
least_after None = 0
least_after (Some seq) = seq + 1

-- what an operation tells the index, with the bytes after it: its number, how many bytes it takes, and whether it has a routing
abbrev pub told : Operation × List ℕ → ℕ × ℕ × Bool × List ℕ
told x = (x.0.seq, length (op_spelling x.0), is_routed x.0, x.1)
