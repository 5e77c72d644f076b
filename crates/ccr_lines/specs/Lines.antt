use Rattle.std.specs.Prelude.{◌≡◌, ℕ, ◌<◌, ◌==◌, false, if◌then◌else◌, List, [], ◌∷◌, ◌++◌, ◌+◌, ◌-◌, take, drop, length, slice_index_or, Option, Some, None}
use Rattle.std.specs.List.{AllByRecursion}

-- a byte before the first of the lines
abbrev pub before_lines : ℕ → List (List ℕ) → List (List ℕ)
before_lines byte [] = (byte ∷ []) ∷ []
before_lines byte (line ∷ lines) = (byte ∷ line) ∷ lines

-- the lines of a text: each ends at a line feed or at the end, and an empty rest behind the last line feed is no line
abbrev pub lines_of : List ℕ → List (List ℕ)
lines_of [] = []
lines_of (byte ∷ bytes) = if byte == 10 then [] ∷ lines_of bytes else before_lines byte (lines_of bytes)

-- a byte before the first of the lines that end
abbrev pub before_ended : ℕ → List (List ℕ) → List (List ℕ)
before_ended byte [] = []
before_ended byte (line ∷ lines) = (byte ∷ line) ∷ lines

-- the lines that end in a text: those up to its last line feed
abbrev pub ended_lines : List ℕ → List (List ℕ)
ended_lines [] = []
ended_lines (byte ∷ bytes) = if byte == 10 then [] ∷ ended_lines bytes else before_ended byte (ended_lines bytes)

-- what a reader has yet to give, where its source tells it: the bytes that it has read ahead, and those that are left
abbrev pub rest_of : List ℕ → Option (List ℕ) → Option (List ℕ)
rest_of pending None = None
rest_of pending (Some left) = Some (pending ++ left)

-- the lines of what was there are this one and those of what is there now
abbrev pub GivesLine : Option (List ℕ) → Option (List ℕ) → List ℕ → Type 0
GivesLine None new line = Unit {0}
GivesLine (Some old) None line = ⊥
GivesLine (Some old) (Some new) line = lines_of old ≡ line ∷ lines_of new

-- the first line of what was there has more bytes than this
abbrev pub FirstLineIsOver : Option (List ℕ) → ℕ → Type 0
FirstLineIsOver None most = Unit {0}
FirstLineIsOver (Some old) most = (line : List ℕ) × (lines : List (List ℕ)) × (most < length line) × (lines_of old ≡ line ∷ lines)

-- there is a line
abbrev pub HasLine : Option (List ℕ) → Type 0
HasLine None = Unit {0}
HasLine (Some old) = (line : List ℕ) × (lines : List (List ℕ)) × (lines_of old ≡ line ∷ lines)

-- no byte is a line feed
abbrev pub IsPlain : List ℕ → Type 0
IsPlain bytes = AllByRecursion (λ byte. (byte == 10) ≡ false) bytes

-- the line stood before a line feed
abbrev pub GivesEnded : Option (List ℕ) → Option (List ℕ) → List ℕ → Type 0
GivesEnded None new line = Unit {0}
GivesEnded (Some old) None line = ⊥
GivesEnded (Some old) (Some new) line = IsPlain line × (old ≡ line ++ 10 ∷ new)

-- what was read of what was there, before this was left, has no line feed
abbrev pub BreaksOff : Option (List ℕ) → Option (List ℕ) → Type 0
BreaksOff None left = Unit {0}
BreaksOff (Some old) None = ⊥
BreaksOff (Some old) (Some left) = (piece : List ℕ) × IsPlain piece × (old ≡ piece ++ left)

-- the first line feed of the bytes is at this place
pub record BreaksAt (bytes : List ℕ) (place : ℕ) : Type 0 where
  pub plain : IsPlain (take place bytes)
  pub within : place < length bytes
  pub feed : bytes ≡ take place bytes ++ 10 ∷ drop (place + 1) bytes

-- of the bytes read ahead, those before the first line feed came to the line, and those behind it stay
pub record EndsLine (old new before after : List ℕ) : Type 0 where
  pub piece : List ℕ
  pub plain : IsPlain piece
  pub taken : after ≡ before ++ piece
  pub rest : old ≡ piece ++ 10 ∷ new

-- all bytes read ahead came to the line, and none is a line feed
pub record GoesOn (old new before after : List ℕ) : Type 0 where
  pub plain : IsPlain old
  pub taken : after ≡ before ++ old
  pub rest : new ≡ []

-- the line with the bytes read ahead that come before the first line feed, or with all of them where none is a line feed, is longer than this
pub record GoesOver (old before : List ℕ) (most : ℕ) : Type 0 where
  pub piece : List ℕ
  pub back : List ℕ
  pub plain : IsPlain piece
  pub front : old ≡ piece ++ back
  pub long : most < length before + length piece

-- a line without the one carriage return that may end it
abbrev pub without_return : List ℕ → List ℕ
without_return line = if slice_index_or line (length line - 1) 0 == 13 then take (length line - 1) line else line
