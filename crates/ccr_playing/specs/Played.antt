-- What a run leaves, whatever its commands are: `does before command after text` says that a command took the journal from `before`
-- to `after` and is answered by this text, and `begins` that none, a part or all of what a command stands for was done, unanswered.
use Rattle.std.specs.Prelude.{◌≡◌, ◌≢◌, ◌⊎◌, ℕ, ◌+◌, ◌<◌, List, [], ◌∷◌, ◌++◌, length, take, Option, Some, None}
use Rattle.std.specs.List.{concat}
use Rattle.std.specs.Io.KnownBytes.{Appends, Consumes, IsAtEnd}
use Rattle.ccr_script.specs.declared.bad_lines.BadLine.{BadLine}
use Rattle.ccr_script.specs.declared.bad_lines.BadLine.TheVariants.{Memory}
use Rattle.ccr_playing.specs.Printed.{bad_text, line_of}
use Rattle.ccr_playing.specs.Script.{AreAll, AreFirst, AskFor, Asked, AsksFor, HaveEnded, IsBadBehind}

-- the commands were done one after another, each once, and these are their answer lines
abbrev pub AreDone : {C J : Type 0} → (J → C → J → List ℕ → Type 0) → J → List (Asked C) → J → List (List ℕ) → Type 0
AreDone does before [] after answers = (after ≡ before) × (answers ≡ [])
AreDone {J = J} does before (asked ∷ more) after answers =
    (mid : J) × (text : List ℕ) × (others : List (List ℕ)) × does before asked.command mid text × AreDone does mid more after others
    × (answers ≡ line_of asked.number text ∷ others)

-- a script's first lines aren't bad, the commands that they ask for were done, and these are the answer lines
pub record ArePlayed {C J : Type 0} (asks : List ℕ → Option C → Type 0) (fault : List ℕ → Option BadLine) (does : J → C → J → List ℕ → Type 0)
    (lines : List (List ℕ)) (before after : J) (answers : List (List ℕ)) : Type 0 where
  pub asked : List (Asked C)
  pub asks_for : AskFor asks fault 1 lines asked
  pub done : AreDone does before asked after answers

-- all lines of the script were played, nothing is left of it, and what was written is the answer lines
pub record Played {C J : Type 0} (asks : List ℕ → Option C → Type 0) (fault : List ℕ → Option BadLine) (does : J → C → J → List ℕ → Type 0)
    (script left : Option (List ℕ)) (before after : J) (old new : Option (List ℕ)) : Type 0 where
  pub lines : List (List ℕ)
  pub answers : List (List ℕ)
  pub are_all : AreAll script lines
  pub is_at_end : IsAtEnd left
  pub played : ArePlayed asks fault does lines before after answers
  pub written : Appends old new (concat answers)

-- the script's lines before the one of this number were played, that one is bad for this cause, and what was written is the answer lines and
-- the bad line's
pub record PlayedToBad {C J : Type 0} (asks : List ℕ → Option C → Type 0) (fault : List ℕ → Option BadLine) (does : J → C → J → List ℕ → Type 0)
    (number : ℕ) (why : BadLine) (script : Option (List ℕ)) (before after : J) (old new : Option (List ℕ)) : Type 0 where
  pub lines : List (List ℕ)
  pub answers : List (List ℕ)
  pub is_behind : number ≡ length lines + 1
  pub cause : why ≢ Memory
  pub bad : IsBadBehind fault script lines why
  pub played : ArePlayed asks fault does lines before after answers
  pub written : Appends old new (concat answers ++ line_of number (bad_text why))

-- reading failed before what is left: the lines that ended in what was read were played, and what was written is the answer lines
pub record PlayedToFault {C J : Type 0} (asks : List ℕ → Option C → Type 0) (fault : List ℕ → Option BadLine) (does : J → C → J → List ℕ → Type 0)
    (script left : Option (List ℕ)) (before after : J) (old new : Option (List ℕ)) : Type 0 where
  pub read : List ℕ
  pub lines : List (List ℕ)
  pub answers : List (List ℕ)
  pub was_read : Consumes script left read
  pub ended : HaveEnded script read lines
  pub played : ArePlayed asks fault does lines before after answers
  pub written : Appends old new (concat answers)

-- the line that a bad line behind these is answered, where there is one
abbrev pub bad_answers : List (List ℕ) → Option BadLine → List (List ℕ)
bad_answers lines None = []
bad_answers lines (Some why) = line_of (length lines + 1) (bad_text why) ∷ []

-- these are the script's first lines, and where there is a cause, the next one is bad for it
abbrev pub AreFirstBefore : (List ℕ → Option BadLine) → Option (List ℕ) → List (List ℕ) → Option BadLine → Type 0
AreFirstBefore fault script lines None = AreFirst script lines
AreFirstBefore fault script lines (Some why) = (why ≢ Memory) × IsBadBehind fault script lines why

-- all of the lines but the last were appended whole, and of the last a proper prefix
pub record AppendsCut (old new : Option (List ℕ)) (lines : List (List ℕ)) : Type 0 where
  pub whole : List (List ℕ)
  pub last : List ℕ
  pub count : ℕ
  pub are : lines ≡ whole ++ last ∷ []
  pub short : count < length last
  pub written : Appends old new (concat whole ++ take count last)

-- writing failed: the script's first lines were played, up to a place or to a bad line, and what was written of their answer lines, and of the
-- bad line's, is all but a part of the last
pub record CutShort {C J : Type 0} (asks : List ℕ → Option C → Type 0) (fault : List ℕ → Option BadLine) (does : J → C → J → List ℕ → Type 0)
    (script : Option (List ℕ)) (before after : J) (old new : Option (List ℕ)) : Type 0 where
  pub lines : List (List ℕ)
  pub bad : Option BadLine
  pub answers : List (List ℕ)
  pub first : AreFirstBefore fault script lines bad
  pub played : ArePlayed asks fault does lines before after answers
  pub written : AppendsCut old new (answers ++ bad_answers lines bad)

-- the line behind the script's first lines asks for a command, and of it none, a part or all was done
pub record HasBegun {C J : Type 0} (asks : List ℕ → Option C → Type 0) (fault : List ℕ → Option BadLine) (begins : J → C → J → Type 0)
    (script : Option (List ℕ)) (lines : List (List ℕ)) (before after : J) : Type 0 where
  pub line : List ℕ
  pub command : C
  pub first : AreFirst script (lines ++ line ∷ [])
  pub asks_for : AsksFor asks fault (length lines + 1) line (Some command)
  pub begun : begins before command after

-- memory ran out: the script's first lines were played and answered by whole lines, and the command of the next may have begun
pub record Begun {C J : Type 0} (asks : List ℕ → Option C → Type 0) (fault : List ℕ → Option BadLine) (does : J → C → J → List ℕ → Type 0)
    (begins : J → C → J → Type 0) (script : Option (List ℕ)) (before after : J) (old new : Option (List ℕ)) : Type 0 where
  pub lines : List (List ℕ)
  pub answers : List (List ℕ)
  pub between : J
  pub first : AreFirst script lines
  pub played : ArePlayed asks fault does lines before between answers
  pub begun : (after ≡ between) ⊎ HasBegun asks fault begins script lines between after
  pub written : Appends old new (concat answers)
