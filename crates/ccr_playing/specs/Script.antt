-- The lines of a script and what they ask for, whatever its commands are: `asks` says of the bytes of a line that they ask for a command, or
-- for none, and `fault` says what is wrong with them. Where a source doesn't tell its bytes, nothing is said of which lines they are.
use Rattle.std.specs.Prelude.{◌≡◌, ℕ, ◌+◌, ◌==◌, nat_lt, if◌then◌else◌, List, [], ◌∷◌, ◌++◌, length, Option, Some, None}
use Rattle.ccr_lines.specs.Lines.{ended_lines, lines_of, without_return}
use Rattle.ccr_lines.specs.declared.chunks.TheConstants.{MOST_LINE_BYTES}
use Rattle.ccr_lines.specs.declared.lines.TheConstants.{MOST_LINES}
use Rattle.ccr_script.specs.declared.bad_lines.BadLine.{BadLine}
use Rattle.ccr_script.specs.declared.bad_lines.BadLine.TheVariants.{TooLong, TooMany}

-- what is wrong with the line of this number, if anything: it is one too many, or too long, or its bytes are bad
abbrev pub fault_at : (List ℕ → Option BadLine) → ℕ → List ℕ → Option BadLine
fault_at fault number line =
    if number == MOST_LINES then Some TooMany
    else if nat_lt MOST_LINE_BYTES (length line) then Some TooLong
    else fault (without_return line)

-- the line of this number isn't bad, and asks for this command, or for none
pub record AsksFor {C : Type 0} (asks : List ℕ → Option C → Type 0) (fault : List ℕ → Option BadLine) (number : ℕ) (line : List ℕ) (command : Option C) : Type 0 where
  pub good : fault_at fault number line ≡ None
  pub is_for : asks (without_return line) command

-- a command with the number of its line
pub record Asked (C : Type 0) : Type 0 where
  pub number : ℕ
  pub command : C

-- a line's command, where it has one, before the others
abbrev pub asked_with : {C : Type 0} → ℕ → Option C → List (Asked C) → List (Asked C)
asked_with number None others = others
asked_with number (Some command) others = record { number = number; command = command } ∷ others

-- none of these lines, numbered from this one on, is bad, and these are the commands that they ask for
abbrev pub AskFor : {C : Type 0} → (List ℕ → Option C → Type 0) → (List ℕ → Option BadLine) → ℕ → List (List ℕ) → List (Asked C) → Type 0
AskFor asks fault number [] asked = asked ≡ []
AskFor {C = C} asks fault number (line ∷ lines) asked =
    (command : Option C) × (others : List (Asked C)) × AsksFor asks fault number line command × AskFor asks fault (number + 1) lines others
    × (asked ≡ asked_with number command others)

-- these are all lines of the script
abbrev pub AreAll : Option (List ℕ) → List (List ℕ) → Type 0
AreAll None lines = Unit {0}
AreAll (Some script) lines = lines_of script ≡ lines

-- these are the script's first lines
abbrev pub AreFirst : Option (List ℕ) → List (List ℕ) → Type 0
AreFirst None lines = Unit {0}
AreFirst (Some script) lines = (others : List (List ℕ)) × (lines_of script ≡ lines ++ others)

-- these are the lines that ended in what was read of the script
abbrev pub HaveEnded : Option (List ℕ) → List ℕ → List (List ℕ) → Type 0
HaveEnded None read lines = Unit {0}
HaveEnded (Some script) read lines = ended_lines read ≡ lines

-- the line behind the script's first lines is bad for this cause
abbrev pub IsBadBehind : (List ℕ → Option BadLine) → Option (List ℕ) → List (List ℕ) → BadLine → Type 0
IsBadBehind fault None lines why = Unit {0}
IsBadBehind fault (Some script) lines why =
    (line : List ℕ) × (others : List (List ℕ)) × (lines_of script ≡ lines ++ line ∷ others) × (fault_at fault (length lines + 1) line ≡ Some why)
