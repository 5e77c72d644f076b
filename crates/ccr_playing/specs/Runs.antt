-- A run so far.
use Rattle.std.specs.Prelude.{◌≡◌, ℕ, ◌+◌, Bool, false, List, [], ◌∷◌, ◌++◌, length, Option, Some, None}
use Rattle.std.specs.List.{concat}
use Rattle.std.specs.Io.KnownBytes.{Appends}
use Rattle.ccr_lines.specs.Lines.{ended_lines, lines_of, rest_of}
use Rattle.ccr_lines.specs.Reader.{Reader}
use Rattle.ccr_script.specs.declared.bad_lines.BadLine.{BadLine}
use Rattle.ccr_playing.specs.declared.statuses.Status.{Status}
use Rattle.ccr_playing.specs.declared.playing.Halt.{Halt}
use Rattle.ccr_playing.specs.declared.playing.Halt.TheVariants.{Ended, Left}
use Rattle.ccr_playing.specs.Played.{ArePlayed}
use Rattle.ccr_playing.specs.Script.{AsksFor}
use Rattle.ccr_playing.specs.Tells.{AreQuiet, AreTold, Tells}

-- what a run began with: the script, where the source tells its bytes, the journal, and the sink's bytes, where it tells them
pub record Start (J : Type 0) : Type 0 where
  pub script : Option (List ℕ)
  pub journal : J
  pub taken : Option (List ℕ)

-- where a run is: how far its lines were read, what is left of the source, the journal, and the sink's bytes
pub record Place (J : Type 0) : Type 0 where
  pub lines : Reader
  pub left : Option (List ℕ)
  pub journal : J
  pub taken : Option (List ℕ)

-- what is still to be played of the script
abbrev pub rest_at : {J : Type 0} → Place J → Option (List ℕ)
rest_at place = rest_of place.lines.pending place.left

-- the script's lines are these and those of the rest
abbrev pub AreBefore : Option (List ℕ) → Option (List ℕ) → List (List ℕ) → Type 0
AreBefore None rest lines = Unit {0}
AreBefore (Some script) None lines = ⊥
AreBefore (Some script) (Some rest) lines = lines_of script ≡ lines ++ lines_of rest

-- the script is these lines, each ended by a line feed, and the rest: whatever stands behind such a front, its lines that end are these first
pub record AreEndedLines (script rest : List ℕ) (lines : List (List ℕ)) : Type 0 where
  pub front : List ℕ
  pub splits : script ≡ front ++ rest
  pub ended : (more : List ℕ) → ended_lines (front ++ more) ≡ lines ++ ended_lines more

-- the same, where the source tells its bytes
abbrev pub AreEndedBefore : Option (List ℕ) → Option (List ℕ) → List (List ℕ) → Type 0
AreEndedBefore None rest lines = Unit {0}
AreEndedBefore (Some script) None lines = ⊥
AreEndedBefore (Some script) (Some rest) lines = AreEndedLines script rest lines

-- so many lines of the script were read, and the rest stands behind them; until the source has said that it is at its end, each of them ended
pub record AreRead (script rest : Option (List ℕ)) (number : ℕ) (at_end : Bool) (lines : List (List ℕ)) : Type 0 where
  pub before : AreBefore script rest lines
  pub ended : at_end ≡ false → AreEndedBefore script rest lines
  pub count : number ≡ length lines

-- the lines that were read were played, and what was written is their answer lines
pub record Playing {C J : Type 0} (asks : List ℕ → Option C → Type 0) (fault : List ℕ → Option BadLine) (does : J → C → J → List ℕ → Type 0)
    (start : Start J) (place : Place J) : Type 0 where
  pub lines : List (List ℕ)
  pub answers : List (List ℕ)
  pub read : AreRead start.script (rest_at place) place.lines.number place.lines.ended lines
  pub played : ArePlayed asks fault does lines start.journal place.journal answers
  pub written : Appends start.taken place.taken (concat answers)

-- the last line that was read asks for this command, or for none; the lines before it were played, and what was written is their answer lines
pub record Awaits {C J : Type 0} (asks : List ℕ → Option C → Type 0) (fault : List ℕ → Option BadLine) (does : J → C → J → List ℕ → Type 0)
    (start : Start J) (place : Place J) (command : Option C) : Type 0 where
  pub lines : List (List ℕ)
  pub line : List ℕ
  pub answers : List (List ℕ)
  pub read : AreRead start.script (rest_at place) place.lines.number place.lines.ended (lines ++ line ∷ [])
  pub asks_for : AsksFor asks fault (length lines + 1) line command
  pub played : ArePlayed asks fault does lines start.journal place.journal answers
  pub written : Appends start.taken place.taken (concat answers)

-- a run came to a halt: it ended, or it awaits what is done of the command that was left, the last line's
abbrev pub Halts : {C J : Type 0} → (List ℕ → Option C → Type 0) → (List ℕ → Option BadLine) → (J → C → J → List ℕ → Type 0) → (J → C → J → Type 0)
    → Halt C → Start J → Place J → Type 0
Halts asks fault does begins (Ended status) start place =
    Tells asks fault does begins status start.script place.left start.journal place.journal start.taken place.taken
Halts asks fault does begins (Left number command) start place = (number ≡ place.lines.number) × Awaits asks fault does start place (Some command)

-- a run goes on, or has ended so
abbrev pub Goes : {C J : Type 0} → (List ℕ → Option C → Type 0) → (List ℕ → Option BadLine) → (J → C → J → List ℕ → Type 0) → (J → C → J → Type 0)
    → Option Status → Start J → Place J → Type 0
Goes asks fault does begins None start place = Playing asks fault does start place
Goes asks fault does begins (Some status) start place = Halts asks fault does begins (Ended status) start place

-- a run goes on, or has come to this halt
abbrev pub Comes : {C J : Type 0} → (List ℕ → Option C → Type 0) → (List ℕ → Option BadLine) → (J → C → J → List ℕ → Type 0) → (J → C → J → Type 0)
    → Option (Halt C) → Start J → Place J → Type 0
Comes asks fault does begins None start place = Playing asks fault does start place
Comes asks fault does begins (Some halt) start place = Halts asks fault does begins halt start place

-- what holds of a command that was left
abbrev pub IfLeft : {C : Type 0} → Halt C → (C → Type 0) → Type 0
IfLeft (Ended status) P = Unit {0}
IfLeft (Left number command) P = P command

-- the faults up to a halt: none where a command was left
abbrev pub AreToldAt : {C : Type 0} → Halt C → ℕ → ℕ → ℕ → ℕ → Type 0
AreToldAt (Ended status) reads reads' writes writes' = AreTold status reads reads' writes writes'
AreToldAt (Left number command) reads reads' writes writes' = AreQuiet reads reads' writes writes'
