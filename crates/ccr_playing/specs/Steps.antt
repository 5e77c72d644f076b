-- What is read of a script as its next line.
use Rattle.std.specs.Prelude.{◌≡◌, ◌≢◌, ℕ, ◌+◌, ◌<◌, false, List, ◌∷◌, Option, Some, None}
use Rattle.std.specs.Io.KnownBytes.{IsAtEnd}
use Rattle.ccr_lines.specs.Lines.{BreaksOff, GivesEnded, GivesLine, lines_of, rest_of}
use Rattle.ccr_lines.specs.Reader.{EndIsTrue, Reader}
use Rattle.ccr_lines.specs.declared.lines.TheConstants.{MOST_LINES}
use Rattle.ccr_script.specs.declared.bad_lines.BadLine.{BadLine}
use Rattle.ccr_script.specs.declared.bad_lines.BadLine.TheVariants.{Memory}
use Rattle.ccr_playing.specs.declared.playing.Step.{Step}
use Rattle.ccr_playing.specs.declared.playing.Step.TheVariants.{Bad, End, Line, OutOfMemory, ReadFault}
use Rattle.ccr_playing.specs.Script.{AsksFor, fault_at}

-- the next line was read, and asks for this command, or for none; it ended unless the source has said that it is at its end
pub record IsLine {C : Type 0} (asks : List ℕ → Option C → Type 0) (fault : List ℕ → Option BadLine) (number : ℕ) (command : Option C)
    (old : Reader) (left : Option (List ℕ)) (new : Reader) (left' : Option (List ℕ)) : Type 0 where
  pub line : List ℕ
  pub gives : GivesLine (rest_of old.pending left) (rest_of new.pending left') line
  pub was_open : new.ended ≡ false → old.ended ≡ false
  pub gives_ended : new.ended ≡ false → GivesEnded (rest_of old.pending left) (rest_of new.pending left') line
  pub next : number ≡ old.number + 1
  pub counted : new.number ≡ number
  pub asks_for : AsksFor asks fault number line command

-- the next line, which has this number, is bad for this cause
abbrev pub IsBadNext : (List ℕ → Option BadLine) → Option (List ℕ) → ℕ → BadLine → Type 0
IsBadNext fault None number why = Unit {0}
IsBadNext fault (Some rest) number why = (line : List ℕ) × (others : List (List ℕ)) × (lines_of rest ≡ line ∷ others) × (fault_at fault number line ≡ Some why)

abbrev pub IsStep : {C : Type 0} → (List ℕ → Option C → Type 0) → (List ℕ → Option BadLine) → Step C → Reader → Option (List ℕ) → Reader → Option (List ℕ) → Type 0
IsStep asks fault End old left new left' = IsAtEnd (rest_of old.pending left) × IsAtEnd left'
IsStep asks fault (Line number command) old left new left' = IsLine asks fault number command old left new left'
IsStep asks fault (Bad number why) old left new left' = (number ≡ old.number + 1) × (why ≢ Memory) × IsBadNext fault (rest_of old.pending left) number why
IsStep asks fault ReadFault old left new left' = (old.ended ≡ false) × BreaksOff (rest_of old.pending left) left'
IsStep asks fault OutOfMemory old left new left' = Unit {0}

-- a next line may be read of a source
abbrev pub MayBeRead : Reader → Option (List ℕ) → Type 0
MayBeRead lines left = (lines.number < MOST_LINES) × EndIsTrue lines.ended lines.pending left

abbrev pub IfLine : {C : Type 0} → Step C → Type 0 → Type 0
IfLine (Line number command) P = P
IfLine End P = Unit {0}
IfLine (Bad number why) P = Unit {0}
IfLine ReadFault P = Unit {0}
IfLine OutOfMemory P = Unit {0}

-- the failed reads before and after
abbrev pub CountsReads : {C : Type 0} → Step C → ℕ → ℕ → Type 0
CountsReads ReadFault reads reads' = reads' ≡ reads + 1
CountsReads (Line number command) reads reads' = reads' ≡ reads
CountsReads End reads reads' = reads' ≡ reads
CountsReads (Bad number why) reads reads' = reads' ≡ reads
CountsReads OutOfMemory reads reads' = reads' ≡ reads
