-- What is written of one line of output, and what is done of one command.
use Rattle.std.specs.Prelude.{◌≡◌, ℕ, ◌+◌, List, Option, Some, None}
use Rattle.std.specs.Io.KnownBytes.{Appends}
use Rattle.ccr_io.specs.Prefix.{AppendsPrefix}
use Rattle.ccr_script.specs.declared.bad_lines.BadLine.{BadLine}
use Rattle.ccr_playing.specs.declared.statuses.Status.{Status}
use Rattle.ccr_playing.specs.declared.statuses.Status.TheVariants as ends
use Rattle.ccr_playing.specs.Printed.{bad_text, line_of}

-- a line was written whole, or the run ended: by a fault that left a proper prefix of it, or for want of memory with nothing of it
abbrev pub IsWritten : Option Status → List ℕ → Option (List ℕ) → Option (List ℕ) → ℕ → ℕ → Type 0
IsWritten None line old new writes writes' = Appends old new line × (writes' ≡ writes)
IsWritten (Some ends.WriteFault) line old new writes writes' = AppendsPrefix old new line × (writes' ≡ writes + 1)
IsWritten (Some ends.OutOfMemory) line old new writes writes' = (new ≡ old) × (writes' ≡ writes)
IsWritten (Some ends.Done) line old new writes writes' = ⊥
IsWritten (Some (ends.BadLine number why)) line old new writes writes' = ⊥
IsWritten (Some ends.ReadFault) line old new writes writes' = ⊥
IsWritten (Some ends.Usage) line old new writes writes' = ⊥

-- a run ended at a bad line whose answer was written whole, or before that
abbrev pub EndsBad : Status → ℕ → BadLine → Option (List ℕ) → Option (List ℕ) → ℕ → ℕ → Type 0
EndsBad (ends.BadLine at cause) line why old new writes writes' =
    (at ≡ line) × (cause ≡ why) × IsWritten None (line_of line (bad_text why)) old new writes writes'
EndsBad ends.WriteFault line why old new writes writes' = IsWritten (Some ends.WriteFault) (line_of line (bad_text why)) old new writes writes'
EndsBad ends.OutOfMemory line why old new writes writes' = IsWritten (Some ends.OutOfMemory) (line_of line (bad_text why)) old new writes writes'
EndsBad ends.Done line why old new writes writes' = ⊥
EndsBad ends.ReadFault line why old new writes writes' = ⊥
EndsBad ends.Usage line why old new writes writes' = ⊥

-- the command of the line of this number was done and its answer written; or the run ended in between: a proper prefix of the answer was written,
-- or memory ran out, and the command may have begun
abbrev pub IsPerformed : {C J : Type 0} → (J → C → J → List ℕ → Type 0) → (J → C → J → Type 0) → Option Status → ℕ → C → J → J
    → Option (List ℕ) → Option (List ℕ) → ℕ → ℕ → Type 0
IsPerformed does begins None number command before after old new writes writes' =
    (text : List ℕ) × does before command after text × IsWritten None (line_of number text) old new writes writes'
IsPerformed does begins (Some ends.WriteFault) number command before after old new writes writes' =
    (text : List ℕ) × does before command after text × IsWritten (Some ends.WriteFault) (line_of number text) old new writes writes'
IsPerformed does begins (Some ends.OutOfMemory) number command before after old new writes writes' =
    begins before command after × (new ≡ old) × (writes' ≡ writes)
IsPerformed does begins (Some ends.Done) number command before after old new writes writes' = ⊥
IsPerformed does begins (Some (ends.BadLine line why)) number command before after old new writes writes' = ⊥
IsPerformed does begins (Some ends.ReadFault) number command before after old new writes writes' = ⊥
IsPerformed does begins (Some ends.Usage) number command before after old new writes writes' = ⊥
