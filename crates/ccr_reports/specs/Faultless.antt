-- A script that a run can do to its end.
use Rattle.std.specs.Prelude.{◌≡◌, ◌⊎◌, ℕ, ◌+◌, List, ◌∷◌, ◌++◌, length, Option, Some, None}
use Rattle.ccr_lines.specs.Lines.{lines_of}
use Rattle.ccr_playing.specs.Script.{fault_at}
use Rattle.ccr_playing.specs.declared.statuses.Status.{Status}
use Rattle.ccr_playing.specs.declared.statuses.Status.TheVariants as ends
use Rattle.ccr_script.specs.Commands.{fault_of}

-- its source tells what the script is, and no line of it is bad: each is of the grammar, none is too long, and there are not too many
abbrev pub IsFaultless : Option (List ℕ) → Type 0
IsFaultless None = ⊥
IsFaultless (Some script) =
    (before : List (List ℕ)) (line : List ℕ) (behind : List (List ℕ)) → lines_of script ≡ before ++ line ∷ behind → fault_at fault_of (length before + 1) line ≡ None

-- all of it was done, or memory ran out
abbrev pub EndsWell : Status → Type 0
EndsWell status = (status ≡ ends.Done) ⊎ (status ≡ ends.OutOfMemory)
