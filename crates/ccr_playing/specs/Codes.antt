use Rattle.std.specs.Prelude.{ℕ}
use Rattle.ccr_playing.specs.declared.statuses.Status.{Status}
use Rattle.ccr_playing.specs.declared.statuses.Status.TheVariants.{Done, BadLine, ReadFault, WriteFault, OutOfMemory, Usage}

-- the exit status of the program
abbrev pub code_of : Status → ℕ
code_of Done = 0
code_of (BadLine line why) = 2
code_of ReadFault = 3
code_of WriteFault = 4
code_of OutOfMemory = 5
code_of Usage = 64
