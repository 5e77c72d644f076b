-- What is said on standard error of a run that ended so.
use Rattle.std.specs.Prelude.{ℕ, List, Option, Some, None, codes}
use Rattle.ccr_playing.specs.declared.statuses.Status.{Status}
use Rattle.ccr_playing.specs.declared.statuses.Status.TheVariants.{Done, BadLine, ReadFault, WriteFault, OutOfMemory, Usage}

-- a bad line is told by its answer
abbrev pub complaint_of : Status → Option (List ℕ)
complaint_of Done = None
complaint_of (BadLine line why) = None
complaint_of ReadFault = Some (codes "ccr: read failed")
complaint_of WriteFault = Some (codes "ccr: write failed")
complaint_of OutOfMemory = Some (codes "ccr: out of memory")
complaint_of Usage = Some (codes "usage: ccr replay | sample SEED WRITES")
