use Rattle.std.specs.Prelude.{ℕ, List, length, nat_lt, slice_get, if◌then◌else◌, Option, Some, None}
use Rattle.ccr_model.specs.Leaders.{Session}
use Rattle.ccr_session.specs.declared.faults.SessionFault.{SessionFault}
use Rattle.ccr_session.specs.declared.faults.SessionFault.TheVariants.{NoFile, NoSession, Range}

-- the offset has to lie within the file
abbrev pub range_fault : Option (List ℕ) → ℕ → Option SessionFault
range_fault None offset = Some NoFile
range_fault (Some file) offset = if nat_lt offset (length file) then None else Some Range

-- why a part of a file is refused, but for want of memory
abbrev pub chunk_fault : Option Session → ℕ → ℕ → Option SessionFault
chunk_fault None file offset = Some NoSession
chunk_fault (Some session) file offset = range_fault (slice_get session.files file) offset
