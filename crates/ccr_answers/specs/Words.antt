-- The words of answers, and the texts of refusals.
use Rattle.std.specs.Prelude.{ℕ, List, ◌++◌, Option, None, Some, codes, decimal}
use Rattle.ccr_auto.specs.declared.follow.AutoFault.{AutoFault}
use Rattle.ccr_auto.specs.declared.follow.AutoFault.TheVariants as pattern
use Rattle.ccr_doc.specs.declared.sources.BadSource.{BadSource}
use Rattle.ccr_doc.specs.declared.sources.BadSource.TheVariants as source
use Rattle.ccr_journal.specs.declared.replies.Refusal.{Refusal}
use Rattle.ccr_journal.specs.declared.replies.Refusal.TheVariants as refusal
use Rattle.ccr_journal.specs.declared.replies.WriteResult.{WriteResult}
use Rattle.ccr_journal.specs.declared.replies.WriteResult.TheVariants as result
use Rattle.ccr_journal.specs.declared.sides.Phase.{Phase}
use Rattle.ccr_journal.specs.declared.sides.Phase.TheVariants as phase
use Rattle.ccr_meta.specs.declared.faults.MetaFault.{MetaFault}
use Rattle.ccr_meta.specs.declared.faults.MetaFault.TheVariants as fault
use Rattle.ccr_search.specs.Joined.{checkpoint_of}
use Rattle.ccr_search.specs.Printed.{checkpoint_text}

-- ---- words

abbrev pub fault_word : MetaFault → List ℕ
fault_word fault.NoIndex = codes "NoIndex"
fault_word fault.IndexExists = codes "IndexExists"
fault_word fault.BadSetting = codes "BadSetting"
fault_word fault.IsFollower = codes "IsFollower"
fault_word fault.NotFollower = codes "NotFollower"
fault_word fault.NotPaused = codes "NotPaused"
fault_word fault.NoCluster = codes "NoCluster"
fault_word fault.SoftDeletesOff = codes "SoftDeletesOff"
fault_word fault.TooMany = codes "TooMany"
fault_word fault.Bootstrapping = codes "Bootstrapping"
fault_word fault.NoShard = codes "NoShard"
fault_word fault.ClusterExists = codes "ClusterExists"
fault_word fault.Memory = codes "Memory"

abbrev pub pattern_word : AutoFault → List ℕ
pattern_word pattern.NameTaken = codes "NameTaken"
pattern_word pattern.BadPattern = codes "BadPattern"
pattern_word pattern.NoPattern = codes "NoPattern"
pattern_word pattern.Memory = codes "Memory"

abbrev pub source_word : BadSource → List ℕ
source_word source.NotObject = codes "NotObject"
source_word source.Number = codes "Number"
source_word source.Nested = codes "Nested"
source_word source.TooLarge = codes "TooLarge"
source_word source.NotJson = codes "NotJson"
source_word source.Memory = codes "Memory"

abbrev pub result_word : WriteResult → List ℕ
result_word result.Created = codes "created"
result_word result.Updated = codes "updated"
result_word result.Deleted = codes "deleted"
result_word result.NotFound = codes "not_found"

abbrev pub phase_word : Phase → List ℕ
phase_word phase.Leasing = codes "leasing"
phase_word phase.Opening = codes "opening"
phase_word phase.Fetching = codes "fetching"
phase_word phase.Active = codes "active"
phase_word phase.Paused = codes "paused"
phase_word phase.Missing = codes "missing"
phase_word phase.History = codes "history"
phase_word phase.Unfollowed = codes "unfollowed"

-- the checkpoint of a count, which is the count less 1, as a search's answer has it
abbrev pub checkpoint : ℕ → List ℕ
checkpoint count = checkpoint_text (checkpoint_of count)

-- ---- refusals

-- the document's number and term, if there is one
abbrev pub conflict_text : Option (ℕ × ℕ) → List ℕ
conflict_text None = codes "refused Conflict none"
conflict_text (Some last) = codes "refused Conflict seq=" ++ (decimal last.0 ++ (codes " term=" ++ decimal last.1))

abbrev pub refusal_text : Refusal → List ℕ
refusal_text (refusal.NoCopy copy) = codes "refused NoCopy copy=" ++ decimal copy
refusal_text (refusal.IsPrimary copy) = codes "refused IsPrimary copy=" ++ decimal copy
refusal_text (refusal.LastCopy copy) = codes "refused LastCopy copy=" ++ decimal copy
refusal_text (refusal.NotReady copy) = codes "refused NotReady copy=" ++ decimal copy
refusal_text (refusal.NoOperation seq) = codes "refused NoOperation seq=" ++ decimal seq
refusal_text refusal.TooMany = codes "refused TooMany"
refusal_text (refusal.NoFrame at) = codes "refused NoFrame at=" ++ decimal at
refusal_text (refusal.NoPoll at) = codes "refused NoPoll at=" ++ decimal at
refusal_text (refusal.Wait global) = codes "refused Wait global=" ++ checkpoint global
refusal_text (refusal.NoRequest at) = codes "refused NoRequest at=" ++ decimal at
refusal_text (refusal.NoBatch write) = codes "refused NoBatch write=" ++ decimal write
refusal_text (refusal.OldEpoch kept) = codes "refused OldEpoch kept=" ++ decimal kept
refusal_text (refusal.NotWritten copy) = codes "refused NotWritten copy=" ++ decimal copy
refusal_text refusal.NotActive = codes "refused NotActive"
refusal_text refusal.Bootstrapping = codes "refused Bootstrapping"
refusal_text (refusal.Conflict last) = conflict_text last
refusal_text (refusal.Exists seq) = codes "refused Exists seq=" ++ decimal seq
refusal_text (refusal.BadSource cause) = codes "refused BadSource " ++ source_word cause
refusal_text refusal.NotPaused = codes "refused NotPaused"
refusal_text (refusal.SameName f) = codes "refused SameName"
refusal_text (refusal.NoFollower f) = codes "refused NoFollower"
refusal_text refusal.NotSettled = codes "refused NotSettled"
refusal_text (refusal.NoStale copy) = codes "refused NoStale copy=" ++ decimal copy
