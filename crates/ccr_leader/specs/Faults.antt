-- What a fault says of the leader.
use Rattle.std.specs.Prelude.{Bool, true, false}
use Rattle.ccr_journal.specs.declared.replies.Refusal.{Refusal}
use Rattle.ccr_journal.specs.declared.replies.Refusal.TheVariants as refusals
use Rattle.ccr_copies.specs.declared.copy_fault.CopyFault.{CopyFault}
use Rattle.ccr_copies.specs.declared.copy_fault.CopyFault.TheVariants as copies
use Rattle.ccr_leader.specs.declared.leader_fault.LeaderFault.{LeaderFault}
use Rattle.ccr_leader.specs.declared.leader_fault.LeaderFault.TheVariants.{NoCopy, IsPrimary, LastCopy, NotReady, NoOperation, TooMany, NoStale, NoPoll, Wait, Conflict, Exists, BadSource, Memory}

-- every fault but want of memory is a refusal
abbrev pub IsRefusal : LeaderFault → Type 0
IsRefusal Memory = ⊥
IsRefusal _ = Unit {0}

-- the refusal that a fault is; want of memory is none, and nothing is said of it
abbrev pub refusal_of : LeaderFault → Refusal
refusal_of (NoCopy copy) = refusals.NoCopy copy
refusal_of (IsPrimary copy) = refusals.IsPrimary copy
refusal_of (LastCopy copy) = refusals.LastCopy copy
refusal_of (NotReady copy) = refusals.NotReady copy
refusal_of (NoOperation seq) = refusals.NoOperation seq
refusal_of TooMany = refusals.TooMany
refusal_of (NoStale copy) = refusals.NoStale copy
refusal_of (NoPoll at) = refusals.NoPoll at
refusal_of (Wait global) = refusals.Wait global
refusal_of (Conflict last) = refusals.Conflict last
refusal_of (Exists seq) = refusals.Exists seq
refusal_of (BadSource fault) = refusals.BadSource fault
refusal_of Memory = refusals.TooMany

-- the fault of the leader that a fault of its copies is
abbrev pub of_copies : CopyFault → LeaderFault
of_copies (copies.NoCopy copy) = NoCopy copy
of_copies (copies.IsPrimary copy) = IsPrimary copy
of_copies (copies.LastCopy copy) = LastCopy copy
of_copies (copies.NotReady copy) = NotReady copy
of_copies (copies.NoOperation seq) = NoOperation seq
of_copies copies.TooMany = TooMany
of_copies copies.Memory = Memory

-- the fault is want of memory
abbrev pub is_memory : CopyFault → Bool
is_memory copies.Memory = true
is_memory _ = false
