-- What a fault says of a follower's engine.
use Rattle.ccr_journal.specs.declared.replies.Refusal.{Refusal}
use Rattle.ccr_journal.specs.declared.replies.Refusal.TheVariants as refusals
use Rattle.ccr_copies.specs.declared.copy_fault.CopyFault.{CopyFault}
use Rattle.ccr_copies.specs.declared.copy_fault.CopyFault.TheVariants as copies
use Rattle.ccr_follower.specs.declared.follower_fault.FollowerFault.{FollowerFault}
use Rattle.ccr_follower.specs.declared.follower_fault.FollowerFault.TheVariants.{OldEpoch, NoCopy, IsPrimary, LastCopy, NotReady, NoOperation, TooMany, Memory}

-- every fault but want of memory is a refusal
abbrev pub IsRefusal : FollowerFault → Type 0
IsRefusal Memory = ⊥
IsRefusal _ = Unit {0}

-- the refusal that a fault is; want of memory is none, and nothing is said of it
abbrev pub refusal_of : FollowerFault → Refusal
refusal_of (OldEpoch kept) = refusals.OldEpoch kept
refusal_of (NoCopy copy) = refusals.NoCopy copy
refusal_of (IsPrimary copy) = refusals.IsPrimary copy
refusal_of (LastCopy copy) = refusals.LastCopy copy
refusal_of (NotReady copy) = refusals.NotReady copy
refusal_of (NoOperation seq) = refusals.NoOperation seq
refusal_of TooMany = refusals.TooMany
refusal_of Memory = refusals.TooMany

-- the fault of a follower that one of its copies makes
abbrev pub copy_fault : CopyFault → FollowerFault
copy_fault (copies.NoCopy copy) = NoCopy copy
copy_fault (copies.IsPrimary copy) = IsPrimary copy
copy_fault (copies.LastCopy copy) = LastCopy copy
copy_fault (copies.NotReady copy) = NotReady copy
copy_fault (copies.NoOperation seq) = NoOperation seq
copy_fault copies.TooMany = TooMany
copy_fault copies.Memory = Memory
