-- What a fault says of the copies.
use Rattle.std.specs.Prelude.{ℕ, Option, Some, None, if◌then◌else◌}
use Rattle.ccr_journal.specs.declared.replies.Refusal.{Refusal}
use Rattle.ccr_journal.specs.declared.replies.Refusal.TheVariants as refusals
use Rattle.ccr_model.specs.Copies.{Replica, Copies}
use Rattle.ccr_model.specs.CopyRows.{not_replica}
use Rattle.ccr_copies.specs.declared.copy_fault.CopyFault.{CopyFault}
use Rattle.ccr_copies.specs.declared.copy_fault.CopyFault.TheVariants.{NoCopy, IsPrimary, LastCopy, NotReady, NoOperation, TooMany, Memory}

-- every fault but want of memory is a refusal
abbrev pub IsRefusal : CopyFault → Type 0
IsRefusal Memory = ⊥
IsRefusal _ = Unit {0}

-- the refusal that a fault is; want of memory is none, and nothing is said of it
abbrev pub refusal_of : CopyFault → Refusal
refusal_of (NoCopy copy) = refusals.NoCopy copy
refusal_of (IsPrimary copy) = refusals.IsPrimary copy
refusal_of (LastCopy copy) = refusals.LastCopy copy
refusal_of (NotReady copy) = refusals.NotReady copy
refusal_of (NoOperation seq) = refusals.NoOperation seq
refusal_of TooMany = refusals.TooMany
refusal_of Memory = refusals.TooMany

-- why a call that needs a replica that is resynced is refused, where it is
abbrev pub ready_refusal : Copies → ℕ → Option Replica → Option Refusal
ready_refusal s copy None = Some (not_replica s copy)
ready_refusal s copy (Some r) = if r.resynced then None else Some (refusals.NotReady copy)
