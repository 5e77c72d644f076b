-- What the events about copies come to, on a leader's side and a follower's alike.
use Rattle.std.specs.Prelude.{ℕ, ◌+◌, ◌-◌, true, false, not, ◌==◌, nat_le, min, max, if◌then◌else◌, List, [], ◌∷◌, ◌++◌, length, map, Option, Some, None}
use Rattle.ccr_tracker.specs.Numbers.{has}
use Rattle.ccr_lease.specs.Leases.{supersedes}
use Rattle.ccr_journal.specs.declared.replies.Reply.TheVariants as replies
use Rattle.ccr_journal.specs.declared.replies.Refusal.{Refusal}
use Rattle.ccr_journal.specs.declared.replies.Refusal.TheVariants.{NoCopy, IsPrimary, LastCopy, NotReady, NoOperation, TooMany}
use Rattle.ccr_model.specs.Operations.{is_empty, op_at}
use Rattle.ccr_model.specs.Stores.{held, flushed, merge_drops, merged, capped}
use Rattle.ccr_model.specs.Outcomes.{Outcome, refused, answered, guarded}
use Rattle.ccr_model.specs.Copies.{Copy, Replica, Copies, replica_in_step, replaced, without, changed_at, counted, taking, knowing}

-- why no replica has this number
abbrev pub not_replica : Copies → ℕ → Refusal
not_replica s copy = if s.primary.number == copy then IsPrimary copy else NoCopy copy

-- the replica takes the primary's operation of a number, unless it has processed it, and learns the global count
unfoldable pub replicate_row : Copies → ℕ → ℕ → Option Replica → Outcome Copies
replicate_row s copy seq None = refused s (not_replica s copy)
replicate_row s copy seq (Some r) =
    guarded s ((not r.resynced, NotReady copy) ∷ (not (has s.primary.seen seq), NoOperation seq) ∷ [])
    (answered replies.Done record s {
      replicas = replaced copy (record r { copy = knowing s.primary.global (taking r.copy seq (op_at seq (held s.primary.store))) }) s.replicas;
    })

-- the copies, where the primary knows this count of a replica
abbrev pub after_ack : Copies → ℕ → Replica → Copies
after_ack s copy r = counted record s { replicas = replaced copy (record r { known = r.copy.seen.count; acked = true }) s.replicas }

-- the primary learns the replica's count
unfoldable pub ack_row : Copies → ℕ → Option Replica → Outcome Copies
ack_row s copy None = refused s (not_replica s copy)
ack_row s copy (Some r) =
    guarded s ((not r.resynced, NotReady copy) ∷ [])
    (answered (replies.Acked (after_ack s copy r).primary.global) (after_ack s copy r))

-- the copy takes the primary's leases where these supersede its own
abbrev pub taking_leases : Copy → Copy → Copy
taking_leases primary c = if supersedes primary.leases c.leases then record c { leases = primary.leases } else c

-- the replica learns the global count and the leases
unfoldable pub sync_row : Copies → ℕ → Option Replica → Outcome Copies
sync_row s copy None = refused s (not_replica s copy)
sync_row s copy (Some r) =
    guarded s ((not r.resynced, NotReady copy) ∷ [])
    (answered replies.Done record s {
      replicas = replaced copy (record r { copy = taking_leases s.primary (knowing s.primary.global r.copy) }) s.replicas;
    })

-- why a copy that is no replica doesn't leave
abbrev pub not_leaving : Copies → ℕ → Refusal
not_leaving s copy =
    if s.primary.number == copy then (if is_empty s.replicas then LastCopy copy else IsPrimary copy) else NoCopy copy

-- the replica leaves
unfoldable pub fail_copy_row : Copies → ℕ → Option Replica → Outcome Copies
fail_copy_row s copy None = refused s (not_leaving s copy)
fail_copy_row s copy (Some r) = answered replies.Done (counted record s { replicas = without copy s.replicas })

-- the greatest number of copies that a shard has
abbrev pub most_copies : ℕ
most_copies = 8

-- a new copy takes all that the primary has, and starts with the primary's known count
unfoldable pub add_copy_row : Copies → Outcome Copies
add_copy_row s =
    guarded s ((nat_le most_copies (length s.replicas + 1), TooMany) ∷ [])
    (answered (replies.Added s.next) (counted record s {
      replicas = s.replicas ++ replica_in_step (record s.primary { number = s.next }) s.primary.seen.count ∷ [];
      next = s.next + 1;
    }))

-- the copy closes its open part, and its commit count becomes the global count that it knows
unfoldable pub flush_row : Copies → ℕ → Option Copy → Outcome Copies
flush_row s copy None = refused s (NoCopy copy)
flush_row s copy (Some c) =
    answered (replies.Flushed c.global) (changed_at copy (λ own. record own { store = flushed own.store; commit = own.global }) s)

-- how far a floor may rise: no further than the copy's leases, the operations that are kept beyond the global count, and the commit
abbrev pub candidate : ℕ → Copy → ℕ
candidate retention c = capped c.leases.leases (min (c.global - retention) c.commit)

-- the floor after a merge
abbrev pub risen_floor : ℕ → Copy → ℕ
risen_floor retention c = max c.floor (candidate retention c)

-- the bound below which a merge drops
abbrev pub merge_bound : ℕ → Copy → ℕ
merge_bound retention c = capped c.leases.leases (risen_floor retention c)

abbrev pub after_merge : ℕ → List ℕ → Copy → Copy
after_merge retention picks c = record c {
  floor = risen_floor retention c;
  store = merged picks (merge_bound retention c) c.global c.store;
}

-- the floor rises, what is droppable in the picked parts goes, and the rest of them becomes one part
unfoldable pub merge_row : Copies → ℕ → ℕ → List ℕ → Option Copy → Outcome Copies
merge_row s retention copy picks None = refused s (NoCopy copy)
merge_row s retention copy picks (Some c) =
    answered (replies.Merged (risen_floor retention c) (length (merge_drops picks (merge_bound retention c) c.global c.store)) picks)
    (changed_at copy (after_merge retention picks) s)

-- ---- promotions

-- the primary leaves and the replica takes its place in the next term; what is known of the others is what `known_of` tells
abbrev pub succeeded : Copies → ℕ → Copy → (Replica → Replica) → Copies
succeeded s copy primary known_of = counted record s {
  term = s.term + 1;
  primary = primary;
  replicas = map {A = Replica} {B = Replica} known_of (without copy s.replicas);
}

-- a follower's new primary knows the counts that the copies have
abbrev pub with_true_count : Replica → Replica
with_true_count r = record r { known = r.copy.seen.count }

unfoldable pub follower_promote_row : Copies → ℕ → Option Replica → Outcome Copies
follower_promote_row s copy None = refused s (not_replica s copy)
follower_promote_row s copy (Some r) = answered (replies.Promoted (s.term + 1) 0) (succeeded s copy r.copy with_true_count)

-- a leader's new primary knows nothing of the others, which have to be resynced
abbrev pub unknown : Replica → Replica
unknown r = record r { known = 0; resynced = false; acked = false }
