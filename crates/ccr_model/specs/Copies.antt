-- The copies of a shard, a leader's or a follower's.
use Rattle.std.specs.Prelude.{ℕ, ◌-◌, Bool, true, not, ◌&&◌, ◌==◌, min, max, if◌then◌else◌, List, [], ◌∷◌, length, map, find, Option, Some, is_some}
use Rattle.std.specs.Option.{option_map}
use Rattle.std.specs.List.{range_with_len}
use Rattle.ccr_op.specs.Operation.{Operation}
use Rattle.ccr_tracker.specs.Numbers.{Numbers, no_numbers, has, marked}
use Rattle.ccr_lease.specs.Leases.{Collection, lease_of}
use Rattle.ccr_journal.specs.declared.statuses.CopyStatus.{CopyStatus}
use Rattle.ccr_model.specs.Stores.{Store, empty_store, held, stored_if_some}

-- one copy: the numbers that it has processed, what it holds, the global count that it knows, its floor, its commit count and its
-- leases. A follower's copies have no leases.
pub record Copy : Type 0 where
  pub number : ℕ
  pub seen : Numbers
  pub store : Store
  pub global : ℕ
  pub floor : ℕ
  pub commit : ℕ
  pub leases : Collection

-- a copy that isn't the primary, with what the primary knows of it: its count, and whether it was resynced and then acked in this term.
-- The primary's own known count is its count, and it always counts as resynced and acked.
pub record Replica : Type 0 where
  pub copy : Copy
  pub known : ℕ
  pub resynced : Bool
  pub acked : Bool

-- the in-sync copies of a shard, the replicas in ascending number; next is the number of the next copy
pub record Copies : Type 0 where
  pub term : ℕ
  pub primary : Copy
  pub replicas : List Replica
  pub next : ℕ

abbrev pub new_copy : ℕ → Copy
new_copy number = record {
  number = number;
  seen = no_numbers;
  store = empty_store;
  global = 0;
  floor = 0;
  commit = 0;
  leases = record { term = 1; version = 0; leases = [] };
}

-- a copy that counts as resynced and acked
abbrev pub replica_in_step : Copy → ℕ → Replica
replica_in_step copy known = record { copy = copy; known = known; resynced = true; acked = true }

-- the copies of a new shard: 0, 1 and so on
abbrev pub new_copies : ℕ → Copies
new_copies copies = record {
  term = 1;
  primary = new_copy 0;
  replicas = map {A = ℕ} {B = Replica} (λ number. replica_in_step (new_copy number) 0) (range_with_len 1 (copies - 1));
  next = copies;
}

-- ---- look-ups and changes

abbrev pub replica_of : Copies → ℕ → Option Replica
replica_of s copy = find (λ r. r.copy.number == copy) s.replicas

-- the in-sync copy of a number
abbrev pub copy_of : Copies → ℕ → Option Copy
copy_of s copy = if s.primary.number == copy then Some s.primary else option_map {T = Replica} {U = Copy} (λ r. r.copy) (replica_of s copy)

-- all in-sync copies, the primary first
abbrev pub all_copies : Copies → List Copy
all_copies s = s.primary ∷ map {A = Replica} {B = Copy} (λ r. r.copy) s.replicas

abbrev pub replaced : ℕ → Replica → List Replica → List Replica
replaced copy new [] = []
replaced copy new (r ∷ rs) = if r.copy.number == copy then new ∷ rs else r ∷ replaced copy new rs

abbrev pub without : ℕ → List Replica → List Replica
without copy [] = []
without copy (r ∷ rs) = if r.copy.number == copy then rs else r ∷ without copy rs

abbrev pub changed_replica : ℕ → (Copy → Copy) → List Replica → List Replica
changed_replica copy change [] = []
changed_replica copy change (r ∷ rs) = if r.copy.number == copy then record r { copy = change r.copy } ∷ rs else r ∷ changed_replica copy change rs

-- the copies, where a change is made to the one of this number
abbrev pub changed_at : ℕ → (Copy → Copy) → Copies → Copies
changed_at copy change s =
    if s.primary.number == copy then record s { primary = change s.primary }
    else record s { replicas = changed_replica copy change s.replicas }

-- ---- counts

-- the least of the primary's count and the known counts of the replicas
abbrev pub least_known : ℕ → List Replica → ℕ
least_known count [] = count
least_known count (r ∷ rs) = min r.known (least_known count rs)

-- the global count is worked out again: the least known count, never lowered
abbrev pub counted : Copies → Copies
counted s = record s { primary = record s.primary { global = max s.primary.global (least_known s.primary.seen.count s.replicas) } }

-- the least replica that was not resynced and then acked in this term
abbrev pub not_ready : Copies → Option ℕ
not_ready s = option_map {T = Replica} {U = ℕ} (λ r. r.copy.number) (find (λ r. not (r.resynced && r.acked)) s.replicas)

abbrev pub greatest : List ℕ → ℕ
greatest [] = 0
greatest (n ∷ ns) = max n (greatest ns)

abbrev pub greatest_floor : Copies → ℕ
greatest_floor s = greatest (map {A = Copy} {B = ℕ} (λ c. c.floor) (all_copies s))

abbrev pub has_lease : List ℕ → Copy → Bool
has_lease id c = is_some (lease_of id c.leases.leases)

-- the least copy without a lease of this id
abbrev pub lacks_lease : List ℕ → Copies → Option ℕ
lacks_lease id s = option_map {T = Copy} {U = ℕ} (λ c. c.number) (find (λ c. not (has_lease id c)) (all_copies s))

-- ---- one copy

-- the copy takes an operation unless it has processed the number
abbrev pub taking : Copy → ℕ → Option Operation → Copy
taking c seq op = record c { seen = marked c.seen seq; store = if has c.seen seq then c.store else stored_if_some op c.store }

-- the copy learns a global count
abbrev pub knowing : ℕ → Copy → Copy
knowing global c = record c { global = max c.global global }

abbrev pub status_of : Copy → CopyStatus
status_of c = record { copy = c.number; count = c.seen.count; global = c.global; floor = c.floor; held = length (held c.store) }

abbrev pub statuses_of : Copies → List CopyStatus
statuses_of s = map {A = Copy} {B = CopyStatus} status_of (all_copies s)
