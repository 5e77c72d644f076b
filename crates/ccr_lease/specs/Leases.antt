use Rattle.std.specs.Prelude.{ℕ, ◌+◌, Bool, ◌&&◌, ◌||◌, ◌==◌, nat_lt, not, List, map, filter, find, insert, remove, slice_get, slice_set, length, Option, Some, None, if◌then◌else◌, ◌≡◌, ◌<◌, ◌≤◌}
use Rattle.std.specs.List.{list_any}
use Rattle.std.specs.List.Sorted.{IsStrictlySortedBy}
use Rattle.std.specs.declared.cmp.Ordering.{Ordering}
use Rattle.std.specs.Ordering.{nat_cmp, is_lt}
use Rattle.std.specs.Cmp.Lexicographic.{slice_cmp}
use Rattle.std.specs.Str.{bytes_eq}
use Rattle.ccr_lease.specs.declared.retention.Lease.{Lease}
use Rattle.ccr_lease.specs.declared.retention.Expired.{Expired}

-- a collection: the term of its primary, its version, and its leases
pub record Collection : Type 0 where
  pub term : ℕ
  pub version : ℕ
  pub leases : List Lease

-- the order of leases: by the bytes of their ids
abbrev pub by_id : Lease → Lease → Ordering
by_id a b = slice_cmp nat_cmp a.id b.id

-- the ids ascend, so that no two are equal
abbrev pub Ascend : List Lease → Type 0
Ascend leases = IsStrictlySortedBy by_id leases

-- the lease of an id
abbrev pub lease_of : List ℕ → List Lease → Option Lease
lease_of id leases = find (λ lease. bytes_eq lease.id id) leases

-- how many leases have an id below this one
abbrev pub place_of : List ℕ → List Lease → ℕ
place_of id leases = length (filter (λ lease. is_lt (slice_cmp nat_cmp lease.id id)) leases)

-- the leases with one more, which stands after those whose ids are smaller
abbrev pub with_lease : Lease → List Lease → List Lease
with_lease lease leases = insert leases (place_of lease.id leases) lease

-- the leases, where the one of this id has a new number and a new stamp
abbrev pub renewed : List ℕ → ℕ → ℕ → List Lease → List Lease
renewed id number stamp leases =
    map {A = Lease} {B = Lease} (λ lease. if bytes_eq lease.id id then record lease { number = number; stamp = stamp } else lease) leases

-- the leases but for the one of this id
abbrev pub without : List ℕ → List Lease → List Lease
without id leases = filter (λ lease. not (bytes_eq lease.id id)) leases

-- a lease has expired where now is above its stamp and the period together
abbrev pub has_expired : ℕ → ℕ → Lease → Bool
has_expired now period lease = nat_lt (lease.stamp + period) now

-- what is told of the leases that have expired, in their order
abbrev pub expired : ℕ → ℕ → List Lease → List Expired
expired now period leases =
    map {A = Lease} {B = Expired} (λ lease. record { id = lease.id; stamp = lease.stamp; now = now }) (filter (has_expired now period) leases)

-- the leases that have not expired
abbrev pub unexpired : ℕ → ℕ → List Lease → List Lease
unexpired now period leases = filter (λ lease. not (has_expired now period lease)) leases

-- the first collection is of a greater term, or of an equal term and a greater version
abbrev pub supersedes : Collection → Collection → Bool
supersedes a b = nat_lt b.term a.term || ((a.term == b.term) && nat_lt b.version a.version)

-- the collection without the leases that have expired: it is of the next version where there are any
abbrev pub after_expiry : ℕ → ℕ → Collection → Collection
after_expiry now period c =
    if list_any (has_expired now period) c.leases
    then record c { version = c.version + 1; leases = unexpired now period c.leases }
    else c

-- the lease of this id stands at this place, and at no other
pub record IsPlace (id : List ℕ) (place : ℕ) (leases : List Lease) : Type 0 where
  pub low : place < length leases
  pub found : lease_of id leases ≡ slice_get leases place
  pub changed : (f : Lease → Lease) (lease : Lease) → lease_of id leases ≡ Some lease
      → slice_set leases place (f lease) ≡ map {A = Lease} {B = Lease} (λ other. if bytes_eq other.id id then f other else other) leases
  pub taken : remove leases place ≡ without id leases

-- there is no lease of this id, and it would stand at this place
pub record IsGap (id : List ℕ) (place : ℕ) (leases : List Lease) : Type 0 where
  pub low : place ≤ length leases
  pub none : lease_of id leases ≡ None
  pub first : place ≡ place_of id leases
