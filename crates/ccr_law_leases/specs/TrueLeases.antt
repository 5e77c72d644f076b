-- What holds of the leases of a leader's copies at every place of a legal journal, in a form that each event keeps.
use Rattle.std.specs.Prelude.{◌≡◌, ℕ, ◌≤◌, true, List, is_some}
use Rattle.std.specs.List.{AllByRecursion}
use Rattle.ccr_lease.specs.declared.retention.Lease.{Lease}
use Rattle.ccr_lease.specs.Leases.{Collection, lease_of}
use Rattle.ccr_model.specs.Copies.{Replica, Copies}
use Rattle.ccr_model.specs.CopyFacts.{RetainsTruly, IsBehind}
use Rattle.ccr_model.specs.LeaseHistory.{LeaseNote, retained, is_unbroken}
use Rattle.ccr_model.specs.Past.{Past}

-- of the leases and the floor of one copy: no lease retains more than its history says, an unbroken lease is there, and the floor is not
-- above what it retains
pub record AgreeWithNotes (notes : List LeaseNote) (leases : List Lease) (low : ℕ) : Type 0 where
  pub numbers : AllByRecursion (λ (lease : Lease). lease.number ≤ retained lease.id notes) leases
  pub there : (id : List ℕ) → is_unbroken id notes ≡ true → is_some (lease_of id leases) ≡ true
  pub floor : (id : List ℕ) → is_unbroken id notes ≡ true → low ≤ retained id notes

-- of a replica's collection and floor besides: it is the primary's collection, or an older one of no later term
pub record AreBehind (notes : List LeaseNote) (primary own : Collection) (low : ℕ) : Type 0 where
  pub agree : AgreeWithNotes notes own.leases low
  pub behind : IsBehind primary own
  pub earlier : own.term ≤ primary.term

-- of the primary's collection and floor, and all replicas: the collection is of the leader's term
pub record AreTrueLeases (notes : List LeaseNote) (term : ℕ) (primary : Collection) (low : ℕ) (replicas : List Replica) : Type 0 where
  pub agree : AgreeWithNotes notes primary.leases low
  pub current : primary.term ≡ term
  pub behind : AllByRecursion (λ (r : Replica). AreBehind notes primary r.copy.leases r.copy.floor) replicas

abbrev pub AreTrueLeasesOf : List LeaseNote → Copies → Type 0
AreTrueLeasesOf notes s = AreTrueLeases notes s.term s.primary.leases s.primary.floor s.replicas

-- what a journal tells of leases is true of the leader's copies
abbrev pub HasTrueLeases : Past → Type 0
HasTrueLeases p = AreTrueLeasesOf p.notes p.state.leader.copies

-- in the words of the theorem: each copy retains what the history of the leases says, and each replica's collection is the primary's or
-- superseded by it
pub record RetainsInAll (p : Past) : Type 0 where
  pub primary : RetainsTruly p.notes p.state.leader.copies.primary
  pub replicas : AllByRecursion (λ (r : Replica). RetainsTruly p.notes r.copy) p.state.leader.copies.replicas
  pub behind : AllByRecursion (λ (r : Replica). IsBehind p.state.leader.copies.primary.leases r.copy.leases) p.state.leader.copies.replicas
