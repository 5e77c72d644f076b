-- Changes of a collection of leases, and what a call that asks for one may be answered.
use Rattle.std.specs.Prelude.{ℕ, ◌+◌, List, Result, Ok, Err}
use Rattle.ccr_lease.specs.declared.collection.LeaseFault.{LeaseFault}
use Rattle.ccr_lease.specs.declared.collection.LeaseFault.TheVariants.{Memory}
use Rattle.ccr_lease.specs.Leases.{Collection, with_lease, renewed, without}

-- the collection with one more lease
abbrev pub leased : List ℕ → ℕ → ℕ → Collection → Collection
leased id number now c = record c { version = c.version + 1; leases = with_lease (record { id = id; number = number; stamp = now }) c.leases }

-- the collection, where the lease of this id is renewed
abbrev pub re_leased : List ℕ → ℕ → ℕ → Collection → Collection
re_leased id number now c = record c { version = c.version + 1; leases = renewed id number now c.leases }

-- the collection without the lease of this id
abbrev pub released : List ℕ → Collection → Collection
released id c = record c { version = c.version + 1; leases = without id c.leases }

-- the answer is another than want of memory
abbrev pub IsTold : {T : Type 0} → Result T LeaseFault → Type 0
IsTold (Ok answer) = Unit {0}
IsTold (Err Memory) = ⊥
IsTold (Err fault) = Unit {0}
