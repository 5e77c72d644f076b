-- How the versions of a collection of leases count.
use Rattle.std.specs.Prelude.{◌≡◌, true, false, [], ◌∷◌, Some, None}
use Rattle.ccr_lease.specs.Leases.{Collection, after_expiry, supersedes}
use Rattle.ccr_model.specs.Leaders.{Leader, new_leader}
use Rattle.ccr_model.specs.LeaderRows.{expire_row}
use Rattle.ccr_model.specs.LeaderFrames.{with_leases, with_new_lease, lease_renew_row, lease_remove_row}
use Rattle.ccr_model_values.specs.Words.{lease, leases}

-- a leader at time 1000 whose leases last 100 milliseconds: it has one, which retains from 5 on and was renewed at 950
abbrev pub leasing : Leader
leasing =
    with_leases (record (new_leader (record { copies = 1; history = []; period = 100; retention = 0 })) { now = 1000 })
    (record { term = 1; version = 3; leases = lease 97 5 950 ∷ [] })

abbrev pub collection_of : Leader → Collection
collection_of l = l.copies.primary.leases

-- each addition, renewal and removal that is accepted raises the version by 1, as does an expiry that takes a lease; what is refused, and what
-- takes none, leaves it
pub record Count : Type 0 where
  pub added : (with_new_lease leasing (98 ∷ [])).copies.primary.leases.version ≡ 4
  pub there : (with_new_lease leasing (97 ∷ [])).copies.primary.leases ≡ collection_of leasing
  pub renewed : collection_of (lease_renew_row leasing [] 0 (97 ∷ []) 7 (Some (lease 97 5 950))).next ≡ record { term = 1; version = 4; leases = lease 97 7 1000 ∷ [] }
  pub same : collection_of (lease_renew_row leasing [] 0 (97 ∷ []) 5 (Some (lease 97 5 950))).next ≡ record { term = 1; version = 4; leases = lease 97 5 1000 ∷ [] }
  pub low : collection_of (lease_renew_row leasing [] 0 (97 ∷ []) 4 (Some (lease 97 5 950))).next ≡ collection_of leasing
  pub unknown : collection_of (lease_renew_row leasing [] 0 (98 ∷ []) 7 None).next ≡ collection_of leasing
  pub removed : collection_of (lease_remove_row leasing [] 0 (97 ∷ []) (Some (lease 97 5 950))).next ≡ record { term = 1; version = 4; leases = [] }
  pub missing : collection_of (lease_remove_row leasing [] 0 (98 ∷ []) None).next ≡ collection_of leasing
  pub expired : after_expiry 1051 100 (collection_of leasing) ≡ record { term = 1; version = 4; leases = [] }
  pub at_period : after_expiry 1050 100 (collection_of leasing) ≡ collection_of leasing
  pub kept_by_expiry : collection_of (expire_row leasing).next ≡ collection_of leasing
  pub ended_by_expiry : collection_of (expire_row (record leasing { now = 1051 })).next ≡ record { term = 1; version = 4; leases = [] }

-- the collection of greater term, and of these that of greater version, supersedes; an equal one does not
pub record Supersede : Type 0 where
  pub term : supersedes (leases 2 1 []) (leases 1 9 []) ≡ true
  pub lower_term : supersedes (leases 1 9 []) (leases 2 1 []) ≡ false
  pub version : supersedes (leases 2 4 []) (leases 2 3 []) ≡ true
  pub lower_version : supersedes (leases 2 3 []) (leases 2 4 []) ≡ false
  pub equal : supersedes (leases 2 3 []) (leases 2 3 []) ≡ false
