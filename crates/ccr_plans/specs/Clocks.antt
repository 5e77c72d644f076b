-- The clock of a cluster is read in the worlds of its indices.
use Rattle.std.specs.Prelude.{ℕ, ◌+◌, ◌≤◌, ◌==◌, Bool, false, ◌&&◌, if◌then◌else◌, zero, suc, List, [], ◌∷◌, ◌++◌, is_none, flat_map}
use Rattle.std.specs.List.{AllByRecursion, range_with_len}
use Rattle.std.specs.Option.{option_map_or}
use Rattle.std.specs.Str.{bytes_eq}
use Rattle.ccr_op.specs.declared.index_name.IndexName.{IndexName}
use Rattle.ccr_journal.specs.declared.sides.Side.TheVariants as side
use Rattle.ccr_journal.specs.declared.events.Event.TheVariants as event
use Rattle.ccr_meta.specs.declared.index_meta.IndexMeta.{IndexMeta}
use Rattle.ccr_meta.specs.Names.{Names}
use Rattle.ccr_deeds.specs.declared.deeds.Deed.{Deed}
use Rattle.ccr_deeds.specs.declared.deeds.Deed.TheVariants.{Happens}

-- in each of so many worlds the leader's clock is read, expired leases are dropped, and idle sessions are closed
abbrev pub leader_clocks : ℕ → ℕ → ℕ → List Deed
leader_clocks now world zero = []
leader_clocks now world (suc n) =
    Happens world (event.Clock side.Leader now) ∷ Happens world event.Expire ∷ Happens world event.CloseSessions ∷ leader_clocks now (world + 1) n

-- in each of so many worlds the follower's clock is read, and what is due is sent again
abbrev pub follower_clocks : ℕ → ℕ → ℕ → ℕ → List Deed
follower_clocks now f world zero = []
follower_clocks now f world (suc n) =
    Happens world (event.Clock (side.Follower f) now) ∷ Happens world (event.Tick f) ∷ follower_clocks now f (world + 1) n

abbrev pub is_leader_in : List ℕ → IndexName × IndexMeta → Bool
is_leader_in cluster at = bytes_eq at.0.cluster cluster && is_none at.1.follower

-- the index is a follower of this number among those of its leader
abbrev pub is_follower_in : List ℕ → ℕ → IndexName × IndexMeta → Bool
is_follower_in cluster f at = bytes_eq at.0.cluster cluster && option_map_or (λ number. number == f) at.1.follower false

abbrev pub clock_of_leader : List ℕ → ℕ → IndexName × IndexMeta → List Deed
clock_of_leader cluster now at = if is_leader_in cluster at then leader_clocks now at.1.first at.1.shards else []

abbrev pub clock_of_follower : List ℕ → ℕ → ℕ → IndexName × IndexMeta → List Deed
clock_of_follower cluster now f at = if is_follower_in cluster f at then follower_clocks now f at.1.first at.1.shards else []

abbrev pub clocks_of_followers : Names → List ℕ → ℕ → ℕ → List Deed
clocks_of_followers names cluster now f = flat_map (clock_of_follower cluster now f) names.indices

-- the cluster's leaders first, and then its followers, of those in one world the one that was made earlier
abbrev pub clock_deeds : Names → List ℕ → ℕ → List Deed
clock_deeds names cluster now =
    flat_map (clock_of_leader cluster now) names.indices ++ flat_map (clocks_of_followers names cluster now) (range_with_len 0 8)

-- the indices lie in the first 64 worlds, which is how many there are at most
abbrev pub LieWithin64 : List (IndexName × IndexMeta) → Type 0
LieWithin64 indices = AllByRecursion (λ (at : IndexName × IndexMeta). at.1.first + at.1.shards ≤ 64) indices
