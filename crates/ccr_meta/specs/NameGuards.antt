-- Which names can't be made: for each command its guards, of which the first that holds is told.
use Rattle.std.specs.Prelude.{ℕ, ◌+◌, Bool, not, nat_lt, nat_le, ◌||◌, ◌&&◌, List, [], ◌∷◌, length, is_some, is_none}
use Rattle.std.specs.Str.{bytes_eq}
use Rattle.ccr_op.specs.declared.index_name.IndexName.{IndexName}
use Rattle.ccr_meta.specs.declared.faults.MetaFault.{MetaFault}
use Rattle.ccr_meta.specs.declared.faults.MetaFault.TheVariants.{NoIndex, IndexExists, BadSetting, IsFollower, NoCluster, SoftDeletesOff, TooMany, ClusterExists}
use Rattle.ccr_meta.specs.declared.index_meta.IndexMeta.{IndexMeta}
use Rattle.ccr_meta.specs.declared.settings.Settings.{Settings}
use Rattle.ccr_meta.specs.Names.{Names, has_cluster, has_index, passes_at, followers_of, is_name, fits, shards_in}

abbrev pub find_guards : Names → IndexName → List (Bool × MetaFault)
find_guards names index = (not (has_cluster names index.cluster), NoCluster) ∷ (not (has_index names index), NoIndex) ∷ []

abbrev pub cluster_guards : Names → List ℕ → List (Bool × MetaFault)
cluster_guards names cluster =
    (not (is_name cluster), BadSetting) ∷ (has_cluster names cluster, ClusterExists) ∷ (nat_le 8 (length names.clusters), TooMany) ∷ []

-- the settings can be those of a new index of this name
abbrev pub is_fit_to_create : IndexName → Settings → Bool
is_fit_to_create index s =
    is_name index.index && (not s.bad && (fits 1 16 s.shards && (fits 0 7 s.replicas && (fits 0 9007199254740991 s.retention && fits 1 9007199254740991 s.period))))

-- a follower takes replicas alone, and stands in another cluster than its leader
abbrev pub is_fit_to_follow : IndexName → IndexName → Settings → Bool
is_fit_to_follow index leader s =
    is_name index.index && (not s.bad && (fits 0 7 s.replicas && (is_none s.shards && (is_none s.soft_deletes && (is_none s.retention && (is_none s.period && not (bytes_eq index.cluster leader.cluster)))))))

abbrev pub create_guards : Names → IndexName → Settings → List (Bool × MetaFault)
create_guards names index s =
    (not (has_cluster names index.cluster), NoCluster)
    ∷ (has_index names index, IndexExists)
    ∷ (not (is_fit_to_create index s), BadSetting)
    ∷ (nat_le 64 (length names.indices) || nat_lt 64 (names.worlds + shards_in s), TooMany)
    ∷ []

abbrev pub is_follower : IndexMeta → Bool
is_follower x = is_some x.leader

abbrev pub lacks_history : IndexMeta → Bool
lacks_history x = not x.soft_deletes

abbrev pub follow_guards : Names → IndexName → IndexName → Settings → List (Bool × MetaFault)
follow_guards names index leader s =
    (not (has_cluster names index.cluster) || not (has_cluster names leader.cluster), NoCluster)
    ∷ (not (has_index names leader), NoIndex)
    ∷ (has_index names index, IndexExists)
    ∷ (passes_at is_follower names leader, IsFollower)
    ∷ (passes_at lacks_history names leader, SoftDeletesOff)
    ∷ (not (is_fit_to_follow index leader s), BadSetting)
    ∷ (nat_le 64 (length names.indices) || nat_le 8 (followers_of names leader), TooMany)
    ∷ []
