-- The names that were made so far.
use Rattle.std.specs.Prelude.{◌≡◌, ℕ, ◌+◌, ◌<◌, ◌≤◌, ◌^◌, Bool, true, false, ◌&&◌, ◌||◌, ◌==◌, nat_le, List, [], ◌∷◌, ◌++◌, length, count_by, All, Option, None, Some, is_some, unwrap_or, codes}
use Rattle.std.specs.List.{list_all}
use Rattle.std.specs.Option.{option_map_or}
use Rattle.std.specs.Str.{bytes_eq}
use Rattle.std.specs.declared.cmp.Ordering.{Ordering}
use Rattle.std.specs.Ordering.{nat_cmp, ordering_then}
use Rattle.std.specs.Cmp.Lexicographic.{slice_cmp}
use Rattle.std.specs.Map.{keys_of, lookup, values_of, remove_entry}
use Rattle.std.specs.BTreeMap.{is_at, insert_entry}
use Rattle.ccr_op.specs.declared.index_name.IndexName.{IndexName}
use Rattle.ccr_auto.specs.Follow.{FollowPattern}
use Rattle.ccr_meta.specs.declared.index_meta.IndexMeta.{IndexMeta}
use Rattle.ccr_meta.specs.declared.settings.Settings.{Settings}
use Rattle.ccr_meta.specs.Routing.{name_uuid}

-- the clusters with their auto-follow patterns and the indices, each in order of name, and how many shard worlds were made
pub record Names : Type 0 where
  pub clusters : List (List ℕ × List FollowPattern)
  pub indices : List (IndexName × IndexMeta)
  pub worlds : ℕ

-- indices are ordered by cluster, then by name
abbrev pub index_cmp : IndexName → IndexName → Ordering
index_cmp a b = ordering_then (slice_cmp nat_cmp a.cluster b.cluster) (slice_cmp nat_cmp a.index b.index)

abbrev pub is_same_index : IndexName → IndexName → Bool
is_same_index a b = bytes_eq a.cluster b.cluster && bytes_eq a.index b.index

-- the auto-follow patterns of a cluster
abbrev pub patterns_at : Names → List ℕ → Option (List FollowPattern)
patterns_at names cluster = lookup (is_at (slice_cmp nat_cmp cluster)) names.clusters

abbrev pub has_cluster : Names → List ℕ → Bool
has_cluster names cluster = is_some (patterns_at names cluster)

abbrev pub index_at : Names → IndexName → Option IndexMeta
index_at names index = lookup (is_at (index_cmp index)) names.indices

abbrev pub has_index : Names → IndexName → Bool
has_index names index = is_some (index_at names index)

-- the index is there, and passes the test
abbrev pub passes_at : (IndexMeta → Bool) → Names → IndexName → Bool
passes_at test names index = option_map_or test (index_at names index) false

abbrev pub follows : IndexName → IndexMeta → Bool
follows leader x = option_map_or (λ other. is_same_index other leader) x.leader false

-- how many followers of an index were made
abbrev pub followers_of : Names → IndexName → ℕ
followers_of names leader = count_by (follows leader) (values_of names.indices)

-- ---- the rule of names: 1 to 64 of `a-z 0-9 . _ -`, the first of `a-z 0-9 .`

abbrev pub is_first_byte : ℕ → Bool
is_first_byte c = (nat_le 97 c && nat_le c 122) || ((nat_le 48 c && nat_le c 57) || (c == 46))

abbrev pub is_name_byte : ℕ → Bool
is_name_byte c = is_first_byte c || ((c == 95) || (c == 45))

abbrev pub is_name : List ℕ → Bool
is_name [] = false
is_name (c ∷ text) = is_first_byte c && (list_all is_name_byte text && nat_le (length text) 63)

abbrev pub is_index_name : IndexName → Bool
is_index_name index = is_name index.cluster && is_name index.index

-- ---- what is made

-- a value that was given lies between these
abbrev pub fits : ℕ → ℕ → Option ℕ → Bool
fits least most value = option_map_or (λ n. nat_le least n && nat_le n most) value true

-- the UUID of an index
abbrev pub index_uuid : IndexName → List ℕ
index_uuid index = name_uuid (codes "index:" ++ (index.cluster ++ 47 ∷ index.index))

abbrev pub shards_in : Settings → ℕ
shards_in s = unwrap_or s.shards 1

-- an index that follows none, in the worlds from this number on
abbrev pub new_leader : ℕ → IndexName → Settings → IndexMeta
new_leader first index s = record {
  shards = shards_in s;
  replicas = unwrap_or s.replicas 1;
  soft_deletes = unwrap_or s.soft_deletes true;
  retention = unwrap_or s.retention 0;
  period = unwrap_or s.period 43200000;
  uuid = index_uuid index;
  leader = None;
  first = first;
  follower = None;
}

-- a follower of an index, of this number among its followers
abbrev pub new_follower : ℕ → IndexName → IndexName → IndexMeta → Settings → IndexMeta
new_follower number index leader found s = record {
  shards = found.shards;
  replicas = unwrap_or s.replicas found.replicas;
  soft_deletes = found.soft_deletes;
  retention = found.retention;
  period = found.period;
  uuid = index_uuid index;
  leader = Some leader;
  first = found.first;
  follower = Some number;
}

abbrev pub with_cluster : Names → List ℕ → Names
with_cluster names cluster = record names { clusters = insert_entry (slice_cmp nat_cmp) names.clusters cluster [] }

abbrev pub with_index : Names → IndexName → IndexMeta → Names
with_index names index x = record names { indices = insert_entry index_cmp names.indices index x }

abbrev pub without_index : Names → IndexName → Names
without_index names index = record names { indices = remove_entry (is_at (index_cmp index)) names.indices }

abbrev pub with_leader : Names → IndexName → Settings → Names
with_leader names index s = record (with_index names index (new_leader names.worlds index s)) { worlds = names.worlds + shards_in s }

abbrev pub with_follower : Names → IndexName → IndexName → Settings → Names
with_follower names index leader s =
    option_map_or (λ found. with_index names index (new_follower (followers_of names leader) index leader found s)) (index_at names leader) names

-- the index is a follower as it is made, of a leader that is there
abbrev pub IsFollowerOf : Names → IndexName → IndexName → Settings → IndexMeta → Type 0
IsFollowerOf names index leader s x = (found : IndexMeta) × (index_at names leader ≡ Some found) × (x ≡ new_follower (followers_of names leader) index leader found s)

-- ---- what always holds

-- the settings of an index lie in their ranges, its shards in worlds that are there, its number is that of one of 8 followers, and its
-- leader's names obey the rule
pub record IsIn (worlds : ℕ) (x : IndexMeta) : Type 0 where
  pub some : 1 ≤ x.shards
  pub few : x.shards ≤ 16
  pub there : x.first + x.shards ≤ worlds
  pub replicas : x.replicas ≤ 7
  pub retention : x.retention < 2 ^ 53
  pub period : 1 ≤ x.period
  pub period_fits : x.period < 2 ^ 53
  pub number : option_map_or (λ n. nat_le n 7) x.follower true ≡ true
  pub leader : option_map_or is_index_name x.leader true ≡ true

-- there are at most 8 clusters, 64 indices, 64 shard worlds and 8 followers of an index, each name obeys the rule, and each index is in
-- its bounds
pub record AreIn (names : Names) : Type 0 where
  pub clusters : length names.clusters ≤ 8
  pub indices : length names.indices ≤ 64
  pub worlds : names.worlds ≤ 64
  pub all : All (IsIn names.worlds) (values_of names.indices)
  pub followers : (leader : IndexName) → followers_of names leader ≤ 8
  pub cluster_names : All (λ cluster. is_name cluster ≡ true) (keys_of names.clusters)
  pub index_names : All (λ index. is_index_name index ≡ true) (keys_of names.indices)
