-- The auto-follow patterns of a cluster are changed.
use Rattle.std.specs.Prelude.{◌≡◌, ℕ, List, Result, Ok, Err, MatchOption, MatchBool}
use Rattle.std.specs.Option.{option_map_or}
use Rattle.std.specs.Ordering.{nat_cmp}
use Rattle.std.specs.Cmp.Lexicographic.{slice_cmp}
use Rattle.std.specs.Map.{set_value}
use Rattle.std.specs.BTreeMap.{is_at}
use Rattle.ccr_auto.specs.declared.follow.AutoFault.TheVariants.{NameTaken, NoPattern, BadPattern, Memory}
use Rattle.ccr_auto.specs.Follow.{FollowPattern, IsWellFormed, pattern_of, with_pattern, without}
use Rattle.ccr_meta.specs.declared.faults.MetaFault.TheVariants.{NoCluster}
use Rattle.ccr_meta.specs.declared.faults.AutoRefused.{AutoRefused}
use Rattle.ccr_meta.specs.declared.faults.AutoRefused.TheVariants.{Meta, Auto}
use Rattle.ccr_meta.specs.Names.{Names, has_cluster, patterns_at}

-- the names, with these patterns of a cluster that is there
abbrev pub with_patterns : Names → List ℕ → List FollowPattern → Names
with_patterns names cluster patterns = record names { clusters = set_value (is_at (slice_cmp nat_cmp cluster)) names.clusters patterns }

abbrev pub with_pattern_put : Names → List ℕ → FollowPattern → Names
with_pattern_put names cluster pattern = option_map_or (λ patterns. with_patterns names cluster (with_pattern pattern patterns)) (patterns_at names cluster) names

abbrev pub with_pattern_deleted : Names → List ℕ → List ℕ → Names
with_pattern_deleted names cluster name = option_map_or (λ patterns. with_patterns names cluster (without name patterns)) (patterns_at names cluster) names

-- the answer to a put under a name that is free in a cluster that is there
abbrev pub IsJudgedPut : List (List ℕ) → List (List ℕ) → List ℕ → Result (Unit {0}) AutoRefused → Type 0
IsJudgedPut patterns exclude follow (Ok done) = IsWellFormed patterns exclude follow
IsJudgedPut patterns exclude follow (Err (Auto BadPattern)) = IsWellFormed patterns exclude follow → ⊥
IsJudgedPut patterns exclude follow (Err (Auto Memory)) = IsWellFormed patterns exclude follow
IsJudgedPut patterns exclude follow (Err other) = ⊥

-- the answer to a put: no cluster, a name that is taken, or by the form of the pattern
abbrev pub IsPut : Names → List ℕ → List ℕ → List ℕ → List (List ℕ) → List (List ℕ) → List ℕ → Result (Unit {0}) AutoRefused → Type 0
IsPut names cluster name remote patterns exclude follow result =
    MatchBool (has_cluster names remote)
    (MatchOption (patterns_at names cluster) (result ≡ Err (Meta NoCluster)) (λ list.
    MatchOption (pattern_of name list) (IsJudgedPut patterns exclude follow result) (λ taken. result ≡ Err (Auto NameTaken))))
    (result ≡ Err (Meta NoCluster))

-- the answer to a deletion: no cluster, or no pattern of that name
abbrev pub IsDeleted : Names → List ℕ → List ℕ → Result (Unit {0}) AutoRefused → Type 0
IsDeleted names cluster name result =
    MatchOption (patterns_at names cluster) (result ≡ Err (Meta NoCluster)) (λ list.
    MatchOption (pattern_of name list) (result ≡ Err (Auto NoPattern)) (λ kept. result ≡ Ok tt))
