-- What a new index comes to: the patterns of each other cluster decide of it in order of name, and it is followed as they say,
-- one cluster after another.
use Rattle.std.specs.Prelude.{ℕ, List, [], ◌∷◌, Option, None, Some, is_none, false, if◌then◌else◌}
use Rattle.std.specs.List.{filter_map}
use Rattle.std.specs.Option.{option_map_or, option_and_then}
use Rattle.std.specs.Str.{bytes_eq}
use Rattle.ccr_op.specs.declared.index_name.IndexName.{IndexName}
use Rattle.ccr_auto.specs.declared.follow.Decision.{Decision}
use Rattle.ccr_auto.specs.declared.follow.Decision.TheVariants.{None as NoFollow, Follow, Conflict}
use Rattle.ccr_auto.specs.Follow.{FollowPattern}
use Rattle.ccr_auto.specs.Answers.{decision_of}
use Rattle.ccr_meta.specs.declared.faults.MetaFault.{MetaFault}
use Rattle.ccr_meta.specs.declared.creating.Decided.{Decided}
use Rattle.ccr_meta.specs.declared.settings.Settings.{Settings}
use Rattle.ccr_meta.specs.Names.{Names, with_leader, with_follower}
use Rattle.ccr_meta.specs.Guards.{first_refusal}
use Rattle.ccr_meta.specs.NameGuards.{follow_guards}

-- a decision, where it is one
abbrev pub told : List ℕ → Decision → Option Decided
told cluster NoFollow = None
told cluster (Follow name) = Some (record { cluster = cluster; decision = Follow name; refused = None })
told cluster (Conflict first second) = Some (record { cluster = cluster; decision = Conflict first second; refused = None })

-- what the patterns of a cluster decide of a new index of another one
abbrev pub decided_in : IndexName → List ℕ × List FollowPattern → Option Decided
decided_in index cluster = if bytes_eq cluster.0 index.cluster then None else told cluster.0 (decision_of index.cluster index.index cluster.1)

abbrev pub decided : IndexName → List (List ℕ × List FollowPattern) → List Decided
decided index clusters = filter_map (decided_in index) clusters

-- no setting is given
abbrev pub no_settings : Settings
no_settings = record { shards = None; replicas = None; soft_deletes = None; retention = None; period = None; bad = false }

-- the follower that was decided on
abbrev pub follower_in : List ℕ → Decision → Option IndexName
follower_in cluster NoFollow = None
follower_in cluster (Follow name) = Some (record { cluster = cluster; index = name })
follower_in cluster (Conflict first second) = None

abbrev pub refusal_of : IndexName → Names → Decided → Option MetaFault
refusal_of leader names d = option_and_then (λ index. first_refusal (follow_guards names index leader no_settings)) (follower_in d.cluster d.decision)

-- the follower that is made
abbrev pub follower_of : IndexName → Names → Decided → Option IndexName
follower_of leader names d = if is_none (refusal_of leader names d) then follower_in d.cluster d.decision else None

abbrev pub judged : IndexName → Names → Decided → Decided
judged leader names d = record d { refused = refusal_of leader names d }

abbrev pub after : IndexName → Names → Decided → Names
after leader names d = option_map_or (λ index. with_follower names index leader no_settings) (follower_of leader names d) names

-- the names and the reports after decisions that are carried out one after another
abbrev pub names_after : IndexName → Names → List Decided → Names
names_after leader names [] = names
names_after leader names (d ∷ ds) = names_after leader (after leader names d) ds

abbrev pub reports : IndexName → Names → List Decided → List Decided
reports leader names [] = []
reports leader names (d ∷ ds) = judged leader names d ∷ reports leader (after leader names d) ds

-- a new index
abbrev pub created : Names → IndexName → Settings → Names
created names index s = names_after index (with_leader names index s) (decided index names.clusters)

abbrev pub created_reports : Names → IndexName → Settings → List Decided
created_reports names index s = reports index (with_leader names index s) (decided index names.clusters)
