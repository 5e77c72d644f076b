-- What a new index, and a new follower, brings into the shard worlds.
use Rattle.std.specs.Prelude.{◌≡◌, ℕ, ◌+◌, ◌≤◌, true, zero, suc, List, [], ◌∷◌, ◌++◌, Option, None, Some, IfSome, unwrap_or, flat_map, codes, decimal}
use Rattle.std.specs.Option.{option_map_or}
use Rattle.uuid.specs.Text.{hyphenated_text, lower}
use Rattle.ccr_op.specs.declared.index_name.IndexName.{IndexName}
use Rattle.ccr_journal.specs.declared.params.ParamValues.{ParamValues}
use Rattle.ccr_journal.specs.declared.events.Event.TheVariants as event
use Rattle.ccr_meta.specs.declared.creating.Decided.{Decided}
use Rattle.ccr_meta.specs.declared.index_meta.IndexMeta.{IndexMeta}
use Rattle.ccr_meta.specs.declared.settings.Settings.{Settings}
use Rattle.ccr_meta.specs.Names.{Names, index_uuid, is_index_name, new_leader}
use Rattle.ccr_meta.specs.Routing.{name_uuid}
use Rattle.ccr_meta.specs.Created.{created_reports, follower_in, no_settings}
use Rattle.ccr_model.specs.Leaders.{Start}
use Rattle.ccr_script.specs.Settings.{params_of}
use Rattle.ccr_deeds.specs.declared.deeds.Deed.{Deed}
use Rattle.ccr_answers.specs.declared.forms.Answer.TheVariants as answer
use Rattle.ccr_plans.specs.Planned.{Planned}
use Rattle.ccr_plans.specs.Forms.{does, with_index, in_worlds}

-- `cluster/index`
abbrev pub index_text : IndexName → List ℕ
index_text index = index.cluster ++ (codes "/" ++ index.index)

-- ---- the worlds of a new index

-- the UUID of the first history of a shard
abbrev pub history_uuid : IndexName → ℕ → List ℕ
history_uuid index shard = name_uuid (codes "history:" ++ (index_text index ++ (codes ":" ++ decimal shard)))

-- the start of the world of a shard
abbrev pub start_of : IndexName → IndexMeta → ℕ → Start
start_of index x shard = record { copies = x.replicas + 1; history = history_uuid index shard; period = x.period; retention = x.retention }

-- the starts of so many shards, from this one on
abbrev pub starts_from : IndexName → IndexMeta → ℕ → ℕ → List Start
starts_from index x shard zero = []
starts_from index x shard (suc n) = start_of index x shard ∷ starts_from index x (shard + 1) n

-- ---- the shards of a new follower

-- an index and its UUID
abbrev pub named_text : IndexName → List ℕ
named_text index = index_text index ++ (codes "/" ++ hyphenated_text lower (index_uuid index))

-- the id of the lease by which a follower retains its leader's operations
abbrev pub lease_id : IndexName → IndexName → List ℕ
lease_id index leader = named_text index ++ (codes "-following-" ++ named_text leader)

-- a follower shard with so many replicas is made in each of the leader's worlds
abbrev pub follow_deeds : IndexName → IndexName → ParamValues → ℕ → IndexMeta → List Deed
follow_deeds index leader params replicas x = in_worlds (event.Follow params (replicas + 1) (lease_id index leader)) x.first x.shards

-- with the leader's number of replicas where no other is set
abbrev pub follow_plan : Names → IndexName → IndexName → Settings → ParamValues → Planned
follow_plan names index leader s params =
    with_index names leader (λ (x : IndexMeta). does (follow_deeds index leader params (unwrap_or s.replicas x.replicas) x) answer.Done)

-- ---- a new index, with the followers that auto-follow makes of it

-- the index as it is made
abbrev pub made_index : Names → IndexName → Settings → IndexMeta
made_index names index s = new_leader names.worlds index s

-- its worlds are among the first 64, it has at most 16 shards of at most 7 replicas, and its name obeys the rule
pub record IsAllowed (index : IndexName) (x : IndexMeta) : Type 0 where
  pub few : x.shards ≤ 16
  pub replicas : x.replicas ≤ 7
  pub there : x.first + x.shards ≤ 64
  pub named : is_index_name index ≡ true

-- the follower that was decided on and not refused
abbrev pub followed : Decided → Option IndexName
followed d = option_map_or (λ fault. None) d.refused (follower_in d.cluster d.decision)

-- its name obeys the rule, so that the id of its lease is one
abbrev pub IsNamedIfFollowed : Decided → Type 0
IsNamedIfFollowed d = IfSome (followed d) (λ index. is_index_name index ≡ true)

abbrev pub followed_deeds : IndexName → IndexMeta → Decided → List Deed
followed_deeds leader x d = option_map_or (λ index. follow_deeds index leader (params_of None) x.replicas x) (followed d) []

abbrev pub creation : Names → IndexName → Settings → Planned
creation names index s = record {
  made = starts_from index (made_index names index s) 0 (made_index names index s).shards;
  deeds = flat_map (followed_deeds index (made_index names index s)) (created_reports names index s);
  answer = answer.Created (created_reports names index s);
}
