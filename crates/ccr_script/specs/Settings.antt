-- The settings of an index, and the parameters of a follower.
use Rattle.std.specs.Prelude.{ℕ, ◌^◌, ◌-◌, ◌&&◌, ◌||◌, Bool, true, false, not, nat_le, if◌then◌else◌, List, [], ◌∷◌, codes, Option, Some, None, is_some, option_map, option_and_then, unwrap_or}
use Rattle.std.specs.Option.{option_map_or}
use Rattle.std.specs.List.{list_any}
use Rattle.std.specs.Str.{bytes_eq}
use Rattle.serde_json.specs.Data.{Data, Members, no_members, member}
use Rattle.serde_json.specs.Find.{get, as_bool, as_object}
use Rattle.ccr_journal.specs.declared.params.ParamValues.{ParamValues}
use Rattle.ccr_meta.specs.declared.settings.Settings.{Settings}
use Rattle.ccr_script.specs.declared.amounts.Unit.{Unit}
use Rattle.ccr_script.specs.declared.amounts.Unit.TheVariants.{Count, Size, Time}
use Rattle.ccr_script.specs.declared.settings.Setting.{Setting}
use Rattle.ccr_script.specs.declared.settings.Setting.TheVariants.{Shards, Replicas, Retention, Period, ReadCount, ReadSize, Reads, WriteCount, WriteSize, Writes, BufferCount, BufferSize, RetryDelay, PollTimeout, ChunkSize}
use Rattle.ccr_script.specs.Amounts.{amount_of}

-- ---- the settings and parameters that are amounts: the name of each, what it counts, the least and the most

pub record Line : Type 0 where
  pub name : List ℕ
  pub unit : Unit
  pub least : ℕ
  pub most : ℕ

abbrev pub line : List ℕ → Unit → ℕ → ℕ → Line
line name unit least most = record { name = name; unit = unit; least = least; most = most }

abbrev pub line_of : Setting → Line
line_of Shards = line (codes "index.number_of_shards") Count 1 16
line_of Replicas = line (codes "index.number_of_replicas") Count 0 7
line_of Retention = line (codes "index.soft_deletes.retention.operations") Count 0 9007199254740991
line_of Period = line (codes "index.soft_deletes.retention_lease.period") Time 1 9007199254740991
line_of ReadCount = line (codes "max_read_request_operation_count") Count 1 2147483647
line_of ReadSize = line (codes "max_read_request_size") Size 1 9223372036854775807
line_of Reads = line (codes "max_outstanding_read_requests") Count 1 2147483647
line_of WriteCount = line (codes "max_write_request_operation_count") Count 1 2147483647
line_of WriteSize = line (codes "max_write_request_size") Size 1 9223372036854775807
line_of Writes = line (codes "max_outstanding_write_requests") Count 1 2147483647
line_of BufferCount = line (codes "max_write_buffer_count") Count 1 2147483647
line_of BufferSize = line (codes "max_write_buffer_size") Size 1 9223372036854775807
line_of RetryDelay = line (codes "max_retry_delay") Time 1 9007199254740991
line_of PollTimeout = line (codes "read_poll_timeout") Time 1 9007199254740991
line_of ChunkSize = line (codes "chunk_size") Size 1 16777216

-- the amount, where it is in the range
abbrev pub in_range : Setting → ℕ → Option ℕ
in_range s n = if nat_le (line_of s).least n && nat_le n (line_of s).most then Some n else None

abbrev pub value_of : Setting → Data → Option ℕ
value_of s d = option_and_then (in_range s) (amount_of (line_of s).unit d)

-- the amount in an object that may be there
abbrev pub given : Setting → Option Data → Option ℕ
given s o = option_and_then (λ d. option_and_then (value_of s) (get (line_of s).name d)) o

abbrev pub given_or : Setting → Option Data → ℕ → ℕ
given_or s o default = unwrap_or (given s o) default

-- ---- names and values that are none

abbrev pub soft_deletes : List ℕ
soft_deletes = codes "index.soft_deletes.enabled"

abbrev pub soft_deletes_in : Option Data → Option Bool
soft_deletes_in o = option_and_then (λ d. option_and_then as_bool (get soft_deletes d)) o

-- the name is that of one of the settings, and the value is in its range
abbrev pub is_one_of : List Setting → List ℕ → Data → Bool
is_one_of [] name d = false
is_one_of (s ∷ ss) name d = if bytes_eq name (line_of s).name then is_some (value_of s d) else is_one_of ss name d

abbrev pub is_known : List Setting → Bool → List ℕ → Data → Bool
is_known settings truths name d = if truths && bytes_eq name soft_deletes then is_some (as_bool d) else is_one_of settings name d

abbrev pub members_known : List Setting → Bool → Members → Bool
members_known settings truths no_members = true
members_known settings truths (member name d ms) = is_known settings truths name d && members_known settings truths ms

abbrev pub are_members_known : List Setting → Bool → Data → Bool
are_members_known settings truths d = option_map_or (members_known settings truths) (as_object d) false

abbrev pub are_known : List Setting → Bool → Option Data → Bool
are_known settings truths o = option_map_or (are_members_known settings truths) o true

abbrev pub are_params : Option Data → Bool
are_params o = are_known (ReadCount ∷ ReadSize ∷ Reads ∷ WriteCount ∷ WriteSize ∷ Writes ∷ BufferCount ∷ BufferSize ∷ RetryDelay ∷ PollTimeout ∷ ChunkSize ∷ []) false o

-- ---- what a command gives

abbrev pub create_settings : Option Data → Settings
create_settings o = record {
  shards = given Shards o;
  replicas = given Replicas o;
  soft_deletes = soft_deletes_in o;
  retention = given Retention o;
  period = given Period o;
  bad = not (are_known (Shards ∷ Replicas ∷ Retention ∷ Period ∷ []) true o);
}

-- a follower takes the number of replicas alone
abbrev pub follow_settings : Option Data → Option Data → Settings
follow_settings o params = record {
  shards = None;
  replicas = given Replicas o;
  soft_deletes = None;
  retention = None;
  period = None;
  bad = not (are_known (Replicas ∷ []) false o) || not (are_params params);
}

-- each that is absent or out of its range has its default
abbrev pub params_of : Option Data → ParamValues
params_of o = record {
  max_read_request_operation_count = given_or ReadCount o 5120;
  max_read_request_size = given_or ReadSize o 33554432;
  max_outstanding_read_requests = given_or Reads o 12;
  max_write_request_operation_count = given_or WriteCount o 5120;
  max_write_request_size = given_or WriteSize o 9223372036854775807;
  max_outstanding_write_requests = given_or Writes o 9;
  max_write_buffer_count = given_or BufferCount o 2147483647;
  max_write_buffer_size = given_or BufferSize o 536870912;
  max_retry_delay = given_or RetryDelay o 500;
  read_poll_timeout = given_or PollTimeout o 60000;
  chunk_size = given_or ChunkSize o 1048576;
}
