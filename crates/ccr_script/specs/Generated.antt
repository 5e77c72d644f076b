-- The script that is made from a seed.
use Rattle.std.specs.Prelude.{ℕ, zero, suc, ◌+◌, ◌*◌, ◌/◌, ◌%◌, ◌^◌, ◌==◌, Bool, true, false, if◌then◌else◌, List, [], ◌∷◌, ◌++◌, codes, decimal, Option, Some, None}
use Rattle.ccr_meta.specs.declared.settings.Settings.{Settings}
use Rattle.ccr_op.specs.declared.index_name.IndexName.{IndexName}
use Rattle.ccr_query.specs.declared.conditions.Condition.TheVariants.{MatchAll}
use Rattle.ccr_query.specs.Queries.{condition}
use Rattle.ccr_script.specs.declared.commands.Command.{Command}
use Rattle.ccr_script.specs.declared.commands.Command.TheVariants.{Cluster, Create, Follow, Settle, Promote, AddCopy, Write, Delete, Search}
use Rattle.ccr_script.specs.Settings.{params_of, follow_settings}

abbrev pub leader : IndexName
leader = record { cluster = codes "a"; index = codes "l" }

abbrev pub follower : IndexName
follower = record { cluster = codes "b"; index = codes "f" }

-- an index with three shards and a replica of each, and a follower of it
abbrev pub leader_settings : Settings
leader_settings = record { shards = Some 3; replicas = Some 1; soft_deletes = None; retention = None; period = None; bad = false }

abbrev pub setup : List Command
setup = Cluster (codes "a") ∷ Cluster (codes "b") ∷ Create leader leader_settings ∷ Follow follower leader (follow_settings None None) (params_of None) ∷ []

-- half way through, the first shard changes its primary
abbrev pub switch : List Command
switch = Settle ∷ Promote leader 0 1 ∷ Settle ∷ AddCopy leader 0 ∷ []

-- the next of the numbers that are drawn
abbrev pub next : ℕ → ℕ
next x = (x * 1103515245 + 12345) % 2 ^ 31

abbrev pub id_text : ℕ → ℕ → List ℕ
id_text drawn writes = codes "d" ++ decimal (drawn % (writes / 4 + 1))

abbrev pub source_text : ℕ → ℕ → List ℕ
source_text i drawn = codes "{\"n\":" ++ (decimal i ++ (codes ",\"t\":\"w" ++ (decimal (drawn % 7) ++ codes "\"}")))

-- one draw in eight is a delete
abbrev pub change : ℕ → ℕ → ℕ → Command
change i drawn writes =
    if drawn % 8 == 0 then Delete leader (id_text drawn writes) None None
    else Write leader (id_text drawn writes) (source_text i drawn) false None None

abbrev pub before : ℕ → ℕ → List Command
before i writes = if i == writes / 2 then switch else []

-- so many changes, from number i on, where x was drawn last; only the upper digits of what is drawn are used
abbrev pub changes : ℕ → ℕ → ℕ → ℕ → List Command
changes writes zero i x = []
changes writes (suc left) i x = before i writes ++ (change i (next x / 65536) writes ∷ changes writes left (i + 1) (next x))

abbrev pub search_of_all : IndexName → Command
search_of_all index = Search index (condition MatchAll) [] 0 10000 None

abbrev pub searches : List Command
searches = Settle ∷ search_of_all leader ∷ search_of_all follower ∷ []

abbrev pub generated : ℕ → ℕ → List Command
generated seed writes = setup ++ (changes writes writes 0 seed ++ searches)
