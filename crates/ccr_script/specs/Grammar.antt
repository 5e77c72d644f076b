-- Which fields the commands have. A command is a JSON object; its text under `op` names it.
use Rattle.std.specs.Prelude.{ℕ, List, [], ◌∷◌, Option, Some, None, codes, if◌then◌else◌}
use Rattle.std.specs.Str.{bytes_eq}
use Rattle.ccr_script.specs.declared.fields.Field.{Field}
use Rattle.ccr_script.specs.declared.fields.Field.TheVariants as field
use Rattle.ccr_script.specs.declared.fields.Kind.{Kind}
use Rattle.ccr_script.specs.declared.fields.Kind.TheVariants.{Number, Truth, Text, Name, Index, Id, List as AnyList, Object, Any}
use Rattle.ccr_script.specs.declared.grammar.Op.{Op}
use Rattle.ccr_script.specs.declared.grammar.Op.TheVariants as op

-- ---- the fields: the name and the kind of each

abbrev pub line_of : Field → List ℕ × Kind
line_of field.Op = (codes "op", Text)
line_of field.Name = (codes "name", Name)
line_of field.Cluster = (codes "cluster", Name)
line_of field.Remote = (codes "remote", Name)
line_of field.Index = (codes "index", Index)
line_of field.Leader = (codes "leader", Index)
line_of field.Settings = (codes "settings", Object)
line_of field.Params = (codes "params", Object)
line_of field.Patterns = (codes "patterns", AnyList)
line_of field.Exclude = (codes "exclude", AnyList)
line_of field.Follow = (codes "follow", Text)
line_of field.Id = (codes "id", Id)
line_of field.Routing = (codes "routing", Id)
line_of field.Source = (codes "source", Any)
line_of field.Create = (codes "create", Truth)
line_of field.IfSeqNo = (codes "if_seq_no", Number)
line_of field.IfPrimaryTerm = (codes "if_primary_term", Number)
line_of field.Query = (codes "query", Any)
line_of field.Sort = (codes "sort", AnyList)
line_of field.From = (codes "from", Number)
line_of field.Size = (codes "size", Number)
line_of field.Copy = (codes "copy", Number)
line_of field.Seq = (codes "seq", Number)
line_of field.At = (codes "at", Number)
line_of field.Keep = (codes "keep", Truth)
line_of field.Shard = (codes "shard", Number)
line_of field.Write = (codes "write", Number)
line_of field.Epoch = (codes "epoch", Number)
line_of field.Now = (codes "now", Number)

abbrev pub name_of : Field → List ℕ
name_of f = (line_of f).0

abbrev pub kind_of : Field → Kind
kind_of f = (line_of f).1

-- ---- the commands: the name of each, the fields that it needs, and those that it may have besides

pub record Fields : Type 0 where
  pub name : List ℕ
  pub needed : List Field
  pub allowed : List Field

abbrev pub takes : List ℕ → List Field → List Field → Fields
takes name needed allowed = record { name = name; needed = needed; allowed = allowed }

abbrev pub fields_of : Op → Fields
fields_of op.Cluster = takes (codes "cluster") (field.Name ∷ []) []
fields_of op.Create = takes (codes "create") (field.Index ∷ []) (field.Settings ∷ [])
fields_of op.Follow = takes (codes "follow") (field.Index ∷ field.Leader ∷ []) (field.Settings ∷ field.Params ∷ [])
fields_of op.Pause = takes (codes "pause") (field.Index ∷ []) []
fields_of op.Resume = takes (codes "resume") (field.Index ∷ []) []
fields_of op.Unfollow = takes (codes "unfollow") (field.Index ∷ []) []
fields_of op.AutoPut = takes (codes "auto_put") (field.Cluster ∷ field.Name ∷ field.Remote ∷ field.Patterns ∷ field.Follow ∷ []) (field.Exclude ∷ [])
fields_of op.AutoDelete = takes (codes "auto_delete") (field.Cluster ∷ field.Name ∷ []) []
fields_of op.Write = takes (codes "write") (field.Index ∷ field.Id ∷ field.Source ∷ []) (field.Create ∷ field.IfSeqNo ∷ field.IfPrimaryTerm ∷ field.Routing ∷ [])
fields_of op.Delete = takes (codes "delete") (field.Index ∷ field.Id ∷ []) (field.IfSeqNo ∷ field.IfPrimaryTerm ∷ field.Routing ∷ [])
fields_of op.Search = takes (codes "search") (field.Index ∷ []) (field.Query ∷ field.Sort ∷ field.From ∷ field.Size ∷ field.Copy ∷ [])
fields_of op.Status = takes (codes "status") (field.Index ∷ []) []
fields_of op.Settle = takes (codes "settle") [] []
fields_of op.Clock = takes (codes "clock") (field.Cluster ∷ field.Now ∷ []) []
fields_of op.Replicate = takes (codes "replicate") (field.Index ∷ field.Copy ∷ field.Seq ∷ []) (field.Shard ∷ [])
fields_of op.Ack = takes (codes "ack") (field.Index ∷ field.Copy ∷ []) (field.Shard ∷ [])
fields_of op.Sync = takes (codes "sync") (field.Index ∷ field.Copy ∷ []) (field.Shard ∷ [])
fields_of op.Promote = takes (codes "promote") (field.Index ∷ field.Copy ∷ []) (field.Shard ∷ [])
fields_of op.Resync = takes (codes "resync") (field.Index ∷ field.Copy ∷ []) (field.Shard ∷ [])
fields_of op.FailCopy = takes (codes "fail_copy") (field.Index ∷ field.Copy ∷ []) (field.Shard ∷ [])
fields_of op.ForcePromote = takes (codes "force_promote") (field.Index ∷ field.Copy ∷ []) (field.Shard ∷ [])
fields_of op.Flush = takes (codes "flush") (field.Index ∷ field.Copy ∷ []) (field.Shard ∷ [])
fields_of op.Merge = takes (codes "merge") (field.Index ∷ field.Copy ∷ []) (field.Shard ∷ [])
fields_of op.AddCopy = takes (codes "add_copy") (field.Index ∷ []) (field.Shard ∷ [])
fields_of op.Deliver = takes (codes "deliver") (field.Index ∷ field.At ∷ []) (field.Shard ∷ field.Copy ∷ field.Keep ∷ [])
fields_of op.Drop = takes (codes "drop") (field.Index ∷ field.At ∷ []) (field.Shard ∷ [])
fields_of op.Wake = takes (codes "wake") (field.Index ∷ []) (field.Shard ∷ field.At ∷ [])
fields_of op.Lose = takes (codes "lose") (field.Index ∷ field.At ∷ []) (field.Shard ∷ [])
fields_of op.LoseWrite = takes (codes "lose_write") (field.Index ∷ field.Write ∷ []) (field.Shard ∷ [])
fields_of op.Written = takes (codes "written") (field.Index ∷ field.Write ∷ []) (field.Shard ∷ [])
fields_of op.Apply = takes (codes "apply") (field.Index ∷ field.Write ∷ []) (field.Shard ∷ field.Epoch ∷ [])
fields_of op.Renew = takes (codes "renew") (field.Index ∷ []) (field.Shard ∷ [])
fields_of op.Restart = takes (codes "restart") (field.Index ∷ []) (field.Shard ∷ [])

abbrev pub first_named : List ℕ → List Op → Option Op
first_named text [] = None
first_named text (o ∷ os) = if bytes_eq text (fields_of o).name then Some o else first_named text os

-- 0 for an empty text
abbrev pub first_byte : List ℕ → ℕ
first_byte [] = 0
first_byte (b ∷ bs) = b

-- the command of a name
unfoldable pub op_named : List ℕ → Option Op
op_named text = first_named text (op.Cluster ∷ op.Create ∷ op.Follow ∷ op.Pause ∷ op.Resume ∷ op.Unfollow ∷ op.AutoPut ∷ op.AutoDelete ∷ op.Write ∷ op.Delete ∷ op.Search ∷ op.Status ∷ op.Settle ∷ op.Clock ∷ op.Replicate ∷ op.Ack ∷ op.Sync ∷ op.Promote ∷ op.Resync ∷ op.FailCopy ∷ op.ForcePromote ∷ op.Flush ∷ op.Merge ∷ op.AddCopy ∷ op.Deliver ∷ op.Drop ∷ op.Wake ∷ op.Lose ∷ op.LoseWrite ∷ op.Written ∷ op.Apply ∷ op.Renew ∷ op.Restart ∷ [])
