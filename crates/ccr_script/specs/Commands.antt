-- The command that a line is.
use Rattle.std.specs.Prelude.{[], ◌≡◌, ℕ, ◌+◌, ◌≤◌, ◌==◌, ◌&&◌, ◌||◌, Bool, true, false, not, nat_le, if◌then◌else◌, List, codes, Option, Some, None, is_some, option_map, option_and_then, Result, Ok, Err}
use Rattle.std.specs.List.{list_all}
use Rattle.serde_json.specs.Data.{Data, depth}
use Rattle.serde_json.specs.Find.{as_str, get}
use Rattle.serde_json.specs.Read.{read}
use Rattle.serde_json.specs.Written.{compact_text, has_float}
use Rattle.ccr_doc.specs.Sources.{value_of}
use Rattle.ccr_query.specs.declared.sorting.SortKey.{SortKey}
use Rattle.ccr_query.specs.Queries.{Tree}
use Rattle.ccr_script.specs.declared.bad_lines.BadLine.{BadLine}
use Rattle.ccr_script.specs.declared.bad_lines.BadLine.TheVariants.{NotJson, NoOp, BadField}
use Rattle.ccr_script.specs.declared.commands.Command.{Command}
use Rattle.ccr_script.specs.declared.commands.Command.TheVariants as command
use Rattle.ccr_script.specs.declared.fields.Field.TheVariants as field
use Rattle.ccr_script.specs.declared.grammar.Op.{Op}
use Rattle.ccr_script.specs.declared.grammar.Op.TheVariants as op
use Rattle.ccr_script.specs.Grammar.{fields_of, op_named}
use Rattle.ccr_script.specs.Checking.{has_fields, is_there}
use Rattle.ccr_script.specs.Parts.{at, text_in, index_in, number_at, number_or, truth_in, id_at, names_in, expect_in, keys_in, query_in}
use Rattle.ccr_script.specs.Settings.{create_settings, follow_settings, params_of}

-- ---- parts that belong together

-- an id, and both or none of what is expected
abbrev pub with_id : Data → (List ℕ → Option (ℕ × ℕ) → Command) → Option Command
with_id d make = option_and_then (λ expect. option_map (λ id. make id expect) (id_at field.Id d)) (expect_in d)

-- `create` doesn't stand beside `if_seq_no`
abbrev pub write_of : List ℕ → Data → Option Command
write_of text d =
    if (is_there field.Create d && is_there field.IfSeqNo d) || not (is_there field.Source d) then None
    else with_id d (λ id expect. command.Write (index_in field.Index d) id text (truth_in field.Create d) expect (id_at field.Routing d))

abbrev pub with_names : Option (List (List ℕ)) → Option (List (List ℕ)) → (List (List ℕ) → List (List ℕ) → Command) → Option Command
with_names None exclude make = None
with_names (Some patterns) None make = None
with_names (Some patterns) (Some exclude) make = Some (make patterns exclude)

-- no hit behind the first 10,000 is shown
abbrev pub search_of : Option Tree → Option (List SortKey) → Data → Option Command
search_of None sort d = None
search_of (Some query) None d = None
search_of (Some query) (Some sort) d =
    if nat_le (number_or 0 field.From d + number_or 10 field.Size d) 10000
    then Some (command.Search (index_in field.Index d) query sort (number_or 0 field.From d) (number_or 10 field.Size d) (number_at field.Copy d))
    else None

-- ---- the commands: what each is made of. `text` is the text of a write's source

abbrev pub made : List ℕ → Op → Data → Option Command
made text op.Cluster d = Some (command.Cluster (text_in field.Name d))
made text op.Create d = Some (command.Create (index_in field.Index d) (create_settings (at field.Settings d)))
made text op.Follow d = Some (command.Follow (index_in field.Index d) (index_in field.Leader d) (follow_settings (at field.Settings d) (at field.Params d)) (params_of (at field.Params d)))
made text op.Pause d = Some (command.Pause (index_in field.Index d))
made text op.Resume d = Some (command.Resume (index_in field.Index d))
made text op.Unfollow d = Some (command.Unfollow (index_in field.Index d))
made text op.AutoPut d = with_names (names_in field.Patterns d) (names_in field.Exclude d) (λ patterns exclude.
    command.AutoPut (text_in field.Cluster d) (text_in field.Name d) (text_in field.Remote d) patterns exclude (text_in field.Follow d))
made text op.AutoDelete d = Some (command.AutoDelete (text_in field.Cluster d) (text_in field.Name d))
made text op.Write d = write_of text d
made text op.Delete d = with_id d (λ id expect. command.Delete (index_in field.Index d) id expect (id_at field.Routing d))
made text op.Search d = search_of (query_in d) (keys_in d) d
made text op.Status d = Some (command.Status (index_in field.Index d))
made text op.Settle d = Some command.Settle
made text op.Clock d = Some (command.Clock (text_in field.Cluster d) (number_or 0 field.Now d))
made text op.Replicate d = Some (command.Replicate (index_in field.Index d) (number_or 0 field.Shard d) (number_or 0 field.Copy d) (number_or 0 field.Seq d))
made text op.Ack d = Some (command.Ack (index_in field.Index d) (number_or 0 field.Shard d) (number_or 0 field.Copy d))
made text op.Sync d = Some (command.Sync (index_in field.Index d) (number_or 0 field.Shard d) (number_or 0 field.Copy d))
made text op.Promote d = Some (command.Promote (index_in field.Index d) (number_or 0 field.Shard d) (number_or 0 field.Copy d))
made text op.Resync d = Some (command.Resync (index_in field.Index d) (number_or 0 field.Shard d) (number_or 0 field.Copy d))
made text op.FailCopy d = Some (command.FailCopy (index_in field.Index d) (number_or 0 field.Shard d) (number_or 0 field.Copy d))
made text op.ForcePromote d = Some (command.ForcePromote (index_in field.Index d) (number_or 0 field.Shard d) (number_or 0 field.Copy d))
made text op.Flush d = Some (command.Flush (index_in field.Index d) (number_or 0 field.Shard d) (number_or 0 field.Copy d))
made text op.Merge d = Some (command.Merge (index_in field.Index d) (number_or 0 field.Shard d) (number_or 0 field.Copy d))
made text op.AddCopy d = Some (command.AddCopy (index_in field.Index d) (number_or 0 field.Shard d))
made text op.Deliver d = Some (command.Deliver (index_in field.Index d) (number_or 0 field.Shard d) (number_or 0 field.At d) (number_at field.Copy d) (truth_in field.Keep d))
made text op.Drop d = Some (command.Drop (index_in field.Index d) (number_or 0 field.Shard d) (number_or 0 field.At d))
made text op.Wake d = Some (command.Wake (index_in field.Index d) (number_or 0 field.Shard d) (number_or 0 field.At d))
made text op.Lose d = Some (command.Lose (index_in field.Index d) (number_or 0 field.Shard d) (number_or 0 field.At d))
made text op.LoseWrite d = Some (command.LoseWrite (index_in field.Index d) (number_or 0 field.Shard d) (number_or 0 field.Write d))
made text op.Written d = Some (command.Written (index_in field.Index d) (number_or 0 field.Shard d) (number_or 0 field.Write d))
made text op.Apply d = Some (command.Apply (index_in field.Index d) (number_or 0 field.Shard d) (number_or 0 field.Write d) (number_at field.Epoch d))
made text op.Renew d = Some (command.Renew (index_in field.Index d) (number_or 0 field.Shard d))
made text op.Restart d = Some (command.Restart (index_in field.Index d) (number_or 0 field.Shard d))

-- ---- the text of a source

-- it is compact; of a number with a fraction or an exponent the digits are left open, and the text reads as that number
pub record IsTextOf (d : Data) (text : List ℕ) : Type 0 where
  pub compact : has_float d ≡ false → text ≡ compact_text d
  pub reads_back : depth d ≤ 127 → read text ≡ Some d

abbrev pub IsTextOfSome : Option Data → List ℕ → Type 0
IsTextOfSome None text = Unit {0}
IsTextOfSome (Some d) text = IsTextOf d text

-- the command of these fields
abbrev pub IsMade : Op → Data → Command → Type 0
IsMade op.Write d c = (text : List ℕ) × IsTextOfSome (at field.Source d) text × (made text op.Write d ≡ Some c)
IsMade o d c = made [] o d ≡ Some c

-- its parts don't belong together
abbrev pub IsNoCommand : Op → Data → BadLine → Type 0
IsNoCommand o d why = (why ≡ BadField) × (made [] o d ≡ None)

-- ---- a line

-- spaces and tabs alone
abbrev pub is_blank : List ℕ → Bool
is_blank line = list_all (λ byte. (byte == 32) || (byte == 9)) line

abbrev pub op_in : Data → Option Op
op_in d = option_and_then op_named (option_and_then as_str (get (codes "op") d))

-- ---- the causes, in their order, for which a line is none; `None` for a command, and for a blank line
abbrev pub fault_in : Option Command → Option BadLine
fault_in None = Some BadField
fault_in (Some c) = None

abbrev pub fault_of_op : Option Op → Data → Option BadLine
fault_of_op None d = Some NoOp
fault_of_op (Some o) d = if has_fields (fields_of o) d then fault_in (made [] o d) else Some BadField

abbrev pub fault_of_value : Option Data → Option BadLine
fault_of_value None = Some NotJson
fault_of_value (Some d) = fault_of_op (op_in d) d

abbrev pub fault_of : List ℕ → Option BadLine
fault_of line = if is_blank line then None else fault_of_value (value_of line)

-- the line asks for this command
pub record IsCommand (line : List ℕ) (c : Command) : Type 0 where
  pub value : Data
  pub named : Op
  pub some : is_blank line ≡ false
  pub reads : value_of line ≡ Some value
  pub name : op_in value ≡ Some named
  pub fields : has_fields (fields_of named) value ≡ true
  pub made : IsMade named value c

-- what the line asks for: nothing, where it is blank
abbrev pub AsksFor : List ℕ → Option Command → Type 0
AsksFor line None = is_blank line ≡ true
AsksFor line (Some c) = IsCommand line c
