-- The names and the journals of a run, and what a command makes of them.
use Rattle.std.specs.Prelude.{◌≡◌, ◌⊎◌, ℕ, ◌≤◌, Bool, true, false, List, [], ◌++◌, length, map, take, drop, Option, None, Some}
use Rattle.std.specs.Option.{option_map_or, option_and_then}
use Rattle.ccr_op.specs.declared.index_name.IndexName.{IndexName}
use Rattle.ccr_journal.specs.declared.replies.Reply.{Reply}
use Rattle.ccr_meta.specs.declared.index_meta.IndexMeta.{IndexMeta}
use Rattle.ccr_meta.specs.Names.{Names, index_at}
use Rattle.ccr_model.specs.Leaders.{Start}
use Rattle.ccr_model.specs.Settling.{Note, note_of}
use Rattle.ccr_script.specs.declared.commands.Command.{Command}
use Rattle.ccr_script.specs.declared.commands.Command.TheVariants as command
use Rattle.ccr_plans.specs.Planned.{Planned}
use Rattle.ccr_plans.specs.Forms.{number_of}
use Rattle.ccr_plans.specs.Plans.{plan_of}
use Rattle.ccr_plans.specs.NamesAfter.{names_after}
use Rattle.ccr_answers.specs.Answers.{text_for}
use Rattle.ccr_deeds.specs.Logs.{Log, new_log, state_of}
use Rattle.ccr_deeds.specs.Deeds.{AreDeeds, BeginDeeds}

pub record Scene : Type 0 where
  pub names : Names
  pub logs : List Log

-- the command that settles all worlds
abbrev pub is_settle : Command → Bool
is_settle command.Settle = true
is_settle _ = false

-- ---- what is read

-- the index of whose shards a command has to know something
abbrev pub index_read : Command → Option IndexName
index_read (command.Pause index) = Some index
index_read (command.Resume index) = Some index
index_read (command.Unfollow index) = Some index
index_read (command.Search index query sort from size copy) = Some index
index_read (command.Deliver index shard at copy keep) = Some index
index_read (command.Apply index shard write epoch) = Some index
index_read _ = None

-- what is read of each of these worlds, and of a follower there
abbrev pub notes_in : ℕ → List Log → List Note
notes_in f logs = map {A = Log} {B = Note} (λ log. note_of (state_of log) f) logs

-- what is read of the shards of an index
abbrev pub notes_of : List Log → IndexMeta → List Note
notes_of logs x = notes_in (number_of x) (take x.shards (drop x.first logs))

-- what is read for a command, before its first event
abbrev pub notes_for : Names → List Log → Command → List Note
notes_for names logs c = option_map_or (notes_of logs) (option_and_then (index_at names) (index_read c)) []

-- no more was read than the shards of the index
abbrev pub AreNotesOf : Names → Command → List Note → Type 0
AreNotesOf names c notes = (x : IndexMeta) → option_and_then (index_at names) (index_read c) ≡ Some x → length notes ≤ x.shards

abbrev pub planned : Scene → Command → Planned
planned s c = plan_of s.names (notes_for s.names s.logs c) c

-- ---- what is done

-- the logs, and those of new worlds
abbrev pub with_made : List Log → List Start → List Log
with_made logs made = logs ++ map new_log made

-- A command was done: the worlds that it makes are there, its deeds were done, the names are those after it, and the text is that of
-- its answer for the replies.
pub record Does (before : Scene) (c : Command) (after : Scene) (text : List ℕ) : Type 0 where
  pub told : List Reply
  pub done : AreDeeds (with_made before.logs (planned before c).made) (planned before c).deeds after.logs told
  pub names : after.names ≡ names_after before.names c told
  pub answer : text ≡ text_for (planned before c).answer told

-- of the worlds that a command makes the first were made
pub record MakesSome (before : List Log) (made : List Start) (after : List Log) : Type 0 where
  pub first : List Start
  pub others : List Start
  pub split : first ++ others ≡ made
  pub grown : after ≡ with_made before first

-- of a command none, a part or all was done: some of its worlds were made, or all, and a front of its deeds was done
abbrev pub Begins : Scene → Command → Scene → Type 0
Begins before c after =
    MakesSome before.logs (planned before c).made after.logs
    ⊎ BeginDeeds (with_made before.logs (planned before c).made) (planned before c).deeds after.logs
