-- The names after a command.
use Rattle.std.specs.Prelude.{ℕ, Bool, if◌then◌else◌, List, Option, is_some}
use Rattle.ccr_op.specs.declared.index_name.IndexName.{IndexName}
use Rattle.ccr_auto.specs.declared.follow.AutoFault.{AutoFault}
use Rattle.ccr_auto.specs.Follow.{FollowPattern}
use Rattle.ccr_journal.specs.declared.replies.Reply.{Reply}
use Rattle.ccr_meta.specs.declared.faults.MetaFault.{MetaFault}
use Rattle.ccr_meta.specs.Names.{Names, with_cluster, with_follower}
use Rattle.ccr_meta.specs.Guards.{first_refusal}
use Rattle.ccr_meta.specs.NameGuards.{cluster_guards, create_guards, follow_guards}
use Rattle.ccr_meta.specs.Created.{created}
use Rattle.ccr_meta.specs.Patterns.{with_pattern_put, with_pattern_deleted}
use Rattle.ccr_script.specs.declared.commands.Command.{Command}
use Rattle.ccr_script.specs.declared.commands.Command.TheVariants as command
use Rattle.ccr_plans.specs.Patterns.{cluster_guard, put_guards, put_faults, delete_faults, first_fault}

-- the names stay where the command is refused
abbrev pub unless_refused : List (Bool × MetaFault) → Names → Names → Names
unless_refused guards names next = if is_some (first_refusal guards) then names else next

abbrev pub unless_fault : List (Bool × AutoFault) → Names → Names → Names
unless_fault faults names next = if is_some (first_fault faults) then names else next

abbrev pub with_put : Names → List ℕ → FollowPattern → Names
with_put names cluster p = unless_refused (put_guards names cluster p.remote) names (unless_fault (put_faults names cluster p) names (with_pattern_put names cluster p))

abbrev pub with_deleted : Names → List ℕ → List ℕ → Names
with_deleted names cluster name =
    unless_refused (cluster_guard names cluster) names (unless_fault (delete_faults names cluster name) names (with_pattern_deleted names cluster name))

-- a few commands make names; what the deeds were answered changes none of them
abbrev pub names_after : Names → Command → List Reply → Names
names_after names (command.Cluster name) told = unless_refused (cluster_guards names name) names (with_cluster names name)
names_after names (command.Create index settings) told = unless_refused (create_guards names index settings) names (created names index settings)
names_after names (command.Follow index leader settings params) told =
    unless_refused (follow_guards names index leader settings) names (with_follower names index leader settings)
names_after names (command.AutoPut cluster name remote patterns exclude follow) told =
    with_put names cluster (record { name = name; remote = remote; patterns = patterns; exclude = exclude; follow = follow })
names_after names (command.AutoDelete cluster name) told = with_deleted names cluster name
names_after names _ told = names
