-- What each command comes to, by the names made so far and by what was read of the shards of the index that it names.
use Rattle.std.specs.Prelude.{ℕ, ◌+◌, Bool, false, List, [], ◌∷◌, map, Option, None, Some, unwrap_or}
use Rattle.ccr_op.specs.declared.index_name.IndexName.{IndexName}
use Rattle.ccr_query.specs.Queries.{Tree}
use Rattle.ccr_query.specs.declared.sorting.SortKey.{SortKey}
use Rattle.ccr_journal.specs.declared.sides.Side.TheVariants as side
use Rattle.ccr_journal.specs.declared.events.Event.{Event}
use Rattle.ccr_journal.specs.declared.events.Event.TheVariants as event
use Rattle.ccr_journal.specs.declared.requests.SearchRequest.{SearchRequest}
use Rattle.ccr_journal.specs.declared.requests.WriteRequest.{WriteRequest}
use Rattle.ccr_meta.specs.declared.index_meta.IndexMeta.{IndexMeta}
use Rattle.ccr_meta.specs.Names.{Names}
use Rattle.ccr_meta.specs.Guards.{write_guards, shard_guards, resync_guards, follower_guards, follower_shard_guards, pause_guards, resume_guards, unfollow_guards}
use Rattle.ccr_meta.specs.NameGuards.{cluster_guards, create_guards, follow_guards}
use Rattle.ccr_meta.specs.Routing.{route_of}
use Rattle.ccr_model.specs.Settling.{Note}
use Rattle.ccr_script.specs.declared.commands.Command.{Command}
use Rattle.ccr_script.specs.declared.commands.Command.TheVariants as command
use Rattle.ccr_deeds.specs.declared.deeds.Deed.TheVariants.{TakeAndApply, Settle}
use Rattle.ccr_answers.specs.declared.forms.Answer.TheVariants as answer
use Rattle.ccr_plans.specs.Planned.{Planned}
use Rattle.ccr_plans.specs.Forms.{does, first_refused, with_index, number_of, side_of, on_shard, in_shards, in_turn, phases_in, epoch_in, primary_in, primary_of}
use Rattle.ccr_plans.specs.Made.{follow_plan, creation}
use Rattle.ccr_plans.specs.Patterns.{cluster_guard, put_guards, put_faults, delete_faults, unless_faulty}
use Rattle.ccr_plans.specs.Clocks.{clock_deeds}

-- ---- plans

-- an event in each shard, whatever it is answered
abbrev pub all_shards : Event → IndexMeta → Planned
all_shards event x = does (in_shards event x) answer.Done

-- an event of a copy of a shard
abbrev pub on_copy : Names → IndexName → ℕ → (IndexMeta → Event) → Planned
on_copy names index shard happening = with_index names index (λ x. first_refused (shard_guards shard x) (on_shard shard (happening x) x))

-- an event of a leader's copy
abbrev pub on_leader : Names → IndexName → ℕ → Event → Planned
on_leader names index shard event = with_index names index (λ x. first_refused (resync_guards shard x) (on_shard shard event x))

-- an event of a follower shard
abbrev pub on_follower : Names → IndexName → ℕ → (IndexMeta → Event) → Planned
on_follower names index shard happening = with_index names index (λ x. first_refused (follower_shard_guards shard x) (on_shard shard (happening x) x))

-- a write goes to the shard of its routing, or of its id
abbrev pub write_plan : WriteRequest → IndexMeta → Planned
write_plan request x = on_shard (route_of request.id request.routing x.shards) (event.Write request) x

-- the copy that is named, and else the primary, is searched in each shard
abbrev pub search_event : IndexMeta → SearchRequest → Option ℕ → Note → Event
search_event x request copy note = event.Search (side_of x) (unwrap_or copy (primary_of (side_of x) note)) request

abbrev pub search_plan : List Note → SearchRequest → ℕ → ℕ → Option ℕ → IndexMeta → Planned
search_plan notes request from size copy x =
    does (in_turn x.first (map (search_event x request copy) notes)) (answer.Found request.sort from size)

-- under the epoch that is named, and else under that which is kept
abbrev pub apply_plan : List Note → ℕ → ℕ → Option ℕ → IndexMeta → Planned
apply_plan notes shard write epoch x =
    does (TakeAndApply (x.first + shard) (number_of x) (unwrap_or epoch (epoch_in notes shard)) write ∷ []) (answer.Told shard)

-- ---- the table

abbrev pub plan_of : Names → List Note → Command → Planned
plan_of names notes (command.Cluster name) = first_refused (cluster_guards names name) (does [] answer.Done)
plan_of names notes (command.Create index settings) = first_refused (create_guards names index settings) (creation names index settings)
plan_of names notes (command.Follow index leader settings params) = first_refused (follow_guards names index leader settings) (follow_plan names index leader settings params)
plan_of names notes (command.Pause index) = with_index names index (λ x. first_refused (pause_guards (phases_in notes) x) (all_shards (event.Pause (number_of x)) x))
plan_of names notes (command.Resume index) = with_index names index (λ x. first_refused (resume_guards (phases_in notes) x) (all_shards (event.Resume (number_of x)) x))
plan_of names notes (command.Unfollow index) = with_index names index (λ x. first_refused (unfollow_guards (phases_in notes) x) (all_shards (event.Unfollow (number_of x)) x))
plan_of names notes (command.AutoPut cluster name remote patterns exclude follow) =
    first_refused (put_guards names cluster remote)
    (unless_faulty (put_faults names cluster (record { name = name; remote = remote; patterns = patterns; exclude = exclude; follow = follow })))
plan_of names notes (command.AutoDelete cluster name) = first_refused (cluster_guard names cluster) (unless_faulty (delete_faults names cluster name))
plan_of names notes (command.Write index id source create expect routing) =
    with_index names index (λ x. first_refused (write_guards x)
    (write_plan (record { id = id; routing = routing; body = Some source; create = create; expect = expect }) x))
plan_of names notes (command.Delete index id expect routing) =
    with_index names index (λ x. first_refused (write_guards x)
    (write_plan (record { id = id; routing = routing; body = None; create = false; expect = expect }) x))
plan_of names notes (command.Search index query sort from size copy) =
    with_index names index (search_plan notes (record { query = query; sort = sort }) from size copy)
plan_of names notes (command.Status index) = with_index names index (λ x. does (in_shards (event.Status (side_of x)) x) answer.Statuses)
plan_of names notes command.Settle = does (Settle ∷ []) answer.Settled
plan_of names notes (command.Clock cluster now) = first_refused (cluster_guard names cluster) (does (clock_deeds names cluster now) answer.Expired)
plan_of names notes (command.Replicate index shard copy seq) = on_copy names index shard (λ x. event.Replicate (side_of x) copy seq)
plan_of names notes (command.Ack index shard copy) = on_copy names index shard (λ x. event.Ack (side_of x) copy)
plan_of names notes (command.Sync index shard copy) = on_copy names index shard (λ x. event.Sync (side_of x) copy)
plan_of names notes (command.Promote index shard copy) = on_copy names index shard (λ x. event.Promote (side_of x) copy)
plan_of names notes (command.Resync index shard copy) = on_leader names index shard (event.Resync copy)
plan_of names notes (command.FailCopy index shard copy) = on_copy names index shard (λ x. event.FailCopy (side_of x) copy)
plan_of names notes (command.ForcePromote index shard copy) = on_leader names index shard (event.ForcePromote copy)
plan_of names notes (command.Flush index shard copy) = on_copy names index shard (λ x. event.Flush (side_of x) copy)
plan_of names notes (command.Merge index shard copy) = on_copy names index shard (λ x. event.Merge (side_of x) copy)
plan_of names notes (command.AddCopy index shard) = on_copy names index shard (λ x. event.AddCopy (side_of x))
plan_of names notes (command.Deliver index shard at copy keep) = on_copy names index shard (λ x. event.Deliver at (unwrap_or copy (primary_in notes shard)) keep)
plan_of names notes (command.Drop index shard at) = on_copy names index shard (λ x. event.Drop at)
plan_of names notes (command.Wake index shard at) = on_follower names index shard (λ x. event.Wake (number_of x) at)
plan_of names notes (command.Lose index shard at) = on_follower names index shard (λ x. event.Lose (number_of x) at)
plan_of names notes (command.LoseWrite index shard write) = on_follower names index shard (λ x. event.LoseWrite (number_of x) write)
plan_of names notes (command.Written index shard write) = on_follower names index shard (λ x. event.Written (number_of x) write)
plan_of names notes (command.Apply index shard write epoch) = with_index names index (λ x. first_refused (follower_shard_guards shard x) (apply_plan notes shard write epoch x))
plan_of names notes (command.Renew index shard) = on_follower names index shard (λ x. event.Renew (number_of x))
plan_of names notes (command.Restart index shard) = on_follower names index shard (λ x. event.Restart (number_of x))
