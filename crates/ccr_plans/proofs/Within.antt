-- What the table of plans promises of each command, a line each: its deeds are in worlds that are there or that it makes, the names count these
-- worlds, and what a search asks for is told in its order.
use Rattle.std.proofs.Common.{◌≡◌, ℕ, zero, suc, ◌+◌, ◌<◌, ◌≤◌, Bool, true, false, List, [], ◌∷◌, ◌++◌, length, map, take, drop, Option, Some, None, refl, sym, ap, subst, ◌∙◌, arith}
use Rattle.std.specs.Prelude.{◌%◌, IfSome, flat_map, if◌then◌else◌, is_some, option_and_then, unwrap_or}
use Rattle.std.specs.List.{AllByRecursion, range_with_len}
use Rattle.std.specs.Option.{option_map_or}
use Rattle.ccr_op.specs.declared.index_name.IndexName.{IndexName}
use Rattle.ccr_auto.specs.declared.follow.AutoFault.{AutoFault}
use Rattle.ccr_auto.specs.Follow.{FollowPattern, with_pattern, without}
use Rattle.ccr_journal.specs.declared.params.ParamValues.{ParamValues}
use Rattle.ccr_journal.specs.declared.sides.Side.{Side}
use Rattle.ccr_journal.specs.declared.events.Event.{Event}
use Rattle.ccr_journal.specs.declared.events.Event.TheVariants as event
use Rattle.ccr_journal.specs.declared.replies.Reply.{Reply}
use Rattle.ccr_journal.specs.declared.replies.Reply.TheVariants as reply
use Rattle.ccr_journal.specs.declared.requests.SearchRequest.{SearchRequest}
use Rattle.ccr_journal.specs.declared.requests.WriteRequest.{WriteRequest}
use Rattle.ccr_meta.specs.declared.creating.Decided.{Decided}
use Rattle.ccr_meta.specs.declared.faults.MetaFault.{MetaFault}
use Rattle.ccr_meta.specs.declared.faults.MetaFault.TheVariants.{NoIndex}
use Rattle.ccr_meta.specs.declared.index_meta.IndexMeta.{IndexMeta}
use Rattle.ccr_meta.specs.declared.settings.Settings.{Settings}
use Rattle.ccr_meta.specs.Names.{AreIn, IsIn, Names, followers_of, index_at, new_follower, patterns_at, shards_in, with_cluster, with_follower, with_index as with_index_made, with_leader}
use Rattle.ccr_meta.specs.Guards.{first_refusal, follower_shard_guards, pause_guards, resume_guards, resync_guards, shard_guards, unfollow_guards, write_guards}
use Rattle.ccr_meta.specs.NameGuards.{cluster_guards, create_guards, find_guards, follow_guards}
use Rattle.ccr_meta.specs.Routing.{fnv_1a, route_of}
use Rattle.ccr_meta.specs.Created.{after, created, created_reports, decided, follower_of, names_after as names_decided, no_settings}
use Rattle.ccr_meta.specs.Patterns.{with_pattern_deleted, with_pattern_put, with_patterns}
use Rattle.ccr_meta.proofs.Limits.{IsIn-at}
use Rattle.ccr_model.specs.Leaders.{Start}
use Rattle.ccr_model.specs.Settling.{Note, note_of}
use Rattle.ccr_script.specs.declared.commands.Command.{Command}
use Rattle.ccr_script.specs.declared.commands.Command.TheVariants as command
use Rattle.ccr_script.specs.Settings.{params_of}
use Rattle.ccr_deeds.specs.declared.deeds.Deed.{Deed}
use Rattle.ccr_deeds.specs.declared.deeds.Deed.TheVariants.{Happens, TakeAndApply, Settle}
use Rattle.ccr_deeds.specs.Deeds.{AreOrderedDeeds, IsOrderedDeed, IsWithin}
use Rattle.ccr_deeds.specs.Logs.{Log, state_of}
use Rattle.ccr_answers.specs.declared.forms.Answer.{Answer}
use Rattle.ccr_answers.specs.declared.forms.Answer.TheVariants as answer
use Rattle.ccr_answers.specs.Answers.{AreOrderedFor}
use Rattle.ccr_answers.specs.Joined.{AreOrderedBy, IsOrderedBy}
use Rattle.ccr_plans.specs.Planned.{Planned}
use Rattle.ccr_plans.specs.Forms.{does, first_refused, in_shards, in_turn, in_worlds, number_of, on_shard, phases_in, primary_in, primary_of, refused, side_of, with_index}
use Rattle.ccr_plans.specs.Made.{creation, follow_deeds, follow_plan, followed, followed_deeds, lease_id, made_index, starts_from}
use Rattle.ccr_plans.specs.Patterns.{cluster_guard, delete_faults, first_fault, pattern_refused, put_faults, put_guards, unless_faulty}
use Rattle.ccr_plans.specs.Clocks.{clock_deeds, clock_of_follower, clock_of_leader, clocks_of_followers, follower_clocks, is_follower_in, is_leader_in, leader_clocks}
use Rattle.ccr_plans.specs.Plans.{all_shards, apply_plan, on_copy, on_follower, on_leader, plan_of, search_event, search_plan, write_plan}
use Rattle.ccr_plans.specs.NamesAfter.{names_after, unless_fault, unless_refused, with_deleted, with_put}
use Rattle.ccr_plans.specs.Scenes.{AreNotesOf, index_read, is_settle, notes_for, notes_in, notes_of}
use Rattle.ccr_plans.proofs.Tables.{follower-there, resync-there, shard-there}
use Rattle.ccr_plans.proofs.Bounds.{LieIn, indices_lie}

-- ---- a claim on a plan, by its forms

option_has : (P : Planned → Type 0) (o : Option MetaFault) (plan : Planned) → ((why : MetaFault) → P (refused why)) → (o ≡ None → P plan) → P (option_map_or refused o plan)
option_has P None plan bad fine = fine refl
option_has P (Some why) plan bad fine = bad why

-- what holds of each refusal, and of the plan where nothing is refused, holds of both together
pub guarded_has : (P : Planned → Type 0) (guards : List (Bool × MetaFault)) (plan : Planned) → ((why : MetaFault) → P (refused why)) → (first_refusal guards ≡ None → P plan)
    → P (first_refused guards plan)
guarded_has P guards plan bad fine = option_has P (first_refusal guards) plan bad fine

index_has : (P : Planned → Type 0) (o : Option IndexMeta) (plan : IndexMeta → Planned) → P (refused NoIndex) → ((x : IndexMeta) → o ≡ Some x → P (plan x))
    → P (option_map_or plan o (refused NoIndex))
index_has P None plan bad fine = bad
index_has P (Some x) plan bad fine = fine x refl

-- of the plan for an index, whichever it is
pub with_index_has : (P : Planned → Type 0) (names : Names) (index : IndexName) (plan : IndexMeta → Planned) → ((why : MetaFault) → P (refused why))
    → ((x : IndexMeta) → index_at names index ≡ Some x → P (plan x)) → P (with_index names index plan)
with_index_has P names index plan bad fine =
    guarded_has P (find_guards names index) (option_map_or plan (index_at names index) (refused NoIndex)) bad (λ ok. index_has P (index_at names index) plan (bad NoIndex) fine)

fault_has : (P : Planned → Type 0) (o : Option AutoFault) → ((why : AutoFault) → P (pattern_refused why)) → P (does [] answer.Done) → P (option_map_or pattern_refused o (does [] answer.Done))
fault_has P None bad fine = fine
fault_has P (Some why) bad fine = bad why

-- ---- deeds in worlds that are there

worlds_within : (e : Event) (w n most : ℕ) → w + n ≤ most → AllByRecursion (IsWithin most) (in_worlds e w n)
worlds_within e w zero most le = tt
worlds_within e w (suc n) most le = (omega arith, worlds_within e (w + 1) n most (omega arith))

turn_within : (w : ℕ) (events : List Event) (most : ℕ) → w + length events ≤ most → AllByRecursion (IsWithin most) (in_turn w events)
turn_within w [] most le = tt
turn_within w (e ∷ events) most le = (omega arith, turn_within (w + 1) events most (omega arith))

leaders_within : (now w n most : ℕ) → w + n ≤ most → AllByRecursion (IsWithin most) (leader_clocks now w n)
leaders_within now w zero most le = tt
leaders_within now w (suc n) most le = (omega arith, (omega arith, (omega arith, leaders_within now (w + 1) n most (omega arith))))

followers_within : (now f w n most : ℕ) → w + n ≤ most → AllByRecursion (IsWithin most) (follower_clocks now f w n)
followers_within now f w zero most le = tt
followers_within now f w (suc n) most le = (omega arith, (omega arith, followers_within now f (w + 1) n most (omega arith)))

all_append : {X : Type 0} (P : X → Type 0) (xs ys : List X) → AllByRecursion P xs → AllByRecursion P ys → AllByRecursion P (xs ++ ys)
all_append P [] ys all more = more
all_append P (x ∷ xs) ys all more = (all.0, all_append P xs ys all.1 more)

all_flat : {X Y : Type 0} (P : Y → Type 0) (f : X → List Y) (xs : List X) → ((x : X) → AllByRecursion P (f x)) → AllByRecursion P (flat_map f xs)
all_flat P f [] each = tt
all_flat P f (x ∷ xs) each = all_append P (f x) (flat_map f xs) (each x) (all_flat P f xs each)

map_length : {X Y : Type 0} (f : X → Y) (xs : List X) → length (map f xs) ≡ length xs
map_length f [] = refl
map_length f (x ∷ xs) = ap suc (map_length f xs)

starts_length : (index : IndexName) (x : IndexMeta) (shard n : ℕ) → length (starts_from index x shard n) ≡ n
starts_length index x shard zero = refl
starts_length index x shard (suc n) = ap suc (starts_length index x (shard + 1) n)

-- ---- each form of deeds

-- the deeds of a plan are in worlds that are there, or that it makes
abbrev Fits : Names → Planned → Type 0
Fits names plan = AllByRecursion (IsWithin (names.worlds + length plan.made)) plan.deeds

no_deeds : (names : Names) (told : Answer) → Fits names (does [] told)
no_deeds names told = tt

one_fits : (names : Names) (x : IndexMeta) (shard : ℕ) (e : Event) → IsIn names.worlds x → shard < x.shards → Fits names (on_shard shard e x)
one_fits names x shard e within low = (let there : x.first + x.shards ≤ names.worlds = within.there in omega arith, tt)

shards_fit : (names : Names) (x : IndexMeta) (e : Event) (told : Answer) → IsIn names.worlds x → Fits names (does (in_shards e x) told)
shards_fit names x e told within =
    worlds_within e x.first x.shards (names.worlds + 0) (let there : x.first + x.shards ≤ names.worlds = within.there in omega arith)

on_copy_fits : (names : Names) (index : IndexName) (shard : ℕ) (happening : IndexMeta → Event) → AreIn names → Fits names (on_copy names index shard happening)
on_copy_fits names index shard happening are =
    with_index_has (Fits names) names index (λ x. first_refused (shard_guards shard x) (on_shard shard (happening x) x)) (λ why. tt) (λ x at.
    guarded_has (Fits names) (shard_guards shard x) (on_shard shard (happening x) x) (λ why. tt) (λ ok.
    one_fits names x shard (happening x) (IsIn-at names index x are at) (shard-there shard x ok)))

on_leader_fits : (names : Names) (index : IndexName) (shard : ℕ) (e : Event) → AreIn names → Fits names (on_leader names index shard e)
on_leader_fits names index shard e are =
    with_index_has (Fits names) names index (λ x. first_refused (resync_guards shard x) (on_shard shard e x)) (λ why. tt) (λ x at.
    guarded_has (Fits names) (resync_guards shard x) (on_shard shard e x) (λ why. tt) (λ ok.
    one_fits names x shard e (IsIn-at names index x are at) (resync-there shard x ok)))

on_follower_fits : (names : Names) (index : IndexName) (shard : ℕ) (happening : IndexMeta → Event) → AreIn names → Fits names (on_follower names index shard happening)
on_follower_fits names index shard happening are =
    with_index_has (Fits names) names index (λ x. first_refused (follower_shard_guards shard x) (on_shard shard (happening x) x)) (λ why. tt) (λ x at.
    guarded_has (Fits names) (follower_shard_guards shard x) (on_shard shard (happening x) x) (λ why. tt) (λ ok.
    one_fits names x shard (happening x) (IsIn-at names index x are at) (follower-there shard x ok)))

-- an event in each shard, behind guards
guarded_shards_fit : (names : Names) (index : IndexName) (guards : IndexMeta → List (Bool × MetaFault)) (happening : IndexMeta → Event) → AreIn names
    → Fits names (with_index names index (λ x. first_refused (guards x) (all_shards (happening x) x)))
guarded_shards_fit names index guards happening are =
    with_index_has (Fits names) names index (λ x. first_refused (guards x) (all_shards (happening x) x)) (λ why. tt) (λ x at.
    guarded_has (Fits names) (guards x) (all_shards (happening x) x) (λ why. tt) (λ ok. shards_fit names x (happening x) answer.Done (IsIn-at names index x are at)))

remainder-low : (n m : ℕ) → 1 ≤ m → n % m < m
remainder-low n m some = omega arith

write_fits : (names : Names) (index : IndexName) (request : WriteRequest) → AreIn names
    → Fits names (with_index names index (λ x. first_refused (write_guards x) (write_plan request x)))
write_fits names index request are =
    with_index_has (Fits names) names index (λ x. first_refused (write_guards x) (write_plan request x)) (λ why. tt) (λ x at.
    guarded_has (Fits names) (write_guards x) (write_plan request x) (λ why. tt) (λ ok.
    let within = IsIn-at names index x are at in
    one_fits names x (route_of request.id request.routing x.shards) (event.Write request) within
    (remainder-low (fnv_1a (unwrap_or request.routing request.id)) x.shards within.some)))

search_fits : (names : Names) (notes : List Note) (index : IndexName) (request : SearchRequest) (from size : ℕ) (copy : Option ℕ) → AreIn names
    → ((x : IndexMeta) → index_at names index ≡ Some x → length notes ≤ x.shards) → Fits names (with_index names index (search_plan notes request from size copy))
search_fits names notes index request from size copy are fit =
    with_index_has (Fits names) names index (search_plan notes request from size copy) (λ why. tt) (λ x at.
    let within = IsIn-at names index x are at in
    let there : x.first + x.shards ≤ names.worlds = within.there in
    let few = fit x at in
    let same = map_length (search_event x request copy) notes in
    turn_within x.first (map (search_event x request copy) notes) (names.worlds + 0) (omega arith))

apply_fits : (names : Names) (notes : List Note) (index : IndexName) (shard write : ℕ) (epoch : Option ℕ) → AreIn names
    → Fits names (with_index names index (λ x. first_refused (follower_shard_guards shard x) (apply_plan notes shard write epoch x)))
apply_fits names notes index shard write epoch are =
    with_index_has (Fits names) names index (λ x. first_refused (follower_shard_guards shard x) (apply_plan notes shard write epoch x)) (λ why. tt) (λ x at.
    guarded_has (Fits names) (follower_shard_guards shard x) (apply_plan notes shard write epoch x) (λ why. tt) (λ ok.
    let within = IsIn-at names index x are at in
    let there : x.first + x.shards ≤ names.worlds = within.there in
    let low = follower-there shard x ok in
    (omega arith, tt)))

follow_fits : (names : Names) (index leader : IndexName) (s : Settings) (params : ParamValues) → AreIn names → Fits names (follow_plan names index leader s params)
follow_fits names index leader s params are =
    with_index_has (Fits names) names leader (λ x. does (follow_deeds index leader params (unwrap_or s.replicas x.replicas) x) answer.Done) (λ why. tt) (λ x at.
    shards_fit names x (event.Follow params (unwrap_or s.replicas x.replicas + 1) (lease_id index leader)) answer.Done (IsIn-at names leader x are at))

-- ---- a new index

followed_within : (leader : IndexName) (x : IndexMeta) (most : ℕ) (o : Option IndexName) → x.first + x.shards ≤ most
    → AllByRecursion (IsWithin most) (option_map_or (λ index. follow_deeds index leader (params_of None) x.replicas x) o [])
followed_within leader x most None le = tt
followed_within leader x most (Some index) le = worlds_within (event.Follow (params_of None) (x.replicas + 1) (lease_id index leader)) x.first x.shards most le

creation_fits : (names : Names) (index : IndexName) (s : Settings) → Fits names (creation names index s)
creation_fits names index s =
    let x : IndexMeta = made_index names index s in
    let most : ℕ = names.worlds + length (starts_from index x 0 x.shards) in
    let same = starts_length index x 0 x.shards in
    all_flat (IsWithin most) (followed_deeds index x) (created_reports names index s) (λ d. followed_within index x most (followed d) (omega arith))

-- ---- the clocks of a cluster

clocks_within : (worlds : ℕ) (f : IndexName × IndexMeta → List Deed) (indices : List (IndexName × IndexMeta)) → LieIn worlds indices
    → ((at : IndexName × IndexMeta) → at.1.first + at.1.shards ≤ worlds → AllByRecursion (IsWithin (worlds + 0)) (f at)) → AllByRecursion (IsWithin (worlds + 0)) (flat_map f indices)
clocks_within worlds f [] lie each = tt
clocks_within worlds f (at ∷ indices) lie each =
    all_append (IsWithin (worlds + 0)) (f at) (flat_map f indices) (each at lie.0) (clocks_within worlds f indices lie.1 each)

all_cond : (P : Deed → Type 0) (b : Bool) (deeds : List Deed) → AllByRecursion P deeds → AllByRecursion P (if b then deeds else [])
all_cond P true deeds all = all
all_cond P false deeds all = tt

clock_fits : (names : Names) (cluster : List ℕ) (now : ℕ) → AreIn names → Fits names (does (clock_deeds names cluster now) answer.Expired)
clock_fits names cluster now are =
    all_append (IsWithin (names.worlds + 0)) (flat_map (clock_of_leader cluster now) names.indices) (flat_map (clocks_of_followers names cluster now) (range_with_len 0 8))
    (clocks_within names.worlds (clock_of_leader cluster now) names.indices (indices_lie names are) (λ at le.
    all_cond (IsWithin (names.worlds + 0)) (is_leader_in cluster at) (leader_clocks now at.1.first at.1.shards)
    (leaders_within now at.1.first at.1.shards (names.worlds + 0) (omega arith))))
    (all_flat (IsWithin (names.worlds + 0)) (clocks_of_followers names cluster now) (range_with_len 0 8) (λ f.
    clocks_within names.worlds (clock_of_follower cluster now f) names.indices (indices_lie names are) (λ at le.
    all_cond (IsWithin (names.worlds + 0)) (is_follower_in cluster f at) (follower_clocks now f at.1.first at.1.shards)
    (followers_within now f at.1.first at.1.shards (names.worlds + 0) (omega arith)))))

-- ---- the table: each deed is in a world that is there once its own are made

pub plan_within : (names : Names) (notes : List Note) (c : Command) → AreIn names → AreNotesOf names c notes → is_settle c ≡ false
    → AllByRecursion (IsWithin (names.worlds + length (plan_of names notes c).made)) (plan_of names notes c).deeds
plan_within names notes (command.Cluster name) are fit other =
    guarded_has (Fits names) (cluster_guards names name) (does [] answer.Done) (λ why. tt) (λ ok. tt)
plan_within names notes (command.Create index settings) are fit other =
    guarded_has (Fits names) (create_guards names index settings) (creation names index settings) (λ why. tt) (λ ok. creation_fits names index settings)
plan_within names notes (command.Follow index leader settings params) are fit other =
    guarded_has (Fits names) (follow_guards names index leader settings) (follow_plan names index leader settings params) (λ why. tt)
    (λ ok. follow_fits names index leader settings params are)
plan_within names notes (command.Pause index) are fit other = guarded_shards_fit names index (pause_guards (phases_in notes)) (λ x. event.Pause (number_of x)) are
plan_within names notes (command.Resume index) are fit other = guarded_shards_fit names index (resume_guards (phases_in notes)) (λ x. event.Resume (number_of x)) are
plan_within names notes (command.Unfollow index) are fit other = guarded_shards_fit names index (unfollow_guards (phases_in notes)) (λ x. event.Unfollow (number_of x)) are
plan_within names notes (command.AutoPut cluster name remote patterns exclude follow) are fit other =
    let faults : List (Bool × AutoFault) = put_faults names cluster (record { name = name; remote = remote; patterns = patterns; exclude = exclude; follow = follow }) in
    guarded_has (Fits names) (put_guards names cluster remote) (unless_faulty faults) (λ why. tt) (λ ok. fault_has (Fits names) (first_fault faults) (λ why. tt) tt)
plan_within names notes (command.AutoDelete cluster name) are fit other =
    guarded_has (Fits names) (cluster_guard names cluster) (unless_faulty (delete_faults names cluster name)) (λ why. tt)
    (λ ok. fault_has (Fits names) (first_fault (delete_faults names cluster name)) (λ why. tt) tt)
plan_within names notes (command.Write index id source create expect routing) are fit other =
    write_fits names index (record { id = id; routing = routing; body = Some source; create = create; expect = expect }) are
plan_within names notes (command.Delete index id expect routing) are fit other =
    write_fits names index (record { id = id; routing = routing; body = None; create = false; expect = expect }) are
plan_within names notes (command.Search index query sort from size copy) are fit other =
    search_fits names notes index (record { query = query; sort = sort }) from size copy are fit
plan_within names notes (command.Status index) are fit other =
    with_index_has (Fits names) names index (λ x. does (in_shards (event.Status (side_of x)) x) answer.Statuses) (λ why. tt)
    (λ x at. shards_fit names x (event.Status (side_of x)) answer.Statuses (IsIn-at names index x are at))
plan_within names notes command.Settle are fit other = absurd (let e : true ≡ false = other in cc)
plan_within names notes (command.Clock cluster now) are fit other =
    guarded_has (Fits names) (cluster_guard names cluster) (does (clock_deeds names cluster now) answer.Expired) (λ why. tt) (λ ok. clock_fits names cluster now are)
plan_within names notes (command.Replicate index shard copy seq) are fit other = on_copy_fits names index shard (λ x. event.Replicate (side_of x) copy seq) are
plan_within names notes (command.Ack index shard copy) are fit other = on_copy_fits names index shard (λ x. event.Ack (side_of x) copy) are
plan_within names notes (command.Sync index shard copy) are fit other = on_copy_fits names index shard (λ x. event.Sync (side_of x) copy) are
plan_within names notes (command.Promote index shard copy) are fit other = on_copy_fits names index shard (λ x. event.Promote (side_of x) copy) are
plan_within names notes (command.Resync index shard copy) are fit other = on_leader_fits names index shard (event.Resync copy) are
plan_within names notes (command.FailCopy index shard copy) are fit other = on_copy_fits names index shard (λ x. event.FailCopy (side_of x) copy) are
plan_within names notes (command.ForcePromote index shard copy) are fit other = on_leader_fits names index shard (event.ForcePromote copy) are
plan_within names notes (command.Flush index shard copy) are fit other = on_copy_fits names index shard (λ x. event.Flush (side_of x) copy) are
plan_within names notes (command.Merge index shard copy) are fit other = on_copy_fits names index shard (λ x. event.Merge (side_of x) copy) are
plan_within names notes (command.AddCopy index shard) are fit other = on_copy_fits names index shard (λ x. event.AddCopy (side_of x)) are
plan_within names notes (command.Deliver index shard at copy keep) are fit other =
    on_copy_fits names index shard (λ x. event.Deliver at (unwrap_or copy (primary_in notes shard)) keep) are
plan_within names notes (command.Drop index shard at) are fit other = on_copy_fits names index shard (λ x. event.Drop at) are
plan_within names notes (command.Wake index shard at) are fit other = on_follower_fits names index shard (λ x. event.Wake (number_of x) at) are
plan_within names notes (command.Lose index shard at) are fit other = on_follower_fits names index shard (λ x. event.Lose (number_of x) at) are
plan_within names notes (command.LoseWrite index shard write) are fit other = on_follower_fits names index shard (λ x. event.LoseWrite (number_of x) write) are
plan_within names notes (command.Written index shard write) are fit other = on_follower_fits names index shard (λ x. event.Written (number_of x) write) are
plan_within names notes (command.Apply index shard write epoch) are fit other = apply_fits names notes index shard write epoch are
plan_within names notes (command.Renew index shard) are fit other = on_follower_fits names index shard (λ x. event.Renew (number_of x)) are
plan_within names notes (command.Restart index shard) are fit other = on_follower_fits names index shard (λ x. event.Restart (number_of x)) are

-- ---- the names count the worlds that are made

maybe_worlds : {X : Type 0} (next : X → Names) (names : Names) (o : Option X) → ((x : X) → (next x).worlds ≡ names.worlds) → (option_map_or next o names).worlds ≡ names.worlds
maybe_worlds next names None each = refl
maybe_worlds next names (Some x) each = each x

follower_worlds : (names : Names) (index leader : IndexName) (s : Settings) → (with_follower names index leader s).worlds ≡ names.worlds
follower_worlds names index leader s =
    maybe_worlds (λ (found : IndexMeta). with_index_made names index (new_follower (followers_of names leader) index leader found s)) names (index_at names leader) (λ x. refl)

decided_worlds : (leader : IndexName) (names : Names) (ds : List Decided) → (names_decided leader names ds).worlds ≡ names.worlds
decided_worlds leader names [] = refl
decided_worlds leader names (d ∷ ds) =
    decided_worlds leader (after leader names d) ds
    ∙ maybe_worlds (λ (index : IndexName). with_follower names index leader no_settings) names (follower_of leader names d) (λ index. follower_worlds names index leader no_settings)

-- what holds of the names as they were beside each refusal, and of the next ones beside the plan, holds of both together
both_have : (P : Names → Planned → Type 0) (o : Option MetaFault) (names next : Names) (plan : Planned) → ((why : MetaFault) → P names (refused why)) → P next plan
    → P (if is_some o then names else next) (option_map_or refused o plan)
both_have P None names next plan bad fine = fine
both_have P (Some why) names next plan bad fine = bad why

-- the names count the worlds of a plan
abbrev Counts : ℕ → Names → Planned → Type 0
Counts worlds next plan = next.worlds ≡ worlds + length plan.made

same_count : (worlds : ℕ) (next : Names) (plan : Planned) → length plan.made ≡ 0 → next.worlds ≡ worlds → Counts worlds next plan
same_count worlds next plan none same = omega arith

-- a plan makes no world
abbrev MakesNone : Planned → Type 0
MakesNone plan = length plan.made ≡ 0

unmade : (names : Names) (plan : Planned) → MakesNone plan → Counts names.worlds names plan
unmade names plan none = same_count names.worlds names plan none refl

on_copy_none : (names : Names) (index : IndexName) (shard : ℕ) (happening : IndexMeta → Event) → MakesNone (on_copy names index shard happening)
on_copy_none names index shard happening =
    with_index_has MakesNone names index (λ x. first_refused (shard_guards shard x) (on_shard shard (happening x) x)) (λ why. refl) (λ x at.
    guarded_has MakesNone (shard_guards shard x) (on_shard shard (happening x) x) (λ why. refl) (λ ok. refl))

on_leader_none : (names : Names) (index : IndexName) (shard : ℕ) (e : Event) → MakesNone (on_leader names index shard e)
on_leader_none names index shard e =
    with_index_has MakesNone names index (λ x. first_refused (resync_guards shard x) (on_shard shard e x)) (λ why. refl) (λ x at.
    guarded_has MakesNone (resync_guards shard x) (on_shard shard e x) (λ why. refl) (λ ok. refl))

on_follower_none : (names : Names) (index : IndexName) (shard : ℕ) (happening : IndexMeta → Event) → MakesNone (on_follower names index shard happening)
on_follower_none names index shard happening =
    with_index_has MakesNone names index (λ x. first_refused (follower_shard_guards shard x) (on_shard shard (happening x) x)) (λ why. refl) (λ x at.
    guarded_has MakesNone (follower_shard_guards shard x) (on_shard shard (happening x) x) (λ why. refl) (λ ok. refl))

guarded_none : (names : Names) (index : IndexName) (guards : IndexMeta → List (Bool × MetaFault)) (plan : IndexMeta → Planned) → ((x : IndexMeta) → MakesNone (plan x))
    → MakesNone (with_index names index (λ x. first_refused (guards x) (plan x)))
guarded_none names index guards plan none =
    with_index_has MakesNone names index (λ x. first_refused (guards x) (plan x)) (λ why. refl) (λ x at.
    guarded_has MakesNone (guards x) (plan x) (λ why. refl) (λ ok. none x))

follow_none : (names : Names) (index leader : IndexName) (s : Settings) (params : ParamValues) → MakesNone (follow_plan names index leader s params)
follow_none names index leader s params =
    with_index_has MakesNone names leader (λ x. does (follow_deeds index leader params (unwrap_or s.replicas x.replicas) x) answer.Done) (λ why. refl) (λ x at. refl)

unless_faulty_none : (faults : List (Bool × AutoFault)) → MakesNone (unless_faulty faults)
unless_faulty_none faults = fault_has MakesNone (first_fault faults) (λ why. refl) refl

unless_fault_worlds : (names next : Names) (o : Option AutoFault) → next.worlds ≡ names.worlds → (if is_some o then names else next).worlds ≡ names.worlds
unless_fault_worlds names next None same = same
unless_fault_worlds names next (Some why) same = refl

put_worlds : (names : Names) (cluster : List ℕ) (p : FollowPattern) → (with_pattern_put names cluster p).worlds ≡ names.worlds
put_worlds names cluster p = maybe_worlds (λ (patterns : List FollowPattern). with_patterns names cluster (with_pattern p patterns)) names (patterns_at names cluster) (λ patterns. refl)

deleted_worlds : (names : Names) (cluster name : List ℕ) → (with_pattern_deleted names cluster name).worlds ≡ names.worlds
deleted_worlds names cluster name = maybe_worlds (λ (patterns : List FollowPattern). with_patterns names cluster (without name patterns)) names (patterns_at names cluster) (λ patterns. refl)

pub worlds_after : (names : Names) (notes : List Note) (c : Command) (told : List Reply) → (names_after names c told).worlds ≡ names.worlds + length (plan_of names notes c).made
worlds_after names notes (command.Cluster name) told =
    both_have (Counts names.worlds) (first_refusal (cluster_guards names name)) names (with_cluster names name) (does [] answer.Done) (λ why. unmade names (refused why) refl)
    (same_count names.worlds (with_cluster names name) (does [] answer.Done) refl refl)
worlds_after names notes (command.Create index settings) told =
    both_have (Counts names.worlds) (first_refusal (create_guards names index settings)) names (created names index settings) (creation names index settings) (λ why. unmade names (refused why) refl)
    (let same : (created names index settings).worlds ≡ names.worlds + shards_in settings = decided_worlds index (with_leader names index settings) (decided index names.clusters) in
    let made : length (creation names index settings).made ≡ shards_in settings = starts_length index (made_index names index settings) 0 (shards_in settings) in
    same ∙ ap (λ n. names.worlds + n) (sym made))
worlds_after names notes (command.Follow index leader settings params) told =
    both_have (Counts names.worlds) (first_refusal (follow_guards names index leader settings)) names (with_follower names index leader settings) (follow_plan names index leader settings params)
    (λ why. unmade names (refused why) refl)
    (same_count names.worlds (with_follower names index leader settings) (follow_plan names index leader settings params) (follow_none names index leader settings params)
    (follower_worlds names index leader settings))
worlds_after names notes (command.AutoPut cluster name remote patterns exclude follow) told =
    let p : FollowPattern = record { name = name; remote = remote; patterns = patterns; exclude = exclude; follow = follow } in
    both_have (Counts names.worlds) (first_refusal (put_guards names cluster remote)) names (unless_fault (put_faults names cluster p) names (with_pattern_put names cluster p))
    (unless_faulty (put_faults names cluster p)) (λ why. unmade names (refused why) refl)
    (same_count names.worlds (unless_fault (put_faults names cluster p) names (with_pattern_put names cluster p)) (unless_faulty (put_faults names cluster p))
    (unless_faulty_none (put_faults names cluster p))
    (unless_fault_worlds names (with_pattern_put names cluster p) (first_fault (put_faults names cluster p)) (put_worlds names cluster p)))
worlds_after names notes (command.AutoDelete cluster name) told =
    both_have (Counts names.worlds) (first_refusal (cluster_guard names cluster)) names (unless_fault (delete_faults names cluster name) names (with_pattern_deleted names cluster name))
    (unless_faulty (delete_faults names cluster name)) (λ why. unmade names (refused why) refl)
    (same_count names.worlds (unless_fault (delete_faults names cluster name) names (with_pattern_deleted names cluster name)) (unless_faulty (delete_faults names cluster name))
    (unless_faulty_none (delete_faults names cluster name))
    (unless_fault_worlds names (with_pattern_deleted names cluster name) (first_fault (delete_faults names cluster name)) (deleted_worlds names cluster name)))
worlds_after names notes (command.Pause index) told = unmade names (plan_of names notes (command.Pause index)) (guarded_none names index (pause_guards (phases_in notes)) (λ x. all_shards (event.Pause (number_of x)) x) (λ x. refl))
worlds_after names notes (command.Resume index) told = unmade names (plan_of names notes (command.Resume index)) (guarded_none names index (resume_guards (phases_in notes)) (λ x. all_shards (event.Resume (number_of x)) x) (λ x. refl))
worlds_after names notes (command.Unfollow index) told = unmade names (plan_of names notes (command.Unfollow index)) (guarded_none names index (unfollow_guards (phases_in notes)) (λ x. all_shards (event.Unfollow (number_of x)) x) (λ x. refl))
worlds_after names notes (command.Write index id source create expect routing) told = unmade names (plan_of names notes (command.Write index id source create expect routing)) (guarded_none names index write_guards (write_plan (record { id = id; routing = routing; body = Some source; create = create; expect = expect })) (λ x. refl))
worlds_after names notes (command.Delete index id expect routing) told = unmade names (plan_of names notes (command.Delete index id expect routing)) (guarded_none names index write_guards (write_plan (record { id = id; routing = routing; body = None; create = false; expect = expect })) (λ x. refl))
worlds_after names notes (command.Search index query sort from size copy) told = unmade names (plan_of names notes (command.Search index query sort from size copy)) (with_index_has MakesNone names index (search_plan notes (record { query = query; sort = sort }) from size copy) (λ why. refl) (λ x at. refl))
worlds_after names notes (command.Status index) told = unmade names (plan_of names notes (command.Status index)) (with_index_has MakesNone names index (λ x. does (in_shards (event.Status (side_of x)) x) answer.Statuses) (λ why. refl) (λ x at. refl))
worlds_after names notes command.Settle told = unmade names (plan_of names notes command.Settle) (refl)
worlds_after names notes (command.Clock cluster now) told = unmade names (plan_of names notes (command.Clock cluster now)) (guarded_has MakesNone (cluster_guard names cluster) (does (clock_deeds names cluster now) answer.Expired) (λ why. refl) (λ ok. refl))
worlds_after names notes (command.Replicate index shard copy seq) told = unmade names (plan_of names notes (command.Replicate index shard copy seq)) (on_copy_none names index shard (λ x. event.Replicate (side_of x) copy seq))
worlds_after names notes (command.Ack index shard copy) told = unmade names (plan_of names notes (command.Ack index shard copy)) (on_copy_none names index shard (λ x. event.Ack (side_of x) copy))
worlds_after names notes (command.Sync index shard copy) told = unmade names (plan_of names notes (command.Sync index shard copy)) (on_copy_none names index shard (λ x. event.Sync (side_of x) copy))
worlds_after names notes (command.Promote index shard copy) told = unmade names (plan_of names notes (command.Promote index shard copy)) (on_copy_none names index shard (λ x. event.Promote (side_of x) copy))
worlds_after names notes (command.Resync index shard copy) told = unmade names (plan_of names notes (command.Resync index shard copy)) (on_leader_none names index shard (event.Resync copy))
worlds_after names notes (command.FailCopy index shard copy) told = unmade names (plan_of names notes (command.FailCopy index shard copy)) (on_copy_none names index shard (λ x. event.FailCopy (side_of x) copy))
worlds_after names notes (command.ForcePromote index shard copy) told = unmade names (plan_of names notes (command.ForcePromote index shard copy)) (on_leader_none names index shard (event.ForcePromote copy))
worlds_after names notes (command.Flush index shard copy) told = unmade names (plan_of names notes (command.Flush index shard copy)) (on_copy_none names index shard (λ x. event.Flush (side_of x) copy))
worlds_after names notes (command.Merge index shard copy) told = unmade names (plan_of names notes (command.Merge index shard copy)) (on_copy_none names index shard (λ x. event.Merge (side_of x) copy))
worlds_after names notes (command.AddCopy index shard) told = unmade names (plan_of names notes (command.AddCopy index shard)) (on_copy_none names index shard (λ x. event.AddCopy (side_of x)))
worlds_after names notes (command.Deliver index shard at copy keep) told = unmade names (plan_of names notes (command.Deliver index shard at copy keep)) (on_copy_none names index shard (λ x. event.Deliver at (unwrap_or copy (primary_in notes shard)) keep))
worlds_after names notes (command.Drop index shard at) told = unmade names (plan_of names notes (command.Drop index shard at)) (on_copy_none names index shard (λ x. event.Drop at))
worlds_after names notes (command.Wake index shard at) told = unmade names (plan_of names notes (command.Wake index shard at)) (on_follower_none names index shard (λ x. event.Wake (number_of x) at))
worlds_after names notes (command.Lose index shard at) told = unmade names (plan_of names notes (command.Lose index shard at)) (on_follower_none names index shard (λ x. event.Lose (number_of x) at))
worlds_after names notes (command.LoseWrite index shard write) told = unmade names (plan_of names notes (command.LoseWrite index shard write)) (on_follower_none names index shard (λ x. event.LoseWrite (number_of x) write))
worlds_after names notes (command.Written index shard write) told = unmade names (plan_of names notes (command.Written index shard write)) (on_follower_none names index shard (λ x. event.Written (number_of x) write))
worlds_after names notes (command.Apply index shard write epoch) told = unmade names (plan_of names notes (command.Apply index shard write epoch)) (guarded_none names index (follower_shard_guards shard) (apply_plan notes shard write epoch) (λ x. refl))
worlds_after names notes (command.Renew index shard) told = unmade names (plan_of names notes (command.Renew index shard)) (on_follower_none names index shard (λ x. event.Renew (number_of x)))
worlds_after names notes (command.Restart index shard) told = unmade names (plan_of names notes (command.Restart index shard)) (on_follower_none names index shard (λ x. event.Restart (number_of x)))

-- ---- what a search asks for is told in its order

-- an answer that isn't of a search asks for no order
abbrev AsksNoOrder : Planned → Type 0
AsksNoOrder plan = (told : List Reply) → AreOrderedFor plan.answer told

-- where each deed of a plan was answered in its order, what is told is in the order of its answer
abbrev KeepsOrder : Planned → Type 0
KeepsOrder plan = (told : List Reply) → length told ≡ length plan.deeds → AreOrderedDeeds plan.deeds told → AreOrderedFor plan.answer told

ordered_by : (side : Side) (copy : ℕ) (request : SearchRequest) (w : ℕ) (r : Reply) → IsOrderedDeed (Happens w (event.Search side copy request)) r → IsOrderedBy request.sort r
ordered_by side copy request w (reply.Found found) h = h
ordered_by side copy request w _ h = tt

turn_ordered : (x : IndexMeta) (request : SearchRequest) (copy : Option ℕ) (w : ℕ) (notes : List Note) (told : List Reply) → length told ≡ length (in_turn w (map (search_event x request copy) notes))
    → AreOrderedDeeds (in_turn w (map (search_event x request copy) notes)) told → AreOrderedBy request.sort told
turn_ordered x request copy w notes [] count h = tt
turn_ordered x request copy w [] (r ∷ told) count h = absurd (omega arith)
turn_ordered x request copy w (note ∷ notes) (r ∷ told) count h =
    (ordered_by (side_of x) (unwrap_or copy (primary_of (side_of x) note)) request w r h.0, turn_ordered x request copy (w + 1) notes told (omega arith) h.1)

on_copy_asks : (names : Names) (index : IndexName) (shard : ℕ) (happening : IndexMeta → Event) → AsksNoOrder (on_copy names index shard happening)
on_copy_asks names index shard happening =
    with_index_has AsksNoOrder names index (λ x. first_refused (shard_guards shard x) (on_shard shard (happening x) x)) (λ why told. tt) (λ x at.
    guarded_has AsksNoOrder (shard_guards shard x) (on_shard shard (happening x) x) (λ why told. tt) (λ ok told. tt))

on_leader_asks : (names : Names) (index : IndexName) (shard : ℕ) (e : Event) → AsksNoOrder (on_leader names index shard e)
on_leader_asks names index shard e =
    with_index_has AsksNoOrder names index (λ x. first_refused (resync_guards shard x) (on_shard shard e x)) (λ why told. tt) (λ x at.
    guarded_has AsksNoOrder (resync_guards shard x) (on_shard shard e x) (λ why told. tt) (λ ok told. tt))

on_follower_asks : (names : Names) (index : IndexName) (shard : ℕ) (happening : IndexMeta → Event) → AsksNoOrder (on_follower names index shard happening)
on_follower_asks names index shard happening =
    with_index_has AsksNoOrder names index (λ x. first_refused (follower_shard_guards shard x) (on_shard shard (happening x) x)) (λ why told. tt) (λ x at.
    guarded_has AsksNoOrder (follower_shard_guards shard x) (on_shard shard (happening x) x) (λ why told. tt) (λ ok told. tt))

guarded_asks : (names : Names) (index : IndexName) (guards : IndexMeta → List (Bool × MetaFault)) (plan : IndexMeta → Planned) → ((x : IndexMeta) → AsksNoOrder (plan x))
    → AsksNoOrder (with_index names index (λ x. first_refused (guards x) (plan x)))
guarded_asks names index guards plan none =
    with_index_has AsksNoOrder names index (λ x. first_refused (guards x) (plan x)) (λ why told. tt) (λ x at.
    guarded_has AsksNoOrder (guards x) (plan x) (λ why told. tt) (λ ok. none x))

unless_faulty_asks : (faults : List (Bool × AutoFault)) → AsksNoOrder (unless_faulty faults)
unless_faulty_asks faults = fault_has AsksNoOrder (first_fault faults) (λ why told. tt) (λ told. tt)

search_keeps : (names : Names) (notes : List Note) (index : IndexName) (request : SearchRequest) (from size : ℕ) (copy : Option ℕ)
    → KeepsOrder (with_index names index (search_plan notes request from size copy))
search_keeps names notes index request from size copy =
    with_index_has KeepsOrder names index (search_plan notes request from size copy) (λ why told count h. tt) (λ x at told count h.
    turn_ordered x request copy x.first notes told count h)

pub plan_ordered : (names : Names) (notes : List Note) (c : Command) (told : List Reply) → length told ≡ length (plan_of names notes c).deeds
    → AreOrderedDeeds (plan_of names notes c).deeds told → AreOrderedFor (plan_of names notes c).answer told
plan_ordered names notes (command.Cluster name) told count h =
    guarded_has AsksNoOrder (cluster_guards names name) (does [] answer.Done) (λ why told. tt) (λ ok told. tt) told
plan_ordered names notes (command.Create index settings) told count h =
    guarded_has AsksNoOrder (create_guards names index settings) (creation names index settings) (λ why told. tt) (λ ok told. tt) told
plan_ordered names notes (command.Follow index leader settings params) told count h =
    guarded_has AsksNoOrder (follow_guards names index leader settings) (follow_plan names index leader settings params) (λ why told. tt) (λ ok.
    with_index_has AsksNoOrder names leader (λ x. does (follow_deeds index leader params (unwrap_or settings.replicas x.replicas) x) answer.Done) (λ why told. tt) (λ x at told. tt)) told
plan_ordered names notes (command.AutoPut cluster name remote patterns exclude follow) told count h =
    let faults : List (Bool × AutoFault) = put_faults names cluster (record { name = name; remote = remote; patterns = patterns; exclude = exclude; follow = follow }) in
    guarded_has AsksNoOrder (put_guards names cluster remote) (unless_faulty faults) (λ why told. tt) (λ ok. unless_faulty_asks faults) told
plan_ordered names notes (command.AutoDelete cluster name) told count h =
    guarded_has AsksNoOrder (cluster_guard names cluster) (unless_faulty (delete_faults names cluster name)) (λ why told. tt) (λ ok. unless_faulty_asks (delete_faults names cluster name)) told
plan_ordered names notes (command.Search index query sort from size copy) told count h =
    search_keeps names notes index (record { query = query; sort = sort }) from size copy told count h
plan_ordered names notes (command.Pause index) told count h = guarded_asks names index (pause_guards (phases_in notes)) (λ x. all_shards (event.Pause (number_of x)) x) (λ x told. tt) told
plan_ordered names notes (command.Resume index) told count h = guarded_asks names index (resume_guards (phases_in notes)) (λ x. all_shards (event.Resume (number_of x)) x) (λ x told. tt) told
plan_ordered names notes (command.Unfollow index) told count h = guarded_asks names index (unfollow_guards (phases_in notes)) (λ x. all_shards (event.Unfollow (number_of x)) x) (λ x told. tt) told
plan_ordered names notes (command.Write index id source create expect routing) told count h = guarded_asks names index write_guards (write_plan (record { id = id; routing = routing; body = Some source; create = create; expect = expect })) (λ x told. tt) told
plan_ordered names notes (command.Delete index id expect routing) told count h = guarded_asks names index write_guards (write_plan (record { id = id; routing = routing; body = None; create = false; expect = expect })) (λ x told. tt) told
plan_ordered names notes (command.Status index) told count h = with_index_has AsksNoOrder names index (λ x. does (in_shards (event.Status (side_of x)) x) answer.Statuses) (λ why told. tt) (λ x at told. tt) told
plan_ordered names notes command.Settle told count h = tt
plan_ordered names notes (command.Clock cluster now) told count h = guarded_has AsksNoOrder (cluster_guard names cluster) (does (clock_deeds names cluster now) answer.Expired) (λ why told. tt) (λ ok told. tt) told
plan_ordered names notes (command.Replicate index shard copy seq) told count h = on_copy_asks names index shard (λ x. event.Replicate (side_of x) copy seq) told
plan_ordered names notes (command.Ack index shard copy) told count h = on_copy_asks names index shard (λ x. event.Ack (side_of x) copy) told
plan_ordered names notes (command.Sync index shard copy) told count h = on_copy_asks names index shard (λ x. event.Sync (side_of x) copy) told
plan_ordered names notes (command.Promote index shard copy) told count h = on_copy_asks names index shard (λ x. event.Promote (side_of x) copy) told
plan_ordered names notes (command.Resync index shard copy) told count h = on_leader_asks names index shard (event.Resync copy) told
plan_ordered names notes (command.FailCopy index shard copy) told count h = on_copy_asks names index shard (λ x. event.FailCopy (side_of x) copy) told
plan_ordered names notes (command.ForcePromote index shard copy) told count h = on_leader_asks names index shard (event.ForcePromote copy) told
plan_ordered names notes (command.Flush index shard copy) told count h = on_copy_asks names index shard (λ x. event.Flush (side_of x) copy) told
plan_ordered names notes (command.Merge index shard copy) told count h = on_copy_asks names index shard (λ x. event.Merge (side_of x) copy) told
plan_ordered names notes (command.AddCopy index shard) told count h = on_copy_asks names index shard (λ x. event.AddCopy (side_of x)) told
plan_ordered names notes (command.Deliver index shard at copy keep) told count h = on_copy_asks names index shard (λ x. event.Deliver at (unwrap_or copy (primary_in notes shard)) keep) told
plan_ordered names notes (command.Drop index shard at) told count h = on_copy_asks names index shard (λ x. event.Drop at) told
plan_ordered names notes (command.Wake index shard at) told count h = on_follower_asks names index shard (λ x. event.Wake (number_of x) at) told
plan_ordered names notes (command.Lose index shard at) told count h = on_follower_asks names index shard (λ x. event.Lose (number_of x) at) told
plan_ordered names notes (command.LoseWrite index shard write) told count h = on_follower_asks names index shard (λ x. event.LoseWrite (number_of x) write) told
plan_ordered names notes (command.Written index shard write) told count h = on_follower_asks names index shard (λ x. event.Written (number_of x) write) told
plan_ordered names notes (command.Apply index shard write epoch) told count h = guarded_asks names index (follower_shard_guards shard) (apply_plan notes shard write epoch) (λ x told. tt) told
plan_ordered names notes (command.Renew index shard) told count h = on_follower_asks names index shard (λ x. event.Renew (number_of x)) told
plan_ordered names notes (command.Restart index shard) told count h = on_follower_asks names index shard (λ x. event.Restart (number_of x)) told

-- ---- what is read for a command

take_length : {X : Type 0} (n : ℕ) (xs : List X) → length (take n xs) ≤ n
take_length zero [] = omega arith
take_length zero (x ∷ xs) = omega arith
take_length (suc n) [] = omega arith
take_length (suc n) (x ∷ xs) = let rest = take_length n xs in omega arith

notes_of_length : (logs : List Log) (x : IndexMeta) → length (notes_of logs x) ≤ x.shards
notes_of_length logs x =
    let same = map_length {X = Log} {Y = Note} (λ log. note_of (state_of log) (number_of x)) (take x.shards (drop x.first logs)) in
    let short = take_length x.shards (drop x.first logs) in
    omega arith

pub notes_fit : (names : Names) (logs : List Log) (c : Command) → AreNotesOf names c (notes_for names logs c)
notes_fit names logs c x e = subst (λ (o : Option IndexMeta). length (option_map_or (notes_of logs) o []) ≤ x.shards) (sym e) (notes_of_length logs x)

few_of : (logs : List Log) (o : Option IndexMeta) → ((x : IndexMeta) → o ≡ Some x → x.shards ≤ 16) → length (option_map_or (notes_of logs) o []) ≤ 64
few_of logs None few = omega arith
few_of logs (Some x) few = let short = notes_of_length logs x in let low = few x refl in omega arith

shards_few : (names : Names) (o : Option IndexName) → AreIn names → (x : IndexMeta) → option_and_then (index_at names) o ≡ Some x → x.shards ≤ 16
shards_few names None are x e = absurd (let no_index : ◌≡◌ {A = Option IndexMeta} None (Some x) = e in cc)
shards_few names (Some index) are x e = (IsIn-at names index x are e).few

pub notes_few : (names : Names) (logs : List Log) (c : Command) → AreIn names → length (notes_for names logs c) ≤ 64
notes_few names logs c are = few_of logs (option_and_then (index_at names) (index_read c)) (shards_few names (index_read c) are)
