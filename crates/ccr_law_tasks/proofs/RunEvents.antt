-- Every event keeps that the replies to reads in flight have consecutive numbers.
use Rattle.std.specs.Prelude.{nat_le, not, slice_get, remove}
use Rattle.std.proofs.Common.{ℕ, suc, Bool, List, [], ◌∷◌, ◌++◌, length, take, drop, Option, Some, None}
use Rattle.ccr_wire.specs.Message.{Frame, kind_of_content}
use Rattle.ccr_wire.specs.declared.content.Content.{Content}
use Rattle.ccr_wire.specs.declared.content.Content.TheVariants as contents
use Rattle.ccr_query.specs.Queries.{Tree}
use Rattle.ccr_query.specs.declared.sorting.SortKey.{SortKey}
use Rattle.ccr_journal.specs.declared.params.ParamValues.{ParamValues}
use Rattle.ccr_journal.specs.declared.sides.Side.{Side}
use Rattle.ccr_journal.specs.declared.sides.Side.TheVariants as sides
use Rattle.ccr_journal.specs.declared.events.Event.{Event}
use Rattle.ccr_journal.specs.declared.events.Event.TheVariants as events
use Rattle.ccr_journal.specs.declared.replies.Reply.TheVariants as replies
use Rattle.ccr_journal.specs.declared.replies.Refusal.TheVariants.{NoFollower, NotSettled, TooMany}
use Rattle.ccr_model.specs.Outcomes.{Outcome, refused, answered, guarded, within}
use Rattle.ccr_model.specs.Copies.{Copy, copy_of, replica_of}
use Rattle.ccr_model.specs.CopyRows.{sync_row}
use Rattle.ccr_model.specs.Leaders.{Start, Leader, polls_of, stale_of}
use Rattle.ccr_model.specs.LeaderRows.{source_fault, leader_fail_copy_row, leader_write, leader_replicate, leader_ack, leader_sync, leader_promote, leader_force_promote, leader_resync, leader_fail_copy, leader_add_copy, leader_flush, leader_merge, leader_clock, leader_expire, leader_close_sessions, leader_status}
use Rattle.ccr_model.specs.LeaderFrames.{leader_wake, leader_receive, polled_copy}
use Rattle.ccr_model.specs.Followers.{Follower, uuid_of, new_follower}
use Rattle.ccr_model.specs.FollowerRows.{lose_row, tick_row, follower_clock_row, sent_write, lose_write_row, take_row, apply_row, written_row, task_of, renew_row, pause_row, resume_row, restart_row, unfollow_row, follower_add_copy_row, follower_replicate, follower_ack, follower_sync, follower_promote, follower_fail_copy, follower_flush, follower_merge, follower_status_row, follower_receive_row}
use Rattle.ccr_model.specs.World.{State, at_leader, for_follower, follower_of, goes_to_leader, at_named_follower, taken_by_receiver, deliver_row, drop_row, with_new_follower, follow_row, same_name, most_followers, search_row}
use Rattle.ccr_model.specs.Settled.{is_settled}
use Rattle.ccr_model.specs.Step.{step, woken, searched_at}
use Rattle.ccr_model.specs.Past.{Past, start_past}
use Rattle.ccr_law_base.proofs.Cases.{on_if, on_guards}
use Rattle.ccr_model.specs.Operations.{live}
use Rattle.ccr_model.specs.Stores.{held}
use Rattle.ccr_law_base.specs.Events.{past_by}
use Rattle.ccr_law_base.proofs.Lists.{All-append, All-take, All-drop, All-weaker}
use Rattle.ccr_law_tasks.specs.GoodFollowers.{IsRunOf, BringRuns}
use Rattle.ccr_law_tasks.proofs.Sending.{AreRuns, ArePlain, none-run, received-run, woken-run, settling-sends, write-sends, replicate-sends, ack-sends, sync-sends, fail_copy-sends, add_copy-sends, flush-sends, merge-sends, follower_promote-sends, resync-sends, leader_promote-sends, force_promote-sends, leader_fail_copy-sends, clock-sends, expire-sends, close-sends, leader_status-sends}
use Rattle.ccr_law_tasks.proofs.FollowerSending.{IsNoReply, BringNoReply, plain-replies, receive-sends, lose-sends, tick-sends, follower_clock-sends, lose_write-sends, take-sends, apply-sends, written-sends, renew-sends, pause-sends, resume-sends, restart-sends, unfollow-sends, follower_add_copy-sends, follower_status-sends}

-- the messages in flight after an outcome
abbrev RunsAt : Outcome State → Type 0
RunsAt o = AreRuns o.next.flight

abbrev flying : State → List Frame → State
flying s flight = record s { flight = flight }

runs-joined : (xs ys : List Frame) → AreRuns xs → AreRuns ys → AreRuns (xs ++ ys)
runs-joined xs ys a b = All-append (λ (m : Frame). IsRunOf m.content) xs ys a b

removed : (flight : List Frame) (at : ℕ) → AreRuns flight → AreRuns (remove flight at)
removed flight at runs = runs-joined (take at flight) (drop (suc at) flight) (All-take (λ (m : Frame). IsRunOf m.content) at flight runs) (All-drop (λ (m : Frame). IsRunOf m.content) (suc at) flight runs)

replies-run : (sent : List Frame) → BringNoReply sent → AreRuns sent
replies-run sent none = All-weaker (λ (m : Frame). IsNoReply m.content) (λ (m : Frame). IsRunOf m.content) (λ m is. run m.content is) sent none
  where
    run : (content : Content) → IsNoReply content → IsRunOf content
    run (contents.ReadReply from global ops) none = absurd none
    run _ none = tt

by-leader : (s : State) (o : Outcome Leader) → AreRuns s.flight → ArePlain o.sent → RunsAt (at_leader s o)
by-leader s o runs sends = runs-joined s.flight o.sent runs (none-run o.sent sends)

by-follower : (s : State) (f : ℕ) (row : Follower → Outcome Follower) → AreRuns s.flight → ((x : Follower) → BringNoReply (row x).sent) → (found : Option Follower) → RunsAt (for_follower s f row found)
by-follower s f row runs sends None = runs
by-follower s f row runs sends (Some x) = runs-joined s.flight (row x).sent runs (replies-run (row x).sent (sends x))

by-receiver : (s : State) (copy : ℕ) (m : Frame) → AreRuns s.flight → RunsAt (taken_by_receiver s copy m)
by-receiver s copy m runs =
    on_if (λ (o : Outcome State). RunsAt o) (goes_to_leader (kind_of_content m.content)) (at_leader s (leader_receive s.leader copy m)) (at_named_follower s m (follower_of s.followers m.follower))
    (λ is. runs-joined s.flight (leader_receive s.leader copy m).sent runs (received-run s.leader copy m))
    (λ isnt. elim (follower_of s.followers m.follower) as (λ (found : Option ℕ). RunsAt (at_named_follower s m found)) [
      | None ↦ runs
      | Some f ↦ by-follower s f (λ follower. follower_receive_row follower m) runs (λ x. receive-sends x m) (slice_get s.followers f)
    ])

by-delivery : (s : State) (at copy : ℕ) (keep : Bool) (found : Option Frame) (c : Option Copy) → AreRuns s.flight → RunsAt (deliver_row s at copy keep found c)
unfolding deliver_row
by-delivery s at copy keep None c runs = runs
by-delivery s at copy keep (Some m) None runs = runs
by-delivery s at copy keep (Some m) (Some c) runs =
    on_if (λ (after : State). RunsAt (taken_by_receiver after copy m)) keep s (flying s (remove s.flight at))
    (λ kept. by-receiver s copy m runs) (λ left. by-receiver (flying s (remove s.flight at)) copy m (removed s.flight at runs))

by-drop : (s : State) (at : ℕ) (found : Option Frame) → AreRuns s.flight → RunsAt (drop_row s at found)
unfolding drop_row
by-drop s at None runs = runs
by-drop s at (Some m) runs = removed s.flight at runs

by-wake : (s : State) (f at : ℕ) (found : Option Follower) → AreRuns s.flight → RunsAt (woken s f at found)
by-wake s f at None runs = runs
by-wake s f at (Some follower) runs =
    let poll = slice_get (polls_of s.leader.polls (uuid_of f)) at in
    runs-joined s.flight (leader_wake s.leader (uuid_of f) at).sent runs (woken-run s.leader (uuid_of f) at poll (polled_copy s.leader.copies poll))

by-search : (s : State) (copy : ℕ) (query : Tree) (sort : List SortKey) (found : Option Copy) → AreRuns s.flight → RunsAt (search_row s copy query sort found)
unfolding search_row
by-search s copy query sort None runs = runs
by-search s copy query sort (Some c) runs = runs

by-search-at : (s : State) (side : Side) (copy : ℕ) (query : Tree) (sort : List SortKey) → AreRuns s.flight → RunsAt (searched_at s side copy (search_row s copy query sort))
by-search-at s sides.Leader copy query sort runs = by-search s copy query sort (copy_of s.leader.copies copy) runs
by-search-at s (sides.Follower f) copy query sort runs =
    elim (slice_get s.followers f) as (λ (found : Option Follower). RunsAt (elim found as (λ _. Outcome State) [
      | None ↦ refused s (NoFollower f)
      | Some follower ↦ search_row s copy query sort (copy_of follower.copies copy)
    ])) [
      | None ↦ runs
      | Some follower ↦ by-search s copy query sort (copy_of follower.copies copy) runs
    ]

by-settle : (s : State) → AreRuns s.flight → RunsAt (guarded s ((not (is_settled s), NotSettled) ∷ []) (answered replies.Settled s))
by-settle s runs = on_guards (λ (o : Outcome State). RunsAt o) s ((not (is_settled s), NotSettled) ∷ []) (answered replies.Settled s) (λ why. runs) (λ all. runs)

by-follow : (s : State) (params : ParamValues) (copies : ℕ) (name : List ℕ) (same : Option ℕ) → AreRuns s.flight → RunsAt (follow_row s params copies name same)
unfolding follow_row
by-follow s params copies name (Some f) runs = runs
by-follow s params copies name None runs =
    on_guards (λ (o : Outcome State). RunsAt o) s ((nat_le most_followers (length s.followers), TooMany) ∷ []) (with_new_follower s params copies name)
    (λ why. runs)
    (λ few. runs-joined s.flight (new_follower (length s.followers) params copies name s.leader.history s.leader.start.retention).sent runs (tt, tt))

pub each-run : (s : State) (event : Event) (picks : List ℕ) → AreRuns s.flight → RunsAt (step s event picks)
each-run s (events.Write request) picks runs =
    by-leader s (leader_write s.leader request) runs (write-sends s.leader.copies request (source_fault request.body) (live (held s.leader.copies.primary.store) request.id))
each-run s (events.Replicate sides.Leader copy seq) picks runs = by-leader s (leader_replicate s.leader copy seq) runs (replicate-sends s.leader.copies copy seq (replica_of s.leader.copies copy))
each-run s (events.Replicate (sides.Follower f) copy seq) picks runs = by-follower s f (λ x. follower_replicate x copy seq) runs (λ x. plain-replies _ (replicate-sends x.copies copy seq (replica_of x.copies copy))) (slice_get s.followers f)
each-run s (events.Ack sides.Leader copy) picks runs = by-leader s (leader_ack s.leader copy) runs (ack-sends s.leader.copies copy (replica_of s.leader.copies copy))
each-run s (events.Ack (sides.Follower f) copy) picks runs = by-follower s f (λ x. follower_ack x copy) runs (λ x. plain-replies _ (ack-sends x.copies copy (replica_of x.copies copy))) (slice_get s.followers f)
each-run s (events.Sync sides.Leader copy) picks runs = by-leader s (leader_sync s.leader copy) runs (settling-sends (within (λ copies. record s.leader { copies = copies }) (sync_row s.leader.copies copy (replica_of s.leader.copies copy))) (sync-sends s.leader.copies copy (replica_of s.leader.copies copy)))
each-run s (events.Sync (sides.Follower f) copy) picks runs = by-follower s f (λ x. follower_sync x copy) runs (λ x. plain-replies _ (sync-sends x.copies copy (replica_of x.copies copy))) (slice_get s.followers f)
each-run s (events.Promote sides.Leader copy) picks runs = by-leader s (leader_promote s.leader copy) runs (leader_promote-sends s.leader copy (replica_of s.leader.copies copy))
each-run s (events.Promote (sides.Follower f) copy) picks runs = by-follower s f (λ x. follower_promote x copy) runs (λ x. plain-replies _ (follower_promote-sends x.copies copy (replica_of x.copies copy))) (slice_get s.followers f)
each-run s (events.ForcePromote copy) picks runs = by-leader s (leader_force_promote s.leader copy) runs (force_promote-sends s.leader copy (stale_of s.leader.stale copy))
each-run s (events.Resync copy) picks runs = by-leader s (leader_resync s.leader copy) runs (resync-sends s.leader.copies copy (replica_of s.leader.copies copy))
each-run s (events.FailCopy sides.Leader copy) picks runs = by-leader s (leader_fail_copy s.leader copy) runs (settling-sends (leader_fail_copy_row s.leader copy (replica_of s.leader.copies copy)) (leader_fail_copy-sends s.leader copy (replica_of s.leader.copies copy)))
each-run s (events.FailCopy (sides.Follower f) copy) picks runs = by-follower s f (λ x. follower_fail_copy x copy) runs (λ x. plain-replies _ (fail_copy-sends x.copies copy (replica_of x.copies copy))) (slice_get s.followers f)
each-run s (events.AddCopy sides.Leader) picks runs = by-leader s (leader_add_copy s.leader) runs (add_copy-sends s.leader.copies)
each-run s (events.AddCopy (sides.Follower f)) picks runs = by-follower s f follower_add_copy_row runs (λ x. follower_add_copy-sends x) (slice_get s.followers f)
each-run s (events.Flush sides.Leader copy) picks runs = by-leader s (leader_flush s.leader copy) runs (flush-sends s.leader.copies copy (copy_of s.leader.copies copy))
each-run s (events.Flush (sides.Follower f) copy) picks runs = by-follower s f (λ x. follower_flush x copy) runs (λ x. plain-replies _ (flush-sends x.copies copy (copy_of x.copies copy))) (slice_get s.followers f)
each-run s (events.Merge sides.Leader copy) picks runs = by-leader s (leader_merge s.leader copy picks) runs (merge-sends s.leader.copies s.leader.start.retention copy picks (copy_of s.leader.copies copy))
each-run s (events.Merge (sides.Follower f) copy) picks runs = by-follower s f (λ x. follower_merge x copy picks) runs (λ x. plain-replies _ (merge-sends x.copies x.retention copy picks (copy_of x.copies copy))) (slice_get s.followers f)
each-run s (events.Clock sides.Leader time) picks runs = by-leader s (leader_clock s.leader time) runs (clock-sends s.leader time)
each-run s (events.Clock (sides.Follower f) time) picks runs = by-follower s f (λ x. follower_clock_row x time) runs (λ x. follower_clock-sends x time) (slice_get s.followers f)
each-run s events.Expire picks runs = by-leader s (leader_expire s.leader) runs (expire-sends s.leader)
each-run s events.CloseSessions picks runs = by-leader s (leader_close_sessions s.leader) runs (close-sends s.leader)
each-run s (events.Tick f) picks runs = by-follower s f tick_row runs (λ x. tick-sends x) (slice_get s.followers f)
each-run s (events.Deliver at copy keep) picks runs = by-delivery s at copy keep (slice_get s.flight at) (copy_of s.leader.copies copy) runs
each-run s (events.Drop at) picks runs = by-drop s at (slice_get s.flight at) runs
each-run s (events.Wake f at) picks runs = by-wake s f at (slice_get s.followers f) runs
each-run s (events.Lose f at) picks runs = by-follower s f (λ x. lose_row x at) runs (λ x. lose-sends x at) (slice_get s.followers f)
each-run s (events.LoseWrite f write) picks runs = by-follower s f (λ x. lose_write_row x write (sent_write x.work write)) runs (λ x. lose_write-sends x write (sent_write x.work write)) (slice_get s.followers f)
each-run s (events.Take f write) picks runs = by-follower s f (λ x. take_row x write (sent_write x.work write)) runs (λ x. take-sends x write (sent_write x.work write)) (slice_get s.followers f)
each-run s (events.Apply f epoch write batch) picks runs =
    by-follower s f (λ x. apply_row x epoch write batch (sent_write x.work write)) runs (λ x. apply-sends x epoch write batch (sent_write x.work write)) (slice_get s.followers f)
each-run s (events.Written f write) picks runs = by-follower s f (λ x. written_row x write (sent_write x.work write)) runs (λ x. written-sends x write (sent_write x.work write)) (slice_get s.followers f)
each-run s (events.Renew f) picks runs = by-follower s f (λ x. renew_row x (task_of x.work)) runs (λ x. renew-sends x (task_of x.work)) (slice_get s.followers f)
each-run s (events.Follow params copies name) picks runs = by-follow s params copies name (same_name s.followers name) runs
each-run s (events.Pause f) picks runs = by-follower s f (λ x. pause_row x (task_of x.work)) runs (λ x. pause-sends x (task_of x.work)) (slice_get s.followers f)
each-run s (events.Resume f) picks runs = by-follower s f (λ x. resume_row x (task_of x.work)) runs (λ x. resume-sends x (task_of x.work)) (slice_get s.followers f)
each-run s (events.Restart f) picks runs = by-follower s f (λ x. restart_row x (task_of x.work)) runs (λ x. restart-sends x (task_of x.work)) (slice_get s.followers f)
each-run s (events.Unfollow f) picks runs = by-follower s f (λ x. unfollow_row x (task_of x.work)) runs (λ x. unfollow-sends x (task_of x.work)) (slice_get s.followers f)
each-run s (events.Search side copy request) picks runs = by-search-at s side copy request.query request.sort runs
each-run s (events.Status sides.Leader) picks runs = by-leader s (leader_status s.leader) runs (leader_status-sends s.leader)
each-run s (events.Status (sides.Follower f)) picks runs = by-follower s f follower_status_row runs (λ x. follower_status-sends x) (slice_get s.followers f)
each-run s events.Settle picks runs = by-settle s runs

-- ---- the group

pub runs-start : (start : Start) → BringRuns (start_past start)
runs-start start = tt

pub runs-keep : (p : Past) (event : Event) (picks : List ℕ) → BringRuns p → BringRuns (past_by p event picks)
runs-keep p event picks runs = each-run p.state event picks runs
