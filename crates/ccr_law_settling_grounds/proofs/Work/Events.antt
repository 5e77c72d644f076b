-- Each event keeps what holds of every follower's work.
use Rattle.std.specs.Prelude.{slice_get, slice_set, remove, nat_le, not}
use Rattle.std.proofs.Common.{◌≡◌, ℕ, zero, suc, Bool, Option, Some, None, List, [], ◌∷◌, ◌++◌, length, refl, subst}
use Rattle.ccr_wire.specs.Message.{Frame, kind_of_content}
use Rattle.ccr_query.specs.Queries.{Tree}
use Rattle.ccr_query.specs.declared.sorting.SortKey.{SortKey}
use Rattle.ccr_journal.specs.declared.params.ParamValues.{ParamValues}
use Rattle.ccr_journal.specs.declared.sides.Side.{Side}
use Rattle.ccr_journal.specs.declared.sides.Side.TheVariants as sides
use Rattle.ccr_journal.specs.declared.events.Event.{Event}
use Rattle.ccr_journal.specs.declared.events.Event.TheVariants as events
use Rattle.ccr_journal.specs.declared.replies.Reply.TheVariants as replies
use Rattle.ccr_journal.specs.declared.replies.Refusal.TheVariants.{NoFollower, NotSettled, TooMany}
use Rattle.ccr_model.specs.Outcomes.{Outcome, refused, answered, guarded}
use Rattle.ccr_model.specs.Copies.{Copy, copy_of}
use Rattle.ccr_model.specs.LeaderFrames.{leader_receive}
use Rattle.ccr_model.specs.Followers.{Follower, new_follower}
use Rattle.ccr_model.specs.FollowerRows.{lose_row, tick_row, follower_clock_row, sent_write, lose_write_row, take_row, apply_row, written_row, task_of, renew_row, pause_row, resume_row, restart_row, unfollow_row, follower_add_copy_row, follower_replicate, follower_ack, follower_sync, follower_promote, follower_fail_copy, follower_flush, follower_merge, follower_status_row, follower_receive_row}
use Rattle.ccr_model.specs.World.{State, at_leader, for_follower, follower_of, goes_to_leader, at_named_follower, taken_by_receiver, deliver_row, drop_row, with_new_follower, follow_row, same_name, most_followers, search_row}
use Rattle.ccr_model.specs.Settled.{is_settled}
use Rattle.ccr_model.specs.Step.{step, woken, searched_at}
use Rattle.ccr_law_base.proofs.Cases.{on_if, on_guards}
use Rattle.ccr_law_base.proofs.Lists.{some_equal}
use Rattle.ccr_law_settling_grounds.specs.Pending.{IsWorkPending, HasPending}
use Rattle.ccr_law_settling_grounds.proofs.Work.Rows as rows

-- what holds of each that has a place
abbrev HasEach : {X : Type 0} → (X → Type 0) → List X → Type 0
HasEach {X = X} P xs = (n : ℕ) (x : X) → slice_get xs n ≡ Some x → P x

each_set : {X : Type 0} (P : X → Type 0) (xs : List X) (n : ℕ) (new : X) → HasEach P xs → P new → HasEach P (slice_set xs n new)
each_set P [] n new each holds k x at = each k x at
each_set P (y ∷ xs) zero new each holds zero x at = subst P (some_equal new x at) holds
each_set P (y ∷ xs) zero new each holds (suc k) x at = each (suc k) x at
each_set P (y ∷ xs) (suc n) new each holds zero x at = each zero x at
each_set P (y ∷ xs) (suc n) new each holds (suc k) x at = each_set P xs n new (λ k x at. each (suc k) x at) holds k x at

each_pushed : {X : Type 0} (P : X → Type 0) (xs : List X) (new : X) → HasEach P xs → P new → HasEach P (xs ++ new ∷ [])
each_pushed P [] new each holds zero x at = subst P (some_equal new x at) holds
each_pushed P [] new each holds (suc k) x at = cc
each_pushed P (y ∷ xs) new each holds zero x at = each zero x at
each_pushed P (y ∷ xs) new each holds (suc k) x at = each_pushed P xs new (λ k x at. each (suc k) x at) holds k x at

-- ---- events of a follower

abbrev HasPendingAfter : Outcome State → Type 0
HasPendingAfter o = HasPending o.next

-- a row of the follower that is found, which keeps what holds of its work
by_follower : (s : State) (f : ℕ) (row : Follower → Outcome Follower) → ((x : Follower) → IsWorkPending x.work → IsWorkPending (row x).next.work) → HasPending s
    → HasPendingAfter (for_follower s f row (slice_get s.followers f))
by_follower s f row keeps holds = by (slice_get s.followers f) refl
  where
    by : (found : Option Follower) → slice_get s.followers f ≡ found → HasPendingAfter (for_follower s f row found)
    by None is = holds
    by (Some x) is = each_set (λ (own : Follower). IsWorkPending own.work) s.followers f (row x).next holds (keeps x (holds f x is))

-- ---- messages

by_receiver : (s : State) (copy : ℕ) (m : Frame) → HasPending s → HasPendingAfter (taken_by_receiver s copy m)
by_receiver s copy m holds =
    on_if HasPendingAfter (goes_to_leader (kind_of_content m.content)) (at_leader s (leader_receive s.leader copy m)) (at_named_follower s m (follower_of s.followers m.follower))
    (λ is. holds) (λ isnt. by (follower_of s.followers m.follower))
  where
    by : (named : Option ℕ) → HasPendingAfter (at_named_follower s m named)
    by None = holds
    by (Some f) = by_follower s f (λ x. follower_receive_row x m) (λ x own. rows.receive_pending x m own) holds

by_delivery : (s : State) (at copy : ℕ) (keep : Bool) (found : Option Frame) (c : Option Copy) → HasPending s → HasPendingAfter (deliver_row s at copy keep found c)
unfolding deliver_row
by_delivery s at copy keep None c holds = holds
by_delivery s at copy keep (Some m) None holds = holds
by_delivery s at copy keep (Some m) (Some c) holds =
    on_if (λ (after : State). HasPendingAfter (taken_by_receiver after copy m)) keep s (record s { flight = remove s.flight at })
    (λ kept. by_receiver s copy m holds) (λ left. by_receiver (record s { flight = remove s.flight at }) copy m holds)

by_drop : (s : State) (at : ℕ) (found : Option Frame) → HasPending s → HasPendingAfter (drop_row s at found)
unfolding drop_row
by_drop s at None holds = holds
by_drop s at (Some m) holds = holds

by_wake : (s : State) (f at : ℕ) (found : Option Follower) → HasPending s → HasPendingAfter (woken s f at found)
by_wake s f at None holds = holds
by_wake s f at (Some follower) holds = holds

-- ---- the other events of the world

by_search : (s : State) (copy : ℕ) (query : Tree) (sort : List SortKey) (found : Option Copy) → HasPending s → HasPendingAfter (search_row s copy query sort found)
unfolding search_row
by_search s copy query sort None holds = holds
by_search s copy query sort (Some c) holds = holds

by_search_at : (s : State) (side : Side) (copy : ℕ) (query : Tree) (sort : List SortKey) → HasPending s → HasPendingAfter (searched_at s side copy (search_row s copy query sort))
by_search_at s sides.Leader copy query sort holds = by_search s copy query sort (copy_of s.leader.copies copy) holds
by_search_at s (sides.Follower f) copy query sort holds =
    elim (slice_get s.followers f) as (λ (found : Option Follower). HasPendingAfter (elim found as (λ _. Outcome State) [
      | None ↦ refused s (NoFollower f)
      | Some follower ↦ search_row s copy query sort (copy_of follower.copies copy)
    ])) [
      | None ↦ holds
      | Some follower ↦ by_search s copy query sort (copy_of follower.copies copy) holds
    ]

by_follow : (s : State) (params : ParamValues) (copies : ℕ) (name : List ℕ) (same : Option ℕ) → HasPending s → HasPendingAfter (follow_row s params copies name same)
unfolding follow_row
by_follow s params copies name (Some f) holds = holds
by_follow s params copies name None holds =
    let new : Follower = (new_follower (length s.followers) params copies name s.leader.history s.leader.start.retention).next in
    on_guards HasPendingAfter s ((nat_le most_followers (length s.followers), TooMany) ∷ []) (with_new_follower s params copies name) (λ why. holds)
    (λ few. each_pushed (λ (own : Follower). IsWorkPending own.work) s.followers new holds refl)

by_settle : (s : State) → HasPending s → HasPendingAfter (guarded s ((not (is_settled s), NotSettled) ∷ []) (answered replies.Settled s))
by_settle s holds = on_guards HasPendingAfter s ((not (is_settled s), NotSettled) ∷ []) (answered replies.Settled s) (λ why. holds) (λ all. holds)

-- ---- all events

pub each_event : (s : State) (event : Event) (picks : List ℕ) → HasPending s → HasPendingAfter (step s event picks)
each_event s (events.Write request) picks holds = holds
each_event s (events.Replicate sides.Leader copy seq) picks holds = holds
each_event s (events.Replicate (sides.Follower f) copy seq) picks holds = by_follower s f (λ x. follower_replicate x copy seq) (λ x own. own) holds
each_event s (events.Ack sides.Leader copy) picks holds = holds
each_event s (events.Ack (sides.Follower f) copy) picks holds = by_follower s f (λ x. follower_ack x copy) (λ x own. own) holds
each_event s (events.Sync sides.Leader copy) picks holds = holds
each_event s (events.Sync (sides.Follower f) copy) picks holds = by_follower s f (λ x. follower_sync x copy) (λ x own. own) holds
each_event s (events.Promote sides.Leader copy) picks holds = holds
each_event s (events.Promote (sides.Follower f) copy) picks holds = by_follower s f (λ x. follower_promote x copy) (λ x own. own) holds
each_event s (events.ForcePromote copy) picks holds = holds
each_event s (events.Resync copy) picks holds = holds
each_event s (events.FailCopy sides.Leader copy) picks holds = holds
each_event s (events.FailCopy (sides.Follower f) copy) picks holds = by_follower s f (λ x. follower_fail_copy x copy) (λ x own. own) holds
each_event s (events.AddCopy sides.Leader) picks holds = holds
each_event s (events.AddCopy (sides.Follower f)) picks holds = by_follower s f follower_add_copy_row rows.add_copy_pending holds
each_event s (events.Flush sides.Leader copy) picks holds = holds
each_event s (events.Flush (sides.Follower f) copy) picks holds = by_follower s f (λ x. follower_flush x copy) (λ x own. own) holds
each_event s (events.Merge sides.Leader copy) picks holds = holds
each_event s (events.Merge (sides.Follower f) copy) picks holds = by_follower s f (λ x. follower_merge x copy picks) (λ x own. own) holds
each_event s (events.Clock sides.Leader now) picks holds = holds
each_event s (events.Clock (sides.Follower f) now) picks holds = by_follower s f (λ x. follower_clock_row x now) (λ x own. rows.clock_pending x now own) holds
each_event s events.Expire picks holds = holds
each_event s events.CloseSessions picks holds = holds
each_event s (events.Tick f) picks holds = by_follower s f tick_row rows.tick_pending holds
each_event s (events.Deliver at copy keep) picks holds = by_delivery s at copy keep (slice_get s.flight at) (copy_of s.leader.copies copy) holds
each_event s (events.Drop at) picks holds = by_drop s at (slice_get s.flight at) holds
each_event s (events.Wake f at) picks holds = by_wake s f at (slice_get s.followers f) holds
each_event s (events.Lose f at) picks holds = by_follower s f (λ x. lose_row x at) (λ x own. rows.lose_pending x at own) holds
each_event s (events.LoseWrite f write) picks holds =
    by_follower s f (λ x. lose_write_row x write (sent_write x.work write)) (λ x own. rows.lose_write_pending x write (sent_write x.work write) own (rows.sent_pending x.work write own)) holds
each_event s (events.Take f write) picks holds =
    by_follower s f (λ x. take_row x write (sent_write x.work write)) (λ x own. rows.take_pending x write (sent_write x.work write) own) holds
each_event s (events.Apply f epoch write batch) picks holds =
    by_follower s f (λ x. apply_row x epoch write batch (sent_write x.work write)) (λ x own. rows.apply_pending x epoch write batch (sent_write x.work write) own) holds
each_event s (events.Written f write) picks holds =
    by_follower s f (λ x. written_row x write (sent_write x.work write)) (λ x own. rows.written_pending x write (sent_write x.work write) own (rows.sent_pending x.work write own)) holds
each_event s (events.Renew f) picks holds =
    by_follower s f (λ x. renew_row x (task_of x.work)) (λ x own. rows.renew_pending x (task_of x.work) own (rows.found_pending x.work own)) holds
each_event s (events.Follow params copies name) picks holds = by_follow s params copies name (same_name s.followers name) holds
each_event s (events.Pause f) picks holds =
    by_follower s f (λ x. pause_row x (task_of x.work)) (λ x own. rows.pause_pending x (task_of x.work) own (rows.found_pending x.work own)) holds
each_event s (events.Resume f) picks holds = by_follower s f (λ x. resume_row x (task_of x.work)) (λ x own. rows.resume_pending x (task_of x.work) own) holds
each_event s (events.Restart f) picks holds = by_follower s f (λ x. restart_row x (task_of x.work)) (λ x own. rows.restart_pending x (task_of x.work) own) holds
each_event s (events.Unfollow f) picks holds =
    by_follower s f (λ x. unfollow_row x (task_of x.work)) (λ x own. rows.unfollow_pending x (task_of x.work) own (rows.found_pending x.work own)) holds
each_event s (events.Search side copy request) picks holds = by_search_at s side copy request.query request.sort holds
each_event s (events.Status sides.Leader) picks holds = holds
each_event s (events.Status (sides.Follower f)) picks holds = by_follower s f follower_status_row rows.status_pending holds
each_event s events.Settle picks holds = by_settle s holds
