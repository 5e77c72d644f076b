-- Each event leaves the messages, the polls and the kept requests such that they fit their followers' works.
use Rattle.std.specs.Prelude.{slice_get, remove, nat_le, not}
use Rattle.std.proofs.Common.{◌≡◌, ℕ, Bool, Option, Some, None, List, [], ◌∷◌, length, refl}
use Rattle.ccr_wire.specs.Message.{Frame, kind_of_content}
use Rattle.ccr_query.specs.Queries.{Tree}
use Rattle.ccr_query.specs.declared.sorting.SortKey.{SortKey}
use Rattle.ccr_journal.specs.declared.params.ParamValues.{ParamValues}
use Rattle.ccr_journal.specs.declared.sides.Side.TheVariants as sides
use Rattle.ccr_journal.specs.declared.events.Event.{Event}
use Rattle.ccr_journal.specs.declared.events.Event.TheVariants as events
use Rattle.ccr_journal.specs.declared.replies.Refusal.TheVariants.{NoFollower, NotSettled, TooMany}
use Rattle.ccr_model.specs.Operations.{live}
use Rattle.ccr_model.specs.Stores.{held}
use Rattle.ccr_model.specs.Outcomes.{Outcome, refused, answered, within}
use Rattle.ccr_model.specs.Copies.{Copy, Copies, replica_of, copy_of}
use Rattle.ccr_model.specs.CopyRows.{replicate_row, ack_row, sync_row, fail_copy_row, add_copy_row, flush_row, merge_row, follower_promote_row}
use Rattle.ccr_model.specs.Leaders.{Leader, polls_of, stale_of}
use Rattle.ccr_model.specs.LeaderRows.{with_copies, source_fault, write_row, resync_row, leader_sync, leader_promote, leader_force_promote, leader_fail_copy_row, leader_fail_copy, leader_clock_row, expire_row, close_sessions_row, leader_status_row}
use Rattle.ccr_model.specs.LeaderFrames.{receive_row, leader_receive, leader_wake}
use Rattle.ccr_model.specs.Followers.{Follower, Work, uuid_of}
use Rattle.ccr_model.specs.FollowerRows.{follower_receive_row, lose_row, tick_row, follower_clock_row, sent_write, lose_write_row, take_row, apply_row, written_row, task_of, renew_row, pause_row, resume_row, restart_row, unfollow_row, follower_add_copy_row, follower_replicate, follower_ack, follower_sync, follower_promote, follower_fail_copy, follower_flush, follower_merge, follower_status_row}
use Rattle.ccr_model.specs.World.{State, at_leader, for_follower, goes_to_leader, follower_of, at_named_follower, taken_by_receiver, deliver_row, drop_row, most_followers, with_new_follower, follow_row, same_name, search_row}
use Rattle.ccr_model.specs.Settled.{is_settled}
use Rattle.ccr_model.specs.Step.{step, woken}
use Rattle.ccr_law_messages.proofs.Quiet.{write-silent, replicate-silent, ack-silent, sync-silent, fail_copy-silent, add_copy-silent, flush-silent, merge-silent, follower_promote-silent, resync-silent}
use Rattle.ccr_law_settling_grounds.proofs.Purpose.Fitting.{FitsOwn, name_in}
use Rattle.ccr_law_settling_grounds.proofs.Purpose.Followers.{RowMoves, AreReadsDrawn, copies_move, receive_moves, lose_moves, tick_moves, clock_moves, lose_write_moves, take_moves, apply_moves, written_moves, renew_moves, unfollow_moves, pause_moves, resume_moves, restart_moves, add_copy_moves, status_moves}
use Rattle.ccr_law_settling_grounds.proofs.Purpose.Answering.{HoldsFit, RowFits, copies_fit, wake_fits, settled_fits, content_fits, promote_fits, force_promote_fits, fail_copy_fits}
use Rattle.ccr_law_settling_grounds.proofs.Purpose.Worlds.{WorldFits, FitsAfter, AreOrderly, NextIsUnheard, by_leader, one_less, by_follower, by_new_follower}
use Rattle.ccr_law_base.proofs.Lists.{All-at}
use Rattle.ccr_law_base.proofs.Cases.{on_if, on_guards}
use Rattle.std.proofs.lemmas.Bool.{leb-false}

-- an event of a follower
on_followers : (s : State) (f : ℕ) (row : Follower → Outcome Follower) → AreOrderly s.followers → WorldFits s
    → ((x : Follower) → AreReadsDrawn x.work → name_in x.work ≡ uuid_of f → RowMoves (uuid_of f) x (row x)) → FitsAfter (for_follower s f row (slice_get s.followers f))
on_followers s f row orderly now moves =
    by_follower s f row (slice_get s.followers f) refl orderly now (λ x at. moves x (orderly.drawn f x at) (orderly.named f x at))

-- an event of the leader that takes no message
at_leaders : (s : State) (o : Outcome Leader) → WorldFits s → ((uuid : List ℕ) (w : Work) → HoldsFit uuid w s.leader → RowFits uuid w o) → FitsAfter (at_leader s o)
at_leaders s o now row = by_leader s o now (λ f own there fit. row (uuid_of f) own.work (record { sent_fit = tt; polls_fit = fit.polls_fit; kept_fit = fit.kept_fit }))

-- ---- messages

by_named : (s : State) (m : Frame) (named : Option ℕ) → AreOrderly s.followers → WorldFits s → FitsAfter (at_named_follower s m named)
by_named s m None orderly now = now
by_named s m (Some f) orderly now = on_followers s f (λ x. follower_receive_row x m) orderly now (λ x drawn named. receive_moves (uuid_of f) x m named)

-- the message fits, whose ever it is
abbrev FitsItsFollower : State → Frame → Type 0
FitsItsFollower s m = (f : ℕ) (own : Follower) → slice_get s.followers f ≡ Some own → FitsOwn (uuid_of f) own.work m

by_receiver : (s : State) (copy : ℕ) (m : Frame) → AreOrderly s.followers → FitsItsFollower s m → WorldFits s → FitsAfter (taken_by_receiver s copy m)
by_receiver s copy m orderly fits now =
    on_if FitsAfter (goes_to_leader (kind_of_content m.content)) (at_leader s (leader_receive s.leader copy m)) (at_named_follower s m (follower_of s.followers m.follower))
    (λ is. by_leader s (leader_receive s.leader copy m) now
    (λ f own there fit. settled_fits (uuid_of f) own.work (receive_row s.leader copy m).reply (receive_row s.leader copy m)
    (content_fits (uuid_of f) own.work s.leader copy m.follower m.request m.content (fits f own there) (record { sent_fit = tt; polls_fit = fit.polls_fit; kept_fit = fit.kept_fit }))))
    (λ isnt. by_named s m (follower_of s.followers m.follower) orderly now)

by_delivery : (s : State) (at copy : ℕ) (keep : Bool) (found : Option Frame) (c : Option Copy) → slice_get s.flight at ≡ found → AreOrderly s.followers → WorldFits s
    → FitsAfter (deliver_row s at copy keep found c)
unfolding deliver_row
by_delivery s at copy keep None c is orderly now = now
by_delivery s at copy keep (Some m) None is orderly now = now
by_delivery s at copy keep (Some m) (Some c) is orderly now =
    let fits : FitsItsFollower s m = λ f own there. All-at (FitsOwn (uuid_of f) own.work) s.flight at m (now f own there).sent_fit is in
    on_if (λ (t : State). FitsAfter (taken_by_receiver t copy m)) keep s (record s { flight = remove s.flight at })
    (λ kept. by_receiver s copy m orderly fits now)
    (λ left. by_receiver (record s { flight = remove s.flight at }) copy m orderly fits (one_less s at now))

by_drop : (s : State) (at : ℕ) (found : Option Frame) → WorldFits s → FitsAfter (drop_row s at found)
unfolding drop_row
by_drop s at None now = now
by_drop s at (Some m) now = one_less s at now

by_wake : (s : State) (f at : ℕ) (found : Option Follower) → WorldFits s → FitsAfter (woken s f at found)
by_wake s f at None now = now
by_wake s f at (Some follower) now =
    at_leaders s (leader_wake s.leader (uuid_of f) at) now (λ uuid w holds. wake_fits uuid w s.leader (uuid_of f) at (slice_get (polls_of s.leader.polls (uuid_of f)) at) refl holds)

-- ---- new followers, searches

by_follow : (s : State) (params : ParamValues) (copies : ℕ) (name : List ℕ) (same : Option ℕ) → NextIsUnheard s → WorldFits s → FitsAfter (follow_row s params copies name same)
unfolding follow_row
by_follow s params copies name (Some f) unheard now = now
by_follow s params copies name None unheard now =
    on_guards FitsAfter s ((nat_le most_followers (length s.followers), TooMany) ∷ []) (with_new_follower s params copies name) (λ why. now)
    (λ few. by_new_follower s params copies name (leb-false most_followers (length s.followers) few.0) unheard now)

by_search : (s : State) (copy : ℕ) (query : Tree) (sort : List SortKey) (c : Option Copy) → WorldFits s → FitsAfter (search_row s copy query sort c)
unfolding search_row
by_search s copy query sort None now = now
by_search s copy query sort (Some c) now = now

by_searched : (s : State) (f : ℕ) (row : Option Copy → Outcome State) (copy : ℕ) (found : Option Follower) → ((c : Option Copy) → FitsAfter (row c)) → WorldFits s
    → FitsAfter (elim found as (λ _. Outcome State) [ None ↦ refused s (NoFollower f) | Some follower ↦ row (copy_of follower.copies copy) ])
by_searched s f row copy None keeps now = now
by_searched s f row copy (Some follower) keeps now = keeps (copy_of follower.copies copy)

-- ---- quiet events of the leader

by_copies : (s : State) (o : Outcome Copies) → o.sent ≡ [] → WorldFits s → FitsAfter (at_leader s (within (with_copies s.leader) o))
by_copies s o silent now = at_leaders s (within (with_copies s.leader) o) now (λ uuid w holds. copies_fit uuid w s.leader o silent holds)

by_sync : (s : State) (copy : ℕ) → WorldFits s → FitsAfter (at_leader s (leader_sync s.leader copy))
by_sync s copy now =
    let o : Outcome Copies = sync_row s.leader.copies copy (replica_of s.leader.copies copy) in
    at_leaders s (leader_sync s.leader copy) now
    (λ uuid w holds. settled_fits uuid w o.reply (within (with_copies s.leader) o) (copies_fit uuid w s.leader o (sync-silent s.leader.copies copy (replica_of s.leader.copies copy)) holds))

by_fail_copy : (s : State) (copy : ℕ) → WorldFits s → FitsAfter (at_leader s (leader_fail_copy s.leader copy))
by_fail_copy s copy now =
    let o : Outcome Leader = leader_fail_copy_row s.leader copy (replica_of s.leader.copies copy) in
    at_leaders s (leader_fail_copy s.leader copy) now (λ uuid w holds. settled_fits uuid w o.reply o (fail_copy_fits uuid w s.leader copy (replica_of s.leader.copies copy) holds))

by_clock : (s : State) (time : ℕ) → WorldFits s → FitsAfter (at_leader s (leader_clock_row s.leader time))
unfolding leader_clock_row
by_clock s time now = at_leaders s (leader_clock_row s.leader time) now (λ uuid w holds. holds)

by_expiry : (s : State) → WorldFits s → FitsAfter (at_leader s (expire_row s.leader))
unfolding expire_row
by_expiry s now = at_leaders s (expire_row s.leader) now (λ uuid w holds. holds)

by_closing : (s : State) → WorldFits s → FitsAfter (at_leader s (close_sessions_row s.leader))
unfolding close_sessions_row
by_closing s now = at_leaders s (close_sessions_row s.leader) now (λ uuid w holds. holds)

by_status : (s : State) → WorldFits s → FitsAfter (at_leader s (leader_status_row s.leader))
unfolding leader_status_row
by_status s now = at_leaders s (leader_status_row s.leader) now (λ uuid w holds. holds)

-- ---- each event

pub each_fits : (s : State) (event : Event) (picks : List ℕ) → AreOrderly s.followers → NextIsUnheard s → WorldFits s → FitsAfter (step s event picks)
each_fits s (events.Write request) picks orderly unheard now =
    by_copies s (write_row s.leader.copies request (source_fault request.body) (live (held s.leader.copies.primary.store) request.id))
    (write-silent s.leader.copies request (source_fault request.body) (live (held s.leader.copies.primary.store) request.id)) now
each_fits s (events.Replicate sides.Leader copy seq) picks orderly unheard now =
    by_copies s (replicate_row s.leader.copies copy seq (replica_of s.leader.copies copy)) (replicate-silent s.leader.copies copy seq (replica_of s.leader.copies copy)) now
each_fits s (events.Replicate (sides.Follower f) copy seq) picks orderly unheard now =
    on_followers s f (λ x. follower_replicate x copy seq) orderly now
    (λ x drawn named. copies_move (uuid_of f) x (replicate_row x.copies copy seq (replica_of x.copies copy)) (replicate-silent x.copies copy seq (replica_of x.copies copy)) named)
each_fits s (events.Ack sides.Leader copy) picks orderly unheard now =
    by_copies s (ack_row s.leader.copies copy (replica_of s.leader.copies copy)) (ack-silent s.leader.copies copy (replica_of s.leader.copies copy)) now
each_fits s (events.Ack (sides.Follower f) copy) picks orderly unheard now =
    on_followers s f (λ x. follower_ack x copy) orderly now
    (λ x drawn named. copies_move (uuid_of f) x (ack_row x.copies copy (replica_of x.copies copy)) (ack-silent x.copies copy (replica_of x.copies copy)) named)
each_fits s (events.Sync sides.Leader copy) picks orderly unheard now = by_sync s copy now
each_fits s (events.Sync (sides.Follower f) copy) picks orderly unheard now =
    on_followers s f (λ x. follower_sync x copy) orderly now
    (λ x drawn named. copies_move (uuid_of f) x (sync_row x.copies copy (replica_of x.copies copy)) (sync-silent x.copies copy (replica_of x.copies copy)) named)
each_fits s (events.Promote sides.Leader copy) picks orderly unheard now =
    at_leaders s (leader_promote s.leader copy) now (λ uuid w holds. promote_fits uuid w s.leader copy (replica_of s.leader.copies copy) holds)
each_fits s (events.Promote (sides.Follower f) copy) picks orderly unheard now =
    on_followers s f (λ x. follower_promote x copy) orderly now
    (λ x drawn named. copies_move (uuid_of f) x (follower_promote_row x.copies copy (replica_of x.copies copy)) (follower_promote-silent x.copies copy (replica_of x.copies copy)) named)
each_fits s (events.ForcePromote copy) picks orderly unheard now =
    at_leaders s (leader_force_promote s.leader copy) now (λ uuid w holds. force_promote_fits uuid w s.leader copy (stale_of s.leader.stale copy) holds)
each_fits s (events.Resync copy) picks orderly unheard now =
    by_copies s (resync_row s.leader.copies copy (replica_of s.leader.copies copy)) (resync-silent s.leader.copies copy (replica_of s.leader.copies copy)) now
each_fits s (events.FailCopy sides.Leader copy) picks orderly unheard now = by_fail_copy s copy now
each_fits s (events.FailCopy (sides.Follower f) copy) picks orderly unheard now =
    on_followers s f (λ x. follower_fail_copy x copy) orderly now
    (λ x drawn named. copies_move (uuid_of f) x (fail_copy_row x.copies copy (replica_of x.copies copy)) (fail_copy-silent x.copies copy (replica_of x.copies copy)) named)
each_fits s (events.AddCopy sides.Leader) picks orderly unheard now = by_copies s (add_copy_row s.leader.copies) (add_copy-silent s.leader.copies) now
each_fits s (events.AddCopy (sides.Follower f)) picks orderly unheard now = on_followers s f follower_add_copy_row orderly now (λ x drawn named. add_copy_moves (uuid_of f) x named)
each_fits s (events.Flush sides.Leader copy) picks orderly unheard now =
    by_copies s (flush_row s.leader.copies copy (copy_of s.leader.copies copy)) (flush-silent s.leader.copies copy (copy_of s.leader.copies copy)) now
each_fits s (events.Flush (sides.Follower f) copy) picks orderly unheard now =
    on_followers s f (λ x. follower_flush x copy) orderly now
    (λ x drawn named. copies_move (uuid_of f) x (flush_row x.copies copy (copy_of x.copies copy)) (flush-silent x.copies copy (copy_of x.copies copy)) named)
each_fits s (events.Merge sides.Leader copy) picks orderly unheard now =
    by_copies s (merge_row s.leader.copies s.leader.start.retention copy picks (copy_of s.leader.copies copy))
    (merge-silent s.leader.copies s.leader.start.retention copy picks (copy_of s.leader.copies copy)) now
each_fits s (events.Merge (sides.Follower f) copy) picks orderly unheard now =
    on_followers s f (λ x. follower_merge x copy picks) orderly now
    (λ x drawn named. copies_move (uuid_of f) x (merge_row x.copies x.retention copy picks (copy_of x.copies copy)) (merge-silent x.copies x.retention copy picks (copy_of x.copies copy)) named)
each_fits s (events.Clock sides.Leader time) picks orderly unheard now = by_clock s time now
each_fits s (events.Clock (sides.Follower f) time) picks orderly unheard now =
    on_followers s f (λ x. follower_clock_row x time) orderly now (λ x drawn named. clock_moves (uuid_of f) x time named)
each_fits s events.Expire picks orderly unheard now = by_expiry s now
each_fits s events.CloseSessions picks orderly unheard now = by_closing s now
each_fits s (events.Tick f) picks orderly unheard now = on_followers s f tick_row orderly now (λ x drawn named. tick_moves (uuid_of f) x named)
each_fits s (events.Deliver at copy keep) picks orderly unheard now = by_delivery s at copy keep (slice_get s.flight at) (copy_of s.leader.copies copy) refl orderly now
each_fits s (events.Drop at) picks orderly unheard now = by_drop s at (slice_get s.flight at) now
each_fits s (events.Wake f at) picks orderly unheard now = by_wake s f at (slice_get s.followers f) now
each_fits s (events.Lose f at) picks orderly unheard now = on_followers s f (λ x. lose_row x at) orderly now (λ x drawn named. lose_moves (uuid_of f) x at named)
each_fits s (events.LoseWrite f write) picks orderly unheard now =
    on_followers s f (λ x. lose_write_row x write (sent_write x.work write)) orderly now (λ x drawn named. lose_write_moves (uuid_of f) x write named)
each_fits s (events.Take f write) picks orderly unheard now =
    on_followers s f (λ x. take_row x write (sent_write x.work write)) orderly now (λ x drawn named. take_moves (uuid_of f) x write (sent_write x.work write) named)
each_fits s (events.Apply f epoch write batch) picks orderly unheard now =
    on_followers s f (λ x. apply_row x epoch write batch (sent_write x.work write)) orderly now
    (λ x drawn named. apply_moves (uuid_of f) x epoch write batch (sent_write x.work write) named)
each_fits s (events.Written f write) picks orderly unheard now =
    on_followers s f (λ x. written_row x write (sent_write x.work write)) orderly now (λ x drawn named. written_moves (uuid_of f) x write named)
each_fits s (events.Renew f) picks orderly unheard now = on_followers s f (λ x. renew_row x (task_of x.work)) orderly now (λ x drawn named. renew_moves (uuid_of f) x drawn named)
each_fits s (events.Follow params copies name) picks orderly unheard now = by_follow s params copies name (same_name s.followers name) unheard now
each_fits s (events.Pause f) picks orderly unheard now = on_followers s f (λ x. pause_row x (task_of x.work)) orderly now (λ x drawn named. pause_moves (uuid_of f) x named)
each_fits s (events.Resume f) picks orderly unheard now = on_followers s f (λ x. resume_row x (task_of x.work)) orderly now (λ x drawn named. resume_moves (uuid_of f) x named)
each_fits s (events.Restart f) picks orderly unheard now = on_followers s f (λ x. restart_row x (task_of x.work)) orderly now (λ x drawn named. restart_moves (uuid_of f) x named)
each_fits s (events.Unfollow f) picks orderly unheard now = on_followers s f (λ x. unfollow_row x (task_of x.work)) orderly now (λ x drawn named. unfollow_moves (uuid_of f) x drawn named)
each_fits s (events.Search sides.Leader copy request) picks orderly unheard now = by_search s copy request.query request.sort (copy_of s.leader.copies copy) now
each_fits s (events.Search (sides.Follower f) copy request) picks orderly unheard now =
    by_searched s f (search_row s copy request.query request.sort) copy (slice_get s.followers f) (λ c. by_search s copy request.query request.sort c now) now
each_fits s (events.Status sides.Leader) picks orderly unheard now = by_status s now
each_fits s (events.Status (sides.Follower f)) picks orderly unheard now = on_followers s f follower_status_row orderly now (λ x drawn named. status_moves (uuid_of f) x named)
each_fits s events.Settle picks orderly unheard now =
    on_guards FitsAfter s ((not (is_settled s), NotSettled) ∷ []) (answered _ s) (λ why. now) (λ tests. now)
