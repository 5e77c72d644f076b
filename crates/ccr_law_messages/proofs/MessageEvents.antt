-- Each event keeps what holds of the messages, the polls, the kept requests and the works.
use Rattle.std.specs.Prelude.{slice_get, remove, nat_le, not}
use Rattle.std.specs.List.{AllByRecursion}
use Rattle.std.proofs.Common.{◌≡◌, ℕ, ◌≤◌, Bool, true, Option, Some, None, List, [], ◌∷◌, length, refl, sym, ◌∙◌, ap, subst}
use Rattle.ccr_wire.specs.Message.{Frame, kind_of_content}
use Rattle.ccr_query.specs.Queries.{Tree}
use Rattle.ccr_query.specs.declared.sorting.SortKey.{SortKey}
use Rattle.ccr_journal.specs.declared.params.ParamValues.{ParamValues}
use Rattle.ccr_journal.specs.declared.sides.Side.TheVariants as sides
use Rattle.ccr_journal.specs.declared.events.Event.{Event}
use Rattle.ccr_journal.specs.declared.events.Event.TheVariants as events
use Rattle.ccr_journal.specs.declared.replies.Refusal.TheVariants.{NoFollower, NotSettled, TooMany}
use Rattle.ccr_model.specs.Operations.{live}
use Rattle.ccr_model.specs.Stores.{held}
use Rattle.ccr_model.specs.Outcomes.{Outcome, refused, answered, within}
use Rattle.ccr_model.specs.Copies.{Copy, Copies, replica_of, copy_of}
use Rattle.ccr_model.specs.CopyRows.{replicate_row, ack_row, sync_row, fail_copy_row, add_copy_row, flush_row, merge_row, follower_promote_row}
use Rattle.ccr_model.specs.Leaders.{Leader, polls_of, session_of, stale_of}
use Rattle.ccr_model.specs.LeaderRows.{with_copies, source_fault, write_row, resync_row, leader_sync, leader_promote, leader_force_promote, leader_fail_copy_row, leader_fail_copy, leader_clock_row, expire_row, close_sessions_row, leader_status_row}
use Rattle.ccr_model.specs.LeaderFrames.{new_session, receive_row, leader_receive, leader_wake}
use Rattle.ccr_model.specs.Followers.{Follower, uuid_of, new_follower}
use Rattle.ccr_model.specs.FollowerRows.{follower_receive_row, lose_row, tick_row, follower_clock_row, sent_write, lose_write_row, take_row, apply_row, written_row, task_of, renew_row, pause_row, resume_row, restart_row, unfollow_row, follower_add_copy_row, follower_replicate, follower_ack, follower_sync, follower_promote, follower_fail_copy, follower_flush, follower_merge, follower_status_row}
use Rattle.ccr_model.specs.World.{State, at_leader, for_follower, goes_to_leader, follower_of, at_named_follower, taken_by_receiver, deliver_row, drop_row, most_followers, with_new_follower, follow_row, same_name, search_row}
use Rattle.ccr_model.specs.Settled.{is_settled}
use Rattle.ccr_model.specs.Step.{step, woken}
use Rattle.ccr_law_messages.specs.Serving.{HasGoodParams}
use Rattle.ccr_law_messages.specs.TrueFrames.{Scene, IsOfFollower, IsGoodFollower, Tells, IsOpen}
use Rattle.ccr_law_messages.proofs.Naming.{named-at}
use Rattle.ccr_law_messages.proofs.Openings.{OpensOne}
use Rattle.ccr_law_messages.proofs.LeaderSessions.{answering-same}
use Rattle.ccr_law_messages.proofs.LeaderSends.{RowTells, Told, CopyBrings, copies-tell, wake-tells, settled-tells, content-tells, promote-tells, force-tells, fail_copy-tells}
use Rattle.ccr_law_messages.proofs.Quiet.{write-silent, replicate-silent, ack-silent, sync-silent, fail_copy-silent, add_copy-silent, flush-silent, merge-silent, follower_promote-silent, resync-silent}
use Rattle.ccr_law_messages.proofs.FollowerRows.{RowGoes, copies-go, receive-goes, lose-goes, tick-goes, clock-goes, lose_write-goes, take-goes, apply-goes, written-goes, renew-goes, unfollow-goes, pause-goes, resume-goes, restart-goes, add_copy-goes, status-goes, new-goes}
use Rattle.ccr_law_messages.proofs.Updating.{true-there, tells-updated, tells-longer}
use Rattle.ccr_law_base.proofs.Lists.{All-append, All-at, All-remove}
use Rattle.ccr_law_base.proofs.Cases.{on_if, on_guards}
use Rattle.ccr_law_base.proofs.Stays.{begins_none}
use Rattle.std.proofs.lemmas.Bool.{leb-false}

abbrev pub TellsIn : Scene → State → Type 0
TellsIn scene s = Tells scene s.followers s.flight s.leader.polls s.leader.kept

abbrev pub TellsAfter : Scene → Outcome State → Type 0
TellsAfter scene o = TellsIn scene o.next

told-by : (scene : Scene) (s : State) → TellsIn scene s → Told scene s.followers s.leader
told-by scene s now = record { sent_ok = tt; polls_ok = now.polls_ok; kept_ok = now.kept_ok }

by-leader : (scene : Scene) (s : State) (o : Outcome Leader) → TellsIn scene s → RowTells scene s.followers o → TellsAfter scene (at_leader s o)
by-leader scene s o now told = record {
  flight_ok = All-append (IsOfFollower scene s.followers) s.flight o.sent now.flight_ok told.sent_ok;
  polls_ok = told.polls_ok;
  kept_ok = told.kept_ok;
  works = now.works;
  few = now.few;
}

by-follower : (scene : Scene) (s : State) (f : ℕ) (row : Follower → Outcome Follower) (found : Option Follower) → slice_get s.followers f ≡ found → TellsIn scene s
    → ((x : Follower) → slice_get s.followers f ≡ Some x → IsGoodFollower scene f x → RowGoes scene f x (row x)) → TellsAfter scene (for_follower s f row found)
by-follower scene s f row None at now goes = now
by-follower scene s f row (Some x) at now goes =
    tells-updated scene s.followers s.flight s.leader.polls s.leader.kept f x (row x).next (row x).sent at (goes x at (now.works f x at)) now

-- an event of a follower
on-followers : (scene : Scene) (s : State) (f : ℕ) (row : Follower → Outcome Follower) → TellsIn scene s
    → ((x : Follower) → IsGoodFollower scene f x → RowGoes scene f x (row x)) → TellsAfter scene (for_follower s f row (slice_get s.followers f))
on-followers scene s f row now goes = by-follower scene s f row (slice_get s.followers f) refl now (λ x at good. goes x good)

-- ---- what the leader's stores give, and what it opens

pub record Serves (scene : Scene) (l : Leader) : Type 0 where
  pub brings : (copy : ℕ) (c : Copy) → copy_of l.copies copy ≡ Some c → CopyBrings (scene.lines l.history) c
  pub still : AllByRecursion (IsOpen scene.opened l.next_session) l.sessions
  pub same_history : scene.opened_in l.next_session ≡ l.history

-- where it opens a session, this is found under its number
abbrev pub FindsNew : Scene → Leader → Leader → Type 0
FindsNew scene l next = OpensOne l next.next_session next.sessions → session_of scene.opened l.next_session ≡ Some (new_session l)

-- ---- messages

by-named : (scene : Scene) (s : State) (m : Frame) → TellsIn scene s → IsOfFollower scene s.followers m → TellsAfter scene (at_named_follower s m (follower_of s.followers m.follower))
by-named scene s m now of =
    let named : follower_of s.followers m.follower ≡ Some of.number =
    ap (λ (uuid : List ℕ). follower_of s.followers uuid) of.truth.named ∙ named-at s.followers of.number of.follower now.few of.there in
    subst (λ (found : Option ℕ). TellsAfter scene (at_named_follower s m found)) (sym named)
    (by-follower scene s of.number (λ x. follower_receive_row x m) (slice_get s.followers of.number) refl now
    (λ x at good. receive-goes scene of.number x m (true-there scene s.followers m of x at) good))

by-receiver : (scene : Scene) (s : State) (copy : ℕ) (m : Frame) → Serves scene s.leader → TellsIn scene s → IsOfFollower scene s.followers m
    → FindsNew scene s.leader (taken_by_receiver s copy m).next.leader → TellsAfter scene (taken_by_receiver s copy m)
by-receiver scene s copy m serves now of =
    on_if (λ (o : Outcome State). FindsNew scene s.leader o.next.leader → TellsAfter scene o) (goes_to_leader (kind_of_content m.content)) (at_leader s (leader_receive s.leader copy m))
    (at_named_follower s m (follower_of s.followers m.follower))
    (λ is finds. by-leader scene s (leader_receive s.leader copy m) now
    (settled-tells scene s.followers (receive_row s.leader copy m).reply (receive_row s.leader copy m)
    (content-tells scene s.followers s.leader copy m.follower m.request m.content serves.brings serves.still
    (λ one. finds (answering-same (λ (next : Leader). OpensOne s.leader next.next_session next.sessions) (λ l kept it. it) (receive_row s.leader copy m).reply (receive_row s.leader copy m) one))
    serves.same_history of (told-by scene s now))))
    (λ isnt finds. by-named scene s m now of)

removed : (scene : Scene) (s : State) (at : ℕ) → TellsIn scene s → TellsIn scene (record s { flight = remove s.flight at })
removed scene s at now = record {
  flight_ok = All-remove (IsOfFollower scene s.followers) s.flight at now.flight_ok;
  polls_ok = now.polls_ok;
  kept_ok = now.kept_ok;
  works = now.works;
  few = now.few;
}

by-delivery : (scene : Scene) (s : State) (at copy : ℕ) (keep : Bool) (found : Option Frame) (c : Option Copy) → slice_get s.flight at ≡ found → Serves scene s.leader → TellsIn scene s
    → FindsNew scene s.leader (deliver_row s at copy keep found c).next.leader → TellsAfter scene (deliver_row s at copy keep found c)
unfolding deliver_row
by-delivery scene s at copy keep None c is serves now finds = now
by-delivery scene s at copy keep (Some m) None is serves now finds = now
by-delivery scene s at copy keep (Some m) (Some c) is serves now finds =
    let of : IsOfFollower scene s.followers m = All-at (IsOfFollower scene s.followers) s.flight at m now.flight_ok is in
    on_if (λ (t : State). FindsNew scene s.leader (taken_by_receiver t copy m).next.leader → TellsAfter scene (taken_by_receiver t copy m)) keep s (record s { flight = remove s.flight at })
    (λ kept found. by-receiver scene s copy m serves now of found)
    (λ left found. by-receiver scene (record s { flight = remove s.flight at }) copy m serves (removed scene s at now) of found) finds

by-drop : (scene : Scene) (s : State) (at : ℕ) (found : Option Frame) → TellsIn scene s → TellsAfter scene (drop_row s at found)
unfolding drop_row
by-drop scene s at None now = now
by-drop scene s at (Some m) now = removed scene s at now

by-wake : (scene : Scene) (s : State) (f at : ℕ) (found : Option Follower) → Serves scene s.leader → TellsIn scene s → TellsAfter scene (woken s f at found)
by-wake scene s f at None serves now = now
by-wake scene s f at (Some follower) serves now =
    by-leader scene s (leader_wake s.leader (uuid_of f) at) now
    (wake-tells scene s.followers s.leader (uuid_of f) at (slice_get (polls_of s.leader.polls (uuid_of f)) at) refl serves.brings (told-by scene s now))

-- ---- new followers, searches

by-follow : (scene : Scene) (s : State) (params : ParamValues) (copies : ℕ) (name : List ℕ) (same : Option ℕ) → 1 ≤ params.max_read_request_operation_count → TellsIn scene s
    → TellsAfter scene (follow_row s params copies name same)
unfolding follow_row
by-follow scene s params copies name (Some f) some now = now
by-follow scene s params copies name None some now =
    on_guards (TellsAfter scene) s ((nat_le most_followers (length s.followers), TooMany) ∷ []) (with_new_follower s params copies name) (λ why. now)
    (λ few. tells-longer scene s.followers s.flight s.leader.polls s.leader.kept (new_follower (length s.followers) params copies name s.leader.history s.leader.start.retention)
    (leb-false most_followers (length s.followers) few.0) (new-goes scene (length s.followers) params copies name s.leader.history s.leader.start.retention some) now)

by-search : (scene : Scene) (s : State) (copy : ℕ) (query : Tree) (sort : List SortKey) (c : Option Copy) → TellsIn scene s → TellsAfter scene (search_row s copy query sort c)
unfolding search_row
by-search scene s copy query sort None now = now
by-search scene s copy query sort (Some c) now = now

by-searched : (scene : Scene) (s : State) (f : ℕ) (row : Option Copy → Outcome State) (copy : ℕ) (found : Option Follower) → ((c : Option Copy) → TellsAfter scene (row c)) → TellsIn scene s
    → TellsAfter scene (elim found as (λ _. Outcome State) [ None ↦ refused s (NoFollower f) | Some follower ↦ row (copy_of follower.copies copy) ])
by-searched scene s f row copy None keeps now = now
by-searched scene s f row copy (Some follower) keeps now = keeps (copy_of follower.copies copy)

-- ---- quiet events of the leader

by-copies : (scene : Scene) (s : State) (o : Outcome Copies) → o.sent ≡ [] → TellsIn scene s → TellsAfter scene (at_leader s (within (with_copies s.leader) o))
by-copies scene s o silent now = by-leader scene s (within (with_copies s.leader) o) now (copies-tell scene s.followers s.leader o silent (told-by scene s now))

by-sync : (scene : Scene) (s : State) (copy : ℕ) → TellsIn scene s → TellsAfter scene (at_leader s (leader_sync s.leader copy))
by-sync scene s copy now =
    let o : Outcome Copies = sync_row s.leader.copies copy (replica_of s.leader.copies copy) in
    by-leader scene s (leader_sync s.leader copy) now
    (settled-tells scene s.followers o.reply (within (with_copies s.leader) o)
    (copies-tell scene s.followers s.leader o (sync-silent s.leader.copies copy (replica_of s.leader.copies copy)) (told-by scene s now)))

by-fail_copy : (scene : Scene) (s : State) (copy : ℕ) → TellsIn scene s → TellsAfter scene (at_leader s (leader_fail_copy s.leader copy))
by-fail_copy scene s copy now =
    let o : Outcome Leader = leader_fail_copy_row s.leader copy (replica_of s.leader.copies copy) in
    by-leader scene s (leader_fail_copy s.leader copy) now
    (settled-tells scene s.followers o.reply o (fail_copy-tells scene s.followers s.leader copy (replica_of s.leader.copies copy) (told-by scene s now)))

by-clock : (scene : Scene) (s : State) (now_is : ℕ) → TellsIn scene s → TellsAfter scene (at_leader s (leader_clock_row s.leader now_is))
unfolding leader_clock_row
by-clock scene s now_is now = by-leader scene s (leader_clock_row s.leader now_is) now (told-by scene s now)

by-expiry : (scene : Scene) (s : State) → TellsIn scene s → TellsAfter scene (at_leader s (expire_row s.leader))
unfolding expire_row
by-expiry scene s now = by-leader scene s (expire_row s.leader) now (told-by scene s now)

by-closing : (scene : Scene) (s : State) → TellsIn scene s → TellsAfter scene (at_leader s (close_sessions_row s.leader))
unfolding close_sessions_row
by-closing scene s now = by-leader scene s (close_sessions_row s.leader) now (told-by scene s now)

by-status : (scene : Scene) (s : State) → TellsIn scene s → TellsAfter scene (at_leader s (leader_status_row s.leader))
unfolding leader_status_row
by-status scene s now = by-leader scene s (leader_status_row s.leader) now (told-by scene s now)

-- ---- each event

pub each-tells : (scene : Scene) (s : State) (event : Event) (picks : List ℕ) → (begins_none event ≡ true → Serves scene s.leader) → FindsNew scene s.leader (step s event picks).next.leader → HasGoodParams event
    → TellsIn scene s → TellsAfter scene (step s event picks)
each-tells scene s (events.Write request) picks serves finds params now =
    by-copies scene s (write_row s.leader.copies request (source_fault request.body) (live (held s.leader.copies.primary.store) request.id))
    (write-silent s.leader.copies request (source_fault request.body) (live (held s.leader.copies.primary.store) request.id)) now
each-tells scene s (events.Replicate sides.Leader copy seq) picks serves finds params now =
    by-copies scene s (replicate_row s.leader.copies copy seq (replica_of s.leader.copies copy)) (replicate-silent s.leader.copies copy seq (replica_of s.leader.copies copy)) now
each-tells scene s (events.Replicate (sides.Follower f) copy seq) picks serves finds params now =
    on-followers scene s f (λ x. follower_replicate x copy seq) now (λ x good. copies-go scene f x (replicate_row x.copies copy seq (replica_of x.copies copy)) (replicate-silent x.copies copy seq (replica_of x.copies copy)) good)
each-tells scene s (events.Ack sides.Leader copy) picks serves finds params now =
    by-copies scene s (ack_row s.leader.copies copy (replica_of s.leader.copies copy)) (ack-silent s.leader.copies copy (replica_of s.leader.copies copy)) now
each-tells scene s (events.Ack (sides.Follower f) copy) picks serves finds params now =
    on-followers scene s f (λ x. follower_ack x copy) now (λ x good. copies-go scene f x (ack_row x.copies copy (replica_of x.copies copy)) (ack-silent x.copies copy (replica_of x.copies copy)) good)
each-tells scene s (events.Sync sides.Leader copy) picks serves finds params now = by-sync scene s copy now
each-tells scene s (events.Sync (sides.Follower f) copy) picks serves finds params now =
    on-followers scene s f (λ x. follower_sync x copy) now (λ x good. copies-go scene f x (sync_row x.copies copy (replica_of x.copies copy)) (sync-silent x.copies copy (replica_of x.copies copy)) good)
each-tells scene s (events.Promote sides.Leader copy) picks serves finds params now =
    by-leader scene s (leader_promote s.leader copy) now (promote-tells scene s.followers s.leader copy (replica_of s.leader.copies copy) (told-by scene s now))
each-tells scene s (events.Promote (sides.Follower f) copy) picks serves finds params now =
    on-followers scene s f (λ x. follower_promote x copy) now
    (λ x good. copies-go scene f x (follower_promote_row x.copies copy (replica_of x.copies copy)) (follower_promote-silent x.copies copy (replica_of x.copies copy)) good)
each-tells scene s (events.ForcePromote copy) picks serves finds params now =
    by-leader scene s (leader_force_promote s.leader copy) now (force-tells scene s.followers s.leader copy (stale_of s.leader.stale copy) (told-by scene s now))
each-tells scene s (events.Resync copy) picks serves finds params now =
    by-copies scene s (resync_row s.leader.copies copy (replica_of s.leader.copies copy)) (resync-silent s.leader.copies copy (replica_of s.leader.copies copy)) now
each-tells scene s (events.FailCopy sides.Leader copy) picks serves finds params now = by-fail_copy scene s copy now
each-tells scene s (events.FailCopy (sides.Follower f) copy) picks serves finds params now =
    on-followers scene s f (λ x. follower_fail_copy x copy) now (λ x good. copies-go scene f x (fail_copy_row x.copies copy (replica_of x.copies copy)) (fail_copy-silent x.copies copy (replica_of x.copies copy)) good)
each-tells scene s (events.AddCopy sides.Leader) picks serves finds params now = by-copies scene s (add_copy_row s.leader.copies) (add_copy-silent s.leader.copies) now
each-tells scene s (events.AddCopy (sides.Follower f)) picks serves finds params now = on-followers scene s f follower_add_copy_row now (λ x good. add_copy-goes scene f x good)
each-tells scene s (events.Flush sides.Leader copy) picks serves finds params now =
    by-copies scene s (flush_row s.leader.copies copy (copy_of s.leader.copies copy)) (flush-silent s.leader.copies copy (copy_of s.leader.copies copy)) now
each-tells scene s (events.Flush (sides.Follower f) copy) picks serves finds params now =
    on-followers scene s f (λ x. follower_flush x copy) now (λ x good. copies-go scene f x (flush_row x.copies copy (copy_of x.copies copy)) (flush-silent x.copies copy (copy_of x.copies copy)) good)
each-tells scene s (events.Merge sides.Leader copy) picks serves finds params now =
    by-copies scene s (merge_row s.leader.copies s.leader.start.retention copy picks (copy_of s.leader.copies copy))
    (merge-silent s.leader.copies s.leader.start.retention copy picks (copy_of s.leader.copies copy)) now
each-tells scene s (events.Merge (sides.Follower f) copy) picks serves finds params now =
    on-followers scene s f (λ x. follower_merge x copy picks) now
    (λ x good. copies-go scene f x (merge_row x.copies x.retention copy picks (copy_of x.copies copy)) (merge-silent x.copies x.retention copy picks (copy_of x.copies copy)) good)
each-tells scene s (events.Clock sides.Leader time) picks serves finds params now = by-clock scene s time now
each-tells scene s (events.Clock (sides.Follower f) time) picks serves finds params now = on-followers scene s f (λ x. follower_clock_row x time) now (λ x good. clock-goes scene f x time good)
each-tells scene s events.Expire picks serves finds params now = by-expiry scene s now
each-tells scene s events.CloseSessions picks serves finds params now = by-closing scene s now
each-tells scene s (events.Tick f) picks serves finds params now = on-followers scene s f tick_row now (λ x good. tick-goes scene f x good)
each-tells scene s (events.Deliver at copy keep) picks serves finds params now =
    by-delivery scene s at copy keep (slice_get s.flight at) (copy_of s.leader.copies copy) refl (serves refl) now finds
each-tells scene s (events.Drop at) picks serves finds params now = by-drop scene s at (slice_get s.flight at) now
each-tells scene s (events.Wake f at) picks serves finds params now = by-wake scene s f at (slice_get s.followers f) (serves refl) now
each-tells scene s (events.Lose f at) picks serves finds params now = on-followers scene s f (λ x. lose_row x at) now (λ x good. lose-goes scene f x at good)
each-tells scene s (events.LoseWrite f write) picks serves finds params now =
    on-followers scene s f (λ x. lose_write_row x write (sent_write x.work write)) now (λ x good. lose_write-goes scene f x write good)
each-tells scene s (events.Take f write) picks serves finds params now =
    on-followers scene s f (λ x. take_row x write (sent_write x.work write)) now (λ x good. take-goes scene f x write (sent_write x.work write) good)
each-tells scene s (events.Apply f epoch write batch) picks serves finds params now =
    on-followers scene s f (λ x. apply_row x epoch write batch (sent_write x.work write)) now (λ x good. apply-goes scene f x epoch write batch (sent_write x.work write) good)
each-tells scene s (events.Written f write) picks serves finds params now =
    on-followers scene s f (λ x. written_row x write (sent_write x.work write)) now (λ x good. written-goes scene f x write good)
each-tells scene s (events.Renew f) picks serves finds params now = on-followers scene s f (λ x. renew_row x (task_of x.work)) now (λ x good. renew-goes scene f x good)
each-tells scene s (events.Follow params copies name) picks serves finds good_params now =
    by-follow scene s params copies name (same_name s.followers name) good_params.max_read_request_operation_count.some now
each-tells scene s (events.Pause f) picks serves finds params now = on-followers scene s f (λ x. pause_row x (task_of x.work)) now (λ x good. pause-goes scene f x good)
each-tells scene s (events.Resume f) picks serves finds params now = on-followers scene s f (λ x. resume_row x (task_of x.work)) now (λ x good. resume-goes scene f x good)
each-tells scene s (events.Restart f) picks serves finds params now = on-followers scene s f (λ x. restart_row x (task_of x.work)) now (λ x good. restart-goes scene f x good)
each-tells scene s (events.Unfollow f) picks serves finds params now = on-followers scene s f (λ x. unfollow_row x (task_of x.work)) now (λ x good. unfollow-goes scene f x good)
each-tells scene s (events.Search sides.Leader copy request) picks serves finds params now = by-search scene s copy request.query request.sort (copy_of s.leader.copies copy) now
each-tells scene s (events.Search (sides.Follower f) copy request) picks serves finds params now =
    by-searched scene s f (search_row s copy request.query request.sort) copy (slice_get s.followers f) (λ c. by-search scene s copy request.query request.sort c now) now
each-tells scene s (events.Status sides.Leader) picks serves finds params now = by-status scene s now
each-tells scene s (events.Status (sides.Follower f)) picks serves finds params now = on-followers scene s f follower_status_row now (λ x good. status-goes scene f x good)
each-tells scene s events.Settle picks serves finds params now =
    on_guards (TellsAfter scene) s ((not (is_settled s), NotSettled) ∷ []) (answered _ s) (λ why. now) (λ tests. now)
