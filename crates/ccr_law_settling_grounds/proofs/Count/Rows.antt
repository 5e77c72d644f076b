-- Each event leaves the messages in flight and the tasks within what is committed.
use Rattle.std.specs.Prelude.{◌==◌, slice_get, remove}
use Rattle.std.specs.List.{AllByRecursion}
use Rattle.std.proofs.Common.{◌≡◌, ◌⊎◌, inl, inr, ℕ, ◌≤◌, Bool, true, false, List, [], ◌∷◌, ◌++◌, length, Option, Some, None, refl, sym, ◌∙◌, subst}
use Rattle.std.proofs.lemmas.Bool.{eqb-true}
use Rattle.ccr_wire.specs.Message.{Frame, kind_of_content}
use Rattle.ccr_query.specs.Queries.{Tree}
use Rattle.ccr_query.specs.declared.sorting.SortKey.{SortKey}
use Rattle.ccr_journal.specs.declared.params.ParamValues.{ParamValues}
use Rattle.ccr_journal.specs.declared.sides.Side.TheVariants as sides
use Rattle.ccr_journal.specs.declared.events.Event.{Event}
use Rattle.ccr_journal.specs.declared.events.Event.TheVariants as events
use Rattle.ccr_journal.specs.declared.replies.Refusal.TheVariants.{NoFollower}
use Rattle.ccr_model.specs.Operations.{live}
use Rattle.ccr_model.specs.Stores.{held}
use Rattle.ccr_model.specs.Outcomes.{Outcome, refused, within}
use Rattle.ccr_model.specs.Copies.{Copy, replica_of, copy_of}
use Rattle.ccr_model.specs.CopyRows.{sync_row}
use Rattle.ccr_model.specs.Requests.{Sending}
use Rattle.ccr_model.specs.Leaders.{Leader, Poll, stale_of}
use Rattle.ccr_model.specs.LeaderRows.{with_copies, source_fault, leader_fail_copy_row, leader_write, leader_replicate, leader_ack, leader_sync, leader_promote, leader_force_promote, leader_resync, leader_fail_copy, leader_add_copy, leader_flush, leader_merge, leader_clock, leader_expire, leader_close_sessions, leader_status}
use Rattle.ccr_model.specs.LeaderFrames.{leader_receive, leader_wake}
use Rattle.ccr_model.specs.Followers.{Follower, uuid_of, new_follower}
use Rattle.ccr_model.specs.FollowerRows.{follower_receive_row, lose_row, tick_row, follower_clock_row, sent_write, lose_write_row, take_row, apply_row, written_row, task_of, renew_row, pause_row, resume_row, restart_row, unfollow_row, follower_add_copy_row, follower_replicate, follower_ack, follower_sync, follower_promote, follower_fail_copy, follower_flush, follower_merge, follower_status_row}
use Rattle.ccr_model.specs.World.{State, at_leader, for_follower, goes_to_leader, follower_of, at_named_follower, taken_by_receiver, deliver_row, drop_row, with_new_follower, follow_row, same_name, search_row}
use Rattle.ccr_model.specs.Step.{step, woken}
use Rattle.ccr_law_base.proofs.Cases.{on_if, on_guards}
use Rattle.ccr_law_base.proofs.Lists.{All-at, All-append, All-remove, some_equal}
use Rattle.ccr_law_followers.proofs.Join.{set_at}
use Rattle.ccr_law_followers.proofs.Events.{push_new, push_old}
use Rattle.ccr_law_settling_grounds.specs.KnownCounts.{IsWorkWithin}
use Rattle.ccr_law_settling_grounds.proofs.Count.Within.{Sends, Tells, IsSilent, silent_tell}
use Rattle.ccr_law_settling_grounds.proofs.Count.Answering.{MayHear, AsksFairly, wake_tells, settling_tells, leader_receives_tells, write_sends, replicate_sends, ack_sends, sync_sends, fail_copy_sends, add_copy_sends, flush_sends, merge_sends, promote_sends, resync_sends, leader_promote_sends, force_promote_sends, leader_fail_copy_sends, leader_clock_sends, expire_sends, close_sessions_sends, leader_status_sends}
use Rattle.ccr_law_settling_grounds.proofs.Count.Followers.{RowWithin, SaysWithin, lose_within, tick_within, clock_within, lose_write_within, take_within, apply_within, written_within, renew_within, pause_within, resume_within, restart_within, unfollow_within, follower_add_copy_within, status_within, receive_within}

-- what replies in flight tell, and what tasks know and have asked for: of each follower it is within a count of its own
pub record IsWithin (told : List ℕ → ℕ → Type 0) (cuts : ℕ → ℕ) (s : State) : Type 0 where
  pub replies : AllByRecursion (Tells told) s.flight
  pub works : (f : ℕ) (x : Follower) → slice_get s.followers f ≡ Some x → IsWorkWithin (cuts f) x.work

abbrev pub StaysWithin : (List ℕ → ℕ → Type 0) → (ℕ → ℕ) → Outcome State → Type 0
StaysWithin told cuts o = IsWithin told cuts o.next

-- what the leader's copies, the followers' primaries and the messages in flight say is within these counts
pub record IsSaidWithin (told : List ℕ → ℕ → Type 0) (cuts : ℕ → ℕ) (s : State) : Type 0 where
  pub requests : AllByRecursion (λ (m : Frame). AsksFairly told s.leader m.follower m.content) s.flight
  pub polls : AllByRecursion (λ (p : Poll). MayHear told s.leader p.follower p.history) s.leader.polls
  pub primaries : (f : ℕ) (x : Follower) → slice_get s.followers f ≡ Some x → x.copies.primary.global ≤ cuts f
  pub messages : (at f : ℕ) (m : Frame) (x : Follower) → slice_get s.flight at ≡ Some m → follower_of s.followers m.follower ≡ Some f → slice_get s.followers f ≡ Some x
      → SaysWithin (cuts f) x m

-- ---- the two sides

leader_within : (told : List ℕ → ℕ → Type 0) (cuts : ℕ → ℕ) (s : State) (o : Outcome Leader) → IsWithin told cuts s → Sends (Tells told) o → StaysWithin told cuts (at_leader s o)
leader_within told cuts s o is sends = record { replies = All-append (Tells told) s.flight o.sent is.replies sends; works = is.works }

row_within : (told : List ℕ → ℕ → Type 0) (cuts : ℕ → ℕ) (s : State) (f : ℕ) (row : Follower → Outcome Follower) (found : Option Follower) → slice_get s.followers f ≡ found → IsWithin told cuts s
    → ((x : Follower) → slice_get s.followers f ≡ Some x → IsWorkWithin (cuts f) x.work → RowWithin (cuts f) (row x)) → StaysWithin told cuts (for_follower s f row found)
row_within told cuts s f row None at is rows = is
row_within told cuts s f row (Some x) at is rows =
    let own : RowWithin (cuts f) (row x) = rows x at (is.works f x at) in
    record {
      replies = All-append (Tells told) s.flight (row x).sent is.replies (silent_tell told (row x).sent own.sends);
      works = λ k new there. by_place own k new (set_at s.followers f (row x).next k new there);
    }
  where
    by_place : RowWithin (cuts f) (row x) → (k : ℕ) (new : Follower)
        → (((f == k) ≡ true) × ((row x).next ≡ new)) ⊎ (((f == k) ≡ false) × (slice_get s.followers k ≡ Some new)) → IsWorkWithin (cuts k) new.work
    by_place own k new (inl same) =
        subst (λ (j : ℕ). IsWorkWithin (cuts j) new.work) (eqb-true f k same.0) (subst (λ (y : Follower). IsWorkWithin (cuts f) y.work) same.1 own.work)
    by_place own k new (inr other) = is.works k new other.1

-- an event of a follower
follower_within : (told : List ℕ → ℕ → Type 0) (cuts : ℕ → ℕ) (s : State) (f : ℕ) (row : Follower → Outcome Follower) → IsWithin told cuts s
    → ((x : Follower) → slice_get s.followers f ≡ Some x → IsWorkWithin (cuts f) x.work → RowWithin (cuts f) (row x)) → StaysWithin told cuts (for_follower s f row (slice_get s.followers f))
follower_within told cuts s f row is rows = row_within told cuts s f row (slice_get s.followers f) refl is rows

-- ---- messages

removed_within : (told : List ℕ → ℕ → Type 0) (cuts : ℕ → ℕ) (s : State) (at : ℕ) → IsWithin told cuts s → IsWithin told cuts (record s { flight = remove s.flight at })
removed_within told cuts s at is = record { replies = All-remove (Tells told) s.flight at is.replies; works = is.works }

-- what the message says to the follower that it names
abbrev SaysTo : (ℕ → ℕ) → State → Frame → Type 0
SaysTo cuts s m = (f : ℕ) (x : Follower) → follower_of s.followers m.follower ≡ Some f → slice_get s.followers f ≡ Some x → SaysWithin (cuts f) x m

named_within : (told : List ℕ → ℕ → Type 0) (cuts : ℕ → ℕ) (s : State) (m : Frame) (named : Option ℕ) → follower_of s.followers m.follower ≡ named → SaysTo cuts s m → IsWithin told cuts s
    → StaysWithin told cuts (at_named_follower s m named)
named_within told cuts s m None at says is = is
named_within told cuts s m (Some f) at says is = follower_within told cuts s f (λ x. follower_receive_row x m) is (λ x there own. receive_within (cuts f) x m (says f x at there) own)

taken_within : (told : List ℕ → ℕ → Type 0) (cuts : ℕ → ℕ) (s : State) (copy : ℕ) (m : Frame) → AsksFairly told s.leader m.follower m.content → SaysTo cuts s m → IsWithin told cuts s → StaysWithin told cuts (taken_by_receiver s copy m)
taken_within told cuts s copy m fair says is =
    on_if (StaysWithin told cuts) (goes_to_leader (kind_of_content m.content)) (at_leader s (leader_receive s.leader copy m)) (at_named_follower s m (follower_of s.followers m.follower))
    (λ goes. leader_within told cuts s (leader_receive s.leader copy m) is (leader_receives_tells told s.leader copy m fair))
    (λ comes. named_within told cuts s m (follower_of s.followers m.follower) refl says is)

delivered_within : (told : List ℕ → ℕ → Type 0) (cuts : ℕ → ℕ) (s : State) (at copy : ℕ) (keep : Bool) (found : Option Frame) (c : Option Copy) → slice_get s.flight at ≡ found → IsSaidWithin told cuts s → IsWithin told cuts s
    → StaysWithin told cuts (deliver_row s at copy keep found c)
unfolding deliver_row
delivered_within told cuts s at copy keep None c there said is = is
delivered_within told cuts s at copy keep (Some m) None there said is = is
delivered_within told cuts s at copy keep (Some m) (Some c) there said is =
    let says : SaysTo cuts s m = λ f x named own. said.messages at f m x there named own in
    let fair : AsksFairly told s.leader m.follower m.content = All-at (λ (x : Frame). AsksFairly told s.leader x.follower x.content) s.flight at m said.requests there in
    on_if (λ (t : State). StaysWithin told cuts (taken_by_receiver t copy m)) keep s (record s { flight = remove s.flight at })
    (λ kept. taken_within told cuts s copy m fair says is) (λ leaves. taken_within told cuts (record s { flight = remove s.flight at }) copy m fair says (removed_within told cuts s at is))

dropped_within : (told : List ℕ → ℕ → Type 0) (cuts : ℕ → ℕ) (s : State) (at : ℕ) (found : Option Frame) → IsWithin told cuts s → StaysWithin told cuts (drop_row s at found)
unfolding drop_row
dropped_within told cuts s at None is = is
dropped_within told cuts s at (Some m) is = removed_within told cuts s at is

woken_within : (told : List ℕ → ℕ → Type 0) (cuts : ℕ → ℕ) (s : State) (f at : ℕ) (found : Option Follower) → AllByRecursion (λ (p : Poll). MayHear told s.leader p.follower p.history) s.leader.polls → IsWithin told cuts s → StaysWithin told cuts (woken s f at found)
woken_within told cuts s f at None polls is = is
woken_within told cuts s f at (Some x) polls is = leader_within told cuts s (leader_wake s.leader (uuid_of f) at) is (wake_tells told s.leader (uuid_of f) at polls)

-- ---- new followers, searches

follow_within : (told : List ℕ → ℕ → Type 0) (cuts : ℕ → ℕ) (s : State) (params : ParamValues) (copies : ℕ) (name : List ℕ) (same : Option ℕ) → IsWithin told cuts s → StaysWithin told cuts (follow_row s params copies name same)
unfolding follow_row
follow_within told cuts s params copies name (Some f) is = is
follow_within told cuts s params copies name None is =
    on_guards (StaysWithin told cuts) s _ (with_new_follower s params copies name) (λ why. is)
    (λ tests. record {
      replies = All-append (Tells told) s.flight made.sent is.replies (tt, tt);
      works = λ f new at. by_old f new at (slice_get s.followers f) refl;
    })
  where
    made : Sending Follower
    made = new_follower (length s.followers) params copies name s.leader.history s.leader.start.retention

    by_old : (f : ℕ) (new : Follower) → slice_get (s.followers ++ made.next ∷ []) f ≡ Some new → (old : Option Follower) → slice_get s.followers f ≡ old → IsWorkWithin (cuts f) new.work
    by_old f new at None none = subst (λ (x : Follower). IsWorkWithin (cuts f) x.work) (push_new s.followers made.next f new none at) tt
    by_old f new at (Some x) there =
        subst (λ (y : Follower). IsWorkWithin (cuts f) y.work) (some_equal x new (sym (push_old s.followers made.next f x there) ∙ at)) (is.works f x there)

search_within : (told : List ℕ → ℕ → Type 0) (cuts : ℕ → ℕ) (s : State) (copy : ℕ) (query : Tree) (sort : List SortKey) (c : Option Copy) → IsWithin told cuts s → StaysWithin told cuts (search_row s copy query sort c)
unfolding search_row
search_within told cuts s copy query sort None is = is
search_within told cuts s copy query sort (Some c) is = is

searched_within : (told : List ℕ → ℕ → Type 0) (cuts : ℕ → ℕ) (s : State) (f : ℕ) (row : Option Copy → Outcome State) (copy : ℕ) (found : Option Follower) → ((c : Option Copy) → StaysWithin told cuts (row c)) → IsWithin told cuts s
    → StaysWithin told cuts (elim found as (λ _. Outcome State) [ None ↦ refused s (NoFollower f) | Some follower ↦ row (copy_of follower.copies copy) ])
searched_within told cuts s f row copy None keeps is = is
searched_within told cuts s f row copy (Some x) keeps is = keeps (copy_of x.copies copy)

-- ---- each event

pub each_within : (told : List ℕ → ℕ → Type 0) (cuts : ℕ → ℕ) (s : State) (event : Event) (picks : List ℕ) → IsSaidWithin told cuts s → IsWithin told cuts s → StaysWithin told cuts (step s event picks)
each_within told cuts s (events.Write request) picks said is =
    leader_within told cuts s (leader_write s.leader request) is (write_sends (Tells told) s.leader.copies request (source_fault request.body) (live (held s.leader.copies.primary.store) request.id))
each_within told cuts s (events.Replicate sides.Leader copy seq) picks said is =
    leader_within told cuts s (leader_replicate s.leader copy seq) is (replicate_sends (Tells told) s.leader.copies copy seq (replica_of s.leader.copies copy))
each_within told cuts s (events.Replicate (sides.Follower f) copy seq) picks said is =
    follower_within told cuts s f (λ x. follower_replicate x copy seq) is (λ x at own. record { work = own; sends = replicate_sends IsSilent x.copies copy seq (replica_of x.copies copy) })
each_within told cuts s (events.Ack sides.Leader copy) picks said is = leader_within told cuts s (leader_ack s.leader copy) is (ack_sends (Tells told) s.leader.copies copy (replica_of s.leader.copies copy))
each_within told cuts s (events.Ack (sides.Follower f) copy) picks said is =
    follower_within told cuts s f (λ x. follower_ack x copy) is (λ x at own. record { work = own; sends = ack_sends IsSilent x.copies copy (replica_of x.copies copy) })
each_within told cuts s (events.Sync sides.Leader copy) picks said is =
    leader_within told cuts s (leader_sync s.leader copy) is
    (settling_tells told (within (with_copies s.leader) (sync_row s.leader.copies copy (replica_of s.leader.copies copy))) (sync_sends (Tells told) s.leader.copies copy (replica_of s.leader.copies copy)))
each_within told cuts s (events.Sync (sides.Follower f) copy) picks said is =
    follower_within told cuts s f (λ x. follower_sync x copy) is (λ x at own. record { work = own; sends = sync_sends IsSilent x.copies copy (replica_of x.copies copy) })
each_within told cuts s (events.Promote sides.Leader copy) picks said is =
    leader_within told cuts s (leader_promote s.leader copy) is (leader_promote_sends (Tells told) s.leader copy (replica_of s.leader.copies copy))
each_within told cuts s (events.Promote (sides.Follower f) copy) picks said is =
    follower_within told cuts s f (λ x. follower_promote x copy) is (λ x at own. record { work = own; sends = promote_sends IsSilent x.copies copy (replica_of x.copies copy) })
each_within told cuts s (events.ForcePromote copy) picks said is =
    leader_within told cuts s (leader_force_promote s.leader copy) is (force_promote_sends (Tells told) s.leader copy (stale_of s.leader.stale copy))
each_within told cuts s (events.Resync copy) picks said is = leader_within told cuts s (leader_resync s.leader copy) is (resync_sends (Tells told) s.leader.copies copy (replica_of s.leader.copies copy))
each_within told cuts s (events.FailCopy sides.Leader copy) picks said is =
    leader_within told cuts s (leader_fail_copy s.leader copy) is
    (settling_tells told (leader_fail_copy_row s.leader copy (replica_of s.leader.copies copy)) (leader_fail_copy_sends (Tells told) s.leader copy (replica_of s.leader.copies copy)))
each_within told cuts s (events.FailCopy (sides.Follower f) copy) picks said is =
    follower_within told cuts s f (λ x. follower_fail_copy x copy) is (λ x at own. record { work = own; sends = fail_copy_sends IsSilent x.copies copy (replica_of x.copies copy) })
each_within told cuts s (events.AddCopy sides.Leader) picks said is = leader_within told cuts s (leader_add_copy s.leader) is (add_copy_sends (Tells told) s.leader.copies)
each_within told cuts s (events.AddCopy (sides.Follower f)) picks said is = follower_within told cuts s f follower_add_copy_row is (λ x at own. follower_add_copy_within (cuts f) x own)
each_within told cuts s (events.Flush sides.Leader copy) picks said is =
    leader_within told cuts s (leader_flush s.leader copy) is (flush_sends (Tells told) s.leader.copies copy (copy_of s.leader.copies copy))
each_within told cuts s (events.Flush (sides.Follower f) copy) picks said is =
    follower_within told cuts s f (λ x. follower_flush x copy) is (λ x at own. record { work = own; sends = flush_sends IsSilent x.copies copy (copy_of x.copies copy) })
each_within told cuts s (events.Merge sides.Leader copy) picks said is =
    leader_within told cuts s (leader_merge s.leader copy picks) is (merge_sends (Tells told) s.leader.copies s.leader.start.retention copy picks (copy_of s.leader.copies copy))
each_within told cuts s (events.Merge (sides.Follower f) copy) picks said is =
    follower_within told cuts s f (λ x. follower_merge x copy picks) is (λ x at own. record { work = own; sends = merge_sends IsSilent x.copies x.retention copy picks (copy_of x.copies copy) })
each_within told cuts s (events.Clock sides.Leader now) picks said is = leader_within told cuts s (leader_clock s.leader now) is (leader_clock_sends (Tells told) s.leader now)
each_within told cuts s (events.Clock (sides.Follower f) now) picks said is = follower_within told cuts s f (λ x. follower_clock_row x now) is (λ x at own. clock_within (cuts f) x now own)
each_within told cuts s events.Expire picks said is = leader_within told cuts s (leader_expire s.leader) is (expire_sends (Tells told) s.leader)
each_within told cuts s events.CloseSessions picks said is = leader_within told cuts s (leader_close_sessions s.leader) is (close_sessions_sends (Tells told) s.leader)
each_within told cuts s (events.Tick f) picks said is = follower_within told cuts s f tick_row is (λ x at own. tick_within (cuts f) x own)
each_within told cuts s (events.Deliver at copy keep) picks said is = delivered_within told cuts s at copy keep (slice_get s.flight at) (copy_of s.leader.copies copy) refl said is
each_within told cuts s (events.Drop at) picks said is = dropped_within told cuts s at (slice_get s.flight at) is
each_within told cuts s (events.Wake f at) picks said is = woken_within told cuts s f at (slice_get s.followers f) said.polls is
each_within told cuts s (events.Lose f at) picks said is = follower_within told cuts s f (λ x. lose_row x at) is (λ x there own. lose_within (cuts f) x at own)
each_within told cuts s (events.LoseWrite f write) picks said is =
    follower_within told cuts s f (λ x. lose_write_row x write (sent_write x.work write)) is (λ x at own. lose_write_within (cuts f) x write (sent_write x.work write) refl own)
each_within told cuts s (events.Take f write) picks said is =
    follower_within told cuts s f (λ x. take_row x write (sent_write x.work write)) is (λ x at own. take_within (cuts f) x write (sent_write x.work write) own)
each_within told cuts s (events.Apply f epoch write batch) picks said is =
    follower_within told cuts s f (λ x. apply_row x epoch write batch (sent_write x.work write)) is (λ x at own. apply_within (cuts f) x epoch write batch (sent_write x.work write) own)
each_within told cuts s (events.Written f write) picks said is =
    follower_within told cuts s f (λ x. written_row x write (sent_write x.work write)) is (λ x at own. written_within (cuts f) x write (sent_write x.work write) refl own)
each_within told cuts s (events.Renew f) picks said is = follower_within told cuts s f (λ x. renew_row x (task_of x.work)) is (λ x at own. renew_within (cuts f) x (task_of x.work) refl own)
each_within told cuts s (events.Follow params copies name) picks said is = follow_within told cuts s params copies name (same_name s.followers name) is
each_within told cuts s (events.Pause f) picks said is = follower_within told cuts s f (λ x. pause_row x (task_of x.work)) is (λ x at own. pause_within (cuts f) x (task_of x.work) refl own)
each_within told cuts s (events.Resume f) picks said is =
    follower_within told cuts s f (λ x. resume_row x (task_of x.work)) is (λ x at own. resume_within (cuts f) x (task_of x.work) (said.primaries f x at) own)
each_within told cuts s (events.Restart f) picks said is =
    follower_within told cuts s f (λ x. restart_row x (task_of x.work)) is (λ x at own. restart_within (cuts f) x (task_of x.work) (said.primaries f x at) own)
each_within told cuts s (events.Unfollow f) picks said is = follower_within told cuts s f (λ x. unfollow_row x (task_of x.work)) is (λ x at own. unfollow_within (cuts f) x (task_of x.work) refl own)
each_within told cuts s (events.Search sides.Leader copy request) picks said is = search_within told cuts s copy request.query request.sort (copy_of s.leader.copies copy) is
each_within told cuts s (events.Search (sides.Follower f) copy request) picks said is =
    searched_within told cuts s f (search_row s copy request.query request.sort) copy (slice_get s.followers f) (λ c. search_within told cuts s copy request.query request.sort c is) is
each_within told cuts s (events.Status sides.Leader) picks said is = leader_within told cuts s (leader_status s.leader) is (leader_status_sends (Tells told) s.leader)
each_within told cuts s (events.Status (sides.Follower f)) picks said is = follower_within told cuts s f follower_status_row is (λ x at own. status_within (cuts f) x own)
each_within told cuts s events.Settle picks said is = on_guards (StaysWithin told cuts) s _ _ (λ why. is) (λ tests. is)
