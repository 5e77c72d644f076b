-- What waits at the leader waits rightly at the start, and each event keeps it.
use Rattle.std.specs.Prelude.{slice_get, remove}
use Rattle.std.specs.Str.{bytes_eq}
use Rattle.std.proofs.Common.{◌≡◌, ℕ, ◌+◌, ◌==◌, not, true, Bool, Option, Some, None, List, ◌∷◌, refl, ap}
use Rattle.ccr_wire.specs.Message.{Frame, kind_of_content}
use Rattle.ccr_query.specs.Queries.{Tree}
use Rattle.ccr_query.specs.declared.sorting.SortKey.{SortKey}
use Rattle.ccr_journal.specs.declared.params.ParamValues.{ParamValues}
use Rattle.ccr_journal.specs.declared.sides.Side.TheVariants as sides
use Rattle.ccr_journal.specs.declared.events.Event.TheVariants as events
use Rattle.ccr_journal.specs.declared.replies.Refusal.TheVariants.{NoFollower}
use Rattle.ccr_law_base.proofs.Cases.{on_if, on_guards}
use Rattle.ccr_law_base.proofs.Lists.{All-filter}
use Rattle.ccr_model.specs.Outcomes.{Outcome, refused, within}
use Rattle.ccr_model.specs.Operations.{live}
use Rattle.ccr_model.specs.Stores.{held}
use Rattle.ccr_model.specs.Copies.{Copy, Replica, replica_of, copy_of, knowing, replaced}
use Rattle.ccr_model.specs.CopyRows.{sync_row, fail_copy_row, taking_leases}
use Rattle.ccr_model.specs.Leaders.{Leader, Poll, polls_of, stale_of}
use Rattle.ccr_model.specs.LeaderRows.{with_copies, leader_promote_row, force_promote_row, leader_fail_copy_row, leader_clock_row, expire_row, close_sessions_row, leader_status_row, source_fault}
use Rattle.ccr_model.specs.LeaderFrames.{polled_copy}
use Rattle.ccr_model.specs.Followers.{Follower, uuid_of}
use Rattle.ccr_model.specs.FollowerRows.{follower_receive_row}
use Rattle.ccr_model.specs.World.{State, for_follower, goes_to_leader, follower_of, at_named_follower, taken_by_receiver, deliver_row, drop_row, follow_row, same_name, search_row}
use Rattle.ccr_model.specs.Step.{woken}
use Rattle.ccr_law_settling_grounds.specs.Parked.{IsParkedRightly, ParkedStart, ParkedKeep}
use Rattle.ccr_law_settling_grounds.proofs.Wait.Alike.{same_replaced}
use Rattle.ccr_law_settling_grounds.proofs.Wait.Staying.{polls_stay, parked_stays}
use Rattle.ccr_law_settling_grounds.proofs.Wait.Rows.{write_stays, replicate_stays, ack_stays, resync_stays, add_copy_stays, flush_stays, merge_stays, expire_stays}
use Rattle.ccr_law_settling_grounds.proofs.Wait.Leaving.{polls_after_leaving, polls_after_promotion}
use Rattle.ccr_law_settling_grounds.proofs.Wait.Settling.{IsRightToSettle, right_if_refused, settled_parked}
use Rattle.ccr_law_settling_grounds.proofs.Wait.Messages.{wake_parked, receive_parked}

-- ---- events of the leader's side

taken_leases_number : (primary c : Copy) → (taking_leases primary c).number ≡ c.number
taken_leases_number primary c = on_if (λ (x : Copy). x.number ≡ c.number) _ _ _ (λ newer. refl) (λ not_newer. refl)

sync_right : (l : Leader) (copy : ℕ) (found : Option Replica) → replica_of l.copies copy ≡ found → IsParkedRightly l → IsRightToSettle (within (with_copies l) (sync_row l.copies copy found))
unfolding sync_row
sync_right l copy None is are = right_if_refused l _ are
sync_right l copy (Some r) is are =
    let s = l.copies in
    let known : Copy = knowing s.primary.global r.copy in
    let new : Replica = record r { copy = taking_leases s.primary known } in
    on_guards (λ o. IsRightToSettle (within (with_copies l) o)) s _ _ (λ why. right_if_refused l why are) (λ tests. record {
      polls = polls_stay s (record s { replicas = replaced copy new s.replicas }) l.polls
          (ap (λ ns. s.primary.number ∷ ns) (same_replaced (λ (c : Copy). c.number) copy r new s.replicas is (taken_leases_number s.primary known))) are.polls;
      own = are.own;
      kept = λ why refuses. absurd cc;
    })

fail_copy_right : (l : Leader) (copy : ℕ) (found : Option Replica) → IsParkedRightly l → IsRightToSettle (leader_fail_copy_row l copy found)
unfolding leader_fail_copy_row fail_copy_row
fail_copy_right l copy None are = right_if_refused l _ are
fail_copy_right l copy (Some r) are = record { polls = polls_after_leaving l.copies copy l.polls are.polls; own = All-filter (λ (p : Poll). bytes_eq p.history l.history ≡ true) (λ p. not (p.copy == copy)) l.polls are.own; kept = λ why refuses. absurd cc }

promote_parked : (l : Leader) (copy : ℕ) (found : Option Replica) → replica_of l.copies copy ≡ found → IsParkedRightly l → IsParkedRightly (leader_promote_row l copy found).next
unfolding leader_promote_row
promote_parked l copy None is are = are
promote_parked l copy (Some r) is are = record {
  kept = tt;
  polls = polls_after_promotion l.copies (l.copies.term + 1) copy r l.polls is are.polls;
  own = All-filter (λ (p : Poll). bytes_eq p.history l.history ≡ true) (λ p. not (p.copy == l.copies.primary.number)) l.polls are.own;
}

clock_parked : (l : Leader) (now : ℕ) → IsParkedRightly l → IsParkedRightly (leader_clock_row l now).next
unfolding leader_clock_row
clock_parked l now are = record { kept = are.kept; polls = are.polls; own = are.own }

expire_parked : (l : Leader) → IsParkedRightly l → IsParkedRightly (expire_row l).next
unfolding expire_row
expire_parked l are = parked_stays l _ (expire_stays l) are

close_sessions_parked : (l : Leader) → IsParkedRightly l → IsParkedRightly (close_sessions_row l).next
unfolding close_sessions_row
close_sessions_parked l are = record { kept = are.kept; polls = are.polls; own = are.own }

status_parked : (l : Leader) → IsParkedRightly l → IsParkedRightly (leader_status_row l).next
unfolding leader_status_row
status_parked l are = are

-- ---- events that leave the leader as it is, or bring it a message

abbrev pub IsParkedAfter : Outcome State → Type 0
IsParkedAfter o = IsParkedRightly o.next.leader

follower_parked : (s : State) (f : ℕ) (row : Follower → Outcome Follower) (found : Option Follower) → IsParkedRightly s.leader → IsParkedAfter (for_follower s f row found)
follower_parked s f row None are = are
follower_parked s f row (Some follower) are = are

named_parked : (s : State) (m : Frame) (named : Option ℕ) → IsParkedRightly s.leader → IsParkedAfter (at_named_follower s m named)
named_parked s m None are = are
named_parked s m (Some f) are = follower_parked s f (λ follower. follower_receive_row follower m) (slice_get s.followers f) are

taken_parked : (s : State) (copy : ℕ) (m : Frame) → IsParkedRightly s.leader → IsParkedAfter (taken_by_receiver s copy m)
taken_parked s copy m are =
    on_if IsParkedAfter (goes_to_leader (kind_of_content m.content)) _ _ (λ is. receive_parked s.leader copy m are) (λ isnt. named_parked s m (follower_of s.followers m.follower) are)

deliver_parked : (s : State) (at copy : ℕ) (keep : Bool) (m : Option Frame) (c : Option Copy) → IsParkedRightly s.leader → IsParkedAfter (deliver_row s at copy keep m c)
unfolding deliver_row
deliver_parked s at copy keep None c are = are
deliver_parked s at copy keep (Some m) None are = are
deliver_parked s at copy keep (Some m) (Some c) are =
    on_if (λ (t : State). IsParkedAfter (taken_by_receiver t copy m)) keep s (record s { flight = remove s.flight at })
    (λ is. taken_parked s copy m are) (λ isnt. taken_parked (record s { flight = remove s.flight at }) copy m are)

drop_parked : (s : State) (at : ℕ) (m : Option Frame) → IsParkedRightly s.leader → IsParkedAfter (drop_row s at m)
unfolding drop_row
drop_parked s at None are = are
drop_parked s at (Some m) are = are

woken_parked : (s : State) (f at : ℕ) (found : Option Follower) → IsParkedRightly s.leader → IsParkedAfter (woken s f at found)
woken_parked s f at None are = are
woken_parked s f at (Some follower) are =
    let found = slice_get (polls_of s.leader.polls (uuid_of f)) at in
    wake_parked s.leader (uuid_of f) at found (polled_copy s.leader.copies found) are

follow_parked : (s : State) (params : ParamValues) (copies : ℕ) (name : List ℕ) (same : Option ℕ) → IsParkedRightly s.leader → IsParkedAfter (follow_row s params copies name same)
unfolding follow_row
follow_parked s params copies name (Some f) are = are
follow_parked s params copies name None are = on_guards IsParkedAfter s _ _ (λ why. are) (λ tests. are)

search_parked : (s : State) (copy : ℕ) (query : Tree) (sort : List SortKey) (c : Option Copy) → IsParkedRightly s.leader → IsParkedAfter (search_row s copy query sort c)
unfolding search_row
search_parked s copy query sort None are = are
search_parked s copy query sort (Some c) are = are

searched_parked : (s : State) (f copy : ℕ) (query : Tree) (sort : List SortKey) (found : Option Follower) → IsParkedRightly s.leader
    → IsParkedAfter (elim found as (λ _. Outcome State) [ None ↦ refused s (NoFollower f) | Some follower ↦ search_row s copy query sort (copy_of follower.copies copy) ])
searched_parked s f copy query sort None are = are
searched_parked s f copy query sort (Some follower) are = search_parked s copy query sort (copy_of follower.copies copy) are

force_parked : (s : Leader) (copy : ℕ) (found : Option Copy) → IsParkedRightly s → IsParkedRightly (force_promote_row s copy found).next
unfolding force_promote_row
force_parked s copy None are = are
force_parked s copy (Some c) are = record { kept = tt; polls = tt; own = tt }

-- ---- all events

pub parked_start : ParkedStart
parked_start start = record { kept = tt; polls = tt; own = tt }

pub parked_keep : ParkedKeep
parked_keep s (events.Write request) picks are =
    parked_stays s.leader _ (write_stays s.leader.copies request (source_fault request.body) (live (held s.leader.copies.primary.store) request.id)) are
parked_keep s (events.Replicate sides.Leader copy seq) picks are = parked_stays s.leader _ (replicate_stays s.leader.copies copy seq (replica_of s.leader.copies copy) refl) are
parked_keep s (events.Replicate (sides.Follower f) copy seq) picks are = follower_parked s f _ (slice_get s.followers f) are
parked_keep s (events.Ack sides.Leader copy) picks are = parked_stays s.leader _ (ack_stays s.leader.copies copy (replica_of s.leader.copies copy) refl) are
parked_keep s (events.Ack (sides.Follower f) copy) picks are = follower_parked s f _ (slice_get s.followers f) are
parked_keep s (events.Sync sides.Leader copy) picks are = settled_parked _ (sync_right s.leader copy (replica_of s.leader.copies copy) refl are)
parked_keep s (events.Sync (sides.Follower f) copy) picks are = follower_parked s f _ (slice_get s.followers f) are
parked_keep s (events.Promote sides.Leader copy) picks are = promote_parked s.leader copy (replica_of s.leader.copies copy) refl are
parked_keep s (events.Promote (sides.Follower f) copy) picks are = follower_parked s f _ (slice_get s.followers f) are
parked_keep s (events.ForcePromote copy) picks are = force_parked s.leader copy (stale_of s.leader.stale copy) are
parked_keep s (events.Resync copy) picks are = parked_stays s.leader _ (resync_stays s.leader.copies copy (replica_of s.leader.copies copy) refl) are
parked_keep s (events.FailCopy sides.Leader copy) picks are = settled_parked _ (fail_copy_right s.leader copy (replica_of s.leader.copies copy) are)
parked_keep s (events.FailCopy (sides.Follower f) copy) picks are = follower_parked s f _ (slice_get s.followers f) are
parked_keep s (events.AddCopy sides.Leader) picks are = parked_stays s.leader _ (add_copy_stays s.leader.copies) are
parked_keep s (events.AddCopy (sides.Follower f)) picks are = follower_parked s f _ (slice_get s.followers f) are
parked_keep s (events.Flush sides.Leader copy) picks are = parked_stays s.leader _ (flush_stays s.leader.copies copy (copy_of s.leader.copies copy)) are
parked_keep s (events.Flush (sides.Follower f) copy) picks are = follower_parked s f _ (slice_get s.followers f) are
parked_keep s (events.Merge sides.Leader copy) picks are =
    parked_stays s.leader _ (merge_stays s.leader.copies s.leader.start.retention copy picks (copy_of s.leader.copies copy)) are
parked_keep s (events.Merge (sides.Follower f) copy) picks are = follower_parked s f _ (slice_get s.followers f) are
parked_keep s (events.Clock sides.Leader now) picks are = clock_parked s.leader now are
parked_keep s (events.Clock (sides.Follower f) now) picks are = follower_parked s f _ (slice_get s.followers f) are
parked_keep s events.Expire picks are = expire_parked s.leader are
parked_keep s events.CloseSessions picks are = close_sessions_parked s.leader are
parked_keep s (events.Tick f) picks are = follower_parked s f _ (slice_get s.followers f) are
parked_keep s (events.Deliver at copy keep) picks are = deliver_parked s at copy keep (slice_get s.flight at) (copy_of s.leader.copies copy) are
parked_keep s (events.Drop at) picks are = drop_parked s at (slice_get s.flight at) are
parked_keep s (events.Wake f at) picks are = woken_parked s f at (slice_get s.followers f) are
parked_keep s (events.Lose f at) picks are = follower_parked s f _ (slice_get s.followers f) are
parked_keep s (events.LoseWrite f write) picks are = follower_parked s f _ (slice_get s.followers f) are
parked_keep s (events.Take f write) picks are = follower_parked s f _ (slice_get s.followers f) are
parked_keep s (events.Apply f epoch write batch) picks are = follower_parked s f _ (slice_get s.followers f) are
parked_keep s (events.Written f write) picks are = follower_parked s f _ (slice_get s.followers f) are
parked_keep s (events.Renew f) picks are = follower_parked s f _ (slice_get s.followers f) are
parked_keep s (events.Follow params copies name) picks are = follow_parked s params copies name (same_name s.followers name) are
parked_keep s (events.Pause f) picks are = follower_parked s f _ (slice_get s.followers f) are
parked_keep s (events.Resume f) picks are = follower_parked s f _ (slice_get s.followers f) are
parked_keep s (events.Restart f) picks are = follower_parked s f _ (slice_get s.followers f) are
parked_keep s (events.Unfollow f) picks are = follower_parked s f _ (slice_get s.followers f) are
parked_keep s (events.Search sides.Leader copy request) picks are = search_parked s copy request.query request.sort (copy_of s.leader.copies copy) are
parked_keep s (events.Search (sides.Follower f) copy request) picks are = searched_parked s f copy request.query request.sort (slice_get s.followers f) are
parked_keep s (events.Status sides.Leader) picks are = status_parked s.leader are
parked_keep s (events.Status (sides.Follower f)) picks are = follower_parked s f _ (slice_get s.followers f) are
parked_keep s events.Settle picks are = on_guards IsParkedAfter s _ _ (λ why. are) (λ tests. are)
