-- Each event keeps what is true of the leases of the leader's copies.
use Rattle.std.proofs.Common.{◌≡◌, ℕ, Bool, true, false, List, [], ◌++◌, map, refl, sym, subst, inl, arith, ◌-◌}
use Rattle.std.specs.Prelude.{Option, Some, None, slice_get, remove, if◌then◌else◌}
use Rattle.std.specs.Option.{option_and_then}
use Rattle.std.specs.List.{list_any, range_with_len}
use Rattle.ccr_lease.specs.Leases.{Collection, has_expired, expired}
use Rattle.ccr_wire.specs.Message.{Frame, kind_of_content}
use Rattle.ccr_query.specs.Queries.{Tree}
use Rattle.ccr_query.specs.declared.sorting.SortKey.{SortKey}
use Rattle.ccr_journal.specs.Params.{IsCopyCount}
use Rattle.ccr_journal.specs.declared.params.ParamValues.{ParamValues}
use Rattle.ccr_journal.specs.declared.sides.Side.TheVariants as sides
use Rattle.ccr_journal.specs.declared.events.Event.{Event}
use Rattle.ccr_journal.specs.declared.events.Event.TheVariants as events
use Rattle.ccr_journal.specs.declared.journals.Entry.{Entry}
use Rattle.ccr_journal.specs.declared.replies.Reply.{Reply}
use Rattle.ccr_journal.specs.declared.replies.Reply.TheVariants as replies
use Rattle.ccr_journal.specs.declared.replies.Refusal.TheVariants.{NoFollower}
use Rattle.ccr_law_base.specs.Events.{past_by}
use Rattle.ccr_law_base.proofs.Cases.{on_if, on_guards, read_answered}
use Rattle.ccr_law_base.proofs.Journals.{by_events, by_entries}
use Rattle.ccr_model.specs.Outcomes.{Outcome, refused, within}
use Rattle.ccr_model.specs.Operations.{live}
use Rattle.ccr_model.specs.Stores.{held}
use Rattle.ccr_model.specs.Copies.{Copy, Replica, Copies, replica_of, copy_of, new_copy, replica_in_step, knowing, counted, replaced, without}
use Rattle.ccr_model.specs.CopyRows.{sync_row, fail_copy_row, taking_leases}
use Rattle.ccr_model.specs.Leaders.{Start, Leader, Poll, polls_of, stale_of}
use Rattle.ccr_model.specs.LeaderRows.{with_copies, leader_promote_row, force_promote_row, leader_fail_copy_row, leader_clock_row, expire_row, close_sessions_row, leader_status_row, source_fault}
use Rattle.ccr_model.specs.LeaderFrames.{wake_row, leader_receive, polled_copy}
use Rattle.ccr_model.specs.Followers.{Follower, uuid_of}
use Rattle.ccr_model.specs.LeaseHistory.{LeaseNote, notes_of}
use Rattle.ccr_model.specs.World.{State, start_state, at_leader, for_follower, goes_to_leader, follower_of, at_named_follower, taken_by_receiver, deliver_row, drop_row, follow_row, same_name, search_row}
use Rattle.ccr_model.specs.Step.{IsLegal, woken}
use Rattle.ccr_model.specs.Past.{Past, start_past, past_of, notes_kept}
use Rattle.ccr_law_leases.specs.TrueLeases.{AgreeWithNotes, AreBehind, AreTrueLeases, AreTrueLeasesOf, HasTrueLeases}
use Rattle.ccr_law_base.proofs.Lists.{All-every, All-map}
use Rattle.ccr_law_leases.proofs.Collections.{loss_at, true-losses, true-next, agree-expired}
use Rattle.ccr_law_leases.proofs.Rows.{write-true, replicate-true, ack-true, resync-true, sync-behind, true-replaced, behind-found, fail-copy-true, add-copy-true, flush-true, merge-true, promote-true}
use Rattle.ccr_law_leases.proofs.Answers.{answers-true, settling-same}
use Rattle.ccr_law_leases.proofs.Messages.{received-true}

-- ---- events of the leader's side

-- what is true after an event of the leader's that brings no message
abbrev pub IsTrueAfter : Leader → ℕ → List LeaseNote → Event → Reply → Copies → Type 0
IsTrueAfter s place notes event reply next = AreTrueLeasesOf (notes_of s next place None event reply ++ notes) next

sync-true : (s : Leader) (place : ℕ) (notes : List LeaseNote) (copy : ℕ) (found : Option Replica) → replica_of s.copies copy ≡ found → AreTrueLeasesOf notes s.copies
    → IsTrueAfter s place notes (events.Sync sides.Leader copy) (sync_row s.copies copy found).reply (sync_row s.copies copy found).next
unfolding sync_row
sync-true s place notes copy None is are = are
sync-true s place notes copy (Some r) is are =
    let new : Replica = record r { copy = taking_leases s.copies.primary (knowing s.copies.primary.global r.copy) } in
    on_guards (λ (o : Outcome Copies). IsTrueAfter s place notes (events.Sync sides.Leader copy) o.reply o.next) s.copies _ _ (λ why. are)
    (λ tests. answers-true s (record s.copies { replicas = replaced copy new s.copies.replicas }) place notes (true-replaced notes s.copies copy new
    (sync-behind notes s.copies.primary (knowing s.copies.primary.global r.copy) are.agree (behind-found notes s.copies copy r is are)) are))

fail-true : (s : Leader) (place : ℕ) (notes : List LeaseNote) (copy : ℕ) (found : Option Replica) → AreTrueLeasesOf notes s.copies
    → IsTrueAfter s place notes (events.FailCopy sides.Leader copy) (leader_fail_copy_row s copy found).reply (leader_fail_copy_row s copy found).next.copies
unfolding leader_fail_copy_row fail_copy_row
fail-true s place notes copy None are = are
fail-true s place notes copy (Some r) are = answers-true s (counted record s.copies { replicas = without copy s.copies.replicas }) place notes (fail-copy-true notes s.copies copy are)

promotion-true : (notes : List LeaseNote) (s : Leader) (copy : ℕ) (found : Option Replica) → replica_of s.copies copy ≡ found → AreTrueLeasesOf notes s.copies
    → AreTrueLeasesOf notes (leader_promote_row s copy found).next.copies
unfolding leader_promote_row
promotion-true notes s copy None is are = are
promotion-true notes s copy (Some r) is are = promote-true notes s.copies copy r is are

expire-true : (s : Leader) (place : ℕ) (notes : List LeaseNote) → AreTrueLeasesOf notes s.copies
    → IsTrueAfter s place notes events.Expire (expire_row s).reply (expire_row s).next.copies
unfolding expire_row
expire-true s place notes are =
    let c = s.copies.primary.leases in
    let lost = expired s.now s.start.period c.leases in
    let noted : AreTrueLeasesOf (map (loss_at place) lost ++ notes) s.copies = true-losses place lost notes s.copies.term c s.copies.primary.floor s.copies.replicas are in
    on_if (λ (next : Collection). AreTrueLeases (map (loss_at place) lost ++ notes) s.copies.term next s.copies.primary.floor s.copies.replicas)
    (list_any (has_expired s.now s.start.period) c.leases) _ _
    (λ some. true-next (map (loss_at place) lost ++ notes) s.copies.term c _ s.copies.primary.floor s.copies.replicas refl refl
    (agree-expired s.now s.start.period place notes c.leases s.copies.primary.floor noted.agree) noted)
    (λ none. noted)

clock-true : (notes : List LeaseNote) (s : Leader) (now : ℕ) → AreTrueLeasesOf notes s.copies → AreTrueLeasesOf notes (leader_clock_row s now).next.copies
unfolding leader_clock_row
clock-true notes s now are = are

close-sessions-true : (notes : List LeaseNote) (s : Leader) → AreTrueLeasesOf notes s.copies → AreTrueLeasesOf notes (close_sessions_row s).next.copies
unfolding close_sessions_row
close-sessions-true notes s are = are

status-true : (notes : List LeaseNote) (s : Leader) → AreTrueLeasesOf notes s.copies → AreTrueLeasesOf notes (leader_status_row s).next.copies
unfolding leader_status_row
status-true notes s are = are

wake-true : (notes : List LeaseNote) (s : Leader) (follower : List ℕ) (at : ℕ) (found : Option Poll) (c : Option Copy) → AreTrueLeasesOf notes s.copies
    → AreTrueLeasesOf notes (wake_row s follower at found c).next.copies
unfolding wake_row
wake-true notes s follower at None c are = are
wake-true notes s follower at (Some p) None are = are
wake-true notes s follower at (Some p) (Some c) are =
    let P : Outcome Leader → Type 0 = λ (o : Outcome Leader). AreTrueLeasesOf notes o.next.copies in
    on_guards P s _ _ (λ why. are) (λ tests. read_answered P s p c _ (λ what sent. are))

woken-true : (notes : List LeaseNote) (s : State) (f at : ℕ) (found : Option Follower) → AreTrueLeasesOf notes s.leader.copies
    → AreTrueLeasesOf notes (woken s f at found).next.leader.copies
woken-true notes s f at None are = are
woken-true notes s f at (Some follower) are =
    wake-true notes s.leader (uuid_of f) at (slice_get (polls_of s.leader.polls (uuid_of f)) at) (polled_copy s.leader.copies (slice_get (polls_of s.leader.polls (uuid_of f)) at)) are

-- ---- events that leave the leader as it is

follower-true : (notes : List LeaseNote) (s : State) (f : ℕ) (row : Follower → Outcome Follower) (found : Option Follower) → AreTrueLeasesOf notes s.leader.copies
    → AreTrueLeasesOf notes (for_follower s f row found).next.leader.copies
follower-true notes s f row None are = are
follower-true notes s f row (Some follower) are = are

named-true : (notes : List LeaseNote) (s : State) (m : Frame) (found : Option ℕ) → AreTrueLeasesOf notes s.leader.copies
    → AreTrueLeasesOf notes (at_named_follower s m found).next.leader.copies
named-true notes s m None are = are
named-true notes s m (Some f) are = follower-true notes s f _ (slice_get s.followers f) are

drop-true : (notes : List LeaseNote) (s : State) (at : ℕ) (found : Option Frame) → AreTrueLeasesOf notes s.leader.copies
    → AreTrueLeasesOf notes (drop_row s at found).next.leader.copies
unfolding drop_row
drop-true notes s at None are = are
drop-true notes s at (Some m) are = are

follow-true : (notes : List LeaseNote) (s : State) (params : ParamValues) (copies : ℕ) (name : List ℕ) (same : Option ℕ) → AreTrueLeasesOf notes s.leader.copies
    → AreTrueLeasesOf notes (follow_row s params copies name same).next.leader.copies
unfolding follow_row
follow-true notes s params copies name (Some f) are = are
follow-true notes s params copies name None are = on_guards (λ (o : Outcome State). AreTrueLeasesOf notes o.next.leader.copies) s _ _ (λ why. are) (λ tests. are)

search-true : (notes : List LeaseNote) (s : State) (copy : ℕ) (query : Tree) (sort : List SortKey) (found : Option Copy) → AreTrueLeasesOf notes s.leader.copies
    → AreTrueLeasesOf notes (search_row s copy query sort found).next.leader.copies
unfolding search_row
search-true notes s copy query sort None are = are
search-true notes s copy query sort (Some c) are = are

follower-search-true : (notes : List LeaseNote) (s : State) (f copy : ℕ) (query : Tree) (sort : List SortKey) (found : Option Follower) → AreTrueLeasesOf notes s.leader.copies
    → AreTrueLeasesOf notes (elim found as (λ _. Outcome State) [
      | None ↦ refused s (NoFollower f)
      | Some follower ↦ search_row s copy query sort (copy_of follower.copies copy)
    ]).next.leader.copies
follower-search-true notes s f copy query sort None are = are
follower-search-true notes s f copy query sort (Some follower) are = search-true notes s copy query sort (copy_of follower.copies copy) are

-- ---- deliveries

-- no message to the leader, no note
pub unheard : (s : Leader) (next : Copies) (place at copy : ℕ) (keep : Bool) (reply : Reply) → notes_of s next place None (events.Deliver at copy keep) reply ≡ []
unheard s next place at copy keep (replies.Heard hearing) = refl
unheard s next place at copy keep _ = refl

-- the message that comes to the leader, where its kind is of those that go there
abbrev pub if_to_leader : Bool → Frame → Option Frame
if_to_leader to_leader m = if to_leader then Some m else None

abbrev pub IsTrueDelivered : Leader → ℕ → List LeaseNote → ℕ → ℕ → Bool → Option Frame → Outcome State → Type 0
IsTrueDelivered s place notes at copy keep delivered o =
    AreTrueLeasesOf (notes_of s o.next.leader.copies place delivered (events.Deliver at copy keep) o.reply ++ notes) o.next.leader.copies

taken-true : (place : ℕ) (notes : List LeaseNote) (at copy : ℕ) (keep : Bool) (m : Frame) (leader : Leader) (followers : List Follower) (flight : List Frame)
    → AreTrueLeasesOf notes leader.copies
    → IsTrueDelivered leader place notes at copy keep (if_to_leader (goes_to_leader (kind_of_content m.content)) m)
    (taken_by_receiver (record { leader = leader; followers = followers; flight = flight }) copy m)
taken-true place notes at copy keep m leader followers flight are =
    let s : State = record { leader = leader; followers = followers; flight = flight } in
    let named : Outcome State = at_named_follower s m (follower_of followers m.follower) in
    elim (goes_to_leader (kind_of_content m.content)) as (λ b. IsTrueDelivered leader place notes at copy keep (if_to_leader b m) (if b then at_leader s (leader_receive leader copy m) else named)) [
      | true ↦ received-true leader place notes at copy keep m are
      | false ↦ subst (λ (new : List LeaseNote). AreTrueLeasesOf (new ++ notes) named.next.leader.copies) (sym (unheard leader named.next.leader.copies place at copy keep named.reply))
          (named-true notes s m (follower_of followers m.follower) are)
    ]

delivered-true : (s : State) (place : ℕ) (notes : List LeaseNote) (at copy : ℕ) (keep : Bool) (found : Option Frame) (c : Option Copy) → AreTrueLeasesOf notes s.leader.copies
    → IsTrueDelivered s.leader place notes at copy keep (option_and_then (λ (m : Frame). if_to_leader (goes_to_leader (kind_of_content m.content)) m) found) (deliver_row s at copy keep found c)
unfolding deliver_row
delivered-true s place notes at copy keep None c are = are
delivered-true s place notes at copy keep (Some m) None are = are
delivered-true s place notes at copy keep (Some m) (Some c) are =
    elim keep as (λ k. IsTrueDelivered s.leader place notes at copy keep (if_to_leader (goes_to_leader (kind_of_content m.content)) m)
    (taken_by_receiver (if k then s else record s { flight = remove s.flight at }) copy m)) [
      | true ↦ taken-true place notes at copy keep m s.leader s.followers s.flight are
      | false ↦ taken-true place notes at copy keep m s.leader s.followers (remove s.flight at) are
    ]

-- ---- all events

-- a copy of a new shard has no lease
no-leases : AgreeWithNotes [] [] 0
no-leases = record { numbers = tt; there = λ id unbroken. absurd cc; floor = λ id unbroken. absurd cc }

pub leases-start : (start : Start) → IsCopyCount start.copies → HasTrueLeases (start_past start)
leases-start start counts = record {
  agree = no-leases;
  current = refl;
  behind = All-map (λ (r : Replica). AreBehind [] (new_copy 0).leases r.copy.leases r.copy.floor) (λ number. replica_in_step (new_copy number) 0) (range_with_len 1 (start.copies - 1))
      (All-every (λ (number : ℕ). AreBehind [] (new_copy 0).leases (new_copy number).leases (new_copy number).floor) (λ number. record { agree = no-leases; behind = inl refl; earlier = omega arith })
      (range_with_len 1 (start.copies - 1)));
}

-- the only copy of a history that begins has no lease, and of that history no lease is told yet
force-true : (notes : List LeaseNote) (s : Leader) (place copy : ℕ) (found : Option Copy) → AreTrueLeasesOf notes s.copies
    → AreTrueLeasesOf
    (notes_of s (force_promote_row s copy found).next.copies place None (events.ForcePromote copy) (force_promote_row s copy found).reply
    ++ notes_kept notes (events.ForcePromote copy) (force_promote_row s copy found).reply)
    (force_promote_row s copy found).next.copies
unfolding force_promote_row
force-true notes s place copy None are = are
force-true notes s place copy (Some c) are = record {
  agree = record { numbers = tt; there = λ id unbroken. absurd cc; floor = λ id unbroken. absurd cc };
  current = refl;
  behind = tt;
}

pub leases-keeps : (p : Past) (event : Event) (picks : List ℕ) → HasTrueLeases p → HasTrueLeases (past_by p event picks)
leases-keeps p (events.Write request) picks are =
    write-true p.notes p.state.leader.copies request (source_fault request.body) (live (held p.state.leader.copies.primary.store) request.id) are
leases-keeps p (events.Replicate sides.Leader copy seq) picks are = replicate-true p.notes p.state.leader.copies copy seq (replica_of p.state.leader.copies copy) refl are
leases-keeps p (events.Replicate (sides.Follower f) copy seq) picks are = follower-true p.notes p.state f _ (slice_get p.state.followers f) are
leases-keeps p (events.Ack sides.Leader copy) picks are = ack-true p.notes p.state.leader.copies copy (replica_of p.state.leader.copies copy) refl are
leases-keeps p (events.Ack (sides.Follower f) copy) picks are = follower-true p.notes p.state f _ (slice_get p.state.followers f) are
leases-keeps p (events.Sync sides.Leader copy) picks are =
    settling-same (IsTrueAfter p.state.leader p.place p.notes (events.Sync sides.Leader copy))
    (within (with_copies p.state.leader) (sync_row p.state.leader.copies copy (replica_of p.state.leader.copies copy)))
    (sync-true p.state.leader p.place p.notes copy (replica_of p.state.leader.copies copy) refl are)
leases-keeps p (events.Sync (sides.Follower f) copy) picks are = follower-true p.notes p.state f _ (slice_get p.state.followers f) are
leases-keeps p (events.Promote sides.Leader copy) picks are = promotion-true p.notes p.state.leader copy (replica_of p.state.leader.copies copy) refl are
leases-keeps p (events.Promote (sides.Follower f) copy) picks are = follower-true p.notes p.state f _ (slice_get p.state.followers f) are
leases-keeps p (events.ForcePromote copy) picks are = force-true p.notes p.state.leader p.place copy (stale_of p.state.leader.stale copy) are
leases-keeps p (events.Resync copy) picks are = resync-true p.notes p.state.leader.copies copy (replica_of p.state.leader.copies copy) refl are
leases-keeps p (events.FailCopy sides.Leader copy) picks are =
    settling-same (IsTrueAfter p.state.leader p.place p.notes (events.FailCopy sides.Leader copy))
    (leader_fail_copy_row p.state.leader copy (replica_of p.state.leader.copies copy))
    (fail-true p.state.leader p.place p.notes copy (replica_of p.state.leader.copies copy) are)
leases-keeps p (events.FailCopy (sides.Follower f) copy) picks are = follower-true p.notes p.state f _ (slice_get p.state.followers f) are
leases-keeps p (events.AddCopy sides.Leader) picks are = add-copy-true p.notes p.state.leader.copies are
leases-keeps p (events.AddCopy (sides.Follower f)) picks are = follower-true p.notes p.state f _ (slice_get p.state.followers f) are
leases-keeps p (events.Flush sides.Leader copy) picks are = flush-true p.notes p.state.leader.copies copy (copy_of p.state.leader.copies copy) are
leases-keeps p (events.Flush (sides.Follower f) copy) picks are = follower-true p.notes p.state f _ (slice_get p.state.followers f) are
leases-keeps p (events.Merge sides.Leader copy) picks are =
    merge-true p.notes p.state.leader.copies p.state.leader.start.retention copy picks (copy_of p.state.leader.copies copy) are
leases-keeps p (events.Merge (sides.Follower f) copy) picks are = follower-true p.notes p.state f _ (slice_get p.state.followers f) are
leases-keeps p (events.Clock sides.Leader now) picks are = clock-true p.notes p.state.leader now are
leases-keeps p (events.Clock (sides.Follower f) now) picks are = follower-true p.notes p.state f _ (slice_get p.state.followers f) are
leases-keeps p events.Expire picks are = expire-true p.state.leader p.place p.notes are
leases-keeps p events.CloseSessions picks are = close-sessions-true p.notes p.state.leader are
leases-keeps p (events.Tick f) picks are = follower-true p.notes p.state f _ (slice_get p.state.followers f) are
leases-keeps p (events.Deliver at copy keep) picks are =
    delivered-true p.state p.place p.notes at copy keep (slice_get p.state.flight at) (copy_of p.state.leader.copies copy) are
leases-keeps p (events.Drop at) picks are = drop-true p.notes p.state at (slice_get p.state.flight at) are
leases-keeps p (events.Wake f at) picks are = woken-true p.notes p.state f at (slice_get p.state.followers f) are
leases-keeps p (events.Lose f at) picks are = follower-true p.notes p.state f _ (slice_get p.state.followers f) are
leases-keeps p (events.LoseWrite f write) picks are = follower-true p.notes p.state f _ (slice_get p.state.followers f) are
leases-keeps p (events.Take f write) picks are = follower-true p.notes p.state f _ (slice_get p.state.followers f) are
leases-keeps p (events.Apply f epoch write batch) picks are = follower-true p.notes p.state f _ (slice_get p.state.followers f) are
leases-keeps p (events.Written f write) picks are = follower-true p.notes p.state f _ (slice_get p.state.followers f) are
leases-keeps p (events.Renew f) picks are = follower-true p.notes p.state f _ (slice_get p.state.followers f) are
leases-keeps p (events.Follow params copies name) picks are = follow-true p.notes p.state params copies name (same_name p.state.followers name) are
leases-keeps p (events.Pause f) picks are = follower-true p.notes p.state f _ (slice_get p.state.followers f) are
leases-keeps p (events.Resume f) picks are = follower-true p.notes p.state f _ (slice_get p.state.followers f) are
leases-keeps p (events.Restart f) picks are = follower-true p.notes p.state f _ (slice_get p.state.followers f) are
leases-keeps p (events.Unfollow f) picks are = follower-true p.notes p.state f _ (slice_get p.state.followers f) are
leases-keeps p (events.Search sides.Leader copy request) picks are = search-true p.notes p.state copy request.query request.sort (copy_of p.state.leader.copies copy) are
leases-keeps p (events.Search (sides.Follower f) copy request) picks are = follower-search-true p.notes p.state f copy request.query request.sort (slice_get p.state.followers f) are
leases-keeps p (events.Status sides.Leader) picks are = status-true p.notes p.state.leader are
leases-keeps p (events.Status (sides.Follower f)) picks are = follower-true p.notes p.state f _ (slice_get p.state.followers f) are
leases-keeps p events.Settle picks are = on_guards (λ (o : Outcome State). AreTrueLeasesOf p.notes o.next.leader.copies) p.state _ _ (λ why. are) (λ tests. are)

-- so it is true at every place of a legal journal
pub leases-hold : (start : Start) → IsCopyCount start.copies → (entries : List Entry) → IsLegal (start_state start) entries → HasTrueLeases (past_of (start_past start) entries)
leases-hold start counts entries legal = by_entries HasTrueLeases (by_events HasTrueLeases leases-keeps) (start_past start) entries legal (leases-start start counts)
