-- The claims on the leader's copies and the line hold at the start, each event keeps them, and what they imply.
use Rattle.std.specs.List.{AllByRecursion, range_with_len}
use Rattle.std.specs.Prelude.{slice_get, find}
use Rattle.std.specs.Option.{option_map}
use Rattle.std.proofs.Common.{◌≡◌, ℕ, zero, suc, ◌+◌, ◌-◌, ◌<◌, ◌≤◌, ◌==◌, ◌&&◌, Bool, true, false, not, nat_lt, Option, Some, None, is_some, List, [], ◌∷◌, map, length, take, max, if◌then◌else◌, refl, sym, ◌∙◌, ap, subst, arith, length-take-le}
use Rattle.std.proofs.lemmas.List.{take-append-le}
use Rattle.std.proofs.lemmas.Bool.Decides.{nat_tests}
use Rattle.std.proofs.lemmas.Slice.Eq.{bytes_eq-Decides}
use Rattle.ccr_op.specs.Operation.{Operation}
use Rattle.ccr_tracker.specs.Numbers.{Numbers, has, no_numbers}
use Rattle.ccr_journal.specs.Params.{IsCopyCount}
use Rattle.ccr_journal.specs.declared.sides.Side.TheVariants as sides
use Rattle.ccr_journal.specs.declared.events.Event.{Event}
use Rattle.ccr_journal.specs.declared.events.Event.TheVariants as events
use Rattle.ccr_journal.specs.declared.journals.Entry.{Entry}
use Rattle.ccr_journal.specs.declared.replies.Reply.{Reply}
use Rattle.ccr_journal.specs.declared.replies.Reply.TheVariants as replies
use Rattle.ccr_journal.specs.declared.replies.Refusal.TheVariants.{NoFollower}
use Rattle.ccr_model.specs.Outcomes.{Outcome, refused}
use Rattle.ccr_model.specs.Copies.{Copy, Replica, Copies, copy_of, replica_of, new_copy, replica_in_step, replaced, without, knowing, least_known}
use Rattle.ccr_model.specs.Leaders.{Start, Leader, stale_of, history_of_term}
use Rattle.std.specs.Str.{bytes_eq}
use Rattle.ccr_lease.specs.Leases.{supersedes}
use Rattle.ccr_doc.specs.declared.sources.BadSource.{BadSource as SourceFault}
use Rattle.ccr_journal.specs.declared.requests.WriteRequest.{WriteRequest}
use Rattle.ccr_model.specs.Stores.{flushed}
use Rattle.ccr_model.specs.CopyRows.{replicate_row, ack_row, sync_row, fail_copy_row, add_copy_row, flush_row, merge_row, after_merge, unknown}
use Rattle.ccr_model.specs.Given.{gave, plugged, joined_at}
use Rattle.ccr_model.specs.LeaderRows.{leader_clock_row, close_sessions_row, leader_status_row, expire_row, write_row, leader_promote_row, force_promote_row, resync_row, resync_mark, resynced_copy, leader_fail_copy_row, settling_requests, missing_numbers}
use Rattle.ccr_model.specs.Followers.{Follower}
use Rattle.ccr_model.specs.World.{State, start_state, at_leader, for_follower, same_name, search_row}
use Rattle.ccr_model.specs.Step.{step, picks_in, IsLegal}
use Rattle.ccr_model.specs.Past.{Line, Past, committed, start_past, past_of, past_after, past_with, given_after, line_after, cut_after, ended_after, end_of_replica, resync_given, line_of, no_line}
use Rattle.ccr_model.specs.CopyFacts.{IsLinePrimary, IsLineCopy, IsKnownTruly, KnowsWhenReady}
use Rattle.ccr_law_base.specs.Events.{past_by, IsLegalAt}
use Rattle.ccr_law_base.proofs.Cases.{on_if, on_guards}
use Rattle.ccr_law_base.proofs.Stays.{Stays, leader_stays, may_change, begins_none, history_stays}
use Rattle.ccr_law_base.proofs.Journals.{after_legal, by_events, by_entries}
use Rattle.ccr_law_copies.specs.Cores.{PrimaryOk, ReplicaOk, IsReplica, Apart, CoreOf, IsLiving, AreStale, AreStaleOf, IsLine, IsFront, IsCore, IsNotNext, IsLineReplica, IsTrueCore, KeepsCommitted, HasOnward}
use Rattle.ccr_law_base.proofs.Lists.{All-weaker, All-both, find_none}
use Rattle.ccr_law_copies.proofs.CopyChanges.{some-within}
use Rattle.ccr_law_copies.proofs.Sets.{or_false}
use Rattle.ccr_law_copies.proofs.Replicas.{least_known-primary, least_known-bound}
use Rattle.ccr_law_copies.proofs.LeaderRows.{CoreAfter, at_copies, at_copies_settling, filled_is, cut_at, quiet, write_keeps, replicate_keeps, ack_keeps, sync_keeps, promote_keeps, force_keeps, resync_keeps, fail_copy_keeps, add_copy_keeps, flush_keeps, merge_keeps, expire_keeps}
use Rattle.ccr_law_copies.proofs.StaleCopies.{stale-primary, stale-given, stale-replaced, stale-promoted, stale-added, stale-inside, stale-left}
use Rattle.ccr_law_copies.proofs.LeaderQuiet.{LeasesAlone, KeepsLeader, unchanged, for_follower_keeps, deliver_keeps, drop_keeps, woken_keeps, follow_keeps, search_keeps}

-- ---- each event

-- an event that neither gives an operation nor changes the copies but for the primary's leases
pub kept_by : (p : Past) (o : Outcome State) → KeepsLeader p.state o → IsLiving p
    → CoreOf (cut_at p.line o.next.leader.copies.primary.global) p.given o.next.leader.copies
kept_by p o same core = subst (λ (t : Copies). CoreOf (cut_at p.line t.primary.global) p.given t) (sym same.1) (quiet p.line p.given p.state.leader.copies core)

pub on_followers : (p : Past) (f : ℕ) (row : Follower → Outcome Follower) → IsLiving p
    → CoreOf (cut_at p.line (for_follower p.state f row (slice_get p.state.followers f)).next.leader.copies.primary.global) p.given
    (for_follower p.state f row (slice_get p.state.followers f)).next.leader.copies
on_followers p f row core = kept_by p (for_follower p.state f row (slice_get p.state.followers f)) (for_follower_keeps p.state f row (slice_get p.state.followers f)) core

pub clock_keeps : (p : Past) (now : ℕ) → IsLiving p → CoreAfter p (events.Clock sides.Leader now) (at_leader p.state (leader_clock_row p.state.leader now))
unfolding leader_clock_row
clock_keeps p now core = quiet p.line p.given p.state.leader.copies core

pub close_keeps : (p : Past) → IsLiving p → CoreAfter p events.CloseSessions (at_leader p.state (close_sessions_row p.state.leader))
unfolding close_sessions_row
close_keeps p core = quiet p.line p.given p.state.leader.copies core

pub status_keeps : (p : Past) → IsLiving p → CoreAfter p (events.Status sides.Leader) (at_leader p.state (leader_status_row p.state.leader))
unfolding leader_status_row
status_keeps p core = quiet p.line p.given p.state.leader.copies core

-- a search at a follower
pub searched_keeps : (s : State) (f : ℕ) (row : Option Copy → Outcome State) (copy : ℕ) (found : Option Follower) → ((c : Option Copy) → KeepsLeader s (row c))
    → KeepsLeader s (elim found as (λ _. Outcome State) [ None ↦ refused s (NoFollower f) | Some follower ↦ row (copy_of follower.copies copy) ])
searched_keeps s f row copy None keeps = unchanged s.leader.copies
searched_keeps s f row copy (Some follower) keeps = keeps (copy_of follower.copies copy)

pub living-keeps : (p : Past) (event : Event) (picks : List ℕ) → IsLiving p → AreStaleOf p.given p.state.leader → IsLiving (past_by p event picks)
living-keeps p (events.Write request) picks core stale = write_keeps p request _ _ core
living-keeps p (events.Replicate sides.Leader copy seq) picks core stale = replicate_keeps p copy seq (replica_of p.state.leader.copies copy) refl core
living-keeps p (events.Replicate (sides.Follower f) copy seq) picks core stale = on_followers p f _ core
living-keeps p (events.Ack sides.Leader copy) picks core stale = ack_keeps p copy (replica_of p.state.leader.copies copy) refl core
living-keeps p (events.Ack (sides.Follower f) copy) picks core stale = on_followers p f _ core
living-keeps p (events.Sync sides.Leader copy) picks core stale = sync_keeps p copy (replica_of p.state.leader.copies copy) refl core
living-keeps p (events.Sync (sides.Follower f) copy) picks core stale = on_followers p f _ core
living-keeps p (events.Promote sides.Leader copy) picks core stale = promote_keeps p copy (replica_of p.state.leader.copies copy) refl core
living-keeps p (events.Promote (sides.Follower f) copy) picks core stale = on_followers p f _ core
living-keeps p (events.ForcePromote copy) picks core stale = force_keeps p copy (stale_of p.state.leader.stale copy) refl core stale
living-keeps p (events.Resync copy) picks core stale = resync_keeps p copy (replica_of p.state.leader.copies copy) refl core
living-keeps p (events.FailCopy sides.Leader copy) picks core stale = fail_copy_keeps p copy (replica_of p.state.leader.copies copy) core
living-keeps p (events.FailCopy (sides.Follower f) copy) picks core stale = on_followers p f _ core
living-keeps p (events.AddCopy sides.Leader) picks core stale = add_copy_keeps p core
living-keeps p (events.AddCopy (sides.Follower f)) picks core stale = on_followers p f _ core
living-keeps p (events.Flush sides.Leader copy) picks core stale = flush_keeps p copy (copy_of p.state.leader.copies copy) core
living-keeps p (events.Flush (sides.Follower f) copy) picks core stale = on_followers p f _ core
living-keeps p (events.Merge sides.Leader copy) picks core stale = merge_keeps p copy picks (copy_of p.state.leader.copies copy) core
living-keeps p (events.Merge (sides.Follower f) copy) picks core stale = on_followers p f _ core
living-keeps p (events.Clock sides.Leader now) picks core stale = clock_keeps p now core
living-keeps p (events.Clock (sides.Follower f) now) picks core stale = on_followers p f _ core
living-keeps p events.Expire picks core stale = expire_keeps p core
living-keeps p events.CloseSessions picks core stale = close_keeps p core
living-keeps p (events.Tick f) picks core stale = on_followers p f _ core
living-keeps p (events.Deliver at copy keep) picks core stale =
    kept_by p (step p.state (events.Deliver at copy keep) picks) (deliver_keeps p.state at copy keep (slice_get p.state.flight at) (copy_of p.state.leader.copies copy)) core
living-keeps p (events.Drop at) picks core stale = kept_by p (step p.state (events.Drop at) picks) (drop_keeps p.state at (slice_get p.state.flight at)) core
living-keeps p (events.Wake f at) picks core stale = kept_by p (step p.state (events.Wake f at) picks) (woken_keeps p.state f at (slice_get p.state.followers f)) core
living-keeps p (events.Lose f at) picks core stale = on_followers p f _ core
living-keeps p (events.LoseWrite f write) picks core stale = on_followers p f _ core
living-keeps p (events.Take f write) picks core stale = on_followers p f _ core
living-keeps p (events.Apply f epoch write batch) picks core stale = on_followers p f _ core
living-keeps p (events.Written f write) picks core stale = on_followers p f _ core
living-keeps p (events.Renew f) picks core stale = on_followers p f _ core
living-keeps p (events.Follow params copies name) picks core stale = kept_by p (step p.state (events.Follow params copies name) picks) (follow_keeps p.state params copies name (same_name p.state.followers name)) core
living-keeps p (events.Pause f) picks core stale = on_followers p f _ core
living-keeps p (events.Resume f) picks core stale = on_followers p f _ core
living-keeps p (events.Restart f) picks core stale = on_followers p f _ core
living-keeps p (events.Unfollow f) picks core stale = on_followers p f _ core
living-keeps p (events.Search sides.Leader copy request) picks core stale =
    kept_by p (step p.state (events.Search sides.Leader copy request) picks) (search_keeps p.state copy request.query request.sort (copy_of p.state.leader.copies copy)) core
living-keeps p (events.Search (sides.Follower f) copy request) picks core stale =
    kept_by p (step p.state (events.Search (sides.Follower f) copy request) picks) (searched_keeps p.state f (search_row p.state copy request.query request.sort) copy (slice_get p.state.followers f) (search_keeps p.state copy request.query request.sort)) core
living-keeps p (events.Status sides.Leader) picks core stale = status_keeps p core
living-keeps p (events.Status (sides.Follower f)) picks core stale = on_followers p f _ core
living-keeps p events.Settle picks core stale =
    on_guards (CoreAfter p events.Settle) p.state _ _ (λ why. quiet p.line p.given p.state.leader.copies core) (λ tests. quiet p.line p.given p.state.leader.copies core)

-- ---- the stale copies

-- the stale copies after an event, where this is what it comes to
abbrev pub StaleAfter : Past → Event → Outcome State → Type 0
StaleAfter p event o = AreStaleOf (given_after p.state.leader p.given event o.reply) o.next.leader

-- the copies stay but for the primary's leases, nothing is given, and no copy becomes stale
stays_stale : (p : Past) (t : Leader) → LeasesAlone p.state.leader.copies t.copies → t.stale ≡ p.state.leader.stale → AreStaleOf p.given p.state.leader → AreStaleOf p.given t
stays_stale p t same old stale =
    subst (λ (c : Copies). AreStale p.given c.primary.number c.next c.replicas t.stale) (sym same.1)
    (subst (AreStale p.given p.state.leader.copies.primary.number p.state.leader.copies.next p.state.leader.copies.replicas) (sym old) stale)

quietly_stale : (p : Past) (event : Event) (picks : List ℕ) → may_change event ≡ false → KeepsLeader p.state (step p.state event picks)
    → AreStaleOf p.given p.state.leader → AreStaleOf p.given (step p.state event picks).next.leader
quietly_stale p event picks quiet same stale =
    let stays : Stays p.state.leader (step p.state event picks).next.leader = leader_stays p.state event picks quiet in
    stays_stale p (step p.state event picks).next.leader same stays.stale stale

write_stale : (p : Past) (request : WriteRequest) (fault : Option SourceFault) (found : Option Operation) → AreStaleOf p.given p.state.leader
    → StaleAfter p (events.Write request) (at_copies p (write_row p.state.leader.copies request fault found))
unfolding write_row
write_stale p request (Some fault) found stale = stale
write_stale p request None found stale =
    on_guards (λ (o : Outcome Copies). StaleAfter p (events.Write request) (at_copies p o)) p.state.leader.copies _ _ (λ why. stale)
    (λ tests. stale-primary p.given p.state.leader.copies _ p.state.leader.stale stale)

replicate_stale : (p : Past) (copy seq : ℕ) (found : Option Replica) → replica_of p.state.leader.copies copy ≡ found → IsLiving p → AreStaleOf p.given p.state.leader
    → StaleAfter p (events.Replicate sides.Leader copy seq) (at_copies p (replicate_row p.state.leader.copies copy seq found))
unfolding replicate_row
replicate_stale p copy seq None is core stale = stale
replicate_stale p copy seq (Some r) is core stale =
    on_guards (λ (o : Outcome Copies). StaleAfter p (events.Replicate sides.Leader copy seq) (at_copies p o)) p.state.leader.copies _ _ (λ why. stale)
    (λ tests. stale-given p.line p.given p.state.leader.copies copy r _ _ p.state.leader.stale core is refl stale)

ack_stale : (p : Past) (copy : ℕ) (found : Option Replica) → replica_of p.state.leader.copies copy ≡ found → AreStaleOf p.given p.state.leader
    → StaleAfter p (events.Ack sides.Leader copy) (at_copies p (ack_row p.state.leader.copies copy found))
unfolding ack_row
ack_stale p copy None is stale = stale
ack_stale p copy (Some r) is stale =
    on_guards (λ (o : Outcome Copies). StaleAfter p (events.Ack sides.Leader copy) (at_copies p o)) p.state.leader.copies _ _ (λ why. stale)
    (λ tests. stale-replaced p.given p.state.leader.copies copy _ p.state.leader.stale r is refl stale)

sync_stale : (p : Past) (copy : ℕ) (found : Option Replica) → replica_of p.state.leader.copies copy ≡ found → AreStaleOf p.given p.state.leader
    → StaleAfter p (events.Sync sides.Leader copy) (at_copies_settling p (sync_row p.state.leader.copies copy found))
unfolding sync_row
sync_stale p copy None is stale = stale
sync_stale p copy (Some r) is stale =
    on_guards (λ (o : Outcome Copies). StaleAfter p (events.Sync sides.Leader copy) (at_copies_settling p o)) p.state.leader.copies _ _ (λ why. stale)
    (λ tests.
    on_if (λ (c : Copy). AreStale p.given p.state.leader.copies.primary.number p.state.leader.copies.next (replaced copy (record r { copy = c }) p.state.leader.copies.replicas) p.state.leader.stale)
    (supersedes p.state.leader.copies.primary.leases r.copy.leases) (record (knowing p.state.leader.copies.primary.global r.copy) { leases = p.state.leader.copies.primary.leases }) (knowing p.state.leader.copies.primary.global r.copy)
    (λ newer. stale-replaced p.given p.state.leader.copies copy _ p.state.leader.stale r is refl stale)
    (λ older. stale-replaced p.given p.state.leader.copies copy _ p.state.leader.stale r is refl stale))

promote_stale : (p : Past) (copy : ℕ) (found : Option Replica) → replica_of p.state.leader.copies copy ≡ found → IsLiving p → AreStaleOf p.given p.state.leader
    → StaleAfter p (events.Promote sides.Leader copy) (at_leader p.state (leader_promote_row p.state.leader copy found))
unfolding leader_promote_row
promote_stale p copy None is core stale = stale
promote_stale p copy (Some r) is core stale =
    let s = p.state.leader.copies in
    subst (λ (c : Copy). AreStale (gave p.given copy (plugged (p.given copy) (s.term + 1) (end_of_replica (replica_of s copy)))) c.number s.next (map {A = Replica} {B = Replica} unknown (without copy s.replicas)) p.state.leader.stale)
    (sym (filled_is (s.term + 1) (missing_numbers r.copy.seen) r.copy))
    (stale-promoted p.line p.given s copy r _ p.state.leader.stale core is stale)

resync_stale : (p : Past) (copy : ℕ) (found : Option Replica) → replica_of p.state.leader.copies copy ≡ found → IsLiving p → AreStaleOf p.given p.state.leader
    → StaleAfter p (events.Resync copy) (at_copies p (resync_row p.state.leader.copies copy found))
unfolding resync_row
resync_stale p copy None is core stale = stale
resync_stale p copy (Some r) is core stale =
    let s = p.state.leader.copies in
    on_if (λ (o : Outcome Copies). StaleAfter p (events.Resync copy) (at_copies p o)) r.resynced _ _
    (λ was. subst (λ (o : Option Replica). AreStale (resync_given p.state.leader p.given copy o) s.primary.number s.next s.replicas p.state.leader.stale) (sym is)
    (subst (λ (b : Bool). AreStale (if b then p.given else gave p.given copy (joined_at (resync_mark s r) (p.given copy) (p.given s.primary.number)))
    s.primary.number s.next s.replicas p.state.leader.stale) (sym was) stale))
    (λ wasnt.
    let new : Replica = record r { copy = resynced_copy s (resync_mark s r) r.copy; resynced = true } in
    subst (λ (o : Option Replica). AreStale (resync_given p.state.leader p.given copy o) s.primary.number s.next (replaced copy new s.replicas) p.state.leader.stale) (sym is)
    (subst (λ (b : Bool). AreStale (if b then p.given else gave p.given copy (joined_at (resync_mark s r) (p.given copy) (p.given s.primary.number)))
    s.primary.number s.next (replaced copy new s.replicas) p.state.leader.stale) (sym wasnt)
    (stale-given p.line p.given s copy r new _ p.state.leader.stale core is refl stale)))

fail_copy_stale : (p : Past) (copy : ℕ) (found : Option Replica) → replica_of p.state.leader.copies copy ≡ found → IsLiving p → AreStaleOf p.given p.state.leader
    → StaleAfter p (events.FailCopy sides.Leader copy) (at_leader p.state (settling_requests (leader_fail_copy_row p.state.leader copy found)))
unfolding leader_fail_copy_row fail_copy_row
fail_copy_stale p copy None is core stale = stale
fail_copy_stale p copy (Some r) is core stale = stale-left p.line p.given p.state.leader.copies copy r p.state.leader.stale core is stale

add_copy_stale : (p : Past) → AreStaleOf p.given p.state.leader → StaleAfter p (events.AddCopy sides.Leader) (at_copies p (add_copy_row p.state.leader.copies))
unfolding add_copy_row
add_copy_stale p stale =
    on_guards (λ (o : Outcome Copies). StaleAfter p (events.AddCopy sides.Leader) (at_copies p o)) p.state.leader.copies _ _ (λ why. stale)
    (λ tests. stale-added p.given p.state.leader.copies _ (replica_in_step (record p.state.leader.copies.primary { number = p.state.leader.copies.next }) p.state.leader.copies.primary.seen.count) p.state.leader.stale refl stale)

force_stale : (p : Past) (copy : ℕ) (found : Option Copy) → AreStaleOf p.given p.state.leader
    → StaleAfter p (events.ForcePromote copy) (at_leader p.state (force_promote_row p.state.leader copy found))
unfolding force_promote_row
force_stale p copy None stale = stale
force_stale p copy (Some c) stale = tt

flush_stale : (p : Past) (copy : ℕ) (found : Option Copy) → AreStaleOf p.given p.state.leader
    → StaleAfter p (events.Flush sides.Leader copy) (at_copies p (flush_row p.state.leader.copies copy found))
unfolding flush_row
flush_stale p copy None stale = stale
flush_stale p copy (Some c) stale = stale-inside p.given p.state.leader.copies copy (λ own. record own { store = flushed own.store; commit = own.global }) p.state.leader.stale (λ own. refl) stale

merge_stale : (p : Past) (copy : ℕ) (picks : List ℕ) (found : Option Copy) → AreStaleOf p.given p.state.leader
    → StaleAfter p (events.Merge sides.Leader copy) (at_copies p (merge_row p.state.leader.copies p.state.leader.start.retention copy picks found))
unfolding merge_row
merge_stale p copy picks None stale = stale
merge_stale p copy picks (Some c) stale = stale-inside p.given p.state.leader.copies copy (after_merge p.state.leader.start.retention picks) p.state.leader.stale (λ own. refl) stale

clock_same : (s : State) (now : ℕ) → KeepsLeader s (at_leader s (leader_clock_row s.leader now))
unfolding leader_clock_row
clock_same s now = unchanged s.leader.copies

close_same : (s : State) → KeepsLeader s (at_leader s (close_sessions_row s.leader))
unfolding close_sessions_row
close_same s = unchanged s.leader.copies

status_same : (s : State) → KeepsLeader s (at_leader s (leader_status_row s.leader))
unfolding leader_status_row
status_same s = unchanged s.leader.copies

expire_same : (s : State) → KeepsLeader s (at_leader s (expire_row s.leader))
unfolding expire_row
expire_same s = (_, refl)

settle_same : (s : State) → KeepsLeader s (step s events.Settle [])
settle_same s = on_guards (KeepsLeader s) s _ _ (λ why. unchanged s.leader.copies) (λ tests. unchanged s.leader.copies)

pub stale-keeps : (p : Past) (event : Event) (picks : List ℕ) → IsLiving p → AreStaleOf p.given p.state.leader → AreStaleOf (past_by p event picks).given (past_by p event picks).state.leader
stale-keeps p (events.Write request) picks core stale = write_stale p request _ _ stale
stale-keeps p (events.Replicate sides.Leader copy seq) picks core stale = replicate_stale p copy seq (replica_of p.state.leader.copies copy) refl core stale
stale-keeps p (events.Ack sides.Leader copy) picks core stale = ack_stale p copy (replica_of p.state.leader.copies copy) refl stale
stale-keeps p (events.Sync sides.Leader copy) picks core stale = sync_stale p copy (replica_of p.state.leader.copies copy) refl stale
stale-keeps p (events.Promote sides.Leader copy) picks core stale = promote_stale p copy (replica_of p.state.leader.copies copy) refl core stale
stale-keeps p (events.ForcePromote copy) picks core stale = force_stale p copy (stale_of p.state.leader.stale copy) stale
stale-keeps p (events.Resync copy) picks core stale = resync_stale p copy (replica_of p.state.leader.copies copy) refl core stale
stale-keeps p (events.FailCopy sides.Leader copy) picks core stale = fail_copy_stale p copy (replica_of p.state.leader.copies copy) refl core stale
stale-keeps p (events.AddCopy sides.Leader) picks core stale = add_copy_stale p stale
stale-keeps p (events.Flush sides.Leader copy) picks core stale = flush_stale p copy (copy_of p.state.leader.copies copy) stale
stale-keeps p (events.Merge sides.Leader copy) picks core stale = merge_stale p copy picks (copy_of p.state.leader.copies copy) stale
stale-keeps p (events.Clock sides.Leader now) picks core stale = quietly_stale p (events.Clock sides.Leader now) picks refl (clock_same p.state now) stale
stale-keeps p events.Expire picks core stale = quietly_stale p events.Expire picks refl (expire_same p.state) stale
stale-keeps p events.CloseSessions picks core stale = quietly_stale p events.CloseSessions picks refl (close_same p.state) stale
stale-keeps p (events.Deliver at copy keep) picks core stale = quietly_stale p (events.Deliver at copy keep) picks refl (deliver_keeps p.state at copy keep (slice_get p.state.flight at) (copy_of p.state.leader.copies copy)) stale
stale-keeps p (events.Drop at) picks core stale = quietly_stale p (events.Drop at) picks refl (drop_keeps p.state at (slice_get p.state.flight at)) stale
stale-keeps p (events.Wake f at) picks core stale = quietly_stale p (events.Wake f at) picks refl (woken_keeps p.state f at (slice_get p.state.followers f)) stale
stale-keeps p (events.Follow params copies name) picks core stale = quietly_stale p (events.Follow params copies name) picks refl (follow_keeps p.state params copies name (same_name p.state.followers name)) stale
stale-keeps p (events.Search sides.Leader copy request) picks core stale = quietly_stale p (events.Search sides.Leader copy request) picks refl (search_keeps p.state copy request.query request.sort (copy_of p.state.leader.copies copy)) stale
stale-keeps p (events.Search (sides.Follower f) copy request) picks core stale = quietly_stale p (events.Search (sides.Follower f) copy request) picks refl (searched_keeps p.state f (search_row p.state copy request.query request.sort) copy (slice_get p.state.followers f) (search_keeps p.state copy request.query request.sort)) stale
stale-keeps p (events.Status sides.Leader) picks core stale = quietly_stale p (events.Status sides.Leader) picks refl (status_same p.state) stale
stale-keeps p events.Settle picks core stale = quietly_stale p events.Settle picks refl (settle_same p.state) stale
stale-keeps p (events.Replicate (sides.Follower f) copy seq) picks core stale = quietly_stale p (events.Replicate (sides.Follower f) copy seq) picks refl (for_follower_keeps p.state f _ (slice_get p.state.followers f)) stale
stale-keeps p (events.Ack (sides.Follower f) copy) picks core stale = quietly_stale p (events.Ack (sides.Follower f) copy) picks refl (for_follower_keeps p.state f _ (slice_get p.state.followers f)) stale
stale-keeps p (events.Sync (sides.Follower f) copy) picks core stale = quietly_stale p (events.Sync (sides.Follower f) copy) picks refl (for_follower_keeps p.state f _ (slice_get p.state.followers f)) stale
stale-keeps p (events.Promote (sides.Follower f) copy) picks core stale = quietly_stale p (events.Promote (sides.Follower f) copy) picks refl (for_follower_keeps p.state f _ (slice_get p.state.followers f)) stale
stale-keeps p (events.FailCopy (sides.Follower f) copy) picks core stale = quietly_stale p (events.FailCopy (sides.Follower f) copy) picks refl (for_follower_keeps p.state f _ (slice_get p.state.followers f)) stale
stale-keeps p (events.AddCopy (sides.Follower f)) picks core stale = quietly_stale p (events.AddCopy (sides.Follower f)) picks refl (for_follower_keeps p.state f _ (slice_get p.state.followers f)) stale
stale-keeps p (events.Flush (sides.Follower f) copy) picks core stale = quietly_stale p (events.Flush (sides.Follower f) copy) picks refl (for_follower_keeps p.state f _ (slice_get p.state.followers f)) stale
stale-keeps p (events.Merge (sides.Follower f) copy) picks core stale = quietly_stale p (events.Merge (sides.Follower f) copy) picks refl (for_follower_keeps p.state f _ (slice_get p.state.followers f)) stale
stale-keeps p (events.Clock (sides.Follower f) now) picks core stale = quietly_stale p (events.Clock (sides.Follower f) now) picks refl (for_follower_keeps p.state f _ (slice_get p.state.followers f)) stale
stale-keeps p (events.Status (sides.Follower f)) picks core stale = quietly_stale p (events.Status (sides.Follower f)) picks refl (for_follower_keeps p.state f _ (slice_get p.state.followers f)) stale
stale-keeps p (events.Tick f) picks core stale = quietly_stale p (events.Tick f) picks refl (for_follower_keeps p.state f _ (slice_get p.state.followers f)) stale
stale-keeps p (events.Lose f at) picks core stale = quietly_stale p (events.Lose f at) picks refl (for_follower_keeps p.state f _ (slice_get p.state.followers f)) stale
stale-keeps p (events.LoseWrite f write) picks core stale = quietly_stale p (events.LoseWrite f write) picks refl (for_follower_keeps p.state f _ (slice_get p.state.followers f)) stale
stale-keeps p (events.Take f write) picks core stale = quietly_stale p (events.Take f write) picks refl (for_follower_keeps p.state f _ (slice_get p.state.followers f)) stale
stale-keeps p (events.Apply f epoch write batch) picks core stale = quietly_stale p (events.Apply f epoch write batch) picks refl (for_follower_keeps p.state f _ (slice_get p.state.followers f)) stale
stale-keeps p (events.Written f write) picks core stale = quietly_stale p (events.Written f write) picks refl (for_follower_keeps p.state f _ (slice_get p.state.followers f)) stale
stale-keeps p (events.Renew f) picks core stale = quietly_stale p (events.Renew f) picks refl (for_follower_keeps p.state f _ (slice_get p.state.followers f)) stale
stale-keeps p (events.Pause f) picks core stale = quietly_stale p (events.Pause f) picks refl (for_follower_keeps p.state f _ (slice_get p.state.followers f)) stale
stale-keeps p (events.Resume f) picks core stale = quietly_stale p (events.Resume f) picks refl (for_follower_keeps p.state f _ (slice_get p.state.followers f)) stale
stale-keeps p (events.Restart f) picks core stale = quietly_stale p (events.Restart f) picks refl (for_follower_keeps p.state f _ (slice_get p.state.followers f)) stale
stale-keeps p (events.Unfollow f) picks core stale = quietly_stale p (events.Unfollow f) picks refl (for_follower_keeps p.state f _ (slice_get p.state.followers f)) stale

-- ---- both

pub living : (p : Past) → IsCore p → IsLiving p
living p core = record { rest = core.rest; counted = core.counted }

pub line-is : (p : Past) → IsCore p → (history : List ℕ) → IsLine (line_of p history)
line-is p core history =
    on_if IsLine (bytes_eq history p.state.leader.history) p.line (p.ended history)
    (λ is. record { full = core.rest.primary.full; numbered = core.rest.primary.numbered }) (λ isnt. core.ended history)

ended-keeps : (p : Past) (event : Event) (reply : Reply) → IsCore p → (history : List ℕ) → IsLine (ended_after p event reply history)
ended-keeps p (events.ForcePromote copy) (replies.Forced term filled) core history = line-is p core history
ended-keeps p _ _ core history = core.ended history

pub core-keeps : (p : Past) (event : Event) (picks : List ℕ) → IsCore p → IsCore (past_by p event picks)
core-keeps p event picks core =
    let now : IsLiving (past_by p event picks) = living-keeps p event picks (living p core) core.stale in
    record {
      rest = now.rest;
      counted = now.counted;
      stale = stale-keeps p event picks (living p core) core.stale;
      ended = ended-keeps p event (step p.state event picks).reply core;
    }

-- ---- the start

-- a copy that has nothing, before anything is in the line
pub replica-fresh : (number next : ℕ) → 1 ≤ number → number < next
    → ReplicaOk (record { ops = []; cut = 0 }) 0 next (λ n. None) number no_numbers 0 0 true true
replica-fresh number next some less = record {
  other = grind (arith, nat_tests);
  old = less;
  ordered = tt;
  processed = λ n. grind (arith, nat_tests);
  committed = λ n lt. refl;
  ours = λ is n op at. at;
  numbered = λ n op at. cc;
  low = omega arith;
  truly = omega arith;
  early = λ is. refl;
  late = λ is. omega arith;
}

abbrev pub fresh : ℕ → Replica
fresh number = replica_in_step (new_copy number) 0

pub fresh_replicas : (from size next : ℕ) → 1 ≤ from → from + size ≤ next
    → AllByRecursion (λ (r : Replica). IsReplica (record { ops = []; cut = 0 }) 0 next (λ n. None) r) (map {A = ℕ} {B = Replica} fresh (range_with_len from size))
fresh_replicas from zero next some few = tt
fresh_replicas from (suc size) next some few = (replica-fresh from next some (omega arith), fresh_replicas (from + 1) size next (omega arith) (omega arith))

pub fresh_above : (low from size : ℕ) → low < from → AllByRecursion (λ (r : Replica). (r.copy.number == low) ≡ false) (map {A = ℕ} {B = Replica} fresh (range_with_len from size))
fresh_above low from zero less = tt
fresh_above low from (suc size) less = (grind (arith, nat_tests), fresh_above low (from + 1) size (omega arith))

pub fresh_apart : (from size : ℕ) → Apart (map {A = ℕ} {B = Replica} fresh (range_with_len from size))
fresh_apart from zero = tt
fresh_apart from (suc size) = (fresh_above from (from + 1) size (omega arith), fresh_apart (from + 1) size)

pub core-start : (start : Start) → IsCopyCount start.copies → IsCore (start_past start)
core-start start count = record {
  rest = record {
    old = let some : 1 ≤ start.copies = count.some in omega arith;
    primary = record {
      given = λ n. refl;
      gapless = refl;
      full = omega arith;
      known = omega arith;
      numbered = λ n op at. cc;
    };
    replicas_ok = let some : 1 ≤ start.copies = count.some in fresh_replicas 1 (start.copies - 1) start.copies (omega arith) (omega arith);
    apart = fresh_apart 1 (start.copies - 1);
  };
  counted = least_known-primary 0 (map {A = ℕ} {B = Replica} fresh (range_with_len 1 (start.copies - 1)));
  stale = tt;
  ended = λ history. record { full = omega arith; numbered = λ n op at. cc };
}

-- ---- what the claims imply

pub core_primary : (line : Line) (ops : ℕ → Option Operation) (c : Copy) → PrimaryOk line ops c.seen c.global → IsLinePrimary line ops c
core_primary line ops c ok = record {
  given = ok.given;
  processed = λ n. ap (λ (s : Numbers). has s n) ok.gapless ∙ sym (or_false (nat_lt n (length line.ops)));
  cut = ok.full;
}

pub core_primary_copy : (line : Line) (ops : ℕ → Option Operation) (c : Copy) → PrimaryOk line ops c.seen c.global → IsLineCopy line ops true c
core_primary_copy line ops c ok = record {
  processed = λ n. ap (λ (s : Numbers). has s n) ok.gapless ∙ (sym (or_false (nat_lt n (length line.ops))) ∙ (sym (some-within line.ops n) ∙ ap (λ (o : Option Operation). is_some o) (sym (ok.given n))));
  committed = λ n lt. ok.given n;
  ours = λ is n op at. sym (ok.given n) ∙ at;
  global = ok.known;
}

pub core_replica : (line : Line) (primary next : ℕ) (ops : ℕ → Option Operation) (r : Replica) → IsReplica line primary next ops r → IsLineCopy line ops r.resynced r.copy
core_replica line primary next ops r ok = record { processed = ok.processed; committed = ok.committed; ours = ok.ours; global = ok.low }

pub core_known : (line : Line) (primary next : ℕ) (ops : ℕ → Option Operation) (r : Replica) → IsReplica line primary next ops r → IsKnownTruly r
core_known line primary next ops r ok = record { known = ok.truly; early = λ some. early_by r.resynced some ok.early }
  where
    early_by : (b : Bool) → 0 < r.known → (b ≡ false → r.known ≡ 0) → b ≡ true
    early_by true some none = refl
    early_by false some none = let zero_known : r.known ≡ 0 = none refl in absurd (omega arith)

-- a leader that is ready knows what is committed: each replica has acked, so that each known count is at least the cut
pub core_ready : (line : Line) (given : ℕ → ℕ → Option Operation) (s : Copies) → CoreOf line given s → KnowsWhenReady line s
core_ready line given s core ready =
    let all : AllByRecursion (λ (r : Replica). not (r.resynced && r.acked) ≡ false) s.replicas
    = find_none (λ r. not (r.resynced && r.acked)) s.replicas (none_found (find (λ r. not (r.resynced && r.acked)) s.replicas) ready) in
    let each : AllByRecursion (λ (r : Replica). line.cut ≤ r.known) s.replicas
    = All-weaker (λ (r : Replica). IsReplica line s.primary.number s.next (given r.copy.number) r × (not (r.resynced && r.acked) ≡ false)) (λ (r : Replica). line.cut ≤ r.known)
    (λ r both. both.0.late (acked_of r.resynced r.acked both.1)) s.replicas
    (All-both (λ (r : Replica). IsReplica line s.primary.number s.next (given r.copy.number) r) (λ (r : Replica). not (r.resynced && r.acked) ≡ false) s.replicas core.rest.replicas_ok all) in
    let count : s.primary.seen.count ≡ length line.ops = ap (λ (n : Numbers). n.count) core.rest.primary.gapless in
    let full : line.cut ≤ length line.ops = core.rest.primary.full in
    let least : line.cut ≤ least_known s.primary.seen.count s.replicas = least_known-bound line.cut s.primary.seen.count s.replicas (omega arith) each in
    let counted : least_known s.primary.seen.count s.replicas ≤ s.primary.global = core.counted in
    let low : s.primary.global ≤ line.cut = core.rest.primary.known in
    omega arith
  where
    none_found : (o : Option Replica) → option_map {T = Replica} {U = ℕ} (λ r. r.copy.number) o ≡ None → o ≡ None
    none_found None is = refl
    none_found (Some r) is = cc

    acked_of : (a b : Bool) → not (a && b) ≡ false → b ≡ true
    acked_of true true is = refl
    acked_of true false is = cc
    acked_of false b is = cc

-- ---- what was committed stays

-- a front of a longer front
pub take_front : (n m : ℕ) (xs : List Operation) → n ≤ m → take n (take m xs) ≡ take n xs
take_front zero m xs le = take_none (take m xs) ∙ sym (take_none xs)
  where
    take_none : (ys : List Operation) → take zero ys ≡ []
    take_none [] = refl
    take_none (y ∷ ys) = refl
take_front (suc n) zero xs le = absurd (omega arith)
take_front (suc n) (suc m) [] le = refl
take_front (suc n) (suc m) (x ∷ xs) le = ap (λ (ys : List Operation). x ∷ ys) (take_front n m xs (omega arith))

-- up to the cut the line stays, whatever the reply, where no history begins
pub line_stays : (s : Leader) (line : Line) (given : ℕ → ℕ → Option Operation) (event : Event) (reply : Reply) → begins_none event ≡ true → line.cut ≤ length line.ops
    → take line.cut (line_after s line given event reply) ≡ take line.cut line.ops
line_stays s line given (events.ForcePromote copy) reply none full = absurd (cc)
line_stays s line given (events.Write request) (replies.Written wrote) none full = take-append-le line.cut line.ops _ full
line_stays s line given (events.Promote sides.Leader copy) (replies.Promoted term filled) none full =
    let front : length (take line.cut line.ops) ≡ line.cut = length-take-le line.cut line.ops full in
    take-append-le line.cut (take line.cut line.ops) _ (omega arith) ∙ take_front line.cut line.cut line.ops (omega arith)
line_stays s line given _ _ none full = refl

pub cut_stays : (line : Line) (ops : List Operation) (event : Event) (reply : Reply) → begins_none event ≡ true → cut_after line ops event reply ≡ line.cut
cut_stays line ops (events.ForcePromote copy) reply none = absurd (cc)
cut_stays line ops _ reply none = refl

pub ended_stays : (p : Past) (event : Event) (reply : Reply) → begins_none event ≡ true → ended_after p event reply ≡ p.ended
ended_stays p (events.ForcePromote copy) reply none = absurd (cc)
ended_stays p _ reply none = refl

pub front_itself : (line : Line) → IsFront line line
front_itself line = record { cut = omega arith; same = refl }

-- the line of each history stays where no history begins, but for the leader's, which stays up to its cut
quiet_front : (p : Past) (event : Event) (picks : List ℕ) → IsCore p → begins_none event ≡ true → (history : List ℕ) → IsFront (line_of p history) (line_of (past_by p event picks) history)
quiet_front p event picks core none history =
    let o : Outcome State = step p.state event picks in
    let same : o.next.leader.history ≡ p.state.leader.history = history_stays p.state event picks none in
    subst (λ (current : List ℕ). IsFront (line_of p history) (if bytes_eq history current then (past_by p event picks).line else (past_by p event picks).ended history)) (sym same)
    (subst (λ (ended : List ℕ → Line). IsFront (line_of p history) (if bytes_eq history p.state.leader.history then (past_by p event picks).line else ended history))
    (sym (ended_stays p event o.reply none))
    ((elim (bytes_eq history p.state.leader.history) as (λ b. IsFront (if b then p.line else p.ended history) (if b then (past_by p event picks).line else p.ended history)) [
      | true ↦ record {
        cut = let cut : cut_after p.line (past_by p event picks).line.ops event o.reply ≡ p.line.cut = cut_stays p.line (past_by p event picks).line.ops event o.reply none in omega arith;
        same = line_stays p.state.leader p.line (given_after p.state.leader p.given event o.reply) event o.reply none core.rest.primary.full;
      }
      | false ↦ front_itself (p.ended history)
    ])))

-- where one begins, the line of each other one stays
forced_front : (p : Past) (copy : ℕ) (found : Option Copy) → IsCore p → stale_of p.state.leader.stale copy ≡ found → (history : List ℕ) → IsNotNext p history
    → IsFront (line_of p history) (line_of (past_with p (record { event = events.ForcePromote copy; reply = (at_leader p.state (force_promote_row p.state.leader copy found)).reply }) (at_leader p.state (force_promote_row p.state.leader copy found))) history)
unfolding force_promote_row
forced_front p copy None core is history other =
    (elim (bytes_eq history p.state.leader.history) as (λ b. IsFront (if b then p.line else p.ended history) (if b then record { ops = p.line.ops; cut = max p.line.cut p.state.leader.copies.primary.global } else p.ended history)) [
      | true ↦ record { cut = omega arith; same = refl }
      | false ↦ front_itself (p.ended history)
    ])
forced_front p copy (Some c) core is history other =
    subst (λ (b : Bool). IsFront (line_of p history) (if b then (past_with p (record { event = events.ForcePromote copy; reply = (at_leader p.state (force_promote_row p.state.leader copy (Some c))).reply }) (at_leader p.state (force_promote_row p.state.leader copy (Some c)))).line else line_of p history))
    (sym other) (front_itself (line_of p history))

-- the line of a history that isn't about to begin stays up to its cut
pub lines_stay : (p : Past) (event : Event) (picks : List ℕ) → IsCore p → (history : List ℕ) → IsNotNext p history → IsFront (line_of p history) (line_of (past_by p event picks) history)
lines_stay p (events.ForcePromote copy) picks core history other = forced_front p copy (stale_of p.state.leader.stale copy) core refl history other
lines_stay p (events.FailCopy sides.Leader copy) picks core history other = quiet_front p (events.FailCopy sides.Leader copy) picks core refl history
lines_stay p (events.Write request) picks core history other = quiet_front p (events.Write request) picks core refl history
lines_stay p (events.Replicate sides.Leader copy seq) picks core history other = quiet_front p (events.Replicate sides.Leader copy seq) picks core refl history
lines_stay p (events.Ack sides.Leader copy) picks core history other = quiet_front p (events.Ack sides.Leader copy) picks core refl history
lines_stay p (events.Sync sides.Leader copy) picks core history other = quiet_front p (events.Sync sides.Leader copy) picks core refl history
lines_stay p (events.Promote sides.Leader copy) picks core history other = quiet_front p (events.Promote sides.Leader copy) picks core refl history
lines_stay p (events.Resync copy) picks core history other = quiet_front p (events.Resync copy) picks core refl history
lines_stay p (events.AddCopy sides.Leader) picks core history other = quiet_front p (events.AddCopy sides.Leader) picks core refl history
lines_stay p (events.Flush sides.Leader copy) picks core history other = quiet_front p (events.Flush sides.Leader copy) picks core refl history
lines_stay p (events.Merge sides.Leader copy) picks core history other = quiet_front p (events.Merge sides.Leader copy) picks core refl history
lines_stay p (events.Clock sides.Leader now) picks core history other = quiet_front p (events.Clock sides.Leader now) picks core refl history
lines_stay p events.Expire picks core history other = quiet_front p events.Expire picks core refl history
lines_stay p events.CloseSessions picks core history other = quiet_front p events.CloseSessions picks core refl history
lines_stay p (events.Deliver at copy keep) picks core history other = quiet_front p (events.Deliver at copy keep) picks core refl history
lines_stay p (events.Drop at) picks core history other = quiet_front p (events.Drop at) picks core refl history
lines_stay p (events.Wake f at) picks core history other = quiet_front p (events.Wake f at) picks core refl history
lines_stay p (events.Follow params copies name) picks core history other = quiet_front p (events.Follow params copies name) picks core refl history
lines_stay p (events.Search sides.Leader copy request) picks core history other = quiet_front p (events.Search sides.Leader copy request) picks core refl history
lines_stay p (events.Search (sides.Follower f) copy request) picks core history other = quiet_front p (events.Search (sides.Follower f) copy request) picks core refl history
lines_stay p (events.Status sides.Leader) picks core history other = quiet_front p (events.Status sides.Leader) picks core refl history
lines_stay p events.Settle picks core history other = quiet_front p events.Settle picks core refl history
lines_stay p (events.Replicate (sides.Follower f) copy seq) picks core history other = quiet_front p (events.Replicate (sides.Follower f) copy seq) picks core refl history
lines_stay p (events.Ack (sides.Follower f) copy) picks core history other = quiet_front p (events.Ack (sides.Follower f) copy) picks core refl history
lines_stay p (events.Sync (sides.Follower f) copy) picks core history other = quiet_front p (events.Sync (sides.Follower f) copy) picks core refl history
lines_stay p (events.Promote (sides.Follower f) copy) picks core history other = quiet_front p (events.Promote (sides.Follower f) copy) picks core refl history
lines_stay p (events.FailCopy (sides.Follower f) copy) picks core history other = quiet_front p (events.FailCopy (sides.Follower f) copy) picks core refl history
lines_stay p (events.AddCopy (sides.Follower f)) picks core history other = quiet_front p (events.AddCopy (sides.Follower f)) picks core refl history
lines_stay p (events.Flush (sides.Follower f) copy) picks core history other = quiet_front p (events.Flush (sides.Follower f) copy) picks core refl history
lines_stay p (events.Merge (sides.Follower f) copy) picks core history other = quiet_front p (events.Merge (sides.Follower f) copy) picks core refl history
lines_stay p (events.Clock (sides.Follower f) now) picks core history other = quiet_front p (events.Clock (sides.Follower f) now) picks core refl history
lines_stay p (events.Status (sides.Follower f)) picks core history other = quiet_front p (events.Status (sides.Follower f)) picks core refl history
lines_stay p (events.Tick f) picks core history other = quiet_front p (events.Tick f) picks core refl history
lines_stay p (events.Lose f at) picks core history other = quiet_front p (events.Lose f at) picks core refl history
lines_stay p (events.LoseWrite f write) picks core history other = quiet_front p (events.LoseWrite f write) picks core refl history
lines_stay p (events.Take f write) picks core history other = quiet_front p (events.Take f write) picks core refl history
lines_stay p (events.Apply f epoch write batch) picks core history other = quiet_front p (events.Apply f epoch write batch) picks core refl history
lines_stay p (events.Written f write) picks core history other = quiet_front p (events.Written f write) picks core refl history
lines_stay p (events.Renew f) picks core history other = quiet_front p (events.Renew f) picks core refl history
lines_stay p (events.Pause f) picks core history other = quiet_front p (events.Pause f) picks core refl history
lines_stay p (events.Resume f) picks core history other = quiet_front p (events.Resume f) picks core refl history
lines_stay p (events.Restart f) picks core history other = quiet_front p (events.Restart f) picks core refl history
lines_stay p (events.Unfollow f) picks core history other = quiet_front p (events.Unfollow f) picks core refl history

pub take_of_front : (old new : Line) → IsFront old new → take old.cut (committed new) ≡ committed old
take_of_front old new front = take_front old.cut new.cut new.ops front.cut ∙ front.same

-- what was committed of each history stays, at each entry
pub committed_stays : (p : Past) (entry : Entry) → IsLegalAt p entry → IsCore p → (history : List ℕ) → IsNotNext p history
    → take (line_of p history).cut (committed (line_of (past_after p entry) history)) ≡ committed (line_of p history)
committed_stays p entry legal core =
    after_legal (λ (q : Past). (history : List ℕ) → IsNotNext p history → take (line_of p history).cut (committed (line_of q history)) ≡ committed (line_of p history))
    p entry legal
    (λ history other. take_of_front (line_of p history) (line_of (past_by p entry.event (picks_in entry.reply)) history) (lines_stay p entry.event (picks_in entry.reply) core history other))

-- ---- at every place

pub core-at : (start : Start) → IsCopyCount start.copies → (entries : List Entry) → IsLegal (start_state start) entries → IsCore (past_of (start_past start) entries)
core-at start count entries legal = by_entries IsCore (by_events IsCore core-keeps) (start_past start) entries legal (core-start start count)

pub core-says : (p : Past) → IsCore p → IsTrueCore p
core-says p core = record {
  primary = core_primary p.line (p.given p.state.leader.copies.primary.number) p.state.leader.copies.primary core.rest.primary;
  copy = core_primary_copy p.line (p.given p.state.leader.copies.primary.number) p.state.leader.copies.primary core.rest.primary;
  replicas = All-weaker (λ (r : Replica). IsReplica p.line p.state.leader.copies.primary.number p.state.leader.copies.next (p.given r.copy.number) r)
      (λ (r : Replica). IsLineReplica p r)
      (λ r ok. record {
        line = core_replica p.line p.state.leader.copies.primary.number p.state.leader.copies.next (p.given r.copy.number) r ok;
        known = core_known p.line p.state.leader.copies.primary.number p.state.leader.copies.next (p.given r.copy.number) r ok;
      })
      p.state.leader.copies.replicas core.rest.replicas_ok;
  ready = core_ready p.line p.given p.state.leader.copies (living p core);
}

-- what goes on of the history that a forced promotion would begin now, where no history of this UUID was begun
front_of_none : (line : Line) → IsFront no_line line
front_of_none line = record { cut = omega arith; same = take_none line.ops }
  where
    take_none : (ops : List Operation) → take zero ops ≡ []
    take_none [] = refl
    take_none (op ∷ ops) = refl

-- the history that a forced promotion would begin now
abbrev pub next_history : Past → List ℕ
next_history p = history_of_term p.state.leader.start.history (p.state.leader.copies.term + 1)

-- where the leader's history isn't the next one, and no history of the next one's UUID has ended, each goes on
pub goes-onward : (p : Past) (event : Event) (picks : List ℕ) → IsCore p → bytes_eq (next_history p) p.state.leader.history ≡ false → p.ended (next_history p) ≡ no_line
    → HasOnward p (past_by p event picks)
goes-onward p event picks core other none history =
    (elim (bytes_eq history (next_history p)) as (λ b. bytes_eq history (next_history p) ≡ b → IsFront (line_of p history) (line_of (past_by p event picks) history)) [
      | true ↦ λ is. subst (λ (h : List ℕ). IsFront (line_of p h) (line_of (past_by p event picks) h)) (sym ((bytes_eq-Decides history (next_history p)).0 is))
          (subst (λ (line : Line). IsFront line (line_of (past_by p event picks) (next_history p)))
          (sym (ap (λ (b : Bool). if b then p.line else p.ended (next_history p)) other ∙ none)) (front_of_none (line_of (past_by p event picks) (next_history p))))
      | false ↦ λ isnt. lines_stay p event picks core history isnt
    ]) refl

-- ---- the theorem

pub true_core_at : (start : Start) → IsCopyCount start.copies → (entries : List Entry) → IsLegal (start_state start) entries → IsTrueCore (past_of (start_past start) entries)
true_core_at start count entries legal = core-says (past_of (start_past start) entries) (core-at start count entries legal)

pub committed_from : (p : Past) → IsCore p → (entries : List Entry) → IsLegal p.state entries → KeepsCommitted p entries
committed_from p core [] legal = tt
committed_from p core (entry ∷ entries) legal =
    (committed_stays p entry legal.0 core, committed_from (past_after p entry) (by_events IsCore core-keeps p entry legal.0 core) entries legal.1)

pub committed_at : (start : Start) → IsCopyCount start.copies → (entries : List Entry) → IsLegal (start_state start) entries → KeepsCommitted (start_past start) entries
committed_at start count entries legal = committed_from (start_past start) (core-start start count) entries legal
