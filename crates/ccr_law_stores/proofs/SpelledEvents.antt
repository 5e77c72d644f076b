-- Each fit event leaves the operations that the leader's copies were given small.
use Rattle.std.specs.Prelude.{slice_get}
use Rattle.std.proofs.Common.{◌≡◌, ℕ, ◌+◌, ◌≤◌, ◌==◌, Bool, true, if◌then◌else◌, Option, Some, None, List, refl, sym, subst, arith}
use Rattle.ccr_op.specs.Operation.{Operation}
use Rattle.ccr_doc.specs.declared.sources.BadSource.{BadSource as SourceFault}
use Rattle.ccr_journal.specs.declared.requests.WriteRequest.{WriteRequest}
use Rattle.ccr_journal.specs.declared.sides.Side.TheVariants as sides
use Rattle.ccr_journal.specs.declared.events.Event.{Event}
use Rattle.ccr_journal.specs.declared.events.Event.TheVariants as events
use Rattle.ccr_model.specs.Fit.{IsFitRequest, IsFitEvent}
use Rattle.ccr_model.specs.Outcomes.{Outcome}
use Rattle.ccr_model.specs.Operations.{live}
use Rattle.ccr_model.specs.Stores.{held}
use Rattle.ccr_model.specs.Copies.{Copy, Replica, Copies, copy_of, replica_of}
use Rattle.ccr_model.specs.CopyRows.{replicate_row, ack_row, sync_row, fail_copy_row, add_copy_row, flush_row, merge_row}
use Rattle.ccr_model.specs.Given.{IsAmong, gave, gaining, plugged, joined_at}
use Rattle.ccr_model.specs.LeaderRows.{write_row, wrote_at, written_operation, end_of, resync_mark, settling_requests, expire_row, leader_promote_row, force_promote_row, resync_row, leader_fail_copy_row, leader_clock_row, close_sessions_row, leader_status_row}
use Rattle.ccr_model.specs.Leaders.{stale_of}
use Rattle.ccr_model.specs.Followers.{Follower}
use Rattle.ccr_model.specs.World.{State, at_leader, for_follower, same_name, search_row}
use Rattle.ccr_model.specs.Step.{step}
use Rattle.ccr_model.specs.Past.{Past, past_with, end_of_replica, end_of_stale, resync_given}
use Rattle.ccr_law_base.specs.Events.{past_by}
use Rattle.ccr_law_base.proofs.Cases.{on_if, on_guards}
use Rattle.ccr_law_copies.specs.Cores.{StaleOk, IsCore}
use Rattle.ccr_law_base.proofs.Lists.{All-weaker, All-find, some_equal}
use Rattle.ccr_law_copies.proofs.LeaderQuiet.{KeepsLeader, for_follower_keeps, deliver_keeps, drop_keeps, woken_keeps, follow_keeps, search_keeps}
use Rattle.ccr_law_copies.proofs.LeaderRows.{at_copies, at_copies_settling, Found, found_in}
use Rattle.ccr_law_copies.proofs.LeaderEvents.{searched_keeps, living}
use Rattle.ccr_law_stores.specs.TrueStores.{HasTrueStores}
use Rattle.ccr_law_stores.specs.Spelled.{IsSmall, AreSmall, HasSmallOps}
use Rattle.ccr_law_stores.proofs.StoreRows.{IsFit, primary-fit, replica-fit}
use Rattle.ccr_law_stores.proofs.SmallOperations.{small-later, small-quiet, small-gave, small-gaining, small-joined, small-plugged, end-low, processed-low, live-of, written-small}
use Rattle.ccr_law_copies.proofs.Sets.{count_within}

-- the claims after an event, where this is what it comes to
abbrev pub SmallAfter : Past → Event → Outcome State → Type 0
SmallAfter p event o = HasSmallOps (past_with p (record { event = event; reply = o.reply }) o)

pub quiet : (p : Past) → HasSmallOps p → AreSmall (p.place + 1) p.given p.state.leader.copies.term
quiet p ok = small-quiet p.place p.given p.state.leader.copies.term ok

pub kept_by : (p : Past) (o : Outcome State) → KeepsLeader p.state o → HasSmallOps p → AreSmall (p.place + 1) p.given o.next.leader.copies.term
kept_by p o same ok = subst (λ (t : Copies). AreSmall (p.place + 1) p.given t.term) (sym same.1) (quiet p ok)

pub on_followers : (p : Past) (f : ℕ) (row : Follower → Outcome Follower) → HasSmallOps p
    → AreSmall (p.place + 1) p.given (for_follower p.state f row (slice_get p.state.followers f)).next.leader.copies.term
on_followers p f row ok = kept_by p (for_follower p.state f row (slice_get p.state.followers f)) (for_follower_keeps p.state f row (slice_get p.state.followers f)) ok

pub old-small : (p : Past) (copy : ℕ) → HasSmallOps p → (n : ℕ) (op : Operation) → p.given copy n ≡ Some op → IsSmall (p.place + 1) op
old-small p copy ok n op at = small-later p.place op (ok.each copy n op at)

pub term-later : (p : Past) → HasSmallOps p → p.state.leader.copies.term ≤ p.place + 1 + 1
term-later p ok = let le : p.state.leader.copies.term ≤ p.place + 1 = ok.low in omega arith

-- ---- each event

pub write_small : (p : Past) (request : WriteRequest) (fault : Option SourceFault) → IsFitRequest request → IsCore p → HasTrueStores p → HasSmallOps p
    → SmallAfter p (events.Write request) (at_copies p (write_row p.state.leader.copies request fault (live (held p.state.leader.copies.primary.store) request.id)))
unfolding write_row
write_small p request (Some fault) fits core stores ok = quiet p ok
write_small p request None fits core stores ok =
    let s = p.state.leader.copies in
    on_guards (λ (o : Outcome Copies). SmallAfter p (events.Write request) (at_copies p o)) s _ _
    (λ why. quiet p ok)
    (λ tests.
    let fit : IsFit (p.given s.primary.number) s.primary = primary-fit p.line (p.given s.primary.number) s.primary core.rest.primary in
    let found : Option Operation = live (held s.primary.store) request.id in
    small-gave p.place p.given s.term s.term s.primary.number
    (gaining (p.given s.primary.number) (wrote_at s request found).seq (Some (written_operation request (wrote_at s request found))))
    (term-later p ok)
    (small-gaining p.place (p.given s.primary.number) (wrote_at s request found).seq (Some (written_operation request (wrote_at s request found)))
    (old-small p s.primary.number ok)
    (λ op at. subst (IsSmall (p.place + 1)) (some_equal (written_operation request (wrote_at s request found)) op at)
    (written-small p.place s request found fits
    (count_within s.primary.seen p.place (processed-low p.place p.given s.term s.primary.number s.primary.seen ok fit.numbered fit.processed)) ok.low
    (λ op is. live-of (λ (x : Operation). x.version ≤ p.place) (held s.primary.store) request.id op
    (All-weaker (IsAmong (p.given s.primary.number)) (λ (x : Operation). x.version ≤ p.place) (λ x given. (ok.each s.primary.number x.seq x given).version)
    (held s.primary.store) stores.own.store.ours) is))))
    ok)

pub replicate_small : (p : Past) (copy seq : ℕ) (found : Option Replica) → HasSmallOps p
    → SmallAfter p (events.Replicate sides.Leader copy seq) (at_copies p (replicate_row p.state.leader.copies copy seq found))
unfolding replicate_row
replicate_small p copy seq None ok = quiet p ok
replicate_small p copy seq (Some r) ok =
    on_guards (λ (o : Outcome Copies). SmallAfter p (events.Replicate sides.Leader copy seq) (at_copies p o)) p.state.leader.copies _ _
    (λ why. quiet p ok)
    (λ tests.
    let s = p.state.leader.copies in
    small-gave p.place p.given s.term s.term copy (gaining (p.given copy) seq (p.given s.primary.number seq)) (term-later p ok)
    (small-gaining p.place (p.given copy) seq (p.given s.primary.number seq) (old-small p copy ok) (λ op at. old-small p s.primary.number ok seq op at)) ok)

pub ack_small : (p : Past) (copy : ℕ) (found : Option Replica) → HasSmallOps p
    → SmallAfter p (events.Ack sides.Leader copy) (at_copies p (ack_row p.state.leader.copies copy found))
unfolding ack_row
ack_small p copy None ok = quiet p ok
ack_small p copy (Some r) ok =
    on_guards (λ (o : Outcome Copies). SmallAfter p (events.Ack sides.Leader copy) (at_copies p o)) p.state.leader.copies _ _ (λ why. quiet p ok) (λ tests. quiet p ok)

pub sync_small : (p : Past) (copy : ℕ) (found : Option Replica) → HasSmallOps p
    → SmallAfter p (events.Sync sides.Leader copy) (at_copies_settling p (sync_row p.state.leader.copies copy found))
unfolding sync_row
sync_small p copy None ok = quiet p ok
sync_small p copy (Some r) ok =
    on_guards (λ (o : Outcome Copies). SmallAfter p (events.Sync sides.Leader copy) (at_copies_settling p o)) p.state.leader.copies _ _ (λ why. quiet p ok) (λ tests. quiet p ok)

pub fail_copy_small : (p : Past) (copy : ℕ) (found : Option Replica) → HasSmallOps p
    → SmallAfter p (events.FailCopy sides.Leader copy) (at_leader p.state (settling_requests (leader_fail_copy_row p.state.leader copy found)))
unfolding leader_fail_copy_row fail_copy_row
fail_copy_small p copy None ok = quiet p ok
fail_copy_small p copy (Some r) ok = quiet p ok

pub add_copy_small : (p : Past) → HasSmallOps p → SmallAfter p (events.AddCopy sides.Leader) (at_copies p (add_copy_row p.state.leader.copies))
unfolding add_copy_row
add_copy_small p ok =
    on_guards (λ (o : Outcome Copies). SmallAfter p (events.AddCopy sides.Leader) (at_copies p o)) p.state.leader.copies _ _
    (λ why. quiet p ok)
    (λ tests.
    let s = p.state.leader.copies in
    small-gave p.place p.given s.term s.term s.next (p.given s.primary.number) (term-later p ok) (old-small p s.primary.number ok) ok)

pub flush_small : (p : Past) (copy : ℕ) (found : Option Copy) → HasSmallOps p
    → SmallAfter p (events.Flush sides.Leader copy) (at_copies p (flush_row p.state.leader.copies copy found))
unfolding flush_row
flush_small p copy None ok = quiet p ok
flush_small p copy (Some c) ok =
    on_if (λ (t : Copies). AreSmall (p.place + 1) p.given t.term) (p.state.leader.copies.primary.number == copy) _ _ (λ is. quiet p ok) (λ isnt. quiet p ok)

pub merge_small : (p : Past) (copy : ℕ) (picks : List ℕ) (found : Option Copy) → HasSmallOps p
    → SmallAfter p (events.Merge sides.Leader copy) (at_copies p (merge_row p.state.leader.copies p.state.leader.start.retention copy picks found))
unfolding merge_row
merge_small p copy picks None ok = quiet p ok
merge_small p copy picks (Some c) ok =
    on_if (λ (t : Copies). AreSmall (p.place + 1) p.given t.term) (p.state.leader.copies.primary.number == copy) _ _ (λ is. quiet p ok) (λ isnt. quiet p ok)

pub expire_small : (p : Past) → HasSmallOps p → SmallAfter p events.Expire (at_leader p.state (expire_row p.state.leader))
unfolding expire_row
expire_small p ok = quiet p ok

pub clock_small : (p : Past) (now : ℕ) → HasSmallOps p → SmallAfter p (events.Clock sides.Leader now) (at_leader p.state (leader_clock_row p.state.leader now))
unfolding leader_clock_row
clock_small p now ok = quiet p ok

pub close_small : (p : Past) → HasSmallOps p → SmallAfter p events.CloseSessions (at_leader p.state (close_sessions_row p.state.leader))
unfolding close_sessions_row
close_small p ok = quiet p ok

pub status_small : (p : Past) → HasSmallOps p → SmallAfter p (events.Status sides.Leader) (at_leader p.state (leader_status_row p.state.leader))
unfolding leader_status_row
status_small p ok = quiet p ok

pub resync_small : (p : Past) (copy : ℕ) (found : Option Replica) → replica_of p.state.leader.copies copy ≡ found → HasSmallOps p
    → SmallAfter p (events.Resync copy) (at_copies p (resync_row p.state.leader.copies copy found))
unfolding resync_row
resync_small p copy None is ok = quiet p ok
resync_small p copy (Some r) is ok =
    let s = p.state.leader.copies in
    on_if (λ (o : Outcome Copies). SmallAfter p (events.Resync copy) (at_copies p o)) r.resynced _ _
    (λ was. subst (λ (o : Option Replica). AreSmall (p.place + 1) (resync_given p.state.leader p.given copy o) s.term) (sym is)
    (subst (λ (b : Bool). AreSmall (p.place + 1) (if b then p.given else gave p.given copy (joined_at (resync_mark s r) (p.given copy) (p.given s.primary.number))) s.term) (sym was)
    (quiet p ok)))
    (λ wasnt. subst (λ (o : Option Replica). AreSmall (p.place + 1) (resync_given p.state.leader p.given copy o) s.term) (sym is)
    (subst (λ (b : Bool). AreSmall (p.place + 1) (if b then p.given else gave p.given copy (joined_at (resync_mark s r) (p.given copy) (p.given s.primary.number))) s.term) (sym wasnt)
    (small-gave p.place p.given s.term s.term copy (joined_at (resync_mark s r) (p.given copy) (p.given s.primary.number)) (term-later p ok)
    (small-joined p.place (resync_mark s r) (p.given copy) (p.given s.primary.number) (old-small p copy ok) (old-small p s.primary.number ok)) ok)))

pub promote_small : (p : Past) (copy : ℕ) (found : Option Replica) → replica_of p.state.leader.copies copy ≡ found → IsCore p → HasSmallOps p
    → SmallAfter p (events.Promote sides.Leader copy) (at_leader p.state (leader_promote_row p.state.leader copy found))
unfolding leader_promote_row
promote_small p copy None is core ok = quiet p ok
promote_small p copy (Some r) is core ok =
    let s = p.state.leader.copies in
    let f : Found p.line p.given s.primary.number s.next copy r = found_in p.line p.given s copy r (living p core) is in
    let fit : IsFit (p.given copy) r.copy = replica-fit p.line s.primary.number s.next (p.given copy) r core.rest.primary.full f.replica in
    subst (λ (o : Option Replica). AreSmall (p.place + 1) (gave p.given copy (plugged (p.given copy) (s.term + 1) (end_of_replica o))) (s.term + 1)) (sym is)
    (small-gave p.place p.given s.term (s.term + 1) copy (plugged (p.given copy) (s.term + 1) (end_of r.copy.seen))
    (let le : s.term ≤ p.place + 1 = ok.low in omega arith)
    (small-plugged p.place (s.term + 1) (end_of r.copy.seen) (p.given copy) (let le : s.term ≤ p.place + 1 = ok.low in omega arith)
    (end-low r.copy.seen p.place (processed-low p.place p.given s.term copy r.copy.seen ok fit.numbered fit.processed))
    (old-small p copy ok)) ok)

pub force_small : (p : Past) (copy : ℕ) (found : Option Copy) → stale_of p.state.leader.stale copy ≡ found → IsCore p → HasSmallOps p
    → SmallAfter p (events.ForcePromote copy) (at_leader p.state (force_promote_row p.state.leader copy found))
unfolding force_promote_row
force_small p copy None is core ok = quiet p ok
force_small p copy (Some c) is core ok =
    let s = p.state.leader.copies in
    let own : StaleOk (p.given c.number) s.primary.number s.next s.replicas c.number c.seen c.global × ((c.number == copy) ≡ true)
    = All-find (λ (x : Copy). StaleOk (p.given x.number) s.primary.number s.next s.replicas x.number x.seen x.global) (λ (x : Copy). x.number == copy) p.state.leader.stale c core.stale is in
    subst (λ (o : Option Copy). AreSmall (p.place + 1) (gave p.given copy (plugged (p.given copy) (s.term + 1) (end_of_stale o))) (s.term + 1)) (sym is)
    (small-gave p.place p.given s.term (s.term + 1) copy (plugged (p.given copy) (s.term + 1) (end_of c.seen))
    (let le : s.term ≤ p.place + 1 = ok.low in omega arith)
    (small-plugged p.place (s.term + 1) (end_of c.seen) (p.given copy) (let le : s.term ≤ p.place + 1 = ok.low in omega arith)
    (end-low c.seen p.place (processed-low p.place p.given s.term c.number c.seen ok own.0.numbered own.0.processed))
    (old-small p copy ok)) ok)

pub small-keeps : (p : Past) (event : Event) (picks : List ℕ) → IsFitEvent event → IsCore p → HasTrueStores p → HasSmallOps p → HasSmallOps (past_by p event picks)
small-keeps p (events.Write request) picks fits core stores ok = write_small p request _ fits core stores ok
small-keeps p (events.Replicate sides.Leader copy seq) picks fits core stores ok = replicate_small p copy seq (replica_of p.state.leader.copies copy) ok
small-keeps p (events.Replicate (sides.Follower f) copy seq) picks fits core stores ok = on_followers p f _ ok
small-keeps p (events.Ack sides.Leader copy) picks fits core stores ok = ack_small p copy (replica_of p.state.leader.copies copy) ok
small-keeps p (events.Ack (sides.Follower f) copy) picks fits core stores ok = on_followers p f _ ok
small-keeps p (events.Sync sides.Leader copy) picks fits core stores ok = sync_small p copy (replica_of p.state.leader.copies copy) ok
small-keeps p (events.Sync (sides.Follower f) copy) picks fits core stores ok = on_followers p f _ ok
small-keeps p (events.Promote sides.Leader copy) picks fits core stores ok = promote_small p copy (replica_of p.state.leader.copies copy) refl core ok
small-keeps p (events.Promote (sides.Follower f) copy) picks fits core stores ok = on_followers p f _ ok
small-keeps p (events.ForcePromote copy) picks fits core stores ok = force_small p copy (stale_of p.state.leader.stale copy) refl core ok
small-keeps p (events.Resync copy) picks fits core stores ok = resync_small p copy (replica_of p.state.leader.copies copy) refl ok
small-keeps p (events.FailCopy sides.Leader copy) picks fits core stores ok = fail_copy_small p copy (replica_of p.state.leader.copies copy) ok
small-keeps p (events.FailCopy (sides.Follower f) copy) picks fits core stores ok = on_followers p f _ ok
small-keeps p (events.AddCopy sides.Leader) picks fits core stores ok = add_copy_small p ok
small-keeps p (events.AddCopy (sides.Follower f)) picks fits core stores ok = on_followers p f _ ok
small-keeps p (events.Flush sides.Leader copy) picks fits core stores ok = flush_small p copy (copy_of p.state.leader.copies copy) ok
small-keeps p (events.Flush (sides.Follower f) copy) picks fits core stores ok = on_followers p f _ ok
small-keeps p (events.Merge sides.Leader copy) picks fits core stores ok = merge_small p copy picks (copy_of p.state.leader.copies copy) ok
small-keeps p (events.Merge (sides.Follower f) copy) picks fits core stores ok = on_followers p f _ ok
small-keeps p (events.Clock sides.Leader now) picks fits core stores ok = clock_small p now ok
small-keeps p (events.Clock (sides.Follower f) now) picks fits core stores ok = on_followers p f _ ok
small-keeps p events.Expire picks fits core stores ok = expire_small p ok
small-keeps p events.CloseSessions picks fits core stores ok = close_small p ok
small-keeps p (events.Tick f) picks fits core stores ok = on_followers p f _ ok
small-keeps p (events.Deliver at copy keep) picks fits core stores ok =
    kept_by p (step p.state (events.Deliver at copy keep) picks) (deliver_keeps p.state at copy keep (slice_get p.state.flight at) (copy_of p.state.leader.copies copy)) ok
small-keeps p (events.Drop at) picks fits core stores ok = kept_by p (step p.state (events.Drop at) picks) (drop_keeps p.state at (slice_get p.state.flight at)) ok
small-keeps p (events.Wake f at) picks fits core stores ok = kept_by p (step p.state (events.Wake f at) picks) (woken_keeps p.state f at (slice_get p.state.followers f)) ok
small-keeps p (events.Lose f at) picks fits core stores ok = on_followers p f _ ok
small-keeps p (events.LoseWrite f write) picks fits core stores ok = on_followers p f _ ok
small-keeps p (events.Take f write) picks fits core stores ok = on_followers p f _ ok
small-keeps p (events.Apply f epoch write batch) picks fits core stores ok = on_followers p f _ ok
small-keeps p (events.Written f write) picks fits core stores ok = on_followers p f _ ok
small-keeps p (events.Renew f) picks fits core stores ok = on_followers p f _ ok
small-keeps p (events.Follow params copies name) picks fits core stores ok = kept_by p (step p.state (events.Follow params copies name) picks) (follow_keeps p.state params copies name (same_name p.state.followers name)) ok
small-keeps p (events.Pause f) picks fits core stores ok = on_followers p f _ ok
small-keeps p (events.Resume f) picks fits core stores ok = on_followers p f _ ok
small-keeps p (events.Restart f) picks fits core stores ok = on_followers p f _ ok
small-keeps p (events.Unfollow f) picks fits core stores ok = on_followers p f _ ok
small-keeps p (events.Search sides.Leader copy request) picks fits core stores ok =
    kept_by p (step p.state (events.Search sides.Leader copy request) picks) (search_keeps p.state copy request.query request.sort (copy_of p.state.leader.copies copy)) ok
small-keeps p (events.Search (sides.Follower f) copy request) picks fits core stores ok =
    kept_by p (step p.state (events.Search (sides.Follower f) copy request) picks) (searched_keeps p.state f (search_row p.state copy request.query request.sort) copy (slice_get p.state.followers f) (search_keeps p.state copy request.query request.sort)) ok
small-keeps p (events.Status sides.Leader) picks fits core stores ok = status_small p ok
small-keeps p (events.Status (sides.Follower f)) picks fits core stores ok = on_followers p f _ ok
small-keeps p events.Settle picks fits core stores ok =
    on_guards (SmallAfter p events.Settle) p.state _ _ (λ why. quiet p ok) (λ tests. quiet p ok)
