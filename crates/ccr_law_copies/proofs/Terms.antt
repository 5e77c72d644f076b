-- The leader's term is the same after an event or the next one.
use Rattle.std.specs.Prelude.{slice_get}
use Rattle.std.proofs.Common.{◌≡◌, ℕ, ◌+◌, ◌≤◌, ◌==◌, Option, Some, None, List, refl, ◌∙◌, ap, arith}
use Rattle.ccr_op.specs.Operation.{Operation}
use Rattle.ccr_doc.specs.declared.sources.BadSource.{BadSource as SourceFault}
use Rattle.ccr_journal.specs.declared.requests.WriteRequest.{WriteRequest}
use Rattle.ccr_journal.specs.declared.sides.Side.TheVariants as sides
use Rattle.ccr_journal.specs.declared.events.Event.{Event}
use Rattle.ccr_journal.specs.declared.events.Event.TheVariants as events
use Rattle.ccr_model.specs.Operations.{live}
use Rattle.ccr_model.specs.Stores.{held, flushed}
use Rattle.ccr_model.specs.Outcomes.{Outcome, within}
use Rattle.ccr_model.specs.Copies.{Copy, Replica, Copies, replica_of, copy_of, changed_at}
use Rattle.ccr_model.specs.CopyRows.{replicate_row, ack_row, sync_row, fail_copy_row, add_copy_row, flush_row, after_merge, merge_row}
use Rattle.ccr_model.specs.Leaders.{Leader, stale_of}
use Rattle.ccr_model.specs.LeaderRows.{with_copies, source_fault, write_row, leader_promote_row, force_promote_row, resync_row, leader_fail_copy_row, leader_clock_row, expire_row, close_sessions_row, leader_status_row, settling_requests}
use Rattle.ccr_model.specs.Followers.{Follower}
use Rattle.ccr_model.specs.World.{State, for_follower, same_name, search_row}
use Rattle.ccr_model.specs.Step.{step}
use Rattle.ccr_law_base.proofs.Cases.{on_if, on_guards}
use Rattle.ccr_law_copies.proofs.LeaderQuiet.{KeepsLeader, answering_copies, for_follower_keeps, deliver_keeps, drop_keeps, woken_keeps, follow_keeps, search_keeps}
use Rattle.ccr_law_copies.proofs.LeaderEvents.{searched_keeps}

pub record GoesOn (old new : ℕ) : Type 0 where
  pub least : old ≤ new
  pub most : new ≤ old + 1

same_term : (old new : ℕ) → new ≡ old → GoesOn old new
same_term old new same = record { least = omega arith; most = omega arith }

next_term : (term : ℕ) → GoesOn term (term + 1)
next_term term = record { least = omega arith; most = omega arith }

abbrev Stays : Copies → Outcome Copies → Type 0
Stays s o = o.next.term ≡ s.term

-- ---- the copies' rows

writes : (s : Copies) (request : WriteRequest) (fault : Option SourceFault) (found : Option Operation) → Stays s (write_row s request fault found)
unfolding write_row
writes s request (Some fault) found = refl
writes s request None found = on_guards (Stays s) s _ _ (λ why. refl) (λ tests. refl)

replicates : (s : Copies) (copy seq : ℕ) (found : Option Replica) → Stays s (replicate_row s copy seq found)
unfolding replicate_row
replicates s copy seq None = refl
replicates s copy seq (Some r) = on_guards (Stays s) s _ _ (λ why. refl) (λ tests. refl)

acks : (s : Copies) (copy : ℕ) (found : Option Replica) → Stays s (ack_row s copy found)
unfolding ack_row
acks s copy None = refl
acks s copy (Some r) = on_guards (Stays s) s _ _ (λ why. refl) (λ tests. refl)

syncs : (s : Copies) (copy : ℕ) (found : Option Replica) → Stays s (sync_row s copy found)
unfolding sync_row
syncs s copy None = refl
syncs s copy (Some r) = on_guards (Stays s) s _ _ (λ why. refl) (λ tests. refl)

resyncs : (s : Copies) (copy : ℕ) (found : Option Replica) → Stays s (resync_row s copy found)
unfolding resync_row
resyncs s copy None = refl
resyncs s copy (Some r) = on_if (Stays s) r.resynced _ _ (λ already. refl) (λ not_yet. refl)

adds : (s : Copies) → Stays s (add_copy_row s)
unfolding add_copy_row
adds s = on_guards (Stays s) s _ _ (λ why. refl) (λ tests. refl)

changes : (s : Copies) (copy : ℕ) (change : Copy → Copy) → (changed_at copy change s).term ≡ s.term
changes s copy change = on_if (λ (next : Copies). next.term ≡ s.term) (s.primary.number == copy) _ _ (λ is. refl) (λ isnt. refl)

flushes : (s : Copies) (copy : ℕ) (found : Option Copy) → Stays s (flush_row s copy found)
unfolding flush_row
flushes s copy None = refl
flushes s copy (Some c) = changes s copy (λ own. record own { store = flushed own.store; commit = own.global })

merges : (s : Copies) (retention copy : ℕ) (picks : List ℕ) (found : Option Copy) → Stays s (merge_row s retention copy picks found)
unfolding merge_row
merges s retention copy picks None = refl
merges s retention copy picks (Some c) = changes s copy (after_merge retention picks)

-- ---- the leader's rows

abbrev LeaderGoes : Leader → Outcome Leader → Type 0
LeaderGoes s o = GoesOn s.copies.term o.next.copies.term

-- requests that are due are answered besides
settling : (s : Leader) (o : Outcome Leader) → o.next.copies.term ≡ s.copies.term → LeaderGoes s (settling_requests o)
settling s o same = same_term s.copies.term (settling_requests o).next.copies.term (ap (λ (c : Copies). c.term) (answering_copies o.reply o) ∙ same)

fails : (s : Leader) (copy : ℕ) (found : Option Replica) → (leader_fail_copy_row s copy found).next.copies.term ≡ s.copies.term
unfolding leader_fail_copy_row fail_copy_row
fails s copy None = refl
fails s copy (Some r) = refl

promotes : (s : Leader) (copy : ℕ) (found : Option Replica) → LeaderGoes s (leader_promote_row s copy found)
unfolding leader_promote_row
promotes s copy None = same_term s.copies.term s.copies.term refl
promotes s copy (Some r) = next_term s.copies.term

forces : (s : Leader) (copy : ℕ) (found : Option Copy) → LeaderGoes s (force_promote_row s copy found)
unfolding force_promote_row
forces s copy None = same_term s.copies.term s.copies.term refl
forces s copy (Some c) = next_term s.copies.term

clocks : (s : Leader) (now : ℕ) → LeaderGoes s (leader_clock_row s now)
unfolding leader_clock_row
clocks s now = same_term s.copies.term s.copies.term refl

expires : (s : Leader) → LeaderGoes s (expire_row s)
unfolding expire_row
expires s = same_term s.copies.term s.copies.term refl

closes : (s : Leader) → LeaderGoes s (close_sessions_row s)
unfolding close_sessions_row
closes s = same_term s.copies.term s.copies.term refl

shows : (s : Leader) → LeaderGoes s (leader_status_row s)
unfolding leader_status_row
shows s = same_term s.copies.term s.copies.term refl

-- ---- each event

abbrev Goes : State → Outcome State → Type 0
Goes s o = GoesOn s.leader.copies.term o.next.leader.copies.term

-- the leader's copies stay, but for the primary's leases
keeps : (s : State) (o : Outcome State) → KeepsLeader s o → Goes s o
keeps s o same = same_term s.leader.copies.term o.next.leader.copies.term (ap (λ (c : Copies). c.term) same.1)

follows : (s : State) (f : ℕ) (row : Follower → Outcome Follower) → Goes s (for_follower s f row (slice_get s.followers f))
follows s f row = keeps s (for_follower s f row (slice_get s.followers f)) (for_follower_keeps s f row (slice_get s.followers f))

pub term_goes_on : (s : State) (event : Event) (picks : List ℕ) → Goes s (step s event picks)
term_goes_on s (events.Write request) picks =
    same_term s.leader.copies.term _ (writes s.leader.copies request (source_fault request.body) (live (held s.leader.copies.primary.store) request.id))
term_goes_on s (events.Replicate sides.Leader copy seq) picks = same_term s.leader.copies.term _ (replicates s.leader.copies copy seq (replica_of s.leader.copies copy))
term_goes_on s (events.Replicate (sides.Follower f) copy seq) picks = follows s f _
term_goes_on s (events.Ack sides.Leader copy) picks = same_term s.leader.copies.term _ (acks s.leader.copies copy (replica_of s.leader.copies copy))
term_goes_on s (events.Ack (sides.Follower f) copy) picks = follows s f _
term_goes_on s (events.Sync sides.Leader copy) picks =
    settling s.leader (within (with_copies s.leader) (sync_row s.leader.copies copy (replica_of s.leader.copies copy))) (syncs s.leader.copies copy (replica_of s.leader.copies copy))
term_goes_on s (events.Sync (sides.Follower f) copy) picks = follows s f _
term_goes_on s (events.Promote sides.Leader copy) picks = promotes s.leader copy (replica_of s.leader.copies copy)
term_goes_on s (events.Promote (sides.Follower f) copy) picks = follows s f _
term_goes_on s (events.ForcePromote copy) picks = forces s.leader copy (stale_of s.leader.stale copy)
term_goes_on s (events.Resync copy) picks = same_term s.leader.copies.term _ (resyncs s.leader.copies copy (replica_of s.leader.copies copy))
term_goes_on s (events.FailCopy sides.Leader copy) picks =
    settling s.leader (leader_fail_copy_row s.leader copy (replica_of s.leader.copies copy)) (fails s.leader copy (replica_of s.leader.copies copy))
term_goes_on s (events.FailCopy (sides.Follower f) copy) picks = follows s f _
term_goes_on s (events.AddCopy sides.Leader) picks = same_term s.leader.copies.term _ (adds s.leader.copies)
term_goes_on s (events.AddCopy (sides.Follower f)) picks = follows s f _
term_goes_on s (events.Flush sides.Leader copy) picks = same_term s.leader.copies.term _ (flushes s.leader.copies copy (copy_of s.leader.copies copy))
term_goes_on s (events.Flush (sides.Follower f) copy) picks = follows s f _
term_goes_on s (events.Merge sides.Leader copy) picks =
    same_term s.leader.copies.term _ (merges s.leader.copies s.leader.start.retention copy picks (copy_of s.leader.copies copy))
term_goes_on s (events.Merge (sides.Follower f) copy) picks = follows s f _
term_goes_on s (events.Clock sides.Leader now) picks = clocks s.leader now
term_goes_on s (events.Clock (sides.Follower f) now) picks = follows s f _
term_goes_on s events.Expire picks = expires s.leader
term_goes_on s events.CloseSessions picks = closes s.leader
term_goes_on s (events.Tick f) picks = follows s f _
term_goes_on s (events.Deliver at copy keep) picks =
    keeps s (step s (events.Deliver at copy keep) picks) (deliver_keeps s at copy keep (slice_get s.flight at) (copy_of s.leader.copies copy))
term_goes_on s (events.Drop at) picks = keeps s (step s (events.Drop at) picks) (drop_keeps s at (slice_get s.flight at))
term_goes_on s (events.Wake f at) picks = keeps s (step s (events.Wake f at) picks) (woken_keeps s f at (slice_get s.followers f))
term_goes_on s (events.Lose f at) picks = follows s f _
term_goes_on s (events.LoseWrite f write) picks = follows s f _
term_goes_on s (events.Take f write) picks = follows s f _
term_goes_on s (events.Apply f epoch write batch) picks = follows s f _
term_goes_on s (events.Written f write) picks = follows s f _
term_goes_on s (events.Renew f) picks = follows s f _
term_goes_on s (events.Follow params copies name) picks =
    keeps s (step s (events.Follow params copies name) picks) (follow_keeps s params copies name (same_name s.followers name))
term_goes_on s (events.Pause f) picks = follows s f _
term_goes_on s (events.Resume f) picks = follows s f _
term_goes_on s (events.Restart f) picks = follows s f _
term_goes_on s (events.Unfollow f) picks = follows s f _
term_goes_on s (events.Search sides.Leader copy request) picks =
    keeps s (step s (events.Search sides.Leader copy request) picks) (search_keeps s copy request.query request.sort (copy_of s.leader.copies copy))
term_goes_on s (events.Search (sides.Follower f) copy request) picks =
    keeps s (step s (events.Search (sides.Follower f) copy request) picks)
    (searched_keeps s f (search_row s copy request.query request.sort) copy (slice_get s.followers f) (search_keeps s copy request.query request.sort))
term_goes_on s (events.Status sides.Leader) picks = shows s.leader
term_goes_on s (events.Status (sides.Follower f)) picks = follows s f _
term_goes_on s events.Settle picks =
    on_guards (Goes s) s _ _ (λ why. same_term s.leader.copies.term s.leader.copies.term refl) (λ tests. same_term s.leader.copies.term s.leader.copies.term refl)
