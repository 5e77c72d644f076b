-- The claims on what the leader's copies hold are true at the start, each event keeps them, and what they imply.
use Rattle.std.specs.List.{AllByRecursion, range_with_len}
use Rattle.std.specs.Prelude.{slice_get}
use Rattle.std.proofs.Common.{ℕ, zero, suc, ◌+◌, ◌-◌, ◌≤◌, None, is_some, List, map, refl, sym, ap, subst, arith}
use Rattle.ccr_journal.specs.Params.{IsCopyCount}
use Rattle.ccr_journal.specs.declared.sides.Side.TheVariants as sides
use Rattle.ccr_journal.specs.declared.events.Event.{Event}
use Rattle.ccr_journal.specs.declared.events.Event.TheVariants as events
use Rattle.ccr_journal.specs.declared.journals.Entry.{Entry}
use Rattle.ccr_model.specs.Outcomes.{Outcome}
use Rattle.ccr_model.specs.Stores.{held}
use Rattle.ccr_model.specs.Copies.{Copy, Replica, Copies, copy_of, replica_of, new_copy, replica_in_step}
use Rattle.ccr_model.specs.Leaders.{Start, stale_of}
use Rattle.ccr_model.specs.LeaderRows.{leader_clock_row, close_sessions_row, leader_status_row}
use Rattle.ccr_model.specs.Followers.{Follower}
use Rattle.ccr_model.specs.World.{State, start_state, at_leader, for_follower, same_name, search_row}
use Rattle.ccr_model.specs.Step.{step, IsLegal}
use Rattle.ccr_model.specs.Past.{Past, start_past, past_of}
use Rattle.ccr_model.specs.CopyFacts.{HoldsEnough}
use Rattle.ccr_model.specs.LeaseHistory.{retained}
use Rattle.ccr_model.specs.Headline.{KeepsRetained, Retention}
use Rattle.ccr_law_base.specs.Events.{past_by}
use Rattle.ccr_law_base.proofs.Cases.{on_guards}
use Rattle.ccr_law_base.proofs.Journals.{by_events, by_entries}
use Rattle.ccr_law_copies.specs.Cores.{IsReplica, IsLiving, StaleOk, AreStaleOf, IsCore}
use Rattle.ccr_law_base.proofs.Lists.{All-weaker, All-both, All-map}
use Rattle.ccr_law_copies.proofs.LeaderQuiet.{KeepsLeader, for_follower_keeps, deliver_keeps, drop_keeps, woken_keeps, follow_keeps, search_keeps}
use Rattle.ccr_law_copies.proofs.LeaderEvents.{core-keeps, core-start, core-at, living, searched_keeps}
use Rattle.ccr_law_leases.specs.TrueLeases.{AgreeWithNotes, AreBehind, HasTrueLeases}
use Rattle.ccr_law_leases.proofs.Events.{leases-hold}
use Rattle.ccr_law_stores.specs.TrueStores.{IsSound, AreTrueStoresOf, HasLivingStores, AreSoundStale, HasTrueStores, HoldEnough}
use Rattle.ccr_law_stores.proofs.Counting.{given-in}
use Rattle.ccr_law_stores.proofs.StoreViews.{holds-enough}
use Rattle.ccr_law_stores.proofs.StaleStores.{sound-keeps}
use Rattle.ccr_law_stores.proofs.StoreRows.{StoresAfter, IsFit, primary-fit, replica-fit, leases-change, write_keeps, replicate_keeps, ack_keeps, sync_keeps, promote_keeps, force_keeps, resync_keeps, fail_copy_keeps, add_copy_keeps, flush_keeps, merge_keeps, expire_keeps}

-- ---- each event

-- an event that neither gives an operation nor changes the copies but for the primary's leases
pub kept_by : (p : Past) (o : Outcome State) → KeepsLeader p.state o → HasLivingStores p → AreTrueStoresOf p.given o.next.leader.copies
kept_by p o same ok =
    subst (λ (t : Copies). AreTrueStoresOf p.given t) (sym same.1) (leases-change p.given p.state.leader.copies.primary p.state.leader.copies.replicas same.0 ok)

pub on_followers : (p : Past) (f : ℕ) (row : Follower → Outcome Follower) → HasLivingStores p
    → AreTrueStoresOf p.given (for_follower p.state f row (slice_get p.state.followers f)).next.leader.copies
on_followers p f row ok = kept_by p (for_follower p.state f row (slice_get p.state.followers f)) (for_follower_keeps p.state f row (slice_get p.state.followers f)) ok

pub clock_keeps : (p : Past) (now : ℕ) → HasLivingStores p → StoresAfter p (events.Clock sides.Leader now) (at_leader p.state (leader_clock_row p.state.leader now))
unfolding leader_clock_row
clock_keeps p now ok = ok

pub close_keeps : (p : Past) → HasLivingStores p → StoresAfter p events.CloseSessions (at_leader p.state (close_sessions_row p.state.leader))
unfolding close_sessions_row
close_keeps p ok = ok

pub status_keeps : (p : Past) → HasLivingStores p → StoresAfter p (events.Status sides.Leader) (at_leader p.state (leader_status_row p.state.leader))
unfolding leader_status_row
status_keeps p ok = ok

pub living_stores-keep : (p : Past) (event : Event) (picks : List ℕ) → IsLiving p → AreStaleOf p.given p.state.leader → AreSoundStale p.given p.state.leader.stale → HasLivingStores p → HasLivingStores (past_by p event picks)
living_stores-keep p (events.Write request) picks core old stale ok = write_keeps p request _ _ core ok
living_stores-keep p (events.Replicate sides.Leader copy seq) picks core old stale ok = replicate_keeps p copy seq (replica_of p.state.leader.copies copy) refl core ok
living_stores-keep p (events.Replicate (sides.Follower f) copy seq) picks core old stale ok = on_followers p f _ ok
living_stores-keep p (events.Ack sides.Leader copy) picks core old stale ok = ack_keeps p copy (replica_of p.state.leader.copies copy) refl ok
living_stores-keep p (events.Ack (sides.Follower f) copy) picks core old stale ok = on_followers p f _ ok
living_stores-keep p (events.Sync sides.Leader copy) picks core old stale ok = sync_keeps p copy (replica_of p.state.leader.copies copy) refl ok
living_stores-keep p (events.Sync (sides.Follower f) copy) picks core old stale ok = on_followers p f _ ok
living_stores-keep p (events.Promote sides.Leader copy) picks core old stale ok = promote_keeps p copy (replica_of p.state.leader.copies copy) refl core ok
living_stores-keep p (events.Promote (sides.Follower f) copy) picks core old stale ok = on_followers p f _ ok
living_stores-keep p (events.ForcePromote copy) picks core old stale ok = force_keeps p copy (stale_of p.state.leader.stale copy) refl old stale ok
living_stores-keep p (events.Resync copy) picks core old stale ok = resync_keeps p copy (replica_of p.state.leader.copies copy) refl core ok
living_stores-keep p (events.FailCopy sides.Leader copy) picks core old stale ok = fail_copy_keeps p copy (replica_of p.state.leader.copies copy) ok
living_stores-keep p (events.FailCopy (sides.Follower f) copy) picks core old stale ok = on_followers p f _ ok
living_stores-keep p (events.AddCopy sides.Leader) picks core old stale ok = add_copy_keeps p core ok
living_stores-keep p (events.AddCopy (sides.Follower f)) picks core old stale ok = on_followers p f _ ok
living_stores-keep p (events.Flush sides.Leader copy) picks core old stale ok = flush_keeps p copy (copy_of p.state.leader.copies copy) ok
living_stores-keep p (events.Flush (sides.Follower f) copy) picks core old stale ok = on_followers p f _ ok
living_stores-keep p (events.Merge sides.Leader copy) picks core old stale ok = merge_keeps p copy picks (copy_of p.state.leader.copies copy) ok
living_stores-keep p (events.Merge (sides.Follower f) copy) picks core old stale ok = on_followers p f _ ok
living_stores-keep p (events.Clock sides.Leader now) picks core old stale ok = clock_keeps p now ok
living_stores-keep p (events.Clock (sides.Follower f) now) picks core old stale ok = on_followers p f _ ok
living_stores-keep p events.Expire picks core old stale ok = expire_keeps p ok
living_stores-keep p events.CloseSessions picks core old stale ok = close_keeps p ok
living_stores-keep p (events.Tick f) picks core old stale ok = on_followers p f _ ok
living_stores-keep p (events.Deliver at copy keep) picks core old stale ok =
    kept_by p (step p.state (events.Deliver at copy keep) picks) (deliver_keeps p.state at copy keep (slice_get p.state.flight at) (copy_of p.state.leader.copies copy)) ok
living_stores-keep p (events.Drop at) picks core old stale ok = kept_by p (step p.state (events.Drop at) picks) (drop_keeps p.state at (slice_get p.state.flight at)) ok
living_stores-keep p (events.Wake f at) picks core old stale ok = kept_by p (step p.state (events.Wake f at) picks) (woken_keeps p.state f at (slice_get p.state.followers f)) ok
living_stores-keep p (events.Lose f at) picks core old stale ok = on_followers p f _ ok
living_stores-keep p (events.LoseWrite f write) picks core old stale ok = on_followers p f _ ok
living_stores-keep p (events.Take f write) picks core old stale ok = on_followers p f _ ok
living_stores-keep p (events.Apply f epoch write batch) picks core old stale ok = on_followers p f _ ok
living_stores-keep p (events.Written f write) picks core old stale ok = on_followers p f _ ok
living_stores-keep p (events.Renew f) picks core old stale ok = on_followers p f _ ok
living_stores-keep p (events.Follow params copies name) picks core old stale ok = kept_by p (step p.state (events.Follow params copies name) picks) (follow_keeps p.state params copies name (same_name p.state.followers name)) ok
living_stores-keep p (events.Pause f) picks core old stale ok = on_followers p f _ ok
living_stores-keep p (events.Resume f) picks core old stale ok = on_followers p f _ ok
living_stores-keep p (events.Restart f) picks core old stale ok = on_followers p f _ ok
living_stores-keep p (events.Unfollow f) picks core old stale ok = on_followers p f _ ok
living_stores-keep p (events.Search sides.Leader copy request) picks core old stale ok =
    kept_by p (step p.state (events.Search sides.Leader copy request) picks) (search_keeps p.state copy request.query request.sort (copy_of p.state.leader.copies copy)) ok
living_stores-keep p (events.Search (sides.Follower f) copy request) picks core old stale ok =
    kept_by p (step p.state (events.Search (sides.Follower f) copy request) picks) (searched_keeps p.state f (search_row p.state copy request.query request.sort) copy (slice_get p.state.followers f) (search_keeps p.state copy request.query request.sort)) ok
living_stores-keep p (events.Status sides.Leader) picks core old stale ok = status_keeps p ok
living_stores-keep p (events.Status (sides.Follower f)) picks core old stale ok = on_followers p f _ ok
living_stores-keep p events.Settle picks core old stale ok =
    on_guards (StoresAfter p events.Settle) p.state _ _ (λ why. ok) (λ tests. ok)

-- ---- with the stale copies

pub living_stores : (p : Past) → HasTrueStores p → HasLivingStores p
living_stores p ok = record { own = ok.own; others = ok.others }

pub stores-keeps : (p : Past) (event : Event) (picks : List ℕ) → IsCore p → HasTrueStores p → HasTrueStores (past_by p event picks)
stores-keeps p event picks core ok =
    let now : HasLivingStores (past_by p event picks) = living_stores-keep p event picks (living p core) core.stale ok.stale (living_stores p ok) in
    record { own = now.own; others = now.others; stale = sound-keeps p event picks core ok }

-- ---- the start

-- a copy that was given nothing and holds nothing
pub store-fresh : (number : ℕ) → IsSound (λ n. None) 0 (new_copy number)
store-fresh number = record {
  store = record {
    low = omega arith;
    since = omega arith;
    closed = omega arith;
    ours = tt;
    once = λ n. omega arith;
    kept = λ n le is. cc;
    covered = λ n x at out. cc;
  };
  sorted = record { closed = tt; last = tt };
}

pub fresh_stores : (from size : ℕ) → AllByRecursion (λ (r : Replica). IsSound (λ n. None) 0 r.copy)
    (map {A = ℕ} {B = Replica} (λ number. replica_in_step (new_copy number) 0) (range_with_len from size))
fresh_stores from zero = tt
fresh_stores from (suc size) = (store-fresh from, fresh_stores (from + 1) size)

pub stores-start : (start : Start) → HasTrueStores (start_past start)
stores-start start = record { own = store-fresh 0; others = fresh_stores 1 (start.copies - 1); stale = tt }

-- ---- at every place

pub both-keep : (p : Past) (event : Event) (picks : List ℕ) → IsCore p × HasTrueStores p → IsCore (past_by p event picks) × HasTrueStores (past_by p event picks)
both-keep p event picks both = (core-keeps p event picks both.0, stores-keeps p event picks both.0 both.1)

pub stores-at : (start : Start) → IsCopyCount start.copies → (entries : List Entry) → IsLegal (start_state start) entries → HasTrueStores (past_of (start_past start) entries)
stores-at start count entries legal =
    (by_entries (λ (p : Past). IsCore p × HasTrueStores p) (by_events (λ (p : Past). IsCore p × HasTrueStores p) both-keep) (start_past start) entries legal
    (core-start start count, stores-start start)).1

-- ---- what the claims imply

pub stores-say : (p : Past) → IsCore p → HasTrueStores p → HoldEnough p
stores-say p core ok =
    let s = p.state.leader.copies in
    let fit : IsFit (p.given s.primary.number) s.primary = primary-fit p.line (p.given s.primary.number) s.primary core.rest.primary in
    record {
      primary = holds-enough (p.given s.primary.number) 0 s.primary fit.whole ok.own.store;
      replicas = All-weaker (λ (r : Replica). IsReplica p.line s.primary.number s.next (p.given r.copy.number) r × IsSound (p.given r.copy.number) 0 r.copy)
          (λ (r : Replica). HoldsEnough (p.given r.copy.number) 0 r.copy)
          (λ r both. replica-holds r both.0 both.1) s.replicas
          (All-both (λ (r : Replica). IsReplica p.line s.primary.number s.next (p.given r.copy.number) r) (λ (r : Replica). IsSound (p.given r.copy.number) 0 r.copy)
          s.replicas core.rest.replicas_ok ok.others);
      stale = All-weaker (λ (c : Copy). StaleOk (p.given c.number) s.primary.number s.next s.replicas c.number c.seen c.global × IsSound (p.given c.number) 0 c)
          (λ (c : Copy). HoldsEnough (p.given c.number) 0 c)
          (λ c both. holds-enough (p.given c.number) 0 c both.0.whole both.1.store) p.state.leader.stale
          (All-both (λ (c : Copy). StaleOk (p.given c.number) s.primary.number s.next s.replicas c.number c.seen c.global) (λ (c : Copy). IsSound (p.given c.number) 0 c)
          p.state.leader.stale core.stale ok.stale);
    }
  where
    replica-holds : (r : Replica) → IsReplica p.line p.state.leader.copies.primary.number p.state.leader.copies.next (p.given r.copy.number) r
        → IsSound (p.given r.copy.number) 0 r.copy → HoldsEnough (p.given r.copy.number) 0 r.copy
    replica-holds r is own =
        let fit : IsFit (p.given r.copy.number) r.copy
        = replica-fit p.line p.state.leader.copies.primary.number p.state.leader.copies.next (p.given r.copy.number) r core.rest.primary.full is in
        holds-enough (p.given r.copy.number) 0 r.copy fit.whole own.store

pub enough-at : (start : Start) → IsCopyCount start.copies → (entries : List Entry) → IsLegal (start_state start) entries → HoldEnough (past_of (start_past start) entries)
enough-at start count entries legal =
    stores-say (past_of (start_past start) entries) (core-at start count entries legal) (stores-at start count entries legal)

-- ---- retention

pub copy-retains : (p : Past) (c : Copy) → AgreeWithNotes p.notes c.leases.leases c.floor → IsSound (p.given c.number) 0 c → KeepsRetained p c
copy-retains p c agree ok = record {
  kept = λ id unbroken n op given le.
      let low : c.floor ≤ retained id p.notes = agree.floor id unbroken in
      given-in (p.given c.number) (held c.store) n op ok.store.ours given (ok.store.kept n (omega arith) (ap is_some given));
}

-- each of the leader's copies holds what an unbroken lease retains
pub retention-holds : (p : Past) → HasTrueLeases p → HasTrueStores p → Retention p
retention-holds p leases ok = (
  copy-retains p p.state.leader.copies.primary leases.agree ok.own,
  All-map (KeepsRetained p) (λ r. r.copy) p.state.leader.copies.replicas
      (All-weaker (λ (r : Replica). AreBehind p.notes p.state.leader.copies.primary.leases r.copy.leases r.copy.floor × IsSound (p.given r.copy.number) 0 r.copy)
      (λ (r : Replica). KeepsRetained p r.copy)
      (λ r both. copy-retains p r.copy both.0.agree both.1) p.state.leader.copies.replicas
      (All-both (λ (r : Replica). AreBehind p.notes p.state.leader.copies.primary.leases r.copy.leases r.copy.floor) (λ (r : Replica). IsSound (p.given r.copy.number) 0 r.copy)
      p.state.leader.copies.replicas leases.behind ok.others)),
)

pub retention-at : (start : Start) → IsCopyCount start.copies → (entries : List Entry) → IsLegal (start_state start) entries → Retention (past_of (start_past start) entries)
retention-at start count entries legal =
    retention-holds (past_of (start_past start) entries) (leases-hold start count entries legal) (stores-at start count entries legal)
