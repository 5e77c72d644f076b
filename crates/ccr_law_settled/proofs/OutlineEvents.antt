-- What each event makes of the outline.
use Rattle.std.specs.Prelude.{slice_get}
use Rattle.std.proofs.Common.{◌≡◌, ℕ, ◌==◌, max, Bool, true, false, not, Option, Some, None, List, [], ◌∷◌, refl, sym, ◌∙◌, ap, subst}
use Rattle.ccr_op.specs.Operation.{Operation}
use Rattle.ccr_journal.specs.declared.sides.Side.TheVariants as sides
use Rattle.ccr_journal.specs.declared.events.Event.{Event}
use Rattle.ccr_journal.specs.declared.events.Event.TheVariants as events
use Rattle.ccr_journal.specs.declared.replies.Reply.TheVariants as replies
use Rattle.ccr_journal.specs.declared.replies.Refusal.TheVariants.{NotSettled}
use Rattle.ccr_model.specs.Outcomes.{answered, guarded}
use Rattle.ccr_model.specs.Operations.{live}
use Rattle.ccr_model.specs.Stores.{Store, held, flushed, merged}
use Rattle.ccr_model.specs.Copies.{Copy, Copies, copy_of, replica_of, changed_replica, changed_at}
use Rattle.ccr_model.specs.CopyRows.{flush_row, merge_row, merge_bound, risen_floor}
use Rattle.ccr_model.specs.Leaders.{Leader, stale_of}
use Rattle.ccr_model.specs.LeaderRows.{source_fault, leader_clock_row, expire_row, close_sessions_row, leader_status_row}
use Rattle.ccr_model.specs.World.{same_name, search_row}
use Rattle.ccr_model.specs.Settled.{is_settled}
use Rattle.ccr_model.specs.Step.{step}
use Rattle.ccr_model.specs.Past.{Past, past_with}
use Rattle.ccr_law_base.specs.Events.{past_by}
use Rattle.ccr_law_base.proofs.Cases.{on_if}
use Rattle.ccr_law_base.proofs.Stays.{leader_stays}
use Rattle.ccr_law_copies.specs.Cores.{IsLiving}
use Rattle.ccr_law_copies.proofs.LeaderRows.{at_copies, inside}
use Rattle.ccr_law_copies.proofs.LeaderQuiet.{LeasesAlone, unchanged, for_follower_keeps, deliver_keeps, drop_keeps, woken_keeps, follow_keeps, search_keeps}
use Rattle.ccr_law_copies.proofs.LeaderEvents.{living, searched_keeps}
use Rattle.ccr_law.specs.Parts.{IsLeading}
use Rattle.ccr_law_settled.specs.Outlines.{ReplicaOutline, CopyOutline, Outline, writing, copying, acking, resyncing, promoting, forcing, failing, settling}
use Rattle.ccr_law_settled.specs.ScriptLine.{commanded, Role, changing, catching_up, settled, aside, role_of}
use Rattle.ccr_law_settled.proofs.AfterSettle.{settled_parts}
use Rattle.ccr_law_settled.proofs.Outlined.{outline_with, outline_of, changed-quiet, quiet-outline}
use Rattle.ccr_law_settled.proofs.OutlineRows.{OutlineAfter, stays, write_told, replicate_told, ack_told, sync_told, resync_told, promote_told, force_told, fail_told, add_told, found_outline, found_stale}
use Rattle.ccr_law_settled.proofs.LiveOfLine.{live_of_line}
use Rattle.ccr_law_settled.proofs.OutlineSettles.{settled_outline, copying-settles, acking-settles, resyncing-settles}

-- what an entry of a role makes of the outline, and what its event comes to beside a settle
abbrev pub Tells : Role → Past → Past → Event → Type 0
Tells changing p next event = outline_of next ≡ commanded (outline_of p) event
Tells catching_up p next event = (outline_of next ≡ commanded (outline_of p) event) × ((t : Outline) → settling (commanded t event) ≡ settling t)
Tells settled p next event = (outline_of next ≡ settling (outline_of p)) × ((t : Outline) → commanded t event ≡ settling t)
Tells aside p next event = outline_of next ≡ outline_of p

-- ---- what the outline doesn't tell

-- only the primary's leases changed
quietly : (p : Past) (t : Leader) → IsLiving p → LeasesAlone p.state.leader.copies t.copies → t.stale ≡ p.state.leader.stale
    → outline_with (record { ops = p.line.ops; cut = max p.line.cut t.copies.primary.global }) p.given t.copies t.stale ≡ outline_of p
quietly p t core same old =
    subst (λ (stale : List Copy). outline_with (record { ops = p.line.ops; cut = max p.line.cut t.copies.primary.global }) p.given t.copies stale ≡ outline_of p) (sym old)
    (subst (λ (c : Copies). outline_with (record { ops = p.line.ops; cut = max p.line.cut c.primary.global }) p.given c p.state.leader.stale ≡ outline_of p) (sym same.1) (stays p core))

-- a copy changed inside
inside_told : (p : Past) (copy : ℕ) (store : Copy → Store) (floor commit : Copy → ℕ) → IsLiving p
    → outline_with (record { ops = p.line.ops; cut = max p.line.cut (changed_at copy (inside store floor commit) p.state.leader.copies).primary.global }) p.given
    (changed_at copy (inside store floor commit) p.state.leader.copies) p.state.leader.stale ≡ outline_of p
inside_told p copy store floor commit core =
    let s = p.state.leader.copies in
    on_if (λ (t : Copies). outline_with (record { ops = p.line.ops; cut = max p.line.cut t.primary.global }) p.given t p.state.leader.stale ≡ outline_of p) (s.primary.number == copy)
    (record s { primary = inside store floor commit s.primary }) (record s { replicas = changed_replica copy (inside store floor commit) s.replicas })
    (λ is. stays p core)
    (λ isnt. quiet-outline p.line p.given (record s { replicas = changed_replica copy (inside store floor commit) s.replicas }) p.state.leader.stale s.primary.global core.rest.primary.known
    ∙ ap (λ (rs : List ReplicaOutline). record (outline_of p) { replicas = rs }) (changed-quiet p.given copy (inside store floor commit) (λ c. refl) s.replicas))

flush_told : (p : Past) (copy : ℕ) (found : Option Copy) → IsLiving p → OutlineAfter p (events.Flush sides.Leader copy) (at_copies p (flush_row p.state.leader.copies copy found)) ≡ outline_of p
unfolding flush_row
flush_told p copy None core = stays p core
flush_told p copy (Some c) core = inside_told p copy (λ own. flushed own.store) (λ own. own.floor) (λ own. own.global) core

merge_told : (p : Past) (copy : ℕ) (picks : List ℕ) (found : Option Copy) → IsLiving p
    → OutlineAfter p (events.Merge sides.Leader copy) (at_copies p (merge_row p.state.leader.copies p.state.leader.start.retention copy picks found)) ≡ outline_of p
unfolding merge_row
merge_told p copy picks None core = stays p core
merge_told p copy picks (Some c) core =
    inside_told p copy (λ own. merged picks (merge_bound p.state.leader.start.retention own) own.global own.store) (λ own. risen_floor p.state.leader.start.retention own) (λ own. own.commit) core

clock_same : (s : Leader) (now : ℕ) → LeasesAlone s.copies (leader_clock_row s now).next.copies
unfolding leader_clock_row
clock_same s now = unchanged s.copies

close_same : (s : Leader) → LeasesAlone s.copies (close_sessions_row s).next.copies
unfolding close_sessions_row
close_same s = unchanged s.copies

status_same : (s : Leader) → LeasesAlone s.copies (leader_status_row s).next.copies
unfolding leader_status_row
status_same s = unchanged s.copies

expire_same : (s : Leader) → LeasesAlone s.copies (expire_row s).next.copies
unfolding expire_row
expire_same s = (_, refl)

-- ---- a settle

settle_told : (p : Past) (b : Bool) → is_settled p.state ≡ b → IsLiving p
    → Tells (role_of events.Settle (guarded p.state ((not b, NotSettled) ∷ []) (answered replies.Settled p.state)).reply) p
    (past_with p (record { event = events.Settle; reply = (guarded p.state ((not b, NotSettled) ∷ []) (answered replies.Settled p.state)).reply })
    (guarded p.state ((not b, NotSettled) ∷ []) (answered replies.Settled p.state))) events.Settle
unfolding guarded
settle_told p true is core = (stays p core ∙ settled_outline p core (settled_parts p.state is), λ t. refl)
settle_told p false is core = stays p core

-- ---- a write

-- the live document of an id, where the primary looks for it and in the line
live_told : (p : Past) → IsLeading p → (id : List ℕ) → live (held p.state.leader.copies.primary.store) id ≡ live p.line.ops id
live_told p now id =
    live_of_line (p.given p.state.leader.copies.primary.number) (held p.state.leader.copies.primary.store) p.line.ops p.state.leader.copies.primary.global record {
      given = now.core.rest.primary.given;
      numbered = now.core.rest.primary.numbered;
      ours = now.stores.own.store.ours;
      covered = now.stores.own.store.covered;
    } id

-- ---- each event

pub tells : (p : Past) (event : Event) (picks : List ℕ) → IsLeading p → Tells (role_of event (step p.state event picks).reply) p (past_by p event picks) event
tells p (events.Write request) picks now =
    write_told p request (source_fault request.body) (live (held p.state.leader.copies.primary.store) request.id) (living p now.core) now.core.stale
    ∙ ap (λ (found : Option Operation). writing (outline_of p) request (source_fault request.body) found) (live_told p now request.id)
tells p (events.Replicate sides.Leader copy seq) picks now = (
  replicate_told p copy seq (replica_of p.state.leader.copies copy) refl (living p now.core) now.core.stale
      ∙ ap (λ (o : Option ReplicaOutline). copying (outline_of p) copy seq o) (sym (found_outline p.given p.state.leader.copies copy)),
  λ t. copying-settles t copy seq _ refl,
)
tells p (events.Ack sides.Leader copy) picks now = (
  ack_told p copy (replica_of p.state.leader.copies copy) (living p now.core)
      ∙ ap (λ (o : Option ReplicaOutline). acking (outline_of p) copy o) (sym (found_outline p.given p.state.leader.copies copy)),
  λ t. acking-settles t copy _ refl,
)
tells p (events.Resync copy) picks now = (
  resync_told p copy (replica_of p.state.leader.copies copy) refl (living p now.core) now.core.stale
      ∙ ap (λ (o : Option ReplicaOutline). resyncing (outline_of p) copy o) (sym (found_outline p.given p.state.leader.copies copy)),
  λ t. resyncing-settles t copy _ refl,
)
tells p (events.Promote sides.Leader copy) picks now =
    promote_told p copy (replica_of p.state.leader.copies copy) refl (living p now.core) now.core.stale
    ∙ ap (λ (o : Option ReplicaOutline). promoting (outline_of p) copy o) (sym (found_outline p.given p.state.leader.copies copy))
tells p (events.ForcePromote copy) picks now =
    force_told p copy (stale_of p.state.leader.stale copy) refl (living p now.core) now.core.stale
    ∙ ap (λ (o : Option CopyOutline). forcing (outline_of p) copy o) (sym (found_stale p.given p.state.leader.stale copy))
tells p (events.FailCopy sides.Leader copy) picks now =
    fail_told p copy (replica_of p.state.leader.copies copy) (living p now.core)
    ∙ ap (λ (o : Option ReplicaOutline). failing (outline_of p) copy o) (sym (found_outline p.given p.state.leader.copies copy))
tells p (events.AddCopy sides.Leader) picks now = add_told p (living p now.core) now.core.stale
tells p events.Settle picks now = settle_told p (is_settled p.state) refl (living p now.core)
tells p (events.Sync sides.Leader copy) picks now = sync_told p copy (replica_of p.state.leader.copies copy) refl (living p now.core)
tells p (events.Flush sides.Leader copy) picks now = flush_told p copy (copy_of p.state.leader.copies copy) (living p now.core)
tells p (events.Merge sides.Leader copy) picks now = merge_told p copy picks (copy_of p.state.leader.copies copy) (living p now.core)
tells p (events.Clock sides.Leader time) picks now =
    quietly p (step p.state (events.Clock sides.Leader time) picks).next.leader (living p now.core) (clock_same p.state.leader time) (leader_stays p.state (events.Clock sides.Leader time) picks refl).stale
tells p events.Expire picks now =
    quietly p (step p.state events.Expire picks).next.leader (living p now.core) (expire_same p.state.leader) (leader_stays p.state events.Expire picks refl).stale
tells p events.CloseSessions picks now =
    quietly p (step p.state events.CloseSessions picks).next.leader (living p now.core) (close_same p.state.leader) (leader_stays p.state events.CloseSessions picks refl).stale
tells p (events.Status sides.Leader) picks now =
    quietly p (step p.state (events.Status sides.Leader) picks).next.leader (living p now.core) (status_same p.state.leader) (leader_stays p.state (events.Status sides.Leader) picks refl).stale
tells p (events.Deliver at copy keep) picks now =
    quietly p (step p.state (events.Deliver at copy keep) picks).next.leader (living p now.core)
    (deliver_keeps p.state at copy keep (slice_get p.state.flight at) (copy_of p.state.leader.copies copy)) (leader_stays p.state (events.Deliver at copy keep) picks refl).stale
tells p (events.Drop at) picks now =
    quietly p (step p.state (events.Drop at) picks).next.leader (living p now.core) (drop_keeps p.state at (slice_get p.state.flight at)) (leader_stays p.state (events.Drop at) picks refl).stale
tells p (events.Wake f at) picks now =
    quietly p (step p.state (events.Wake f at) picks).next.leader (living p now.core) (woken_keeps p.state f at (slice_get p.state.followers f)) (leader_stays p.state (events.Wake f at) picks refl).stale
tells p (events.Follow params count name) picks now =
    quietly p (step p.state (events.Follow params count name) picks).next.leader (living p now.core)
    (follow_keeps p.state params count name (same_name p.state.followers name)) (leader_stays p.state (events.Follow params count name) picks refl).stale
tells p (events.Search sides.Leader copy request) picks now =
    quietly p (step p.state (events.Search sides.Leader copy request) picks).next.leader (living p now.core)
    (search_keeps p.state copy request.query request.sort (copy_of p.state.leader.copies copy)) (leader_stays p.state (events.Search sides.Leader copy request) picks refl).stale
tells p (events.Search (sides.Follower f) copy request) picks now =
    quietly p (step p.state (events.Search (sides.Follower f) copy request) picks).next.leader (living p now.core)
    (searched_keeps p.state f (search_row p.state copy request.query request.sort) copy (slice_get p.state.followers f) (search_keeps p.state copy request.query request.sort))
    (leader_stays p.state (events.Search (sides.Follower f) copy request) picks refl).stale
tells p (events.Replicate (sides.Follower f) copy seq) picks now =
    quietly p (step p.state (events.Replicate (sides.Follower f) copy seq) picks).next.leader (living p now.core) (for_follower_keeps p.state f _ (slice_get p.state.followers f)) (leader_stays p.state (events.Replicate (sides.Follower f) copy seq) picks refl).stale
tells p (events.Ack (sides.Follower f) copy) picks now =
    quietly p (step p.state (events.Ack (sides.Follower f) copy) picks).next.leader (living p now.core) (for_follower_keeps p.state f _ (slice_get p.state.followers f)) (leader_stays p.state (events.Ack (sides.Follower f) copy) picks refl).stale
tells p (events.Sync (sides.Follower f) copy) picks now =
    quietly p (step p.state (events.Sync (sides.Follower f) copy) picks).next.leader (living p now.core) (for_follower_keeps p.state f _ (slice_get p.state.followers f)) (leader_stays p.state (events.Sync (sides.Follower f) copy) picks refl).stale
tells p (events.Promote (sides.Follower f) copy) picks now =
    quietly p (step p.state (events.Promote (sides.Follower f) copy) picks).next.leader (living p now.core) (for_follower_keeps p.state f _ (slice_get p.state.followers f)) (leader_stays p.state (events.Promote (sides.Follower f) copy) picks refl).stale
tells p (events.FailCopy (sides.Follower f) copy) picks now =
    quietly p (step p.state (events.FailCopy (sides.Follower f) copy) picks).next.leader (living p now.core) (for_follower_keeps p.state f _ (slice_get p.state.followers f)) (leader_stays p.state (events.FailCopy (sides.Follower f) copy) picks refl).stale
tells p (events.AddCopy (sides.Follower f)) picks now =
    quietly p (step p.state (events.AddCopy (sides.Follower f)) picks).next.leader (living p now.core) (for_follower_keeps p.state f _ (slice_get p.state.followers f)) (leader_stays p.state (events.AddCopy (sides.Follower f)) picks refl).stale
tells p (events.Flush (sides.Follower f) copy) picks now =
    quietly p (step p.state (events.Flush (sides.Follower f) copy) picks).next.leader (living p now.core) (for_follower_keeps p.state f _ (slice_get p.state.followers f)) (leader_stays p.state (events.Flush (sides.Follower f) copy) picks refl).stale
tells p (events.Merge (sides.Follower f) copy) picks now =
    quietly p (step p.state (events.Merge (sides.Follower f) copy) picks).next.leader (living p now.core) (for_follower_keeps p.state f _ (slice_get p.state.followers f)) (leader_stays p.state (events.Merge (sides.Follower f) copy) picks refl).stale
tells p (events.Clock (sides.Follower f) time) picks now =
    quietly p (step p.state (events.Clock (sides.Follower f) time) picks).next.leader (living p now.core) (for_follower_keeps p.state f _ (slice_get p.state.followers f)) (leader_stays p.state (events.Clock (sides.Follower f) time) picks refl).stale
tells p (events.Status (sides.Follower f)) picks now =
    quietly p (step p.state (events.Status (sides.Follower f)) picks).next.leader (living p now.core) (for_follower_keeps p.state f _ (slice_get p.state.followers f)) (leader_stays p.state (events.Status (sides.Follower f)) picks refl).stale
tells p (events.Tick f) picks now =
    quietly p (step p.state (events.Tick f) picks).next.leader (living p now.core) (for_follower_keeps p.state f _ (slice_get p.state.followers f)) (leader_stays p.state (events.Tick f) picks refl).stale
tells p (events.Lose f at) picks now =
    quietly p (step p.state (events.Lose f at) picks).next.leader (living p now.core) (for_follower_keeps p.state f _ (slice_get p.state.followers f)) (leader_stays p.state (events.Lose f at) picks refl).stale
tells p (events.LoseWrite f write) picks now =
    quietly p (step p.state (events.LoseWrite f write) picks).next.leader (living p now.core) (for_follower_keeps p.state f _ (slice_get p.state.followers f)) (leader_stays p.state (events.LoseWrite f write) picks refl).stale
tells p (events.Take f write) picks now =
    quietly p (step p.state (events.Take f write) picks).next.leader (living p now.core) (for_follower_keeps p.state f _ (slice_get p.state.followers f)) (leader_stays p.state (events.Take f write) picks refl).stale
tells p (events.Apply f epoch write batch) picks now =
    quietly p (step p.state (events.Apply f epoch write batch) picks).next.leader (living p now.core) (for_follower_keeps p.state f _ (slice_get p.state.followers f)) (leader_stays p.state (events.Apply f epoch write batch) picks refl).stale
tells p (events.Written f write) picks now =
    quietly p (step p.state (events.Written f write) picks).next.leader (living p now.core) (for_follower_keeps p.state f _ (slice_get p.state.followers f)) (leader_stays p.state (events.Written f write) picks refl).stale
tells p (events.Renew f) picks now =
    quietly p (step p.state (events.Renew f) picks).next.leader (living p now.core) (for_follower_keeps p.state f _ (slice_get p.state.followers f)) (leader_stays p.state (events.Renew f) picks refl).stale
tells p (events.Pause f) picks now =
    quietly p (step p.state (events.Pause f) picks).next.leader (living p now.core) (for_follower_keeps p.state f _ (slice_get p.state.followers f)) (leader_stays p.state (events.Pause f) picks refl).stale
tells p (events.Resume f) picks now =
    quietly p (step p.state (events.Resume f) picks).next.leader (living p now.core) (for_follower_keeps p.state f _ (slice_get p.state.followers f)) (leader_stays p.state (events.Resume f) picks refl).stale
tells p (events.Restart f) picks now =
    quietly p (step p.state (events.Restart f) picks).next.leader (living p now.core) (for_follower_keeps p.state f _ (slice_get p.state.followers f)) (leader_stays p.state (events.Restart f) picks refl).stale
tells p (events.Unfollow f) picks now =
    quietly p (step p.state (events.Unfollow f) picks).next.leader (living p now.core) (for_follower_keeps p.state f _ (slice_get p.state.followers f)) (leader_stays p.state (events.Unfollow f) picks refl).stale
