-- Each event keeps what is said of leases and of what is missing.
use Rattle.std.specs.Prelude.{slice_get}
use Rattle.std.specs.List.{AllByRecursion}
use Rattle.std.proofs.Common.{◌≡◌, ℕ, ◌≤◌, List, Option, Some, None, refl, subst, arith}
use Rattle.ccr_query.specs.Queries.{Tree}
use Rattle.ccr_query.specs.declared.sorting.SortKey.{SortKey}
use Rattle.ccr_journal.specs.Params.{IsCopyCount}
use Rattle.ccr_journal.specs.declared.sides.Side.{Side}
use Rattle.ccr_journal.specs.declared.sides.Side.TheVariants as sides
use Rattle.ccr_journal.specs.declared.events.Event.{Event}
use Rattle.ccr_journal.specs.declared.events.Event.TheVariants as events
use Rattle.ccr_journal.specs.declared.replies.Reply.TheVariants as replies
use Rattle.ccr_journal.specs.declared.replies.Refusal.TheVariants.{NoFollower, NoCopy}
use Rattle.ccr_model.specs.Outcomes.{Outcome, refused}
use Rattle.ccr_model.specs.Operations.{live}
use Rattle.ccr_model.specs.Stores.{held}
use Rattle.ccr_model.specs.Copies.{Copy, copy_of, replica_of}
use Rattle.ccr_model.specs.CopyRows.{replicate_row, ack_row, sync_row, fail_copy_row, flush_row, merge_row, follower_promote_row}
use Rattle.ccr_model.specs.Searches.{search_of}
use Rattle.ccr_model.specs.Leaders.{Start, stale_of}
use Rattle.ccr_model.specs.LeaderRows.{source_fault, leader_write, leader_replicate, leader_ack, leader_promote, leader_resync, leader_add_copy, leader_flush, leader_merge, leader_clock, leader_close_sessions, leader_status}
use Rattle.ccr_model.specs.Tasks.{Task, Read}
use Rattle.ccr_model.specs.Followers.{Follower, Work, replicating}
use Rattle.ccr_model.specs.FollowerRows.{lose_row, tick_row, follower_clock_row, sent_write, lose_write_row, take_row, apply_row, written_row, task_of, renew_row, pause_row, resume_row, restart_row, unfollow_row, follower_add_copy_row, follower_replicate, follower_ack, follower_sync, follower_promote, follower_fail_copy, follower_flush, follower_merge, follower_status_row}
use Rattle.ccr_model.specs.World.{State, same_name, search_row}
use Rattle.ccr_model.specs.Past.{Past, start_past, past_with}
use Rattle.ccr_law_base.specs.Events.{past_by}
use Rattle.ccr_law_base.proofs.Cases.{on_guards}
use Rattle.ccr_law_base.proofs.Stays.{history_stays}
use Rattle.ccr_law_retention.specs.Grounds.{AsksBelowNext, NoneHasNext, Rises, HasGrounds}
use Rattle.ccr_law_retention.specs.Retaining.{IsRetaining}
use Rattle.ccr_law_retention.proofs.FollowerRows.{lose-moves, tick-moves, clock-moves, lose-write-moves, take-moves, apply-moves, written-moves, renew-moves, pause-moves, resume-moves, restart-moves, unfollow-moves, copies-moves, add-copy-moves, status-moves}
use Rattle.ccr_law_retention.proofs.Places.{none-begins, refused-place, quiet-place, follower-place}
use Rattle.ccr_law_retention.proofs.LeaderRows.{write-quiet, replicate-quiet, ack-quiet, sync-quiet, fail-quiet, add-quiet, flush-quiet, merge-quiet, follower-promote-quiet, promote-quiet, resync-quiet, clock-quiet, close-quiet, status-quiet, leader-quiet, sync-place, fail-place, expire-place, wake-place, force-place}
use Rattle.ccr_law_retention.proofs.Taking.{deliver-place, drop-place}
use Rattle.ccr_law_retention.proofs.Joining.{follow-place}

below-next : (p : Past) (f : ℕ) (x : Follower) → HasGrounds p → slice_get p.state.followers f ≡ Some x → (t : Task) → x.work ≡ replicating t → AllByRecursion (λ (r : Read). r.from ≤ t.next) t.reads
below-next p f x grounds there t is = subst (λ (w : Work). AsksBelowNext w) is (grounds.reads f x there)

search-place : (p : Past) (side : Side) (own copy : ℕ) (query : Tree) (sort : List SortKey) (c : Option Copy) → IsRetaining p
    → IsRetaining (past_with p (record { event = events.Search side own (record { query = query; sort = sort }); reply = (search_row p.state copy query sort c).reply }) (search_row p.state copy query sort c))
unfolding search_row
search-place p side own copy query sort None all = refused-place p (events.Search side own (record { query = query; sort = sort })) (NoCopy copy) all
search-place p side own copy query sort (Some c) all = quiet-place p (events.Search side own (record { query = query; sort = sort })) (replies.Found (search_of c query sort)) (none-begins p (events.Search side own (record { query = query; sort = sort })) _ refl) refl refl all

search-at-follower : (p : Past) (f copy : ℕ) (query : Tree) (sort : List SortKey) (found : Option Follower) → IsRetaining p
    → (λ (o : Outcome State). IsRetaining (past_with p (record { event = events.Search (sides.Follower f) copy (record { query = query; sort = sort }); reply = o.reply }) o))
    (elim found as (λ _. Outcome State) [ None ↦ refused p.state (NoFollower f) | Some follower ↦ search_row p.state copy query sort (copy_of follower.copies copy) ])
search-at-follower p f copy query sort None all = refused-place p (events.Search (sides.Follower f) copy (record { query = query; sort = sort })) (NoFollower f) all
search-at-follower p f copy query sort (Some x) all = search-place p (sides.Follower f) copy copy query sort (copy_of x.copies copy) all

pub retaining-keeps : (p : Past) (event : Event) (picks : List ℕ) → HasGrounds p → NoneHasNext p → Rises p.state (past_by p event picks).state → IsRetaining p → IsRetaining (past_by p event picks)
retaining-keeps p (events.Write request) picks grounds fresh up all =
    leader-quiet p (events.Write request) (leader_write p.state.leader request) refl (none-begins p (events.Write request) _ refl) (history_stays p.state (events.Write request) picks refl) refl
    (write-quiet p.state.leader.copies request (source_fault request.body) (live (held p.state.leader.copies.primary.store) request.id)) grounds all
retaining-keeps p (events.Replicate sides.Leader copy seq) picks grounds fresh up all =
    leader-quiet p (events.Replicate sides.Leader copy seq) (leader_replicate p.state.leader copy seq) refl (none-begins p (events.Replicate sides.Leader copy seq) _ refl) (history_stays p.state (events.Replicate sides.Leader copy seq) picks refl) refl (replicate-quiet p.state.leader.copies copy seq (replica_of p.state.leader.copies copy)) grounds all
retaining-keeps p (events.Replicate (sides.Follower f) copy seq) picks grounds fresh up all =
    follower-place p (events.Replicate (sides.Follower f) copy seq) f (λ x. follower_replicate x copy seq) refl refl (λ reply. refl) grounds
    (λ x there. copies-moves x (replicate_row x.copies copy seq (replica_of x.copies copy)) (replicate-quiet x.copies copy seq (replica_of x.copies copy))) up all
retaining-keeps p (events.Ack sides.Leader copy) picks grounds fresh up all =
    leader-quiet p (events.Ack sides.Leader copy) (leader_ack p.state.leader copy) refl (none-begins p (events.Ack sides.Leader copy) _ refl) (history_stays p.state (events.Ack sides.Leader copy) picks refl) refl (ack-quiet p.state.leader.copies copy (replica_of p.state.leader.copies copy)) grounds all
retaining-keeps p (events.Ack (sides.Follower f) copy) picks grounds fresh up all =
    follower-place p (events.Ack (sides.Follower f) copy) f (λ x. follower_ack x copy) refl refl (λ reply. refl) grounds
    (λ x there. copies-moves x (ack_row x.copies copy (replica_of x.copies copy)) (ack-quiet x.copies copy (replica_of x.copies copy))) up all
retaining-keeps p (events.Sync sides.Leader copy) picks grounds fresh up all = sync-place p copy grounds all
retaining-keeps p (events.Sync (sides.Follower f) copy) picks grounds fresh up all =
    follower-place p (events.Sync (sides.Follower f) copy) f (λ x. follower_sync x copy) refl refl (λ reply. refl) grounds
    (λ x there. copies-moves x (sync_row x.copies copy (replica_of x.copies copy)) (sync-quiet x.copies copy (replica_of x.copies copy))) up all
retaining-keeps p (events.Promote sides.Leader copy) picks grounds fresh up all =
    leader-quiet p (events.Promote sides.Leader copy) (leader_promote p.state.leader copy) refl (none-begins p (events.Promote sides.Leader copy) _ refl) (history_stays p.state (events.Promote sides.Leader copy) picks refl) refl (promote-quiet p.state.leader copy (replica_of p.state.leader.copies copy)) grounds all
retaining-keeps p (events.Promote (sides.Follower f) copy) picks grounds fresh up all =
    follower-place p (events.Promote (sides.Follower f) copy) f (λ x. follower_promote x copy) refl refl (λ reply. refl) grounds
    (λ x there. copies-moves x (follower_promote_row x.copies copy (replica_of x.copies copy)) (follower-promote-quiet x.copies copy (replica_of x.copies copy))) up all
retaining-keeps p (events.ForcePromote copy) picks grounds fresh up all = force-place p copy (stale_of p.state.leader.stale copy) grounds fresh all
retaining-keeps p (events.Resync copy) picks grounds fresh up all =
    leader-quiet p (events.Resync copy) (leader_resync p.state.leader copy) refl (none-begins p (events.Resync copy) _ refl) (history_stays p.state (events.Resync copy) picks refl) refl (resync-quiet p.state.leader.copies copy (replica_of p.state.leader.copies copy)) grounds all
retaining-keeps p (events.FailCopy sides.Leader copy) picks grounds fresh up all = fail-place p copy grounds all
retaining-keeps p (events.FailCopy (sides.Follower f) copy) picks grounds fresh up all =
    follower-place p (events.FailCopy (sides.Follower f) copy) f (λ x. follower_fail_copy x copy) refl refl (λ reply. refl) grounds
    (λ x there. copies-moves x (fail_copy_row x.copies copy (replica_of x.copies copy)) (fail-quiet x.copies copy (replica_of x.copies copy))) up all
retaining-keeps p (events.AddCopy sides.Leader) picks grounds fresh up all =
    leader-quiet p (events.AddCopy sides.Leader) (leader_add_copy p.state.leader) refl (none-begins p (events.AddCopy sides.Leader) _ refl) (history_stays p.state (events.AddCopy sides.Leader) picks refl) refl (add-quiet p.state.leader.copies) grounds all
retaining-keeps p (events.AddCopy (sides.Follower f)) picks grounds fresh up all =
    follower-place p (events.AddCopy (sides.Follower f)) f (λ x. follower_add_copy_row x) refl refl (λ reply. refl) grounds (λ x there. add-copy-moves x (add-quiet x.copies)) up all
retaining-keeps p (events.Flush sides.Leader copy) picks grounds fresh up all =
    leader-quiet p (events.Flush sides.Leader copy) (leader_flush p.state.leader copy) refl (none-begins p (events.Flush sides.Leader copy) _ refl) (history_stays p.state (events.Flush sides.Leader copy) picks refl) refl (flush-quiet p.state.leader.copies copy (copy_of p.state.leader.copies copy)) grounds all
retaining-keeps p (events.Flush (sides.Follower f) copy) picks grounds fresh up all =
    follower-place p (events.Flush (sides.Follower f) copy) f (λ x. follower_flush x copy) refl refl (λ reply. refl) grounds
    (λ x there. copies-moves x (flush_row x.copies copy (copy_of x.copies copy)) (flush-quiet x.copies copy (copy_of x.copies copy))) up all
retaining-keeps p (events.Merge sides.Leader copy) picks grounds fresh up all =
    leader-quiet p (events.Merge sides.Leader copy) (leader_merge p.state.leader copy picks) refl (none-begins p (events.Merge sides.Leader copy) _ refl) (history_stays p.state (events.Merge sides.Leader copy) picks refl) refl
    (merge-quiet p.state.leader.copies p.state.leader.start.retention copy picks (copy_of p.state.leader.copies copy)) grounds all
retaining-keeps p (events.Merge (sides.Follower f) copy) picks grounds fresh up all =
    follower-place p (events.Merge (sides.Follower f) copy) f (λ x. follower_merge x copy picks) refl refl (λ reply. refl) grounds
    (λ x there. copies-moves x (merge_row x.copies x.retention copy picks (copy_of x.copies copy)) (merge-quiet x.copies x.retention copy picks (copy_of x.copies copy))) up all
retaining-keeps p (events.Clock sides.Leader now) picks grounds fresh up all =
    leader-quiet p (events.Clock sides.Leader now) (leader_clock p.state.leader now) refl (none-begins p (events.Clock sides.Leader now) _ refl) (history_stays p.state (events.Clock sides.Leader now) picks refl) refl (clock-quiet p.state.leader now) grounds all
retaining-keeps p (events.Clock (sides.Follower f) now) picks grounds fresh up all =
    follower-place p (events.Clock (sides.Follower f) now) f (λ x. follower_clock_row x now) refl refl (λ reply. refl) grounds (λ x there. clock-moves x now) up all
retaining-keeps p events.Expire picks grounds fresh up all = expire-place p grounds all
retaining-keeps p events.CloseSessions picks grounds fresh up all =
    leader-quiet p events.CloseSessions (leader_close_sessions p.state.leader) refl (none-begins p events.CloseSessions _ refl) (history_stays p.state events.CloseSessions picks refl) refl (close-quiet p.state.leader) grounds all
retaining-keeps p (events.Tick f) picks grounds fresh up all = follower-place p (events.Tick f) f tick_row refl refl (λ reply. refl) grounds (λ x there. tick-moves x) up all
retaining-keeps p (events.Deliver at copy keep) picks grounds fresh up all =
    deliver-place p at copy keep (slice_get p.state.flight at) (copy_of p.state.leader.copies copy) grounds refl refl up (history_stays p.state (events.Deliver at copy keep) picks refl) all
retaining-keeps p (events.Drop at) picks grounds fresh up all = drop-place p at (slice_get p.state.flight at) all
retaining-keeps p (events.Wake f at) picks grounds fresh up all = wake-place p f at (slice_get p.state.followers f) (history_stays p.state (events.Wake f at) picks refl) grounds all
retaining-keeps p (events.Lose f at) picks grounds fresh up all = follower-place p (events.Lose f at) f (λ x. lose_row x at) refl refl (λ reply. refl) grounds (λ x there. lose-moves x at) up all
retaining-keeps p (events.LoseWrite f write) picks grounds fresh up all =
    follower-place p (events.LoseWrite f write) f (λ x. lose_write_row x write (sent_write x.work write)) refl refl (λ reply. refl) grounds (λ x there. lose-write-moves x write (sent_write x.work write) refl) up all
retaining-keeps p (events.Take f write) picks grounds fresh up all =
    follower-place p (events.Take f write) f (λ x. take_row x write (sent_write x.work write)) refl refl (λ reply. refl) grounds (λ x there. take-moves x write (sent_write x.work write)) up all
retaining-keeps p (events.Apply f epoch write batch) picks grounds fresh up all =
    follower-place p (events.Apply f epoch write batch) f (λ x. apply_row x epoch write batch (sent_write x.work write)) refl refl (λ reply. refl) grounds
    (λ x there. apply-moves x epoch write batch (sent_write x.work write)) up all
retaining-keeps p (events.Written f write) picks grounds fresh up all =
    follower-place p (events.Written f write) f (λ x. written_row x write (sent_write x.work write)) refl refl (λ reply. refl) grounds (λ x there. written-moves x write (sent_write x.work write) refl) up all
retaining-keeps p (events.Renew f) picks grounds fresh up all =
    follower-place p (events.Renew f) f (λ x. renew_row x (task_of x.work)) refl refl (λ reply. refl) grounds (λ x there. renew-moves x (task_of x.work) refl (below-next p f x grounds there)) up all
retaining-keeps p (events.Follow params copies name) picks grounds fresh up all = follow-place p params copies name (same_name p.state.followers name) grounds refl all
retaining-keeps p (events.Pause f) picks grounds fresh up all =
    follower-place p (events.Pause f) f (λ x. pause_row x (task_of x.work)) refl refl (λ reply. refl) grounds (λ x there. pause-moves x (task_of x.work) refl) up all
retaining-keeps p (events.Resume f) picks grounds fresh up all =
    follower-place p (events.Resume f) f (λ x. resume_row x (task_of x.work)) refl refl (λ reply. refl) grounds (λ x there. resume-moves x (task_of x.work) refl) up all
retaining-keeps p (events.Restart f) picks grounds fresh up all =
    follower-place p (events.Restart f) f (λ x. restart_row x (task_of x.work)) refl refl (λ reply. refl) grounds (λ x there. restart-moves x (task_of x.work) refl) up all
retaining-keeps p (events.Unfollow f) picks grounds fresh up all =
    follower-place p (events.Unfollow f) f (λ x. unfollow_row x (task_of x.work)) refl refl (λ reply. refl) grounds (λ x there. unfollow-moves x (task_of x.work) refl) up all
retaining-keeps p (events.Search sides.Leader copy request) picks grounds fresh up all = search-place p sides.Leader copy copy request.query request.sort (copy_of p.state.leader.copies copy) all
retaining-keeps p (events.Search (sides.Follower f) copy request) picks grounds fresh up all = search-at-follower p f copy request.query request.sort (slice_get p.state.followers f) all
retaining-keeps p (events.Status sides.Leader) picks grounds fresh up all =
    leader-quiet p (events.Status sides.Leader) (leader_status p.state.leader) refl (none-begins p (events.Status sides.Leader) _ refl) (history_stays p.state (events.Status sides.Leader) picks refl) refl (status-quiet p.state.leader) grounds all
retaining-keeps p (events.Status (sides.Follower f)) picks grounds fresh up all =
    follower-place p (events.Status (sides.Follower f)) f follower_status_row refl refl (λ reply. refl) grounds (λ x there. status-moves x) up all
retaining-keeps p events.Settle picks grounds fresh up all =
    on_guards (λ (o : Outcome State). IsRetaining (past_with p (record { event = events.Settle; reply = o.reply }) o)) p.state _ _
    (λ why. refused-place p events.Settle why all) (λ tests. quiet-place p events.Settle replies.Settled (none-begins p events.Settle _ refl) refl refl all)

pub retaining-start : (start : Start) → IsCopyCount start.copies → IsRetaining (start_past start)
retaining-start start count = record {
  made = λ f s there. absurd cc;
  opens = λ f s there. absurd cc;
  told = λ f s there. absurd cc;
  unmade = λ f none. refl;
  paired = tt;
  early = λ id nobody. record { low = omega arith; none = tt };
  apart = λ f g s t there at is. absurd cc;
}
