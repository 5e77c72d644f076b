-- A follower's history stays at each event, and a new follower has the leader's.
use Rattle.std.specs.Prelude.{slice_get, slice_set, remove, ◌==◌}
use Rattle.std.specs.List.{list_any}
use Rattle.std.proofs.Common.{◌≡◌, ℕ, zero, suc, Bool, true, false, Option, Some, None, List, [], ◌∷◌, ◌++◌, length, refl, sym, ◌∙◌, subst}
use Rattle.std.proofs.lemmas.Bool.{eqb-true}
use Rattle.ccr_op.specs.Operation.{Operation}
use Rattle.ccr_wire.specs.Message.{Frame, kind_of_content}
use Rattle.ccr_wire.specs.declared.content.Content.{Content}
use Rattle.ccr_wire.specs.declared.content.Content.TheVariants as contents
use Rattle.ccr_query.specs.Queries.{Tree}
use Rattle.ccr_query.specs.declared.sorting.SortKey.{SortKey}
use Rattle.ccr_journal.specs.declared.params.ParamValues.{ParamValues}
use Rattle.ccr_journal.specs.declared.sides.Side.TheVariants as sides
use Rattle.ccr_journal.specs.declared.events.Event.{Event}
use Rattle.ccr_journal.specs.declared.events.Event.TheVariants as events
use Rattle.ccr_journal.specs.declared.replies.Refusal.TheVariants.{NoFollower}
use Rattle.ccr_model.specs.Outcomes.{Outcome, refused}
use Rattle.ccr_model.specs.Copies.{Copy, copy_of}
use Rattle.ccr_model.specs.Requests.{Sending}
use Rattle.ccr_model.specs.Tasks.{Task, Read, is_active, read_sent}
use Rattle.ccr_model.specs.Restores.{Restore, Stage, leasing, opening, fetching, is_complete, ends_restore, restore_hears}
use Rattle.ccr_model.specs.Followers.{Follower, Work, restoring, replicating, new_follower}
use Rattle.ccr_model.specs.FollowerRows.{Sent, restore_done, restore_heard, hear_read, task_heard, work_hears, follower_receive_row, task_lost, bootstrap_lost, lose_row, tick_row, follower_clock_row, sent_write, lose_write_row, take_row, apply_row, lacks, write_done, written_row, task_of, renew_row, pause_row, resume_row, restart_row, unfollow_row, follower_add_copy_row, follower_status_row}
use Rattle.ccr_model.specs.World.{State, for_follower, goes_to_leader, follower_of, at_named_follower, taken_by_receiver, deliver_row, drop_row, follow_row, same_name, search_row}
use Rattle.ccr_model.specs.Step.{step, woken}
use Rattle.ccr_law_base.proofs.Cases.{on_if, on_guards}
use Rattle.ccr_law_base.proofs.Lists.{some_equal, set-same, set-other}
use Rattle.ccr_law_base.proofs.Tests.{by_test}

abbrev Follows : Follower → Outcome Follower → Type 0
Follows s o = o.next.history ≡ s.history

-- ---- messages

restoring_done : (s : Follower) (done : Sending Restore) → Follows s (restore_done s done)
restoring_done s done = by_stage done.next.stage
  where
    by_stage : (stage : Stage) → Follows s (restore_done s (record done { next = record done.next { stage = stage } }))
    by_stage (leasing a) = refl
    by_stage (opening a) = refl
    by_stage (fetching f) = on_if (Follows s) (is_complete done.next.chunk_size f) _ _ (λ all. refl) (λ more. refl)

restoring_heard : (s : Follower) (found : Option (Sending Restore)) → Follows s (restore_heard s found)
restoring_heard s None = refl
restoring_heard s (Some done) = restoring_done s done

reading_heard : (s : Follower) (t : Task) (r : Read) (content : Content) → Follows s (hear_read s t r content)
reading_heard s t r (contents.ReadReply from global ops) = refl
reading_heard s t r (contents.ReadMissing from floor) = refl
reading_heard s t r (contents.ReadHistory history) = refl
reading_heard s t r _ = refl

tasking_heard : (s : Follower) (t : Task) (content : Content) (found : Option Read) → Follows s (task_heard s t content found)
tasking_heard s t content None = refl
tasking_heard s t content (Some r) = reading_heard s t r content

working_heard : (s : Follower) (m : Frame) → Follows s (work_hears s m)
working_heard s m = by_work s.work
  where
    by_work : (w : Work) → Follows s (work_hears (record s { work = w }) m)
    by_work (restoring r) =
        on_if (Follows s) (ends_restore r m) _ _ (λ ends. refl) (λ goes. restoring_heard (record s { work = restoring r }) (restore_hears r s.now m))
    by_work (replicating t) = tasking_heard (record s { work = replicating t }) t m.content (read_sent t m.request)

receiving : (s : Follower) (m : Frame) → Follows s (follower_receive_row s m)
unfolding follower_receive_row
receiving s m = on_if (Follows s) (list_any (λ n. n == m.request) s.lease_requests) _ _ (λ own. refl) (λ other. working_heard s m)

-- ---- losses, retries and clocks

bootstrap_loses : (s : Follower) (r : Restore) (at : ℕ) (found : Option ℕ) → Follows s (bootstrap_lost s r at found)
bootstrap_loses s r at None = refl
bootstrap_loses s r at (Some request) = refl

task_loses : (s : Follower) (t : Task) (at : ℕ) (found : Option Read) → Follows s (task_lost s t at found)
task_loses s t at None = refl
task_loses s t at (Some r) = refl

losing : (s : Follower) (at : ℕ) → Follows s (lose_row s at)
unfolding lose_row
losing s at = by_work s.work
  where
    by_work : (w : Work) → Follows s (lose_row (record s { work = w }) at)
    by_work (restoring r) = bootstrap_loses (record s { work = restoring r }) r at _
    by_work (replicating t) = task_loses (record s { work = replicating t }) t at _

ticking : (s : Follower) → Follows s (tick_row s)
unfolding tick_row
ticking s = by_work s.work
  where
    by_work : (w : Work) → Follows s (tick_row (record s { work = w }))
    by_work (restoring r) = refl
    by_work (replicating t) = refl

clocking : (s : Follower) (now : ℕ) → Follows s (follower_clock_row s now)
unfolding follower_clock_row
clocking s now = refl

-- ---- writes

losing_write : (s : Follower) (number : ℕ) (found : Option Sent) → Follows s (lose_write_row s number found)
unfolding lose_write_row
losing_write s number None = refl
losing_write s number (Some w) = refl

taking : (s : Follower) (number : ℕ) (found : Option Sent) → Follows s (take_row s number found)
unfolding take_row
taking s number None = refl
taking s number (Some w) = refl

applying : (s : Follower) (epoch number : ℕ) (batch : List Operation) (found : Option Sent) → Follows s (apply_row s epoch number batch found)
unfolding apply_row
applying s epoch number batch found = on_guards (Follows s) s _ _ (λ why. refl) (λ tests. refl)

ending : (s : Follower) (w : Sent) (copy : Option ℕ) → Follows s (write_done s w copy)
ending s w (Some copy) = refl
ending s w None = refl

writing : (s : Follower) (number : ℕ) (found : Option Sent) → Follows s (written_row s number found)
unfolding written_row
writing s number None = refl
writing s number (Some w) = ending s w (lacks w.write.batch s.copies)

-- ---- pauses and restarts

renewing : (s : Follower) (found : Option Task) → Follows s (renew_row s found)
unfolding renew_row
renewing s None = refl
renewing s (Some t) = on_guards (Follows s) s _ _ (λ why. refl) (λ tests. refl)

pausing : (s : Follower) (found : Option Task) → Follows s (pause_row s found)
unfolding pause_row
pausing s None = refl
pausing s (Some t) = on_if (λ (next : Follower). next.history ≡ s.history) (is_active t.phase) _ _ (λ is. refl) (λ isnt. refl)

resuming : (s : Follower) (found : Option Task) → Follows s (resume_row s found)
unfolding resume_row
resuming s None = refl
resuming s (Some t) = on_guards (Follows s) s _ _ (λ why. refl) (λ tests. refl)

restarting : (s : Follower) (found : Option Task) → Follows s (restart_row s found)
unfolding restart_row
restarting s None = refl
restarting s (Some t) = on_guards (Follows s) s _ _ (λ why. refl) (λ tests. refl)

unfollowing : (s : Follower) (found : Option Task) → Follows s (unfollow_row s found)
unfolding unfollow_row
unfollowing s None = refl
unfollowing s (Some t) = on_guards (Follows s) s _ _ (λ why. refl) (λ tests. refl)

adding : (s : Follower) → Follows s (follower_add_copy_row s)
unfolding follower_add_copy_row
adding s = on_guards (Follows s) s _ _ (λ why. refl) (λ tests. refl)

showing : (s : Follower) → Follows s (follower_status_row s)
unfolding follower_status_row
showing s = refl

-- ---- the world

-- what holds of the number of each follower and the history that it follows
abbrev pub AllFollow : (ℕ → List ℕ → Type 0) → State → Type 0
AllFollow P s = (f : ℕ) (x : Follower) → slice_get s.followers f ≡ Some x → P f x.history

one : (P : ℕ → List ℕ → Type 0) (s : State) (f : ℕ) (row : Follower → Outcome Follower) (found : Option Follower) → slice_get s.followers f ≡ found
    → ((x : Follower) → Follows x (row x)) → AllFollow P s → AllFollow P (for_follower s f row found).next
one P s f row None is keeps all = all
one P s f row (Some x) is keeps all = λ k new there.
    by_test (P k new.history) (f == k)
    (λ same.
    let at : f ≡ k = eqb-true f k same in
    let set : slice_get (slice_set s.followers f (row x).next) f ≡ Some new = subst (λ (j : ℕ). slice_get (slice_set s.followers f (row x).next) j ≡ Some new) (sym at) there in
    let own : (row x).next ≡ new = some_equal (row x).next new (sym (set-same s.followers f x (row x).next is) ∙ set) in
    subst (λ (j : ℕ). P j new.history) at (subst (λ (y : Follower). P f y.history) own (subst (P f) (sym (keeps x)) (all f x is))))
    (λ other. all k new (sym (set-other s.followers f k (row x).next other) ∙ there))

naming : (P : ℕ → List ℕ → Type 0) (s : State) (m : Frame) (named : Option ℕ) → AllFollow P s → AllFollow P (at_named_follower s m named).next
naming P s m None all = all
naming P s m (Some f) all = one P s f (λ x. follower_receive_row x m) (slice_get s.followers f) refl (λ x. receiving x m) all

taken : (P : ℕ → List ℕ → Type 0) (s : State) (copy : ℕ) (m : Frame) → AllFollow P s → AllFollow P (taken_by_receiver s copy m).next
taken P s copy m all =
    on_if (λ (o : Outcome State). AllFollow P o.next) (goes_to_leader (kind_of_content m.content)) _ _ (λ is. all) (λ isnt. naming P s m (follower_of s.followers m.follower) all)

delivering : (P : ℕ → List ℕ → Type 0) (s : State) (at copy : ℕ) (keep : Bool) (m : Option Frame) (c : Option Copy) → AllFollow P s
    → AllFollow P (deliver_row s at copy keep m c).next
unfolding deliver_row
delivering P s at copy keep None c all = all
delivering P s at copy keep (Some m) None all = all
delivering P s at copy keep (Some m) (Some c) all =
    on_if (λ (t : State). AllFollow P (taken_by_receiver t copy m).next) keep s (record s { flight = remove s.flight at })
    (λ is. taken P s copy m all) (λ isnt. taken P (record s { flight = remove s.flight at }) copy m all)

dropping : (P : ℕ → List ℕ → Type 0) (s : State) (at : ℕ) (m : Option Frame) → AllFollow P s → AllFollow P (drop_row s at m).next
unfolding drop_row
dropping P s at None all = all
dropping P s at (Some m) all = all

waking : (P : ℕ → List ℕ → Type 0) (s : State) (f at : ℕ) (found : Option Follower) → AllFollow P s → AllFollow P (woken s f at found).next
waking P s f at None all = all
waking P s f at (Some x) all = all

pushed : {X : Type 0} (P : ℕ → X → Type 0) (xs : List X) (y : X) → ((k : ℕ) (x : X) → slice_get xs k ≡ Some x → P k x) → P (length xs) y
    → (k : ℕ) (x : X) → slice_get (xs ++ y ∷ []) k ≡ Some x → P k x
pushed P [] y all own zero x at = subst (P 0) (some_equal y x at) own
pushed P [] y all own (suc k) x at = absurd cc
pushed P (z ∷ xs) y all own zero x at = all zero x at
pushed P (z ∷ xs) y all own (suc k) x at = pushed (λ j. P (suc j)) xs y (λ j w there. all (suc j) w there) own k x at

making : (P : ℕ → List ℕ → Type 0) (s : State) (params : ParamValues) (copies : ℕ) (name : List ℕ) (same : Option ℕ) → P (length s.followers) s.leader.history → AllFollow P s
    → AllFollow P (follow_row s params copies name same).next
unfolding follow_row
making P s params copies name (Some f) own all = all
making P s params copies name None own all =
    on_guards (λ (o : Outcome State). AllFollow P o.next) s _ _ (λ why. all)
    (λ tests. pushed (λ k (x : Follower). P k x.history) s.followers (new_follower (length s.followers) params copies name s.leader.history s.leader.start.retention).next all own)

searching : (P : ℕ → List ℕ → Type 0) (s : State) (copy : ℕ) (query : Tree) (sort : List SortKey) (c : Option Copy) → AllFollow P s
    → AllFollow P (search_row s copy query sort c).next
unfolding search_row
searching P s copy query sort None all = all
searching P s copy query sort (Some c) all = all

searching_at : (P : ℕ → List ℕ → Type 0) (s : State) (f copy : ℕ) (query : Tree) (sort : List SortKey) (found : Option Follower) → AllFollow P s
    → AllFollow P (elim found as (λ _. Outcome State) [ None ↦ refused s (NoFollower f) | Some x ↦ search_row s copy query sort (copy_of x.copies copy) ]).next
searching_at P s f copy query sort None all = all
searching_at P s f copy query sort (Some x) all = searching P s copy query sort (copy_of x.copies copy) all

-- the event may make a follower
abbrev pub may_make : Event → Bool
may_make (events.Follow params copies name) = true
may_make _ = false

-- what holds of the followers' histories holds of them after an event, where it holds of the leader's for a follower that it may make
pub histories_follow : (P : ℕ → List ℕ → Type 0) (s : State) (event : Event) (picks : List ℕ) → (may_make event ≡ true → P (length s.followers) s.leader.history) → AllFollow P s
    → AllFollow P (step s event picks).next
histories_follow P s (events.Write request) picks own all = all
histories_follow P s (events.Replicate sides.Leader copy seq) picks own all = all
histories_follow P s (events.Replicate (sides.Follower f) copy seq) picks own all = one P s f _ (slice_get s.followers f) refl (λ x. refl) all
histories_follow P s (events.Ack sides.Leader copy) picks own all = all
histories_follow P s (events.Ack (sides.Follower f) copy) picks own all = one P s f _ (slice_get s.followers f) refl (λ x. refl) all
histories_follow P s (events.Sync sides.Leader copy) picks own all = all
histories_follow P s (events.Sync (sides.Follower f) copy) picks own all = one P s f _ (slice_get s.followers f) refl (λ x. refl) all
histories_follow P s (events.Promote sides.Leader copy) picks own all = all
histories_follow P s (events.Promote (sides.Follower f) copy) picks own all = one P s f _ (slice_get s.followers f) refl (λ x. refl) all
histories_follow P s (events.ForcePromote copy) picks own all = all
histories_follow P s (events.Resync copy) picks own all = all
histories_follow P s (events.FailCopy sides.Leader copy) picks own all = all
histories_follow P s (events.FailCopy (sides.Follower f) copy) picks own all = one P s f _ (slice_get s.followers f) refl (λ x. refl) all
histories_follow P s (events.AddCopy sides.Leader) picks own all = all
histories_follow P s (events.AddCopy (sides.Follower f)) picks own all = one P s f _ (slice_get s.followers f) refl adding all
histories_follow P s (events.Flush sides.Leader copy) picks own all = all
histories_follow P s (events.Flush (sides.Follower f) copy) picks own all = one P s f _ (slice_get s.followers f) refl (λ x. refl) all
histories_follow P s (events.Merge sides.Leader copy) picks own all = all
histories_follow P s (events.Merge (sides.Follower f) copy) picks own all = one P s f _ (slice_get s.followers f) refl (λ x. refl) all
histories_follow P s (events.Clock sides.Leader now) picks own all = all
histories_follow P s (events.Clock (sides.Follower f) now) picks own all = one P s f _ (slice_get s.followers f) refl (λ x. clocking x now) all
histories_follow P s events.Expire picks own all = all
histories_follow P s events.CloseSessions picks own all = all
histories_follow P s (events.Tick f) picks own all = one P s f _ (slice_get s.followers f) refl ticking all
histories_follow P s (events.Deliver at copy keep) picks own all = delivering P s at copy keep (slice_get s.flight at) (copy_of s.leader.copies copy) all
histories_follow P s (events.Drop at) picks own all = dropping P s at (slice_get s.flight at) all
histories_follow P s (events.Wake f at) picks own all = waking P s f at (slice_get s.followers f) all
histories_follow P s (events.Lose f at) picks own all = one P s f _ (slice_get s.followers f) refl (λ x. losing x at) all
histories_follow P s (events.LoseWrite f write) picks own all = one P s f _ (slice_get s.followers f) refl (λ x. losing_write x write (sent_write x.work write)) all
histories_follow P s (events.Take f write) picks own all = one P s f _ (slice_get s.followers f) refl (λ x. taking x write (sent_write x.work write)) all
histories_follow P s (events.Apply f epoch write batch) picks own all =
    one P s f _ (slice_get s.followers f) refl (λ x. applying x epoch write batch (sent_write x.work write)) all
histories_follow P s (events.Written f write) picks own all = one P s f _ (slice_get s.followers f) refl (λ x. writing x write (sent_write x.work write)) all
histories_follow P s (events.Renew f) picks own all = one P s f _ (slice_get s.followers f) refl (λ x. renewing x (task_of x.work)) all
histories_follow P s (events.Follow params copies name) picks own all = making P s params copies name (same_name s.followers name) (own refl) all
histories_follow P s (events.Pause f) picks own all = one P s f _ (slice_get s.followers f) refl (λ x. pausing x (task_of x.work)) all
histories_follow P s (events.Resume f) picks own all = one P s f _ (slice_get s.followers f) refl (λ x. resuming x (task_of x.work)) all
histories_follow P s (events.Restart f) picks own all = one P s f _ (slice_get s.followers f) refl (λ x. restarting x (task_of x.work)) all
histories_follow P s (events.Unfollow f) picks own all = one P s f _ (slice_get s.followers f) refl (λ x. unfollowing x (task_of x.work)) all
histories_follow P s (events.Search sides.Leader copy request) picks own all = searching P s copy request.query request.sort (copy_of s.leader.copies copy) all
histories_follow P s (events.Search (sides.Follower f) copy request) picks own all = searching_at P s f copy request.query request.sort (slice_get s.followers f) all
histories_follow P s (events.Status sides.Leader) picks own all = all
histories_follow P s (events.Status (sides.Follower f)) picks own all = one P s f _ (slice_get s.followers f) refl showing all
histories_follow P s events.Settle picks own all = on_guards (λ (o : Outcome State). AllFollow P o.next) s _ _ (λ why. all) (λ tests. all)
