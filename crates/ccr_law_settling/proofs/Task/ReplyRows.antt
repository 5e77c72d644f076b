-- Settling by the delivery of an answer to a read: what the follower makes of it, and a reply, which lowers the measure.
use Rattle.std.specs.List.{AllByRecursion}
use Rattle.std.specs.Prelude.{slice_get, slice_set, remove}
use Rattle.std.proofs.Common.{◌≡◌, inl, inr, ℕ, ◌+◌, ◌≤◌, ◌<◌, false, if◌then◌else◌, Option, Some, List, ◌++◌, length, refl, sym, subst, arith}
use Rattle.ccr_op.specs.Operation.{Operation}
use Rattle.ccr_wire.specs.Message.{Frame}
use Rattle.ccr_wire.specs.declared.content.Content.TheVariants as contents
use Rattle.ccr_model.specs.Outcomes.{Outcome}
use Rattle.ccr_model.specs.Tasks.{Task, Read, read_sent, after_reply, filled_if_active}
use Rattle.ccr_model.specs.Restores.{ends_restore, restore_hears}
use Rattle.ccr_model.specs.Followers.{Follower, Work, restoring, replicating}
use Rattle.ccr_model.specs.FollowerRows.{with_task, restore_ended, restore_heard, hear_read, task_heard, work_hears}
use Rattle.ccr_model.specs.World.{State, at_follower}
use Rattle.ccr_law_settling.specs.Measure.{passing, over_followers, is_idle_content, rank_of, work_lacks, task_lacks, follower_lacks, old_peeks, lacking_of, idle_of, underway_of, leases_of, IsLess, IsLower}
use Rattle.ccr_law_settling.proofs.Measure.Totals.{over_set, over_set_same, over_set_less}
use Rattle.ccr_law_settling.proofs.Measure.Flights.{IsPlain, ranks_more, idle_more}
use Rattle.ccr_law_settling.proofs.Measure.Taken.{total_remove, ranks_left}
use Rattle.ccr_law_settling.proofs.Measure.StaleMessages.{left}
use Rattle.ccr_law_settling.proofs.Task.ReplyFills.{FillsOn}
use Rattle.ccr_law_settling.proofs.Task.Replies.{IsGoodReply, ComesNearer, reply_nearer, filled}

-- ---- the task hears of its read

pub read_hears : (count_of : List ℕ → ℕ) (s : State) (at : ℕ) (m : Frame) (f : ℕ) (own : Follower) (t : Task) (r : Read) → own.work ≡ replicating t → read_sent t m.request ≡ Some r
    → IsLower count_of (at_follower (left s at) f (hear_read own t r m.content)).next s → IsLower count_of (at_follower (left s at) f (work_hears own m)).next s
read_hears count_of s at m f own t r works waits lower =
    subst (λ (w : Work). IsLower count_of (at_follower (left s at) f (elim w as (λ _. Outcome Follower) [
      | restoring x ↦ if ends_restore x m then restore_ended own x else restore_heard own (restore_hears x own.now m)
      | replicating x ↦ task_heard own x m.content (read_sent x m.request)
    ])).next s) (sym works)
    (subst (λ (o : Option Read). IsLower count_of (at_follower (left s at) f (task_heard own t m.content o)).next s) (sym waits) lower)

-- ---- a task that comes nearer

pub nearer_lower : (count_of : List ℕ → ℕ) (s : State) (at : ℕ) (m : Frame) (f : ℕ) (own : Follower) (t new : Task) (sent : List Frame) → slice_get s.flight at ≡ Some m → slice_get s.followers f ≡ Some own
    → own.work ≡ replicating t → AllByRecursion (IsPlain s.leader.sessions) sent → AllByRecursion (λ (x : Frame). is_idle_content x.content ≡ false) sent
    → ComesNearer (count_of own.history) (is_idle_content m.content) t new
    → IsLower count_of (record s { followers = slice_set s.followers f (with_task own new); flight = remove s.flight at ++ sent }) s
nearer_lower count_of s at m f own t new sent found there works plain busy nears =
    inr (
      (let more : over_followers (λ f own. rank_of (remove s.flight at ++ sent) s.leader.sessions f own.work) 0 (slice_set s.followers f after)
          ≤ over_followers (λ f own. rank_of (remove s.flight at) s.leader.sessions f own.work) 0 (slice_set s.followers f after)
          = ranks_more (remove s.flight at) sent s.leader.sessions (slice_set s.followers f after) plain in
          let fewer : over_followers (λ f own. rank_of (remove s.flight at) s.leader.sessions f own.work) 0 (slice_set s.followers f after)
          ≤ over_followers (λ f own. rank_of s.flight s.leader.sessions f own.work) 0 (slice_set s.followers f after)
          = ranks_left s.flight at s.leader.sessions (slice_set s.followers f after) in
          let set : over_followers (λ f own. rank_of s.flight s.leader.sessions f own.work) 0 (slice_set s.followers f after)
          ≤ over_followers (λ f own. rank_of s.flight s.leader.sessions f own.work) 0 s.followers
          = over_set_same (λ f own. rank_of s.flight s.leader.sessions f own.work) f own after s.followers there (omega arith) in
          omega arith),
      by nears,
    )
  where
    count : ℕ
    count = count_of own.history

    after : Follower
    after = with_task own new

    plus : (copies a b : ℕ) → a < b → copies + a < copies + b
    plus copies a b lt = omega arith

    plus_same : (copies a b : ℕ) → a ≤ b → copies + a ≤ copies + b
    plus_same copies a b le = omega arith

    sums : (flight rest one new_own new old old_own requests peeks peeks_new : ℕ) → rest + one ≡ flight → new + old_own ≡ old + new_own → old_own ≡ peeks + requests → new_own ≡ peeks_new + requests → peeks_new < peeks + one
        → rest + new < flight + old
    sums flight rest one new_own new old old_own requests peeks peeks_new a b c d e = omega arith

    idle : old_peeks (replicating new) < old_peeks (replicating t) + (if is_idle_content m.content then 1 else 0)
        → passing (λ (x : Frame). is_idle_content x.content) (remove s.flight at ++ sent) + over_followers (λ f own. old_peeks own.work + length own.lease_requests) 0 (slice_set s.followers f after)
        < passing (λ (x : Frame). is_idle_content x.content) s.flight + over_followers (λ f own. old_peeks own.work + length own.lease_requests) 0 s.followers
    idle fewer =
        rw (idle_more (remove s.flight at) sent busy)
        (sums _ _ _ _ _ _ _ (length own.lease_requests) (old_peeks (replicating t)) (old_peeks (replicating new))
        (total_remove (λ (x : Frame). if is_idle_content x.content then 1 else 0) s.flight at m found)
        (over_set (λ f own. old_peeks own.work + length own.lease_requests) 0 f own after s.followers there)
        (subst (λ (w : Work). old_peeks w + length own.lease_requests ≡ old_peeks (replicating t) + length own.lease_requests) (sym works) refl)
        refl fewer)

    next : State
    next = record s { followers = slice_set s.followers f after; flight = remove s.flight at ++ sent }

    by : ComesNearer count (is_idle_content m.content) t new
        → IsLess (lacking_of count_of next) (lacking_of count_of s) (IsLess (idle_of next) (idle_of s) (IsLess (underway_of next) (underway_of s) (leases_of next < leases_of s)))
    by (inl less) =
        inl (plus _ _ _ (over_set_less (follower_lacks count_of) f own after s.followers there
        (plus _ _ _ (subst (λ (w : Work). task_lacks count new < work_lacks count w) (sym works) less))))
    by (inr both) =
        inr (
          plus_same _ _ _ (over_set_same (follower_lacks count_of) f own after s.followers there
              (plus_same _ _ _ (subst (λ (w : Work). task_lacks count new ≤ work_lacks count w) (sym works) both.0))),
          inl (idle both.1),
        )

-- ---- a reply

pub reply_lower : (count_of : List ℕ → ℕ) (s : State) (at : ℕ) (m : Frame) (f : ℕ) (own : Follower) (t : Task) (r : Read) (from global : ℕ) (ops : List Operation) → slice_get s.flight at ≡ Some m
    → m.content ≡ contents.ReadReply from global ops → slice_get s.followers f ≡ Some own → own.work ≡ replicating t → IsGoodReply (count_of own.history) t r global ops
    → IsLower count_of (at_follower (left s at) f (hear_read own t r (contents.ReadReply from global ops))).next s
reply_lower count_of s at m f own t r from global ops found is there works good =
    let fills : FillsOn (count_of own.history) s.leader.sessions (after_reply t r global ops) (filled_if_active (after_reply t r global ops)) = filled (count_of own.history) s.leader.sessions t r global ops good in
    nearer_lower count_of s at m f own t (filled_if_active (after_reply t r global ops)).next (filled_if_active (after_reply t r global ops)).sent found there works fills.fills.sent fills.busy
    (subst (λ (content : _). ComesNearer (count_of own.history) (is_idle_content content) t (filled_if_active (after_reply t r global ops)).next) (sym is)
    (reply_nearer (count_of own.history) s.leader.sessions t r global ops good))
