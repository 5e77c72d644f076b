-- Settling by the delivery of a message that the leader isn't ready lowers the measure.
use Rattle.std.specs.List.{list_any}
use Rattle.std.specs.Prelude.{slice_get, slice_set, remove, filter}
use Rattle.std.proofs.Common.{◌≡◌, ℕ, ◌+◌, ◌≤◌, ◌<◌, ◌==◌, not, Bool, true, false, if◌then◌else◌, inl, inr, Option, Some, None, List, [], ◌++◌, length, refl, sym, subst, arith}
use Rattle.ccr_wire.specs.Message.{Frame}
use Rattle.ccr_wire.specs.declared.content.Content.TheVariants as contents
use Rattle.ccr_journal.specs.declared.events.Event.TheVariants as events
use Rattle.ccr_model.specs.Outcomes.{Outcome}
use Rattle.ccr_model.specs.Requests.{retry_time}
use Rattle.ccr_model.specs.Tasks.{Read, read_sent}
use Rattle.ccr_model.specs.Restores.{Restore, ChunkAsked, Stage, leasing, opening, fetching, answers, ask_sent, hear_asked, restore_hears}
use Rattle.ccr_model.specs.Copies.{Copy, copy_of}
use Rattle.ccr_model.specs.Leaders.{Session}
use Rattle.ccr_model.specs.Followers.{Follower, Work, restoring, replicating}
use Rattle.ccr_model.specs.FollowerRows.{ignored, restore_ended, restore_heard, task_heard, work_hears, follower_receive_row}
use Rattle.ccr_model.specs.World.{State, at_follower, for_follower, at_named_follower, follower_of, deliver_row}
use Rattle.ccr_model.specs.Step.{step}
use Rattle.ccr_law_base.proofs.Cases.{on_if}
use Rattle.ccr_law_base.proofs.Tests.{and_false}
use Rattle.ccr_law_settling.specs.Measure.{passing, over_followers, is_idle_content, is_opened_in_vain, rank_of, copies_lack, follower_lacks, old_peeks, lacking_of, IsLower}
use Rattle.ccr_law_settling.proofs.Measure.Totals.{le_itself, over_set_same}
use Rattle.ccr_law_settling.proofs.Measure.Losing.{no_rank_for_waiting, two_at_most}
use Rattle.ccr_law_settling.proofs.Measure.Taken.{total_remove, ranks_left}
use Rattle.ccr_law_settling.proofs.Measure.Delivering.{primary_found}
use Rattle.std.proofs.lemmas.List.{append-nil}
use Rattle.ccr_law_base.proofs.Lists.{length-filter-le}

-- one message fewer that brings nothing
pub idle_less : (flight : List Frame) (at : ℕ) (m : Frame) → slice_get flight at ≡ Some m → is_idle_content m.content ≡ true
    → passing (λ (x : Frame). is_idle_content x.content) (remove flight at) < passing (λ (x : Frame). is_idle_content x.content) flight
idle_less flight at m found idle =
    let one : passing (λ (x : Frame). is_idle_content x.content) (remove flight at) + (if is_idle_content m.content then 1 else 0) ≡ passing (λ (x : Frame). is_idle_content x.content) flight
    = total_remove (λ (x : Frame). if is_idle_content x.content then 1 else 0) flight at m found in
    less _ _ _ one (rw idle refl)
  where
    less : (a b one : ℕ) → a + one ≡ b → one ≡ 1 → a < b
    less a b one sum counts = omega arith

dropped_lower : (count_of : List ℕ → ℕ) (s : State) (at : ℕ) (m : Frame) → slice_get s.flight at ≡ Some m → is_idle_content m.content ≡ true → IsLower count_of (record s { flight = remove s.flight at }) s
dropped_lower count_of s at m found idle =
    inr (
      ranks_left s.flight at s.leader.sessions s.followers,
      inr (
        le_itself (lacking_of count_of s),
        inl (let lt : passing (λ (x : Frame). is_idle_content x.content) (remove s.flight at) < passing (λ (x : Frame). is_idle_content x.content) s.flight = idle_less s.flight at m found idle in
            plus _ _ _ lt),
      ),
    )
  where
    plus : (a b followers : ℕ) → a < b → a + followers < b + followers
    plus a b followers lt = omega arith

-- what a follower is after it took such a message: nothing of it counts more, and it sends nothing
pub record Takes (sessions : List Session) (flight : List Frame) (count_of : List ℕ → ℕ) (f : ℕ) (own : Follower) (o : Outcome Follower) : Type 0 where
  pub quiet : o.sent ≡ []
  pub rank : rank_of flight sessions f o.next.work ≤ rank_of flight sessions f own.work
  pub lacks : follower_lacks count_of f o.next ≤ follower_lacks count_of f own
  pub idle : old_peeks o.next.work + length o.next.lease_requests ≤ old_peeks own.work + length own.lease_requests

takes_lower : (count_of : List ℕ → ℕ) (s : State) (at : ℕ) (m : Frame) (f : ℕ) (own : Follower) (o : Outcome Follower) → slice_get s.flight at ≡ Some m → is_idle_content m.content ≡ true
    → slice_get s.followers f ≡ Some own → Takes s.leader.sessions s.flight count_of f own o
    → IsLower count_of (at_follower (record s { flight = remove s.flight at }) f o).next s
takes_lower count_of s at m f own o found idle there takes =
    subst (λ (sent : List Frame). IsLower count_of (record s { followers = slice_set s.followers f o.next; flight = remove s.flight at ++ sent }) s) (sym takes.quiet)
    (subst (λ (flight : List Frame). IsLower count_of (record s { followers = slice_set s.followers f o.next; flight = flight }) s) (sym (append-nil (remove s.flight at)))
    (inr (
      (let left : over_followers (λ f own. rank_of (remove s.flight at) s.leader.sessions f own.work) 0 (slice_set s.followers f o.next)
          ≤ over_followers (λ f own. rank_of s.flight s.leader.sessions f own.work) 0 (slice_set s.followers f o.next)
          = ranks_left s.flight at s.leader.sessions (slice_set s.followers f o.next) in
          let set : over_followers (λ f own. rank_of s.flight s.leader.sessions f own.work) 0 (slice_set s.followers f o.next)
          ≤ over_followers (λ f own. rank_of s.flight s.leader.sessions f own.work) 0 s.followers
          = over_set_same (λ f own. rank_of s.flight s.leader.sessions f own.work) f own o.next s.followers there takes.rank in
          omega arith),
      inr (
        (let le : over_followers (follower_lacks count_of) 0 (slice_set s.followers f o.next) ≤ over_followers (follower_lacks count_of) 0 s.followers
            = over_set_same (follower_lacks count_of) f own o.next s.followers there takes.lacks in
            omega arith),
        inl (both _ _ _ _ (idle_less s.flight at m found idle)
            (over_set_same (λ f own. old_peeks own.work + length own.lease_requests) f own o.next s.followers there takes.idle)),
      ),
    )))
  where
    both : (a b c d : ℕ) → a < b → c ≤ d → a + c < b + d
    both a b c d lt le = omega arith

-- ---- the message

ignored_takes : (sessions : List Session) (flight : List Frame) (count_of : List ℕ → ℕ) (f : ℕ) (own : Follower) → Takes sessions flight count_of f own (ignored own)
ignored_takes sessions flight count_of f own = record {
  quiet = refl;
  rank = le_itself (rank_of flight sessions f own.work);
  lacks = le_itself (follower_lacks count_of f own);
  idle = le_itself (old_peeks own.work + length own.lease_requests);
}

restoring_takes : (sessions : List Session) (flight : List Frame) (count_of : List ℕ → ℕ) (f : ℕ) (base : Follower) (r : Restore) (stage : Stage) (follower : List ℕ) (request copy : ℕ)
    → Takes sessions flight count_of f (record base { work = restoring (record r { stage = stage }) })
    (work_hears (record base { work = restoring (record r { stage = stage }) }) (record { follower = follower; request = request; content = contents.NotReady copy }))
restoring_takes sessions flight count_of f base r (leasing a) follower request copy =
    on_if (λ (o : Option _). Takes sessions flight count_of f own (restore_heard own o)) (answers m a) _ _
    (λ is. record { quiet = refl; rank = omega arith; lacks = le_itself (copies_lack (count_of base.history) base.copies + 0); idle = le_itself (0 + length base.lease_requests) })
    (λ isnt. ignored_takes sessions flight count_of f own)
  where
    m : Frame
    m = record { follower = follower; request = request; content = contents.NotReady copy }

    own : Follower
    own = record base { work = restoring (record r { stage = leasing a }) }
restoring_takes sessions flight count_of f base r (opening a) follower request copy =
    subst (λ (b : Bool). Takes sessions flight count_of f own (if b then restore_ended own (record r { stage = opening a }) else restore_heard own (restore_hears (record r { stage = opening a }) base.now m)))
    (sym (and_false (answers m a)))
    (on_if (λ (o : Option _). Takes sessions flight count_of f own (restore_heard own o)) (answers m a) _ _
    (λ is. record {
      quiet = refl;
      rank = rw (no_rank_for_waiting flight sessions f a (retry_time r.max_retry_delay base.now (r.retry + 1))) (two_at_most (is_opened_in_vain flight sessions f a));
      lacks = le_itself (copies_lack (count_of base.history) base.copies + 0);
      idle = le_itself (0 + length base.lease_requests);
    })
    (λ isnt. ignored_takes sessions flight count_of f own))
  where
    m : Frame
    m = record { follower = follower; request = request; content = contents.NotReady copy }

    own : Follower
    own = record base { work = restoring (record r { stage = opening a }) }
restoring_takes sessions flight count_of f base r (fetching fetch) follower request copy = by (ask_sent fetch request)
  where
    own : Follower
    own = record base { work = restoring (record r { stage = fetching fetch }) }

    by : (o : Option ChunkAsked) → Takes sessions flight count_of f own (restore_heard own (hear_asked (record r { stage = fetching fetch }) fetch (contents.NotReady copy) o))
    by None = ignored_takes sessions flight count_of f own
    by (Some a) = ignored_takes sessions flight count_of f own

work_takes : (sessions : List Session) (flight : List Frame) (count_of : List ℕ → ℕ) (f : ℕ) (base : Follower) (work : Work) (follower : List ℕ) (request copy : ℕ)
    → Takes sessions flight count_of f (record base { work = work }) (work_hears (record base { work = work }) (record { follower = follower; request = request; content = contents.NotReady copy }))
work_takes sessions flight count_of f base (restoring r) follower request copy = restoring_takes sessions flight count_of f base r r.stage follower request copy
work_takes sessions flight count_of f base (replicating t) follower request copy = by (read_sent t request)
  where
    own : Follower
    own = record base { work = replicating t }

    by : (o : Option Read) → Takes sessions flight count_of f own (task_heard own t (contents.NotReady copy) o)
    by None = ignored_takes sessions flight count_of f own
    by (Some r) = ignored_takes sessions flight count_of f own

row_takes : (sessions : List Session) (flight : List Frame) (count_of : List ℕ → ℕ) (f : ℕ) (own : Follower) (follower : List ℕ) (request copy : ℕ)
    → Takes sessions flight count_of f own (follower_receive_row own (record { follower = follower; request = request; content = contents.NotReady copy }))
unfolding follower_receive_row
row_takes sessions flight count_of f own follower request copy =
    on_if (Takes sessions flight count_of f own) (list_any (λ n. n == request) own.lease_requests) _ _
    (λ is. record {
      quiet = refl;
      rank = le_itself (rank_of flight sessions f own.work);
      lacks = le_itself (follower_lacks count_of f own);
      idle = (let less : length (filter (λ n. not (n == request)) own.lease_requests) ≤ length own.lease_requests = length-filter-le (λ n. not (n == request)) own.lease_requests in omega arith);
    })
    (λ isnt. work_takes sessions flight count_of f own own.work follower request copy)

pub refusal_delivered : (count_of : List ℕ → ℕ) (s : State) (at copy : ℕ) (picks : List ℕ) (follower : List ℕ) (request unready : ℕ)
    → slice_get s.flight at ≡ Some (record { follower = follower; request = request; content = contents.NotReady unready })
    → (copy == s.leader.copies.primary.number) ≡ true → IsLower count_of (step s (events.Deliver at copy false) picks).next s
unfolding deliver_row
refusal_delivered count_of s at copy picks follower request unready found own =
    subst (λ (o : Option Frame). IsLower count_of (deliver_row s at copy false o (copy_of s.leader.copies copy)).next s) (sym found)
    (subst (λ (o : Option Copy). IsLower count_of (deliver_row s at copy false (Some m) o).next s) (sym (primary_found s.leader.copies copy own))
    (named (follower_of s.followers follower)))
  where
    m : Frame
    m = record { follower = follower; request = request; content = contents.NotReady unready }

    at_number : (f : ℕ) (o : Option Follower) → slice_get s.followers f ≡ o → IsLower count_of (for_follower (record s { flight = remove s.flight at }) f (λ x. follower_receive_row x m) o).next s
    at_number f None there = dropped_lower count_of s at m found refl
    at_number f (Some x) there = takes_lower count_of s at m f x (follower_receive_row x m) found refl there
        (row_takes s.leader.sessions s.flight count_of f x follower request unready)

    named : (o : Option ℕ) → IsLower count_of (at_named_follower (record s { flight = remove s.flight at }) m o).next s
    named None = dropped_lower count_of s at m found refl
    named (Some f) = at_number f (slice_get s.followers f) refl
