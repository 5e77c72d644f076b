-- A follower takes a message: where its rank falls, where it lacks less, and where a request for a lease ends, the measure is lower.
use Rattle.std.specs.List.{AllByRecursion, list_any}
use Rattle.std.specs.Prelude.{slice_get, slice_set, remove, filter}
use Rattle.std.proofs.Common.{◌≡◌, ℕ, ◌+◌, ◌≤◌, ◌<◌, ◌==◌, ◌||◌, not, Bool, true, false, if◌then◌else◌, inl, inr, Option, Some, List, [], ◌∷◌, ◌++◌, length, sym, subst, arith}
use Rattle.ccr_wire.specs.Message.{Frame, kind_of_content}
use Rattle.ccr_journal.specs.declared.events.Event.TheVariants as events
use Rattle.ccr_model.specs.Outcomes.{Outcome}
use Rattle.ccr_model.specs.Copies.{Copy, copy_of}
use Rattle.ccr_model.specs.Followers.{Follower}
use Rattle.ccr_model.specs.FollowerRows.{work_hears, follower_receive_row}
use Rattle.ccr_model.specs.LeaderFrames.{leader_receive}
use Rattle.ccr_model.specs.World.{State, goes_to_leader, at_leader, at_follower, for_follower, at_named_follower, follower_of, deliver_row}
use Rattle.ccr_model.specs.Step.{step}
use Rattle.ccr_law_base.proofs.Cases.{on_if}
use Rattle.ccr_law_settling.specs.Measure.{over_followers, is_idle_content, rank_of, follower_lacks, old_peeks, IsLower}
use Rattle.ccr_law_settling.proofs.Measure.Totals.{le_itself, over_set_same, over_set_less}
use Rattle.ccr_law_settling.proofs.Measure.Flights.{IsPlain, ranks_more}
use Rattle.ccr_law_settling.proofs.Measure.Taken.{total_remove, ranks_left}
use Rattle.ccr_law_settling.proofs.Measure.Delivering.{primary_found}
use Rattle.ccr_law_settling.proofs.Measure.StaleMessages.{left}
use Rattle.std.proofs.lemmas.List.{append-nil}
use Rattle.ccr_law_base.proofs.Lists.{length-filter-le}

-- ---- a lower rank

pub rank_lower : (count_of : List ℕ → ℕ) (s : State) (at f : ℕ) (own new : Follower) (sent : List Frame) → slice_get s.followers f ≡ Some own → AllByRecursion (IsPlain s.leader.sessions) sent
    → rank_of s.flight s.leader.sessions f new.work < rank_of s.flight s.leader.sessions f own.work
    → IsLower count_of (record s { followers = slice_set s.followers f new; flight = remove s.flight at ++ sent }) s
rank_lower count_of s at f own new sent there plain less = inl (
    let more : over_followers (λ f own. rank_of (remove s.flight at ++ sent) s.leader.sessions f own.work) 0 (slice_set s.followers f new)
    ≤ over_followers (λ f own. rank_of (remove s.flight at) s.leader.sessions f own.work) 0 (slice_set s.followers f new)
    = ranks_more (remove s.flight at) sent s.leader.sessions (slice_set s.followers f new) plain in
    let left : over_followers (λ f own. rank_of (remove s.flight at) s.leader.sessions f own.work) 0 (slice_set s.followers f new)
    ≤ over_followers (λ f own. rank_of s.flight s.leader.sessions f own.work) 0 (slice_set s.followers f new)
    = ranks_left s.flight at s.leader.sessions (slice_set s.followers f new) in
    let set : over_followers (λ f own. rank_of s.flight s.leader.sessions f own.work) 0 (slice_set s.followers f new)
    < over_followers (λ f own. rank_of s.flight s.leader.sessions f own.work) 0 s.followers
    = over_set_less (λ f own. rank_of s.flight s.leader.sessions f own.work) f own new s.followers there less in
    omega arith)

-- ---- less is lacking

-- a follower of no higher rank lacks less
pub lacking_lower : (count_of : List ℕ → ℕ) (s : State) (at f : ℕ) (own new : Follower) (sent : List Frame) → slice_get s.followers f ≡ Some own → AllByRecursion (IsPlain s.leader.sessions) sent
    → rank_of s.flight s.leader.sessions f new.work ≤ rank_of s.flight s.leader.sessions f own.work
    → follower_lacks count_of f new < follower_lacks count_of f own
    → IsLower count_of (record s { followers = slice_set s.followers f new; flight = remove s.flight at ++ sent }) s
lacking_lower count_of s at f own new sent there plain rank less = inr (
  (let more : over_followers (λ f own. rank_of (remove s.flight at ++ sent) s.leader.sessions f own.work) 0 (slice_set s.followers f new)
      ≤ over_followers (λ f own. rank_of (remove s.flight at) s.leader.sessions f own.work) 0 (slice_set s.followers f new)
      = ranks_more (remove s.flight at) sent s.leader.sessions (slice_set s.followers f new) plain in
      let left : over_followers (λ f own. rank_of (remove s.flight at) s.leader.sessions f own.work) 0 (slice_set s.followers f new)
      ≤ over_followers (λ f own. rank_of s.flight s.leader.sessions f own.work) 0 (slice_set s.followers f new)
      = ranks_left s.flight at s.leader.sessions (slice_set s.followers f new) in
      let set : over_followers (λ f own. rank_of s.flight s.leader.sessions f own.work) 0 (slice_set s.followers f new)
      ≤ over_followers (λ f own. rank_of s.flight s.leader.sessions f own.work) 0 s.followers
      = over_set_same (λ f own. rank_of s.flight s.leader.sessions f own.work) f own new s.followers there rank in
      omega arith),
  inl (let fewer : over_followers (follower_lacks count_of) 0 (slice_set s.followers f new) < over_followers (follower_lacks count_of) 0 s.followers
      = over_set_less (follower_lacks count_of) f own new s.followers there less in
      omega arith),
)

-- ---- a lease request that ends

one_ends : (n : ℕ) (requests : List ℕ) → list_any (λ k. k == n) requests ≡ true → length (filter (λ k. not (k == n)) requests) < length requests
one_ends n [] any = cc
one_ends n (k ∷ requests) any =
    (elim (k == n) as (λ b. (b || list_any (λ k. k == n) requests) ≡ true → length (if not b then k ∷ filter (λ k. not (k == n)) requests else filter (λ k. not (k == n)) requests) < length (k ∷ requests)) [
      | true ↦ λ is. (let few : length (filter (λ k. not (k == n)) requests) ≤ length requests = length-filter-le (λ k. not (k == n)) requests in omega arith)
      | false ↦ λ later. (let rest : length (filter (λ k. not (k == n)) requests) < length requests = one_ends n requests later in omega arith)
    ]) any

ends_lower : (count_of : List ℕ → ℕ) (s : State) (at : ℕ) (m : Frame) (f : ℕ) (own : Follower) (requests : List ℕ) → slice_get s.flight at ≡ Some m → slice_get s.followers f ≡ Some own
    → length requests < length own.lease_requests
    → IsLower count_of (record s { followers = slice_set s.followers f (record own { lease_requests = requests }); flight = remove s.flight at ++ [] }) s
ends_lower count_of s at m f own requests found there few =
    subst (λ (flight : List Frame). IsLower count_of (record s { followers = slice_set s.followers f new; flight = flight }) s) (sym (append-nil (remove s.flight at)))
    (inr (
      (let left : over_followers (λ f own. rank_of (remove s.flight at) s.leader.sessions f own.work) 0 (slice_set s.followers f new)
          ≤ over_followers (λ f own. rank_of s.flight s.leader.sessions f own.work) 0 (slice_set s.followers f new)
          = ranks_left s.flight at s.leader.sessions (slice_set s.followers f new) in
          let set : over_followers (λ f own. rank_of s.flight s.leader.sessions f own.work) 0 (slice_set s.followers f new)
          ≤ over_followers (λ f own. rank_of s.flight s.leader.sessions f own.work) 0 s.followers
          = over_set_same (λ f own. rank_of s.flight s.leader.sessions f own.work) f own new s.followers there (le_itself (rank_of s.flight s.leader.sessions f own.work)) in
          omega arith),
      inr (
        (let le : over_followers (follower_lacks count_of) 0 (slice_set s.followers f new) ≤ over_followers (follower_lacks count_of) 0 s.followers
            = over_set_same (follower_lacks count_of) f own new s.followers there (le_itself (follower_lacks count_of f own)) in
            omega arith),
        inl (both _ _ _ _ _ (total_remove (λ (x : Frame). if is_idle_content x.content then 1 else 0) s.flight at m found)
            (over_set_less (λ f own. old_peeks own.work + length own.lease_requests) f own new s.followers there (omega arith))),
      ),
    ))
  where
    new : Follower
    new = record own { lease_requests = requests }

    both : (a b one c d : ℕ) → a + one ≡ b → c < d → a + c < b + d
    both a b one c d sum lt = omega arith

-- ---- the message is delivered

-- it ends a request for a lease, or it is for the follower's work
row_lower : (count_of : List ℕ → ℕ) (s : State) (at : ℕ) (m : Frame) (f : ℕ) (own : Follower) → slice_get s.flight at ≡ Some m → slice_get s.followers f ≡ Some own
    → IsLower count_of (at_follower (left s at) f (work_hears own m)).next s → IsLower count_of (at_follower (left s at) f (follower_receive_row own m)).next s
unfolding follower_receive_row
row_lower count_of s at m f own found there lower =
    on_if (λ (o : Outcome Follower). IsLower count_of (at_follower (left s at) f o).next s) (list_any (λ n. n == m.request) own.lease_requests) _ _
    (λ is. ends_lower count_of s at m f own (filter (λ n. not (n == m.request)) own.lease_requests) found there (one_ends m.request own.lease_requests is))
    (λ isnt. lower)

pub hearing_delivered : (count_of : List ℕ → ℕ) (s : State) (at copy : ℕ) (picks : List ℕ) (m : Frame) (f : ℕ) (own : Follower) → slice_get s.flight at ≡ Some m → goes_to_leader (kind_of_content m.content) ≡ false
    → follower_of s.followers m.follower ≡ Some f → slice_get s.followers f ≡ Some own → IsLower count_of (at_follower (left s at) f (work_hears own m)).next s
    → (copy == s.leader.copies.primary.number) ≡ true → IsLower count_of (step s (events.Deliver at copy false) picks).next s
unfolding deliver_row
hearing_delivered count_of s at copy picks m f own found goes named there lower primary =
    subst (λ (o : Option Frame). IsLower count_of (deliver_row s at copy false o (copy_of s.leader.copies copy)).next s) (sym found)
    (subst (λ (o : Option Copy). IsLower count_of (deliver_row s at copy false (Some m) o).next s) (sym (primary_found s.leader.copies copy primary))
    (subst (λ (b : Bool). IsLower count_of (if b then at_leader (left s at) (leader_receive s.leader copy m) else at_named_follower (left s at) m (follower_of s.followers m.follower)).next s) (sym goes)
    (subst (λ (o : Option ℕ). IsLower count_of (at_named_follower (left s at) m o).next s) (sym named)
    (subst (λ (o : Option Follower). IsLower count_of (for_follower (left s at) f (λ x. follower_receive_row x m) o).next s) (sym there)
    (row_lower count_of s at m f own found there lower)))))
