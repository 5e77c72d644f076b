-- Settling by the delivery of an answer to a read that stops the task lowers the measure.
use Rattle.std.specs.Str.{bytes_eq}
use Rattle.std.specs.Prelude.{slice_get, slice_set, remove}
use Rattle.std.proofs.Common.{◌≡◌, inl, inr, ℕ, ◌+◌, ◌≤◌, ◌==◌, Bool, true, false, Some, List, [], ◌++◌, length, refl, sym, ◌∙◌, subst, arith}
use Rattle.std.proofs.lemmas.Bool.Decides.{nat_tests}
use Rattle.ccr_wire.specs.Message.{Frame}
use Rattle.ccr_journal.specs.declared.sides.Phase.{Phase}
use Rattle.ccr_model.specs.Tasks.{Task, stopped}
use Rattle.ccr_model.specs.Followers.{Follower, Work, replicating, uuid_of}
use Rattle.ccr_model.specs.FollowerRows.{with_task}
use Rattle.ccr_model.specs.World.{State}
use Rattle.ccr_model.specs.Settling.{may_be_answered}
use Rattle.ccr_law_base.proofs.Lists.{some_equal, set-other, set-same}
use Rattle.ccr_law_settling.specs.Measure.{total, passing, over_followers, is_idle_content, weight_of_frame, weight_of_work, rank_of, task_lacks, work_lacks, follower_lacks, old_peeks, IsLower}
use Rattle.ccr_law_settling.proofs.Measure.Totals.{le_itself, over_set_same}
use Rattle.ccr_law_settling.proofs.Measure.Flights.{work_fewer}
use Rattle.ccr_law_settling.proofs.Measure.Taken.{total_remove, ranks_left}
use Rattle.ccr_law_settling.proofs.Measure.Gone.{over_each}
use Rattle.ccr_law_settling.proofs.Measure.StaleMessages.{left, still, idle_left}
use Rattle.std.proofs.lemmas.List.{append-nil}

-- the message names this follower alone
abbrev pub NamesAlone : State → Frame → ℕ → Type 0
NamesAlone s m f = (g : ℕ) (x : Follower) → slice_get s.followers g ≡ Some x → bytes_eq m.follower (uuid_of g) ≡ true → g ≡ f

-- no request of the follower waits for an answer any more, and those of the others wait for other messages
works_stop : (s : State) (at : ℕ) (m : Frame) (f : ℕ) (own : Follower) (t : Task) (phase : Phase) → slice_get s.flight at ≡ Some m → slice_get s.followers f ≡ Some own → own.work ≡ replicating t → NamesAlone s m f
    → over_followers (λ g x. weight_of_work (may_be_answered (left s at) (uuid_of g)) x.now x.work) 0 (slice_set s.followers f (with_task own (stopped phase (record t { retry = 0 }))))
    ≤ over_followers (λ g x. weight_of_work (may_be_answered s (uuid_of g)) x.now x.work) 0 s.followers
works_stop s at m f own t phase found there works alone =
    le_then _ _ _
    (over_each (λ g x. weight_of_work (may_be_answered (left s at) (uuid_of g)) x.now x.work) (λ g x. weight_of_work (may_be_answered s (uuid_of g)) x.now x.work) 0 (slice_set s.followers f new)
    (λ g x at_g. (let e : g ≡ 0 + g = omega arith in
    subst (λ n. weight_of_work (may_be_answered (left s at) (uuid_of n)) x.now x.work ≤ weight_of_work (may_be_answered s (uuid_of n)) x.now x.work) e (by g x at_g (f == g) refl))))
    (over_set_same (λ g x. weight_of_work (may_be_answered s (uuid_of g)) x.now x.work) f own new s.followers there
    (subst (λ (w : Work). weight_of_work (may_be_answered s (uuid_of f)) own.now new.work ≤ weight_of_work (may_be_answered s (uuid_of f)) own.now w) (sym works) (omega arith)))
  where
    new : Follower
    new = with_task own (stopped phase (record t { retry = 0 }))

    le_then : (a b c : ℕ) → a ≤ b → b ≤ c → a ≤ c
    le_then a b c le more = omega arith

    lighter : ℕ → Follower → Type 0
    lighter g x = weight_of_work (may_be_answered (left s at) (uuid_of g)) x.now x.work ≤ weight_of_work (may_be_answered s (uuid_of g)) x.now x.work

    other : (g : ℕ) (x : Follower) → slice_get s.followers g ≡ Some x → (f == g) ≡ false → (b : Bool) → bytes_eq m.follower (uuid_of g) ≡ b → lighter g x
    other g x at_g apart true theirs = (let same : g ≡ f = alone g x at_g theirs in let is : (f == g) ≡ true = grind (arith, nat_tests) in cc)
    other g x at_g apart false theirs = work_fewer (may_be_answered (left s at) (uuid_of g)) (may_be_answered s (uuid_of g)) x.now x.work (λ request is. still s at m (uuid_of g) request found (rw theirs refl) is)

    by : (g : ℕ) (x : Follower) → slice_get (slice_set s.followers f new) g ≡ Some x → (b : Bool) → (f == g) ≡ b → lighter g x
    by g x at_g true is =
        let same : f ≡ g = grind (arith, nat_tests) in
        let it : new ≡ x = some_equal new x (sym (subst (λ n. slice_get (slice_set s.followers f new) n ≡ Some new) same (set-same s.followers f own new there)) ∙ at_g) in
        subst (lighter g) it (le_itself (weight_of_work (may_be_answered s (uuid_of g)) new.now new.work))
    by g x at_g false isnt = other g x (sym (set-other s.followers f g new isnt) ∙ at_g) isnt (bytes_eq m.follower (uuid_of g)) refl

-- a message that stops the task
pub stop_lower : (count_of : List ℕ → ℕ) (s : State) (at : ℕ) (m : Frame) (f : ℕ) (own : Follower) (t : Task) (phase : Phase) → slice_get s.flight at ≡ Some m → weight_of_frame m ≡ 1 → slice_get s.followers f ≡ Some own
    → own.work ≡ replicating t → NamesAlone s m f
    → IsLower count_of (record s { followers = slice_set s.followers f (with_task own (stopped phase (record t { retry = 0 }))); flight = remove s.flight at ++ [] }) s
stop_lower count_of s at m f own t phase found light there works alone =
    subst (λ (flight : List Frame). IsLower count_of (record s { followers = slice_set s.followers f new; flight = flight }) s) (sym (append-nil (remove s.flight at)))
    (inr (
      (let fewer : over_followers (λ f own. rank_of (remove s.flight at) s.leader.sessions f own.work) 0 (slice_set s.followers f new)
          ≤ over_followers (λ f own. rank_of s.flight s.leader.sessions f own.work) 0 (slice_set s.followers f new)
          = ranks_left s.flight at s.leader.sessions (slice_set s.followers f new) in
          let set : over_followers (λ f own. rank_of s.flight s.leader.sessions f own.work) 0 (slice_set s.followers f new)
          ≤ over_followers (λ f own. rank_of s.flight s.leader.sessions f own.work) 0 s.followers
          = over_set_same (λ f own. rank_of s.flight s.leader.sessions f own.work) f own new s.followers there (omega arith) in
          omega arith),
      inr (
        plus _ _ _ (over_set_same (follower_lacks count_of) f own new s.followers there (plus _ _ _ (subst (λ (w : Work). task_lacks count stops ≤ work_lacks count w) (sym works) (omega arith)))),
        inr (
          (let fewer : passing (λ (x : Frame). is_idle_content x.content) (remove s.flight at) ≤ passing (λ (x : Frame). is_idle_content x.content) s.flight = idle_left s.flight at m found in
              let le : over_followers (λ f own. old_peeks own.work + length own.lease_requests) 0 (slice_set s.followers f new) ≤ over_followers (λ f own. old_peeks own.work + length own.lease_requests) 0 s.followers
              = over_set_same (λ f own. old_peeks own.work + length own.lease_requests) f own new s.followers there (omega arith) in
              omega arith),
          inl (
              let gone : total weight_of_frame (remove s.flight at) + weight_of_frame m ≡ total weight_of_frame s.flight = total_remove weight_of_frame s.flight at m found in
              let all : over_followers (λ f own. weight_of_work (may_be_answered (left s at) (uuid_of f)) own.now own.work) 0 (slice_set s.followers f new)
              ≤ over_followers (λ f own. weight_of_work (may_be_answered s (uuid_of f)) own.now own.work) 0 s.followers = works_stop s at m f own t phase found there works alone in
              omega arith
              ),
        ),
      ),
    ))
  where
    count : ℕ
    count = count_of own.history

    stops : Task
    stops = stopped phase (record t { retry = 0 })

    new : Follower
    new = with_task own stops

    plus : (copies a b : ℕ) → a ≤ b → copies + a ≤ copies + b
    plus copies a b le = omega arith
