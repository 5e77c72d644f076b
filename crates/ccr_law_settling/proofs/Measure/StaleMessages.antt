-- Settling by the delivery to a follower of a message that it doesn't wait for lowers the measure.
use Rattle.std.specs.List.{list_any}
use Rattle.std.specs.Str.{bytes_eq}
use Rattle.std.specs.Prelude.{slice_get, slice_set, remove, filter}
use Rattle.std.proofs.Common.{◌≡◌, ℕ, ◌+◌, ◌≤◌, ◌==◌, ◌&&◌, ◌||◌, not, Bool, true, false, if◌then◌else◌, inl, inr, Option, Some, None, List, [], ◌∷◌, ◌++◌, length, is_some, refl, sym, ◌∙◌, subst, arith}
use Rattle.std.proofs.lemmas.Bool.Decides.{nat_tests}
use Rattle.ccr_wire.specs.Message.{Frame, kind_of_content}
use Rattle.ccr_journal.specs.declared.events.Event.TheVariants as events
use Rattle.ccr_model.specs.Requests.{Progress, on_its_way, waiting, held_back, is_sent}
use Rattle.ccr_model.specs.Tasks.{Read, read_sent}
use Rattle.ccr_model.specs.Restores.{Restore, ChunkAsked, Stage, leasing, opening, fetching, answers, ask_sent, hear_opening, hear_asked, opens_other}
use Rattle.ccr_model.specs.Copies.{Copy, copy_of}
use Rattle.ccr_model.specs.Followers.{Follower, Work, restoring, replicating, uuid_of}
use Rattle.ccr_model.specs.FollowerRows.{ignored, restore_ended, restore_heard, task_heard, work_hears, follower_receive_row}
use Rattle.ccr_model.specs.LeaderFrames.{leader_receive}
use Rattle.ccr_model.specs.World.{State, goes_to_leader, at_leader, at_follower, for_follower, at_named_follower, follower_of, deliver_row}
use Rattle.ccr_model.specs.Step.{step}
use Rattle.ccr_model.specs.Settling.{may_be_answered}
use Rattle.ccr_law_base.proofs.Cases.{on_if}
use Rattle.ccr_law_base.proofs.Lists.{found-any, length-filter-le}
use Rattle.ccr_law_settling.specs.Measure.{total, passing, over_followers, is_idle_content, weight_of_frame, weight_of_progress, weight_of_stage, weight_of_work, rank_of, follower_lacks, old_peeks, lacking_of, IsLower}
use Rattle.ccr_law_settling.specs.Within.{stage_waits_for, waits_for, IsAwaitedByNone}
use Rattle.ccr_law_settling.proofs.Measure.Totals.{le_itself, over_set_same}
use Rattle.ccr_law_settling.proofs.Measure.Flights.{weight_fewer, work_fewer}
use Rattle.ccr_law_settling.proofs.Measure.Syncing.{carries, keeps}
use Rattle.ccr_law_settling.proofs.Measure.Waking.{waits}
use Rattle.ccr_law_settling.proofs.Measure.Taken.{total_remove, any_remove, ranks_left}
use Rattle.ccr_law_settling.proofs.Measure.Delivering.{primary_found}
use Rattle.ccr_law_settling.proofs.Measure.Gone.{over_each}
use Rattle.ccr_law_base.proofs.Tests.{or_second, and_false, or_first}
use Rattle.std.proofs.lemmas.Bool.{both_ways}
use Rattle.std.proofs.lemmas.List.{append-nil}

-- ---- what is under way, where nothing that was sent waits for the message

-- each other request that may be answered still may be
abbrev StillAnswered : ℕ → (ℕ → Bool) → (ℕ → Bool) → Type 0
StillAnswered n new old = (request : ℕ) → (n == request) ≡ false → old request ≡ true → new request ≡ true

one_unsent : (n request : ℕ) (new old : ℕ → Bool) (now : ℕ) (p : Progress) → StillAnswered n new old → ((n == request) && is_sent p) ≡ false → weight_of_progress (new request) now p ≤ weight_of_progress (old request) now p
one_unsent n request new old now on_its_way step unsent = weight_fewer (new request) (old request) now on_its_way (step request (alone (n == request) unsent))
  where
    alone : (a : Bool) → (a && true) ≡ false → a ≡ false
    alone true is = cc
    alone false is = refl
one_unsent n request new old now (waiting until) step unsent = le_itself (weight_of_progress true now (waiting until))
one_unsent n request new old now held_back step unsent = omega arith

turned : (a b : ℕ) (sent : Bool) → ((a == b) && sent) ≡ false → ((b == a) && sent) ≡ false
turned a b true is = let e : (a == b) ≡ false = alone (a == b) is in let other : (b == a) ≡ false = grind (arith, nat_tests) in rw other refl
  where
    alone : (a : Bool) → (a && true) ≡ false → a ≡ false
    alone true is = cc
    alone false is = refl
turned a b false is = and_false (b == a)

all_unsent : {X : Type 0} (request : X → ℕ) (progress : X → Progress) (n : ℕ) (new old : ℕ → Bool) (now : ℕ) (xs : List X) → StillAnswered n new old
    → list_any (λ x. (request x == n) && is_sent (progress x)) xs ≡ false
    → total (λ x. weight_of_progress (new (request x)) now (progress x)) xs ≤ total (λ x. weight_of_progress (old (request x)) now (progress x)) xs
all_unsent request progress n new old now [] step unsent = omega arith
all_unsent request progress n new old now (x ∷ xs) step unsent =
    let here : weight_of_progress (new (request x)) now (progress x) ≤ weight_of_progress (old (request x)) now (progress x)
    = one_unsent n (request x) new old now (progress x) step
    (turned (request x) n (is_sent (progress x)) (or_first ((request x == n) && is_sent (progress x)) (list_any (λ x. (request x == n) && is_sent (progress x)) xs) unsent)) in
    let rest : total (λ x. weight_of_progress (new (request x)) now (progress x)) xs ≤ total (λ x. weight_of_progress (old (request x)) now (progress x)) xs
    = all_unsent request progress n new old now xs step (or_second ((request x == n) && is_sent (progress x)) (list_any (λ x. (request x == n) && is_sent (progress x)) xs) unsent) in
    omega arith

work_unsent : (n : ℕ) (new old : ℕ → Bool) (now : ℕ) (w : Work) → StillAnswered n new old → waits_for n w ≡ false → weight_of_work new now w ≤ weight_of_work old now w
work_unsent n new old now (replicating t) step unsent =
    let reads : total (λ (r : Read). weight_of_progress (new r.request) now r.progress) t.reads ≤ total (λ (r : Read). weight_of_progress (old r.request) now r.progress) t.reads
    = all_unsent (λ (r : Read). r.request) (λ (r : Read). r.progress) n new old now t.reads step unsent in
    omega arith
work_unsent n new old now (restoring r) step unsent = by r.stage unsent
  where
    by : (stage : Stage) → stage_waits_for n stage ≡ false → weight_of_stage new now stage ≤ weight_of_stage old now stage
    by (leasing a) unsent = one_unsent n a.request new old now a.progress step unsent
    by (opening a) unsent = one_unsent n a.request new old now a.progress step unsent
    by (fetching f) unsent = all_unsent (λ (a : ChunkAsked). a.request) (λ (a : ChunkAsked). a.progress) n new old now f.asks step unsent

-- ---- the message leaves those in flight

abbrev pub left : State → ℕ → State
left s at = record s { flight = remove s.flight at }

pub still : (s : State) (at : ℕ) (m : Frame) (uuid : List ℕ) (request : ℕ) → slice_get s.flight at ≡ Some m → (bytes_eq m.follower uuid && (m.request == request)) ≡ false
    → may_be_answered s uuid request ≡ true → may_be_answered (left s at) uuid request ≡ true
still s at m uuid request found other is =
    by (carries uuid request m) (list_any (carries uuid request) s.flight) (list_any (waits uuid request) s.leader.polls) (list_any (keeps s.leader.copies.primary uuid request) s.leader.kept)
    (list_any (carries uuid request) (remove s.flight at)) (any_remove (carries uuid request) s.flight at m found) other is
  where
    by : (m flight polls kept rest : Bool) → (flight ≡ true → (m || rest) ≡ true) → m ≡ false → ((flight || polls) || kept) ≡ true → ((rest || polls) || kept) ≡ true
    by true flight polls kept rest step other is = cc
    by false flight polls kept true step other is = refl
    by false true polls kept false step other is = let e : false ≡ true = step refl in cc
    by false false polls kept false step other is = is

works_left : (s : State) (at : ℕ) (m : Frame) → slice_get s.flight at ≡ Some m → IsAwaitedByNone s m.follower m.request
    → over_followers (λ f own. weight_of_work (may_be_answered (left s at) (uuid_of f)) own.now own.work) 0 s.followers
    ≤ over_followers (λ f own. weight_of_work (may_be_answered s (uuid_of f)) own.now own.work) 0 s.followers
works_left s at m found none =
    over_each (λ f own. weight_of_work (may_be_answered (left s at) (uuid_of f)) own.now own.work) (λ f own. weight_of_work (may_be_answered s (uuid_of f)) own.now own.work) 0 s.followers
    (λ f own there. (let e : f ≡ 0 + f = omega arith in
    subst (λ n. weight_of_work (may_be_answered (left s at) (uuid_of n)) own.now own.work ≤ weight_of_work (may_be_answered s (uuid_of n)) own.now own.work) e (by f own there (bytes_eq m.follower (uuid_of f)) refl)))
  where
    by : (f : ℕ) (own : Follower) → slice_get s.followers f ≡ Some own → (b : Bool) → bytes_eq m.follower (uuid_of f) ≡ b
        → weight_of_work (may_be_answered (left s at) (uuid_of f)) own.now own.work ≤ weight_of_work (may_be_answered s (uuid_of f)) own.now own.work
    by f own there true ours = work_unsent m.request (may_be_answered (left s at) (uuid_of f)) (may_be_answered s (uuid_of f)) own.now own.work
        (λ request other is. still s at m (uuid_of f) request found (rw ours other) is) (none f own there ours)
    by f own there false ours = work_fewer (may_be_answered (left s at) (uuid_of f)) (may_be_answered s (uuid_of f)) own.now own.work
        (λ request is. still s at m (uuid_of f) request found (rw ours refl) is)

pub idle_left : (flight : List Frame) (at : ℕ) (m : Frame) → slice_get flight at ≡ Some m → passing (λ (x : Frame). is_idle_content x.content) (remove flight at) ≤ passing (λ (x : Frame). is_idle_content x.content) flight
idle_left flight at m found = no_more _ _ _ (total_remove (λ (x : Frame). if is_idle_content x.content then 1 else 0) flight at m found)
  where
    no_more : (a b one : ℕ) → a + one ≡ b → a ≤ b
    no_more a b one sum = omega arith

-- nobody takes it
left_lower : (count_of : List ℕ → ℕ) (s : State) (at : ℕ) (m : Frame) → slice_get s.flight at ≡ Some m → weight_of_frame m ≡ 1 → IsAwaitedByNone s m.follower m.request → IsLower count_of (left s at) s
left_lower count_of s at m found light none =
    inr (
      ranks_left s.flight at s.leader.sessions s.followers,
      inr (
        le_itself (lacking_of count_of s),
        inr (
          (let fewer : passing (λ (x : Frame). is_idle_content x.content) (remove s.flight at) ≤ passing (λ (x : Frame). is_idle_content x.content) s.flight = idle_left s.flight at m found in omega arith),
          inl (
              let gone : total weight_of_frame (remove s.flight at) + weight_of_frame m ≡ total weight_of_frame s.flight = total_remove weight_of_frame s.flight at m found in
              let works : over_followers (λ f own. weight_of_work (may_be_answered (left s at) (uuid_of f)) own.now own.work) 0 s.followers
              ≤ over_followers (λ f own. weight_of_work (may_be_answered s (uuid_of f)) own.now own.work) 0 s.followers = works_left s at m found none in
              omega arith
              ),
        ),
      ),
    )

-- a follower takes it, and has no more lease requests than before
stale_lower : (count_of : List ℕ → ℕ) (s : State) (at : ℕ) (m : Frame) (f : ℕ) (own : Follower) (requests : List ℕ) → slice_get s.flight at ≡ Some m → weight_of_frame m ≡ 1 → slice_get s.followers f ≡ Some own
    → IsAwaitedByNone s m.follower m.request → length requests ≤ length own.lease_requests
    → IsLower count_of (record s { followers = slice_set s.followers f (record own { lease_requests = requests }); flight = remove s.flight at ++ [] }) s
stale_lower count_of s at m f own requests found light there none few =
    subst (λ (flight : List Frame). IsLower count_of (record s { followers = slice_set s.followers f new; flight = flight }) s) (sym (append-nil (remove s.flight at)))
    (inr (
      (let left : over_followers (λ f own. rank_of (remove s.flight at) s.leader.sessions f own.work) 0 (slice_set s.followers f new)
          ≤ over_followers (λ f own. rank_of s.flight s.leader.sessions f own.work) 0 (slice_set s.followers f new)
          = ranks_left s.flight at s.leader.sessions (slice_set s.followers f new) in
          let set : over_followers (λ f own. rank_of s.flight s.leader.sessions f own.work) 0 (slice_set s.followers f new)
          ≤ over_followers (λ f own. rank_of s.flight s.leader.sessions f own.work) 0 s.followers
          = over_set_same (λ f own. rank_of s.flight s.leader.sessions f own.work) f own new s.followers there (le_itself (rank_of s.flight s.leader.sessions f own.work)) in
          omega arith),
      inr (
        (let le : over_followers (follower_lacks count_of) 0 (slice_set s.followers f new) ≤ over_followers (follower_lacks count_of) 0 s.followers
            = over_set_same (follower_lacks count_of) f own new s.followers there (le_itself (follower_lacks count_of f own)) in
            omega arith),
        inr (
          (let fewer : passing (λ (x : Frame). is_idle_content x.content) (remove s.flight at) ≤ passing (λ (x : Frame). is_idle_content x.content) s.flight = idle_left s.flight at m found in
              let le : over_followers (λ f own. old_peeks own.work + length own.lease_requests) 0 (slice_set s.followers f new) ≤ over_followers (λ f own. old_peeks own.work + length own.lease_requests) 0 s.followers
              = over_set_same (λ f own. old_peeks own.work + length own.lease_requests) f own new s.followers there (omega arith) in
              omega arith),
          inl (
              let gone : total weight_of_frame (remove s.flight at) + weight_of_frame m ≡ total weight_of_frame s.flight = total_remove weight_of_frame s.flight at m found in
              let set : over_followers (λ f own. weight_of_work (may_be_answered (left s at) (uuid_of f)) own.now own.work) 0 (slice_set s.followers f new)
              ≤ over_followers (λ f own. weight_of_work (may_be_answered (left s at) (uuid_of f)) own.now own.work) 0 s.followers
              = over_set_same (λ f own. weight_of_work (may_be_answered (left s at) (uuid_of f)) own.now own.work) f own new s.followers there
              (le_itself (weight_of_work (may_be_answered (left s at) (uuid_of f)) own.now own.work)) in
              let works : over_followers (λ f own. weight_of_work (may_be_answered (left s at) (uuid_of f)) own.now own.work) 0 s.followers
              ≤ over_followers (λ f own. weight_of_work (may_be_answered s (uuid_of f)) own.now own.work) 0 s.followers = works_left s at m found none in
              omega arith
              ),
        ),
      ),
    ))
  where
    new : Follower
    new = record own { lease_requests = requests }

-- ---- the message is delivered

-- what the work makes of it, where it doesn't wait for it: nothing
work_ignores : (P : _ → Type 0) (base : Follower) (m : Frame) (w : Work) → waits_for m.request w ≡ false → P (ignored (record base { work = w })) → P (work_hears (record base { work = w }) m)
work_ignores P base m (replicating t) unsent is = by (read_sent t m.request) (found-any (λ (r : Read). (r.request == m.request) && is_sent r.progress) t.reads ∙ unsent)
  where
    by : (o : Option Read) → is_some o ≡ false → P (task_heard (record base { work = replicating t }) t m.content o)
    by None isnt = is
    by (Some r) isnt = cc
work_ignores P base m (restoring r) unsent is = by r.stage unsent is
  where
    by : (stage : Stage) → stage_waits_for m.request stage ≡ false → P (ignored (record base { work = restoring (record r { stage = stage }) }))
        → P (work_hears (record base { work = restoring (record r { stage = stage }) }) m)
    by (leasing a) unsent is = on_if (λ (o : Option _). P (restore_heard (record base { work = restoring (record r { stage = leasing a }) }) o)) (answers m a) _ _
        (λ yes. absurd (both_ways (answers m a) unsent yes)) (λ no. is)
    by (opening a) unsent is =
        let opens : Restore = record r { stage = opening a } in
        let own : Follower = record base { work = restoring opens } in
        subst (λ (b : Bool). P (if b && opens_other r.history m.content then restore_ended own opens else restore_heard own (if b then hear_opening opens base.now m.request m.content else None))) (sym unsent) is
    by (fetching f) unsent is = asked (ask_sent f m.request) (found-any (λ (a : ChunkAsked). (a.request == m.request) && is_sent a.progress) f.asks ∙ unsent)
      where
        asked : (o : Option ChunkAsked) → is_some o ≡ false
            → P (restore_heard (record base { work = restoring (record r { stage = fetching f }) }) (hear_asked (record r { stage = fetching f }) f m.content o))
        asked None isnt = is
        asked (Some a) isnt = cc

row_lower : (count_of : List ℕ → ℕ) (s : State) (at : ℕ) (m : Frame) (f : ℕ) (own : Follower) → slice_get s.flight at ≡ Some m → weight_of_frame m ≡ 1 → slice_get s.followers f ≡ Some own
    → IsAwaitedByNone s m.follower m.request → waits_for m.request own.work ≡ false → IsLower count_of (at_follower (left s at) f (follower_receive_row own m)).next s
unfolding follower_receive_row
row_lower count_of s at m f own found light there none unsent =
    on_if (λ (o : _). IsLower count_of (at_follower (left s at) f o).next s) (list_any (λ n. n == m.request) own.lease_requests) _ _
    (λ is. stale_lower count_of s at m f own (filter (λ n. not (n == m.request)) own.lease_requests) found light there none (length-filter-le (λ n. not (n == m.request)) own.lease_requests))
    (λ isnt. work_ignores (λ o. IsLower count_of (at_follower (left s at) f o).next s) own m own.work unsent
    (stale_lower count_of s at m f own own.lease_requests found light there none (le_itself (length own.lease_requests))))

pub stale_delivered : (count_of : List ℕ → ℕ) (s : State) (at copy : ℕ) (picks : List ℕ) (m : Frame) → slice_get s.flight at ≡ Some m → goes_to_leader (kind_of_content m.content) ≡ false
    → IsAwaitedByNone s m.follower m.request → ((f : ℕ) → follower_of s.followers m.follower ≡ Some f → bytes_eq m.follower (uuid_of f) ≡ true)
    → (copy == s.leader.copies.primary.number) ≡ true → IsLower count_of (step s (events.Deliver at copy false) picks).next s
unfolding deliver_row
stale_delivered count_of s at copy picks m found goes none named own =
    subst (λ (o : Option Frame). IsLower count_of (deliver_row s at copy false o (copy_of s.leader.copies copy)).next s) (sym found)
    (subst (λ (o : Option Copy). IsLower count_of (deliver_row s at copy false (Some m) o).next s) (sym (primary_found s.leader.copies copy own))
    (subst (λ (b : Bool). IsLower count_of (if b then at_leader (left s at) (leader_receive s.leader copy m) else at_named_follower (left s at) m (follower_of s.followers m.follower)).next s) (sym goes)
    (to (follower_of s.followers m.follower) refl)))
  where
    light : weight_of_frame m ≡ 1
    light = rw goes refl

    at_number : (f : ℕ) → bytes_eq m.follower (uuid_of f) ≡ true → (o : Option Follower) → slice_get s.followers f ≡ o → IsLower count_of (for_follower (left s at) f (λ x. follower_receive_row x m) o).next s
    at_number f ours None there = left_lower count_of s at m found light none
    at_number f ours (Some x) there = row_lower count_of s at m f x found light there none (none f x there ours)

    to : (o : Option ℕ) → follower_of s.followers m.follower ≡ o → IsLower count_of (at_named_follower (left s at) m o).next s
    to None is = left_lower count_of s at m found light none
    to (Some f) is = at_number f (named f is) (slice_get s.followers f) refl
