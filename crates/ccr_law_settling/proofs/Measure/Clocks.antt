-- Settling by a follower's clock lowers the measure.
use Rattle.std.specs.List.{list_any, filter_map}
use Rattle.std.specs.Prelude.{slice_get, slice_set}
use Rattle.std.specs.Option.{option_map_or}
use Rattle.std.proofs.Common.{◌≡◌, ℕ, ◌+◌, ◌<◌, ◌≤◌, ◌==◌, ◌||◌, min, Bool, true, false, nat_le, if◌then◌else◌, inr, inl, Option, Some, None, List, [], ◌∷◌, ◌++◌, length, map, refl, sym, ◌∙◌, ap, subst, arith}
use Rattle.std.proofs.lemmas.Bool.Decides.{nat_tests}
use Rattle.std.proofs.lemmas.List.Folds.{list_any-append}
use Rattle.ccr_wire.specs.Message.{Frame}
use Rattle.ccr_journal.specs.declared.sides.Side.TheVariants as sides
use Rattle.ccr_journal.specs.declared.events.Event.TheVariants as events
use Rattle.ccr_model.specs.Requests.{Progress, on_its_way, waiting, held_back, is_due}
use Rattle.ccr_model.specs.Tasks.{Read, Write, may_read}
use Rattle.ccr_model.specs.Restores.{Stage, leasing, opening, fetching, ChunkAsked}
use Rattle.ccr_model.specs.Followers.{Follower, Work, restoring, replicating, uuid_of}
use Rattle.ccr_model.specs.FollowerRows.{follower_clock_row}
use Rattle.ccr_model.specs.World.{State, for_follower, at_follower}
use Rattle.ccr_model.specs.Step.{step}
use Rattle.ccr_model.specs.Settling.{time_of, least_of, waits_in, waits_in_stage, waits_until, may_tick, may_be_answered, MaySetClock}
use Rattle.ccr_law_base.proofs.Cases.{on_if}
use Rattle.ccr_law_settling.specs.Measure.{total, over_followers, rank_of, follower_lacks, old_peeks, weight_of_progress, weight_of_stage, weight_of_work, IsLower}
use Rattle.ccr_law_settling.proofs.Measure.Totals.{le_itself, over_set_same, over_set_less}
use Rattle.std.proofs.lemmas.List.{append-nil}
use Rattle.ccr_law_base.proofs.Tests.{or_first, or_second}

-- it waits until this time
abbrev is_at : ℕ → Progress → Bool
is_at n on_its_way = false
is_at n (waiting until) = until == n
is_at n held_back = false

same : (a b : ℕ) → Some a ≡ Some b → a ≡ b
same a b e = cc

-- the least time is one of those until which something waits
least_is_at : (ps : List Progress) (n : ℕ) → least_of (filter_map time_of ps) ≡ Some n → list_any (is_at n) ps ≡ true
least_is_at [] n least = cc
least_is_at (on_its_way ∷ ps) n least = least_is_at ps n least
least_is_at (held_back ∷ ps) n least = least_is_at ps n least
least_is_at (waiting until ∷ ps) n least = by (least_of (filter_map time_of ps)) (λ m. least_is_at ps m) least
  where
    by : (o : Option ℕ) → ((m : ℕ) → o ≡ Some m → list_any (is_at m) ps ≡ true) → Some (option_map_or (λ m. min until m) o until) ≡ Some n
        → ((until == n) || list_any (is_at n) ps) ≡ true
    by None later least =
        let e : until ≡ n = same until n least in
        let is : (until == n) ≡ true = grind (arith, nat_tests) in
        rw is refl
    by (Some m) later least =
        let e : min until m ≡ n = same (min until m) n least in
        (elim (until == n) as (λ b. (until == n) ≡ b → (b || list_any (is_at n) ps) ≡ true) [
          | true ↦ λ is. refl
          | false ↦ λ isnt. (let at : m ≡ n = grind (arith, nat_tests) in subst (λ k. list_any (is_at k) ps ≡ true) at (later m refl))
        ]) refl

-- a time until which something waits that isn't due is later
not_due_later : (ps : List Progress) (now n : ℕ) → list_any (is_due now) ps ≡ false → list_any (is_at n) ps ≡ true → now < n
not_due_later [] now n none is = cc
not_due_later (on_its_way ∷ ps) now n none is = not_due_later ps now n none is
not_due_later (held_back ∷ ps) now n none is = not_due_later ps now n none is
not_due_later (waiting until ∷ ps) now n none is =
    (elim (until == n) as (λ b. (until == n) ≡ b → (b || list_any (is_at n) ps) ≡ true → now < n) [
      | true ↦ λ at any. (let first : nat_le until now ≡ false = or_first (nat_le until now) (list_any (is_due now) ps) none in grind (arith, nat_tests))
      | false ↦ λ other any. not_due_later ps now n (or_second (nat_le until now) (list_any (is_due now) ps) none) any
    ]) refl is

-- a later time lowers what waits
later_no_more : (may : Bool) (now n : ℕ) (p : Progress) → now ≤ n → weight_of_progress may n p ≤ weight_of_progress may now p
later_no_more may now n on_its_way le = omega arith
later_no_more may now n held_back le = omega arith
later_no_more may now n (waiting until) le =
    (elim (nat_le until n) as (λ b. nat_le until n ≡ b → (if b then 4 else 5) ≤ (if nat_le until now then 4 else 5)) [
      | true ↦ λ is. on_if (λ (w : ℕ). 4 ≤ w) (nat_le until now) 4 5 (λ due. omega arith) (λ not_due. omega arith)
      | false ↦ λ isnt. (let not_due : nat_le until now ≡ false = grind (arith, nat_tests) in rw not_due (omega arith))
    ]) refl

later_less : (may : Bool) (now n : ℕ) (p : Progress) → now < n → is_at n p ≡ true → weight_of_progress may n p < weight_of_progress may now p
later_less may now n on_its_way lt is = cc
later_less may now n held_back lt is = cc
later_less may now n (waiting until) lt is =
    let due : nat_le until n ≡ true = grind (arith, nat_tests) in
    let not_due : nat_le until now ≡ false = grind (arith, nat_tests) in
    rw due (rw not_due (omega arith))

-- the same over a list
all_no_more : {X : Type 0} (may : X → Bool) (progress : X → Progress) (now n : ℕ) → now ≤ n → (xs : List X)
    → total (λ x. weight_of_progress (may x) n (progress x)) xs ≤ total (λ x. weight_of_progress (may x) now (progress x)) xs
all_no_more may progress now n le [] = omega arith
all_no_more may progress now n le (x ∷ xs) =
    let here : weight_of_progress (may x) n (progress x) ≤ weight_of_progress (may x) now (progress x) = later_no_more (may x) now n (progress x) le in
    let rest : total (λ x. weight_of_progress (may x) n (progress x)) xs ≤ total (λ x. weight_of_progress (may x) now (progress x)) xs = all_no_more may progress now n le xs in
    omega arith

all_less : {X : Type 0} (may : X → Bool) (progress : X → Progress) (now n : ℕ) → now < n → (xs : List X) → list_any (is_at n) (map progress xs) ≡ true
    → total (λ x. weight_of_progress (may x) n (progress x)) xs < total (λ x. weight_of_progress (may x) now (progress x)) xs
all_less may progress now n lt [] any = cc
all_less may progress now n lt (x ∷ xs) any =
    (elim (is_at n (progress x)) as (λ b. is_at n (progress x) ≡ b → (b || list_any (is_at n) (map progress xs)) ≡ true
    → weight_of_progress (may x) n (progress x) + total (λ x. weight_of_progress (may x) n (progress x)) xs < weight_of_progress (may x) now (progress x) + total (λ x. weight_of_progress (may x) now (progress x)) xs) [
      | true ↦ λ is later.
          (let here : weight_of_progress (may x) n (progress x) < weight_of_progress (may x) now (progress x) = later_less (may x) now n (progress x) lt is in
          let rest : total (λ x. weight_of_progress (may x) n (progress x)) xs ≤ total (λ x. weight_of_progress (may x) now (progress x)) xs = all_no_more may progress now n (omega arith) xs in
          omega arith)
      | false ↦ λ isnt later.
          (let here : weight_of_progress (may x) n (progress x) ≤ weight_of_progress (may x) now (progress x) = later_no_more (may x) now n (progress x) (omega arith) in
          let rest : total (λ x. weight_of_progress (may x) n (progress x)) xs < total (λ x. weight_of_progress (may x) now (progress x)) xs = all_less may progress now n lt xs later in
          omega arith)
    ]) refl any

one_less : (may : Bool) (now n : ℕ) (p : Progress) → now < n → (is_at n p || false) ≡ true → weight_of_progress may n p < weight_of_progress may now p
one_less may now n p lt is = later_less may now n p lt (alone (is_at n p) is)
  where
    alone : (a : Bool) → (a || false) ≡ true → a ≡ true
    alone true is = refl
    alone false is = cc

work_less : (may : ℕ → Bool) (now n : ℕ) (w : Work) → now < n → list_any (is_at n) (waits_in w) ≡ true → weight_of_work may n w < weight_of_work may now w
work_less may now n (restoring r) lt any = by r.stage any
  where
    by : (stage : Stage) → list_any (is_at n) (waits_in_stage stage) ≡ true → weight_of_stage may n stage < weight_of_stage may now stage
    by (leasing a) any = one_less (may a.request) now n a.progress lt any
    by (opening a) any = one_less (may a.request) now n a.progress lt any
    by (fetching f) any = all_less (λ (a : ChunkAsked). may a.request) (λ (a : ChunkAsked). a.progress) now n lt f.asks any
work_less may now n (replicating t) lt any =
    (elim (may_read t) as (λ b. list_any (is_at n) ((if b then reads else []) ++ writes) ≡ true → weight_of_work may n (replicating t) < weight_of_work may now (replicating t)) [
      | true ↦ λ is. either (list_any (is_at n) reads) (list_any (is_at n) writes) refl refl (sym (list_any-append (is_at n) reads writes) ∙ is)
      | false ↦ λ is. in_writes is
    ]) any
  where
    reads : List Progress
    reads = map {A = Read} {B = Progress} (λ r. r.progress) t.reads

    writes : List Progress
    writes = map {A = Write} {B = Progress} (λ w. w.progress) t.writes

    in_writes : list_any (is_at n) writes ≡ true → weight_of_work may n (replicating t) < weight_of_work may now (replicating t)
    in_writes is =
        let less : total (λ (w : Write). weight_of_progress true n w.progress) t.writes < total (λ (w : Write). weight_of_progress true now w.progress) t.writes
        = all_less (λ (w : Write). true) (λ (w : Write). w.progress) now n lt t.writes is in
        let rest : total (λ (r : Read). weight_of_progress (may r.request) n r.progress) t.reads ≤ total (λ (r : Read). weight_of_progress (may r.request) now r.progress) t.reads
        = all_no_more (λ (r : Read). may r.request) (λ (r : Read). r.progress) now n (omega arith) t.reads in
        omega arith

    in_reads : list_any (is_at n) reads ≡ true → weight_of_work may n (replicating t) < weight_of_work may now (replicating t)
    in_reads is =
        let less : total (λ (r : Read). weight_of_progress (may r.request) n r.progress) t.reads < total (λ (r : Read). weight_of_progress (may r.request) now r.progress) t.reads
        = all_less (λ (r : Read). may r.request) (λ (r : Read). r.progress) now n lt t.reads is in
        let rest : total (λ (w : Write). weight_of_progress true n w.progress) t.writes ≤ total (λ (w : Write). weight_of_progress true now w.progress) t.writes
        = all_no_more (λ (w : Write). true) (λ (w : Write). w.progress) now n (omega arith) t.writes in
        omega arith

    either : (a b : Bool) → list_any (is_at n) reads ≡ a → list_any (is_at n) writes ≡ b → (a || b) ≡ true → weight_of_work may n (replicating t) < weight_of_work may now (replicating t)
    either true b first second is = in_reads first
    either false true first second is = in_writes second
    either false false first second is = cc

-- ---- the event

clock_lower : (count_of : List ℕ → ℕ) (s : State) (f now : ℕ) (own : Follower) → slice_get s.followers f ≡ Some own → waits_until own.work ≡ Some now → may_tick own ≡ false
    → IsLower count_of (at_follower s f (follower_clock_row own now)).next s
unfolding follower_clock_row
clock_lower count_of s f now own at least none =
    subst (λ (flight : List Frame). IsLower count_of (record s { followers = slice_set s.followers f new; flight = flight }) s) (sym (append-nil s.flight))
    (inr (
      over_set_same (λ f own. rank_of s.flight s.leader.sessions f own.work) f own new s.followers at (le_itself (rank_of s.flight s.leader.sessions f own.work)),
      inr (
        (let le : over_followers (follower_lacks count_of) 0 (slice_set s.followers f new) ≤ over_followers (follower_lacks count_of) 0 s.followers
            = over_set_same (follower_lacks count_of) f own new s.followers at (le_itself (follower_lacks count_of f own)) in omega arith),
        inr (
          (let le : over_followers (λ f own. old_peeks own.work + length own.lease_requests) 0 (slice_set s.followers f new) ≤ over_followers (λ f own. old_peeks own.work + length own.lease_requests) 0 s.followers
              = over_set_same (λ f own. old_peeks own.work + length own.lease_requests) f own new s.followers at (le_itself (old_peeks own.work + length own.lease_requests)) in omega arith),
          inl (
              let lt : over_followers (λ f own. weight_of_work (may_be_answered s (uuid_of f)) own.now own.work) 0 (slice_set s.followers f new)
              < over_followers (λ f own. weight_of_work (may_be_answered s (uuid_of f)) own.now own.work) 0 s.followers
              = over_set_less (λ f own. weight_of_work (may_be_answered s (uuid_of f)) own.now own.work) f own new s.followers at
              (work_less (may_be_answered s (uuid_of f)) own.now now own.work (not_due_later (waits_in own.work) own.now now none any) any) in
              omega arith
              ),
        ),
      ),
    ))
  where
    new : Follower
    new = record own { now = now }

    any : list_any (is_at now) (waits_in own.work) ≡ true
    any = least_is_at (waits_in own.work) now least

pub clock_at : (count_of : List ℕ → ℕ) (s : State) (f now : ℕ) (picks : List ℕ) → MaySetClock s f now → IsLower count_of (step s (events.Clock (sides.Follower f) now) picks).next s
clock_at count_of s f now picks may =
    subst (λ (o : Option Follower). IsLower count_of (for_follower s f (λ x. follower_clock_row x now) o).next s) (sym may.is)
    (clock_lower count_of s f now may.follower may.is may.least
    (sym (ap (λ (o : Option Follower). option_map_or may_tick o false) may.is) ∙ may.alone (events.Tick f)))
