-- Settling by a sync lowers the measure.
use Rattle.std.specs.List.{AllByRecursion, list_any}
use Rattle.std.specs.Str.{bytes_eq}
use Rattle.std.specs.Prelude.{slice_get, slice_set, filter}
use Rattle.std.specs.Option.{option_map, option_map_or}
use Rattle.std.proofs.Common.{◌≡◌, ◌⊎◌, ℕ, ◌+◌, ◌*◌, ◌<◌, ◌≤◌, ◌==◌, ◌&&◌, ◌||◌, Bool, true, false, not, nat_lt, if◌then◌else◌, inr, inl, Option, Some, None, List, [], ◌∷◌, ◌++◌, map, length, refl, sym, subst, arith}
use Rattle.std.proofs.lemmas.Bool.Decides.{nat_tests}
use Rattle.std.proofs.lemmas.List.Folds.{list_any-append}
use Rattle.ccr_tracker.specs.Numbers.{has}
use Rattle.ccr_lease.specs.Leases.{Collection, supersedes}
use Rattle.ccr_wire.specs.Message.{Frame}
use Rattle.ccr_wire.specs.declared.kind.LeaseResult.TheVariants as results
use Rattle.ccr_wire.specs.declared.content.Content.{Content}
use Rattle.ccr_wire.specs.declared.content.Content.TheVariants.{LeaseAdded, LeaseAnswer}
use Rattle.ccr_journal.specs.declared.sides.Side.{Side}
use Rattle.ccr_journal.specs.declared.sides.Side.TheVariants as sides
use Rattle.ccr_journal.specs.declared.replies.Reply.TheVariants as replies
use Rattle.ccr_journal.specs.declared.events.Event.TheVariants as events
use Rattle.ccr_model.specs.Outcomes.{Outcome, answered, within}
use Rattle.ccr_model.specs.Copies.{Copy, Replica, Copies, replica_of, replaced, knowing, greatest_floor, has_lease}
use Rattle.ccr_model.specs.CopyRows.{sync_row, taking_leases}
use Rattle.ccr_model.specs.Leaders.{KeptRequest, Session}
use Rattle.ccr_model.specs.LeaderRows.{all_hold, lease_answer, settling_requests, with_copies as with_leader_copies}
use Rattle.ccr_model.specs.Followers.{Follower, uuid_of}
use Rattle.ccr_model.specs.FollowerRows.{follower_sync, with_copies as with_follower_copies}
use Rattle.ccr_model.specs.World.{State, at_leader, at_follower, for_follower}
use Rattle.ccr_model.specs.Step.{step}
use Rattle.ccr_model.specs.Settling.{may_act, may_sync, may_be_answered, for_replica}
use Rattle.ccr_law_base.proofs.Cases.{on_if}
use Rattle.ccr_law_base.proofs.Lists.{All-map, All-every}
use Rattle.ccr_law_settling.specs.Measure.{total, passing, copy_lacks, replica_lacks, copies_lack, follower_lacks, work_lacks, over_followers, rank_of, idle_of, underway_of, leases_of, lacking_of, old_leases, old_peeks, opens_closed, is_gone, is_idle_content, weight_of_frame, weight_of_work, IsLess, IsLower}
use Rattle.ccr_law_settling.specs.Within.{IsWithin}
use Rattle.ccr_law_settling.proofs.Measure.Totals.{total_replaced, le_itself, over_set_same, over_set_less, total_append}
use Rattle.ccr_law_settling.proofs.Measure.CopyRows.{guarded_passes}
use Rattle.ccr_law_settling.proofs.Measure.Flights.{IsPlain, ranks_more, idle_more, works_fewer}
use Rattle.ccr_law_base.proofs.Tests.{and_first, and_second}
use Rattle.std.proofs.lemmas.List.{append-nil}
use Rattle.std.proofs.lemmas.Bool.{not_from_true}

-- what a sync comes to: less is lacking, or no more is and fewer leases are old
pub record Syncs (count : ℕ) (s : Copies) (o : Outcome Copies) : Type 0 where
  pub replicas : List Replica
  pub is : o ≡ answered replies.Done (record s { replicas = replicas })
  pub no_more : copies_lack count (record s { replicas = replicas }) ≤ copies_lack count s
  pub lower : (copies_lack count (record s { replicas = replicas }) < copies_lack count s) ⊎ (old_leases (record s { replicas = replicas }) < old_leases s)

not_above_itself : (c : Collection) → supersedes c c ≡ false
not_above_itself c = grind (arith, nat_tests)

-- after a sync no old lease is left
taken_leases : (primary c : Copy) → supersedes primary.leases (taking_leases primary c).leases ≡ false
taken_leases primary c =
    on_if (λ (x : Copy). supersedes primary.leases x.leases ≡ false) (supersedes primary.leases c.leases) (record c { leases = primary.leases }) c
    (λ is. not_above_itself primary.leases) (λ isnt. isnt)

-- leases apart, the copy knows the greater global count
taken_lacks : (count : ℕ) (primary c : Copy) → copy_lacks count (taking_leases primary c) ≡ copy_lacks count c
taken_lacks count primary c =
    on_if (λ (x : Copy). copy_lacks count x ≡ copy_lacks count c) (supersedes primary.leases c.leases) (record c { leases = primary.leases }) c
    (λ is. refl) (λ isnt. refl)

less_of : (x y a b : ℕ) → x + b ≡ y + a → b ≡ 1 → a ≡ 0 → x < y
less_of x y a b sums one none = omega arith

pub sync_lowers : (count : ℕ) (s : Copies) (copy : ℕ) → s.primary.global ≤ count → (o : Option Replica) → replica_of s copy ≡ o
    → option_map_or (may_sync s) o false ≡ true → Syncs count s (sync_row s copy o)
unfolding sync_row
sync_lowers count s copy low None at is = cc
sync_lowers count s copy low (Some r) at is =
    record {
      replicas = replaced copy new s.replicas;
      is = guarded_passes _ _ _ (not_from_true r.resynced (and_first r.resynced (nat_lt r.copy.global s.primary.global || supersedes s.primary.leases r.copy.leases) is), tt);
      no_more =
          (let sums : total (replica_lacks count) (replaced copy new s.replicas) + replica_lacks count r ≡ total (replica_lacks count) s.replicas + replica_lacks count new
          = total_replaced (replica_lacks count) copy new r s.replicas at in
          let le : replica_lacks count new ≤ replica_lacks count r = new_no_more in
          omega arith);
      lower = by (nat_lt r.copy.global s.primary.global) (supersedes s.primary.leases r.copy.leases) refl refl
          (and_second r.resynced (nat_lt r.copy.global s.primary.global || supersedes s.primary.leases r.copy.leases) is);
    }
  where
    known : Copy
    known = knowing s.primary.global r.copy

    new : Replica
    new = record r { copy = taking_leases s.primary known }

    new_lacks : copy_lacks count new.copy ≡ copy_lacks count known
    new_lacks = taken_lacks count s.primary known

    new_no_more : replica_lacks count new ≤ replica_lacks count r
    new_no_more =
        let e : copy_lacks count new.copy ≡ copy_lacks count known = new_lacks in
        let le : copy_lacks count known ≤ copy_lacks count r.copy = omega arith in
        omega arith

    by : (a b : Bool) → nat_lt r.copy.global s.primary.global ≡ a → supersedes s.primary.leases r.copy.leases ≡ b → (a || b) ≡ true
        → (copies_lack count (record s { replicas = replaced copy new s.replicas }) < copies_lack count s) ⊎ (old_leases (record s { replicas = replaced copy new s.replicas }) < old_leases s)
    by true b behind old is =
        let sums : total (replica_lacks count) (replaced copy new s.replicas) + replica_lacks count r ≡ total (replica_lacks count) s.replicas + replica_lacks count new
        = total_replaced (replica_lacks count) copy new r s.replicas at in
        let lt : r.copy.global < s.primary.global = grind (arith, nat_tests) in
        let e : copy_lacks count new.copy ≡ copy_lacks count known = new_lacks in
        let less : copy_lacks count known < copy_lacks count r.copy = omega arith in
        inl (omega arith)
    by false true behind old is = inr (less_of (old_leases (record s { replicas = replaced copy new s.replicas })) (old_leases s)
        (if supersedes s.primary.leases new.copy.leases then 1 else 0) (if supersedes s.primary.leases r.copy.leases then 1 else 0)
        (total_replaced (λ (x : Replica). if supersedes s.primary.leases x.copy.leases then 1 else 0) copy new r s.replicas at)
        (rw old refl) (rw (taken_leases s.primary known) refl))
    by false false behind old is = cc

-- ---- a follower's copies

pub follower_syncs : (count_of : List ℕ → ℕ) (s : State) (f : ℕ) (own : Follower) (o : Outcome Copies) → slice_get s.followers f ≡ Some own
    → Syncs (count_of own.history) own.copies o
    → IsLower count_of (at_follower s f (within (with_follower_copies own) o)).next s
follower_syncs count_of s f own o at row =
    subst (λ (x : Outcome Copies). IsLower count_of (at_follower s f (within (with_follower_copies own) x)).next s) (sym row.is)
    (subst (λ (flight : List Frame). IsLower count_of (record s { followers = slice_set s.followers f new; flight = flight }) s) (sym (append-nil s.flight))
    (inr (
      over_set_same (λ f own. rank_of s.flight s.leader.sessions f own.work) f own new s.followers at (le_itself (rank_of s.flight s.leader.sessions f own.work)),
      by row.lower,
    )))
  where
    count : ℕ
    count = count_of own.history

    copies : Copies
    copies = record own.copies { replicas = row.replicas }

    new : Follower
    new = with_follower_copies own copies

    after : State
    after = record s { followers = slice_set s.followers f new }

    lacks_no_more : lacking_of count_of after ≤ lacking_of count_of s
    lacks_no_more =
        let le : over_followers (follower_lacks count_of) 0 (slice_set s.followers f new) ≤ over_followers (follower_lacks count_of) 0 s.followers
        = over_set_same (follower_lacks count_of) f own new s.followers at
        (let one : copies_lack count copies ≤ copies_lack count own.copies = row.no_more in
        let work : work_lacks count own.work ≡ work_lacks count own.work = refl in omega arith) in
        omega arith

    idle_no_more : idle_of after ≤ idle_of s
    idle_no_more =
        let le : over_followers (λ f own. old_peeks own.work + length own.lease_requests) 0 (slice_set s.followers f new) ≤ over_followers (λ f own. old_peeks own.work + length own.lease_requests) 0 s.followers
        = over_set_same (λ f own. old_peeks own.work + length own.lease_requests) f own new s.followers at (le_itself (old_peeks own.work + length own.lease_requests)) in
        omega arith

    underway_no_more : underway_of after ≤ underway_of s
    underway_no_more =
        let le : over_followers (λ f own. weight_of_work (may_be_answered s (uuid_of f)) own.now own.work) 0 (slice_set s.followers f new)
        ≤ over_followers (λ f own. weight_of_work (may_be_answered s (uuid_of f)) own.now own.work) 0 s.followers
        = over_set_same (λ f own. weight_of_work (may_be_answered s (uuid_of f)) own.now own.work) f own new s.followers at (le_itself (weight_of_work (may_be_answered s (uuid_of f)) own.now own.work)) in
        omega arith

    by : (copies_lack count copies < copies_lack count own.copies) ⊎ (old_leases copies < old_leases own.copies)
        → IsLess (lacking_of count_of after) (lacking_of count_of s) (IsLess (idle_of after) (idle_of s) (IsLess (underway_of after) (underway_of s) (leases_of after < leases_of s)))
    by (inl less) = inl (
        let lt : over_followers (follower_lacks count_of) 0 (slice_set s.followers f new) < over_followers (follower_lacks count_of) 0 s.followers
        = over_set_less (follower_lacks count_of) f own new s.followers at
        (let work : work_lacks count own.work ≡ work_lacks count own.work = refl in omega arith) in
        omega arith)
    by (inr less) = inr (
      lacks_no_more,
      inr (
        idle_no_more,
        inr (
          underway_no_more,
          (let lt : over_followers (λ f own. old_leases own.copies) 0 (slice_set s.followers f new) < over_followers (λ f own. old_leases own.copies) 0 s.followers
              = over_set_less (λ f own. old_leases own.copies) f own new s.followers at less in
              omega arith),
        ),
      ),
    )

-- ---- the leader's copies, with the requests that are answered then

plain_answer : (sessions : List Session) (copies : Copies) (k : KeptRequest) → IsPlain sessions (lease_answer copies k)
plain_answer sessions copies k = record {
  opens = on_if (λ (c : Content). opens_closed sessions c ≡ false) k.existed (LeaseAnswer results.Exists (greatest_floor copies)) (LeaseAdded (greatest_floor copies)) (λ is. refl) (λ isnt. refl);
  gone = on_if (λ (c : Content). is_gone c ≡ false) k.existed (LeaseAnswer results.Exists (greatest_floor copies)) (LeaseAdded (greatest_floor copies)) (λ is. refl) (λ isnt. refl);
}

busy_answer : (copies : Copies) (k : KeptRequest) → is_idle_content (lease_answer copies k).content ≡ false
busy_answer copies k =
    on_if (λ (c : Content). is_idle_content c ≡ false) k.existed (LeaseAnswer results.Exists (greatest_floor copies)) (LeaseAdded (greatest_floor copies)) (λ is. refl) (λ isnt. refl)

light_answer : (copies : Copies) (k : KeptRequest) → weight_of_frame (lease_answer copies k) ≡ 1
light_answer copies k =
    on_if (λ (c : Content). weight_of_frame (record { follower = k.follower; request = k.request; content = c }) ≡ 1) k.existed (LeaseAnswer results.Exists (greatest_floor copies)) (LeaseAdded (greatest_floor copies)) (λ is. refl) (λ isnt. refl)

abbrev pub left_of : Copies → List KeptRequest → List KeptRequest
left_of copies kept = filter (λ k. not (all_hold k.id copies)) kept

abbrev pub answers_of : Copies → List KeptRequest → List Frame
answers_of copies kept = map {A = KeptRequest} {B = Frame} (lease_answer copies) (filter (λ k. all_hold k.id copies) kept)

pub plain_answers : (sessions : List Session) (copies : Copies) (kept : List KeptRequest) → AllByRecursion (IsPlain sessions) (answers_of copies kept)
plain_answers sessions copies kept = All-map (IsPlain sessions) (lease_answer copies) (filter (λ k. all_hold k.id copies) kept)
    (All-every (λ k. IsPlain sessions (lease_answer copies k)) (plain_answer sessions copies) (filter (λ k. all_hold k.id copies) kept))

pub busy_answers : (copies : Copies) (kept : List KeptRequest) → AllByRecursion (λ (m : Frame). is_idle_content m.content ≡ false) (answers_of copies kept)
busy_answers copies kept = All-map (λ (m : Frame). is_idle_content m.content ≡ false) (lease_answer copies) (filter (λ k. all_hold k.id copies) kept)
    (All-every (λ k. is_idle_content (lease_answer copies k).content ≡ false) (busy_answer copies) (filter (λ k. all_hold k.id copies) kept))

-- an answer weighs less than the kept request
pub answers_weigh : (copies : Copies) (kept : List KeptRequest) → total weight_of_frame (answers_of copies kept) + 2 * length (left_of copies kept) ≤ 2 * length kept
answers_weigh copies [] = omega arith
answers_weigh copies (k ∷ kept) =
    let rest : total weight_of_frame (answers_of copies kept) + 2 * length (left_of copies kept) ≤ 2 * length kept = answers_weigh copies kept in
    (elim (all_hold k.id copies) as (λ b. total weight_of_frame (map {A = KeptRequest} {B = Frame} (lease_answer copies) (if b then k ∷ filter (λ k. all_hold k.id copies) kept else filter (λ k. all_hold k.id copies) kept))
    + 2 * length (if not b then k ∷ left_of copies kept else left_of copies kept) ≤ 2 * length (k ∷ kept)) [
      | true ↦ (let one : weight_of_frame (lease_answer copies k) ≡ 1 = light_answer copies k in omega arith)
      | false ↦ omega arith
    ])

abbrev pub carries : List ℕ → ℕ → Frame → Bool
carries uuid request m = bytes_eq m.follower uuid && (m.request == request)

abbrev pub keeps : Copy → List ℕ → ℕ → KeptRequest → Bool
keeps primary uuid request k = bytes_eq k.follower uuid && (k.request == request) && has_lease k.id primary

-- a request that was kept is still kept, or its answer is in flight
pub still_kept : (copies : Copies) (primary : Copy) (uuid : List ℕ) (request : ℕ) (kept : List KeptRequest) → list_any (keeps primary uuid request) kept ≡ true
    → (list_any (carries uuid request) (answers_of copies kept) || list_any (keeps primary uuid request) (left_of copies kept)) ≡ true
still_kept copies primary uuid request [] is = cc
still_kept copies primary uuid request (k ∷ kept) is =
    (elim (all_hold k.id copies) as (λ b.
    (list_any (carries uuid request) (map {A = KeptRequest} {B = Frame} (lease_answer copies) (if b then k ∷ filter (λ k. all_hold k.id copies) kept else filter (λ k. all_hold k.id copies) kept))
    || list_any (keeps primary uuid request) (if not b then k ∷ left_of copies kept else left_of copies kept)) ≡ true) [
      | true ↦ answered_now (bytes_eq k.follower uuid && (k.request == request)) (has_lease k.id primary) (list_any (keeps primary uuid request) kept)
          (list_any (carries uuid request) (answers_of copies kept)) (list_any (keeps primary uuid request) (left_of copies kept)) (still_kept copies primary uuid request kept) is
      | false ↦ left_now (keeps primary uuid request k) (list_any (keeps primary uuid request) kept)
          (list_any (carries uuid request) (answers_of copies kept)) (list_any (keeps primary uuid request) (left_of copies kept)) (still_kept copies primary uuid request kept) is
    ])
  where
    answered_now : (same has rest answers left : Bool) → (rest ≡ true → (answers || left) ≡ true) → ((same && has) || rest) ≡ true → ((same || answers) || left) ≡ true
    answered_now true has rest answers left step is = refl
    answered_now false has true answers left step is = step refl
    answered_now false has false answers left step is = cc

    left_now : (this rest answers left : Bool) → (rest ≡ true → (answers || left) ≡ true) → (this || rest) ≡ true → (answers || (this || left)) ≡ true
    left_now true rest true left step is = refl
    left_now true rest false left step is = refl
    left_now false true answers left step is = step refl
    left_now false false answers left step is = cc

three : (flight polls kept answers left : Bool) → (kept ≡ true → (answers || left) ≡ true) → ((flight || polls) || kept) ≡ true → (((flight || answers) || polls) || left) ≡ true
three true polls kept answers left step is = refl
three false true kept true left step is = refl
three false true kept false left step is = refl
three false false true true left step is = refl
three false false true false left step is = step refl
three false false false answers left step is = cc

pub leader_syncs : (count_of : List ℕ → ℕ) (s : State) (o : Outcome Copies) → Syncs (count_of s.leader.history) s.leader.copies o
    → IsLower count_of (at_leader s (settling_requests (within (with_leader_copies s.leader) o))).next s
leader_syncs count_of s o row =
    subst (λ (x : Outcome Copies). IsLower count_of (at_leader s (settling_requests (within (with_leader_copies s.leader) x))).next s) (sym row.is)
    (inr (ranks_more s.flight answers s.leader.sessions s.followers (plain_answers s.leader.sessions copies s.leader.kept), by row.lower))
  where
    count : ℕ
    count = count_of s.leader.history

    copies : Copies
    copies = record s.leader.copies { replicas = row.replicas }

    answers : List Frame
    answers = answers_of copies s.leader.kept

    after : State
    after = record s { leader = record s.leader { copies = copies; kept = left_of copies s.leader.kept }; flight = s.flight ++ answers }

    lacks_no_more : lacking_of count_of after ≤ lacking_of count_of s
    lacks_no_more =
        let le : copies_lack count copies ≤ copies_lack count s.leader.copies = row.no_more in
        let same : over_followers (follower_lacks count_of) 0 s.followers ≡ over_followers (follower_lacks count_of) 0 s.followers = refl in
        omega arith

    idle_no_more : idle_of after ≤ idle_of s
    idle_no_more =
        let same : passing (λ (m : Frame). is_idle_content m.content) (s.flight ++ answers) ≡ passing (λ (m : Frame). is_idle_content m.content) s.flight
        = idle_more s.flight answers (busy_answers copies s.leader.kept) in
        omega arith

    still : (uuid : List ℕ) (request : ℕ) → may_be_answered s uuid request ≡ true → may_be_answered after uuid request ≡ true
    still uuid request is =
        rw (list_any-append (carries uuid request) s.flight answers)
        (three (list_any (carries uuid request) s.flight) (list_any (λ p. bytes_eq p.follower uuid && (p.request == request)) s.leader.polls)
        (list_any (keeps s.leader.copies.primary uuid request) s.leader.kept) (list_any (carries uuid request) answers)
        (list_any (keeps s.leader.copies.primary uuid request) (left_of copies s.leader.kept))
        (still_kept copies s.leader.copies.primary uuid request s.leader.kept) is)

    underway_no_more : underway_of after ≤ underway_of s
    underway_no_more =
        let frames : total weight_of_frame (s.flight ++ answers) ≡ total weight_of_frame s.flight + total weight_of_frame answers = total_append weight_of_frame s.flight answers in
        let kept : total weight_of_frame answers + 2 * length (left_of copies s.leader.kept) ≤ 2 * length s.leader.kept = answers_weigh copies s.leader.kept in
        let works : over_followers (λ f own. weight_of_work (may_be_answered after (uuid_of f)) own.now own.work) 0 s.followers
        ≤ over_followers (λ f own. weight_of_work (may_be_answered s (uuid_of f)) own.now own.work) 0 s.followers
        = works_fewer (may_be_answered after) (may_be_answered s) s.followers still in
        omega arith

    by : (copies_lack count copies < copies_lack count s.leader.copies) ⊎ (old_leases copies < old_leases s.leader.copies)
        → IsLess (lacking_of count_of after) (lacking_of count_of s) (IsLess (idle_of after) (idle_of s) (IsLess (underway_of after) (underway_of s) (leases_of after < leases_of s)))
    by (inl less) = inl (
        let same : over_followers (follower_lacks count_of) 0 s.followers ≡ over_followers (follower_lacks count_of) 0 s.followers = refl in omega arith)
    by (inr less) = inr (
      lacks_no_more,
      inr (
        idle_no_more,
        inr (
          underway_no_more,
          (let same : over_followers (λ f own. old_leases own.copies) 0 s.followers ≡ over_followers (λ f own. old_leases own.copies) 0 s.followers = refl in omega arith),
        ),
      ),
    )

-- ---- the event

pub sync_at : (count_of : List ℕ → ℕ) (s : State) (side : Side) (copy : ℕ) (picks : List ℕ) → IsWithin count_of s → may_act s (events.Sync side copy) ≡ true
    → IsLower count_of (step s (events.Sync side copy) picks).next s
sync_at count_of s sides.Leader copy picks within may =
    leader_syncs count_of s _ (sync_lowers (count_of s.leader.history) s.leader.copies copy within.leader.global (replica_of s.leader.copies copy) refl may)
sync_at count_of s (sides.Follower f) copy picks within may = by (slice_get s.followers f) refl may
  where
    by : (o : Option Follower) → slice_get s.followers f ≡ o
        → for_replica may_sync copy (option_map {T = Follower} {U = Copies} (λ own. own.copies) o) ≡ true
        → IsLower count_of (for_follower s f (λ x. follower_sync x copy) o).next s
    by None at is = cc
    by (Some own) at is = follower_syncs count_of s f own _ at
        (sync_lowers (count_of own.history) own.copies copy (within.followers f own at).global (replica_of own.copies copy) refl is)
