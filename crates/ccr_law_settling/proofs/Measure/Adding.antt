-- Settling by the delivery of a request for a lease, at a leader that is ready, lowers the measure.
use Rattle.std.specs.List.{list_any}
use Rattle.std.specs.Str.{bytes_eq}
use Rattle.std.specs.Prelude.{slice_get, remove, insert}
use Rattle.std.proofs.Common.{◌≡◌, ℕ, ◌+◌, ◌*◌, ◌≤◌, ◌<◌, ◌==◌, ◌&&◌, ◌||◌, Bool, true, false, if◌then◌else◌, inl, inr, Option, Some, None, List, [], ◌∷◌, ◌++◌, length, is_some, refl, sym, ◌∙◌, arith}
use Rattle.std.proofs.lemmas.List.Folds.{list_any-append}
use Rattle.ccr_lease.specs.Leases.{Collection, lease_of, place_of, with_lease}
use Rattle.ccr_lease.specs.declared.retention.Lease.{Lease}
use Rattle.ccr_wire.specs.Message.{Frame}
use Rattle.ccr_wire.specs.declared.kind.LeaseResult.TheVariants as results
use Rattle.ccr_wire.specs.declared.content.Content.TheVariants as contents
use Rattle.ccr_journal.specs.declared.replies.Heard.TheVariants as heard
use Rattle.ccr_journal.specs.declared.events.Event.TheVariants as events
use Rattle.ccr_model.specs.Copies.{Copies, has_lease, lacks_lease, not_ready, greatest_floor}
use Rattle.ccr_model.specs.Leaders.{Leader, KeptRequest}
use Rattle.ccr_model.specs.LeaderFrames.{with_leases, answer_or_keep, lease_add_row}
use Rattle.ccr_model.specs.Followers.{uuid_of}
use Rattle.ccr_model.specs.World.{State}
use Rattle.ccr_model.specs.Step.{step}
use Rattle.ccr_model.specs.Settling.{may_be_answered}
use Rattle.ccr_law_base.proofs.Cases.{on_if}
use Rattle.ccr_law_base.proofs.Lists.{found-any}
use Rattle.ccr_law_settling.specs.Measure.{total, passing, over_followers, is_idle_content, weight_of_frame, weight_of_work, rank_of, underway_of, lacking_of, IsLower}
use Rattle.ccr_law_settling.proofs.Measure.Totals.{le_itself, total_append}
use Rattle.ccr_law_settling.proofs.Measure.Flights.{ranks_more, idle_more, works_fewer}
use Rattle.ccr_law_settling.proofs.Measure.Syncing.{left_of, answers_of, plain_answers, busy_answers, answers_weigh, carries, keeps, still_kept}
use Rattle.ccr_law_settling.proofs.Measure.Waking.{waits}
use Rattle.ccr_law_settling.proofs.Measure.Taken.{total_remove, any_remove, ranks_left}
use Rattle.ccr_law_settling.proofs.Measure.Delivering.{taken}
use Rattle.ccr_law_settling.proofs.Measure.Answering.{with_these, any_step, answered_lower, delivered_by, same_open}
use Rattle.ccr_law_leases.proofs.Collections.{is_of, there-put}
use Rattle.ccr_law_leases.proofs.Finding.{any-put}
use Rattle.ccr_law_base.proofs.Tests.{and-more}
use Rattle.std.proofs.lemmas.Bool.{or_left}

-- ---- one lease more

-- each lease that was there is there
there_still : (new : Lease) (id : List ℕ) (leases : List Lease) (n : ℕ) → is_some (lease_of id leases) ≡ true → is_some (lease_of id (insert leases n new)) ≡ true
there_still new id leases n is =
    found-any (is_of id) (insert leases n new) ∙ any-put (is_of id) n new leases (sym (found-any (is_of id) leases) ∙ is)

-- ---- the request is kept

pushed_length : (kept : List KeptRequest) (k : KeptRequest) → length (kept ++ k ∷ []) ≡ length kept + 1
pushed_length [] k = omega arith
pushed_length (x ∷ kept) k = let rest : length (kept ++ k ∷ []) ≡ length kept + 1 = pushed_length kept k in omega arith

-- the request is kept as this one
abbrev kept_as : Frame → List ℕ → Bool → KeptRequest
kept_as m id existed = record { follower = m.follower; request = m.request; id = id; existed = existed }

-- no lease is lost, and the one of this id is there
record Gains (s : State) (leases : Collection) (id : List ℕ) : Type 0 where
  held_still : (other : List ℕ) → has_lease other s.leader.copies.primary ≡ true → has_lease other (with_these s leases).primary ≡ true
  there : has_lease id (with_these s leases).primary ≡ true

kept_lower : (count_of : List ℕ → ℕ) (s : State) (at : ℕ) (m : Frame) (leases : Collection) (id : List ℕ) (existed : Bool) (lacking : ℕ) → slice_get s.flight at ≡ Some m → weight_of_frame m ≡ 3 → Gains s leases id
    → IsLower count_of (taken s at (answer_or_keep (with_leases s.leader leases) (kept_as m id existed) (Some lacking))).next s
kept_lower count_of s at m leases id existed lacking found heavy gains =
    inr (
      (let more : over_followers (λ f own. rank_of (rest ++ told) s.leader.sessions f own.work) 0 s.followers ≤ over_followers (λ f own. rank_of rest s.leader.sessions f own.work) 0 s.followers
          = ranks_more rest told s.leader.sessions s.followers (plain_answers s.leader.sessions copies kept) in
          let left : over_followers (λ f own. rank_of rest s.leader.sessions f own.work) 0 s.followers ≤ over_followers (λ f own. rank_of s.flight s.leader.sessions f own.work) 0 s.followers
          = ranks_left s.flight at s.leader.sessions s.followers in
          omega arith),
      inr (
        le_itself (lacking_of count_of s),
        inr (
          (let same : passing (λ (x : Frame). is_idle_content x.content) (rest ++ told) ≡ passing (λ (x : Frame). is_idle_content x.content) rest
              = idle_more rest told (busy_answers copies kept) in
              let one : passing (λ (x : Frame). is_idle_content x.content) rest + (if is_idle_content m.content then 1 else 0) ≡ passing (λ (x : Frame). is_idle_content x.content) s.flight
              = total_remove (λ (x : Frame). if is_idle_content x.content then 1 else 0) s.flight at m found in
              no_more _ _ _ _ _ same one),
          inl less,
        ),
      ),
    )
  where
    no_more : (a b c one followers : ℕ) → a ≡ b → b + one ≡ c → a + followers ≤ c + followers
    no_more a b c one followers same sum = omega arith

    copies : Copies
    copies = with_these s leases

    kept : List KeptRequest
    kept = s.leader.kept ++ kept_as m id existed ∷ []

    told : List Frame
    told = answers_of copies kept

    rest : List Frame
    rest = remove s.flight at

    after : State
    after = record s { leader = record (with_leases s.leader leases) { kept = left_of copies kept }; flight = rest ++ told }

    kept_step : (uuid : List ℕ) (request : ℕ) (k : KeptRequest) → keeps s.leader.copies.primary uuid request k ≡ true → keeps copies.primary uuid request k ≡ true
    kept_step uuid request k any = and-more (bytes_eq k.follower uuid && (k.request == request)) _ _ (gains.held_still k.id) any

    -- the message is kept
    kept_now : (uuid : List ℕ) (request : ℕ) → carries uuid request m ≡ true → list_any (keeps copies.primary uuid request) kept ≡ true
    kept_now uuid request is =
        rw (list_any-append (keeps copies.primary uuid request) s.leader.kept (kept_as m id existed ∷ []))
        (late (list_any (keeps copies.primary uuid request) s.leader.kept) (bytes_eq m.follower uuid && (m.request == request)) (has_lease id copies.primary) is gains.there)
      where
        late : (a b c : Bool) → b ≡ true → c ≡ true → (a || ((b && c) || false)) ≡ true
        late true b c first second = refl
        late false true true first second = refl
        late false false c first second = cc
        late false true false first second = cc

    -- what was kept is kept
    kept_still : (uuid : List ℕ) (request : ℕ) → list_any (keeps s.leader.copies.primary uuid request) s.leader.kept ≡ true → list_any (keeps copies.primary uuid request) kept ≡ true
    kept_still uuid request is =
        rw (list_any-append (keeps copies.primary uuid request) s.leader.kept (kept_as m id existed ∷ []))
        (or_left (list_any (keeps copies.primary uuid request) s.leader.kept) (list_any (keeps copies.primary uuid request) (kept_as m id existed ∷ []))
        (any_step (keeps s.leader.copies.primary uuid request) (keeps copies.primary uuid request) s.leader.kept (kept_step uuid request) is))

    joined : (m flight polls old new rest told left : Bool) → (flight ≡ true → (m || rest) ≡ true) → (m ≡ true → new ≡ true) → (old ≡ true → new ≡ true) → (new ≡ true → (told || left) ≡ true)
        → ((flight || polls) || old) ≡ true → (((rest || told) || polls) || left) ≡ true
    joined m flight polls old new true told left a b c d any = refl
    joined m flight polls old new false true left a b c d any = refl
    joined m flight true old new false false left a b c d any = refl
    joined m flight false old new false false true a b c d any = refl
    joined true flight false old new false false false a b c d any = d (b refl)
    joined false true false old new false false false a b c d any = a refl
    joined false false false true new false false false a b c d any = d (c refl)
    joined false false false false new false false false a b c d any = any

    still : (uuid : List ℕ) (request : ℕ) → may_be_answered s uuid request ≡ true → may_be_answered after uuid request ≡ true
    still uuid request any =
        rw (list_any-append (carries uuid request) rest told)
        (joined (carries uuid request m) (list_any (carries uuid request) s.flight) (list_any (waits uuid request) s.leader.polls)
        (list_any (keeps s.leader.copies.primary uuid request) s.leader.kept) (list_any (keeps copies.primary uuid request) kept)
        (list_any (carries uuid request) rest) (list_any (carries uuid request) told) (list_any (keeps copies.primary uuid request) (left_of copies kept))
        (any_remove (carries uuid request) s.flight at m found) (kept_now uuid request) (kept_still uuid request)
        (still_kept copies copies.primary uuid request kept) any)

    less : underway_of after < underway_of s
    less =
        let frames : total weight_of_frame (rest ++ told) ≡ total weight_of_frame rest + total weight_of_frame told = total_append weight_of_frame rest told in
        let gone : total weight_of_frame rest + weight_of_frame m ≡ total weight_of_frame s.flight = total_remove weight_of_frame s.flight at m found in
        let asked : total weight_of_frame told + 2 * length (left_of copies kept) ≤ 2 * length kept = answers_weigh copies kept in
        let pushed : length kept ≡ length s.leader.kept + 1 = pushed_length s.leader.kept (kept_as m id existed) in
        let works : over_followers (λ f own. weight_of_work (may_be_answered after (uuid_of f)) own.now own.work) 0 s.followers
        ≤ over_followers (λ f own. weight_of_work (may_be_answered s (uuid_of f)) own.now own.work) 0 s.followers
        = works_fewer (may_be_answered after) (may_be_answered s) s.followers still in
        omega arith

-- ---- the request is answered or kept

added_lower : (count_of : List ℕ → ℕ) (s : State) (at : ℕ) (m : Frame) (leases : Collection) (id : List ℕ) (existed : Bool) (o : Option ℕ) → slice_get s.flight at ≡ Some m → weight_of_frame m ≡ 3 → Gains s leases id
    → IsLower count_of (taken s at (answer_or_keep (with_leases s.leader leases) (kept_as m id existed) o)).next s
added_lower count_of s at m leases id existed (Some lacking) found heavy gains = kept_lower count_of s at m leases id existed lacking found heavy gains
added_lower count_of s at m leases id true None found heavy gains =
    answered_lower count_of s at m leases s.leader.next_session s.leader.sessions (heard.Lease results.Exists (greatest_floor (with_these s leases))) (contents.LeaseAnswer results.Exists (greatest_floor (with_these s leases))) found
    (record { open_still = same_open s.leader.sessions; held_still = gains.held_still; opens = refl; gone = refl; busy = refl; light = refl; heavy = heavy })
added_lower count_of s at m leases id false None found heavy gains =
    answered_lower count_of s at m leases s.leader.next_session s.leader.sessions (heard.Lease results.Ok (greatest_floor (with_these s leases))) (contents.LeaseAdded (greatest_floor (with_these s leases))) found
    (record { open_still = same_open s.leader.sessions; held_still = gains.held_still; opens = refl; gone = refl; busy = refl; light = refl; heavy = heavy })

row_lower : (count_of : List ℕ → ℕ) (s : State) (at : ℕ) (m : Frame) (id : List ℕ) (o : Option ℕ) → o ≡ None → slice_get s.flight at ≡ Some m → weight_of_frame m ≡ 3
    → IsLower count_of (taken s at (lease_add_row s.leader m.follower m.request id o)).next s
unfolding lease_add_row
row_lower count_of s at m id (Some copy) ready found heavy = cc
row_lower count_of s at m id None ready found heavy =
    on_if (λ (l : Leader). IsLower count_of (taken s at (answer_or_keep l (kept_as m id (has_lease id s.leader.copies.primary)) (lacks_lease id l.copies))).next s)
    (has_lease id s.leader.copies.primary) s.leader (with_leases s.leader longer)
    (λ there. added_lower count_of s at m s.leader.copies.primary.leases id (has_lease id s.leader.copies.primary) (lacks_lease id s.leader.copies) found heavy (record { held_still = λ other is. is; there = there }))
    (λ lacks. added_lower count_of s at m longer id (has_lease id s.leader.copies.primary) (lacks_lease id (with_these s longer)) found heavy (record {
      held_still = λ other is. there_still new other s.leader.copies.primary.leases.leases (place_of id s.leader.copies.primary.leases.leases) is;
      there = there-put (place_of id s.leader.copies.primary.leases.leases) new s.leader.copies.primary.leases.leases;
    }))
  where
    new : Lease
    new = record { id = id; number = s.leader.copies.primary.floor; stamp = s.leader.now }

    longer : Collection
    longer = record { term = s.leader.copies.primary.leases.term; version = s.leader.copies.primary.leases.version + 1; leases = with_lease new s.leader.copies.primary.leases.leases }

pub addition_delivered : (count_of : List ℕ → ℕ) (s : State) (at copy : ℕ) (picks : List ℕ) (follower : List ℕ) (request : ℕ) (id : List ℕ)
    → slice_get s.flight at ≡ Some (record { follower = follower; request = request; content = contents.LeaseAdd id })
    → not_ready s.leader.copies ≡ None
    → (copy == s.leader.copies.primary.number) ≡ true → IsLower count_of (step s (events.Deliver at copy false) picks).next s
addition_delivered count_of s at copy picks follower request id found ready own =
    delivered_by count_of s at copy picks m found own refl (row_lower count_of s at m id (not_ready s.leader.copies) ready found refl)
  where
    m : Frame
    m = record { follower = follower; request = request; content = contents.LeaseAdd id }
