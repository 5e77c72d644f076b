-- Settling by a loss lowers the measure.
use Rattle.std.specs.Str.{bytes_eq}
use Rattle.std.specs.Prelude.{slice_get, slice_set}
use Rattle.std.specs.Option.{option_map, option_map_or}
use Rattle.std.proofs.Common.{◌≡◌, ℕ, zero, suc, ◌+◌, ◌-◌, ◌<◌, ◌≤◌, ◌==◌, ◌&&◌, ◌||◌, Bool, true, false, not, nat_lt, if◌then◌else◌, inr, inl, Option, Some, None, List, [], ◌∷◌, length, is_none, refl, sym, subst, arith}
use Rattle.ccr_wire.specs.Message.{Frame}
use Rattle.ccr_journal.specs.declared.events.Event.TheVariants as events
use Rattle.ccr_model.specs.Outcomes.{Outcome}
use Rattle.ccr_model.specs.Requests.{waiting, is_sent, retry_time}
use Rattle.ccr_model.specs.Tasks.{Read, changed_read, sent_reads, read_lost}
use Rattle.ccr_model.specs.Restores.{Restore, Asked, Stage, leasing, opening, fetching, Fetch, changed_ask, lost_in, if_sent, sent_requests}
use Rattle.ccr_model.specs.Leaders.{Session, session_of}
use Rattle.ccr_model.specs.Followers.{Follower, Work, restoring, replicating, uuid_of}
use Rattle.ccr_model.specs.FollowerRows.{task_lost, bootstrap_lost, lose_row}
use Rattle.ccr_model.specs.World.{State, at_follower, for_follower}
use Rattle.ccr_model.specs.Step.{step}
use Rattle.ccr_model.specs.Settling.{may_act, request_at, may_be_answered}
use Rattle.ccr_law_settling.specs.Measure.{total, passing, over_followers, opens_closed, is_gone, is_opened_in_vain, is_told_gone, is_in_vain, rank_of_stage, rank_of, copies_lack, stage_lacks, work_lacks, follower_lacks, old_peeks, weight_of_progress, weight_of_stage, weight_of_work, IsLower}
use Rattle.ccr_law_settling.specs.Within.{AreStageApart, AreRequestsApart}
use Rattle.ccr_law_settling.proofs.Measure.Totals.{le_itself, over_set_same, over_set_less}
use Rattle.ccr_law_settling.proofs.Measure.Taken.{choice_lower}
use Rattle.ccr_law_base.proofs.Tests.{or-more}
use Rattle.ccr_law_settling.proofs.Measure.LostRequests.{lost_lighter, read_weight, with_progress, sent_read_loses, total_changed_read, with_later, sent_ask_loses, length_changed_ask, lost_fewer_sent}
use Rattle.std.proofs.lemmas.Bool.{not-true}
use Rattle.std.proofs.lemmas.List.{append-nil}

-- ---- one follower whose work is lighter

-- the follower's work is under way by less, and nothing else of it counts more
pub record IsLighter (count_of : List ℕ → ℕ) (s : State) (f : ℕ) (own : Follower) (work : Work) : Type 0 where
  pub rank : rank_of s.flight s.leader.sessions f work ≤ rank_of s.flight s.leader.sessions f own.work
  pub lacks : work_lacks (count_of own.history) work ≤ work_lacks (count_of own.history) own.work
  pub peeks : old_peeks work ≤ old_peeks own.work
  pub weight : weight_of_work (may_be_answered s (uuid_of f)) own.now work < weight_of_work (may_be_answered s (uuid_of f)) own.now own.work

pub lighter_lower : (count_of : List ℕ → ℕ) (s : State) (f : ℕ) (own : Follower) (work : Work) → slice_get s.followers f ≡ Some own → IsLighter count_of s f own work
    → IsLower count_of (record s { followers = slice_set s.followers f (record own { work = work }) }) s
lighter_lower count_of s f own work at lighter =
    inr (
      over_set_same (λ f own. rank_of s.flight s.leader.sessions f own.work) f own new s.followers at lighter.rank,
      inr (
        (let le : over_followers (follower_lacks count_of) 0 (slice_set s.followers f new) ≤ over_followers (follower_lacks count_of) 0 s.followers
            = over_set_same (follower_lacks count_of) f own new s.followers at
            (let one : work_lacks count work ≤ work_lacks count own.work = lighter.lacks in
            let same : copies_lack count own.copies ≡ copies_lack count own.copies = refl in omega arith) in
            omega arith),
        inr (
          (let le : over_followers (λ f own. old_peeks own.work + length own.lease_requests) 0 (slice_set s.followers f new) ≤ over_followers (λ f own. old_peeks own.work + length own.lease_requests) 0 s.followers
              = over_set_same (λ f own. old_peeks own.work + length own.lease_requests) f own new s.followers at (let one : old_peeks work ≤ old_peeks own.work = lighter.peeks in omega arith) in
              omega arith),
          inl (
              let lt : over_followers (λ f own. weight_of_work (may_be_answered s (uuid_of f)) own.now own.work) 0 (slice_set s.followers f new)
              < over_followers (λ f own. weight_of_work (may_be_answered s (uuid_of f)) own.now own.work) 0 s.followers
              = over_set_less (λ f own. weight_of_work (may_be_answered s (uuid_of f)) own.now own.work) f own new s.followers at lighter.weight in
              omega arith
              ),
        ),
      ),
    )
  where
    count : ℕ
    count = count_of own.history

    new : Follower
    new = record own { work = work }

-- ---- what is lost

pub no_rank_for_waiting : (flight : List Frame) (sessions : List Session) (f : ℕ) (a : Asked) (until : ℕ) → is_opened_in_vain flight sessions f (record a { progress = waiting until }) ≡ false
no_rank_for_waiting [] sessions f a until = refl
no_rank_for_waiting (m ∷ flight) sessions f a until =
    both (bytes_eq m.follower (uuid_of f)) (m.request == a.request) (opens_closed sessions m.content) _ (no_rank_for_waiting flight sessions f a until)
  where
    both : (a b c rest : Bool) → rest ≡ false → (((a && (b && false)) && c) || rest) ≡ false
    both true true c rest e = e
    both true false c rest e = e
    both false b c rest e = e

gone_fewer : (flight : List Frame) (f : ℕ) (fetch : Fetch) (request until : ℕ) → is_told_gone flight f (record fetch { asks = changed_ask request (with_later (waiting until)) fetch.asks }) ≡ true
    → is_told_gone flight f fetch ≡ true
gone_fewer [] f fetch request until is = cc
gone_fewer (m ∷ flight) f fetch request until is =
    either (bytes_eq m.follower (uuid_of f) && is_gone m.content) _ _ _ _ (lost_fewer_sent m.request request until fetch.asks) (gone_fewer flight f fetch request until) is
  where
    either : (a new old later rest : Bool) → (new ≡ true → old ≡ true) → (later ≡ true → rest ≡ true) → ((a && new) || later) ≡ true → ((a && old) || rest) ≡ true
    either true true old later rest here there is = rw (here refl) refl
    either true false true later rest here there is = refl
    either true false false later rest here there is = there is
    either false new old later rest here there is = there is

pub two_at_most : (b : Bool) → 2 ≤ (if b then 4 else 2)
two_at_most true = omega arith
two_at_most false = omega arith

-- the request that was sent and isn't to be answered
sent_one : (a : Asked) (at request : ℕ) → slice_get (if_sent a) at ≡ Some request → (is_sent a.progress ≡ true) × (a.request ≡ request)
sent_one a at request found = by (is_sent a.progress) refl at found
  where
    by : (b : Bool) → is_sent a.progress ≡ b → (at : ℕ) → slice_get (if b then a.request ∷ [] else []) at ≡ Some request → (is_sent a.progress ≡ true) × (a.request ≡ request)
    by true is zero found = (is, cc)
    by true is (suc at) found = cc
    by false is at found = cc

stage_lighter : (s : State) (f : ℕ) (own : Follower) (r : Restore) (at request until : ℕ) → AreStageApart r.stage
    → slice_get (sent_requests r.stage) at ≡ Some request → may_be_answered s (uuid_of f) request ≡ false
    → (weight_of_stage (may_be_answered s (uuid_of f)) own.now (lost_in request (waiting until) r.stage) < weight_of_stage (may_be_answered s (uuid_of f)) own.now r.stage)
    × (rank_of_stage s.flight s.leader.sessions f (lost_in request (waiting until) r.stage) ≤ rank_of_stage s.flight s.leader.sessions f r.stage)
    × (stage_lacks r.chunk_size (lost_in request (waiting until) r.stage) ≤ stage_lacks r.chunk_size r.stage)
stage_lighter s f own r at request until apart found nothing = by r.stage apart found
  where
    may : ℕ → Bool
    may = may_be_answered s (uuid_of f)

    asked : (a : Asked) → slice_get (if_sent a) at ≡ Some request → weight_of_progress (may a.request) own.now (waiting until) < weight_of_progress (may a.request) own.now a.progress
    asked a found =
        let sent : (is_sent a.progress ≡ true) × (a.request ≡ request) = sent_one a at request found in
        lost_lighter (may a.request) own.now until a.progress sent.0 (subst (λ n. may n ≡ false) (sym sent.1) nothing)

    by : (stage : Stage) → AreStageApart stage → slice_get (sent_requests stage) at ≡ Some request
        → (weight_of_stage may own.now (lost_in request (waiting until) stage) < weight_of_stage may own.now stage)
        × (rank_of_stage s.flight s.leader.sessions f (lost_in request (waiting until) stage) ≤ rank_of_stage s.flight s.leader.sessions f stage)
        × (stage_lacks r.chunk_size (lost_in request (waiting until) stage) ≤ stage_lacks r.chunk_size stage)
    by (leasing a) apart found = (asked a found, le_itself 5, le_itself 0)
    by (opening a) apart found = (asked a found, rw (no_rank_for_waiting s.flight s.leader.sessions f a until) (two_at_most (is_opened_in_vain s.flight s.leader.sessions f a)), le_itself 0)
    by (fetching fetch) apart found = (
      sent_ask_loses may own.now until fetch.asks at request apart found nothing,
      choice_lower (is_in_vain s.flight s.leader.sessions f (record fetch { asks = changed_ask request (with_later (waiting until)) fetch.asks })) (is_in_vain s.flight s.leader.sessions f fetch) 1 3 (omega arith)
          (or-more (is_none (session_of s.leader.sessions fetch.session)) _ _ (gone_fewer s.flight f fetch request until)),
      (let e : length (changed_ask request (with_later (waiting until)) fetch.asks) ≡ length fetch.asks = length_changed_ask request (with_later (waiting until)) fetch.asks in omega arith),
    )

-- ---- the event

lost_lower : (count_of : List ℕ → ℕ) (s : State) (f : ℕ) (own : Follower) (at request : ℕ) (work : Work) → slice_get s.followers f ≡ Some own → own.work ≡ work → AreRequestsApart work
    → request_at work at ≡ Some request → may_be_answered s (uuid_of f) request ≡ false
    → IsLower count_of (at_follower s f (elim work as (λ _. Outcome Follower) [
      | restoring r ↦ bootstrap_lost own r at (slice_get (sent_requests r.stage) at)
      | replicating t ↦ task_lost own t at (slice_get (sent_reads t) at)
    ])).next s
lost_lower count_of s f own at request (restoring r) there is apart found nothing =
    subst (λ (o : Option ℕ). IsLower count_of (at_follower s f (bootstrap_lost own r at o)).next s) (sym found)
    (subst (λ (flight : List Frame). IsLower count_of (record s { followers = slice_set s.followers f (record own { work = after }); flight = flight }) s) (sym (append-nil s.flight))
    (lighter_lower count_of s f own after there (record {
      rank = subst (λ (w : Work). rank_of s.flight s.leader.sessions f after ≤ rank_of s.flight s.leader.sessions f w) (sym is) parts.1;
      lacks = subst (λ (w : Work). work_lacks (count_of own.history) after ≤ work_lacks (count_of own.history) w) (sym is) parts.2;
      peeks = omega arith;
      weight = subst (λ (w : Work). weight_of_work (may_be_answered s (uuid_of f)) own.now after < weight_of_work (may_be_answered s (uuid_of f)) own.now w) (sym is) parts.0;
    })))
  where
    until : ℕ
    until = retry_time r.max_retry_delay own.now (r.retry + 1)

    after : Work
    after = restoring (record r { retry = r.retry + 1; stage = lost_in request (waiting until) r.stage })

    parts : (weight_of_stage (may_be_answered s (uuid_of f)) own.now (lost_in request (waiting until) r.stage) < weight_of_stage (may_be_answered s (uuid_of f)) own.now r.stage)
        × (rank_of_stage s.flight s.leader.sessions f (lost_in request (waiting until) r.stage) ≤ rank_of_stage s.flight s.leader.sessions f r.stage)
        × (stage_lacks r.chunk_size (lost_in request (waiting until) r.stage) ≤ stage_lacks r.chunk_size r.stage)
    parts = stage_lighter s f own r at request until apart found nothing
lost_lower count_of s f own at request (replicating t) there is apart found nothing = by (slice_get (sent_reads t) at) refl found
  where
    until : ℕ
    until = retry_time t.params.max_retry_delay own.now (t.retry + 1)

    may : ℕ → Bool
    may = may_be_answered s (uuid_of f)

    one : (r : Read) → slice_get (sent_reads t) at ≡ Some r → may r.request ≡ false → IsLower count_of (at_follower s f (task_lost own t at (Some r))).next s
    one r at_r lost =
        let after : Work = replicating (read_lost t own.now r) in
        let peeks : passing (λ (r : Read). (r.from == r.to) && nat_lt r.from t.next) (changed_read r.request (with_progress (waiting until)) t.reads)
        ≡ passing (λ (r : Read). (r.from == r.to) && nat_lt r.from t.next) t.reads
        = total_changed_read (λ (r : Read). if (r.from == r.to) && nat_lt r.from t.next then 1 else 0) r.request (with_progress (waiting until)) (λ r. refl) t.reads in
        let sizes : total (λ (r : Read). r.to - r.from) (changed_read r.request (with_progress (waiting until)) t.reads) ≡ total (λ (r : Read). r.to - r.from) t.reads
        = total_changed_read (λ (r : Read). r.to - r.from) r.request (with_progress (waiting until)) (λ r. refl) t.reads in
        let weights : total (read_weight may own.now) (changed_read r.request (with_progress (waiting until)) t.reads) < total (read_weight may own.now) t.reads
        = sent_read_loses may own.now until t at r apart at_r lost in
        let lacks : work_lacks (count_of own.history) after ≤ work_lacks (count_of own.history) (replicating t) = omega arith in
        let weight : weight_of_work may own.now after < weight_of_work may own.now (replicating t) = omega arith in
        let old : old_peeks after ≤ old_peeks (replicating t) = omega arith in
        subst (λ (flight : List Frame). IsLower count_of (record s { followers = slice_set s.followers f (record own { work = after }); flight = flight }) s) (sym (append-nil s.flight))
        (lighter_lower count_of s f own after there (record {
          rank = subst (λ (w : Work). 0 ≤ rank_of s.flight s.leader.sessions f w) (sym is) (omega arith);
          lacks = subst (λ (w : Work). work_lacks (count_of own.history) after ≤ work_lacks (count_of own.history) w) (sym is) lacks;
          peeks = subst (λ (w : Work). old_peeks after ≤ old_peeks w) (sym is) old;
          weight = subst (λ (w : Work). weight_of_work may own.now after < weight_of_work may own.now w) (sym is) weight;
        }))

    by : (o : Option Read) → slice_get (sent_reads t) at ≡ o → option_map {T = Read} {U = ℕ} (λ r. r.request) o ≡ Some request
        → IsLower count_of (at_follower s f (task_lost own t at o)).next s
    by None at_r same = cc
    by (Some r) at_r same = one r at_r (subst (λ n. may n ≡ false) (sym (number r.request request same)) nothing)
      where
        number : (a b : ℕ) → Some a ≡ Some b → a ≡ b
        number a b e = cc

pub lose_at : (count_of : List ℕ → ℕ) (s : State) (f at : ℕ) (picks : List ℕ) → ((own : Follower) → slice_get s.followers f ≡ Some own → AreRequestsApart own.work)
    → may_act s (events.Lose f at) ≡ true → IsLower count_of (step s (events.Lose f at) picks).next s
unfolding lose_row
lose_at count_of s f at picks apart may = by (slice_get s.followers f) refl may
  where
    by_request : (own : Follower) → slice_get s.followers f ≡ Some own → (o : Option ℕ) → request_at own.work at ≡ o
        → option_map_or (λ (request : ℕ). not (may_be_answered s (uuid_of f) request)) o false ≡ true → IsLower count_of (at_follower s f (lose_row own at)).next s
    by_request own there None found is = cc
    by_request own there (Some request) found is = lost_lower count_of s f own at request own.work there refl (apart own there) found (not-true (may_be_answered s (uuid_of f) request) is)

    by : (o : Option Follower) → slice_get s.followers f ≡ o
        → option_map_or (λ (own : Follower). option_map_or (λ (request : ℕ). not (may_be_answered s (uuid_of f) request)) (request_at own.work at) false) o false ≡ true
        → IsLower count_of (for_follower s f (λ x. lose_row x at) o).next s
    by None there is = cc
    by (Some own) there is = by_request own there (request_at own.work at) refl is
