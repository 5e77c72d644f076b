-- Settling by the delivery of a renewal, or of a request for a session or a part of a file, lowers the measure.
use Rattle.std.specs.List.{list_any}
use Rattle.std.specs.Str.{bytes_eq}
use Rattle.std.specs.Prelude.{slice_get, remove}
use Rattle.std.proofs.Common.{◌≡◌, ℕ, ◌+◌, ◌*◌, ◌≤◌, ◌<◌, ◌==◌, ◌&&◌, ◌||◌, Bool, true, false, nat_lt, if◌then◌else◌, inl, inr, Option, Some, None, List, [], ◌∷◌, ◌++◌, length, is_some, is_none, refl, sym, subst, arith}
use Rattle.std.proofs.lemmas.Bool.Decides.{nat_tests}
use Rattle.std.proofs.lemmas.List.Folds.{list_any-append}
use Rattle.ccr_lease.specs.Leases.{Collection, lease_of, renewed}
use Rattle.ccr_lease.specs.declared.retention.Lease.{Lease}
use Rattle.ccr_wire.specs.Message.{Frame, kind_of_content}
use Rattle.ccr_wire.specs.declared.kind.LeaseResult.TheVariants as results
use Rattle.ccr_wire.specs.declared.content.Content.{Content}
use Rattle.ccr_wire.specs.declared.content.Content.TheVariants as contents
use Rattle.ccr_journal.specs.declared.replies.Heard.{Heard as Hearing}
use Rattle.ccr_journal.specs.declared.replies.Heard.TheVariants as heard
use Rattle.ccr_journal.specs.declared.events.Event.TheVariants as events
use Rattle.ccr_model.specs.Restores.{Stage, leasing, opening, fetching, answers}
use Rattle.ccr_model.specs.Outcomes.{Outcome}
use Rattle.ccr_model.specs.Copies.{Copy, Copies, copy_of, has_lease, not_ready}
use Rattle.ccr_model.specs.Leaders.{Leader, Session, KeptRequest, session_of}
use Rattle.ccr_model.specs.LeaderFrames.{hears, answer_to, receive_row, lease_renew_row, new_session, sizes_of, session_open_row, active_at, chunk_of, chunk_row}
use Rattle.ccr_model.specs.Followers.{Follower, Work, restoring, replicating, uuid_of}
use Rattle.ccr_model.specs.World.{State, deliver_row, goes_to_leader, at_named_follower, follower_of}
use Rattle.ccr_model.specs.Step.{step}
use Rattle.ccr_model.specs.Settling.{may_be_answered}
use Rattle.ccr_law_base.proofs.Cases.{on_if}
use Rattle.ccr_law_base.proofs.Lists.{All-append}
use Rattle.ccr_law_settling.specs.Measure.{total, passing, over_followers, opens_closed, is_gone, is_opened_in_vain, is_told_gone, is_in_vain, rank_of_stage, rank_of, is_idle_content, weight_of_frame, weight_of_work, underway_of, lacking_of, IsLower}
use Rattle.ccr_law_settling.proofs.Measure.Totals.{le_itself, over_fewer, total_append}
use Rattle.ccr_law_settling.proofs.Measure.Flights.{IsPlain, ranks_more, idle_more, works_fewer}
use Rattle.ccr_law_settling.proofs.Measure.Syncing.{left_of, answers_of, plain_answers, busy_answers, answers_weigh, carries, keeps, still_kept}
use Rattle.ccr_law_settling.proofs.Measure.Waking.{waits}
use Rattle.ccr_law_settling.proofs.Measure.Taken.{total_remove, any_remove, choice_lower, ranks_left}
use Rattle.ccr_law_settling.proofs.Measure.Delivering.{taken, primary_found}
use Rattle.ccr_law_base.proofs.Tests.{and-more}

-- ---- more sessions

-- each session that was open is open
abbrev pub StaysOpen : List Session → List Session → Type 0
StaysOpen old new = (n : ℕ) → is_none (session_of new n) ≡ true → is_none (session_of old n) ≡ true

pub any_step : {X : Type 0} (new old : X → Bool) (xs : List X) → ((x : X) → new x ≡ true → old x ≡ true) → list_any new xs ≡ true → list_any old xs ≡ true
any_step new old [] step any = cc
any_step new old (x ∷ xs) step any = either (new x) (old x) (list_any new xs) (list_any old xs) (step x) (any_step new old xs step) any
  where
    either : (a b c d : Bool) → (a ≡ true → b ≡ true) → (c ≡ true → d ≡ true) → (a || c) ≡ true → (b || d) ≡ true
    either a true c d first second any = refl
    either true false c d first second any = let e : false ≡ true = first refl in cc
    either false false c d first second any = second any

opens_step : (old new : List Session) → StaysOpen old new → (content : Content) → opens_closed new content ≡ true → opens_closed old content ≡ true
opens_step old new open_still (contents.SessionOpened session history count sizes) is = open_still session is
opens_step old new open_still _ is = cc

rank_opened : (flight : List Frame) (old new : List Session) (f : ℕ) (w : Work) → StaysOpen old new → rank_of flight new f w ≤ rank_of flight old f w
rank_opened flight old new f (replicating t) open_still = omega arith
rank_opened flight old new f (restoring r) open_still = by r.stage
  where
    first : (a b c : Bool) → (a ≡ true → b ≡ true) → (a || c) ≡ true → (b || c) ≡ true
    first a true c step is = refl
    first true false c step is = let e : false ≡ true = step refl in cc
    first false false c step is = is

    by : (stage : Stage) → rank_of_stage flight new f stage ≤ rank_of_stage flight old f stage
    by (leasing a) = omega arith
    by (opening a) = choice_lower (is_opened_in_vain flight new f a) (is_opened_in_vain flight old f a) 2 4 (omega arith)
        (any_step (λ (m : Frame). bytes_eq m.follower (uuid_of f) && answers m a && opens_closed new m.content) (λ (m : Frame). bytes_eq m.follower (uuid_of f) && answers m a && opens_closed old m.content) flight
        (λ m. and-more (bytes_eq m.follower (uuid_of f) && answers m a) (opens_closed new m.content) (opens_closed old m.content) (opens_step old new open_still m.content)))
    by (fetching fetch) = choice_lower (is_in_vain flight new f fetch) (is_in_vain flight old f fetch) 1 3 (omega arith)
        (first (is_none (session_of new fetch.session)) (is_none (session_of old fetch.session)) (is_told_gone flight f fetch) (open_still fetch.session))

ranks_opened : (flight : List Frame) (old new : List Session) (followers : List Follower) → StaysOpen old new
    → over_followers (λ f own. rank_of flight new f own.work) 0 followers ≤ over_followers (λ f own. rank_of flight old f own.work) 0 followers
ranks_opened flight old new followers open_still =
    over_fewer (λ f own. rank_of flight new f own.work) (λ f own. rank_of flight old f own.work) 0 followers (λ f own. rank_opened flight old new f own.work open_still)

-- ---- a message to the leader that is answered

-- the leader, where its leases, its sessions and the number of the next one are these
abbrev pub changed_leader : Leader → Collection → ℕ → List Session → Leader
changed_leader l leases next sessions =
    record l { copies = record l.copies { primary = record l.copies.primary { leases = leases } }; next_session = next; sessions = sessions }

-- the leader's copies, where the primary has these leases
abbrev pub with_these : State → Collection → Copies
with_these s leases = record s.leader.copies { primary = record s.leader.copies.primary { leases = leases } }

pub record IsAnswered (s : State) (m : Frame) (leases : Collection) (sessions : List Session) (content : Content) : Type 0 where
  pub open_still : StaysOpen s.leader.sessions sessions
  pub held_still : (id : List ℕ) → has_lease id s.leader.copies.primary ≡ true → has_lease id (record s.leader.copies.primary { leases = leases }) ≡ true
  pub opens : opens_closed sessions content ≡ false
  pub gone : is_gone content ≡ false
  pub busy : is_idle_content content ≡ false
  pub light : weight_of_frame (record { follower = m.follower; request = m.request; content = content }) ≡ 1
  pub heavy : weight_of_frame m ≡ 3

-- the same, where the ranks are known to be no greater
pub record IsTold (s : State) (at : ℕ) (m : Frame) (leases : Collection) (sessions : List Session) (content : Content) : Type 0 where
  pub ranks : over_followers (λ f own. rank_of (remove s.flight at ++ (answer_to m.follower m.request content ++ answers_of (with_these s leases) s.leader.kept)) sessions f own.work) 0 s.followers
      ≤ over_followers (λ f own. rank_of s.flight s.leader.sessions f own.work) 0 s.followers
  pub held_still : (id : List ℕ) → has_lease id s.leader.copies.primary ≡ true → has_lease id (with_these s leases).primary ≡ true
  pub busy : is_idle_content content ≡ false
  pub light : weight_of_frame (record { follower = m.follower; request = m.request; content = content }) ≡ 1
  pub heavy : weight_of_frame m ≡ 3

pub told_lower : (count_of : List ℕ → ℕ) (s : State) (at : ℕ) (m : Frame) (leases : Collection) (next : ℕ) (sessions : List Session) (what : Hearing) (content : Content) → slice_get s.flight at ≡ Some m
    → IsTold s at m leases sessions content
    → IsLower count_of (taken s at (hears what (changed_leader s.leader leases next sessions) (answer_to m.follower m.request content))).next s
told_lower count_of s at m leases next sessions what content found is =
    inr (
      is.ranks,
      inr (
        le_itself (lacking_of count_of s),
        inr (
          (let same : passing (λ (x : Frame). is_idle_content x.content) (rest ++ all) ≡ passing (λ (x : Frame). is_idle_content x.content) rest
              = idle_more rest all (All-append (λ (x : Frame). is_idle_content x.content ≡ false) sent told (is.busy, tt) (busy_answers copies s.leader.kept)) in
              let one : passing (λ (x : Frame). is_idle_content x.content) rest + (if is_idle_content m.content then 1 else 0) ≡ passing (λ (x : Frame). is_idle_content x.content) s.flight
              = total_remove (λ (x : Frame). if is_idle_content x.content then 1 else 0) s.flight at m found in
              no_more _ _ _ _ _ same one),
          inl less,
        ),
      ),
    )
  where
    no_more : (a b c one followers : ℕ) → a ≡ b → b + one ≡ c → a + followers ≤ c + followers
    no_more a b c one followers same sum = omega arith

    copies : Copies
    copies = with_these s leases

    sent : List Frame
    sent = answer_to m.follower m.request content

    told : List Frame
    told = answers_of copies s.leader.kept

    all : List Frame
    all = sent ++ told

    rest : List Frame
    rest = remove s.flight at

    after : State
    after = record s { leader = record (changed_leader s.leader leases next sessions) { kept = left_of copies s.leader.kept }; flight = rest ++ all }

    joined : (m flight polls kept new rest told left : Bool) → (flight ≡ true → (m || rest) ≡ true) → (kept ≡ true → new ≡ true) → (new ≡ true → (told || left) ≡ true)
        → ((flight || polls) || kept) ≡ true → (((rest || ((m || false) || told)) || polls) || left) ≡ true
    joined m flight polls kept new true told left a b c any = refl
    joined true flight polls kept new false told left a b c any = refl
    joined false flight polls kept new false true left a b c any = refl
    joined false flight true kept new false false left a b c any = refl
    joined false flight false kept new false false true a b c any = refl
    joined false true false kept new false false false a b c any = a refl
    joined false false false true new false false false a b c any = c (b refl)
    joined false false false false new false false false a b c any = any

    kept_step : (uuid : List ℕ) (request : ℕ) (k : KeptRequest) → keeps s.leader.copies.primary uuid request k ≡ true → keeps copies.primary uuid request k ≡ true
    kept_step uuid request k any = and-more (bytes_eq k.follower uuid && (k.request == request)) _ _ (is.held_still k.id) any

    still : (uuid : List ℕ) (request : ℕ) → may_be_answered s uuid request ≡ true → may_be_answered after uuid request ≡ true
    still uuid request any =
        rw (list_any-append (carries uuid request) rest all) (rw (list_any-append (carries uuid request) sent told)
        (joined (carries uuid request m) (list_any (carries uuid request) s.flight) (list_any (waits uuid request) s.leader.polls)
        (list_any (keeps s.leader.copies.primary uuid request) s.leader.kept) (list_any (keeps copies.primary uuid request) s.leader.kept)
        (list_any (carries uuid request) rest) (list_any (carries uuid request) told) (list_any (keeps copies.primary uuid request) (left_of copies s.leader.kept))
        (any_remove (carries uuid request) s.flight at m found)
        (any_step (keeps s.leader.copies.primary uuid request) (keeps copies.primary uuid request) s.leader.kept (kept_step uuid request))
        (still_kept copies copies.primary uuid request s.leader.kept) any))

    less : underway_of after < underway_of s
    less =
        let frames : total weight_of_frame (rest ++ all) ≡ total weight_of_frame rest + total weight_of_frame all = total_append weight_of_frame rest all in
        let both : total weight_of_frame all ≡ total weight_of_frame sent + total weight_of_frame told = total_append weight_of_frame sent told in
        let one : weight_of_frame (record { follower = m.follower; request = m.request; content = content }) ≡ 1 = is.light in
        let three : weight_of_frame m ≡ 3 = is.heavy in
        let gone : total weight_of_frame rest + weight_of_frame m ≡ total weight_of_frame s.flight = total_remove weight_of_frame s.flight at m found in
        let kept : total weight_of_frame told + 2 * length (left_of copies s.leader.kept) ≤ 2 * length s.leader.kept = answers_weigh copies s.leader.kept in
        let works : over_followers (λ f own. weight_of_work (may_be_answered after (uuid_of f)) own.now own.work) 0 s.followers
        ≤ over_followers (λ f own. weight_of_work (may_be_answered s (uuid_of f)) own.now own.work) 0 s.followers
        = works_fewer (may_be_answered after) (may_be_answered s) s.followers still in
        omega arith

pub answered_lower : (count_of : List ℕ → ℕ) (s : State) (at : ℕ) (m : Frame) (leases : Collection) (next : ℕ) (sessions : List Session) (what : Hearing) (content : Content) → slice_get s.flight at ≡ Some m
    → IsAnswered s m leases sessions content
    → IsLower count_of (taken s at (hears what (changed_leader s.leader leases next sessions) (answer_to m.follower m.request content))).next s
answered_lower count_of s at m leases next sessions what content found is =
    told_lower count_of s at m leases next sessions what content found (record {
      ranks =
          (let more : over_followers (λ f own. rank_of (rest ++ (sent ++ told)) sessions f own.work) 0 s.followers ≤ over_followers (λ f own. rank_of rest sessions f own.work) 0 s.followers
          = ranks_more rest (sent ++ told) sessions s.followers (All-append (IsPlain sessions) sent told (record { opens = is.opens; gone = is.gone }, tt) (plain_answers sessions (with_these s leases) s.leader.kept)) in
          let opened : over_followers (λ f own. rank_of rest sessions f own.work) 0 s.followers ≤ over_followers (λ f own. rank_of rest s.leader.sessions f own.work) 0 s.followers
          = ranks_opened rest s.leader.sessions sessions s.followers is.open_still in
          let left : over_followers (λ f own. rank_of rest s.leader.sessions f own.work) 0 s.followers ≤ over_followers (λ f own. rank_of s.flight s.leader.sessions f own.work) 0 s.followers
          = ranks_left s.flight at s.leader.sessions s.followers in
          omega arith);
      held_still = is.held_still;
      busy = is.busy;
      light = is.light;
      heavy = is.heavy;
    })
  where
    sent : List Frame
    sent = answer_to m.follower m.request content

    told : List Frame
    told = answers_of (with_these s leases) s.leader.kept

    rest : List Frame
    rest = remove s.flight at

-- a message that goes to the leader is delivered to the primary
pub delivered_by : (count_of : List ℕ → ℕ) (s : State) (at copy : ℕ) (picks : List ℕ) (m : Frame) → slice_get s.flight at ≡ Some m → (copy == s.leader.copies.primary.number) ≡ true → goes_to_leader (kind_of_content m.content) ≡ true
    → IsLower count_of (taken s at (receive_row s.leader copy m)).next s → IsLower count_of (step s (events.Deliver at copy false) picks).next s
unfolding deliver_row
delivered_by count_of s at copy picks m found own goes lower =
    subst (λ (o : Option Frame). IsLower count_of (deliver_row s at copy false o (copy_of s.leader.copies copy)).next s) (sym found)
    (subst (λ (o : Option Copy). IsLower count_of (deliver_row s at copy false (Some m) o).next s) (sym (primary_found s.leader.copies copy own))
    (subst (λ (b : Bool). IsLower count_of (if b then taken s at (receive_row s.leader copy m) else at_named_follower (record s { flight = remove s.flight at }) m (follower_of s.followers m.follower)).next s) (sym goes) lower))

pub same_leases : (s : State) (id : List ℕ) → has_lease id s.leader.copies.primary ≡ true → has_lease id (record s.leader.copies.primary { leases = s.leader.copies.primary.leases }) ≡ true
same_leases s id is = is

pub same_open : (sessions : List Session) → StaysOpen sessions sessions
same_open sessions n is = is

-- ---- renewals

renewed_there : (id other : List ℕ) (number stamp : ℕ) (leases : List Lease) → is_some (lease_of other leases) ≡ true → is_some (lease_of other (renewed id number stamp leases)) ≡ true
renewed_there id other number stamp [] is = cc
renewed_there id other number stamp (x ∷ leases) is =
    (elim (bytes_eq x.id id) as (λ b. is_some (if bytes_eq (if b then record x { number = number; stamp = stamp } else x).id other
    then Some (if b then record x { number = number; stamp = stamp } else x) else lease_of other (renewed id number stamp leases)) ≡ true) [
      | true ↦ by (record x { number = number; stamp = stamp }) (bytes_eq x.id other) (renewed_there id other number stamp leases) is
      | false ↦ by x (bytes_eq x.id other) (renewed_there id other number stamp leases) is
    ])
  where
    by : (new : Lease) (b : Bool) → (is_some (lease_of other leases) ≡ true → is_some (lease_of other (renewed id number stamp leases)) ≡ true)
        → is_some (if b then Some x else lease_of other leases) ≡ true → is_some (if b then Some new else lease_of other (renewed id number stamp leases)) ≡ true
    by new true step is = refl
    by new false step is = step is

renewal_lower : (count_of : List ℕ → ℕ) (s : State) (at : ℕ) (m : Frame) (id : List ℕ) (number : ℕ) (o : Option Lease) → slice_get s.flight at ≡ Some m → weight_of_frame m ≡ 3
    → IsLower count_of (taken s at (lease_renew_row s.leader m.follower m.request id number o)).next s
unfolding lease_renew_row
renewal_lower count_of s at m id number None found heavy =
    answered_lower count_of s at m s.leader.copies.primary.leases s.leader.next_session s.leader.sessions (heard.Lease results.NotFound 0) (contents.LeaseAnswer results.NotFound 0) found
    (record { open_still = same_open s.leader.sessions; held_still = same_leases s; opens = refl; gone = refl; busy = refl; light = refl; heavy = heavy })
renewal_lower count_of s at m id number (Some kept) found heavy =
    on_if (λ (o : Outcome Leader). IsLower count_of (taken s at o).next s) (nat_lt number kept.number) _ _
    (λ low. answered_lower count_of s at m s.leader.copies.primary.leases s.leader.next_session s.leader.sessions (heard.Lease results.LowNumber kept.number) (contents.LeaseAnswer results.LowNumber kept.number) found
    (record { open_still = same_open s.leader.sessions; held_still = same_leases s; opens = refl; gone = refl; busy = refl; light = refl; heavy = heavy }))
    (λ high. answered_lower count_of s at m
    (record { term = s.leader.copies.primary.leases.term; version = s.leader.copies.primary.leases.version + 1; leases = renewed id number s.leader.now s.leader.copies.primary.leases.leases })
    s.leader.next_session s.leader.sessions (heard.Lease results.Ok number) (contents.LeaseAnswer results.Ok number) found
    (record {
      open_still = same_open s.leader.sessions;
      held_still = λ other is. renewed_there id other number s.leader.now s.leader.copies.primary.leases.leases is;
      opens = refl;
      gone = refl;
      busy = refl;
      light = refl;
      heavy = heavy;
    }))

pub renewal_delivered : (count_of : List ℕ → ℕ) (s : State) (at copy : ℕ) (picks : List ℕ) (follower : List ℕ) (request : ℕ) (id : List ℕ) (number : ℕ)
    → slice_get s.flight at ≡ Some (record { follower = follower; request = request; content = contents.LeaseRenew id number })
    → (copy == s.leader.copies.primary.number) ≡ true → IsLower count_of (step s (events.Deliver at copy false) picks).next s
renewal_delivered count_of s at copy picks follower request id number found own =
    delivered_by count_of s at copy picks (record { follower = follower; request = request; content = contents.LeaseRenew id number }) found own refl
    (renewal_lower count_of s at (record { follower = follower; request = request; content = contents.LeaseRenew id number }) id number (lease_of id s.leader.copies.primary.leases.leases) found refl)

-- ---- sessions

appended_open : (sessions more : List Session) (n : ℕ) → is_none (session_of (sessions ++ more) n) ≡ true → is_none (session_of sessions n) ≡ true
appended_open [] more n is = refl
appended_open (x ∷ sessions) more n is =
    (elim (x.number == n) as (λ b. is_none (if b then Some x else session_of (sessions ++ more) n) ≡ true → is_none (if b then Some x else session_of sessions n) ≡ true) [
      | true ↦ λ there. there
      | false ↦ λ later. appended_open sessions more n later
    ]) is

last_open : (sessions : List Session) (new : Session) → is_none (session_of (sessions ++ new ∷ []) new.number) ≡ false
last_open [] new = let same : (new.number == new.number) ≡ true = grind (arith, nat_tests) in rw same refl
last_open (x ∷ sessions) new =
    on_if (λ (o : Option Session). is_none o ≡ false) (x.number == new.number) (Some x) (session_of (sessions ++ new ∷ []) new.number) (λ is. refl) (λ isnt. last_open sessions new)

pub session_delivered : (count_of : List ℕ → ℕ) (s : State) (at copy : ℕ) (picks : List ℕ) (follower : List ℕ) (request : ℕ)
    → slice_get s.flight at ≡ Some (record { follower = follower; request = request; content = contents.SessionOpen })
    → not_ready s.leader.copies ≡ None
    → (copy == s.leader.copies.primary.number) ≡ true → IsLower count_of (step s (events.Deliver at copy false) picks).next s
unfolding session_open_row
session_delivered count_of s at copy picks follower request found ready own =
    delivered_by count_of s at copy picks m found own refl
    (subst (λ (o : Option ℕ). IsLower count_of (taken s at (session_open_row s.leader follower request o)).next s) (sym ready)
    (answered_lower count_of s at m s.leader.copies.primary.leases (s.leader.next_session + 1) (s.leader.sessions ++ new_session s.leader ∷ []) heard.Done
    (contents.SessionOpened (new_session s.leader).number s.leader.history (new_session s.leader).count (sizes_of (new_session s.leader))) found
    (record {
      open_still = appended_open s.leader.sessions (new_session s.leader ∷ []);
      held_still = same_leases s;
      opens = last_open s.leader.sessions (new_session s.leader);
      gone = refl;
      busy = refl;
      light = refl;
      heavy = refl;
    })))
  where
    m : Frame
    m = record { follower = follower; request = request; content = contents.SessionOpen }

active_open : (number now : ℕ) (sessions : List Session) (n : ℕ) → is_none (session_of (active_at number now sessions) n) ≡ true → is_none (session_of sessions n) ≡ true
active_open number now [] n is = refl
active_open number now (x ∷ sessions) n is =
    on_if (λ (xs : List Session). is_none (session_of xs n) ≡ true → is_none (if x.number == n then Some x else session_of sessions n) ≡ true)
    (x.number == number) (record x { activity = now } ∷ sessions) (x ∷ active_at number now sessions)
    (λ here. head (x.number == n)) (λ past. tail (x.number == n) (active_open number now sessions n)) is
  where
    head : (b : Bool) → is_none (if b then Some (record x { activity = now }) else session_of sessions n) ≡ true → is_none (if b then Some x else session_of sessions n) ≡ true
    head true there = cc
    head false there = there

    tail : (b : Bool) → (is_none (session_of (active_at number now sessions) n) ≡ true → is_none (session_of sessions n) ≡ true)
        → is_none (if b then Some x else session_of (active_at number now sessions) n) ≡ true → is_none (if b then Some x else session_of sessions n) ≡ true
    tail true step there = there
    tail false step there = step there

pub chunk_delivered : (count_of : List ℕ → ℕ) (s : State) (at copy : ℕ) (picks : List ℕ) (follower : List ℕ) (request session file offset size : ℕ)
    → slice_get s.flight at ≡ Some (record { follower = follower; request = request; content = contents.ChunkRequest session file offset size })
    → is_some (session_of s.leader.sessions session) ≡ true
    → (copy == s.leader.copies.primary.number) ≡ true → IsLower count_of (step s (events.Deliver at copy false) picks).next s
unfolding chunk_row
chunk_delivered count_of s at copy picks follower request session file offset size found there own =
    delivered_by count_of s at copy picks m found own refl (by (session_of s.leader.sessions session) there)
  where
    m : Frame
    m = record { follower = follower; request = request; content = contents.ChunkRequest session file offset size }

    by : (o : Option Session) → is_some o ≡ true → IsLower count_of (taken s at (chunk_row s.leader follower request session file offset size o)).next s
    by None there = cc
    by (Some own) there =
        answered_lower count_of s at m s.leader.copies.primary.leases s.leader.next_session (active_at session s.leader.now s.leader.sessions) heard.Done
        (contents.ChunkReply session file offset (chunk_of own file offset size)) found
        (record { open_still = active_open session s.leader.now s.leader.sessions; held_still = same_leases s; opens = refl; gone = refl; busy = refl; light = refl; heavy = refl })
