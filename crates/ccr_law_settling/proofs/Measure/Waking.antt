-- Settling by a wake lowers the measure.
use Rattle.std.specs.List.{list_any}
use Rattle.std.specs.Str.{bytes_eq}
use Rattle.std.specs.Prelude.{slice_get}
use Rattle.std.specs.Option.{option_map_or}
use Rattle.std.proofs.Common.{◌≡◌, ℕ, zero, suc, ◌+◌, ◌-◌, ◌<◌, ◌≤◌, ◌==◌, ◌&&◌, ◌||◌, Bool, true, false, not, nat_lt, if◌then◌else◌, inr, inl, Option, Some, None, List, [], ◌∷◌, ◌++◌, length, is_some, refl, sym, ap, subst, arith}
use Rattle.std.proofs.lemmas.Bool.Decides.{nat_tests}
use Rattle.std.proofs.lemmas.List.Folds.{list_any-append}
use Rattle.ccr_op.specs.Operation.{Operation}
use Rattle.ccr_wire.specs.Message.{Frame, kind_of_content}
use Rattle.ccr_wire.specs.declared.content.Content.{Content}
use Rattle.ccr_wire.specs.declared.content.Content.TheVariants as contents
use Rattle.ccr_journal.specs.declared.events.Event.TheVariants as events
use Rattle.ccr_model.specs.Operations.{has_number, op_at}
use Rattle.ccr_model.specs.Stores.{held}
use Rattle.ccr_model.specs.Outcomes.{Outcome}
use Rattle.ccr_model.specs.Copies.{Copy, copy_of}
use Rattle.ccr_law_base.proofs.Lists.{some_equal}
use Rattle.ccr_model.specs.Leaders.{Leader, Session, Poll, polls_of, without_poll}
use Rattle.ccr_model.specs.LeaderFrames.{answer_to, answer_read, read_ops, wake_row, polled_copy}
use Rattle.ccr_model.specs.Followers.{Follower, uuid_of}
use Rattle.ccr_model.specs.World.{State, at_leader, goes_to_leader}
use Rattle.ccr_model.specs.Step.{step, woken}
use Rattle.ccr_model.specs.Settling.{may_wake, may_act, may_be_answered}
use Rattle.ccr_law_base.proofs.Cases.{on_if}
use Rattle.ccr_law_settling.specs.Measure.{total, passing, over_followers, opens_closed, is_gone, is_idle_content, weight_of_frame, weight_of_work, underway_of, lacking_of, IsLower}
use Rattle.ccr_law_settling.specs.Within.{HoldsReads, IsReadable}
use Rattle.ccr_law_settling.proofs.Measure.Totals.{le_itself, total_append}
use Rattle.ccr_law_settling.proofs.Measure.CopyRows.{guarded_passes}
use Rattle.ccr_law_settling.proofs.Measure.Flights.{ranks_more, idle_more, works_fewer}
use Rattle.ccr_law_settling.proofs.Measure.Reading.{read_some}

-- ---- the poll that leaves

abbrev pub waits : List ℕ → ℕ → Poll → Bool
waits uuid request p = bytes_eq p.follower uuid && (p.request == request)

one_poll_less : (uuid : List ℕ) (at : ℕ) (p : Poll) (polls : List Poll) → slice_get (polls_of polls uuid) at ≡ Some p → length (without_poll uuid at polls) + 1 ≡ length polls
one_poll_less uuid at p [] found = cc
one_poll_less uuid at p (x ∷ polls) found =
    (elim (bytes_eq x.follower uuid) as (λ b. slice_get (if b then x ∷ polls_of polls uuid else polls_of polls uuid) at ≡ Some p
    → length (if b then (if at == 0 then polls else x ∷ without_poll uuid (at - 1) polls) else x ∷ without_poll uuid at polls) + 1 ≡ length (x ∷ polls)) [
      | true ↦ own at (λ n. one_poll_less uuid n p polls)
      | false ↦ λ later. (let rest : length (without_poll uuid at polls) + 1 ≡ length polls = one_poll_less uuid at p polls later in omega arith)
    ]) found
  where
    own : (at : ℕ) → ((n : ℕ) → slice_get (polls_of polls uuid) n ≡ Some p → length (without_poll uuid n polls) + 1 ≡ length polls)
        → slice_get (x ∷ polls_of polls uuid) at ≡ Some p
        → length (if at == 0 then polls else x ∷ without_poll uuid (at - 1) polls) + 1 ≡ length (x ∷ polls)
    own zero step found = omega arith
    own (suc n) step found =
        let rest : length (without_poll uuid n polls) + 1 ≡ length polls = step n found in
        let no : (suc n == 0) ≡ false = grind (arith, nat_tests) in
        let e : suc n - 1 ≡ n = omega arith in
        rw no (rw e (omega arith))

-- each poll that was there is the one that leaves, or is left
still_waits : (uuid : List ℕ) (at : ℕ) (p : Poll) (polls : List Poll) (other : List ℕ) (request : ℕ) → slice_get (polls_of polls uuid) at ≡ Some p
    → list_any (waits other request) polls ≡ true → (waits other request p || list_any (waits other request) (without_poll uuid at polls)) ≡ true
still_waits uuid at p [] other request found is = cc
still_waits uuid at p (x ∷ polls) other request found is =
    (elim (bytes_eq x.follower uuid) as (λ b. slice_get (if b then x ∷ polls_of polls uuid else polls_of polls uuid) at ≡ Some p
    → (waits other request p || list_any (waits other request) (if b then (if at == 0 then polls else x ∷ without_poll uuid (at - 1) polls) else x ∷ without_poll uuid at polls)) ≡ true) [
      | true ↦ own at (λ n. still_waits uuid n p polls other request)
      | false ↦ λ later. past (waits other request x) (list_any (waits other request) polls) (waits other request p) (list_any (waits other request) (without_poll uuid at polls)) is (still_waits uuid at p polls other request later)
    ]) found
  where
    past : (x rest p left : Bool) → (x || rest) ≡ true → (rest ≡ true → (p || left) ≡ true) → (p || (x || left)) ≡ true
    past x rest true left is step = refl
    past true rest false left is step = refl
    past false true false left is step = step refl
    past false false false left is step = cc

    same : (x p rest : Bool) → x ≡ p → (x || rest) ≡ true → (p || rest) ≡ true
    same x p rest e is = subst (λ b. (b || rest) ≡ true) e is

    own : (at : ℕ) → ((n : ℕ) → slice_get (polls_of polls uuid) n ≡ Some p → list_any (waits other request) polls ≡ true → (waits other request p || list_any (waits other request) (without_poll uuid n polls)) ≡ true)
        → slice_get (x ∷ polls_of polls uuid) at ≡ Some p
        → (waits other request p || list_any (waits other request) (if at == 0 then polls else x ∷ without_poll uuid (at - 1) polls)) ≡ true
    own zero step found = same (waits other request x) (waits other request p) (list_any (waits other request) polls) (ap (waits other request) (some_equal x p found)) is
    own (suc n) step found =
        let no : (suc n == 0) ≡ false = grind (arith, nat_tests) in
        let e : suc n - 1 ≡ n = omega arith in
        rw no (rw e (past (waits other request x) (list_any (waits other request) polls) (waits other request p) (list_any (waits other request) (without_poll uuid n polls)) is (step n found)))

-- ---- the answer

-- an answer to a read that tells something
pub record Tells (sessions : List Session) (content : Content) : Type 0 where
  pub opens : opens_closed sessions content ≡ false
  pub gone : is_gone content ≡ false
  pub busy : is_idle_content content ≡ false
  pub light : goes_to_leader (kind_of_content content) ≡ false

three : (flight polls kept answer left : Bool) → (polls ≡ true → (answer || left) ≡ true) → ((flight || polls) || kept) ≡ true → (((flight || (answer || false)) || left) || kept) ≡ true
three true polls kept answer left step is = refl
three false true kept true left step is = refl
three false true kept false left step is = rw (step refl) refl
three false false true true left step is = refl
three false false true false true step is = refl
three false false true false false step is = refl
three false false false answer left step is = cc

-- a number that is held is found
pub found_number : (ops : List Operation) (n : ℕ) → has_number ops n ≡ true → is_some (op_at n ops) ≡ true
found_number [] n is = cc
found_number (op ∷ ops) n is =
    (elim (op.seq == n) as (λ b. (b || has_number ops n) ≡ true → is_some (if b then Some op else op_at n ops) ≡ true) [
      | true ↦ λ here. refl
      | false ↦ λ later. found_number ops n later
    ]) is

woken_lower : (count_of : List ℕ → ℕ) (s : State) (uuid : List ℕ) (at : ℕ) (p : Poll) (content : Content) → slice_get (polls_of s.leader.polls uuid) at ≡ Some p → Tells s.leader.sessions content
    → IsLower count_of (record s { leader = record s.leader { polls = without_poll uuid at s.leader.polls }; flight = s.flight ++ answer_to p.follower p.request content }) s
woken_lower count_of s uuid at p content found tells =
    inr (
      ranks_more s.flight sent s.leader.sessions s.followers (record { opens = tells.opens; gone = tells.gone }, tt),
      inr (
        le_itself (lacking_of count_of s),
        inr (
          (let same : passing (λ (m : Frame). is_idle_content m.content) (s.flight ++ sent) ≡ passing (λ (m : Frame). is_idle_content m.content) s.flight
              = idle_more s.flight sent (tells.busy, tt) in omega arith),
          inl less,
        ),
      ),
    )
  where
    sent : List Frame
    sent = answer_to p.follower p.request content

    after : State
    after = record s { leader = record s.leader { polls = without_poll uuid at s.leader.polls }; flight = s.flight ++ sent }

    still : (other : List ℕ) (request : ℕ) → may_be_answered s other request ≡ true → may_be_answered after other request ≡ true
    still other request is =
        rw (list_any-append (λ (m : Frame). bytes_eq m.follower other && (m.request == request)) s.flight sent)
        (three (list_any (λ (m : Frame). bytes_eq m.follower other && (m.request == request)) s.flight) (list_any (waits other request) s.leader.polls) _
        (waits other request p) (list_any (waits other request) (without_poll uuid at s.leader.polls)) (still_waits uuid at p s.leader.polls other request found) is)

    less : underway_of after < underway_of s
    less =
        let frames : total weight_of_frame (s.flight ++ sent) ≡ total weight_of_frame s.flight + total weight_of_frame sent = total_append weight_of_frame s.flight sent in
        let one : total weight_of_frame sent ≡ 1 = rw tells.light refl in
        let polls : length (without_poll uuid at s.leader.polls) + 1 ≡ length s.leader.polls = one_poll_less uuid at p s.leader.polls found in
        let works : over_followers (λ f own. weight_of_work (may_be_answered after (uuid_of f)) own.now own.work) 0 s.followers
        ≤ over_followers (λ f own. weight_of_work (may_be_answered s (uuid_of f)) own.now own.work) 0 s.followers
        = works_fewer (may_be_answered after) (may_be_answered s) s.followers still in
        omega arith

answer_lower : (count_of : List ℕ → ℕ) (s : State) (uuid : List ℕ) (at : ℕ) (p : Poll) (c : Copy) → slice_get (polls_of s.leader.polls uuid) at ≡ Some p → HoldsReads c → nat_lt p.from c.global ≡ true
    → IsLower count_of (at_leader s (answer_read s.leader p c (record s.leader { polls = without_poll uuid at s.leader.polls }))).next s
answer_lower count_of s uuid at p c found holds brings =
    on_if (λ (o : Outcome Leader). IsLower count_of (at_leader s o).next s) (not (bytes_eq p.history s.leader.history)) _ _
    (λ other. woken_lower count_of s uuid at p (contents.ReadHistory s.leader.history) found (record { opens = refl; gone = refl; busy = refl; light = refl }))
    (λ same. on_if (λ (o : Outcome Leader). IsLower count_of (at_leader s o).next s) (nat_lt p.from c.floor) _ _
    (λ low. woken_lower count_of s uuid at p (contents.ReadMissing p.from c.floor) found (record { opens = refl; gone = refl; busy = refl; light = refl }))
    (λ high. woken_lower count_of s uuid at p (contents.ReadReply p.from c.global (read_ops c p.from p.max_ops p.max_bytes)) found (record {
      opens = refl;
      gone = refl;
      busy = read_some c p.from p.max_ops p.max_bytes (found_number (held c.store) p.from (holds p.from (grind (arith, nat_tests)) (grind (arith, nat_tests)))) (grind (arith, nat_tests));
      light = refl;
    })))

pub wake_at : (count_of : List ℕ → ℕ) (s : State) (f at : ℕ) (picks : List ℕ) → IsReadable s → may_act s (events.Wake f at) ≡ true
    → IsLower count_of (step s (events.Wake f at) picks).next s
unfolding wake_row
wake_at count_of s f at picks readable may = by_follower (slice_get s.followers f) may
  where
    by_copy : (p : Poll) (o : Option Copy) → slice_get (polls_of s.leader.polls (uuid_of f)) at ≡ Some p → copy_of s.leader.copies p.copy ≡ o
        → option_map_or (λ (c : Copy). nat_lt p.from c.global) o false ≡ true
        → IsLower count_of (at_leader s (wake_row s.leader (uuid_of f) at (Some p) o)).next s
    by_copy p None found is brings = cc
    by_copy p (Some c) found is brings =
        subst (λ (o : Outcome Leader). IsLower count_of (at_leader s o).next s)
        (sym (guarded_passes s.leader _ (answer_read s.leader p c (record s.leader { polls = without_poll (uuid_of f) at s.leader.polls })) (rw brings refl, tt)))
        (answer_lower count_of s (uuid_of f) at p c found (readable p.copy c is) brings)

    by_poll : (o : Option Poll) → slice_get (polls_of s.leader.polls (uuid_of f)) at ≡ o
        → option_map_or (λ (p : Poll). option_map_or (λ (c : Copy). nat_lt p.from c.global) (copy_of s.leader.copies p.copy) false) o false ≡ true
        → IsLower count_of (at_leader s (wake_row s.leader (uuid_of f) at o (polled_copy s.leader.copies o))).next s
    by_poll None found is = cc
    by_poll (Some p) found is = by_copy p (copy_of s.leader.copies p.copy) found refl is

    by_follower : (o : Option Follower) → option_map_or (λ (own : Follower). may_wake s f at) o false ≡ true → IsLower count_of (woken s f at o).next s
    by_follower None is = cc
    by_follower (Some own) is = by_poll (slice_get (polls_of s.leader.polls (uuid_of f)) at) refl is
