-- Settling by the end of a write lowers the measure.
use Rattle.std.specs.List.{AllByRecursion}
use Rattle.std.specs.Prelude.{slice_get, slice_set}
use Rattle.std.specs.Option.{option_map, option_map_or}
use Rattle.std.proofs.Common.{◌≡◌, ℕ, ◌+◌, ◌<◌, ◌≤◌, ◌==◌, ◌&&◌, true, false, inr, inl, Option, Some, None, List, [], ◌∷◌, ◌++◌, length, is_none, refl, sym, subst, arith}
use Rattle.ccr_wire.specs.Message.{Frame}
use Rattle.ccr_journal.specs.declared.events.Event.TheVariants as events
use Rattle.ccr_model.specs.Requests.{is_sent}
use Rattle.ccr_model.specs.Tasks.{Task, Write, without_write, write_sent, filled_if_active}
use Rattle.ccr_model.specs.Followers.{Follower, Work, restoring, replicating}
use Rattle.ccr_model.specs.FollowerRows.{with_task, Sent, sent_write, lacks, write_done, written_row}
use Rattle.ccr_model.specs.World.{State, at_follower, for_follower}
use Rattle.ccr_model.specs.Step.{step}
use Rattle.ccr_model.specs.Settling.{may_act, may_end}
use Rattle.ccr_law_base.proofs.Cases.{on_if}
use Rattle.ccr_law_base.proofs.Lists.{All-weaker, All-find}
use Rattle.ccr_law_base.proofs.Tests.{itself}
use Rattle.ccr_law_settling.specs.Measure.{total, over_followers, rank_of, copies_lack, work_lacks, task_lacks, follower_lacks, IsLower}
use Rattle.ccr_law_settling.specs.Within.{KnowsWithin}
use Rattle.ccr_law_settling.proofs.Measure.Totals.{over_set_same, over_set_less}
use Rattle.ccr_law_settling.proofs.Measure.Flights.{IsPlain, ranks_more}
use Rattle.ccr_law_settling.proofs.Measure.Filling.{Fills, filled_fills}

abbrev write_amount : Write → ℕ
write_amount w = 1 + length w.batch

-- each write that ends counts something
each_ends : (writes : List Write) → AllByRecursion (λ (w : Write). total write_amount (without_write w.number writes) < total write_amount writes) writes
each_ends [] = tt
each_ends (x ∷ writes) = (
  rw (itself x.number) (omega arith),
  All-weaker (λ (w : Write). total write_amount (without_write w.number writes) < total write_amount writes)
      (λ (w : Write). total write_amount (without_write w.number (x ∷ writes)) < total write_amount (x ∷ writes))
      (λ w less. on_if (λ (ws : List Write). total write_amount ws < total write_amount (x ∷ writes)) (x.number == w.number) writes (x ∷ without_write w.number writes)
      (λ is. omega arith) (λ isnt. omega arith))
      writes (each_ends writes),
)

-- a follower that lacks less, and sends plain messages
pub sending_lower : (count_of : List ℕ → ℕ) (s : State) (f : ℕ) (own : Follower) (t new : Task) (sent : List Frame) → slice_get s.followers f ≡ Some own → own.work ≡ replicating t
    → AllByRecursion (IsPlain s.leader.sessions) sent → task_lacks (count_of own.history) new < task_lacks (count_of own.history) t
    → IsLower count_of (record s { followers = slice_set s.followers f (with_task own new); flight = s.flight ++ sent }) s
sending_lower count_of s f own t new sent at is plain less =
    inr (
      (let more : over_followers (λ f own. rank_of (s.flight ++ sent) s.leader.sessions f own.work) 0 (slice_set s.followers f (with_task own new))
          ≤ over_followers (λ f own. rank_of s.flight s.leader.sessions f own.work) 0 (slice_set s.followers f (with_task own new))
          = ranks_more s.flight sent s.leader.sessions (slice_set s.followers f (with_task own new)) plain in
          let set : over_followers (λ f own. rank_of s.flight s.leader.sessions f own.work) 0 (slice_set s.followers f (with_task own new))
          ≤ over_followers (λ f own. rank_of s.flight s.leader.sessions f own.work) 0 s.followers
          = over_set_same (λ f own. rank_of s.flight s.leader.sessions f own.work) f own (with_task own new) s.followers at (omega arith) in
          omega arith),
      inl (
          let count : ℕ = count_of own.history in
          let sum : over_followers (follower_lacks count_of) 0 (slice_set s.followers f (with_task own new)) < over_followers (follower_lacks count_of) 0 s.followers
          = over_set_less (follower_lacks count_of) f own (with_task own new) s.followers at
          (let one : work_lacks count (replicating new) < work_lacks count own.work = subst (λ (w : Work). work_lacks count (replicating new) < work_lacks count w) (sym is) less in
          let same : copies_lack count own.copies ≡ copies_lack count own.copies = refl in omega arith) in
          omega arith
          ),
    )

ended_lower : (count_of : List ℕ → ℕ) (s : State) (f number : ℕ) (own : Follower) (work : Work) → slice_get s.followers f ≡ Some own → own.work ≡ work → KnowsWithin (count_of own.history) work
    → may_end own (sent_write work number) ≡ true → IsLower count_of (at_follower s f (written_row own number (sent_write work number))).next s
unfolding written_row
ended_lower count_of s f number own (restoring r) at is within may = cc
ended_lower count_of s f number own (replicating t) at is within may = by (write_sent t number) refl may
  where
    done : (w : Write) → write_sent t number ≡ Some w → (o : Option ℕ) → is_none o ≡ true
        → IsLower count_of (at_follower s f (write_done own (record { task = t; write = w }) o)).next s
    done w found (Some copy) none = cc
    done w found None none =
        let count : ℕ = count_of own.history in
        let before : Task = record t { retry = 0; writes = without_write w.number t.writes } in
        let fewer : total write_amount (without_write w.number t.writes) < total write_amount t.writes
        = (All-find (λ (x : Write). total write_amount (without_write x.number t.writes) < total write_amount t.writes) (λ x. (x.number == number) && is_sent x.progress) t.writes w (each_ends t.writes) found).0 in
        let fills : Fills count s.leader.sessions before (filled_if_active before) = filled_fills count s.leader.sessions before within in
        let le : task_lacks count (filled_if_active before).next ≤ task_lacks count before = fills.lacks in
        let lt : task_lacks count before < task_lacks count t = omega arith in
        sending_lower count_of s f own t (filled_if_active before).next (filled_if_active before).sent at is fills.sent (omega arith)

    by : (o : Option Write) → write_sent t number ≡ o
        → may_end own (option_map {T = Write} {U = Sent} (λ w. record { task = t; write = w }) o) ≡ true
        → IsLower count_of (at_follower s f (written_row own number (option_map {T = Write} {U = Sent} (λ w. record { task = t; write = w }) o))).next s
    by None found none = cc
    by (Some w) found none = done w found (lacks w.batch own.copies) none

pub written_at : (count_of : List ℕ → ℕ) (s : State) (f write : ℕ) (picks : List ℕ) → ((own : Follower) → slice_get s.followers f ≡ Some own → KnowsWithin (count_of own.history) own.work)
    → may_act s (events.Written f write) ≡ true → IsLower count_of (step s (events.Written f write) picks).next s
written_at count_of s f write picks within may = by (slice_get s.followers f) refl may
  where
    by : (o : Option Follower) → slice_get s.followers f ≡ o → option_map_or (λ own. may_end own (sent_write own.work write)) o false ≡ true
        → IsLower count_of (for_follower s f (λ x. written_row x write (sent_write x.work write)) o).next s
    by None at is = cc
    by (Some own) at is = ended_lower count_of s f write own own.work at refl (within own at) is
