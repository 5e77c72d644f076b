-- Settling by an apply lowers the measure.
use Rattle.std.specs.List.{AllByRecursion, range_with_len, fold, list_all}
use Rattle.std.specs.Prelude.{slice_get, slice_set}
use Rattle.std.specs.Option.{option_map, option_map_or}
use Rattle.std.proofs.Common.{◌≡◌, ℕ, ◌+◌, ◌-◌, ◌<◌, ◌≤◌, ◌==◌, ◌&&◌, max, true, false, not, nat_lt, inr, inl, Option, Some, None, List, [], ◌∷◌, refl, sym, ◌∙◌, subst, arith}
use Rattle.std.proofs.lemmas.Bool.Decides.{nat_tests}
use Rattle.ccr_op.specs.Operation.{Operation}
use Rattle.ccr_tracker.specs.Numbers.{Numbers, has, marked}
use Rattle.ccr_wire.specs.Message.{Frame}
use Rattle.ccr_op.specs.Sameness.{same_operations}
use Rattle.ccr_op.proofs.Sameness.{same_operations-equal}
use Rattle.ccr_journal.specs.declared.replies.Reply.TheVariants as replies
use Rattle.ccr_journal.specs.declared.events.Event.TheVariants as events
use Rattle.ccr_model.specs.Outcomes.{Outcome, answered, within}
use Rattle.ccr_model.specs.Copies.{Copy, Copies, taking}
use Rattle.ccr_model.specs.Tasks.{Write, write_sent}
use Rattle.ccr_model.specs.Requests.{is_sent}
use Rattle.ccr_model.specs.Followers.{Follower, Work, restoring, replicating}
use Rattle.ccr_model.specs.FollowerRows.{with_copies, Sent, sent_write, has_all, applied, new_in, apply_row}
use Rattle.ccr_model.specs.World.{State, at_follower, for_follower}
use Rattle.ccr_model.specs.Step.{step}
use Rattle.ccr_model.specs.Settling.{may_act, may_apply}
use Rattle.ccr_law_copies.proofs.Sets.{has-marked}
use Rattle.ccr_law_base.proofs.Lists.{All-find, some_equal}
use Rattle.ccr_law_settling.specs.Measure.{total, passing, replica_lacks, copies_lack, work_lacks, follower_lacks, over_followers, rank_of, IsLower}
use Rattle.ccr_law_settling.specs.Within.{AreWritesWithin, IsWithin}
use Rattle.ccr_law_settling.proofs.Measure.Totals.{passing_fewer, le_itself, over_set_same, over_set_less}
use Rattle.ccr_law_settling.proofs.Measure.CopyRows.{guarded_passes, marked_lacks}
use Rattle.ccr_law_base.proofs.Tests.{and_first, and_second, or_first}
use Rattle.std.proofs.lemmas.Bool.{not-true, not_from_true, not_from_false}
use Rattle.std.proofs.lemmas.List.{append-nil}

abbrev numbers_lacking : ℕ → Numbers → ℕ
numbers_lacking count seen = passing (λ n. not (has seen n)) (range_with_len 0 count)

abbrev after_batch : Copy → List Operation → Copy
after_batch c batch = fold {A = Operation} {B = Copy} (λ c op. taking c op.seq (Some op)) c batch

-- a mark leaves no more lacking
marked_no_more : (count : ℕ) (seen : Numbers) (seq : ℕ) → numbers_lacking count (marked seen seq) ≤ numbers_lacking count seen
marked_no_more count seen seq =
    passing_fewer (λ n. not (has seen n)) (λ n. not (has (marked seen seq) n)) 0 count
    (λ n lt is. not_from_false (has seen n) (or_first (has seen n) (seq == n) (sym (has-marked seen seq n) ∙ not-true (has (marked seen seq) n) is)))

batch_no_more : (count : ℕ) (batch : List Operation) (c : Copy) → numbers_lacking count (after_batch c batch).seen ≤ numbers_lacking count c.seen
batch_no_more count [] c = omega arith
batch_no_more count (op ∷ batch) c =
    let rest : numbers_lacking count (after_batch (taking c op.seq (Some op)) batch).seen ≤ numbers_lacking count (marked c.seen op.seq) = batch_no_more count batch (taking c op.seq (Some op)) in
    let here : numbers_lacking count (marked c.seen op.seq) ≤ numbers_lacking count c.seen = marked_no_more count c.seen op.seq in
    omega arith

-- and fewer where one of the operations was not processed
batch_fewer : (count : ℕ) (batch : List Operation) (c : Copy) → AllByRecursion (λ (op : Operation). op.seq < count) batch → has_all batch c ≡ false
    → numbers_lacking count (after_batch c batch).seen < numbers_lacking count c.seen
batch_fewer count [] c low lacks = cc
batch_fewer count (op ∷ batch) c low lacks =
    (elim (has c.seen op.seq) as (λ b. has c.seen op.seq ≡ b → (b && list_all (λ (x : Operation). has c.seen x.seq) batch) ≡ false
    → numbers_lacking count (after_batch (taking c op.seq (Some op)) batch).seen < numbers_lacking count c.seen) [
      | true ↦ λ is rest.
          let same : marked c.seen op.seq ≡ c.seen = rw is refl in
          let less : numbers_lacking count (after_batch (taking c op.seq (Some op)) batch).seen < numbers_lacking count (marked c.seen op.seq)
          = batch_fewer count batch (taking c op.seq (Some op)) low.1 (subst (λ (seen : Numbers). list_all (λ (x : Operation). has seen x.seq) batch ≡ false) (sym same) rest) in
          subst (λ (seen : Numbers). numbers_lacking count (after_batch (taking c op.seq (Some op)) batch).seen < numbers_lacking count seen) same less
      | false ↦ λ isnt rest.
          let less : numbers_lacking count (marked c.seen op.seq) < numbers_lacking count c.seen = marked_lacks count c.seen op.seq low.0 isnt in
          let no_more : numbers_lacking count (after_batch (taking c op.seq (Some op)) batch).seen ≤ numbers_lacking count (marked c.seen op.seq) = batch_no_more count batch (taking c op.seq (Some op)) in
          omega arith
    ]) refl lacks

batch_global : (batch : List Operation) (c : Copy) → (after_batch c batch).global ≡ c.global
batch_global [] c = refl
batch_global (op ∷ batch) c = batch_global batch (taking c op.seq (Some op))

applied_less : (count : ℕ) (batch : List Operation) (s : Copies) → AllByRecursion (λ (op : Operation). op.seq < count) batch → has_all batch s.primary ≡ false
    → copies_lack count (applied batch s) < copies_lack count s
applied_less count batch s low lacks =
    let fewer : numbers_lacking count (after_batch s.primary batch).seen < numbers_lacking count s.primary.seen = batch_fewer count batch s.primary low lacks in
    let same : (after_batch s.primary batch).global ≡ s.primary.global = batch_global batch s.primary in
    sum_less _ _ (after_batch s.primary batch).global _ (total (replica_lacks count) s.replicas) fewer same
  where
    sum_less : (a b g least rest : ℕ) → a < b → g ≡ s.primary.global → a + (count - max g least) + rest < b + (count - s.primary.global) + rest
    sum_less a b g least rest lt e = omega arith

-- ---- the event

sent_within : (count : ℕ) (work : Work) (number : ℕ) (w : Sent) → AreWritesWithin count work → sent_write work number ≡ Some w
    → AllByRecursion (λ (op : Operation). op.seq < count) w.write.batch
sent_within count (restoring r) number w within at = cc
sent_within count (replicating t) number w within at = by (write_sent t number) refl at
  where
    by : (o : Option Write) → write_sent t number ≡ o → option_map {T = Write} {U = Sent} (λ x. record { task = t; write = x }) o ≡ Some w
        → AllByRecursion (λ (op : Operation). op.seq < count) w.write.batch
    by None found is = cc
    by (Some x) found is =
        let low : AllByRecursion (λ (op : Operation). op.seq < count) x.batch
        = (All-find (λ (y : Write). AllByRecursion (λ (op : Operation). op.seq < count) y.batch) (λ y. (y.number == number) && is_sent y.progress) t.writes x within found).0 in
        subst (λ (y : Sent). AllByRecursion (λ (op : Operation). op.seq < count) y.write.batch) (some_equal (record { task = t; write = x }) w is) low

apply_lowers : (count_of : List ℕ → ℕ) (s : State) (f epoch write : ℕ) (batch : List Operation) (own : Follower) (found : Option Sent) → slice_get s.followers f ≡ Some own
    → ((w : Sent) → found ≡ Some w → AllByRecursion (λ (op : Operation). op.seq < count_of own.history) w.write.batch)
    → may_apply own epoch batch found ≡ true
    → IsLower count_of (at_follower s f (apply_row own epoch write batch found)).next s
unfolding apply_row
apply_lowers count_of s f epoch write batch own None at low is = cc
apply_lowers count_of s f epoch write batch own (Some w) at low is =
    let count : ℕ = count_of own.history in
    let both : ((epoch == own.epoch) && same_operations w.write.batch batch) ≡ true = and_first ((epoch == own.epoch) && same_operations w.write.batch batch) (not (has_all batch own.copies.primary)) is in
    let same_epoch : (epoch == own.epoch) ≡ true = and_first (epoch == own.epoch) (same_operations w.write.batch batch) both in
    let same : same_operations w.write.batch batch ≡ true = and_second (epoch == own.epoch) (same_operations w.write.batch batch) both in
    let lacks : has_all batch own.copies.primary ≡ false = not-true (has_all batch own.copies.primary) (and_second ((epoch == own.epoch) && same_operations w.write.batch batch) (not (has_all batch own.copies.primary)) is) in
    let equal : w.write.batch ≡ batch = same_operations-equal w.write.batch batch same in
    let new : Follower = with_copies own (applied batch own.copies) in
    let less : copies_lack count (applied batch own.copies) < copies_lack count own.copies
    = applied_less count batch own.copies (subst (λ (ops : List Operation). AllByRecursion (λ (op : Operation). op.seq < count) ops) equal (low w refl)) lacks in
    subst (λ (o : Outcome Follower). IsLower count_of (at_follower s f o).next s)
    (sym (guarded_passes own _ (answered (replies.Applied (new_in own.copies.primary.seen batch)) new) (not_late epoch own.epoch same_epoch, (not_from_true (same_operations w.write.batch batch) same, tt))))
    (subst (λ (flight : List Frame). IsLower count_of (record s { followers = slice_set s.followers f new; flight = flight }) s) (sym (append-nil s.flight))
    (inr (
      over_set_same (λ f own. rank_of s.flight s.leader.sessions f own.work) f own new s.followers at (le_itself (rank_of s.flight s.leader.sessions f own.work)),
      inl (
          let sum : over_followers (follower_lacks count_of) 0 (slice_set s.followers f new) < over_followers (follower_lacks count_of) 0 s.followers
          = over_set_less (follower_lacks count_of) f own new s.followers at
          (let work : work_lacks count own.work ≡ work_lacks count own.work = refl in omega arith) in
          omega arith
          ),
    )))
  where
    not_late : (a b : ℕ) → (a == b) ≡ true → nat_lt a b ≡ false
    not_late a b e = grind (arith, nat_tests)

pub apply_at : (count_of : List ℕ → ℕ) (s : State) (f epoch write : ℕ) (batch : List Operation) (picks : List ℕ) → IsWithin count_of s → may_act s (events.Apply f epoch write batch) ≡ true
    → IsLower count_of (step s (events.Apply f epoch write batch) picks).next s
apply_at count_of s f epoch write batch picks within may = by (slice_get s.followers f) refl may
  where
    by : (o : Option Follower) → slice_get s.followers f ≡ o → option_map_or (λ own. may_apply own epoch batch (sent_write own.work write)) o false ≡ true
        → IsLower count_of (for_follower s f (λ x. apply_row x epoch write batch (sent_write x.work write)) o).next s
    by None at is = cc
    by (Some own) at is = apply_lowers count_of s f epoch write batch own (sent_write own.work write) at
        (λ w found. sent_within (count_of own.history) own.work write w (within.writes f own at) found) is
