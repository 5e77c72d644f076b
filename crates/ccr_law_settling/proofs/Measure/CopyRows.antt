-- What a replication, an ack, a sync and a resync make of what copies lack.
use Rattle.std.specs.List.{range_with_len, list_any}
use Rattle.std.specs.Option.{option_map_or}
use Rattle.std.proofs.Common.{◌≡◌, ℕ, ◌+◌, ◌-◌, ◌<◌, ◌≤◌, ◌==◌, ◌&&◌, ◌||◌, max, Bool, true, false, not, nat_lt, if◌then◌else◌, Option, Some, None, List, [], ◌∷◌, refl, sym, ◌∙◌, arith}
use Rattle.std.proofs.lemmas.Bool.Decides.{nat_tests}
use Rattle.ccr_tracker.specs.Numbers.{Numbers, has, marked, kept_below}
use Rattle.ccr_journal.specs.declared.replies.Refusal.{Refusal}
use Rattle.ccr_journal.specs.declared.replies.Reply.{Reply}
use Rattle.ccr_journal.specs.declared.replies.Reply.TheVariants as replies
use Rattle.ccr_model.specs.Operations.{op_at}
use Rattle.ccr_model.specs.Stores.{held}
use Rattle.ccr_model.specs.Outcomes.{Outcome, answered, guarded}
use Rattle.ccr_model.specs.Copies.{Replica, Copies, replica_of, replaced, least_known, taking, knowing}
use Rattle.ccr_model.specs.CopyRows.{replicate_row, ack_row}
use Rattle.ccr_model.specs.LeaderRows.{resync_row, resync_mark, resynced_copy, held_from}
use Rattle.ccr_model.specs.Settling.{may_replicate, may_ack, may_resync}
use Rattle.ccr_law_base.proofs.Cases.{AreFalse}
use Rattle.ccr_law_copies.proofs.Sets.{has-marked, has-marked_all, has-kept}
use Rattle.ccr_law_base.proofs.Lists.{any-range}
use Rattle.ccr_law_base.proofs.Tests.{itself, and_first, and_second, or_first}
use Rattle.ccr_law_settling.specs.Measure.{total, passing, copy_lacks, replica_lacks, copies_lack}
use Rattle.ccr_law_settling.proofs.Measure.Totals.{passing_fewer, passing_less, total_replaced}
use Rattle.std.proofs.lemmas.Bool.{not-true, not_from_true, not_from_false}

-- ---- tests

-- where no refusal comes, the effect does
pub guarded_passes : {S : Type 0} (s : S) (guards : List (Bool × Refusal)) (effect : Outcome S) → AreFalse guards → guarded s guards effect ≡ effect
unfolding guarded
guarded_passes s [] effect pass = refl
guarded_passes s (guard ∷ guards) effect pass = rw pass.0 (guarded_passes s guards effect pass.1)

-- ---- what copies lack

-- one number more that is below the count
pub marked_lacks : (count : ℕ) (seen : Numbers) (seq : ℕ) → seq < count → has seen seq ≡ false
    → passing (λ n. not (has (marked seen seq) n)) (range_with_len 0 count) < passing (λ n. not (has seen n)) (range_with_len 0 count)
marked_lacks count seen seq below out =
    passing_less (λ n. not (has seen n)) (λ n. not (has (marked seen seq) n)) 0 count seq
    (λ n lt is. not_from_false (has seen n) (or_first (has seen n) (seq == n) (sym (has-marked seen seq n) ∙ not-true (has (marked seen seq) n) is)))
    (omega arith) (omega arith) (not_from_false (has seen seq) out)
    (not_from_true (has (marked seen seq) seq) (has-marked seen seq seq ∙ rw out (itself seq)))

-- one replica lacks less, and the primary no more
pub replaced_lacks : (count copy : ℕ) (s : Copies) (r new : Replica) (global : ℕ) → replica_of s copy ≡ Some r → s.primary.global ≤ global
    → replica_lacks count new < replica_lacks count r
    → copies_lack count (record s { replicas = replaced copy new s.replicas; primary = record s.primary { global = global } }) < copies_lack count s
replaced_lacks count copy s r new global found up less =
    let sums : total (replica_lacks count) (replaced copy new s.replicas) + replica_lacks count r ≡ total (replica_lacks count) s.replicas + replica_lacks count new
    = total_replaced (replica_lacks count) copy new r s.replicas found in
    sum_less (passing (λ n. not (has s.primary.seen n)) (range_with_len 0 count)) (replica_lacks count new) (replica_lacks count r)
    (total (replica_lacks count) (replaced copy new s.replicas)) (total (replica_lacks count) s.replicas) sums less
  where
    sum_less : (p a b x y : ℕ) → x + b ≡ y + a → a < b → p + (count - global) + x < p + (count - s.primary.global) + y
    sum_less p a b x y e lt = omega arith

-- ---- the rows

-- what a row comes to, where one replica and the global count change
pub record Lowers (count : ℕ) (s : Copies) (o : Outcome Copies) : Type 0 where
  pub reply : Reply
  pub replicas : List Replica
  pub global : ℕ
  pub is : o ≡ answered reply (record s { replicas = replicas; primary = record s.primary { global = global } })
  pub lower : copies_lack count (record s { replicas = replicas; primary = record s.primary { global = global } }) < copies_lack count s

pub replicate_lowers : (count : ℕ) (s : Copies) (copy seq : ℕ) → (has s.primary.seen seq ≡ true → seq < count) → (o : Option Replica) → replica_of s copy ≡ o
    → option_map_or (may_replicate seq s) o false ≡ true → Lowers count s (replicate_row s copy seq o)
unfolding replicate_row
replicate_lowers count s copy seq low None at is = cc
replicate_lowers count s copy seq low (Some r) at is =
    let both : (r.resynced && has s.primary.seen seq) ≡ true = and_first (r.resynced && has s.primary.seen seq) (not (has r.copy.seen seq)) is in
    let resynced : r.resynced ≡ true = and_first r.resynced (has s.primary.seen seq) both in
    let there : has s.primary.seen seq ≡ true = and_second r.resynced (has s.primary.seen seq) both in
    let out : has r.copy.seen seq ≡ false = not-true (has r.copy.seen seq) (and_second (r.resynced && has s.primary.seen seq) (not (has r.copy.seen seq)) is) in
    let new : Replica = record r { copy = knowing s.primary.global (taking r.copy seq (op_at seq (held s.primary.store))) } in
    let fewer : passing (λ n. not (has (marked r.copy.seen seq) n)) (range_with_len 0 count) < passing (λ n. not (has r.copy.seen n)) (range_with_len 0 count)
    = marked_lacks count r.copy.seen seq (low there) out in
    record {
      reply = replies.Done;
      replicas = replaced copy new s.replicas;
      global = s.primary.global;
      is = guarded_passes _ _ _ (not_from_true r.resynced resynced, (not_from_true (has s.primary.seen seq) there, tt));
      lower = replaced_lacks count copy s r new s.primary.global at (omega arith)
          (replica_less (passing (λ n. not (has (marked r.copy.seen seq) n)) (range_with_len 0 count)) (passing (λ n. not (has r.copy.seen n)) (range_with_len 0 count))
          (count - max r.copy.global s.primary.global) (count - r.copy.global) (count - r.known) _ _ fewer (omega arith));
    }
  where
    replica_less : (a b c d e f g : ℕ) → a < b → c ≤ d → a + c + e + f + g < b + d + e + f + g
    replica_less a b c d e f g less le = omega arith

pub ack_lowers : (count : ℕ) (s : Copies) (copy : ℕ) → (o : Option Replica) → replica_of s copy ≡ o
    → ((r : Replica) → o ≡ Some r → r.resynced ≡ true → (r.known ≤ r.copy.seen.count) × (r.copy.seen.count ≤ count))
    → option_map_or (may_ack s) o false ≡ true → Lowers count s (ack_row s copy o)
unfolding ack_row
ack_lowers count s copy None at within is = cc
ack_lowers count s copy (Some r) at within is =
    let resynced : r.resynced ≡ true = and_first r.resynced (nat_lt r.known r.copy.seen.count || not r.acked) is in
    let late : (nat_lt r.known r.copy.seen.count || not r.acked) ≡ true = and_second r.resynced (nat_lt r.known r.copy.seen.count || not r.acked) is in
    let bounds : (r.known ≤ r.copy.seen.count) × (r.copy.seen.count ≤ count) = within r refl resynced in
    let new : Replica = record r { known = r.copy.seen.count; acked = true } in
    record {
      reply = replies.Acked (max s.primary.global (least_known s.primary.seen.count (replaced copy new s.replicas)));
      replicas = replaced copy new s.replicas;
      global = max s.primary.global (least_known s.primary.seen.count (replaced copy new s.replicas));
      is = guarded_passes _ _ _ (not_from_true r.resynced resynced, tt);
      lower = replaced_lacks count copy s r new _ at (omega arith)
          (ack_less (copy_lacks count r.copy) r.known r.copy.seen.count (if r.resynced then 0 else 1) r.acked bounds.0 bounds.1 late);
    }
  where
    ack_less : (c known own resynced : ℕ) (acked : Bool) → known ≤ own → own ≤ count → (nat_lt known own || not acked) ≡ true
        → c + (count - own) + resynced + 0 < c + (count - known) + resynced + (if acked then 0 else 1)
    ack_less c known own resynced true low high late = (let lt : known < own = grind (arith, nat_tests) in omega arith)
    ack_less c known own resynced false low high late = omega arith

pub resync_lowers : (count : ℕ) (s : Copies) (copy : ℕ) → s.primary.seen.count ≡ count → (o : Option Replica) → replica_of s copy ≡ o
    → option_map_or (may_resync s) o false ≡ true → Lowers count s (resync_row s copy o)
unfolding resync_row
resync_lowers count s copy whole None at is = cc
resync_lowers count s copy whole (Some r) at is =
    let stale : r.resynced ≡ false = not-true r.resynced is in
    let mark : ℕ = resync_mark s r in
    let new : Replica = record r { copy = resynced_copy s mark r.copy; resynced = true } in
    let fewer : passing (λ n. not (has (resynced_copy s mark r.copy).seen n)) (range_with_len 0 count) ≤ passing (λ n. not (has r.copy.seen n)) (range_with_len 0 count)
    = passing_fewer (λ n. not (has r.copy.seen n)) (λ n. not (has (resynced_copy s mark r.copy).seen n)) 0 count
    (λ n lt lacks. not_from_false (has r.copy.seen n)
    (left n mark (omega arith) (sym (has-marked_all (kept_below r.copy.seen mark) (range_with_len mark (s.primary.seen.count - mark)) n) ∙ not-true (has (resynced_copy s mark r.copy).seen n) lacks))) in
    record {
      reply = replies.Resynced (held_from mark r.copy.store) (s.primary.seen.count - mark);
      replicas = replaced copy new s.replicas;
      global = s.primary.global;
      is = rw stale refl;
      lower = replaced_lacks count copy s r new s.primary.global at (omega arith)
          (rw stale (resync_less _ _ (count - r.copy.global) (count - r.known) (if r.acked then 0 else 1) fewer));
    }
  where
    left_of : (n mark : ℕ) (b : Bool) → n < s.primary.seen.count
        → ((b && nat_lt n mark) || (not (nat_lt n mark) && nat_lt n (mark + (s.primary.seen.count - mark)))) ≡ false → b ≡ false
    left_of n mark b below lacks = grind (arith, nat_tests)

    left : (n mark : ℕ) → n < s.primary.seen.count
        → (has (kept_below r.copy.seen mark) n || list_any (λ k. k == n) (range_with_len mark (s.primary.seen.count - mark))) ≡ false → has r.copy.seen n ≡ false
    left n mark below lacks = left_of n mark (has r.copy.seen n) below
        (sym (rw (has-kept r.copy.seen mark n, any-range mark (s.primary.seen.count - mark) n) refl) ∙ lacks)

    resync_less : (a b c d e : ℕ) → a ≤ b → a + c + d + 0 + e < b + c + d + 1 + e
    resync_less a b c d e le = omega arith
