-- What holds of a task implies what is stated of it: its places, that nothing is left undone, its bounds, and that it asks once.
use Rattle.std.specs.Prelude.{nat_lt, nat_le}
use Rattle.std.specs.List.{AllByRecursion, count_by}
use Rattle.std.proofs.Common.{◌≡◌, ℕ, ◌+◌, ◌-◌, ◌*◌, ◌≤◌, ◌<◌, max, true, false, List, [], ◌∷◌, length, ap, arith}
use Rattle.std.proofs.lemmas.Bool.{and_parts, ltb-true, leb-true, le-ltb, lt-ltb}
use Rattle.std.proofs.lemmas.Bool.Decides.{nat_tests}
use Rattle.ccr_model.specs.Tasks.{Task, Read, is_active, bytes_of}
use Rattle.ccr_model.specs.Past.{Line, WrittenBatch}
use Rattle.ccr_model.specs.TaskFacts.{StandsOnce, IsTrueTask, IsBounded, AsksOnce, is_received, is_in_read, times_at, times_in, batches_of, written_in, largest}
use Rattle.ccr_law_tasks.specs.GoodTask.{IsGoodRead, sent_count, largest_committed, IsGoodTask}
use Rattle.ccr_law_tasks.proofs.Sums.{one_if, count-cons}
use Rattle.ccr_law_tasks.proofs.Lines.{largest-of-line}
use Rattle.ccr_law_base.proofs.Lists.{All-from_both}

mul-le : (a b m k : ℕ) → a ≤ b → m ≤ k → a * m ≤ b * k
mul-le a b m k low up = grind arith

pub says-true : (line : Line) (begun_at : ℕ) (written : List WrittenBatch) (t : Task) → IsGoodTask line t begun_at written → IsTrueTask line t begun_at written
says-true line begun_at written t good = record {
  places = good.sound.places;
  saturated = good.saturated;
  buffer = good.sound.buffer;
  batches = good.sound.batches;
}

pub says-bounded : (line : Line) (begun_at : ℕ) (written : List WrittenBatch) (t : Task) → IsGoodTask line t begun_at written → IsBounded line t
says-bounded line begun_at written t good =
    let s = good.sound in
    let reads : ℕ = t.params.max_outstanding_read_requests in
    let most : ℕ = t.params.max_read_request_operation_count in
    let own : ℕ = max t.params.max_read_request_size (largest_committed line) in
    let all : ℕ = max t.params.max_read_request_size (largest line) in
    let low : largest_committed line ≤ largest line = largest-of-line line in
    let room : length t.buffer ≤ t.params.max_write_buffer_count - 1 + (reads - sent_count t.reads) * most = s.room in
    let space : bytes_of t.buffer ≤ t.params.max_write_buffer_size - 1 + (reads - sent_count t.reads) * own = s.space in
    let more : (reads - sent_count t.reads) * most ≤ reads * most = mul-le (reads - sent_count t.reads) reads most most (omega arith) (omega arith) in
    let larger : (reads - sent_count t.reads) * own ≤ reads * all = mul-le (reads - sent_count t.reads) reads own all (omega arith) (omega arith) in
    record {
      reads = s.reads.few;
      writes = s.writes.few;
      batches = s.writes.batches;
      buffer = omega arith;
      bytes = omega arith;
    }

-- ---- what was received isn't asked for again

-- each read counts for each of its numbers
each-counts : (whole reads : List Read) → ((n : ℕ) → count_by (is_in_read n) reads ≤ count_by (is_in_read n) whole)
    → AllByRecursion (λ (r : Read). (n : ℕ) → one_if (is_in_read n r) ≤ count_by (is_in_read n) whole) reads
each-counts whole [] less = tt
each-counts whole (r ∷ reads) less = (
  λ n.
      let all : count_by (is_in_read n) (r ∷ reads) ≡ one_if (is_in_read n r) + count_by (is_in_read n) reads = count-cons (is_in_read n) r reads in
      let low : count_by (is_in_read n) (r ∷ reads) ≤ count_by (is_in_read n) whole = less n in
      omega arith,
  each-counts whole reads (λ n.
      let all : count_by (is_in_read n) (r ∷ reads) ≡ one_if (is_in_read n r) + count_by (is_in_read n) reads = count-cons (is_in_read n) r reads in
      let low : count_by (is_in_read n) (r ∷ reads) ≤ count_by (is_in_read n) whole = less n in
      omega arith),
)

received : Task → List WrittenBatch → ℕ → ℕ
received t written n = times_in n t.buffer + times_in n (batches_of t.writes) + times_in n (written_in t.epoch written)

none-received : (k : ℕ) → k ≡ 0 → nat_lt 0 k ≡ false
none-received k none = grind (arith, nat_tests)

pub says-once : (line : Line) (begun_at : ℕ) (written : List WrittenBatch) (t : Task) → is_active t.phase ≡ true → IsGoodTask line t begun_at written → AsksOnce t written
says-once line begun_at written t active good =
    let s = good.sound in
    let places : StandsOnce t begun_at written = s.places active in
    record {
      reads = All-from_both (IsGoodRead t.params.max_read_request_operation_count begun_at t.next_request t.next)
          (λ (r : Read). (n : ℕ) → one_if (is_in_read n r) ≤ count_by (is_in_read n) t.reads)
          (λ (r : Read). (n : ℕ) → is_in_read n r ≡ true → is_received t written n ≡ false)
          (λ r own counts n is.
          let parts = and_parts (nat_le r.from n) (nat_lt n r.to) is in
          let from_on : r.from ≤ n = leb-true _ _ parts.0 in
          let below : n < r.to = ltb-true _ _ parts.1 in
          let begins : begun_at ≤ r.from = own.begins in
          let next : r.to ≤ t.next = own.below in
          let one : one_if (is_in_read n r) ≡ 1 = ap one_if is in
          let there : one_if (is_in_read n r) ≤ count_by (is_in_read n) t.reads = counts n in
          let all : times_at t written n ≡ one_if (nat_lt n t.next) = places n (omega arith) in
          let most : one_if (nat_lt n t.next) ≡ 1 = ap one_if (lt-ltb n t.next (omega arith)) in
          none-received (times_in n t.buffer + times_in n (batches_of t.writes) + times_in n (written_in t.epoch written)) (omega arith))
          t.reads s.reads.all (each-counts t.reads t.reads (λ n. omega arith));
      later = λ n low.
          let begun : begun_at ≤ t.next = s.begun in
          let all : times_at t written n ≡ one_if (nat_lt n t.next) = places n (omega arith) in
          let none : one_if (nat_lt n t.next) ≡ 0 = ap one_if (le-ltb n t.next low) in
          none-received (times_in n t.buffer + times_in n (batches_of t.writes) + times_in n (written_in t.epoch written)) (omega arith);
    }
