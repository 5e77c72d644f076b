-- A reply to a read keeps a task sound.
use Rattle.std.specs.Prelude.{nat_lt, ◌==◌}
use Rattle.std.specs.List.{AllByRecursion, filter, count_by, sum_by}
use Rattle.std.proofs.Common.{◌≡◌, ⊎_elim, ℕ, ◌+◌, ◌-◌, ◌*◌, ◌≤◌, ◌<◌, min, max, Bool, true, false, if◌then◌else◌, ◌&&◌, List, [], ◌∷◌, ◌++◌, length, refl, sym, ap, subst, arith}
use Rattle.std.proofs.lemmas.Bool.{ltb-true, ltb-false, eqb-true, and_parts}
use Rattle.std.proofs.lemmas.Bool.Decides.{nat_tests}
use Rattle.std.proofs.lemmas.List.Sums.{count_by-le-length}
use Rattle.ccr_op.specs.Operation.{Operation}
use Rattle.ccr_wire.specs.Message.{IsRun}
use Rattle.ccr_model.specs.Operations.{size_of, with_ops}
use Rattle.ccr_model.specs.Requests.{held_back, is_sent}
use Rattle.ccr_model.specs.Tasks.{Task, Read, bytes_of, changed_read, without_read, kept_of, end_of_ops, rest_from, reads_after, after_reply}
use Rattle.ccr_model.specs.Past.{Line, WrittenBatch}
use Rattle.ccr_model.specs.FrameFacts.{IsCommitted}
use Rattle.ccr_model.specs.TaskFacts.{times_at, times_in, is_in_read}
use Rattle.ccr_law_base.proofs.Cases.{on_if}
use Rattle.ccr_law_base.proofs.Lists.{All-append, All-append_back, All-append_front, All-filter, All-find, All-weaker, All-without_read, All-with_ops, length-filter-le}
use Rattle.ccr_law_tasks.specs.GoodTask.{IsGoodRead, HasRoom, sent_count, largest_committed, IsSoundTask, IsTrueReply}
use Rattle.ccr_law_tasks.proofs.Sums.{one_if, sum-filter-le}
use Rattle.ccr_law_tasks.proofs.Operations.{one_in, bytes-sum, times-with_ops, length-with_ops, bytes-with_ops, run-times, run-below, run-front, run-end}
use Rattle.ccr_law_tasks.proofs.ReadLists.{IsPlaced, placed, length-changed, length-without, count-placed-changed, count-placed-without}
use Rattle.ccr_law_tasks.proofs.Lines.{size-committed}

-- ---- the reads after a reply

-- what becomes of the reads where the numbers of one from `from` to below `rest` came
record AreAnswered (most begun_at next_request next : ℕ) (r : Read) (rest : ℕ) (old new : List Read) : Type 0 where
  all : AllByRecursion (IsGoodRead most begun_at next_request next) new
  apart : (k : ℕ) → count_by (λ (r : Read). r.request == k) new ≤ count_by (λ (r : Read). r.request == k) old
  few : length new ≤ length old
  numbers : (n : ℕ) → count_by (is_in_read n) new + one_in r.from rest n ≡ count_by (is_in_read n) old
  sent : count_by (λ (r : Read). is_sent r.progress) new + 1 ≡ count_by (λ (r : Read). is_sent r.progress) old

-- a range is split at a number in it
range-split : (a b c n : ℕ) → a ≤ b → b ≤ c → one_in a b n + one_in b c n ≡ one_in a c n
range-split a b c n low high = grind (arith, nat_tests)

all-placed-changed : (P : Read → Type 0) (r : Read) (f : Read → Read) (reads : List Read) → IsPlaced r reads → P (f r) → AllByRecursion P reads → AllByRecursion P (changed_read r.request f reads)
all-placed-changed P r f reads at new a =
    let whole : AllByRecursion P (at.before ++ r ∷ at.after) = subst (λ (rs : List Read). AllByRecursion P rs) at.is a in
    let rest : AllByRecursion P (r ∷ at.after) = All-append_back P at.before (r ∷ at.after) whole in
    subst (λ (rs : List Read). AllByRecursion P rs) (sym (at.changed f)) (All-append P at.before (f r ∷ at.after) (All-append_front P at.before (r ∷ at.after) whole) (new, rest.1))

reads-answered : (most begun_at next_request next : ℕ) (r : Read) (rest : ℕ) (reads : List Read) → IsPlaced r reads → is_sent r.progress ≡ true
    → IsGoodRead most begun_at next_request next r → AllByRecursion (IsGoodRead most begun_at next_request next) reads
    → r.from ≤ rest → rest ≤ r.to
    → AreAnswered most begun_at next_request next r rest reads
    (if nat_lt rest r.to then changed_read r.request (λ own. record own { from = rest; asked = r.to - rest; progress = held_back }) reads else without_read r.request reads)
reads-answered most begun_at next_request next r rest reads at is_on_way good all low high =
    let f : Read → Read = λ own. record own { from = rest; asked = r.to - rest; progress = held_back } in
    let from_start : begun_at ≤ r.from = good.begins in
    let enough : r.to ≤ r.from + r.asked = good.enough in
    let asked : r.asked ≤ most = good.asked in
    let was : one_if (is_sent r.progress) ≡ 1 = ap one_if is_on_way in
    on_if (λ (new : List Read). AreAnswered most begun_at next_request next r rest reads new) (nat_lt rest r.to) (changed_read r.request f reads) (without_read r.request reads)
    (λ is.
    let left : rest < r.to = ltb-true _ _ is in
    record {
      all = all-placed-changed (IsGoodRead most begun_at next_request next) r f reads at
          (record { drawn = good.drawn; begins = omega arith; ordered = omega arith; below = good.below; enough = omega arith; asked = omega arith; exact = λ held. omega arith }) all;
      apart = λ k. let same = count-placed-changed (λ r. r.request == k) r reads f at in omega arith;
      few = let same : length (changed_read r.request f reads) ≡ length reads = length-changed r.request f reads in omega arith;
      numbers = λ n.
          let moved : count_by (is_in_read n) (changed_read r.request f reads) + one_in r.from r.to n ≡ count_by (is_in_read n) reads + one_in rest r.to n = count-placed-changed (is_in_read n) r reads f at in
          let split : one_in r.from rest n + one_in rest r.to n ≡ one_in r.from r.to n = range-split r.from rest r.to n low high in
          omega arith;
      sent =
          let moved : count_by (λ (r : Read). is_sent r.progress) (changed_read r.request f reads) + one_if (is_sent r.progress) ≡ count_by (λ (r : Read). is_sent r.progress) reads + 0 = count-placed-changed (λ r. is_sent r.progress) r reads f at in
          omega arith;
    })
    (λ isnt.
    let none : r.to ≤ rest = ltb-false _ _ isnt in
    let end : rest ≡ r.to = omega arith in
    record {
      all = All-without_read (IsGoodRead most begun_at next_request next) r.request reads all;
      apart = λ k. let gone = count-placed-without (λ r. r.request == k) r reads at in omega arith;
      few = length-without r.request reads;
      numbers = λ n.
          let gone : count_by (is_in_read n) (without_read r.request reads) + one_in r.from r.to n ≡ count_by (is_in_read n) reads = count-placed-without (is_in_read n) r reads at in
          let same : one_in r.from rest n ≡ one_in r.from r.to n = ap (λ (to : ℕ). one_in r.from to n) end in
          omega arith;
      sent =
          let gone : count_by (λ (r : Read). is_sent r.progress) (without_read r.request reads) + one_if (is_sent r.progress) ≡ count_by (λ (r : Read). is_sent r.progress) reads = count-placed-without (λ r. is_sent r.progress) r reads at in
          omega arith;
    })

-- ---- the operations that are kept

-- of a reply these are kept, and `next` rises so far
record AreKept (P : Operation → Type 0) (from rest next : ℕ) (ops kept : List Operation) (after : ℕ) : Type 0 where
  count : length kept ≤ length ops
  bytes : bytes_of kept ≤ bytes_of ops
  all : AllByRecursion P kept
  up : next ≤ after
  numbers : (n : ℕ) → times_in n kept + one_if (nat_lt n next) ≡ one_in from rest n + one_if (nat_lt n after)

rise : (n from to rest len : ℕ) → from ≤ to → rest ≡ from + min len (to - from)
    → one_in from (from + len) n + one_if (nat_lt n to) ≡ one_in from rest n + one_if (nat_lt n (max to (from + len)))
rise n from to rest len low is = grind (arith, nat_tests)

ops-kept : (P : Operation → Type 0) (from to next : ℕ) (ops : List Operation) → IsRun from ops → AllByRecursion P ops → from ≤ to
    → (b : Bool) → (next == to) ≡ b
    → AreKept P from (from + length (filter (λ op. nat_lt op.seq to) ops)) next ops
    (if b then ops else filter (λ op. nat_lt op.seq to) ops) (if b then end_of_ops ops next else next)
ops-kept P from to next ops run all low true is =
    let same : next ≡ to = eqb-true _ _ is in
    let end : end_of_ops ops next ≡ max next (from + length ops) = run-end next from ops run (omega arith) in
    let short : length (filter (λ op. nat_lt op.seq to) ops) ≡ min (length ops) (to - from) = run-below to from ops run in
    record {
      count = omega arith;
      bytes = omega arith;
      all = all;
      up = omega arith;
      numbers = λ n.
          let times : times_in n ops ≡ one_in from (from + length ops) n = run-times n from ops run in
          let more = rise n from next (from + length (filter (λ op. nat_lt op.seq to) ops)) (length ops) (omega arith) (omega arith) in
          let there : one_if (nat_lt n (end_of_ops ops next)) ≡ one_if (nat_lt n (max next (from + length ops))) = ap (λ (k : ℕ). one_if (nat_lt n k)) end in
          omega arith;
    }
ops-kept P from to next ops run all low false isnt =
    let front : List Operation = filter (λ op. nat_lt op.seq to) ops in
    let fewer : sum_by size_of front ≤ sum_by size_of ops = sum-filter-le size_of (λ op. nat_lt op.seq to) ops in
    let a : bytes_of front ≡ sum_by size_of front = bytes-sum front in
    let b : bytes_of ops ≡ sum_by size_of ops = bytes-sum ops in
    record {
      count = length-filter-le (λ op. nat_lt op.seq to) ops;
      bytes = omega arith;
      all = All-filter P (λ op. nat_lt op.seq to) ops all;
      up = omega arith;
      numbers = λ n.
          let times : times_in n front ≡ one_in from (from + length front) n = run-times n from front (run-front to from ops run) in
          omega arith;
    }

-- ---- room

mul-more : (a m : ℕ) → (a + 1) * m ≡ a * m + m
mul-more a m = grind arith

-- one read fewer in the sent state leaves room for what it asked
room-more : (bound most_reads most sent fewer load more : ℕ) → fewer + 1 ≡ sent → sent ≤ most_reads → more ≤ most
    → HasRoom bound most_reads most sent load → HasRoom bound most_reads most fewer (load + more)
room-more bound most_reads most sent fewer load more one few low room =
    let e : most_reads - fewer ≡ (most_reads - sent) + 1 = omega arith in
    let p : (most_reads - fewer) * most ≡ ((most_reads - sent) + 1) * most = ap (λ (k : ℕ). k * most) e in
    let q : ((most_reads - sent) + 1) * most ≡ (most_reads - sent) * most + most = mul-more (most_reads - sent) most in
    omega arith

bytes-of-one : (line : Line) (ops : List Operation) → length ops ≡ 1 → AllByRecursion (IsCommitted line) ops → bytes_of ops ≤ largest_committed line
bytes-of-one line [] one all = absurd (omega arith)
bytes-of-one line (op ∷ []) one all =
    let low : size_of op ≤ largest_committed line = size-committed line op all.0 in
    omega arith
bytes-of-one line (op ∷ x ∷ ops) one all = absurd (omega arith)

-- ---- the reply

pub reply-sound : (line : Line) (begun_at : ℕ) (written : List WrittenBatch) (t : Task) (r : Read) (request from global : ℕ) (ops : List Operation)
    → IsTrueReply line t r request from ops → IsSoundTask line t begun_at written → IsSoundTask line (after_reply t r global ops) begun_at written
reply-sound line begun_at written t r request from global ops true_reply s =
    let most : ℕ = t.params.max_read_request_operation_count in
    let begins : from ≡ r.from = true_reply.brings.begins in
    let run : IsRun r.from ops = subst (λ (n : ℕ). IsRun n ops) begins true_reply.run in
    let found = All-find (IsGoodRead most begun_at t.next_request t.next) (λ r. (r.request == request) && is_sent r.progress) t.reads r s.reads.all true_reply.sent in
    let good : IsGoodRead most begun_at t.next_request t.next r = found.0 in
    let on_way : is_sent r.progress ≡ true = (and_parts (r.request == request) (is_sent r.progress) found.1).1 in
    let at : IsPlaced r t.reads = placed request t.reads r s.reads.apart true_reply.sent in
    let ordered : r.from ≤ r.to = good.ordered in
    let asked : r.asked ≤ most = good.asked in
    let number : length ops ≤ r.asked = true_reply.brings.number in
    let short : length (filter (λ op. nat_lt op.seq r.to) ops) ≡ min (length ops) (r.to - r.from) = run-below r.to r.from ops run in
    let rest : ℕ = rest_from r ops in
    let answered : AreAnswered most begun_at t.next_request t.next r rest t.reads (reads_after r ops t.reads) =
    reads-answered most begun_at t.next_request t.next r rest t.reads at on_way good s.reads.all (omega arith) (omega arith) in
    let kept : AreKept (IsCommitted line) r.from rest t.next ops (kept_of t r ops) (if t.next == r.to then end_of_ops ops t.next else t.next) =
    ops-kept (IsCommitted line) r.from r.to t.next ops run true_reply.committed ordered (t.next == r.to) refl in
    let after : ℕ = if t.next == r.to then end_of_ops ops t.next else t.next in
    let up : t.next ≤ after = kept.up in
    let sent : sent_count (reads_after r ops t.reads) + 1 ≡ sent_count t.reads = answered.sent in
    let sent_few : sent_count t.reads ≤ length t.reads = count_by-le-length (λ (r : Read). is_sent r.progress) t.reads in
    let few : length t.reads ≤ t.params.max_outstanding_read_requests = s.reads.few in
    let fewer : length (reads_after r ops t.reads) ≤ length t.reads = answered.few in
    let kept_count : length (kept_of t r ops) ≤ length ops = kept.count in
    let kept_bytes : bytes_of (kept_of t r ops) ≤ bytes_of ops = kept.bytes in
    let x : ℕ = max t.params.max_read_request_size (largest_committed line) in
    let bytes : bytes_of ops ≤ x = ⊎_elim (λ (low : bytes_of ops ≤ t.params.max_read_request_size). (let l : bytes_of ops ≤ t.params.max_read_request_size = low in omega arith))
    (λ (one : length ops ≡ 1). (let l : bytes_of ops ≤ largest_committed line = bytes-of-one line ops one true_reply.committed in omega arith)) true_reply.brings.size in
    let buffer_count : length (with_ops (kept_of t r ops) t.buffer) ≡ length (kept_of t r ops) + length t.buffer = length-with_ops (kept_of t r ops) t.buffer in
    let buffer_bytes : bytes_of (with_ops (kept_of t r ops) t.buffer) ≡ bytes_of (kept_of t r ops) + bytes_of t.buffer = bytes-with_ops (kept_of t r ops) t.buffer in
    let begun : begun_at ≤ t.next = s.begun in
    let room : HasRoom t.params.max_write_buffer_count t.params.max_outstanding_read_requests most (sent_count (reads_after r ops t.reads)) (length t.buffer + length (kept_of t r ops)) =
    room-more _ _ most (sent_count t.reads) (sent_count (reads_after r ops t.reads)) (length t.buffer) (length (kept_of t r ops)) sent (omega arith) (omega arith) s.room in
    let space : HasRoom t.params.max_write_buffer_size t.params.max_outstanding_read_requests x (sent_count (reads_after r ops t.reads)) (bytes_of t.buffer + bytes_of (kept_of t r ops)) =
    room-more _ _ x (sent_count t.reads) (sent_count (reads_after r ops t.reads)) (bytes_of t.buffer) (bytes_of (kept_of t r ops)) sent (omega arith) (omega arith) s.space in
    record {
      params = s.params;
      begun = omega arith;
      reads = record {
        all = All-weaker (IsGoodRead most begun_at t.next_request t.next) (IsGoodRead most begun_at t.next_request after)
            (λ own good.
            let below : own.to ≤ t.next = good.below in
            record { drawn = good.drawn; begins = good.begins; ordered = good.ordered; below = omega arith; enough = good.enough; asked = good.asked; exact = good.exact })
            (reads_after r ops t.reads) answered.all;
        apart = λ k.
            let less : count_by {X = Read} (λ r. r.request == k) (reads_after r ops t.reads) ≤ count_by {X = Read} (λ r. r.request == k) t.reads = answered.apart k in
            let most : count_by {X = Read} (λ r. r.request == k) t.reads ≤ 1 = s.reads.apart k in
            omega arith;
        few = omega arith;
      };
      writes = s.writes;
      places = λ active. λ n low.
          let now : times_at t written n ≡ one_if (nat_lt n t.next) = s.places active n low in
          let reads : count_by (is_in_read n) (reads_after r ops t.reads) + one_in r.from rest n ≡ count_by (is_in_read n) t.reads = answered.numbers n in
          let buffer : times_in n (with_ops (kept_of t r ops) t.buffer) ≡ times_in n (kept_of t r ops) + times_in n t.buffer = times-with_ops n (kept_of t r ops) t.buffer in
          let came : times_in n (kept_of t r ops) + one_if (nat_lt n t.next) ≡ one_in r.from rest n + one_if (nat_lt n after) = kept.numbers n in
          let goal : times_at (after_reply t r global ops) written n ≡ one_if (nat_lt n after) = omega arith in
          goal;
      room = subst (λ (k : ℕ). HasRoom t.params.max_write_buffer_count t.params.max_outstanding_read_requests most (sent_count (reads_after r ops t.reads)) k) (omega arith) room;
      space = subst (λ (k : ℕ). HasRoom t.params.max_write_buffer_size t.params.max_outstanding_read_requests x (sent_count (reads_after r ops t.reads)) k) (omega arith) space;
      buffer = All-with_ops (IsCommitted line) (kept_of t r ops) t.buffer kept.all s.buffer;
      batches = s.batches;
    }
