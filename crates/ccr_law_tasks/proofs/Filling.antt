-- Fill keeps a task sound and leaves nothing undone.
use Rattle.std.specs.Prelude.{nat_lt, ◌==◌}
use Rattle.std.specs.List.{AllByRecursion, filter, count_by}
use Rattle.std.proofs.Common.{◌≡◌, ◌∙◌, ◌⊎◌, inl, inr, ℕ, ◌+◌, ◌-◌, ◌≤◌, ◌<◌, min, zero, suc, Bool, true, false, ◌&&◌, List, [], ◌∷◌, ◌++◌, length, drop, refl, sym, ap, subst, length-append, length-drop, arith}
use Rattle.std.proofs.lemmas.Bool.{ltb-true, ltb-false, and_parts}
use Rattle.std.proofs.lemmas.Bool.Decides.{nat_tests}
use Rattle.ccr_op.specs.Operation.{Operation}
use Rattle.ccr_model.specs.Operations.{is_empty, cut_of}
use Rattle.ccr_model.specs.Requests.{Sending, quiet, followed_by, on_its_way}
use Rattle.ccr_model.specs.Tasks.{Task, Read, Write, is_active, bytes_of, may_read, has_budget, is_held, changed_read, with_read, sent_again, all_sent_again, with_batch, with_batches, fill_writes, fill_held, asks, next_read, with_reads, fill_reads, fill_peek, fill, filled_if_active}
use Rattle.ccr_model.specs.Past.{Line, WrittenBatch}
use Rattle.ccr_model.specs.FrameFacts.{IsCommitted}
use Rattle.ccr_model.specs.TaskFacts.{StandsOnce, IsSaturated, IsBoundedBatch, times_at, times_in, batches_of, is_in_read}
use Rattle.ccr_law_base.proofs.Cases.{on_if}
use Rattle.ccr_law_base.proofs.Lists.{All-append, All-append_back, All-append_front, All-changed_read, All-weaker}
use Rattle.ccr_law_tasks.specs.GoodTask.{IsGoodRead, HasRoom, IsSoundTask, IsGoodTask}
use Rattle.ccr_law_tasks.proofs.Sums.{one_if, count-cons, count-append, count-one}
use Rattle.ccr_law_tasks.proofs.Operations.{one_in, bytes-append}
use Rattle.ccr_law_tasks.proofs.ReadLists.{length-changed, count-changed-le, count-changed-same, count-renumbered, count-undrawn, held_with, none-held, count-held, count-held-le}
use Rattle.ccr_law_tasks.proofs.WriteLists.{batches-more, count-ungiven}
use Rattle.ccr_law_tasks.proofs.Cuts.{cut-splits, cut-bounded, cut-some, none-of}

-- ---- writes

-- the buffer is empty, or as many writes are outstanding as may be
abbrev pub HasFullWrites : Task → Type 0
HasFullWrites t = (t.buffer ≡ []) ⊎ (t.params.max_outstanding_write_requests ≤ length t.writes)

abbrev pub batch_of : Task → List Operation
batch_of t = cut_of t.params.max_write_request_operation_count t.params.max_write_request_size t.buffer

abbrev rest_of : Task → List Operation
rest_of t = drop (length (batch_of t)) t.buffer

-- a measure that falls leaves more room
room-less : (bound most_reads most sent load less : ℕ) → less ≤ load → HasRoom bound most_reads most sent load → HasRoom bound most_reads most sent less
room-less bound most_reads most sent load less low room = omega arith

with_batch-places : (t : Task) (begun_at : ℕ) (written : List WrittenBatch) → StandsOnce t begun_at written → StandsOnce (with_batch t) begun_at written
with_batch-places t begun_at written places = λ n low.
    let now = places n low in
    let w : Write = record { number = t.next_write; batch = batch_of t; progress = on_its_way } in
    let split : batch_of t ++ rest_of t ≡ t.buffer = cut-splits t.params.max_write_request_operation_count t.params.max_write_request_size t.buffer in
    let a : times_in n (batch_of t ++ rest_of t) ≡ times_in n t.buffer = ap (times_in n) split in
    let b : times_in n (batch_of t ++ rest_of t) ≡ times_in n (batch_of t) + times_in n (rest_of t) = count-append {X = Operation} (λ op. op.seq == n) (batch_of t) (rest_of t) in
    let c : times_in n (batches_of (t.writes ++ w ∷ [])) ≡ times_in n (batches_of t.writes ++ batch_of t) = ap (times_in n) (batches-more t.writes w) in
    let d : times_in n (batches_of t.writes ++ batch_of t) ≡ times_in n (batches_of t.writes) + times_in n (batch_of t) = count-append {X = Operation} (λ op. op.seq == n) (batches_of t.writes) (batch_of t) in
    let same : times_at (with_batch t) written n ≡ times_at t written n = omega arith in
    same ∙ now

with_batch-sound : (line : Line) (t : Task) (begun_at : ℕ) (written : List WrittenBatch) → length t.writes < t.params.max_outstanding_write_requests
    → IsSoundTask line t begun_at written → IsSoundTask line (with_batch t) begun_at written
with_batch-sound line t begun_at written few s =
    let w : Write = record { number = t.next_write; batch = batch_of t; progress = on_its_way } in
    let split : batch_of t ++ rest_of t ≡ t.buffer = cut-splits t.params.max_write_request_operation_count t.params.max_write_request_size t.buffer in
    let count : length (batch_of t ++ rest_of t) ≡ length t.buffer = ap length split in
    let counts : length (batch_of t ++ rest_of t) ≡ length (batch_of t) + length (rest_of t) = length-append (batch_of t) (rest_of t) in
    let bytes : bytes_of (batch_of t ++ rest_of t) ≡ bytes_of t.buffer = ap bytes_of split in
    let sizes : bytes_of (batch_of t ++ rest_of t) ≡ bytes_of (batch_of t) + bytes_of (rest_of t) = bytes-append (batch_of t) (rest_of t) in
    let committed : AllByRecursion (IsCommitted line) (batch_of t ++ rest_of t) = subst (λ (ops : List Operation). AllByRecursion (IsCommitted line) ops) (sym split) s.buffer in
    record {
      params = s.params;
      begun = s.begun;
      reads = s.reads;
      writes = record {
        drawn = All-append (λ (w : Write). w.number < t.next_write + 1) t.writes (w ∷ [])
            (All-weaker (λ (w : Write). w.number < t.next_write) (λ (w : Write). w.number < t.next_write + 1) (λ w low. omega arith) t.writes s.writes.drawn) (omega arith, tt);
        apart = λ k.
            let all : count_by {X = Write} (λ w. w.number == k) (t.writes ++ w ∷ []) ≡ count_by {X = Write} (λ w. w.number == k) t.writes + count_by {X = Write} (λ w. w.number == k) (w ∷ []) = count-append {X = Write} (λ w. w.number == k) t.writes (w ∷ []) in
            let one : count_by {X = Write} (λ w. w.number == k) (w ∷ []) ≡ one_if (t.next_write == k) = count-one {X = Write} (λ w. w.number == k) w in
            let most : count_by {X = Write} (λ w. w.number == k) t.writes ≤ 1 = s.writes.apart k in
            on_if (λ (i : ℕ). count_by {X = Write} (λ w. w.number == k) (w ∷ []) ≡ i → count_by {X = Write} (λ w. w.number == k) (t.writes ++ w ∷ []) ≤ 1) (t.next_write == k) 1 0
            (λ is i.
            let same : t.next_write ≡ k = grind (arith, nat_tests) in
            let none : count_by {X = Write} (λ w. w.number == k) t.writes ≡ 0 =
            subst (λ (m : ℕ). count_by {X = Write} (λ w. w.number == m) t.writes ≡ 0) same (count-ungiven t.next_write t.writes s.writes.drawn) in
            omega arith)
            (λ isnt i. omega arith)
            one;
        few = let more : length (t.writes ++ w ∷ []) ≡ length t.writes + length (w ∷ []) = length-append t.writes (w ∷ []) in omega arith;
        batches = All-append (λ (w : Write). IsBoundedBatch t.params.max_write_request_operation_count t.params.max_write_request_size w.batch) t.writes (w ∷ []) s.writes.batches
            (cut-bounded t.params.max_write_request_operation_count t.params.max_write_request_size t.buffer (s.params.max_write_request_operation_count.some), tt);
      };
      places = λ active. with_batch-places t begun_at written (s.places active);
      room = room-less _ _ _ _ (length t.buffer) (length (rest_of t)) (omega arith) s.room;
      space = room-less _ _ _ _ (bytes_of t.buffer) (bytes_of (rest_of t)) (omega arith) s.space;
      buffer = All-append_back (IsCommitted line) (batch_of t) (rest_of t) committed;
      batches = subst (λ (ops : List Operation). AllByRecursion (IsCommitted line) ops) (sym (batches-more t.writes w))
          (All-append (IsCommitted line) (batches_of t.writes) (batch_of t) s.batches (All-append_front (IsCommitted line) (batch_of t) (rest_of t) committed));
    }

pub with_batches-sound : (line : Line) (begun_at : ℕ) (written : List WrittenBatch) (n : ℕ) (t : Task) → length t.writes + n ≤ t.params.max_outstanding_write_requests
    → IsSoundTask line t begun_at written → IsSoundTask line (with_batches n t) begun_at written
with_batches-sound line begun_at written zero t few s = s
with_batches-sound line begun_at written (suc n) t few s =
    let w : Write = record { number = t.next_write; batch = batch_of t; progress = on_its_way } in
    let more : length (t.writes ++ w ∷ []) ≡ length t.writes + length (w ∷ []) = length-append t.writes (w ∷ []) in
    on_if (λ (u : Task). IsSoundTask line u begun_at written) (is_empty t.buffer) t (with_batches n (with_batch t))
    (λ is. s) (λ isnt. with_batches-sound line begun_at written n (with_batch t) (omega arith) (with_batch-sound line t begun_at written (omega arith) s))

no-length : (ops : List Operation) → length ops ≡ 0 → ops ≡ []
no-length [] none = refl
no-length (op ∷ ops) none = absurd (omega arith)

pub with_batches-full : (n : ℕ) (t : Task) → min (t.params.max_outstanding_write_requests - length t.writes) (length t.buffer) ≤ n → HasFullWrites (with_batches n t)
with_batches-full zero t low =
    (elim (nat_lt 0 (length t.buffer)) as (λ (b : Bool). nat_lt 0 (length t.buffer) ≡ b → HasFullWrites t) [
      | true ↦ λ is. let some : 0 < length t.buffer = ltb-true _ _ is in inr (omega arith)
      | false ↦ λ isnt. let none : length t.buffer ≤ 0 = ltb-false _ _ isnt in inl (no-length t.buffer (omega arith))
    ]) refl
with_batches-full (suc n) t low =
    let w : Write = record { number = t.next_write; batch = batch_of t; progress = on_its_way } in
    let more : length (t.writes ++ w ∷ []) ≡ length t.writes + length (w ∷ []) = length-append t.writes (w ∷ []) in
    let left : length (rest_of t) ≡ length t.buffer - length (batch_of t) = length-drop (length (batch_of t)) t.buffer in
    on_if HasFullWrites (is_empty t.buffer) t (with_batches n (with_batch t))
    (λ is. inl (none-of t.buffer is))
    (λ isnt.
    let some : 1 ≤ length (batch_of t) = cut-some t.params.max_write_request_operation_count t.params.max_write_request_size t.buffer isnt in
    with_batches-full n (with_batch t) (omega arith))

-- ---- reads that are sent again

may_read-room : (t : Task) → may_read t ≡ true → (length t.buffer < t.params.max_write_buffer_count) × (bytes_of t.buffer < t.params.max_write_buffer_size)
may_read-room t may =
    let parts = and_parts (nat_lt (length t.buffer) t.params.max_write_buffer_count) (nat_lt (bytes_of t.buffer) t.params.max_write_buffer_size) may in
    (ltb-true _ _ parts.0, ltb-true _ _ parts.1)

-- below its bound a buffer has room, however many reads are in the sent state
room-below : (bound most_reads most sent load : ℕ) → load < bound → HasRoom bound most_reads most sent load
room-below bound most_reads most sent load below = omega arith

-- no two of the reads have one number, also with a number that was never drawn
apart-more : (t : Task) (reads : List Read) (most begun_at : ℕ) → AllByRecursion (IsGoodRead most begun_at t.next_request t.next) t.reads
    → ((k : ℕ) → count_by (λ (r : Read). r.request == k) t.reads ≤ 1)
    → ((k : ℕ) → count_by (λ (r : Read). r.request == k) reads ≤ count_by (λ (r : Read). r.request == k) t.reads + one_if (t.next_request == k))
    → (k : ℕ) → count_by (λ (r : Read). r.request == k) reads ≤ 1
apart-more t reads most begun_at all apart more k =
    let now : count_by {X = Read} (λ r. r.request == k) reads ≤ count_by {X = Read} (λ r. r.request == k) t.reads + one_if (t.next_request == k) = more k in
    let old : count_by {X = Read} (λ r. r.request == k) t.reads ≤ 1 = apart k in
    on_if (λ (i : ℕ). one_if (t.next_request == k) ≡ i → count_by {X = Read} (λ r. r.request == k) reads ≤ 1) (t.next_request == k) 1 0
    (λ is i.
    let same : t.next_request ≡ k = grind (arith, nat_tests) in
    let none : count_by {X = Read} (λ r. r.request == k) t.reads ≡ 0 =
    subst (λ (m : ℕ). count_by {X = Read} (λ r. r.request == m) t.reads ≡ 0) same
    (count-undrawn (IsGoodRead most begun_at t.next_request t.next) t.next_request (λ r good. good.drawn) t.reads all) in
    omega arith)
    (λ isnt i. omega arith)
    refl

abbrev renumber : ℕ → Read → Read
renumber request own = record own { request = request; progress = on_its_way }

pub sent_again-sound : (line : Line) (begun_at : ℕ) (written : List WrittenBatch) (t : Task) (r : Read) → may_read t ≡ true
    → IsSoundTask line t begun_at written → IsSoundTask line (sent_again t r).next begun_at written
sent_again-sound line begun_at written t r may s =
    let free = may_read-room t may in
    let most : ℕ = t.params.max_read_request_operation_count in
    record {
      params = s.params;
      begun = s.begun;
      reads = record {
        all = All-changed_read (IsGoodRead most begun_at (t.next_request + 1) t.next) r.request (renumber t.next_request)
            (λ own good. record { drawn = omega arith; begins = good.begins; ordered = good.ordered; below = good.below; enough = good.enough; asked = good.asked; exact = λ held. absurd (cc) }) t.reads
            (All-weaker (IsGoodRead most begun_at t.next_request t.next) (IsGoodRead most begun_at (t.next_request + 1) t.next)
            (λ own good. record { drawn = (let low : own.request < t.next_request = good.drawn in omega arith); begins = good.begins; ordered = good.ordered; below = good.below; enough = good.enough; asked = good.asked; exact = good.exact })
            t.reads s.reads.all);
        apart = apart-more t (changed_read r.request (renumber t.next_request) t.reads) most begun_at s.reads.all s.reads.apart
            (λ k. count-changed-le (λ own. own.request == k) r.request (one_if (t.next_request == k)) (renumber t.next_request) (λ own. omega arith) t.reads);
        few = let same : length (changed_read r.request (renumber t.next_request) t.reads) ≡ length t.reads = length-changed r.request (renumber t.next_request) t.reads in
            let few : length t.reads ≤ t.params.max_outstanding_read_requests = s.reads.few in omega arith;
      };
      writes = s.writes;
      places = λ active. λ n low.
          let now = s.places active n low in
          let same : count_by (is_in_read n) (changed_read r.request (renumber t.next_request) t.reads) ≡ count_by (is_in_read n) t.reads = count-changed-same (is_in_read n) r.request (renumber t.next_request) (λ own. refl) t.reads in
          let all : times_at (sent_again t r).next written n ≡ times_at t written n = omega arith in
          all ∙ now;
      room = room-below _ _ _ _ (length t.buffer) free.0;
      space = room-below _ _ _ _ (bytes_of t.buffer) free.1;
      buffer = s.buffer;
      batches = s.batches;
    }

-- what each sending keeps while the buffer is below its bounds, all keep
pub all-sent-again : (line : Line) (begun_at : ℕ) (written : List WrittenBatch) (rs : List Read) (t : Task) → may_read t ≡ true
    → IsSoundTask line t begun_at written → IsSoundTask line (all_sent_again rs t).next begun_at written
all-sent-again line begun_at written [] t may s = s
all-sent-again line begun_at written (r ∷ rs) t may s =
    all-sent-again line begun_at written rs (sent_again t r).next may (sent_again-sound line begun_at written t r may s)

-- the writes stay as they are
all-sent-writes : (rs : List Read) (t : Task) → HasFullWrites t → HasFullWrites (all_sent_again rs t).next
all-sent-writes [] t full = full
all-sent-writes (r ∷ rs) t full = all-sent-writes rs (sent_again t r).next full

abbrev pub NoneHeld : Task → Type 0
NoneHeld t = AllByRecursion (λ (r : Read). is_held r ≡ false) t.reads

-- the held reads have the numbers of those that are still to be sent
abbrev AreHeldAmong : List Read → Task → Type 0
AreHeldAmong rs t = (k : ℕ) → count_by (held_with k) t.reads ≤ count_by (λ (r : Read). r.request == k) rs

held-less : (line : Line) (begun_at : ℕ) (written : List WrittenBatch) (r : Read) (rs : List Read) (t : Task) → IsSoundTask line t begun_at written
    → AreHeldAmong (r ∷ rs) t → AreHeldAmong rs (sent_again t r).next
held-less line begun_at written r rs t s among = λ k.
    let f : Read → Read = renumber t.next_request in
    let before : count_by (held_with k) t.reads ≤ count_by {X = Read} (λ r. r.request == k) (r ∷ rs) = among k in
    let first : count_by {X = Read} (λ r. r.request == k) (r ∷ rs) ≡ one_if (r.request == k) + count_by {X = Read} (λ r. r.request == k) rs = count-cons {X = Read} (λ r. r.request == k) r rs in
    let fewer : count_by (held_with k) (changed_read r.request f t.reads) ≤ count_by (held_with k) t.reads + 0 = count-changed-le (held_with k) r.request 0 f (λ own. omega arith) t.reads in
    let held : count_by (held_with k) (changed_read r.request f t.reads) ≤ count_by {X = Read} (λ r. r.request == k) (changed_read r.request f t.reads) = count-held-le k (changed_read r.request f t.reads) in
    let held_now : count_by (held_with k) t.reads ≤ count_by {X = Read} (λ r. r.request == k) t.reads = count-held-le k t.reads in
    on_if (λ (i : ℕ). one_if (r.request == k) ≡ i → count_by (held_with k) (changed_read r.request f t.reads) ≤ count_by {X = Read} (λ r. r.request == k) rs) (r.request == k) 1 0
    (λ is i.
    let same : r.request ≡ k = grind (arith, nat_tests) in
    on_if (λ (j : ℕ). one_if (t.next_request == k) ≡ j → count_by (held_with k) (changed_read r.request f t.reads) ≤ count_by {X = Read} (λ r. r.request == k) rs) (t.next_request == k) 1 0
    (λ fresh j.
    let same_next : t.next_request ≡ k = grind (arith, nat_tests) in
    let none : count_by {X = Read} (λ r. r.request == k) t.reads ≡ 0 =
    subst (λ (m : ℕ). count_by {X = Read} (λ r. r.request == m) t.reads ≡ 0) same_next
    (count-undrawn (IsGoodRead t.params.max_read_request_operation_count begun_at t.next_request t.next) t.next_request (λ r good. good.drawn) t.reads s.reads.all) in
    omega arith)
    (λ old j.
    let gone : count_by {X = Read} (λ r. r.request == k) (changed_read r.request f t.reads) ≡ count_by {X = Read} (λ r. r.request == k) t.reads - 1 =
    subst (λ (m : ℕ). count_by {X = Read} (λ r. r.request == k) (changed_read m f t.reads) ≡ count_by {X = Read} (λ r. r.request == k) t.reads - 1) (sym same)
    (count-renumbered k f (λ own. old) t.reads) in
    let most : count_by {X = Read} (λ r. r.request == k) t.reads ≤ 1 = s.reads.apart k in
    omega arith)
    refl)
    (λ isnt i. omega arith)
    refl

all-sent-held : (line : Line) (begun_at : ℕ) (written : List WrittenBatch) (rs : List Read) (t : Task) → may_read t ≡ true
    → IsSoundTask line t begun_at written → AreHeldAmong rs t → NoneHeld (all_sent_again rs t).next
all-sent-held line begun_at written [] t may s among =
    none-held t.reads (λ k. let none : count_by (held_with k) t.reads ≤ count_by {X = Read} (λ r. r.request == k) [] = among k in omega arith)
all-sent-held line begun_at written (r ∷ rs) t may s among =
    all-sent-held line begun_at written rs (sent_again t r).next may (sent_again-sound line begun_at written t r may s) (held-less line begun_at written r rs t s among)

-- ---- new reads

-- the numbers below `to` are those below `next` and those of the new read
stretch : (n next to : ℕ) → next ≤ to → one_if (nat_lt n next) + one_in next to n ≡ one_if (nat_lt n to)
stretch n next to low = grind (arith, nat_tests)

has_budget-parts : (t : Task) → has_budget t ≡ true → (length t.reads < t.params.max_outstanding_read_requests) × (may_read t ≡ true)
has_budget-parts t has =
    let parts = and_parts (nat_lt (length t.reads) t.params.max_outstanding_read_requests) (may_read t) has in
    (ltb-true _ _ parts.0, parts.1)

abbrev new_read : Task → ℕ → ℕ → Read
new_read t to asked = record { request = t.next_request; from = t.next; to = to; asked = asked; progress = on_its_way }

pub with_read-sound : (line : Line) (begun_at : ℕ) (written : List WrittenBatch) (t : Task) (to asked : ℕ) → has_budget t ≡ true
    → t.next ≤ to → to ≤ t.next + asked → asked ≤ t.params.max_read_request_operation_count
    → IsSoundTask line t begun_at written → IsSoundTask line (with_read t t.next to asked).next begun_at written
with_read-sound line begun_at written t to asked has up enough low s =
    let budget = has_budget-parts t has in
    let free = may_read-room t budget.1 in
    let most : ℕ = t.params.max_read_request_operation_count in
    let r : Read = new_read t to asked in
    let from_start : begun_at ≤ t.next = s.begun in
    record {
      params = s.params;
      begun = omega arith;
      reads = record {
        all = All-append (IsGoodRead most begun_at (t.next_request + 1) to) t.reads (r ∷ [])
            (All-weaker (IsGoodRead most begun_at t.next_request t.next) (IsGoodRead most begun_at (t.next_request + 1) to)
            (λ own good.
            let drawn : own.request < t.next_request = good.drawn in
            let below : own.to ≤ t.next = good.below in
            record { drawn = omega arith; begins = good.begins; ordered = good.ordered; below = omega arith; enough = good.enough; asked = good.asked; exact = good.exact })
            t.reads s.reads.all)
            (record { drawn = omega arith; begins = s.begun; ordered = up; below = omega arith; enough = enough; asked = low; exact = λ held. absurd (cc) }, tt);
        apart = apart-more t (t.reads ++ r ∷ []) most begun_at s.reads.all s.reads.apart
            (λ k.
            let all : count_by {X = Read} (λ r. r.request == k) (t.reads ++ r ∷ []) ≡ count_by {X = Read} (λ r. r.request == k) t.reads + count_by {X = Read} (λ r. r.request == k) (r ∷ []) = count-append {X = Read} (λ r. r.request == k) t.reads (r ∷ []) in
            let one : count_by {X = Read} (λ r. r.request == k) (r ∷ []) ≡ one_if (t.next_request == k) = count-one {X = Read} (λ r. r.request == k) r in
            omega arith);
        few =
            let more : length (t.reads ++ r ∷ []) ≡ length t.reads + length (r ∷ []) = length-append t.reads (r ∷ []) in
            let few : length t.reads < t.params.max_outstanding_read_requests = budget.0 in
            omega arith;
      };
      writes = s.writes;
      places = λ active. λ n from_begun.
          let now : times_at t written n ≡ one_if (nat_lt n t.next) = s.places active n from_begun in
          let all : count_by (is_in_read n) (t.reads ++ r ∷ []) ≡ count_by (is_in_read n) t.reads + count_by (is_in_read n) (r ∷ []) = count-append (is_in_read n) t.reads (r ∷ []) in
          let one : count_by (is_in_read n) (r ∷ []) ≡ one_in t.next to n = count-one (is_in_read n) r in
          let more : times_at (with_read t t.next to asked).next written n ≡ times_at t written n + one_in t.next to n = omega arith in
          let below : one_if (nat_lt n t.next) + one_in t.next to n ≡ one_if (nat_lt n to) = stretch n t.next to up in
          let goal : times_at (with_read t t.next to asked).next written n ≡ one_if (nat_lt n to) = omega arith in
          goal;
      room = room-below _ _ _ _ (length t.buffer) free.0;
      space = room-below _ _ _ _ (bytes_of t.buffer) free.1;
      buffer = s.buffer;
      batches = s.batches;
    }

-- what holds between the steps of Fill
pub record IsHalfFull (line : Line) (t : Task) (begun_at : ℕ) (written : List WrittenBatch) : Type 0 where
  pub sound : IsSoundTask line t begun_at written
  pub writes : HasFullWrites t
  pub held : may_read t ≡ true → NoneHeld t

with_read-half : (line : Line) (begun_at : ℕ) (written : List WrittenBatch) (t : Task) (to asked : ℕ) → has_budget t ≡ true
    → t.next ≤ to → to ≤ t.next + asked → asked ≤ t.params.max_read_request_operation_count
    → IsHalfFull line t begun_at written → IsHalfFull line (with_read t t.next to asked).next begun_at written
with_read-half line begun_at written t to asked has up enough low h = record {
  sound = with_read-sound line begun_at written t to asked has up enough low h.sound;
  writes = h.writes;
  held = λ may. All-append (λ (r : Read). is_held r ≡ false) t.reads (new_read t to asked ∷ []) (h.held may) (refl, tt);
}

pub asks-within : (t : Task) (size : ℕ) → size ≤ t.params.max_read_request_operation_count
    → (size ≤ asks t size) × (asks t size ≤ t.params.max_read_request_operation_count)
asks-within t size low =
    on_if (λ (n : ℕ). (size ≤ n) × (n ≤ t.params.max_read_request_operation_count)) (is_empty t.reads) t.params.max_read_request_operation_count size
    (λ is. (low, omega arith)) (λ isnt. (omega arith, low))

next_read-half : (line : Line) (begun_at : ℕ) (written : List WrittenBatch) (t : Task) → has_budget t ≡ true → t.next < t.known
    → IsHalfFull line t begun_at written → IsHalfFull line (next_read t).next begun_at written
next_read-half line begun_at written t has low h =
    let to : ℕ = min t.known (t.next + t.params.max_read_request_operation_count) in
    let asked = asks-within t (to - t.next) (omega arith) in
    let enough : to - t.next ≤ asks t (to - t.next) = asked.0 in
    with_read-half line begun_at written t to (asks t (to - t.next)) has (omega arith) (omega arith) asked.1 h

-- nothing is left to be read, or no more reads may be begun
abbrev pub HasReads : Task → Type 0
HasReads t = has_budget t ≡ true → t.known ≤ t.next

pub with_reads-half : (line : Line) (begun_at : ℕ) (written : List WrittenBatch) (n : ℕ) (t : Task)
    → min (t.params.max_outstanding_read_requests - length t.reads) (t.known - t.next) ≤ n
    → IsHalfFull line t begun_at written → IsHalfFull line (with_reads n t).next begun_at written × HasReads (with_reads n t).next
with_reads-half line begun_at written zero t low h =
    (h, λ has. let budget : length t.reads < t.params.max_outstanding_read_requests = (has_budget-parts t has).0 in omega arith)
with_reads-half line begun_at written (suc n) t low h =
    let to : ℕ = min t.known (t.next + t.params.max_read_request_operation_count) in
    let r : Read = new_read t to (asks t (to - t.next)) in
    let more : length (t.reads ++ r ∷ []) ≡ length t.reads + length (r ∷ []) = length-append t.reads (r ∷ []) in
    let some : 1 ≤ t.params.max_read_request_operation_count = h.sound.params.max_read_request_operation_count.some in
    on_if (λ (done : Sending Task). IsHalfFull line done.next begun_at written × HasReads done.next) (has_budget t && nat_lt t.next t.known)
    (followed_by (next_read t) (with_reads n)) (quiet t)
    (λ is.
    let parts = and_parts (has_budget t) (nat_lt t.next t.known) is in
    let left : t.next < t.known = ltb-true _ _ parts.1 in
    with_reads-half line begun_at written n (next_read t).next (omega arith) (next_read-half line begun_at written t parts.0 left h))
    (λ isnt. (
      h,
      λ has.
          let other : (true && nat_lt t.next t.known) ≡ false = subst (λ (b : Bool). (b && nat_lt t.next t.known) ≡ false) has isnt in
          ltb-false _ _ other,
    ))

-- ---- Fill

pub fill_held-half : (line : Line) (begun_at : ℕ) (written : List WrittenBatch) (t : Task) → HasFullWrites t
    → IsSoundTask line t begun_at written → IsHalfFull line (fill_held t).next begun_at written
fill_held-half line begun_at written t full s =
    on_if (λ (done : Sending Task). IsHalfFull line done.next begun_at written) (may_read t) (all_sent_again (filter is_held t.reads) t) (quiet t)
    (λ may. record {
      sound = all-sent-again line begun_at written (filter is_held t.reads) t may s;
      writes = all-sent-writes (filter is_held t.reads) t full;
      held = λ still. all-sent-held line begun_at written (filter is_held t.reads) t may s (λ k. count-held k t.reads);
    })
    (λ maynt. record { sound = s; writes = full; held = λ may. absurd (cc) })

some-reads : (reads : List Read) → is_empty reads ≡ false → 1 ≤ length reads
some-reads [] isnt = absurd (cc)
some-reads (r ∷ reads) isnt = omega arith

one-of : (t : Task) → is_empty t.reads ≡ false → 1 ≤ length t.reads
one-of t isnt = some-reads t.reads isnt

empty-not : (a b : Bool) → b ≡ true → (a && b) ≡ false → a ≡ false
empty-not a b is isnt = grind arith

fill_peek-done : (line : Line) (begun_at : ℕ) (written : List WrittenBatch) (t : Task) → IsHalfFull line t begun_at written → HasReads t
    → IsSoundTask line (fill_peek t).next begun_at written × IsSaturated (fill_peek t).next
fill_peek-done line begun_at written t h reads =
    let r : Read = new_read t t.next t.params.max_read_request_operation_count in
    let more : length (t.reads ++ r ∷ []) ≡ length t.reads + length (r ∷ []) = length-append t.reads (r ∷ []) in
    on_if (λ (done : Sending Task). IsSoundTask line done.next begun_at written × IsSaturated done.next) (is_empty t.reads && has_budget t)
    (with_read t t.next t.next t.params.max_read_request_operation_count) (quiet t)
    (λ is.
    let parts = and_parts (is_empty t.reads) (has_budget t) is in
    let full = with_read-half line begun_at written t t.next t.params.max_read_request_operation_count parts.1 (omega arith) (omega arith) (omega arith) h in
    (full.sound, record { writes = full.writes; held = full.held; reads = λ has. reads parts.1; one = λ has. omega arith }))
    (λ isnt. (h.sound, record { writes = h.writes; held = h.held; reads = reads; one = λ has. one-of t (empty-not (is_empty t.reads) (has_budget t) has isnt) }))

-- a filled task is sound, and nothing is left undone
pub fill-done : (line : Line) (begun_at : ℕ) (written : List WrittenBatch) (t : Task) → IsSoundTask line t begun_at written
    → IsSoundTask line (fill t).next begun_at written × IsSaturated (fill t).next
fill-done line begun_at written t s =
    let n : ℕ = min (t.params.max_outstanding_write_requests - length t.writes) (length t.buffer) in
    let few : length t.writes ≤ t.params.max_outstanding_write_requests = s.writes.few in
    let a : Task = fill_writes t in
    let a_sound : IsSoundTask line a begun_at written = with_batches-sound line begun_at written n t (omega arith) s in
    let a_full : HasFullWrites a = with_batches-full n t (omega arith) in
    let b : Task = (fill_held a).next in
    let b_half : IsHalfFull line b begun_at written = fill_held-half line begun_at written a a_full a_sound in
    let c : Task = (fill_reads b).next in
    let c_half : IsHalfFull line c begun_at written × HasReads c =
    with_reads-half line begun_at written (min (b.params.max_outstanding_read_requests - length b.reads) (b.known - b.next)) b (omega arith) b_half in
    fill_peek-done line begun_at written c c_half.0 c_half.1

-- an active task is filled
pub filled-good : (line : Line) (begun_at : ℕ) (written : List WrittenBatch) (t : Task) → IsSoundTask line t begun_at written
    → IsGoodTask line (filled_if_active t).next begun_at written
filled-good line begun_at written t s =
    on_if (λ (done : Sending Task). IsGoodTask line done.next begun_at written) (is_active t.phase) (fill t) (quiet t)
    (λ is. let done = fill-done line begun_at written t s in record { sound = done.0; saturated = λ active. done.1 })
    (λ isnt. record { sound = s; saturated = λ active. absurd (cc) })
