-- What a task that is filled lacks: no more than before.
use Rattle.std.specs.List.{AllByRecursion}
use Rattle.std.specs.Prelude.{filter}
use Rattle.std.proofs.Common.{◌≡◌, ◌⊎◌, inl, inr, ℕ, zero, suc, ◌+◌, ◌-◌, ◌<◌, ◌≤◌, ◌==◌, ◌&&◌, ◌||◌, min, true, false, nat_lt, List, [], ◌∷◌, ◌++◌, length, take, drop, refl, sym, ◌∙◌, subst, arith}
use Rattle.std.proofs.lemmas.Bool.Decides.{nat_tests}
use Rattle.ccr_op.specs.Operation.{Operation}
use Rattle.ccr_model.specs.Operations.{is_empty, size_of, front_within, cut_of}
use Rattle.ccr_model.specs.Requests.{on_its_way, Sending, quiet, followed_by}
use Rattle.ccr_model.specs.Tasks.{Task, Read, Write, is_active, may_read, has_budget, with_read, changed_read, sent_again, all_sent_again, with_batch, with_batches, fill_writes, is_held, fill_held, asks, next_read, with_reads, fill_reads, fill_peek, fill, filled_if_active}
use Rattle.ccr_model.specs.Leaders.{Session}
use Rattle.ccr_law_base.proofs.Cases.{on_if}
use Rattle.ccr_law_base.proofs.Lists.{All-append, some_length}
use Rattle.ccr_law_settling.specs.Measure.{total, task_lacks}
use Rattle.ccr_law_settling.proofs.Measure.Totals.{le_itself, total_append}
use Rattle.ccr_law_settling.proofs.Measure.Flights.{IsPlain}
use Rattle.ccr_law_settling.proofs.Measure.Reading.{cut_some}
use Rattle.ccr_law_settling.proofs.Measure.LostRequests.{total_changed_read}
use Rattle.ccr_law_base.proofs.Tests.{and_second}

-- the task lacks no more, knows as much, and sends plain messages
pub record Fills (count : ℕ) (sessions : List Session) (t : Task) (done : Sending Task) : Type 0 where
  pub lacks : task_lacks count done.next ≤ task_lacks count t
  pub known : done.next.known ≡ t.known
  pub sent : AllByRecursion (IsPlain sessions) done.sent

pub fills_quietly : (count : ℕ) (sessions : List Session) (t : Task) → Fills count sessions t (quiet t)
fills_quietly count sessions t = record { lacks = le_itself (task_lacks count t); known = refl; sent = tt }

pub fills_then : (count : ℕ) (sessions : List Session) (t : Task) (first : Sending Task) (f : Task → Sending Task) → Fills count sessions t first
    → Fills count sessions first.next (f first.next) → Fills count sessions t (followed_by first f)
fills_then count sessions t first f one two = record {
  lacks =
      (let a : task_lacks count first.next ≤ task_lacks count t = one.lacks in
      let b : task_lacks count (f first.next).next ≤ task_lacks count first.next = two.lacks in
      omega arith);
  known = two.known ∙ one.known;
  sent = All-append (IsPlain sessions) first.sent (f first.next).sent one.sent two.sent;
}

-- ---- writes

front_short : (max_ops max_bytes : ℕ) (ops : List Operation) → length (front_within max_ops max_bytes ops) ≤ length ops
front_short max_ops max_bytes [] = omega arith
front_short max_ops max_bytes (op ∷ ops) =
    on_if (λ (xs : List Operation). length xs ≤ length (op ∷ ops)) ((max_ops == 0) || nat_lt max_bytes (size_of op)) [] (op ∷ front_within (max_ops - 1) (max_bytes - size_of op) ops)
    (λ is. omega arith)
    (λ isnt. (let rest : length (front_within (max_ops - 1) (max_bytes - size_of op) ops) ≤ length ops = front_short (max_ops - 1) (max_bytes - size_of op) ops in omega arith))

cut_short : (max_ops max_bytes : ℕ) (ops : List Operation) → length (cut_of max_ops max_bytes ops) ≤ length ops
cut_short max_ops max_bytes ops =
    on_if (λ (xs : List Operation). length xs ≤ length ops) (is_empty (front_within max_ops max_bytes ops)) (take 1 ops) (front_within max_ops max_bytes ops)
    (λ is. first ops) (λ isnt. front_short max_ops max_bytes ops)
  where
    first : (ops : List Operation) → length (take 1 ops) ≤ length ops
    first [] = omega arith
    first (op ∷ ops) = omega arith

drop_length : (n : ℕ) (ops : List Operation) → length (drop n ops) ≡ length ops - n
drop_length zero [] = refl
drop_length zero (op ∷ ops) = omega arith
drop_length (suc n) [] = omega arith
drop_length (suc n) (op ∷ ops) = let rest : length (drop n ops) ≡ length ops - n = drop_length n ops in omega arith

abbrev pub write_amount : Write → ℕ
write_amount w = 1 + length w.batch

batch_lacks : (count : ℕ) (t : Task) → is_empty t.buffer ≡ false → task_lacks count (with_batch t) ≤ task_lacks count t
batch_lacks count t some =
    let batch : List Operation = cut_of t.params.max_write_request_operation_count t.params.max_write_request_size t.buffer in
    let one : 1 ≤ length batch = some_length batch (cut_some t.params.max_write_request_operation_count t.params.max_write_request_size t.buffer some) in
    let short : length batch ≤ length t.buffer = cut_short t.params.max_write_request_operation_count t.params.max_write_request_size t.buffer in
    let left : length (drop (length batch) t.buffer) ≡ length t.buffer - length batch = drop_length (length batch) t.buffer in
    let w : Write = record { number = t.next_write; batch = batch; progress = on_its_way } in
    let writes : total write_amount (t.writes ++ w ∷ []) ≡ total write_amount t.writes + (1 + length batch + 0) = total_append write_amount t.writes (w ∷ []) in
    omega arith

pub batches_lack : (n count : ℕ) (t : Task) → (task_lacks count (with_batches n t) ≤ task_lacks count t) × ((with_batches n t).known ≡ t.known)
batches_lack zero count t = (le_itself (task_lacks count t), refl)
batches_lack (suc n) count t =
    on_if (λ (x : Task). (task_lacks count x ≤ task_lacks count t) × (x.known ≡ t.known)) (is_empty t.buffer) t (with_batches n (with_batch t))
    (λ is. (le_itself (task_lacks count t), refl))
    (λ some.
    let rest : (task_lacks count (with_batches n (with_batch t)) ≤ task_lacks count (with_batch t)) × ((with_batches n (with_batch t)).known ≡ t.known) = batches_lack n count (with_batch t) in
    let less : task_lacks count (with_batches n (with_batch t)) ≤ task_lacks count (with_batch t) = rest.0 in
    let here : task_lacks count (with_batch t) ≤ task_lacks count t = batch_lacks count t some in
    (omega arith, rest.1))

-- ---- reads

pub again_fills : (count : ℕ) (sessions : List Session) (t : Task) (r : Read) → Fills count sessions t (sent_again t r)
again_fills count sessions t r =
    let same : total (λ (x : Read). x.to - x.from) (changed_read r.request (λ own. record own { request = t.next_request; progress = on_its_way }) t.reads) ≡ total (λ (x : Read). x.to - x.from) t.reads
    = total_changed_read (λ (x : Read). x.to - x.from) r.request (λ own. record own { request = t.next_request; progress = on_its_way }) (λ x. refl) t.reads in
    record { lacks = omega arith; known = refl; sent = (record { opens = refl; gone = refl }, tt) }

pub all_again_fills : (count : ℕ) (sessions : List Session) (reads : List Read) (t : Task) → Fills count sessions t (all_sent_again reads t)
all_again_fills count sessions [] t = fills_quietly count sessions t
all_again_fills count sessions (r ∷ reads) t =
    fills_then count sessions t (sent_again t r) (all_sent_again reads) (again_fills count sessions t r) (all_again_fills count sessions reads (sent_again t r).next)

-- a read up to a number of the history
pub read_fills : (count : ℕ) (sessions : List Session) (t : Task) (to asked : ℕ) → t.next ≤ to → (to ≤ count) ⊎ (to ≡ t.next) → Fills count sessions t (with_read t t.next to asked)
read_fills count sessions t to asked up within =
    let r : Read = record { request = t.next_request; from = t.next; to = to; asked = asked; progress = on_its_way } in
    let sums : total (λ (x : Read). x.to - x.from) (t.reads ++ r ∷ []) ≡ total (λ (x : Read). x.to - x.from) t.reads + (to - t.next + 0) = total_append (λ (x : Read). x.to - x.from) t.reads (r ∷ []) in
    record { lacks = by within sums; known = refl; sent = (record { opens = refl; gone = refl }, tt) }
  where
    by : (to ≤ count) ⊎ (to ≡ t.next)
        → total (λ (x : Read). x.to - x.from) (t.reads ++ record { request = t.next_request; from = t.next; to = to; asked = asked; progress = on_its_way } ∷ []) ≡ total (λ (x : Read). x.to - x.from) t.reads + (to - t.next + 0)
        → task_lacks count (with_read t t.next to asked).next ≤ task_lacks count t
    by (inl le) sums = omega arith
    by (inr same) sums = omega arith

reads_fill : (n count : ℕ) (sessions : List Session) (t : Task) → t.known ≤ count → Fills count sessions t (with_reads n t)
reads_fill zero count sessions t within = fills_quietly count sessions t
reads_fill (suc n) count sessions t within =
    on_if (Fills count sessions t) (has_budget t && nat_lt t.next t.known) (followed_by (next_read t) (with_reads n)) (quiet t)
    (λ is.
    let lt : t.next < t.known = below (and_second (has_budget t) (nat_lt t.next t.known) is) in
    let to : ℕ = min t.known (t.next + t.params.max_read_request_operation_count) in
    let one : Fills count sessions t (next_read t) = read_fills count sessions t to (asks t (to - t.next)) (omega arith) (inl (omega arith)) in
    fills_then count sessions t (next_read t) (with_reads n) one (reads_fill n count sessions (next_read t).next within))
    (λ isnt. fills_quietly count sessions t)
  where
    below : nat_lt t.next t.known ≡ true → t.next < t.known
    below is = grind (arith, nat_tests)

peek_fills : (count : ℕ) (sessions : List Session) (t : Task) → Fills count sessions t (fill_peek t)
peek_fills count sessions t =
    on_if (Fills count sessions t) (is_empty t.reads && has_budget t) (with_read t t.next t.next t.params.max_read_request_operation_count) (quiet t)
    (λ is. read_fills count sessions t t.next t.params.max_read_request_operation_count (omega arith) (inr refl))
    (λ isnt. fills_quietly count sessions t)

held_fills : (count : ℕ) (sessions : List Session) (t : Task) → Fills count sessions t (fill_held t)
held_fills count sessions t =
    on_if (Fills count sessions t) (may_read t) (all_sent_again (filter is_held t.reads) t) (quiet t)
    (λ is. all_again_fills count sessions (filter is_held t.reads) t) (λ isnt. fills_quietly count sessions t)

-- ---- all of it

pub fill_fills : (count : ℕ) (sessions : List Session) (t : Task) → t.known ≤ count → Fills count sessions t (fill t)
fill_fills count sessions t within =
    let writes : (task_lacks count (fill_writes t) ≤ task_lacks count t) × ((fill_writes t).known ≡ t.known)
    = batches_lack (min (t.params.max_outstanding_write_requests - length t.writes) (length t.buffer)) count t in
    let le : task_lacks count (fill_writes t) ≤ task_lacks count t = writes.0 in
    let held : Fills count sessions (fill_writes t) (fill_held (fill_writes t)) = held_fills count sessions (fill_writes t) in
    let after_held : Task = (fill_held (fill_writes t)).next in
    let known : after_held.known ≤ count = subst (λ n. n ≤ count) (sym (held.known ∙ writes.1)) within in
    let reads : Fills count sessions after_held (fill_reads after_held)
    = reads_fill (min (after_held.params.max_outstanding_read_requests - length after_held.reads) (after_held.known - after_held.next)) count sessions after_held known in
    let both : Fills count sessions (fill_writes t) (followed_by (fill_held (fill_writes t)) fill_reads) = fills_then count sessions (fill_writes t) (fill_held (fill_writes t)) fill_reads held reads in
    let all : Fills count sessions (fill_writes t) (fill t)
    = fills_then count sessions (fill_writes t) (followed_by (fill_held (fill_writes t)) fill_reads) fill_peek both (peek_fills count sessions (followed_by (fill_held (fill_writes t)) fill_reads).next) in
    let more : task_lacks count (fill t).next ≤ task_lacks count (fill_writes t) = all.lacks in
    record { lacks = omega arith; known = all.known ∙ writes.1; sent = all.sent }

pub filled_fills : (count : ℕ) (sessions : List Session) (t : Task) → t.known ≤ count → Fills count sessions t (filled_if_active t)
filled_fills count sessions t within =
    on_if (Fills count sessions t) (is_active t.phase) (fill t) (quiet t) (λ is. fill_fills count sessions t within) (λ isnt. fills_quietly count sessions t)
