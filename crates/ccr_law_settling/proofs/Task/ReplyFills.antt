-- A task that is filled lacks less, or it has asked for no more and has no more old peeks; and what it sends are requests for operations.
use Rattle.std.specs.List.{AllByRecursion}
use Rattle.std.specs.Prelude.{filter}
use Rattle.std.proofs.Common.{◌≡◌, ◌⊎◌, inl, inr, ℕ, zero, suc, ◌+◌, ◌-◌, ◌<◌, ◌≤◌, ◌==◌, ◌&&◌, min, true, false, nat_lt, List, [], ◌∷◌, ◌++◌, length, refl, sym, ◌∙◌, subst, arith}
use Rattle.std.proofs.lemmas.Bool.Decides.{nat_tests}
use Rattle.ccr_wire.specs.Message.{Frame}
use Rattle.ccr_model.specs.Operations.{is_empty}
use Rattle.ccr_model.specs.Requests.{on_its_way, Sending, quiet, followed_by}
use Rattle.ccr_model.specs.Tasks.{Task, Read, is_active, may_read, has_budget, with_read, changed_read, sent_again, all_sent_again, with_batch, with_batches, fill_writes, is_held, fill_held, asks, next_read, with_reads, fill_reads, fill_peek, fill, filled_if_active}
use Rattle.ccr_model.specs.Leaders.{Session}
use Rattle.ccr_model.specs.Followers.{replicating}
use Rattle.ccr_law_base.proofs.Cases.{on_if}
use Rattle.ccr_law_base.proofs.Lists.{All-append}
use Rattle.ccr_law_settling.specs.Measure.{total, is_idle_content, task_lacks, old_peeks}
use Rattle.ccr_law_settling.proofs.Measure.Totals.{le_itself, total_append}
use Rattle.ccr_law_settling.proofs.Measure.LostRequests.{total_changed_read}
use Rattle.ccr_law_settling.proofs.Measure.Filling.{Fills, fills_quietly, fills_then, batches_lack, again_fills, read_fills}
use Rattle.ccr_law_settling.proofs.Task.ReplyReads.{peek_below}
use Rattle.ccr_law_base.proofs.Tests.{and_second}
use Rattle.std.proofs.lemmas.Bool.{and_right}

-- the task asked for no more, and has no more old peeks
pub record StandsStill (t new : Task) : Type 0 where
  pub next : new.next ≡ t.next
  pub peeks : old_peeks (replicating new) ≤ old_peeks (replicating t)

-- the task is filled, and so lacks less or stands still; what it sends brings something
pub record FillsOn (count : ℕ) (sessions : List Session) (t : Task) (done : Sending Task) : Type 0 where
  pub fills : Fills count sessions t done
  pub busy : AllByRecursion (λ (m : Frame). is_idle_content m.content ≡ false) done.sent
  pub moves : (task_lacks count done.next < task_lacks count t) ⊎ StandsStill t done.next

stands_still : (t : Task) → StandsStill t t
stands_still t = record { next = refl; peeks = le_itself (old_peeks (replicating t)) }

-- less is lacking after two changes where it is after one, and the task stands still where it does in both
pub lacks_less_or_still : (count : ℕ) (a b c : Task) → task_lacks count b ≤ task_lacks count a → task_lacks count c ≤ task_lacks count b
    → (task_lacks count b < task_lacks count a) ⊎ StandsStill a b → (task_lacks count c < task_lacks count b) ⊎ StandsStill b c → (task_lacks count c < task_lacks count a) ⊎ StandsStill a c
lacks_less_or_still count a b c one two (inl less) second = inl (omega arith)
lacks_less_or_still count a b c one two (inr still) (inl less) = inl (omega arith)
lacks_less_or_still count a b c one two (inr first) (inr second) = inr (record {
  next = second.next ∙ first.next;
  peeks = no_more _ _ _ first.peeks second.peeks;
})
  where
    no_more : (x y z : ℕ) → y ≤ x → z ≤ y → z ≤ x
    no_more x y z p q = omega arith

fills_on_quietly : (count : ℕ) (sessions : List Session) (t : Task) → FillsOn count sessions t (quiet t)
fills_on_quietly count sessions t = record { fills = fills_quietly count sessions t; busy = tt; moves = inr (stands_still t) }

fills_on_then : (count : ℕ) (sessions : List Session) (t : Task) (first : Sending Task) (f : Task → Sending Task) → FillsOn count sessions t first → FillsOn count sessions first.next (f first.next)
    → FillsOn count sessions t (followed_by first f)
fills_on_then count sessions t first f one two = record {
  fills = fills_then count sessions t first f one.fills two.fills;
  busy = All-append (λ (m : Frame). is_idle_content m.content ≡ false) first.sent (f first.next).sent one.busy two.busy;
  moves = lacks_less_or_still count t first.next (f first.next).next one.fills.lacks two.fills.lacks one.moves two.moves;
}

-- ---- writes

batches_stay : (n : ℕ) (t : Task) → StandsStill t (with_batches n t)
batches_stay zero t = stands_still t
batches_stay (suc n) t =
    on_if (StandsStill t) (is_empty t.buffer) t (with_batches n (with_batch t))
    (λ is. stands_still t)
    (λ some. (let rest : StandsStill (with_batch t) (with_batches n (with_batch t)) = batches_stay n (with_batch t) in record { next = rest.next; peeks = rest.peeks }))

-- ---- reads

again_fills_on : (count : ℕ) (sessions : List Session) (t : Task) (r : Read) → FillsOn count sessions t (sent_again t r)
again_fills_on count sessions t r = record {
  fills = again_fills count sessions t r;
  busy = (refl, tt);
  moves = inr (record {
    next = refl;
    peeks =
        (let same : total (peek_below t.next) (changed_read r.request (λ own. record own { request = t.next_request; progress = on_its_way }) t.reads) ≡ total (peek_below t.next) t.reads
        = total_changed_read (peek_below t.next) r.request (λ own. record own { request = t.next_request; progress = on_its_way }) (λ x. refl) t.reads in
        omega arith);
  });
}

all_again_fills_on : (count : ℕ) (sessions : List Session) (reads : List Read) (t : Task) → FillsOn count sessions t (all_sent_again reads t)
all_again_fills_on count sessions [] t = fills_on_quietly count sessions t
all_again_fills_on count sessions (r ∷ reads) t =
    fills_on_then count sessions t (sent_again t r) (all_sent_again reads) (again_fills_on count sessions t r) (all_again_fills_on count sessions reads (sent_again t r).next)

-- a peek at `next` is not old
peek_stays : (t : Task) (asked : ℕ) → StandsStill t (with_read t t.next t.next asked).next
peek_stays t asked =
    let r : Read = record { request = t.next_request; from = t.next; to = t.next; asked = asked; progress = on_its_way } in
    let sums : total (peek_below t.next) (t.reads ++ r ∷ []) ≡ total (peek_below t.next) t.reads + (peek_below t.next r + 0) = total_append (peek_below t.next) t.reads (r ∷ []) in
    let new : peek_below t.next r ≡ 0 = none r in
    record { next = refl; peeks = no_more _ _ _ sums new }
  where
    none : (r : Read) → peek_below r.from r ≡ 0
    none r = rw (and_right (r.from == r.to) (nat_lt r.from r.from) (grind (arith, nat_tests))) refl

    no_more : (new old one : ℕ) → new ≡ old + (one + 0) → one ≡ 0 → new ≤ old
    no_more new old one a b = omega arith

-- a read of no number is a peek, and one of some lowers what is lacking
read_lacks_less_or_still : (count : ℕ) (t : Task) (to asked : ℕ) → t.next ≤ to → (to ≤ count) ⊎ (to ≡ t.next)
    → (task_lacks count (with_read t t.next to asked).next < task_lacks count t) ⊎ StandsStill t (with_read t t.next to asked).next
read_lacks_less_or_still count t to asked up within = by within
  where
    peeks : to ≡ t.next → (task_lacks count (with_read t t.next to asked).next < task_lacks count t) ⊎ StandsStill t (with_read t t.next to asked).next
    peeks same = inr (subst (λ (n : ℕ). StandsStill t (with_read t t.next n asked).next) (sym same) (peek_stays t asked))

    takes : t.next < to → to ≤ count → task_lacks count (with_read t t.next to asked).next < task_lacks count t
    takes some low =
        let r : Read = record { request = t.next_request; from = t.next; to = to; asked = asked; progress = on_its_way } in
        let sums : total (λ (x : Read). x.to - x.from) (t.reads ++ r ∷ []) ≡ total (λ (x : Read). x.to - x.from) t.reads + (to - t.next + 0) = total_append (λ (x : Read). x.to - x.from) t.reads (r ∷ []) in
        omega arith

    by : (to ≤ count) ⊎ (to ≡ t.next) → (task_lacks count (with_read t t.next to asked).next < task_lacks count t) ⊎ StandsStill t (with_read t t.next to asked).next
    by (inr same) = peeks same
    by (inl low) =
        (elim (nat_lt t.next to) as (λ b. nat_lt t.next to ≡ b → (task_lacks count (with_read t t.next to asked).next < task_lacks count t) ⊎ StandsStill t (with_read t t.next to asked).next) [
          | true ↦ λ is. inl (takes (grind (arith, nat_tests)) low)
          | false ↦ λ isnt. peeks (grind (arith, nat_tests))
        ]) refl

read_fills_on : (count : ℕ) (sessions : List Session) (t : Task) (to asked : ℕ) → t.next ≤ to → (to ≤ count) ⊎ (to ≡ t.next) → FillsOn count sessions t (with_read t t.next to asked)
read_fills_on count sessions t to asked up within = record {
  fills = read_fills count sessions t to asked up within;
  busy = (refl, tt);
  moves = read_lacks_less_or_still count t to asked up within;
}

reads_fill_on : (n count : ℕ) (sessions : List Session) (t : Task) → t.known ≤ count → FillsOn count sessions t (with_reads n t)
reads_fill_on zero count sessions t within = fills_on_quietly count sessions t
reads_fill_on (suc n) count sessions t within =
    on_if (FillsOn count sessions t) (has_budget t && nat_lt t.next t.known) (followed_by (next_read t) (with_reads n)) (quiet t)
    (λ is.
    let lt : t.next < t.known = below (and_second (has_budget t) (nat_lt t.next t.known) is) in
    let to : ℕ = min t.known (t.next + t.params.max_read_request_operation_count) in
    let one : FillsOn count sessions t (next_read t) = read_fills_on count sessions t to (asks t (to - t.next)) (omega arith) (inl (omega arith)) in
    fills_on_then count sessions t (next_read t) (with_reads n) one (reads_fill_on n count sessions (next_read t).next within))
    (λ isnt. fills_on_quietly count sessions t)
  where
    below : nat_lt t.next t.known ≡ true → t.next < t.known
    below is = grind (arith, nat_tests)

peek_fills_on : (count : ℕ) (sessions : List Session) (t : Task) → FillsOn count sessions t (fill_peek t)
peek_fills_on count sessions t =
    on_if (FillsOn count sessions t) (is_empty t.reads && has_budget t) (with_read t t.next t.next t.params.max_read_request_operation_count) (quiet t)
    (λ is. read_fills_on count sessions t t.next t.params.max_read_request_operation_count (omega arith) (inr refl))
    (λ isnt. fills_on_quietly count sessions t)

held_fills_on : (count : ℕ) (sessions : List Session) (t : Task) → FillsOn count sessions t (fill_held t)
held_fills_on count sessions t =
    on_if (FillsOn count sessions t) (may_read t) (all_sent_again (filter is_held t.reads) t) (quiet t)
    (λ is. all_again_fills_on count sessions (filter is_held t.reads) t) (λ isnt. fills_on_quietly count sessions t)

-- ---- all of it

fill_fills_on : (count : ℕ) (sessions : List Session) (t : Task) → t.known ≤ count → FillsOn count sessions t (fill t)
fill_fills_on count sessions t within =
    let many : ℕ = min (t.params.max_outstanding_write_requests - length t.writes) (length t.buffer) in
    let writes : (task_lacks count (fill_writes t) ≤ task_lacks count t) × ((fill_writes t).known ≡ t.known) = batches_lack many count t in
    let held : FillsOn count sessions (fill_writes t) (fill_held (fill_writes t)) = held_fills_on count sessions (fill_writes t) in
    let after : Task = (fill_held (fill_writes t)).next in
    let known : after.known ≤ count = subst (λ n. n ≤ count) (sym (held.fills.known ∙ writes.1)) within in
    let reads : FillsOn count sessions after (fill_reads after) = reads_fill_on (min (after.params.max_outstanding_read_requests - length after.reads) (after.known - after.next)) count sessions after known in
    let both : FillsOn count sessions (fill_writes t) (followed_by (fill_held (fill_writes t)) fill_reads) = fills_on_then count sessions (fill_writes t) (fill_held (fill_writes t)) fill_reads held reads in
    let all : FillsOn count sessions (fill_writes t) (fill t)
    = fills_on_then count sessions (fill_writes t) (followed_by (fill_held (fill_writes t)) fill_reads) fill_peek both (peek_fills_on count sessions (followed_by (fill_held (fill_writes t)) fill_reads).next) in
    let less : task_lacks count (fill_writes t) ≤ task_lacks count t = writes.0 in
    let more : task_lacks count (fill t).next ≤ task_lacks count (fill_writes t) = all.fills.lacks in
    record {
      fills = record { lacks = omega arith; known = all.fills.known ∙ writes.1; sent = all.fills.sent };
      busy = all.busy;
      moves = lacks_less_or_still count t (fill_writes t) (fill t).next less more (inr (batches_stay many t)) all.moves;
    }

pub filled_fills_on : (count : ℕ) (sessions : List Session) (t : Task) → t.known ≤ count → FillsOn count sessions t (filled_if_active t)
filled_fills_on count sessions t within =
    on_if (FillsOn count sessions t) (is_active t.phase) (fill t) (quiet t) (λ is. fill_fills_on count sessions t within) (λ isnt. fills_on_quietly count sessions t)
