-- A task draws request numbers as it goes on, and gives none back.
use Rattle.std.proofs.Common.{◌≡◌, ℕ, zero, suc, ◌+◌, ◌-◌, ◌≤◌, min, Bool, true, false, ◌&&◌, nat_lt, if◌then◌else◌, List, [], ◌∷◌, length, refl, subst, arith}
use Rattle.std.specs.Prelude.{filter}
use Rattle.ccr_op.specs.Operation.{Operation}
use Rattle.ccr_journal.specs.declared.params.ParamValues.{ParamValues}
use Rattle.ccr_journal.specs.declared.sides.Phase.TheVariants as phases
use Rattle.ccr_model.specs.Operations.{is_empty}
use Rattle.ccr_model.specs.Requests.{Sending, quiet, followed_by, is_due}
use Rattle.ccr_model.specs.Tasks.{Task, Read, Write, is_active, may_read, has_budget, is_held, with_read, sent_again, all_sent_again, with_batch, with_batches, fill_writes, fill_held, next_read, with_reads, fill_reads, fill_peek, fill, filled_if_active, started, after_reply, in_order_of_request, write_ended, without_write, due_reads_sent, due_writes_sent, ticked}

-- what holds of both values of a choice, each under its test, holds of the choice
pub on_if : {X : Type 0} (P : X → Type 0) (b : Bool) (x y : X) → (b ≡ true → P x) → (b ≡ false → P y) → P (if b then x else y)
on_if P b x y holds fails = (elim b as (λ c. b ≡ c → P (if c then x else y)) [ true ↦ holds | false ↦ fails ]) refl

-- the next request number is not below this one
abbrev pub Rises : ℕ → Sending Task → Type 0
Rises from done = from ≤ done.next.next_request

rises-quiet : (t : Task) → Rises t.next_request (quiet t)
rises-quiet t = omega arith

rises-then : (from : ℕ) (first : Sending Task) (more : Task → Sending Task) → Rises from first → ((t : Task) → Rises t.next_request (more t)) → Rises from (followed_by first more)
rises-then from first more one others =
    let low : from ≤ first.next.next_request = one in
    let high : first.next.next_request ≤ (more first.next).next.next_request = others first.next in
    omega arith

again-rises : (t : Task) (r : Read) → Rises t.next_request (sent_again t r)
again-rises t r = omega arith

all-again-rises : (rs : List Read) (t : Task) → Rises t.next_request (all_sent_again rs t)
all-again-rises [] t = rises-quiet t
all-again-rises (r ∷ rs) t = rises-then t.next_request (sent_again t r) (all_sent_again rs) (again-rises t r) (λ u. all-again-rises rs u)

batches-same : (n : ℕ) (t : Task) → (with_batches n t).next_request ≡ t.next_request
batches-same zero t = refl
batches-same (suc n) t =
    on_if (λ (u : Task). u.next_request ≡ t.next_request) (is_empty t.buffer) t (with_batches n (with_batch t)) (λ none. refl) (λ some. batches-same n (with_batch t))

writes-same : (t : Task) → (fill_writes t).next_request ≡ t.next_request
writes-same t = batches-same (min (t.params.max_outstanding_write_requests - length t.writes) (length t.buffer)) t

held-rises : (t : Task) → Rises t.next_request (fill_held t)
held-rises t =
    on_if (Rises t.next_request) (may_read t) (all_sent_again (filter is_held t.reads) t) (quiet t)
    (λ may. all-again-rises (filter is_held t.reads) t) (λ maynt. rises-quiet t)

begun-rises : (t : Task) (from to asked : ℕ) → Rises t.next_request (with_read t from to asked)
begun-rises t from to asked = omega arith

more-rises : (n : ℕ) (t : Task) → Rises t.next_request (with_reads n t)
more-rises zero t = rises-quiet t
more-rises (suc n) t =
    on_if (Rises t.next_request) (has_budget t && nat_lt t.next t.known) (followed_by (next_read t) (with_reads n)) (quiet t)
    (λ may. rises-then t.next_request (next_read t) (with_reads n) (omega arith) (λ u. more-rises n u)) (λ maynt. rises-quiet t)

reads-rises : (t : Task) → Rises t.next_request (fill_reads t)
reads-rises t = more-rises (min (t.params.max_outstanding_read_requests - length t.reads) (t.known - t.next)) t

peek-rises : (t : Task) → Rises t.next_request (fill_peek t)
peek-rises t =
    on_if (Rises t.next_request) (is_empty t.reads && has_budget t) (with_read t t.next t.next t.params.max_read_request_operation_count) (quiet t)
    (λ may. begun-rises t t.next t.next t.params.max_read_request_operation_count) (λ maynt. rises-quiet t)

pub fill-rises : (t : Task) → Rises t.next_request (fill t)
fill-rises t =
    let held : Rises t.next_request (fill_held (fill_writes t)) = subst (λ (n : ℕ). Rises n (fill_held (fill_writes t))) (writes-same t) (held-rises (fill_writes t)) in
    rises-then t.next_request (followed_by (fill_held (fill_writes t)) fill_reads) fill_peek
    (rises-then t.next_request (fill_held (fill_writes t)) fill_reads held reads-rises) peek-rises

pub filled-rises : (t : Task) → Rises t.next_request (filled_if_active t)
filled-rises t = on_if (Rises t.next_request) (is_active t.phase) (fill t) (quiet t) (λ active. fill-rises t) (λ other. rises-quiet t)

pub started-rises : (params : ParamValues) (count epoch : ℕ) (history follower : List ℕ) (request : ℕ) → Rises request (started params count epoch history follower request)
started-rises params count epoch history follower request = fill-rises record {
  params = params;
  history = history;
  follower = follower;
  phase = phases.Active;
  epoch = epoch;
  next_request = request;
  retry = 0;
  next = count;
  known = count;
  reads = [];
  buffer = [];
  next_write = 0;
  writes = [];
}

pub reply-rises : (t : Task) (r : Read) (global : ℕ) (ops : List Operation) → Rises t.next_request (filled_if_active (after_reply t r global ops))
reply-rises t r global ops = filled-rises (after_reply t r global ops)

due-rises : (now : ℕ) (t : Task) → Rises t.next_request (due_reads_sent now t)
due-rises now t =
    on_if (Rises t.next_request) (may_read t) (all_sent_again (in_order_of_request (filter (λ r. is_due now r.progress) t.reads)) t) (quiet t)
    (λ may. all-again-rises (in_order_of_request (filter (λ r. is_due now r.progress) t.reads)) t) (λ maynt. rises-quiet t)

pub ticked-rises : (now : ℕ) (t : Task) → Rises t.next_request (ticked now t)
ticked-rises now t =
    rises-then t.next_request (due_reads_sent now t) (λ after. filled_if_active (due_writes_sent now after)) (due-rises now t) (λ u. filled-rises (due_writes_sent now u))

pub ended-rises : (t : Task) (w : Write) → Rises t.next_request (write_ended t w)
ended-rises t w = filled-rises (record t { retry = 0; writes = without_write w.number t.writes })
