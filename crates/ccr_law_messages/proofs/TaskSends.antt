-- What a task sends is true of what it then asks for, and what it asked for it still asks for, or no more.
use Rattle.std.specs.Prelude.{find, filter, ◌==◌, ◌&&◌, IfSome}
use Rattle.std.specs.Option.{option_map}
use Rattle.std.proofs.Common.{◌≡◌, ℕ, zero, suc, ◌+◌, ◌-◌, ◌<◌, ◌≤◌, min, Bool, true, false, nat_lt, Option, Some, None, List, [], ◌∷◌, ◌++◌, length, refl, sym, ◌∙◌, ap, subst, arith, inl, inr}
use Rattle.std.proofs.lemmas.Bool.Decides.{nat_tests}
use Rattle.ccr_op.specs.Operation.{Operation}
use Rattle.ccr_journal.specs.declared.params.ParamValues.{ParamValues}
use Rattle.ccr_journal.specs.declared.sides.Phase.{Phase}
use Rattle.ccr_journal.specs.declared.sides.Phase.TheVariants as phases
use Rattle.ccr_model.specs.Operations.{is_empty}
use Rattle.ccr_model.specs.Requests.{on_its_way, held_back, is_sent, is_due, Sending, quiet, followed_by}
use Rattle.ccr_model.specs.Tasks.{Task, Read, Write, is_active, may_read, has_budget, is_held, with_read, sent_again, all_sent_again, changed_read, with_batch, with_batches, fill_writes, fill_held, asks, next_read, with_reads, fill_reads, fill_peek, fill, filled_if_active, started, stopped, read_sent, rest_from, reads_after, after_reply, in_order_of_request, waits_after, read_lost, write_lost, without_read, without_write, write_ended, due_reads_sent, due_writes_sent, ticked}
use Rattle.ccr_model.specs.Followers.{Work, replicating}
use Rattle.ccr_model.specs.FrameFacts.{next_request_of}
use Rattle.ccr_law_messages.specs.Asking.{Ask, ask_of, ask_in, IsNoMore, Follows}
use Rattle.ccr_law_messages.specs.Saying.{Setting, AreGoodReads, IsGoodTask}
use Rattle.ccr_law_messages.proofs.ReadLists.{answers_to, has_request, none-answers, changed-less, without-less, push-less, push-found, good-changed, good-without, good-push, good-later, again, good-again, again-found, AreListed, all-listed, filter-listed, order-listed, rest-listed}
use Rattle.ccr_law_messages.proofs.Moving.{Goes, goes-then, goes-still}
use Rattle.ccr_law_base.proofs.Cases.{on_if}
use Rattle.ccr_law_base.proofs.Tests.{and_second, and_false, itself}

abbrev asked_by : List ℕ → Read → ℕ → Ask
asked_by history r size = record { history = history; from = r.from; number = r.asked; size = size }

-- what a task asks for by the read that is found
abbrev asked : Task → Option Read → Option Ask
asked t found = option_map ask_of (option_map (λ read. record { task = t; read = read }) found)

asked-same : (t next : Task) → next.history ≡ t.history → next.params.max_read_request_size ≡ t.params.max_read_request_size → (o : Option Read) → asked next o ≡ asked t o
asked-same t next history size None = refl
asked-same t next history size (Some r) =
    ap (λ (h : List ℕ). Some (asked_by h r next.params.max_read_request_size)) history ∙ ap (λ (n : ℕ). Some (asked_by t.history r n)) size

asked-less : (t next : Task) → next.history ≡ t.history → next.params.max_read_request_size ≡ t.params.max_read_request_size → (a b : Option Read) → IsNoMore a b → IsNoMore (asked t a) (asked next b)
asked-less t next history size a b (inl e) = inl (ap (asked next) e ∙ asked-same t next history size a)
asked-less t next history size a b (inr e) = inr (ap (asked next) e)

pub reads-follow : (t next : Task) → next.history ≡ t.history → next.params.max_read_request_size ≡ t.params.max_read_request_size → t.next_request ≤ next.next_request
    → ((n : ℕ) → n < t.next_request → IsNoMore (read_sent t n) (read_sent next n)) → Follows (replicating t) (replicating next)
reads-follow t next history size later less = record {
  next = later;
  asks = λ n low. asked-less t next history size (read_sent t n) (read_sent next n) (less n low);
  parts = λ n low. inl refl;
}

pub if-asked : (P : Ask → Type 0) (t : Task) (n : ℕ) (r : Read) → read_sent t n ≡ Some r
    → P (record { history = t.history; from = r.from; number = r.asked; size = t.params.max_read_request_size }) → IfSome (ask_in (replicating t) n) P
if-asked P t n r found holds = subst (λ (o : Option Read). IfSome (asked t o) P) (sym found) holds

pub asked-if : (P : Ask → Type 0) (t : Task) (n : ℕ) (r : Read) → read_sent t n ≡ Some r → IfSome (ask_in (replicating t) n) P
    → P (record { history = t.history; from = r.from; number = r.asked; size = t.params.max_read_request_size })
asked-if P t n r found holds = subst (λ (o : Option Read). IfSome (asked t o) P) found holds

abbrev GoesTask : Setting → Task → Sending Task → Type 0
GoesTask e t done = Goes e (replicating t) (replicating done.next) done.sent

-- ---- one request

again-goes : (e : Setting) (t : Task) (r : Read) → find (has_request r.request) t.reads ≡ Some r → 1 ≤ r.asked → IsGoodTask e t → GoesTask e t (sent_again t r)
again-goes e t r there some good = record {
  follows = reads-follow t (sent_again t r).next refl refl (omega arith)
      (λ n low. changed-less n r.request (again t.next_request) (λ x is. none-answers n (again t.next_request x) (grind (arith, nat_tests))) t.reads good.reads.apart);
  good = record { named = good.named; same_history = good.same_history; some = good.some; reads = good-again t.next_request r.request t.reads good.reads };
  messages = (
    record {
      named = good.named;
      drawn = omega arith;
      said = record {
        same_history = good.same_history;
        some = some;
        asks = if-asked (λ (a : Ask). a ≡ record { history = t.history; from = r.from; number = r.asked; size = t.params.max_read_request_size }) (sent_again t r).next t.next_request (again t.next_request r)
            (again-found t.next_request r t.reads good.reads.drawn there) refl;
      };
    },
    tt,
  );
}

read-goes : (e : Setting) (t : Task) (from to size : ℕ) → 1 ≤ size → IsGoodTask e t → GoesTask e t (with_read t from to size)
read-goes e t from to size some good =
    let r : Read = record { request = t.next_request; from = from; to = to; asked = size; progress = on_its_way } in
    record {
      follows = reads-follow t (with_read t from to size).next refl refl (omega arith) (λ n low. push-less n t.next_request r t.reads low refl);
      good = record { named = good.named; same_history = good.same_history; some = good.some; reads = good-push t.next_request r t.reads refl some good.reads };
      messages = (
        record {
          named = good.named;
          drawn = omega arith;
          said = record {
            same_history = good.same_history;
            some = some;
            asks = if-asked (λ (a : Ask). a ≡ record { history = t.history; from = from; number = size; size = t.params.max_read_request_size }) (with_read t from to size).next t.next_request r
                (push-found t.next_request r t.reads good.reads.drawn (ap (λ (b : Bool). b && true) (itself t.next_request))) refl;
          };
        },
        tt,
      );
    }

-- the reads stay as they are
pub still-goes : (e : Setting) (t next : Task) → next.history ≡ t.history → next.params ≡ t.params → next.follower ≡ t.follower → next.next_request ≡ t.next_request → next.reads ≡ t.reads
    → IsGoodTask e t → Goes e (replicating t) (replicating next) []
still-goes e t next history params follower request reads good = record {
  follows = reads-follow t next history (ap (λ (x : ParamValues). x.max_read_request_size) params) (omega arith) (λ n low. inl (ap (λ (rs : List Read). find (answers_to n) rs) reads));
  good = record {
    named = follower ∙ good.named;
    same_history = history ∙ good.same_history;
    some = subst (λ (x : ParamValues). 1 ≤ x.max_read_request_operation_count) (sym params) good.some;
    reads = subst (λ (n : ℕ). AreGoodReads n next.reads) (sym request) (subst (λ (rs : List Read). AreGoodReads t.next_request rs) (sym reads) good.reads);
  };
  messages = tt;
}

-- ---- what may be done is done

all-again-goes : (e : Setting) (rs : List Read) (t : Task) → AreListed t.next_request t.reads rs → IsGoodTask e t → GoesTask e t (all_sent_again rs t)
all-again-goes e [] t listed good = goes-still e (replicating t) good
all-again-goes e (r ∷ rs) t listed good =
    let one : GoesTask e t (sent_again t r) = again-goes e t r listed.there.0 listed.some.0 good in
    goes-then e (replicating t) (replicating (sent_again t r).next) (replicating (all_sent_again rs (sent_again t r).next).next) (sent_again t r).sent (all_sent_again rs (sent_again t r).next).sent
    one (all-again-goes e rs (sent_again t r).next (rest-listed t.next_request t.reads r rs listed) one.good)

batches-goes : (e : Setting) (n : ℕ) (t : Task) → IsGoodTask e t → Goes e (replicating t) (replicating (with_batches n t)) []
batches-goes e zero t good = goes-still e (replicating t) good
batches-goes e (suc n) t good =
    on_if (λ (x : Task). Goes e (replicating t) (replicating x) []) (is_empty t.buffer) t (with_batches n (with_batch t))
    (λ none. goes-still e (replicating t) good)
    (λ some.
    let one : Goes e (replicating t) (replicating (with_batch t)) [] = still-goes e t (with_batch t) refl refl refl refl refl good in
    goes-then e (replicating t) (replicating (with_batch t)) (replicating (with_batches n (with_batch t))) [] [] one (batches-goes e n (with_batch t) one.good))

held-goes : (e : Setting) (t : Task) → IsGoodTask e t → GoesTask e t (fill_held t)
held-goes e t good =
    on_if (GoesTask e t) (may_read t) (all_sent_again (filter is_held t.reads) t) (quiet t)
    (λ may. all-again-goes e (filter is_held t.reads) t (filter-listed t.next_request is_held t.reads t.reads (all-listed t.next_request t.reads good.reads)) good)
    (λ maynt. goes-still e (replicating t) good)

-- a new read asks for one operation at least
asks-some : (t : Task) (size : ℕ) → 1 ≤ size → 1 ≤ t.params.max_read_request_operation_count → 1 ≤ asks t size
asks-some t size some most = on_if (λ (n : ℕ). 1 ≤ n) (is_empty t.reads) t.params.max_read_request_operation_count size (λ none. most) (λ others. some)

next-goes : (e : Setting) (t : Task) → t.next < t.known → IsGoodTask e t → GoesTask e t (next_read t)
next-goes e t more good =
    let most : 1 ≤ t.params.max_read_request_operation_count = good.some in
    read-goes e t t.next (min t.known (t.next + t.params.max_read_request_operation_count)) (asks t (min t.known (t.next + t.params.max_read_request_operation_count) - t.next))
    (asks-some t (min t.known (t.next + t.params.max_read_request_operation_count) - t.next) (omega arith) most) good

reads-goes : (e : Setting) (n : ℕ) (t : Task) → IsGoodTask e t → GoesTask e t (with_reads n t)
reads-goes e zero t good = goes-still e (replicating t) good
reads-goes e (suc n) t good =
    on_if (GoesTask e t) (has_budget t && nat_lt t.next t.known) (followed_by (next_read t) (with_reads n)) (quiet t)
    (λ is.
    let more : nat_lt t.next t.known ≡ true = and_second (has_budget t) (nat_lt t.next t.known) is in
    let one : GoesTask e t (next_read t) = next-goes e t (grind (arith, nat_tests)) good in
    goes-then e (replicating t) (replicating (next_read t).next) (replicating (with_reads n (next_read t).next).next) (next_read t).sent (with_reads n (next_read t).next).sent
    one (reads-goes e n (next_read t).next one.good))
    (λ isnt. goes-still e (replicating t) good)

peek-goes : (e : Setting) (t : Task) → IsGoodTask e t → GoesTask e t (fill_peek t)
peek-goes e t good =
    on_if (GoesTask e t) (is_empty t.reads && has_budget t) (with_read t t.next t.next t.params.max_read_request_operation_count) (quiet t)
    (λ is. read-goes e t t.next t.next t.params.max_read_request_operation_count good.some good) (λ isnt. goes-still e (replicating t) good)

fill-goes : (e : Setting) (t : Task) → IsGoodTask e t → GoesTask e t (fill t)
fill-goes e t good =
    let a : Task = fill_writes t in
    let b : Task = (fill_held a).next in
    let c : Task = (fill_reads b).next in
    let first : Goes e (replicating t) (replicating a) [] = batches-goes e (min (t.params.max_outstanding_write_requests - length t.writes) (length t.buffer)) t good in
    let second : Goes e (replicating t) (replicating b) (fill_held a).sent =
    goes-then e (replicating t) (replicating a) (replicating b) [] (fill_held a).sent first (held-goes e a first.good) in
    let third : Goes e (replicating t) (replicating c) ((fill_held a).sent ++ (fill_reads b).sent) =
    goes-then e (replicating t) (replicating b) (replicating c) (fill_held a).sent (fill_reads b).sent second
    (reads-goes e (min (b.params.max_outstanding_read_requests - length b.reads) (b.known - b.next)) b second.good) in
    goes-then e (replicating t) (replicating c) (replicating (fill_peek c).next) ((fill_held a).sent ++ (fill_reads b).sent) (fill_peek c).sent third (peek-goes e c third.good)

pub filled-goes : (e : Setting) (t : Task) → IsGoodTask e t → GoesTask e t (filled_if_active t)
filled-goes e t good = on_if (GoesTask e t) (is_active t.phase) (fill t) (quiet t) (λ is. fill-goes e t good) (λ isnt. goes-still e (replicating t) good)

-- ---- start and stop

pub started-goes : (e : Setting) (w : Work) (params : ParamValues) (count epoch : ℕ) (history follower : List ℕ) (request : ℕ) → next_request_of w ≤ request
    → 1 ≤ params.max_read_request_operation_count → history ≡ e.history → follower ≡ e.uuid
    → Goes e w (replicating (started params count epoch history follower request).next) (started params count epoch history follower request).sent
started-goes e w params count epoch history follower request later some same_history named =
    let fresh : Task = record {
      params = params;
      history = history;
      follower = follower;
      phase = phases.Active;
      epoch = epoch;
      next_request = request;
      retry = 0;
      next = count;
      known = count;
      reads = [];
      buffer = [];
      next_write = 0;
      writes = [];
    } in
    let good : IsGoodTask e fresh = record { named = named; same_history = same_history; some = some; reads = record { drawn = tt; some = tt; apart = tt } } in
    goes-then e w (replicating fresh) (replicating (fill fresh).next) [] (fill fresh).sent
    (record { follows = record { next = later; asks = λ n low. inr refl; parts = λ n low. inr refl }; good = good; messages = tt })
    (fill-goes e fresh good)

pub stopped-goes : (e : Setting) (phase : Phase) (t : Task) → IsGoodTask e t → Goes e (replicating t) (replicating (stopped phase t)) []
stopped-goes e phase t good = record {
  follows = reads-follow t (stopped phase t) refl refl (omega arith) (λ n low. inr refl);
  good = record { named = good.named; same_history = good.same_history; some = good.some; reads = record { drawn = tt; some = tt; apart = tt } };
  messages = tt;
}

-- ---- replies, losses and retries

-- a read is changed, but not its number, and is not in the sent state then
changed-goes : (e : Setting) (t : Task) (q : ℕ) (f : Read → Read) → ((r : Read) → (f r).request ≡ r.request) → ((r : Read) → is_sent (f r).progress ≡ false) → ((r : Read) → 1 ≤ r.asked → 1 ≤ (f r).asked)
    → IsGoodTask e t → Goes e (replicating t) (replicating (record t { reads = changed_read q f t.reads })) []
changed-goes e t q f same held some good = record {
  follows = reads-follow t (record t { reads = changed_read q f t.reads }) refl refl (omega arith)
      (λ n low. changed-less n q f (λ x is. ap (λ (b : Bool). ((f x).request == n) && b) (held x) ∙ and_false ((f x).request == n)) t.reads good.reads.apart);
  good = record { named = good.named; same_history = good.same_history; some = good.some; reads = good-changed t.next_request q f same some t.reads good.reads };
  messages = tt;
}

ended-goes : (e : Setting) (t : Task) (q : ℕ) → IsGoodTask e t → Goes e (replicating t) (replicating (record t { reads = without_read q t.reads })) []
ended-goes e t q good = record {
  follows = reads-follow t (record t { reads = without_read q t.reads }) refl refl (omega arith) (λ n low. without-less n q t.reads good.reads.apart);
  good = record { named = good.named; same_history = good.same_history; some = good.some; reads = good-without t.next_request q t.reads good.reads };
  messages = tt;
}

reply-reads : (e : Setting) (t : Task) (r : Read) (ops : List Operation) → IsGoodTask e t → Goes e (replicating t) (replicating (record t { reads = reads_after r ops t.reads })) []
reply-reads e t r ops good =
    let from : ℕ = rest_from r ops in
    on_if (λ (rs : List Read). Goes e (replicating t) (replicating (record t { reads = rs })) []) (nat_lt (rest_from r ops) r.to)
    (changed_read r.request (λ own. record own { from = rest_from r ops; asked = r.to - rest_from r ops; progress = held_back }) t.reads) (without_read r.request t.reads)
    (λ rest. changed-goes e t r.request (λ own. record own { from = rest_from r ops; asked = r.to - rest_from r ops; progress = held_back }) (λ x. refl) (λ x. refl)
    (λ x some. left-some (rest_from r ops) r.to rest) good)
    (λ none. ended-goes e t r.request good)
  where
    left-some : (a b : ℕ) → nat_lt a b ≡ true → 1 ≤ b - a
    left-some a b less = let low : a < b = grind (arith, nat_tests) in omega arith

pub reply-goes : (e : Setting) (t : Task) (r : Read) (global : ℕ) (ops : List Operation) → IsGoodTask e t → GoesTask e t (filled_if_active (after_reply t r global ops))
reply-goes e t r global ops good =
    let one : Goes e (replicating t) (replicating (record t { reads = reads_after r ops t.reads })) [] = reply-reads e t r ops good in
    let two : Goes e (replicating t) (replicating (after_reply t r global ops)) [] =
    goes-then e (replicating t) (replicating (record t { reads = reads_after r ops t.reads })) (replicating (after_reply t r global ops)) [] [] one
    (still-goes e (record t { reads = reads_after r ops t.reads }) (after_reply t r global ops) refl refl refl refl refl one.good) in
    goes-then e (replicating t) (replicating (after_reply t r global ops)) (replicating (filled_if_active (after_reply t r global ops)).next) [] (filled_if_active (after_reply t r global ops)).sent
    two (filled-goes e (after_reply t r global ops) two.good)

pub lost-goes : (e : Setting) (t : Task) (now : ℕ) (r : Read) → IsGoodTask e t → Goes e (replicating t) (replicating (read_lost t now r)) []
lost-goes e t now r good =
    let one : Goes e (replicating t) (replicating (record t { reads = changed_read r.request (λ own. record own { progress = waits_after t now }) t.reads })) [] =
    changed-goes e t r.request (λ own. record own { progress = waits_after t now }) (λ x. refl) (λ x. refl) (λ x some. some) good in
    goes-then e (replicating t) (replicating (record t { reads = changed_read r.request (λ own. record own { progress = waits_after t now }) t.reads })) (replicating (read_lost t now r)) [] [] one
    (still-goes e (record t { reads = changed_read r.request (λ own. record own { progress = waits_after t now }) t.reads }) (read_lost t now r) refl refl refl refl refl one.good)

pub write_lost-goes : (e : Setting) (t : Task) (now : ℕ) (w : Write) → IsGoodTask e t → Goes e (replicating t) (replicating (write_lost t now w)) []
write_lost-goes e t now w good = still-goes e t (write_lost t now w) refl refl refl refl refl good

pub write_ended-goes : (e : Setting) (t : Task) (w : Write) → IsGoodTask e t → GoesTask e t (write_ended t w)
write_ended-goes e t w good =
    let after : Task = record t { retry = 0; writes = without_write w.number t.writes } in
    let one : Goes e (replicating t) (replicating after) [] = still-goes e t after refl refl refl refl refl good in
    goes-then e (replicating t) (replicating after) (replicating (filled_if_active after).next) [] (filled_if_active after).sent one (filled-goes e after one.good)

due-goes : (e : Setting) (now : ℕ) (t : Task) → IsGoodTask e t → GoesTask e t (due_reads_sent now t)
due-goes e now t good =
    on_if (GoesTask e t) (may_read t) (all_sent_again (in_order_of_request (filter (λ r. is_due now r.progress) t.reads)) t) (quiet t)
    (λ may. all-again-goes e (in_order_of_request (filter (λ r. is_due now r.progress) t.reads)) t
    (order-listed t.next_request t.reads (filter (λ r. is_due now r.progress) t.reads)
    (filter-listed t.next_request (λ r. is_due now r.progress) t.reads t.reads (all-listed t.next_request t.reads good.reads))) good)
    (λ maynt. goes-still e (replicating t) good)

pub ticked-goes : (e : Setting) (now : ℕ) (t : Task) → IsGoodTask e t → GoesTask e t (ticked now t)
ticked-goes e now t good =
    let after : Task = (due_reads_sent now t).next in
    let last : Task = due_writes_sent now after in
    let one : GoesTask e t (due_reads_sent now t) = due-goes e now t good in
    let two : Goes e (replicating after) (replicating last) [] = still-goes e after last refl refl refl refl refl one.good in
    goes-then e (replicating t) (replicating after) (replicating (filled_if_active last).next) (due_reads_sent now t).sent (filled_if_active last).sent one
    (goes-then e (replicating after) (replicating last) (replicating (filled_if_active last).next) [] (filled_if_active last).sent two (filled-goes e last two.good))

-- the next request number is drawn for another message
pub drawn-goes : (e : Setting) (t : Task) (phase : Phase) → IsGoodTask e t → Goes e (replicating t) (replicating (record t { phase = phase; next_request = t.next_request + 1 })) []
drawn-goes e t phase good = record {
  follows = reads-follow t (record t { phase = phase; next_request = t.next_request + 1 }) refl refl (omega arith) (λ n low. inl refl);
  good = record { named = good.named; same_history = good.same_history; some = good.some; reads = good-later t.next_request t.reads good.reads };
  messages = tt;
}
