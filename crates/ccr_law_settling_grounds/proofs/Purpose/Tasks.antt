-- What a task sends, but for the upkeep of its lease, is about reads; and a number that was drawn stands for no read that it didn't stand for.
use Rattle.std.specs.Prelude.{filter, is_some, ◌==◌, ◌&&◌}
use Rattle.std.specs.List.{AllByRecursion}
use Rattle.std.proofs.Common.{◌≡◌, ℕ, zero, suc, ◌+◌, ◌-◌, ◌<◌, ◌≤◌, min, Bool, false, nat_lt, if◌then◌else◌, Option, Some, None, List, [], ◌∷◌, ◌++◌, length, refl, ◌∙◌, ap, arith, inr}
use Rattle.std.proofs.lemmas.Bool.Decides.{nat_tests}
use Rattle.ccr_op.specs.Operation.{Operation}
use Rattle.ccr_wire.specs.declared.content.Content.{Content}
use Rattle.ccr_journal.specs.declared.params.ParamValues.{ParamValues}
use Rattle.ccr_journal.specs.declared.sides.Phase.{Phase}
use Rattle.ccr_journal.specs.declared.sides.Phase.TheVariants as phases
use Rattle.ccr_model.specs.Operations.{is_empty}
use Rattle.ccr_model.specs.Requests.{on_its_way, held_back, is_sent, is_due, Sending, quiet, followed_by}
use Rattle.ccr_model.specs.Tasks.{Task, Read, Write, is_active, may_read, has_budget, is_held, with_read, sent_again, all_sent_again, changed_read, with_batch, with_batches, fill_writes, fill_held, next_read, with_reads, fill_reads, fill_peek, fill, filled_if_active, started, read_sent, rest_from, reads_after, after_reply, in_order_of_request, waits_after, read_lost, without_read, without_write, write_ended, due_reads_sent, due_writes_sent, ticked}
use Rattle.ccr_model.specs.Followers.{Work, replicating}
use Rattle.ccr_model.specs.FrameFacts.{next_request_of}
use Rattle.ccr_law_messages.specs.Asking.{IsNoMore}
use Rattle.ccr_law_messages.proofs.Finds.{find-none}
use Rattle.ccr_law_messages.proofs.ReadLists.{answers_to, none-answers, again}
use Rattle.ccr_law_settling_grounds.specs.Purposes.{Purpose, for_read, about, awaited, Agree}
use Rattle.ccr_law_settling_grounds.proofs.Purpose.Fitting.{Moves, none_stays_none, nothing_awaited, moves_then, moves_not}
use Rattle.ccr_law_base.proofs.Lists.{All-weaker, All-push, find_none, All-changed_read, All-without_read}
use Rattle.ccr_law_base.proofs.Cases.{on_if}
use Rattle.ccr_law_base.proofs.Tests.{and_false}

-- no read was sent under this number
abbrev Unread : ℕ → List Read → Type 0
Unread n reads = AllByRecursion (λ (r : Read). answers_to n r ≡ false) reads

reads_wait : (t next : Task) → ((n : ℕ) → n < t.next_request → Unread n t.reads → Unread n next.reads)
    → (n : ℕ) → n < t.next_request → IsNoMore (awaited (replicating t) n) (awaited (replicating next) n)
reads_wait t next stays n low =
    none_stays_none for_read (read_sent t n) (read_sent next n)
    (λ none. find-none (answers_to n) next.reads (stays n low (find_none (answers_to n) t.reads none)))

-- a task waits for reads alone
reads_agree : (t : Task) (n : ℕ) → Agree (awaited (replicating t) n) (Some for_read)
reads_agree t n = on_if (λ (o : Option Purpose). Agree o (Some for_read)) (is_some (read_sent t n)) (Some for_read) None (λ is. refl) (λ isnt. tt)

abbrev TaskMoves : List ℕ → Task → Sending Task → Type 0
TaskMoves uuid t done = Moves uuid (replicating t) (replicating done.next) done.sent

-- ---- one request

again_moves : (uuid : List ℕ) (t : Task) (r : Read) → t.follower ≡ uuid → TaskMoves uuid t (sent_again t r)
again_moves uuid t r named = record {
  next = omega arith;
  waits = reads_wait t (sent_again t r).next
      (λ n low none. All-changed_read (λ (x : Read). answers_to n x ≡ false) r.request (again t.next_request)
      (λ x was. none-answers n (again t.next_request x) (grind (arith, nat_tests))) t.reads none);
  named = named;
  messages = (record { named = named; fits = record { drawn = omega arith; agrees = reads_agree (sent_again t r).next t.next_request } }, tt);
}

read_moves : (uuid : List ℕ) (t : Task) (from to size : ℕ) → t.follower ≡ uuid → TaskMoves uuid t (with_read t from to size)
read_moves uuid t from to size named =
    let r : Read = record { request = t.next_request; from = from; to = to; asked = size; progress = on_its_way } in
    record {
      next = omega arith;
      waits = reads_wait t (with_read t from to size).next
          (λ n low none. All-push (λ (x : Read). answers_to n x ≡ false) t.reads r none (none-answers n r (grind (arith, nat_tests))));
      named = named;
      messages = (record { named = named; fits = record { drawn = omega arith; agrees = reads_agree (with_read t from to size).next t.next_request } }, tt);
    }

-- nothing is sent, and no read is
pub silent_moves : (uuid : List ℕ) (t next : Task) → next.follower ≡ uuid → next.next_request ≡ t.next_request
    → ((n : ℕ) → Unread n t.reads → Unread n next.reads) → Moves uuid (replicating t) (replicating next) []
silent_moves uuid t next named same stays = record {
  next = omega arith;
  waits = reads_wait t next (λ n low none. stays n none);
  named = named;
  messages = tt;
}

-- ---- what may be done is done

all_again_move : (uuid : List ℕ) (rs : List Read) (t : Task) → t.follower ≡ uuid → TaskMoves uuid t (all_sent_again rs t)
all_again_move uuid [] t named = moves_not uuid (replicating t) named
all_again_move uuid (r ∷ rs) t named =
    let one : TaskMoves uuid t (sent_again t r) = again_moves uuid t r named in
    moves_then uuid (replicating t) (replicating (sent_again t r).next) (replicating (all_sent_again rs (sent_again t r).next).next) (sent_again t r).sent (all_sent_again rs (sent_again t r).next).sent
    one (all_again_move uuid rs (sent_again t r).next one.named)

batches_move : (uuid : List ℕ) (n : ℕ) (t : Task) → t.follower ≡ uuid → Moves uuid (replicating t) (replicating (with_batches n t)) []
batches_move uuid zero t named = moves_not uuid (replicating t) named
batches_move uuid (suc n) t named =
    on_if (λ (x : Task). Moves uuid (replicating t) (replicating x) []) (is_empty t.buffer) t (with_batches n (with_batch t))
    (λ none. moves_not uuid (replicating t) named)
    (λ some.
    moves_then uuid (replicating t) (replicating (with_batch t)) (replicating (with_batches n (with_batch t))) [] []
    (silent_moves uuid t (with_batch t) named refl (λ k none. none)) (batches_move uuid n (with_batch t) named))

held_move : (uuid : List ℕ) (t : Task) → t.follower ≡ uuid → TaskMoves uuid t (fill_held t)
held_move uuid t named =
    on_if (TaskMoves uuid t) (may_read t) (all_sent_again (filter is_held t.reads) t) (quiet t)
    (λ may. all_again_move uuid (filter is_held t.reads) t named) (λ maynt. moves_not uuid (replicating t) named)

next_moves : (uuid : List ℕ) (t : Task) → t.follower ≡ uuid → TaskMoves uuid t (next_read t)
next_moves uuid t named = read_moves uuid t t.next _ _ named

reads_move : (uuid : List ℕ) (n : ℕ) (t : Task) → t.follower ≡ uuid → TaskMoves uuid t (with_reads n t)
reads_move uuid zero t named = moves_not uuid (replicating t) named
reads_move uuid (suc n) t named =
    on_if (TaskMoves uuid t) (has_budget t && nat_lt t.next t.known) (followed_by (next_read t) (with_reads n)) (quiet t)
    (λ is.
    moves_then uuid (replicating t) (replicating (next_read t).next) (replicating (with_reads n (next_read t).next).next) (next_read t).sent (with_reads n (next_read t).next).sent
    (next_moves uuid t named) (reads_move uuid n (next_read t).next named))
    (λ isnt. moves_not uuid (replicating t) named)

peek_moves : (uuid : List ℕ) (t : Task) → t.follower ≡ uuid → TaskMoves uuid t (fill_peek t)
peek_moves uuid t named =
    on_if (TaskMoves uuid t) (is_empty t.reads && has_budget t) (with_read t t.next t.next t.params.max_read_request_operation_count) (quiet t)
    (λ is. read_moves uuid t t.next t.next t.params.max_read_request_operation_count named) (λ isnt. moves_not uuid (replicating t) named)

fill_moves : (uuid : List ℕ) (t : Task) → t.follower ≡ uuid → TaskMoves uuid t (fill t)
fill_moves uuid t named =
    let a : Task = fill_writes t in
    let b : Task = (fill_held a).next in
    let c : Task = (fill_reads b).next in
    let first : Moves uuid (replicating t) (replicating a) [] = batches_move uuid (min (t.params.max_outstanding_write_requests - length t.writes) (length t.buffer)) t named in
    let second : Moves uuid (replicating t) (replicating b) (fill_held a).sent =
    moves_then uuid (replicating t) (replicating a) (replicating b) [] (fill_held a).sent first (held_move uuid a first.named) in
    let third : Moves uuid (replicating t) (replicating c) ((fill_held a).sent ++ (fill_reads b).sent) =
    moves_then uuid (replicating t) (replicating b) (replicating c) (fill_held a).sent (fill_reads b).sent second
    (reads_move uuid (min (b.params.max_outstanding_read_requests - length b.reads) (b.known - b.next)) b second.named) in
    moves_then uuid (replicating t) (replicating c) (replicating (fill_peek c).next) ((fill_held a).sent ++ (fill_reads b).sent) (fill_peek c).sent third (peek_moves uuid c third.named)

pub filled_moves : (uuid : List ℕ) (t : Task) → t.follower ≡ uuid → TaskMoves uuid t (filled_if_active t)
filled_moves uuid t named = on_if (TaskMoves uuid t) (is_active t.phase) (fill t) (quiet t) (λ is. fill_moves uuid t named) (λ isnt. moves_not uuid (replicating t) named)

-- ---- start and stop

pub started_moves : (uuid : List ℕ) (w : Work) (params : ParamValues) (count epoch : ℕ) (history follower : List ℕ) (request : ℕ) → next_request_of w ≤ request → follower ≡ uuid
    → Moves uuid w (replicating (started params count epoch history follower request).next) (started params count epoch history follower request).sent
started_moves uuid w params count epoch history follower request later named =
    let fresh : Task = record {
      params = params;
      history = history;
      follower = follower;
      phase = phases.Active;
      epoch = epoch;
      next_request = request;
      retry = 0;
      next = count;
      known = count;
      reads = [];
      buffer = [];
      next_write = 0;
      writes = [];
    } in
    moves_then uuid w (replicating fresh) (replicating (fill fresh).next) [] (fill fresh).sent
    (record { next = later; waits = λ n low. inr refl; named = named; messages = tt }) (fill_moves uuid fresh named)

-- ---- replies, losses and retries

-- a read that is changed is not in the sent state then
held_none : (q : ℕ) (f : Read → Read) → ((r : Read) → is_sent (f r).progress ≡ false) → (reads : List Read) (n : ℕ) → Unread n reads → Unread n (changed_read q f reads)
held_none q f held reads n none =
    All-changed_read (λ (x : Read). answers_to n x ≡ false) q f (λ x was. ap (λ (b : Bool). ((f x).request == n) && b) (held x) ∙ and_false ((f x).request == n)) reads none

reply_none : (r : Read) (ops : List Operation) (reads : List Read) (n : ℕ) → Unread n reads → Unread n (reads_after r ops reads)
reply_none r ops reads n none =
    on_if (Unread n) (nat_lt (rest_from r ops) r.to)
    (changed_read r.request (λ own. record own { from = rest_from r ops; asked = r.to - rest_from r ops; progress = held_back }) reads) (without_read r.request reads)
    (λ rest. held_none r.request (λ own. record own { from = rest_from r ops; asked = r.to - rest_from r ops; progress = held_back }) (λ x. refl) reads n none)
    (λ all. All-without_read (λ (x : Read). answers_to n x ≡ false) r.request reads none)

pub reply_moves : (uuid : List ℕ) (t : Task) (r : Read) (global : ℕ) (ops : List Operation) → t.follower ≡ uuid → TaskMoves uuid t (filled_if_active (after_reply t r global ops))
reply_moves uuid t r global ops named =
    let after : Task = after_reply t r global ops in
    moves_then uuid (replicating t) (replicating after) (replicating (filled_if_active after).next) [] (filled_if_active after).sent
    (silent_moves uuid t after named refl (λ n none. reply_none r ops t.reads n none)) (filled_moves uuid after named)

pub lost_moves : (uuid : List ℕ) (t : Task) (now : ℕ) (r : Read) → t.follower ≡ uuid → Moves uuid (replicating t) (replicating (read_lost t now r)) []
lost_moves uuid t now r named =
    silent_moves uuid t (read_lost t now r) named refl (λ n none. held_none r.request (λ own. record own { progress = waits_after t now }) (λ x. refl) t.reads n none)

pub write_ended_moves : (uuid : List ℕ) (t : Task) (w : Write) → t.follower ≡ uuid → TaskMoves uuid t (write_ended t w)
write_ended_moves uuid t w named =
    let after : Task = record t { retry = 0; writes = without_write w.number t.writes } in
    moves_then uuid (replicating t) (replicating after) (replicating (filled_if_active after).next) [] (filled_if_active after).sent
    (silent_moves uuid t after named refl (λ n none. none)) (filled_moves uuid after named)

due_move : (uuid : List ℕ) (now : ℕ) (t : Task) → t.follower ≡ uuid → TaskMoves uuid t (due_reads_sent now t)
due_move uuid now t named =
    on_if (TaskMoves uuid t) (may_read t) (all_sent_again (in_order_of_request (filter (λ r. is_due now r.progress) t.reads)) t) (quiet t)
    (λ may. all_again_move uuid (in_order_of_request (filter (λ r. is_due now r.progress) t.reads)) t named) (λ maynt. moves_not uuid (replicating t) named)

pub ticked_moves : (uuid : List ℕ) (now : ℕ) (t : Task) → t.follower ≡ uuid → TaskMoves uuid t (ticked now t)
ticked_moves uuid now t named =
    let after : Task = (due_reads_sent now t).next in
    let last : Task = due_writes_sent now after in
    let one : TaskMoves uuid t (due_reads_sent now t) = due_move uuid now t named in
    let two : Moves uuid (replicating after) (replicating last) [] = silent_moves uuid after last one.named refl (λ n none. none) in
    moves_then uuid (replicating t) (replicating after) (replicating (filled_if_active last).next) (due_reads_sent now t).sent (filled_if_active last).sent one
    (moves_then uuid (replicating after) (replicating last) (replicating (filled_if_active last).next) [] (filled_if_active last).sent two (filled_moves uuid last two.named))

-- ---- the upkeep of a lease

-- the next request number is drawn for a message that no read waits for
pub upkeep_moves : (uuid : List ℕ) (t : Task) (phase : Phase) (content : Content) → AllByRecursion (λ (r : Read). r.request < t.next_request) t.reads → t.follower ≡ uuid
    → Moves uuid (replicating t) (replicating (record t { phase = phase; next_request = t.next_request + 1 })) (record { follower = t.follower; request = t.next_request; content = content } ∷ [])
upkeep_moves uuid t phase content drawn named =
    let next : Task = record t { phase = phase; next_request = t.next_request + 1 } in
    let unread : read_sent next t.next_request ≡ None =
    find-none (answers_to t.next_request) t.reads
    (All-weaker (λ (r : Read). r.request < t.next_request) (λ (r : Read). answers_to t.next_request r ≡ false) (λ r low. none-answers t.next_request r (grind (arith, nat_tests))) t.reads drawn) in
    record {
      next = omega arith;
      waits = reads_wait t next (λ n low none. none);
      named = named;
      messages = (
        record {
          named = named;
          fits = record {
            drawn = omega arith;
            agrees = nothing_awaited (awaited (replicating next) t.next_request) (about content) (ap (λ (o : Option Read). if is_some o then Some for_read else None) unread);
          };
        },
        tt,
      );
    }
