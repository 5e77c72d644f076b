-- A request that a task sends asks for numbers that it is still to get, unless it repeats one that was lost.
use Rattle.std.specs.Prelude.{nat_lt, ◌==◌}
use Rattle.std.specs.List.{AllByRecursion, filter, fold, list_any}
use Rattle.std.proofs.Common.{◌≡◌, ◌∙◌, ◌⊎◌, inl, inr, ℕ, zero, suc, ◌+◌, ◌-◌, ◌≤◌, ◌<◌, min, Bool, true, false, ◌&&◌, ◌||◌, List, [], ◌∷◌, ◌++◌, length, refl, sym, ap, subst, arith}
use Rattle.std.proofs.lemmas.Bool.{ltb-true, both_ways}
use Rattle.std.proofs.lemmas.Bool.Decides.{nat_tests}
use Rattle.ccr_wire.specs.Message.{Frame}
use Rattle.ccr_wire.specs.declared.content.Content.{Content}
use Rattle.ccr_wire.specs.declared.content.Content.TheVariants as contents
use Rattle.ccr_journal.specs.declared.params.ParamValues.{ParamValues}
use Rattle.ccr_journal.specs.declared.sides.Phase.{Phase}
use Rattle.ccr_model.specs.Operations.{is_empty}
use Rattle.ccr_model.specs.Requests.{Progress, on_its_way, waiting, held_back, Sending, quiet, followed_by, is_due}
use Rattle.ccr_model.specs.Tasks.{Task, Read, is_active, may_read, has_budget, is_held, changed_read, sent_again, all_sent_again, with_batch, with_batches, fill_writes, fill_held, with_read, asks, next_read, with_reads, fill_reads, fill_peek, fill, filled_if_active, started, by_request, in_order_of_request, due_reads_sent, due_writes_sent, ticked}
use Rattle.ccr_model.specs.Answers.{IsIn}
use Rattle.ccr_model.specs.TaskFacts.{is_in_read, is_waiting, is_repeated}
use Rattle.ccr_law_base.proofs.Cases.{on_if}
use Rattle.ccr_law_base.proofs.Lists.{All-append, All-weaker, All-filter, All-filter_test, All-both, All-by_request}
use Rattle.ccr_law_base.proofs.Tests.{by_test}
use Rattle.ccr_model.specs.Past.{Line, WrittenBatch}
use Rattle.ccr_law_tasks.specs.GoodTask.{IsGoodRead, IsSoundTask}
use Rattle.ccr_law_tasks.proofs.Calls.{start_task, due_reads-sound, due_writes-sound}

-- the number is one that a read of the task is for, or was never asked for
abbrev pub Covers : Task → ℕ → Type 0
Covers t n = (list_any (is_in_read n) t.reads ≡ true) ⊎ (t.next ≤ n)

-- a held read asks for no more than what is left
abbrev pub HeldExact : List Read → Type 0
HeldExact reads = AllByRecursion (λ (r : Read). is_held r ≡ true → r.from + r.asked ≤ r.to) reads

-- the request is the task's, which is active, and asks for such numbers alone; `again` tells requests that are repeated
abbrev pub FreshBy : (ℕ → ℕ → Bool) → Task → List ℕ → Content → Type 0
FreshBy again t uuid (contents.ReadRequest history from max_ops max_bytes timeout) =
    (uuid ≡ t.follower) × (again from max_ops ≡ false → (is_active t.phase ≡ true) × ((n : ℕ) → from ≤ n → n < from + max_ops → Covers t n))
FreshBy again t uuid _ = Unit {0}

abbrev pub AreFresh : (ℕ → ℕ → Bool) → Task → List Frame → Type 0
AreFresh again t sent = AllByRecursion (λ (m : Frame). FreshBy again t m.follower m.content) sent

-- what a task covers, it goes on to cover
pub record Goes (t next : Task) : Type 0 where
  pub follower : next.follower ≡ t.follower
  pub phase : next.phase ≡ t.phase
  pub covers : (n : ℕ) → Covers t n → Covers next n

goes-self : (t : Task) → Goes t t
goes-self t = record { follower = refl; phase = refl; covers = λ n is. is }

goes-on : (t middle next : Task) → Goes t middle → Goes middle next → Goes t next
goes-on t middle next a b = record { follower = b.follower ∙ a.follower; phase = b.phase ∙ a.phase; covers = λ n is. b.covers n (a.covers n is) }

carry-content : (again : ℕ → ℕ → Bool) (t next : Task) (uuid : List ℕ) (content : Content) → Goes t next → FreshBy again t uuid content → FreshBy again next uuid content
carry-content again t next uuid (contents.ReadRequest history from max_ops max_bytes timeout) on fresh =
    (fresh.0 ∙ sym on.follower, λ new. (subst (λ (phase : Phase). is_active phase ≡ true) (sym on.phase) (fresh.1 new).0, λ n low high. on.covers n ((fresh.1 new).1 n low high)))
carry-content again t next uuid _ on fresh = tt

carry : (again : ℕ → ℕ → Bool) (t next : Task) (sent : List Frame) → Goes t next → AreFresh again t sent → AreFresh again next sent
carry again t next sent on fresh =
    All-weaker (λ (m : Frame). FreshBy again t m.follower m.content) (λ (m : Frame). FreshBy again next m.follower m.content) (λ m is. carry-content again t next m.follower m.content on is) sent fresh

pub record SendsFresh (again : ℕ → ℕ → Bool) (t : Task) (done : Sending Task) : Type 0 where
  pub goes : Goes t done.next
  pub fresh : AreFresh again done.next done.sent

quiet-fresh : (again : ℕ → ℕ → Bool) (t : Task) → SendsFresh again t (quiet t)
quiet-fresh again t = record { goes = goes-self t; fresh = tt }

then-fresh : (again : ℕ → ℕ → Bool) (t : Task) (first : Sending Task) (f : Task → Sending Task) → SendsFresh again t first → SendsFresh again first.next (f first.next) → SendsFresh again t (followed_by first f)
then-fresh again t first f a b = record {
  goes = goes-on t first.next (f first.next).next a.goes b.goes;
  fresh = All-append (λ (m : Frame). FreshBy again (f first.next).next m.follower m.content) first.sent (f first.next).sent
      (carry again first.next (f first.next).next first.sent b.goes a.fresh) b.fresh;
}

after-fresh : (again : ℕ → ℕ → Bool) (t middle : Task) (done : Sending Task) → Goes t middle → SendsFresh again middle done → SendsFresh again t done
after-fresh again t middle done on b = record { goes = goes-on t middle done.next on b.goes; fresh = b.fresh }

-- ---- one read

any-more : (n : ℕ) (reads more : List Read) → list_any (is_in_read n) reads ≡ true → list_any (is_in_read n) (reads ++ more) ≡ true
any-more n [] more is = absurd (cc)
any-more n (r ∷ reads) more is =
    (elim (is_in_read n r) as (λ (b : Bool). (b || list_any (is_in_read n) reads) ≡ true → (b || list_any (is_in_read n) (reads ++ more)) ≡ true) [
      | true ↦ λ all. refl
      | false ↦ λ all. any-more n reads more all
    ]) is

any-last : (n : ℕ) (reads : List Read) (r : Read) → is_in_read n r ≡ true → list_any (is_in_read n) (reads ++ r ∷ []) ≡ true
any-last n [] r is = rw is refl
any-last n (x ∷ reads) r is =
    (elim (is_in_read n x) as (λ (b : Bool). (b || list_any (is_in_read n) (reads ++ r ∷ [])) ≡ true) [
      | true ↦ refl
      | false ↦ any-last n reads r is
    ])

within-read : (n : ℕ) (r : Read) → r.from ≤ n → n < r.to → is_in_read n r ≡ true
within-read n r low high = grind (arith, nat_tests)

abbrev new_read : Task → ℕ → ℕ → Read
new_read t to asked = record { request = t.next_request; from = t.next; to = to; asked = asked; progress = on_its_way }

read-covers : (t : Task) (to asked n : ℕ) → Covers t n → Covers (with_read t t.next to asked).next n
read-covers t to asked n (inl there) = inl (any-more n t.reads (new_read t to asked ∷ []) there)
read-covers t to asked n (inr above) =
    by_test (Covers (with_read t t.next to asked).next n) (nat_lt n to)
    (λ is. inl (any-last n t.reads (new_read t to asked) (within-read n (new_read t to asked) above (ltb-true n to is))))
    (λ isnt. inr (grind (arith, nat_tests)))

read-fresh : (again : ℕ → ℕ → Bool) (t : Task) (to asked : ℕ) → is_active t.phase ≡ true → SendsFresh again t (with_read t t.next to asked)
read-fresh again t to asked active = record {
  goes = record { follower = refl; phase = refl; covers = read-covers t to asked };
  fresh = ((refl, λ new. (active, λ n low high. read-covers t to asked n (inr low))), tt);
}

-- a read that is sent again is for the same numbers
abbrev renumber : ℕ → Read → Read
renumber request own = record own { request = request; progress = on_its_way }

any-changed : (n request number : ℕ) (reads : List Read) → list_any (is_in_read n) (changed_read request (renumber number) reads) ≡ list_any (is_in_read n) reads
any-changed n request number [] = refl
any-changed n request number (r ∷ reads) =
    on_if (λ (rs : List Read). list_any (is_in_read n) rs ≡ list_any (is_in_read n) (r ∷ reads)) (r.request == request) (renumber number r ∷ reads) (r ∷ changed_read request (renumber number) reads)
    (λ is. refl) (λ isnt. ap (λ (b : Bool). is_in_read n r || b) (any-changed n request number reads))

again-goes-one : (t : Task) (r : Read) → Goes t (sent_again t r).next
again-goes-one t r = record { follower = refl; phase = refl; covers = covers }
  where
    covers : (n : ℕ) → Covers t n → Covers (sent_again t r).next n
    covers n (inl there) = inl (any-changed n r.request t.next_request t.reads ∙ there)
    covers n (inr above) = inr above

-- each of these asks for numbers that the task covers, or is repeated
abbrev IsCovered : (ℕ → ℕ → Bool) → Task → Read → Type 0
IsCovered again t r = again r.from r.asked ≡ false → (is_active t.phase ≡ true) × ((n : ℕ) → r.from ≤ n → n < r.from + r.asked → Covers t n)

again-fresh : (again : ℕ → ℕ → Bool) (rs : List Read) (t : Task) → AllByRecursion (IsCovered again t) rs → SendsFresh again t (all_sent_again rs t)
again-fresh again [] t covered = quiet-fresh again t
again-fresh again (r ∷ rs) t covered =
    then-fresh again t (sent_again t r) (all_sent_again rs)
    (record { goes = again-goes-one t r; fresh = ((refl, λ new. ((covered.0 new).0, λ n low high. (again-goes-one t r).covers n ((covered.0 new).1 n low high))), tt) })
    (again-fresh again rs (sent_again t r).next
    (All-weaker (IsCovered again t) (IsCovered again (sent_again t r).next)
    (λ own is new. ((is new).0, λ n low high. (again-goes-one t r).covers n ((is new).1 n low high))) rs covered.1))

-- ---- Fill

batches-go : (n : ℕ) (t : Task) → Goes t (with_batches n t)
batches-go zero t = goes-self t
batches-go (suc n) t =
    on_if (λ (u : Task). Goes t u) (is_empty t.buffer) t (with_batches n (with_batch t)) (λ is. goes-self t)
    (λ isnt. let rest : Goes (with_batch t) (with_batches n (with_batch t)) = batches-go n (with_batch t) in
    record { follower = rest.follower; phase = rest.phase; covers = rest.covers })

batches-reads : (n : ℕ) (t : Task) → (with_batches n t).reads ≡ t.reads
batches-reads zero t = refl
batches-reads (suc n) t = on_if (λ (u : Task). u.reads ≡ t.reads) (is_empty t.buffer) t (with_batches n (with_batch t)) (λ is. refl) (λ isnt. batches-reads n (with_batch t))

-- each read of a list that is within another is counted there
each-any : (whole reads : List Read) → ((n : ℕ) → list_any (is_in_read n) reads ≡ true → list_any (is_in_read n) whole ≡ true)
    → AllByRecursion (λ (r : Read). (n : ℕ) → is_in_read n r ≡ true → list_any (is_in_read n) whole ≡ true) reads
each-any whole [] all = tt
each-any whole (r ∷ reads) all = (
  λ n is. all n (rw is refl),
  each-any whole reads (λ n is. all n (any-behind n r reads is)),
)
  where
    any-behind : (n : ℕ) (r : Read) (reads : List Read) → list_any (is_in_read n) reads ≡ true → list_any (is_in_read n) (r ∷ reads) ≡ true
    any-behind n r reads is = (elim (is_in_read n r) as (λ (b : Bool). (b || list_any (is_in_read n) reads) ≡ true) [ true ↦ refl | false ↦ is ])

held-fresh : (again : ℕ → ℕ → Bool) (t : Task) → is_active t.phase ≡ true → HeldExact t.reads → SendsFresh again t (fill_held t)
held-fresh again t active exact =
    let held : List Read = filter is_held t.reads in
    let Both : Read → Type 0 = λ r. (is_held r ≡ true → r.from + r.asked ≤ r.to) × ((n : ℕ) → is_in_read n r ≡ true → list_any (is_in_read n) t.reads ≡ true) in
    let all : AllByRecursion Both t.reads
    = All-both (λ (r : Read). is_held r ≡ true → r.from + r.asked ≤ r.to) (λ (r : Read). (n : ℕ) → is_in_read n r ≡ true → list_any (is_in_read n) t.reads ≡ true) t.reads
    exact (each-any t.reads t.reads (λ n is. is)) in
    on_if (λ (done : Sending Task). SendsFresh again t done) (may_read t) (all_sent_again held t) (quiet t)
    (λ may. again-fresh again held t
    (All-weaker (λ (r : Read). Both r × (is_held r ≡ true)) (IsCovered again t)
    (λ r is new. (active, λ n low high. let end : r.from + r.asked ≤ r.to = is.0.0 is.1 in inl (is.0.1 n (within-read n r low (omega arith))))) held
    (All-both Both (λ (r : Read). is_held r ≡ true) held (All-filter Both is_held t.reads all) (All-filter_test is_held t.reads))))
    (λ maynt. quiet-fresh again t)

reads-fresh : (again : ℕ → ℕ → Bool) (n : ℕ) (t : Task) → is_active t.phase ≡ true → SendsFresh again t (with_reads n t)
reads-fresh again zero t active = quiet-fresh again t
reads-fresh again (suc n) t active =
    let to : ℕ = min t.known (t.next + t.params.max_read_request_operation_count) in
    on_if (λ (done : Sending Task). SendsFresh again t done) (has_budget t && nat_lt t.next t.known) (followed_by (next_read t) (with_reads n)) (quiet t)
    (λ is. then-fresh again t (next_read t) (with_reads n) (read-fresh again t to (asks t (to - t.next)) active) (reads-fresh again n (next_read t).next active))
    (λ isnt. quiet-fresh again t)

peek-fresh : (again : ℕ → ℕ → Bool) (t : Task) → is_active t.phase ≡ true → SendsFresh again t (fill_peek t)
peek-fresh again t active =
    on_if (λ (done : Sending Task). SendsFresh again t done) (is_empty t.reads && has_budget t) (with_read t t.next t.next t.params.max_read_request_operation_count) (quiet t)
    (λ is. read-fresh again t t.next t.params.max_read_request_operation_count active) (λ isnt. quiet-fresh again t)

still-active : (t next : Task) → Goes t next → is_active t.phase ≡ true → is_active next.phase ≡ true
still-active t next on active = subst (λ (phase : Phase). is_active phase ≡ true) (sym on.phase) active

pub fill-fresh : (again : ℕ → ℕ → Bool) (t : Task) → is_active t.phase ≡ true → HeldExact t.reads → SendsFresh again t (fill t)
fill-fresh again t active exact =
    let n : ℕ = min (t.params.max_outstanding_write_requests - length t.writes) (length t.buffer) in
    let a : Task = fill_writes t in
    let first : Goes t a = batches-go n t in
    let b : Task = (fill_held a).next in
    let held : SendsFresh again a (fill_held a) = held-fresh again a (still-active t a first active) (subst HeldExact (sym (batches-reads n t)) exact) in
    let to_b : SendsFresh again t (fill_held a) = after-fresh again t a (fill_held a) first held in
    let k : ℕ = min (b.params.max_outstanding_read_requests - length b.reads) (b.known - b.next) in
    let c : Task = (fill_reads b).next in
    let second : SendsFresh again b (fill_reads b) = reads-fresh again k b (still-active t b to_b.goes active) in
    let to_c : SendsFresh again t (followed_by (fill_held a) fill_reads) = then-fresh again t (fill_held a) fill_reads to_b second in
    then-fresh again t (followed_by (fill_held a) fill_reads) fill_peek to_c (peek-fresh again c (still-active t c to_c.goes active))

pub filled-fresh : (again : ℕ → ℕ → Bool) (t : Task) → HeldExact t.reads → SendsFresh again t (filled_if_active t)
filled-fresh again t exact =
    on_if (λ (done : Sending Task). SendsFresh again t done) (is_active t.phase) (fill t) (quiet t) (λ active. fill-fresh again t active exact) (λ isnt. quiet-fresh again t)

-- ---- the functions

pub started-fresh : (again : ℕ → ℕ → Bool) (params : ParamValues) (count epoch : ℕ) (history follower : List ℕ) (request : ℕ)
    → AreFresh again (started params count epoch history follower request).next (started params count epoch history follower request).sent
started-fresh again params count epoch history follower request = (fill-fresh again (start_task params count epoch history follower request) refl tt).fresh

-- a good task's held reads ask for no more than what is left
pub sound-exact : (line : Line) (begun_at : ℕ) (written : List WrittenBatch) (t : Task) → IsSoundTask line t begun_at written → HeldExact t.reads
sound-exact line begun_at written t s =
    All-weaker (IsGoodRead t.params.max_read_request_operation_count begun_at t.next_request t.next) (λ (r : Read). is_held r ≡ true → r.from + r.asked ≤ r.to)
    (λ r good. good.exact) t.reads s.reads.all

-- ---- what is due is repeated

in-any : {X : Type 0} (test : X → Bool) (xs : List X) (x : X) → IsIn xs x → test x ≡ true → list_any test xs ≡ true
in-any test [] x there is = absurd there
in-any test (y ∷ xs) x (inl same) is = let own : test y ≡ true = subst (λ z. test z ≡ true) (sym same) is in rw own refl
in-any test (y ∷ xs) x (inr there) is =
    (elim (test y) as (λ (b : Bool). (b || list_any test xs) ≡ true) [ true ↦ refl | false ↦ in-any test xs x there is ])

each-in : (P : Read → Type 0) (xs : List Read) → ((x : Read) → IsIn xs x → P x) → AllByRecursion P xs
each-in P [] holds = tt
each-in P (x ∷ xs) holds = (holds x (inl refl), each-in P xs (λ y there. holds y (inr there)))

due-waits : (now : ℕ) (progress : Progress) → is_due now progress ≡ true → is_waiting progress ≡ true
due-waits now on_its_way due = due
due-waits now (waiting until) due = refl
due-waits now held_back due = due

due-repeats : (t : Task) (now : ℕ) → AllByRecursion (λ (r : Read). is_due now r.progress ≡ true → is_repeated t r.from r.asked ≡ true) t.reads
due-repeats t now =
    each-in (λ (r : Read). is_due now r.progress ≡ true → is_repeated t r.from r.asked ≡ true) t.reads
    (λ r there due. in-any (λ x. (x.from == r.from) && (x.asked == r.asked) && is_waiting x.progress) t.reads r there
    (both-itself r.from r.asked (is_waiting r.progress) (due-waits now r.progress due)))
  where
    both-itself : (a b : ℕ) (w : Bool) → w ≡ true → ((a == a) && (b == b) && w) ≡ true
    both-itself a b w is = rw is (grind (arith, nat_tests))

in-order : (P : Read → Type 0) (reads rest : List Read) → AllByRecursion P reads → AllByRecursion P rest → AllByRecursion P (fold {A = Read} {B = List Read} (λ rest r. by_request r rest) rest reads)
in-order P [] rest a b = b
in-order P (r ∷ reads) rest a b = in-order P reads (by_request r rest) a.1 (All-by_request P r rest a.0 b)

repeated-covered : (t : Task) (r : Read) → is_repeated t r.from r.asked ≡ true → IsCovered (is_repeated t) t r
repeated-covered t r repeated isnt = absurd (both_ways (is_repeated t r.from r.asked) isnt repeated)

due-fresh : (t : Task) (now : ℕ) → SendsFresh (is_repeated t) t (due_reads_sent now t)
due-fresh t now =
    let due : List Read = filter (λ r. is_due now r.progress) t.reads in
    on_if (λ (done : Sending Task). SendsFresh (is_repeated t) t done) (may_read t) (all_sent_again (in_order_of_request due) t) (quiet t)
    (λ may. again-fresh (is_repeated t) (in_order_of_request due) t
    (in-order (IsCovered (is_repeated t) t) due []
    (All-weaker (λ (r : Read). (is_due now r.progress ≡ true → is_repeated t r.from r.asked ≡ true) × (is_due now r.progress ≡ true)) (IsCovered (is_repeated t) t)
    (λ r is. repeated-covered t r (is.0 is.1)) due
    (All-both (λ (r : Read). is_due now r.progress ≡ true → is_repeated t r.from r.asked ≡ true) (λ (r : Read). is_due now r.progress ≡ true) due
    (All-filter (λ (r : Read). is_due now r.progress ≡ true → is_repeated t r.from r.asked ≡ true) (λ r. is_due now r.progress) t.reads (due-repeats t now))
    (All-filter_test (λ r. is_due now r.progress) t.reads))) tt))
    (λ maynt. quiet-fresh (is_repeated t) t)

pub ticked-fresh : (line : Line) (begun_at : ℕ) (written : List WrittenBatch) (t : Task) (now : ℕ) → IsSoundTask line t begun_at written → SendsFresh (is_repeated t) t (ticked now t)
ticked-fresh line begun_at written t now s =
    let after : Task = (due_reads_sent now t).next in
    let after_sound : IsSoundTask line after begun_at written = due_reads-sound line begun_at written t now s in
    let writes : Task = due_writes_sent now after in
    let write_goes : Goes after writes = record { follower = refl; phase = refl; covers = λ n is. is } in
    then-fresh (is_repeated t) t (due_reads_sent now t) (λ u. filled_if_active (due_writes_sent now u)) (due-fresh t now)
    (after-fresh (is_repeated t) after writes (filled_if_active writes) write_goes
    (filled-fresh (is_repeated t) writes (sound-exact line begun_at written writes (due_writes-sound line begun_at written after now after_sound))))
