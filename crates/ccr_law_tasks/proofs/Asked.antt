-- What a task sends agrees with its reads.
use Rattle.std.specs.Prelude.{nat_lt, ◌==◌, find}
use Rattle.std.specs.List.{AllByRecursion, filter, count_by, fold}
use Rattle.std.proofs.Common.{◌≡◌, ◌∙◌, ◌⊎◌, inl, inr, ⊎_elim, ℕ, ◌+◌, ◌-◌, ◌≤◌, ◌<◌, min, zero, suc, Bool, true, false, if◌then◌else◌, ◌&&◌, List, [], ◌∷◌, ◌++◌, length, Option, Some, None, refl, sym, ap, subst, arith}
use Rattle.std.proofs.lemmas.Bool.{ltb-true, and_parts, eqb-true, both_ways}
use Rattle.std.proofs.lemmas.Bool.Decides.{nat_tests}
use Rattle.ccr_op.specs.Operation.{Operation}
use Rattle.ccr_wire.specs.Message.{Frame}
use Rattle.ccr_wire.specs.declared.content.Content.{Content}
use Rattle.ccr_wire.specs.declared.content.Content.TheVariants as contents
use Rattle.ccr_journal.specs.Params.{AreInRange}
use Rattle.ccr_journal.specs.declared.params.ParamValues.{ParamValues}
use Rattle.ccr_model.specs.Operations.{is_empty}
use Rattle.ccr_model.specs.Requests.{Sending, quiet, followed_by, on_its_way, held_back, is_sent, is_due}
use Rattle.ccr_model.specs.Tasks.{Task, Read, is_active, may_read, has_budget, is_held, changed_read, without_read, sent_again, all_sent_again, with_batch, with_batches, fill_writes, fill_held, with_read, asks, next_read, with_reads, fill_reads, fill_peek, fill, filled_if_active, started, rest_from, after_reply, by_request, in_order_of_request, read_lost, write_lost, waits_after, without_write, due_reads_sent, due_writes_sent, ticked}
use Rattle.ccr_model.specs.Past.{Line, WrittenBatch}
use Rattle.ccr_model.specs.FrameFacts.{AsksAsRead}
use Rattle.ccr_law_base.proofs.Cases.{on_if}
use Rattle.ccr_law_base.proofs.Lists.{All-append, All-by_request, All-changed_read, All-filter, All-find, All-weaker}
use Rattle.ccr_law_tasks.specs.GoodTask.{IsGoodRead, IsSoundTask, IsGoodTask}
use Rattle.ccr_law_tasks.specs.Asking.{AsksAsSent, IsAskOf, WasSent, Continues, SendsAsks, GoesOnAsking}
use Rattle.ccr_law_tasks.proofs.Sums.{one_if, count-cons, AreApart, apart-rest}
use Rattle.ccr_law_tasks.proofs.Filling.{HasFullWrites, IsHalfFull, with_batches-sound, with_batches-full, sent_again-sound, with_read-sound, asks-within, fill_held-half, with_reads-half}
use Rattle.ccr_law_tasks.proofs.Answering.{reply-sound}
use Rattle.ccr_law_tasks.proofs.Calls.{start_task, start-sound, due_reads-sound, due_writes-sound, ended-sound}
use Rattle.ccr_law_base.proofs.Tests.{and_false, other_turned}

-- ---- finding reads

abbrev finds : ℕ → Read → Bool
finds request r = (r.request == request) && is_sent r.progress

abbrev counts : ℕ → List Read → ℕ
counts request reads = count_by (λ (r : Read). r.request == request) reads

counts-cons : (k : ℕ) (r : Read) (reads : List Read) → counts k (r ∷ reads) ≡ one_if (r.request == k) + counts k reads
counts-cons k r reads = count-cons (λ (r : Read). r.request == k) r reads

-- a read that is found counts
find-counts : (request : ℕ) (reads : List Read) (r : Read) → find (finds request) reads ≡ Some r → 1 ≤ counts request reads
find-counts request [] r found = absurd (cc)
find-counts request (x ∷ reads) r found =
    let all : counts request (x ∷ reads) ≡ one_if (x.request == request) + counts request reads = counts-cons request x reads in
    on_if (λ (o : Option Read). o ≡ Some r → 1 ≤ counts request (x ∷ reads)) (finds request x) (Some x) (find (finds request) reads)
    (λ is now.
    let own : (x.request == request) ≡ true = (and_parts (x.request == request) (is_sent x.progress) is).0 in
    let one : one_if (x.request == request) ≡ 1 = ap one_if own in
    omega arith)
    (λ isnt now. let rest : 1 ≤ counts request reads = find-counts request reads r now in omega arith)
    found

-- no read is found under a number that was never drawn
drawn-none : (request : ℕ) (reads : List Read) (r : Read) → AllByRecursion (λ (r : Read). r.request < request) reads → find (finds request) reads ≡ Some r → ⊥
drawn-none request reads r drawn found =
    let at = All-find (λ (r : Read). r.request < request) (finds request) reads r drawn found in
    let below : r.request < request = at.0 in
    let own : (r.request == request) ≡ true = (and_parts (r.request == request) (is_sent r.progress) at.1).0 in
    let same : r.request ≡ request = eqb-true r.request request own in
    omega arith

-- one more read at the end
find-more : (request : ℕ) (reads : List Read) (y r : Read) → find (finds request) (reads ++ y ∷ []) ≡ Some r → (find (finds request) reads ≡ Some r) ⊎ ((finds request y ≡ true) × (y ≡ r))
find-more request [] y r found =
    on_if (λ (o : Option Read). o ≡ Some r → (find (finds request) [] ≡ Some r) ⊎ ((finds request y ≡ true) × (y ≡ r))) (finds request y) (Some y) None
    (λ is now. let same : y ≡ r = cc in inr (is, same)) (λ isnt now. absurd (cc)) found
find-more request (x ∷ reads) y r found =
    (elim (finds request x) as (λ (b : Bool). (if b then Some x else find (finds request) (reads ++ y ∷ [])) ≡ Some r
    → ((if b then Some x else find (finds request) reads) ≡ Some r) ⊎ ((finds request y ≡ true) × (y ≡ r))) [
      | true ↦ λ now. inl now
      | false ↦ λ now. find-more request reads y r now
    ]) found

-- what is found behind a read is found with it, since no other read has its number
find-behind : (request : ℕ) (x : Read) (reads : List Read) (r : Read) → AreApart (λ (y : Read). y.request) (x ∷ reads) → find (finds request) reads ≡ Some r → find (finds request) (x ∷ reads) ≡ Some r
find-behind request x reads r apart found =
    (elim (finds request x) as (λ (b : Bool). finds request x ≡ b → (if b then Some x else find (finds request) reads) ≡ Some r) [
      | true ↦ λ is.
          let own : (x.request == request) ≡ true = (and_parts (x.request == request) (is_sent x.progress) is).0 in
          let one : one_if (x.request == request) ≡ 1 = ap one_if own in
          let all : counts request (x ∷ reads) ≡ one_if (x.request == request) + counts request reads = counts-cons request x reads in
          let most : counts request (x ∷ reads) ≤ 1 = apart request in
          let there : 1 ≤ counts request reads = find-counts request reads r found in
          absurd (omega arith)
      | false ↦ λ isnt. found
    ]) refl

-- a change by which a read isn't found any more
find-changed : (request p : ℕ) (f : Read → Read) → ((x : Read) → finds request (f x) ≡ false) → (reads : List Read) (r : Read) → AreApart (λ (y : Read). y.request) reads
    → find (finds request) (changed_read p f reads) ≡ Some r → find (finds request) reads ≡ Some r
find-changed request p f lost [] r apart found = found
find-changed request p f lost (x ∷ reads) r apart found =
    on_if (λ (rs : List Read). find (finds request) rs ≡ Some r → find (finds request) (x ∷ reads) ≡ Some r) (x.request == p) (f x ∷ reads) (x ∷ changed_read p f reads)
    (λ is now.
    let rest : find (finds request) reads ≡ Some r = subst (λ (b : Bool). (if b then Some (f x) else find (finds request) reads) ≡ Some r) (lost x) now in
    find-behind request x reads r apart rest)
    (λ isnt now.
    (elim (finds request x) as (λ (b : Bool). (if b then Some x else find (finds request) (changed_read p f reads)) ≡ Some r → (if b then Some x else find (finds request) reads) ≡ Some r) [
      | true ↦ λ here. here
      | false ↦ λ there. find-changed request p f lost reads r (apart-rest (λ y. y.request) x reads apart) there
    ]) now)
    found

find-without : (request p : ℕ) (reads : List Read) (r : Read) → AreApart (λ (y : Read). y.request) reads → find (finds request) (without_read p reads) ≡ Some r → find (finds request) reads ≡ Some r
find-without request p [] r apart found = found
find-without request p (x ∷ reads) r apart found =
    on_if (λ (rs : List Read). find (finds request) rs ≡ Some r → find (finds request) (x ∷ reads) ≡ Some r) (x.request == p) reads (x ∷ without_read p reads)
    (λ is now. find-behind request x reads r apart now)
    (λ isnt now.
    (elim (finds request x) as (λ (b : Bool). (if b then Some x else find (finds request) (without_read p reads)) ≡ Some r → (if b then Some x else find (finds request) reads) ≡ Some r) [
      | true ↦ λ here. here
      | false ↦ λ there. find-without request p reads r (apart-rest (λ y. y.request) x reads apart) there
    ]) now)
    found

abbrev renumber : ℕ → Read → Read
renumber request own = record own { request = request; progress = on_its_way }

-- the two ask for the same
abbrev AskSame : Read → Read → Type 0
AskSame a b = (a.from ≡ b.from) × (a.asked ≡ b.asked)

-- a read of the request number of another asks for the same
abbrev Matches : Read → Read → Type 0
Matches r x = (x.request == r.request) ≡ true → AskSame x r

-- the read that has the new number is the one that was sent again
find-new : (n : ℕ) (r : Read) (reads : List Read) (now : Read) → AllByRecursion (λ (x : Read). x.request < n) reads → AllByRecursion (Matches r) reads
    → find (finds n) (changed_read r.request (renumber n) reads) ≡ Some now → AskSame now r
find-new n r [] now drawn match found = absurd (cc)
find-new n r (x ∷ reads) now drawn match found =
    let f : Read → Read = renumber n in
    on_if (λ (rs : List Read). find (finds n) rs ≡ Some now → AskSame now r) (x.request == r.request) (f x ∷ reads) (x ∷ changed_read r.request f reads)
    (λ is here.
    let own : (n == n) ≡ true = grind (arith, nat_tests) in
    let first : Some (f x) ≡ Some now = subst (λ (b : Bool). (if (b && true) then Some (f x) else find (finds n) reads) ≡ Some now) own here in
    let same : f x ≡ now = cc in
    let asks = match.0 is in
    (sym (ap (λ (y : Read). y.from) same) ∙ asks.0, sym (ap (λ (y : Read). y.asked) same) ∙ asks.1))
    (λ isnt there.
    let below : x.request < n = drawn.0 in
    let other : (x.request == n) ≡ false = grind (arith, nat_tests) in
    let rest : find (finds n) (changed_read r.request f reads) ≡ Some now =
    subst (λ (b : Bool). (if (b && is_sent x.progress) then Some x else find (finds n) (changed_read r.request f reads)) ≡ Some now) other there in
    find-new n r reads now drawn.1 match.1 rest)
    found

-- ---- reads of distinct numbers match each other

none-of : (k : ℕ) (reads : List Read) → counts k reads ≡ 0 → AllByRecursion (λ (x : Read). (x.request == k) ≡ false) reads
none-of k [] none = tt
none-of k (x ∷ reads) none =
    let all : counts k (x ∷ reads) ≡ one_if (x.request == k) + counts k reads = counts-cons k x reads in
    let first : one_if (x.request == k) ≡ 0 = omega arith in
    (grind (arith, nat_tests), none-of k reads (omega arith))

all-both : (P Q R : Read → Type 0) → ((x : Read) → P x → Q x → R x) → (xs : List Read) → AllByRecursion P xs → AllByRecursion Q xs → AllByRecursion R xs
all-both P Q R f [] p q = tt
all-both P Q R f (x ∷ xs) p q = (f x p.0 q.0, all-both P Q R f xs p.1 q.1)

all-match : (reads : List Read) → AreApart (λ (y : Read). y.request) reads → AllByRecursion (λ (r : Read). AllByRecursion (Matches r) reads) reads
all-match [] apart = tt
all-match (x ∷ reads) apart =
    let own : (x.request == x.request) ≡ true = grind (arith, nat_tests) in
    let one : one_if (x.request == x.request) ≡ 1 = ap one_if own in
    let all : counts x.request (x ∷ reads) ≡ one_if (x.request == x.request) + counts x.request reads = counts-cons x.request x reads in
    let most : counts x.request (x ∷ reads) ≤ 1 = apart x.request in
    let others : AllByRecursion (λ (y : Read). (y.request == x.request) ≡ false) reads = none-of x.request reads (omega arith) in (
      (λ is. (refl, refl), All-weaker (λ (y : Read). (y.request == x.request) ≡ false) (Matches x) (λ y isnt is. absurd (both_ways (y.request == x.request) isnt is)) reads others),
      all-both (λ (r : Read). AllByRecursion (Matches r) reads) (λ (y : Read). (y.request == x.request) ≡ false) (λ (r : Read). AllByRecursion (Matches r) (x ∷ reads))
          (λ r rest isnt. (λ is. absurd (both_ways (x.request == r.request) (other_turned r.request x.request isnt) is), rest))
          reads (all-match reads (apart-rest (λ y. y.request) x reads apart)) others,
    )

all-ordered : (P : Read → Type 0) (reads rest : List Read) → AllByRecursion P reads → AllByRecursion P rest → AllByRecursion P (fold {A = Read} {B = List Read} (λ rest r. by_request r rest) rest reads)
all-ordered P [] rest a b = b
all-ordered P (r ∷ reads) rest a b = all-ordered P reads (by_request r rest) a.1 (All-by_request P r rest a.0 b)

-- ---- one thing after another

continues-id : (t next : Task) → next.history ≡ t.history → next.follower ≡ t.follower → next.params ≡ t.params → next.next_request ≡ t.next_request → next.reads ≡ t.reads → Continues t next
continues-id t next history follower params request reads = record {
  history = history;
  follower = follower;
  params = params;
  drawn = omega arith;
  old = λ q now low found. record { read = now; sent = subst (λ (rs : List Read). find (finds q) rs ≡ Some now) reads found; from = refl; asked = refl };
}

continues-on : (t middle next : Task) → Continues t middle → Continues middle next → Continues t next
continues-on t middle next a b =
    let up : t.next_request ≤ middle.next_request = a.drawn in
    let more : middle.next_request ≤ next.next_request = b.drawn in
    record {
      history = b.history ∙ a.history;
      follower = b.follower ∙ a.follower;
      params = b.params ∙ a.params;
      drawn = omega arith;
      old = λ q now low found.
          let first : WasSent middle q now = b.old q now (omega arith) found in
          let second : WasSent t q first.read = a.old q first.read low first.sent in
          record { read = second.read; sent = second.sent; from = first.from ∙ second.from; asked = first.asked ∙ second.asked };
    }

carry-content : (t next : Task) (request : ℕ) (content : Content) → request < t.next_request → Continues t next → AsksAsSent t request content → AsksAsSent next request content
carry-content t next request (contents.ReadRequest history from max_ops max_bytes timeout) low on asks = λ now found.
    let was : WasSent t request now = on.old request now low found in
    let old : AsksAsRead history from max_ops max_bytes (record { task = t; read = was.read }) = asks was.read was.sent in
    record {
      same_history = old.same_history ∙ sym on.history;
      begins = old.begins ∙ sym was.from;
      number = old.number ∙ sym was.asked;
      size = old.size ∙ sym (ap (λ (p : ParamValues). p.max_read_request_size) on.params);
    }
carry-content t next request _ low on asks = asks

carry : (t next : Task) → Continues t next → (m : Frame) → IsAskOf t m → IsAskOf next m
carry t next on m ask =
    let low : m.request < t.next_request = ask.drawn in
    let up : t.next_request ≤ next.next_request = on.drawn in
    record { follower = ask.follower ∙ sym on.follower; drawn = omega arith; asks = carry-content t next m.request m.content low on ask.asks }

then-asks : (t : Task) (first : Sending Task) (f : Task → Sending Task) → SendsAsks t first → SendsAsks first.next (f first.next) → SendsAsks t (followed_by first f)
then-asks t first f a b = record {
  continues = continues-on t first.next (f first.next).next a.continues b.continues;
  asks = All-append (IsAskOf (f first.next).next) first.sent (f first.next).sent (All-weaker (IsAskOf first.next) (IsAskOf (f first.next).next) (carry first.next (f first.next).next b.continues) first.sent a.asks) b.asks;
}

after-asks : (t middle : Task) (done : Sending Task) → Continues t middle → SendsAsks middle done → SendsAsks t done
after-asks t middle done on b = record { continues = continues-on t middle done.next on b.continues; asks = b.asks }

quiet-asks : (t : Task) → SendsAsks t (quiet t)
quiet-asks t = record { continues = continues-id t t refl refl refl refl refl; asks = tt }

-- ---- one read

drawn-of : (line : Line) (begun_at : ℕ) (written : List WrittenBatch) (t : Task) → IsSoundTask line t begun_at written → AllByRecursion (λ (r : Read). r.request < t.next_request) t.reads
drawn-of line begun_at written t s =
    All-weaker (IsGoodRead t.params.max_read_request_operation_count begun_at t.next_request t.next) (λ (r : Read). r.request < t.next_request) (λ r good. good.drawn) t.reads s.reads.all

other-number : (n q : ℕ) → q < n → (n == q) ≡ false
other-number n q low = grind (arith, nat_tests)

read-asks : (line : Line) (begun_at : ℕ) (written : List WrittenBatch) (t : Task) (to asked : ℕ) → IsSoundTask line t begun_at written → SendsAsks t (with_read t t.next to asked)
read-asks line begun_at written t to asked s =
    let r : Read = record { request = t.next_request; from = t.next; to = to; asked = asked; progress = on_its_way } in
    record {
      continues = record {
        history = refl;
        follower = refl;
        params = refl;
        drawn = omega arith;
        old = λ q now low found.
            ⊎_elim
            (λ (there : find (finds q) t.reads ≡ Some now). (let was : WasSent t q now = record { read = now; sent = there; from = refl; asked = refl } in was))
            (λ (here : (finds q r ≡ true) × (r ≡ now)).
            let own : (t.next_request == q) ≡ true = (and_parts (t.next_request == q) true here.0).0 in
            absurd (both_ways (t.next_request == q) (other-number t.next_request q low) own))
            (find-more q t.reads r now found);
      };
      asks = (
        record {
          follower = refl;
          drawn = omega arith;
          asks = λ now found.
              let same : r ≡ now =
              ⊎_elim (λ (there : find (finds t.next_request) t.reads ≡ Some now). absurd (drawn-none t.next_request t.reads now (drawn-of line begun_at written t s) there))
              (λ (here : (finds t.next_request r ≡ true) × (r ≡ now)). here.1) (find-more t.next_request t.reads r now found) in
              record { same_history = refl; begins = ap (λ (y : Read). y.from) same; number = ap (λ (y : Read). y.asked) same; size = refl };
        },
        tt,
      );
    }

again-asks-one : (line : Line) (begun_at : ℕ) (written : List WrittenBatch) (t : Task) (r : Read) → IsSoundTask line t begun_at written → AllByRecursion (Matches r) t.reads → SendsAsks t (sent_again t r)
again-asks-one line begun_at written t r s match = record {
  continues = record {
    history = refl;
    follower = refl;
    params = refl;
    drawn = omega arith;
    old = λ q now low found.
        let sent : find (finds q) t.reads ≡ Some now = find-changed q r.request (renumber t.next_request) (λ x. ap (λ (b : Bool). b && true) (other-number t.next_request q low)) t.reads now s.reads.apart found in
        record { read = now; sent = sent; from = refl; asked = refl };
  };
  asks = (
    record {
      follower = refl;
      drawn = omega arith;
      asks = λ now found.
          let same : AskSame now r = find-new t.next_request r t.reads now (drawn-of line begun_at written t s) match found in
          record { same_history = refl; begins = sym same.0; number = sym same.1; size = refl };
    },
    tt,
  );
}

-- ---- reads that are sent again

-- each of these matches the task's reads, and its number was drawn
record MatchesTask (t : Task) (r : Read) : Type 0 where
  drawn : r.request < t.next_request
  reads : AllByRecursion (Matches r) t.reads

matches-on : (t : Task) (r other : Read) → MatchesTask t other → MatchesTask (sent_again t r).next other
matches-on t r other match =
    let low : other.request < t.next_request = match.drawn in
    record {
      drawn = omega arith;
      reads = All-changed_read (Matches other) r.request (renumber t.next_request)
          (λ own at is. absurd (both_ways (t.next_request == other.request) (other-number t.next_request other.request low) is)) t.reads match.reads;
    }

again-asks : (line : Line) (begun_at : ℕ) (written : List WrittenBatch) (rs : List Read) (t : Task) → may_read t ≡ true → IsSoundTask line t begun_at written
    → AllByRecursion (MatchesTask t) rs → SendsAsks t (all_sent_again rs t)
again-asks line begun_at written [] t may s match = quiet-asks t
again-asks line begun_at written (r ∷ rs) t may s match =
    then-asks t (sent_again t r) (all_sent_again rs) (again-asks-one line begun_at written t r s match.0.reads)
    (again-asks line begun_at written rs (sent_again t r).next may (sent_again-sound line begun_at written t r may s)
    (All-weaker (MatchesTask t) (MatchesTask (sent_again t r).next) (matches-on t r) rs match.1))

own-match : (line : Line) (begun_at : ℕ) (written : List WrittenBatch) (t : Task) → IsSoundTask line t begun_at written → AllByRecursion (MatchesTask t) t.reads
own-match line begun_at written t s =
    all-both (λ (r : Read). r.request < t.next_request) (λ (r : Read). AllByRecursion (Matches r) t.reads) (MatchesTask t) (λ r drawn match. record { drawn = drawn; reads = match }) t.reads
    (drawn-of line begun_at written t s) (all-match t.reads s.reads.apart)

-- ---- Fill

batches-continue : (n : ℕ) (t : Task) → Continues t (with_batches n t)
batches-continue zero t = continues-id t t refl refl refl refl refl
batches-continue (suc n) t =
    on_if (λ (u : Task). Continues t u) (is_empty t.buffer) t (with_batches n (with_batch t)) (λ is. continues-id t t refl refl refl refl refl)
    (λ isnt. continues-on t (with_batch t) (with_batches n (with_batch t)) (continues-id t (with_batch t) refl refl refl refl refl) (batches-continue n (with_batch t)))

held-asks : (line : Line) (begun_at : ℕ) (written : List WrittenBatch) (t : Task) → IsSoundTask line t begun_at written → SendsAsks t (fill_held t)
held-asks line begun_at written t s =
    on_if (λ (done : Sending Task). SendsAsks t done) (may_read t) (all_sent_again (filter is_held t.reads) t) (quiet t)
    (λ may. again-asks line begun_at written (filter is_held t.reads) t may s (All-filter (MatchesTask t) is_held t.reads (own-match line begun_at written t s))) (λ maynt. quiet-asks t)

reads-asks : (line : Line) (begun_at : ℕ) (written : List WrittenBatch) (n : ℕ) (t : Task) → IsSoundTask line t begun_at written → SendsAsks t (with_reads n t)
reads-asks line begun_at written zero t s = quiet-asks t
reads-asks line begun_at written (suc n) t s =
    let to : ℕ = min t.known (t.next + t.params.max_read_request_operation_count) in
    on_if (λ (done : Sending Task). SendsAsks t done) (has_budget t && nat_lt t.next t.known) (followed_by (next_read t) (with_reads n)) (quiet t)
    (λ is.
    let parts = and_parts (has_budget t) (nat_lt t.next t.known) is in
    let left : t.next < t.known = ltb-true _ _ parts.1 in
    let within = asks-within t (to - t.next) (omega arith) in
    let enough : to - t.next ≤ asks t (to - t.next) = within.0 in
    then-asks t (next_read t) (with_reads n) (read-asks line begun_at written t to (asks t (to - t.next)) s)
    (reads-asks line begun_at written n (next_read t).next (with_read-sound line begun_at written t to (asks t (to - t.next)) parts.0 (omega arith) (omega arith) within.1 s)))
    (λ isnt. quiet-asks t)

peek-asks : (line : Line) (begun_at : ℕ) (written : List WrittenBatch) (t : Task) → IsSoundTask line t begun_at written → SendsAsks t (fill_peek t)
peek-asks line begun_at written t s =
    on_if (λ (done : Sending Task). SendsAsks t done) (is_empty t.reads && has_budget t) (with_read t t.next t.next t.params.max_read_request_operation_count) (quiet t)
    (λ is. read-asks line begun_at written t t.next t.params.max_read_request_operation_count s) (λ isnt. quiet-asks t)

fill-asks : (line : Line) (begun_at : ℕ) (written : List WrittenBatch) (t : Task) → IsSoundTask line t begun_at written → SendsAsks t (fill t)
fill-asks line begun_at written t s =
    let n : ℕ = min (t.params.max_outstanding_write_requests - length t.writes) (length t.buffer) in
    let few : length t.writes ≤ t.params.max_outstanding_write_requests = s.writes.few in
    let a : Task = fill_writes t in
    let a_sound : IsSoundTask line a begun_at written = with_batches-sound line begun_at written n t (omega arith) s in
    let a_full : HasFullWrites a = with_batches-full n t (omega arith) in
    let b : Task = (fill_held a).next in
    let b_half : IsHalfFull line b begun_at written = fill_held-half line begun_at written a a_full a_sound in
    let c : Task = (fill_reads b).next in
    let k : ℕ = min (b.params.max_outstanding_read_requests - length b.reads) (b.known - b.next) in
    let c_half = with_reads-half line begun_at written k b (omega arith) b_half in
    let first : SendsAsks t (fill_held a) = after-asks t a (fill_held a) (batches-continue n t) (held-asks line begun_at written a a_sound) in
    let second : SendsAsks t (followed_by (fill_held a) fill_reads) = then-asks t (fill_held a) fill_reads first (reads-asks line begun_at written k b b_half.sound) in
    then-asks t (followed_by (fill_held a) fill_reads) fill_peek second (peek-asks line begun_at written c c_half.0.sound)

filled-asks : (line : Line) (begun_at : ℕ) (written : List WrittenBatch) (t : Task) → IsSoundTask line t begun_at written → SendsAsks t (filled_if_active t)
filled-asks line begun_at written t s =
    on_if (λ (done : Sending Task). SendsAsks t done) (is_active t.phase) (fill t) (quiet t) (λ is. fill-asks line begun_at written t s) (λ isnt. quiet-asks t)

-- ---- the functions

pub started-asks : (params : ParamValues) (count epoch : ℕ) (history follower : List ℕ) (request : ℕ) → AreInRange params
    → AllByRecursion (IsAskOf (started params count epoch history follower request).next) (started params count epoch history follower request).sent
started-asks params count epoch history follower request in_range =
    let line : Line = record { ops = []; cut = 0 } in
    (fill-asks line count [] (start_task params count epoch history follower request) (start-sound line params count epoch history follower request [] in_range refl)).asks

reply-continues : (line : Line) (begun_at : ℕ) (written : List WrittenBatch) (t : Task) (r : Read) (global : ℕ) (ops : List Operation) → IsSoundTask line t begun_at written → Continues t (after_reply t r global ops)
reply-continues line begun_at written t r global ops s =
    let rest : ℕ = rest_from r ops in
    record {
      history = refl;
      follower = refl;
      params = refl;
      drawn = omega arith;
      old = λ q now low found.
          on_if (λ (rs : List Read). find (finds q) rs ≡ Some now → WasSent t q now) (nat_lt rest r.to)
          (changed_read r.request (λ own. record own { from = rest; asked = r.to - rest; progress = held_back }) t.reads) (without_read r.request t.reads)
          (λ is there. record {
            read = now;
            sent = find-changed q r.request (λ own. record own { from = rest; asked = r.to - rest; progress = held_back }) (λ x. and_false (x.request == q)) t.reads now s.reads.apart there;
            from = refl;
            asked = refl;
          })
          (λ isnt there. record { read = now; sent = find-without q r.request t.reads now s.reads.apart there; from = refl; asked = refl })
          found;
    }

read_lost-continues : (line : Line) (begun_at : ℕ) (written : List WrittenBatch) (t : Task) (time : ℕ) (r : Read) → IsSoundTask line t begun_at written → Continues t (read_lost t time r)
read_lost-continues line begun_at written t time r s = record {
  history = refl;
  follower = refl;
  params = refl;
  drawn = omega arith;
  old = λ q now low found. record {
    read = now;
    sent = find-changed q r.request (λ own. record own { progress = waits_after t time }) (λ x. and_false (x.request == q)) t.reads now s.reads.apart found;
    from = refl;
    asked = refl;
  };
}

due-asks : (line : Line) (begun_at : ℕ) (written : List WrittenBatch) (now : ℕ) (t : Task) → IsSoundTask line t begun_at written → SendsAsks t (due_reads_sent now t)
due-asks line begun_at written now t s =
    let due : List Read = filter (λ r. is_due now r.progress) t.reads in
    on_if (λ (done : Sending Task). SendsAsks t done) (may_read t) (all_sent_again (in_order_of_request due) t) (quiet t)
    (λ may. again-asks line begun_at written (in_order_of_request due) t may s
    (all-ordered (MatchesTask t) due [] (All-filter (MatchesTask t) (λ r. is_due now r.progress) t.reads (own-match line begun_at written t s)) tt))
    (λ maynt. quiet-asks t)

ticked-asks : (line : Line) (begun_at : ℕ) (written : List WrittenBatch) (now : ℕ) (t : Task) → IsSoundTask line t begun_at written → SendsAsks t (ticked now t)
ticked-asks line begun_at written now t s =
    let after : Task = (due_reads_sent now t).next in
    let after_sound : IsSoundTask line after begun_at written = due_reads-sound line begun_at written t now s in
    let writes : Task = due_writes_sent now after in
    let filled : SendsAsks writes (filled_if_active writes) = filled-asks line begun_at written writes (due_writes-sound line begun_at written after now after_sound) in
    then-asks t (due_reads_sent now t) (λ u. filled_if_active (due_writes_sent now u)) (due-asks line begun_at written now t s)
    (after-asks after writes (filled_if_active writes) (continues-id after writes refl refl refl refl refl) filled)

pub asks-on : (line : Line) (begun_at : ℕ) (written : List WrittenBatch) (t : Task) → IsGoodTask line t begun_at written → GoesOnAsking line t
asks-on line begun_at written t good = record {
  replies = λ r request from global ops true_reply.
      after-asks t (after_reply t r global ops) (filled_if_active (after_reply t r global ops)) (reply-continues line begun_at written t r global ops good.sound)
      (filled-asks line begun_at written (after_reply t r global ops) (reply-sound line begun_at written t r request from global ops true_reply good.sound));
  ticked = λ now. ticked-asks line begun_at written now t good.sound;
  write_ended = λ number w sent.
      let left : Task = record t { retry = 0; writes = without_write w.number t.writes } in
      after-asks t left (filled_if_active left) (continues-id t left refl refl refl refl refl)
      (filled-asks line begun_at (written ++ record { epoch = t.epoch; batch = w.batch } ∷ []) left (ended-sound line begun_at written t number w sent good.sound));
  read_lost = λ now r. read_lost-continues line begun_at written t now r good.sound;
  write_lost = λ now w. continues-id t (write_lost t now w) refl refl refl refl refl;
}
