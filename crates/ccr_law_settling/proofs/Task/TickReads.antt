-- Reads that are due, when they are sent again.
use Rattle.std.specs.List.{AllByRecursion, fold, list_any}
use Rattle.std.specs.Str.{bytes_eq}
use Rattle.std.specs.Prelude.{find, filter}
use Rattle.std.proofs.Common.{◌≡◌, ℕ, ◌+◌, ◌≤◌, ◌==◌, ◌||◌, Bool, true, false, nat_lt, if◌then◌else◌, Some, List, [], ◌∷◌, length, map, refl, ap, ◌∙◌, arith}
use Rattle.ccr_wire.specs.Message.{Frame}
use Rattle.ccr_model.specs.Requests.{Progress, is_due, Sending}
use Rattle.ccr_model.specs.Tasks.{Task, Read, changed_read, is_held, sent_again, all_sent_again, by_request, in_order_of_request}
use Rattle.ccr_model.specs.Leaders.{Session}
use Rattle.ccr_law_base.proofs.Cases.{on_if}
use Rattle.ccr_law_base.proofs.Lists.{some_equal, All-changed_read}
use Rattle.ccr_law_messages.proofs.ReadLists.{has_request, again, AreListed, rest-listed}
use Rattle.ccr_law_settling.specs.Measure.{total, is_idle_content, weight_of_frame}
use Rattle.ccr_law_settling.proofs.Measure.Flights.{IsPlain}
use Rattle.ccr_law_settling.proofs.Measure.LostRequests.{read_weight, total_changed_read}
use Rattle.ccr_law_settling.proofs.Measure.Due.{due_weighs}
use Rattle.ccr_law_tasks.proofs.ReadLists.{length-changed}

-- ---- lists of reads

-- where the first read of a number is changed, the sum changes by what this one does
pub total_at_first : (amount : Read → ℕ) (change : Read → Read) (r : Read) (reads : List Read) → find (has_request r.request) reads ≡ Some r
    → total amount (changed_read r.request change reads) + amount r ≡ total amount reads + amount (change r)
total_at_first amount change r [] found = cc
total_at_first amount change r (x ∷ reads) found =
    (elim (x.request == r.request) as (λ b. (if b then Some x else find (has_request r.request) reads) ≡ Some r
    → total amount (if b then change x ∷ reads else x ∷ changed_read r.request change reads) + amount r ≡ amount x + total amount reads + amount (change r)) [
      | true ↦ λ same.
          (let old : amount x ≡ amount r = ap amount (some_equal x r same) in
          let new : amount (change x) ≡ amount (change r) = ap (λ (y : Read). amount (change y)) (some_equal x r same) in
          omega arith)
      | false ↦ λ later.
          (let rest : total amount (changed_read r.request change reads) + amount r ≡ total amount reads + amount (change r) = total_at_first amount change r reads later in omega arith)
    ]) found

-- in the order of their numbers there are as many
one_more : (r : Read) (reads : List Read) → length (by_request r reads) ≡ length reads + 1
one_more r [] = refl
one_more r (x ∷ reads) =
    on_if (λ (xs : List Read). length xs ≡ length (x ∷ reads) + 1) (nat_lt r.request x.request) (r ∷ x ∷ reads) (x ∷ by_request r reads)
    (λ is. omega arith) (λ isnt. (let rest : length (by_request r reads) ≡ length reads + 1 = one_more r reads in omega arith))

all_more : (done reads : List Read) → length (fold {A = Read} {B = List Read} (λ rest r. by_request r rest) done reads) ≡ length done + length reads
all_more done [] = omega arith
all_more done (r ∷ reads) =
    let one : length (by_request r done) ≡ length done + 1 = one_more r done in
    let rest : length (fold {A = Read} {B = List Read} (λ rest r. by_request r rest) (by_request r done) reads) ≡ length (by_request r done) + length reads = all_more (by_request r done) reads in
    omega arith

pub as_many_in_order : (reads : List Read) → length (in_order_of_request reads) ≡ length reads
as_many_in_order reads = all_more [] reads ∙ (omega arith)

-- where something is due of the reads, some of them are
pub some_due : (now : ℕ) (reads : List Read) → list_any (is_due now) (map {A = Read} {B = Progress} (λ r. r.progress) reads) ≡ true
    → 1 ≤ length (filter (λ (r : Read). is_due now r.progress) reads)
some_due now [] any = cc
some_due now (x ∷ reads) any =
    (elim (is_due now x.progress) as (λ b. (b || list_any (is_due now) (map {A = Read} {B = Progress} (λ r. r.progress) reads)) ≡ true
    → 1 ≤ length (if b then x ∷ filter (λ (r : Read). is_due now r.progress) reads else filter (λ (r : Read). is_due now r.progress) reads)) [
      | true ↦ λ is. omega arith
      | false ↦ λ later. some_due now reads later
    ]) any

-- ---- all of them

abbrev pub NoneHeld : List Read → Type 0
NoneHeld reads = AllByRecursion (λ (r : Read). is_held r ≡ false) reads

-- so many reads are sent again: of the task only the reads changed, not the numbers that they ask for, and they weigh less by what the messages
-- weigh, and by one more for each of them
pub record Repeats (sessions : List Session) (may : ℕ → Bool) (now : ℕ) (t : Task) (many : ℕ) (done : Sending Task) : Type 0 where
  pub reads : List Read
  pub next_request : ℕ
  pub is : done.next ≡ record t { next_request = next_request; reads = reads }
  pub plain : AllByRecursion (IsPlain sessions) done.sent
  pub busy : AllByRecursion (λ (m : Frame). is_idle_content m.content ≡ false) done.sent
  pub as_many : length reads ≡ length t.reads
  pub same : (amount : ℕ → ℕ → ℕ) → total (λ (r : Read). amount r.from r.to) reads ≡ total (λ (r : Read). amount r.from r.to) t.reads
  pub held : NoneHeld t.reads → NoneHeld reads
  pub weight : total weight_of_frame done.sent + total (read_weight may now) reads + many ≤ total (read_weight may now) t.reads

one_weight : (r : Read) (due : List Read) (sent reads changed new one old : ℕ) → sent + reads + length due ≤ changed → changed + one ≡ old + new → new ≡ 0 → one ≡ 4
    → 3 + sent + reads + length (r ∷ due) ≤ old
one_weight r due sent reads changed new one old a b c d = omega arith

repeats_then : (sessions : List Session) (may : ℕ → Bool) (now : ℕ) (r : Read) (due : List Read) (t : Task)
    → find (has_request r.request) t.reads ≡ Some r → is_due now r.progress ≡ true → may t.next_request ≡ true
    → Repeats sessions may now (sent_again t r).next (length due) (all_sent_again due (sent_again t r).next)
    → Repeats sessions may now t (length (r ∷ due)) (all_sent_again (r ∷ due) t)
repeats_then sessions may now r due t first is_due_now comes rest = record {
  reads = rest.reads;
  next_request = rest.next_request;
  is = rest.is;
  plain = (record { opens = refl; gone = refl }, rest.plain);
  busy = (refl, rest.busy);
  as_many = rest.as_many ∙ length-changed r.request (again t.next_request) t.reads;
  same = λ amount. rest.same amount ∙ total_changed_read (λ (x : Read). amount x.from x.to) r.request (again t.next_request) (λ x. refl) t.reads;
  held = λ none. rest.held (All-changed_read (λ (x : Read). is_held x ≡ false) r.request (again t.next_request) (λ x isnt. refl) t.reads none);
  weight = one_weight r due _ _ _ _ _ _ rest.weight (total_at_first (read_weight may now) (again t.next_request) r t.reads first)
      (rw comes refl) (due_weighs (may r.request) now r.progress is_due_now);
}

pub again_repeats : (sessions : List Session) (may : ℕ → Bool) (now : ℕ) (due : List Read) (t : Task) → AreListed t.next_request t.reads due
    → AllByRecursion (λ (r : Read). is_due now r.progress ≡ true) due → AllByRecursion (λ (m : Frame). may m.request ≡ true) (all_sent_again due t).sent
    → Repeats sessions may now t (length due) (all_sent_again due t)
again_repeats sessions may now [] t listed dues come = record {
  reads = t.reads;
  next_request = t.next_request;
  is = refl;
  plain = tt;
  busy = tt;
  as_many = refl;
  same = λ amount. refl;
  held = λ none. none;
  weight = omega arith;
}
again_repeats sessions may now (r ∷ due) t listed dues come =
    repeats_then sessions may now r due t listed.there.0 dues.0 come.0
    (again_repeats sessions may now due (sent_again t r).next (rest-listed t.next_request t.reads r due listed) dues.1 come.1)

-- their messages carry the follower's name
pub again_named : (uuid : List ℕ) (due : List Read) (t : Task) → bytes_eq t.follower uuid ≡ true
    → AllByRecursion (λ (m : Frame). bytes_eq m.follower uuid ≡ true) (all_sent_again due t).sent
again_named uuid [] t named = tt
again_named uuid (r ∷ due) t named = (named, again_named uuid due (sent_again t r).next named)
