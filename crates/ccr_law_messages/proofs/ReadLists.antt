-- The reads of a task by their request numbers: one is begun, changed, sent again or ends.
use Rattle.std.specs.Prelude.{find, filter, ◌==◌, ◌&&◌}
use Rattle.std.specs.List.{AllByRecursion, fold}
use Rattle.std.proofs.Common.{◌≡◌, ℕ, ◌+◌, ◌<◌, ◌≤◌, Bool, true, false, nat_lt, if◌then◌else◌, Option, Some, None, List, [], ◌∷◌, ◌++◌, refl, sym, ◌∙◌, ap, subst, arith, inl}
use Rattle.std.proofs.lemmas.Bool.Decides.{nat_tests}
use Rattle.ccr_model.specs.Requests.{is_sent, on_its_way}
use Rattle.ccr_model.specs.Tasks.{Read, changed_read, without_read, by_request, in_order_of_request}
use Rattle.ccr_law_messages.specs.Asking.{IsNoMore, ReadsApart}
use Rattle.ccr_law_messages.specs.Saying.{AreGoodReads}
use Rattle.ccr_law_messages.proofs.Finds.{find-skips, find-takes, find-none, find-back, find-push-other, no_more-cons, no_more-leaves, no_more-changes}
use Rattle.ccr_law_base.proofs.Lists.{All-weaker, All-every, All-push, All-both, All-filter, All-changed_read, All-without_read, All-by_request}
use Rattle.ccr_law_base.proofs.Cases.{on_if}
use Rattle.ccr_law_base.proofs.Tests.{and_first, itself}

-- the read was sent under this number
abbrev pub answers_to : ℕ → Read → Bool
answers_to n r = (r.request == n) && is_sent r.progress

abbrev pub has_request : ℕ → Read → Bool
has_request n r = r.request == n

pub none-answers : (n : ℕ) (r : Read) → (r.request == n) ≡ false → answers_to n r ≡ false
none-answers n r other = ap (λ (b : Bool). b && is_sent r.progress) other

-- what stands beside a read that answers to a number doesn't answer to it
alone : (n : ℕ) (r : Read) (reads : List Read) → AllByRecursion (λ (x : Read). (x.request == r.request) ≡ false) reads → answers_to n r ≡ true → find (answers_to n) reads ≡ None
alone n r reads apart is =
    let same : (r.request == n) ≡ true = and_first (r.request == n) (is_sent r.progress) is in
    find-none (answers_to n) reads (All-weaker (λ (x : Read). (x.request == r.request) ≡ false) (λ (x : Read). answers_to n x ≡ false)
    (λ x other. none-answers n x (grind (arith, nat_tests))) reads apart)

pub changed-less : (n q : ℕ) (f : Read → Read) → ((x : Read) → (x.request == q) ≡ true → answers_to n (f x) ≡ false) → (reads : List Read) → ReadsApart reads
    → IsNoMore (find (answers_to n) reads) (find (answers_to n) (changed_read q f reads))
changed-less n q f none [] apart = inl refl
changed-less n q f none (r ∷ reads) apart =
    on_if (λ (ys : List Read). IsNoMore (find (answers_to n) (r ∷ reads)) (find (answers_to n) ys)) (r.request == q) (f r ∷ reads) (r ∷ changed_read q f reads)
    (λ is. no_more-changes (answers_to n) r (f r) reads (none r is) (alone n r reads apart.0))
    (λ isnt. no_more-cons (answers_to n) r reads (changed_read q f reads) (changed-less n q f none reads apart.1))

pub without-less : (n q : ℕ) (reads : List Read) → ReadsApart reads → IsNoMore (find (answers_to n) reads) (find (answers_to n) (without_read q reads))
without-less n q [] apart = inl refl
without-less n q (r ∷ reads) apart =
    on_if (λ (ys : List Read). IsNoMore (find (answers_to n) (r ∷ reads)) (find (answers_to n) ys)) (r.request == q) reads (r ∷ without_read q reads)
    (λ is. no_more-leaves (answers_to n) r reads (alone n r reads apart.0))
    (λ isnt. no_more-cons (answers_to n) r reads (without_read q reads) (without-less n q reads apart.1))

pub push-less : (n next : ℕ) (r : Read) (reads : List Read) → n < next → r.request ≡ next → IsNoMore (find (answers_to n) reads) (find (answers_to n) (reads ++ r ∷ []))
push-less n next r reads low new = inl (find-push-other (answers_to n) reads r (none-answers n r (grind (arith, nat_tests))))

-- the one that is sent under the next number is found
pub push-found : (next : ℕ) (r : Read) (reads : List Read) → AllByRecursion (λ (x : Read). x.request < next) reads → answers_to next r ≡ true
    → find (answers_to next) (reads ++ r ∷ []) ≡ Some r
push-found next r reads low is =
    find-back (answers_to next) reads (r ∷ []) (All-weaker (λ (x : Read). x.request < next) (λ (x : Read). answers_to next x ≡ false) (λ x less. none-answers next x (grind (arith, nat_tests))) reads low)
    ∙ find-takes (answers_to next) r [] is

-- ---- what holds of each

-- the same numbers
changed-apart : (q : ℕ) (f : Read → Read) → ((r : Read) → (f r).request ≡ r.request) → (reads : List Read) → ReadsApart reads → ReadsApart (changed_read q f reads)
changed-apart q f same [] apart = tt
changed-apart q f same (r ∷ reads) apart =
    on_if ReadsApart (r.request == q) (f r ∷ reads) (r ∷ changed_read q f reads)
    (λ is. (subst (λ (m : ℕ). AllByRecursion (λ (x : Read). (x.request == m) ≡ false) reads) (sym (same r)) apart.0, apart.1))
    (λ isnt. (
      All-changed_read (λ (x : Read). (x.request == r.request) ≡ false) q f (λ x other. subst (λ (m : ℕ). (m == r.request) ≡ false) (sym (same x)) other) reads apart.0,
      changed-apart q f same reads apart.1,
    ))

without-apart : (q : ℕ) (reads : List Read) → ReadsApart reads → ReadsApart (without_read q reads)
without-apart q [] apart = tt
without-apart q (r ∷ reads) apart =
    on_if ReadsApart (r.request == q) reads (r ∷ without_read q reads) (λ is. apart.1)
    (λ isnt. (All-without_read (λ (x : Read). (x.request == r.request) ≡ false) q reads apart.0, without-apart q reads apart.1))

-- a number that was not drawn
renumbered-apart : (q next : ℕ) (f : Read → Read) → ((r : Read) → (f r).request ≡ next) → (reads : List Read) → AllByRecursion (λ (r : Read). r.request < next) reads → ReadsApart reads
    → ReadsApart (changed_read q f reads)
renumbered-apart q next f new [] low apart = tt
renumbered-apart q next f new (r ∷ reads) low apart =
    on_if ReadsApart (r.request == q) (f r ∷ reads) (r ∷ changed_read q f reads)
    (λ is. (
      subst (λ (m : ℕ). AllByRecursion (λ (x : Read). (x.request == m) ≡ false) reads) (sym (new r))
          (All-weaker (λ (x : Read). x.request < next) (λ (x : Read). (x.request == next) ≡ false) (λ x less. grind (arith, nat_tests)) reads low.1),
      apart.1,
    ))
    (λ isnt. (
      All-changed_read (λ (x : Read). (x.request == r.request) ≡ false) q f
          (λ x other. let less : r.request < next = low.0 in subst (λ (m : ℕ). (m == r.request) ≡ false) (sym (new x)) (grind (arith, nat_tests))) reads apart.0,
      renumbered-apart q next f new reads low.1 apart.1,
    ))

push-apart : (r : Read) (reads : List Read) → AllByRecursion (λ (x : Read). (r.request == x.request) ≡ false) reads → ReadsApart reads → ReadsApart (reads ++ r ∷ [])
push-apart r [] other apart = (tt, tt)
push-apart r (x ∷ reads) other apart = (All-push (λ (y : Read). (y.request == x.request) ≡ false) reads r apart.0 other.0, push-apart r reads other.1 apart.1)

-- ---- good reads

pub good-changed : (next q : ℕ) (f : Read → Read) → ((r : Read) → (f r).request ≡ r.request) → ((r : Read) → 1 ≤ r.asked → 1 ≤ (f r).asked) → (reads : List Read)
    → AreGoodReads next reads → AreGoodReads next (changed_read q f reads)
good-changed next q f same some reads good = record {
  drawn = All-changed_read (λ (r : Read). r.request < next) q f (λ r less. subst (λ (m : ℕ). m < next) (sym (same r)) less) reads good.drawn;
  some = All-changed_read (λ (r : Read). 1 ≤ r.asked) q f some reads good.some;
  apart = changed-apart q f same reads good.apart;
}

pub good-without : (next q : ℕ) (reads : List Read) → AreGoodReads next reads → AreGoodReads next (without_read q reads)
good-without next q reads good = record {
  drawn = All-without_read (λ (r : Read). r.request < next) q reads good.drawn;
  some = All-without_read (λ (r : Read). 1 ≤ r.asked) q reads good.some;
  apart = without-apart q reads good.apart;
}

pub good-later : (next : ℕ) (reads : List Read) → AreGoodReads next reads → AreGoodReads (next + 1) reads
good-later next reads good = record {
  drawn = All-weaker (λ (r : Read). r.request < next) (λ (r : Read). r.request < next + 1) (λ r less. omega arith) reads good.drawn;
  some = good.some;
  apart = good.apart;
}

pub good-push : (next : ℕ) (r : Read) (reads : List Read) → r.request ≡ next → 1 ≤ r.asked → AreGoodReads next reads → AreGoodReads (next + 1) (reads ++ r ∷ [])
good-push next r reads new some good = record {
  drawn = All-push (λ (x : Read). x.request < next + 1) reads r (good-later next reads good).drawn (omega arith);
  some = All-push (λ (x : Read). 1 ≤ x.asked) reads r good.some some;
  apart = push-apart r reads (All-weaker (λ (x : Read). x.request < next) (λ (x : Read). (r.request == x.request) ≡ false) (λ x less. grind (arith, nat_tests)) reads good.drawn) good.apart;
}

-- a read that is sent again
abbrev pub again : ℕ → Read → Read
again next own = record own { request = next; progress = on_its_way }

pub good-again : (next q : ℕ) (reads : List Read) → AreGoodReads next reads → AreGoodReads (next + 1) (changed_read q (again next) reads)
good-again next q reads good = record {
  drawn = All-changed_read (λ (r : Read). r.request < next + 1) q (again next) (λ r less. omega arith) reads (good-later next reads good).drawn;
  some = All-changed_read (λ (r : Read). 1 ≤ r.asked) q (again next) (λ r some. some) reads good.some;
  apart = renumbered-apart q next (again next) (λ r. refl) reads good.drawn good.apart;
}

-- ---- sent again

pub again-found : (next : ℕ) (r : Read) (reads : List Read) → AllByRecursion (λ (x : Read). x.request < next) reads → find (has_request r.request) reads ≡ Some r
    → find (answers_to next) (changed_read r.request (again next) reads) ≡ Some (again next r)
again-found next r [] low found = absurd cc
again-found next r (x ∷ reads) low found =
    on_if (λ (o : Option Read). o ≡ Some r → find (answers_to next) (changed_read r.request (again next) (x ∷ reads)) ≡ Some (again next r)) (x.request == r.request) (Some x) (find (has_request r.request) reads)
    (λ is at.
    let same : x ≡ r = cc in
    on_if (λ (ys : List Read). find (answers_to next) ys ≡ Some (again next r)) (x.request == r.request) (again next x ∷ reads) (x ∷ changed_read r.request (again next) reads)
    (λ here. find-takes (answers_to next) (again next x) reads (ap (λ (b : Bool). b && true) (itself next)) ∙ ap (λ (y : Read). Some (again next y)) same)
    (λ there. absurd cc))
    (λ isnt at.
    on_if (λ (ys : List Read). find (answers_to next) ys ≡ Some (again next r)) (x.request == r.request) (again next x ∷ reads) (x ∷ changed_read r.request (again next) reads)
    (λ here. absurd cc)
    (λ there.
    let less : x.request < next = low.0 in
    find-skips (answers_to next) x (changed_read r.request (again next) reads) (none-answers next x (grind (arith, nat_tests))) ∙ again-found next r reads low.1 at))
    found

-- another read is still the one of its number
pub others-found : (next q k : ℕ) (reads : List Read) → (q == k) ≡ false → k < next
    → find (has_request k) (changed_read q (again next) reads) ≡ find (has_request k) reads
others-found next q k [] other low = refl
others-found next q k (x ∷ reads) other low =
    on_if (λ (ys : List Read). find (has_request k) ys ≡ find (has_request k) (x ∷ reads)) (x.request == q) (again next x ∷ reads) (x ∷ changed_read q (again next) reads)
    (λ is. find-skips (has_request k) (again next x) reads (grind (arith, nat_tests)) ∙ sym (find-skips (has_request k) x reads (grind (arith, nat_tests))))
    (λ isnt. ap (λ (o : Option Read). if x.request == k then Some x else o) (others-found next q k reads other low))

-- reads that are to be sent again: each is the one of its number, and no two have one
pub record AreListed (next : ℕ) (reads rs : List Read) : Type 0 where
  pub there : AllByRecursion (λ (r : Read). find (has_request r.request) reads ≡ Some r) rs
  pub drawn : AllByRecursion (λ (r : Read). r.request < next) rs
  pub some : AllByRecursion (λ (r : Read). 1 ≤ r.asked) rs
  pub apart : ReadsApart rs

-- each read is the one of its number
all-there : (reads : List Read) → ReadsApart reads → AllByRecursion (λ (r : Read). find (has_request r.request) reads ≡ Some r) reads
all-there [] apart = tt
all-there (r ∷ reads) apart = (
  find-takes (has_request r.request) r reads (itself r.request),
  All-weaker (λ (x : Read). ((x.request == r.request) ≡ false) × (find (has_request x.request) reads ≡ Some x)) (λ (x : Read). find (has_request x.request) (r ∷ reads) ≡ Some x)
      (λ x both. let other : (x.request == r.request) ≡ false = both.0 in find-skips (has_request x.request) r reads (grind (arith, nat_tests)) ∙ both.1) reads
      (All-both (λ (x : Read). (x.request == r.request) ≡ false) (λ (x : Read). find (has_request x.request) reads ≡ Some x) reads apart.0 (all-there reads apart.1)),
)

pub all-listed : (next : ℕ) (reads : List Read) → AreGoodReads next reads → AreListed next reads reads
all-listed next reads good = record { there = all-there reads good.apart; drawn = good.drawn; some = good.some; apart = good.apart }

filter-apart : (test : Read → Bool) (reads : List Read) → ReadsApart reads → ReadsApart (filter test reads)
filter-apart test [] apart = tt
filter-apart test (r ∷ reads) apart =
    on_if ReadsApart (test r) (r ∷ filter test reads) (filter test reads)
    (λ is. (All-filter (λ (x : Read). (x.request == r.request) ≡ false) test reads apart.0, filter-apart test reads apart.1)) (λ isnt. filter-apart test reads apart.1)

pub filter-listed : (next : ℕ) (test : Read → Bool) (reads rs : List Read) → AreListed next reads rs → AreListed next reads (filter test rs)
filter-listed next test reads rs l = record {
  there = All-filter (λ (r : Read). find (has_request r.request) reads ≡ Some r) test rs l.there;
  drawn = All-filter (λ (r : Read). r.request < next) test rs l.drawn;
  some = All-filter (λ (r : Read). 1 ≤ r.asked) test rs l.some;
  apart = filter-apart test rs l.apart;
}

-- ---- in order of their numbers

apart-by_request : (r : Read) (rs : List Read) → AllByRecursion (λ (x : Read). (x.request == r.request) ≡ false) rs → ReadsApart rs → ReadsApart (by_request r rs)
apart-by_request r [] other apart = (tt, tt)
apart-by_request r (x ∷ rs) other apart =
    on_if ReadsApart (nat_lt r.request x.request) (r ∷ x ∷ rs) (x ∷ by_request r rs) (λ is. (other, apart))
    (λ isnt. (All-by_request (λ (y : Read). (y.request == x.request) ≡ false) r rs (let e : (x.request == r.request) ≡ false = other.0 in grind (arith, nat_tests)) apart.0, apart-by_request r rs other.1 apart.1))

All-folded : (P : Read → Type 0) (done rs : List Read) → AllByRecursion P done → AllByRecursion P rs → AllByRecursion P (fold {A = Read} {B = List Read} (λ rest r. by_request r rest) done rs)
All-folded P done [] a b = a
All-folded P done (r ∷ rs) a b = All-folded P (by_request r done) rs (All-by_request P r done b.0 a) b.1

apart-folded : (done rs : List Read) → ReadsApart done → ReadsApart rs → AllByRecursion (λ (y : Read). AllByRecursion (λ (x : Read). (x.request == y.request) ≡ false) done) rs
    → ReadsApart (fold {A = Read} {B = List Read} (λ rest r. by_request r rest) done rs)
apart-folded done [] a b cross = a
apart-folded done (r ∷ rs) a b cross =
    apart-folded (by_request r done) rs (apart-by_request r done cross.0 a) b.1
    (All-weaker (λ (y : Read). AllByRecursion (λ (x : Read). (x.request == y.request) ≡ false) done × ((y.request == r.request) ≡ false))
    (λ (y : Read). AllByRecursion (λ (x : Read). (x.request == y.request) ≡ false) (by_request r done))
    (λ y both. All-by_request (λ (x : Read). (x.request == y.request) ≡ false) r done (let e : (y.request == r.request) ≡ false = both.1 in grind (arith, nat_tests)) both.0) rs
    (All-both (λ (y : Read). AllByRecursion (λ (x : Read). (x.request == y.request) ≡ false) done) (λ (y : Read). (y.request == r.request) ≡ false) rs cross.1 b.0))

pub order-listed : (next : ℕ) (reads rs : List Read) → AreListed next reads rs → AreListed next reads (in_order_of_request rs)
order-listed next reads rs l = record {
  there = All-folded (λ (r : Read). find (has_request r.request) reads ≡ Some r) [] rs tt l.there;
  drawn = All-folded (λ (r : Read). r.request < next) [] rs tt l.drawn;
  some = All-folded (λ (r : Read). 1 ≤ r.asked) [] rs tt l.some;
  apart = apart-folded [] rs tt l.apart (All-every (λ (y : Read). Unit {0}) (λ y. tt) rs);
}

-- one of them is sent again
pub rest-listed : (next : ℕ) (reads : List Read) (r : Read) (rs : List Read) → AreListed next reads (r ∷ rs) → AreListed (next + 1) (changed_read r.request (again next) reads) rs
rest-listed next reads r rs l = record {
  there = All-weaker (λ (x : Read). ((x.request == r.request) ≡ false) × ((x.request < next) × (find (has_request x.request) reads ≡ Some x)))
      (λ (x : Read). find (has_request x.request) (changed_read r.request (again next) reads) ≡ Some x)
      (λ x all. let other : (x.request == r.request) ≡ false = all.0 in others-found next r.request x.request reads (grind (arith, nat_tests)) all.1.0 ∙ all.1.1) rs
      (All-both (λ (x : Read). (x.request == r.request) ≡ false) (λ (x : Read). (x.request < next) × (find (has_request x.request) reads ≡ Some x)) rs l.apart.0
      (All-both (λ (x : Read). x.request < next) (λ (x : Read). find (has_request x.request) reads ≡ Some x) rs l.drawn.1 l.there.1));
  drawn = All-weaker (λ (x : Read). x.request < next) (λ (x : Read). x.request < next + 1) (λ x less. omega arith) rs l.drawn.1;
  some = l.some.1;
  apart = l.apart.1;
}
