-- Lemmas on the lists of a task's reads and of its writes: where one is changed, ends or is found.
use Rattle.std.specs.Prelude.{◌==◌}
use Rattle.std.specs.List.{AllByRecursion, filter, find, count_by}
use Rattle.std.proofs.Common.{◌≡◌, ℕ, ◌+◌, ◌-◌, ◌≤◌, ◌<◌, Bool, true, false, if◌then◌else◌, ◌&&◌, List, [], ◌∷◌, ◌++◌, length, Option, Some, refl, ap, subst, arith}
use Rattle.std.proofs.lemmas.Bool.Decides.{nat_tests}
use Rattle.ccr_model.specs.Requests.{is_sent}
use Rattle.ccr_model.specs.Tasks.{Read, changed_read, without_read, is_held}
use Rattle.ccr_law_base.proofs.Tests.{itself}
use Rattle.ccr_law_base.proofs.Cases.{on_if}
use Rattle.ccr_law_tasks.proofs.Sums.{one_if, count-cons, count-append, AreApart, apart-rest, apart-other}

-- ---- reads

pub length-changed : (q : ℕ) (f : Read → Read) (reads : List Read) → length (changed_read q f reads) ≡ length reads
length-changed q f [] = refl
length-changed q f (r ∷ reads) =
    let rest : length (changed_read q f reads) ≡ length reads = length-changed q f reads in
    on_if (λ (rs : List Read). length rs ≡ length (r ∷ reads)) (r.request == q) (f r ∷ reads) (r ∷ changed_read q f reads) (λ is. omega arith) (λ isnt. omega arith)

-- a change that adds at most so much to what counts adds at most so much to the count
pub count-changed-le : (p : Read → Bool) (q more : ℕ) (f : Read → Read) → ((r : Read) → one_if (p (f r)) ≤ one_if (p r) + more)
    → (reads : List Read) → count_by p (changed_read q f reads) ≤ count_by p reads + more
count-changed-le p q more f each [] = omega arith
count-changed-le p q more f each (r ∷ reads) =
    let rest : count_by p (changed_read q f reads) ≤ count_by p reads + more = count-changed-le p q more f each reads in
    let all : count_by p (r ∷ reads) ≡ one_if (p r) + count_by p reads = count-cons p r reads in
    let here : count_by p (f r ∷ reads) ≡ one_if (p (f r)) + count_by p reads = count-cons p (f r) reads in
    let there : count_by p (r ∷ changed_read q f reads) ≡ one_if (p r) + count_by p (changed_read q f reads) = count-cons p r (changed_read q f reads) in
    let one : one_if (p (f r)) ≤ one_if (p r) + more = each r in
    on_if (λ (rs : List Read). count_by p rs ≤ count_by p (r ∷ reads) + more) (r.request == q) (f r ∷ reads) (r ∷ changed_read q f reads) (λ is. omega arith) (λ isnt. omega arith)

pub count-changed-same : (p : Read → Bool) (q : ℕ) (f : Read → Read) → ((r : Read) → p (f r) ≡ p r) → (reads : List Read) → count_by p (changed_read q f reads) ≡ count_by p reads
count-changed-same p q f each [] = refl
count-changed-same p q f each (r ∷ reads) =
    let rest : count_by p (changed_read q f reads) ≡ count_by p reads = count-changed-same p q f each reads in
    let all : count_by p (r ∷ reads) ≡ one_if (p r) + count_by p reads = count-cons p r reads in
    let here : count_by p (f r ∷ reads) ≡ one_if (p (f r)) + count_by p reads = count-cons p (f r) reads in
    let there : count_by p (r ∷ changed_read q f reads) ≡ one_if (p r) + count_by p (changed_read q f reads) = count-cons p r (changed_read q f reads) in
    let one : one_if (p (f r)) ≡ one_if (p r) = ap one_if (each r) in
    on_if (λ (rs : List Read). count_by p rs ≡ count_by p (r ∷ reads)) (r.request == q) (f r ∷ reads) (r ∷ changed_read q f reads) (λ is. omega arith) (λ isnt. omega arith)

-- a read that gets another request number no longer has the one that it had
pub count-renumbered : (q : ℕ) (f : Read → Read) → ((r : Read) → ((f r).request == q) ≡ false)
    → (reads : List Read) → count_by (λ r. r.request == q) (changed_read q f reads) ≡ count_by (λ r. r.request == q) reads - 1
count-renumbered q f each [] = omega arith
count-renumbered q f each (r ∷ reads) =
    let rest : count_by {X = Read} (λ r. r.request == q) (changed_read q f reads) ≡ count_by {X = Read} (λ r. r.request == q) reads - 1 = count-renumbered q f each reads in
    let all : count_by {X = Read} (λ r. r.request == q) (r ∷ reads) ≡ one_if (r.request == q) + count_by {X = Read} (λ r. r.request == q) reads = count-cons {X = Read} (λ r. r.request == q) r reads in
    let here : count_by {X = Read} (λ r. r.request == q) (f r ∷ reads) ≡ one_if ((f r).request == q) + count_by {X = Read} (λ r. r.request == q) reads = count-cons {X = Read} (λ r. r.request == q) (f r) reads in
    let there : count_by {X = Read} (λ r. r.request == q) (r ∷ changed_read q f reads) ≡ one_if (r.request == q) + count_by {X = Read} (λ r. r.request == q) (changed_read q f reads) = count-cons {X = Read} (λ r. r.request == q) r (changed_read q f reads) in
    let one : one_if ((f r).request == q) ≡ 0 = ap one_if (each r) in
    on_if (λ (rs : List Read). count_by {X = Read} (λ r. r.request == q) rs ≡ count_by {X = Read} (λ r. r.request == q) (r ∷ reads) - 1) (r.request == q) (f r ∷ reads) (r ∷ changed_read q f reads)
    (λ is. let now : one_if (r.request == q) ≡ 1 = ap one_if is in omega arith)
    (λ isnt. let now : one_if (r.request == q) ≡ 0 = ap one_if isnt in omega arith)

-- no read has a request number that was never drawn
pub count-undrawn : (P : Read → Type 0) (next : ℕ) → ((r : Read) → P r → r.request < next) → (reads : List Read) → AllByRecursion P reads
    → count_by (λ r. r.request == next) reads ≡ 0
count-undrawn P next low [] a = refl
count-undrawn P next low (r ∷ reads) a =
    let rest : count_by {X = Read} (λ r. r.request == next) reads ≡ 0 = count-undrawn P next low reads a.1 in
    let all : count_by {X = Read} (λ r. r.request == next) (r ∷ reads) ≡ one_if (r.request == next) + count_by {X = Read} (λ r. r.request == next) reads = count-cons {X = Read} (λ r. r.request == next) r reads in
    let below : r.request < next = low r a.0 in
    let none : one_if (r.request == next) ≡ 0 = grind (arith, nat_tests) in
    omega arith

-- ---- a read among others

-- the read stands between others, and is the first of its request number
pub record IsPlaced (r : Read) (reads : List Read) : Type 0 where
  pub before : List Read
  pub after : List Read
  pub is : reads ≡ before ++ r ∷ after
  pub changed : (f : Read → Read) → changed_read r.request f reads ≡ before ++ f r ∷ after
  pub without : without_read r.request reads ≡ before ++ after

placed-first : (r : Read) (reads : List Read) → IsPlaced r (r ∷ reads)
placed-first r reads = record {
  before = [];
  after = reads;
  is = refl;
  changed = λ f. ap (λ (b : Bool). if b then f r ∷ reads else r ∷ changed_read r.request f reads) (itself r.request);
  without = ap (λ (b : Bool). if b then reads else r ∷ without_read r.request reads) (itself r.request);
}

placed-later : (r x : Read) (reads : List Read) → (x.request == r.request) ≡ false → IsPlaced r reads → IsPlaced r (x ∷ reads)
placed-later r x reads other p = record {
  before = x ∷ p.before;
  after = p.after;
  is = ap (λ (rs : List Read). x ∷ rs) p.is;
  changed = λ f.
      let first : (if x.request == r.request then f x ∷ reads else x ∷ changed_read r.request f reads) ≡ x ∷ changed_read r.request f reads = ap (λ (b : Bool). if b then f x ∷ reads else x ∷ changed_read r.request f reads) other in
      let rest : x ∷ changed_read r.request f reads ≡ x ∷ (p.before ++ f r ∷ p.after) = ap (λ (rs : List Read). x ∷ rs) (p.changed f) in
      (cc);
  without =
      let first : (if x.request == r.request then reads else x ∷ without_read r.request reads) ≡ x ∷ without_read r.request reads = ap (λ (b : Bool). if b then reads else x ∷ without_read r.request reads) other in
      let rest : x ∷ without_read r.request reads ≡ x ∷ (p.before ++ p.after) = ap (λ (rs : List Read). x ∷ rs) p.without in
      (cc);
}

-- the read that is found is the first of its number
pub placed : (request : ℕ) (reads : List Read) (r : Read) → AreApart (λ (y : Read). y.request) reads
    → find (λ r. (r.request == request) && is_sent r.progress) reads ≡ Some r → IsPlaced r reads
placed request [] r apart found = absurd (cc)
placed request (x ∷ reads) r apart found =
    on_if (λ (o : Option Read). o ≡ Some r → IsPlaced r (x ∷ reads)) ((x.request == request) && is_sent x.progress) (Some x) (find (λ r. (r.request == request) && is_sent r.progress) reads)
    (λ is now. let same : x ≡ r = cc in subst (λ (y : Read). IsPlaced y (x ∷ reads)) same (placed-first x reads))
    (λ isnt now.
    let p = placed request reads r (apart-rest (λ y. y.request) x reads apart) now in
    placed-later r x reads (apart-other (λ y. y.request) x r p.before p.after (subst (λ (rs : List Read). AreApart (λ y. y.request) (x ∷ rs)) p.is apart)) p)
    found

-- what is changed at a read that is placed
pub count-placed-changed : (p : Read → Bool) (r : Read) (reads : List Read) (f : Read → Read) → IsPlaced r reads
    → count_by p (changed_read r.request f reads) + one_if (p r) ≡ count_by p reads + one_if (p (f r))
count-placed-changed p r reads f at =
    let old : count_by p (at.before ++ r ∷ at.after) ≡ count_by p at.before + count_by p (r ∷ at.after) = count-append p at.before (r ∷ at.after) in
    let old_one : count_by p (r ∷ at.after) ≡ one_if (p r) + count_by p at.after = count-cons p r at.after in
    let new : count_by p (at.before ++ f r ∷ at.after) ≡ count_by p at.before + count_by p (f r ∷ at.after) = count-append p at.before (f r ∷ at.after) in
    let new_one : count_by p (f r ∷ at.after) ≡ one_if (p (f r)) + count_by p at.after = count-cons p (f r) at.after in
    let was : count_by p reads ≡ count_by p (at.before ++ r ∷ at.after) = ap (λ (rs : List Read). count_by p rs) at.is in
    let is : count_by p (changed_read r.request f reads) ≡ count_by p (at.before ++ f r ∷ at.after) = ap (λ (rs : List Read). count_by p rs) (at.changed f) in
    omega arith

pub count-placed-without : (p : Read → Bool) (r : Read) (reads : List Read) → IsPlaced r reads → count_by p (without_read r.request reads) + one_if (p r) ≡ count_by p reads
count-placed-without p r reads at =
    let old : count_by p (at.before ++ r ∷ at.after) ≡ count_by p at.before + count_by p (r ∷ at.after) = count-append p at.before (r ∷ at.after) in
    let old_one : count_by p (r ∷ at.after) ≡ one_if (p r) + count_by p at.after = count-cons p r at.after in
    let new : count_by p (at.before ++ at.after) ≡ count_by p at.before + count_by p at.after = count-append p at.before at.after in
    let was : count_by p reads ≡ count_by p (at.before ++ r ∷ at.after) = ap (λ (rs : List Read). count_by p rs) at.is in
    let is : count_by p (without_read r.request reads) ≡ count_by p (at.before ++ at.after) = ap (λ (rs : List Read). count_by p rs) at.without in
    omega arith

pub length-without : (q : ℕ) (reads : List Read) → length (without_read q reads) ≤ length reads
length-without q [] = omega arith
length-without q (r ∷ reads) =
    let rest : length (without_read q reads) ≤ length reads = length-without q reads in
    on_if (λ (rs : List Read). length rs ≤ length (r ∷ reads)) (r.request == q) reads (r ∷ without_read q reads) (λ is. omega arith) (λ isnt. omega arith)

-- ---- held reads

abbrev pub held_with : ℕ → Read → Bool
held_with k r = is_held r && (r.request == k)

-- where no held read has any number, none is held
pub none-held : (reads : List Read) → ((k : ℕ) → count_by (held_with k) reads ≡ 0) → AllByRecursion (λ (r : Read). is_held r ≡ false) reads
none-held [] none = tt
none-held (r ∷ reads) none =
    let here : (is_held r && (r.request == r.request)) ≡ false =
    (let all : count_by (held_with r.request) (r ∷ reads) ≡ one_if (held_with r.request r) + count_by (held_with r.request) reads = count-cons (held_with r.request) r reads in
    let zero_all : count_by (held_with r.request) (r ∷ reads) ≡ 0 = none r.request in
    let zero_one : one_if (held_with r.request r) ≡ 0 = omega arith in
    grind arith) in
    let same : (r.request == r.request) ≡ true = itself r.request in (
      grind arith,
      none-held reads (λ k.
          let all : count_by (held_with k) (r ∷ reads) ≡ one_if (held_with k r) + count_by (held_with k) reads = count-cons (held_with k) r reads in
          let zero_all : count_by (held_with k) (r ∷ reads) ≡ 0 = none k in
          omega arith),
    )

-- a held read is among the held ones
pub count-held : (k : ℕ) (reads : List Read) → count_by (held_with k) reads ≤ count_by (λ r. r.request == k) (filter is_held reads)
count-held k [] = omega arith
count-held k (r ∷ reads) =
    let all : count_by (held_with k) (r ∷ reads) ≡ one_if (held_with k r) + count_by (held_with k) reads = count-cons (held_with k) r reads in
    let rest : count_by (held_with k) reads ≤ count_by {X = Read} (λ r. r.request == k) (filter is_held reads) = count-held k reads in
    let more : count_by {X = Read} (λ r. r.request == k) (r ∷ filter is_held reads) ≡ one_if (r.request == k) + count_by {X = Read} (λ r. r.request == k) (filter is_held reads) = count-cons {X = Read} (λ r. r.request == k) r (filter is_held reads) in
    on_if (λ (rs : List Read). count_by (held_with k) (r ∷ reads) ≤ count_by {X = Read} (λ r. r.request == k) rs) (is_held r) (r ∷ filter is_held reads) (filter is_held reads)
    (λ is. let one : one_if (held_with k r) ≡ one_if (r.request == k) = ap (λ (b : Bool). one_if (b && (r.request == k))) is in omega arith)
    (λ isnt. let one : one_if (held_with k r) ≡ 0 = ap (λ (b : Bool). one_if (b && (r.request == k))) isnt in omega arith)

-- at most as many are held under a number as have it
pub count-held-le : (k : ℕ) (reads : List Read) → count_by (held_with k) reads ≤ count_by (λ r. r.request == k) reads
count-held-le k [] = omega arith
count-held-le k (r ∷ reads) =
    let all : count_by (held_with k) (r ∷ reads) ≡ one_if (held_with k r) + count_by (held_with k) reads = count-cons (held_with k) r reads in
    let rest : count_by (held_with k) reads ≤ count_by {X = Read} (λ r. r.request == k) reads = count-held-le k reads in
    let more : count_by {X = Read} (λ r. r.request == k) (r ∷ reads) ≡ one_if (r.request == k) + count_by {X = Read} (λ r. r.request == k) reads = count-cons {X = Read} (λ r. r.request == k) r reads in
    let one : one_if (held_with k r) ≤ one_if (r.request == k) = grind arith in
    omega arith
