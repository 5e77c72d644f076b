-- Lemmas on the list of a task's writes.
use Rattle.std.specs.Prelude.{◌==◌}
use Rattle.std.specs.List.{AllByRecursion, filter, find, count_by, flat_map}
use Rattle.std.proofs.Common.{◌≡◌, ◌∙◌, ℕ, ◌+◌, ◌≤◌, ◌<◌, Bool, true, false, if◌then◌else◌, ◌&&◌, List, [], ◌∷◌, ◌++◌, length, map, append_assoc, Option, Some, refl, ap, subst, arith}
use Rattle.std.proofs.lemmas.Bool.Decides.{nat_tests}
use Rattle.std.proofs.lemmas.List.{append-nil}
use Rattle.std.proofs.lemmas.List.Concat.{flat_map-append}
use Rattle.ccr_op.specs.Operation.{Operation}
use Rattle.ccr_model.specs.Requests.{is_sent}
use Rattle.ccr_model.specs.Tasks.{Write, changed_write, without_write}
use Rattle.ccr_model.specs.TaskFacts.{batches_of, times_in, written_in}
use Rattle.ccr_model.specs.Past.{WrittenBatch}
use Rattle.ccr_law_base.proofs.Tests.{itself}
use Rattle.ccr_law_base.proofs.Cases.{on_if}
use Rattle.ccr_law_base.proofs.Lists.{All-append, All-append_back, All-append_front}
use Rattle.ccr_law_tasks.proofs.Sums.{one_if, count-cons, count-append, AreApart, apart-rest, apart-other}

-- ---- a change that leaves numbers and batches

-- numbers and batches are the same
pub record KeepsWrite (f : Write → Write) : Type 0 where
  pub number : (w : Write) → (f w).number ≡ w.number
  pub batch : (w : Write) → (f w).batch ≡ w.batch

pub length-changed_write : (q : ℕ) (f : Write → Write) (writes : List Write) → length (changed_write q f writes) ≡ length writes
length-changed_write q f [] = refl
length-changed_write q f (w ∷ writes) =
    let rest : length (changed_write q f writes) ≡ length writes = length-changed_write q f writes in
    on_if (λ (ws : List Write). length ws ≡ length (w ∷ writes)) (w.number == q) (f w ∷ writes) (w ∷ changed_write q f writes) (λ is. omega arith) (λ isnt. omega arith)

pub all-changed_write : (P : Write → Type 0) (q : ℕ) (f : Write → Write) → ((w : Write) → P w → P (f w)) → (writes : List Write) → AllByRecursion P writes → AllByRecursion P (changed_write q f writes)
all-changed_write P q f keeps [] a = tt
all-changed_write P q f keeps (w ∷ writes) a =
    on_if (λ (ws : List Write). AllByRecursion P ws) (w.number == q) (f w ∷ writes) (w ∷ changed_write q f writes) (λ is. (keeps w a.0, a.1)) (λ isnt. (a.0, all-changed_write P q f keeps writes a.1))

pub count-changed_write : (k q : ℕ) (f : Write → Write) → KeepsWrite f → (writes : List Write)
    → count_by (λ (w : Write). w.number == k) (changed_write q f writes) ≡ count_by (λ (w : Write). w.number == k) writes
count-changed_write k q f keeps [] = refl
count-changed_write k q f keeps (w ∷ writes) =
    let rest : count_by {X = Write} (λ w. w.number == k) (changed_write q f writes) ≡ count_by {X = Write} (λ w. w.number == k) writes = count-changed_write k q f keeps writes in
    let all : count_by {X = Write} (λ w. w.number == k) (w ∷ writes) ≡ one_if (w.number == k) + count_by {X = Write} (λ w. w.number == k) writes = count-cons {X = Write} (λ w. w.number == k) w writes in
    let here : count_by {X = Write} (λ w. w.number == k) (f w ∷ writes) ≡ one_if ((f w).number == k) + count_by {X = Write} (λ w. w.number == k) writes = count-cons {X = Write} (λ w. w.number == k) (f w) writes in
    let there : count_by {X = Write} (λ w. w.number == k) (w ∷ changed_write q f writes) ≡ one_if (w.number == k) + count_by {X = Write} (λ w. w.number == k) (changed_write q f writes) = count-cons {X = Write} (λ w. w.number == k) w (changed_write q f writes) in
    let one : one_if ((f w).number == k) ≡ one_if (w.number == k) = ap (λ (n : ℕ). one_if (n == k)) (keeps.number w) in
    on_if (λ (ws : List Write). count_by {X = Write} (λ w. w.number == k) ws ≡ count_by {X = Write} (λ w. w.number == k) (w ∷ writes)) (w.number == q) (f w ∷ writes) (w ∷ changed_write q f writes) (λ is. omega arith) (λ isnt. omega arith)

pub batches-changed_write : (q : ℕ) (f : Write → Write) → KeepsWrite f → (writes : List Write) → batches_of (changed_write q f writes) ≡ batches_of writes
batches-changed_write q f keeps [] = refl
batches-changed_write q f keeps (w ∷ writes) =
    on_if (λ (ws : List Write). batches_of ws ≡ batches_of (w ∷ writes)) (w.number == q) (f w ∷ writes) (w ∷ changed_write q f writes)
    (λ is. ap (λ (ops : List Operation). ops ++ batches_of writes) (keeps.batch w))
    (λ isnt. ap (λ (ops : List Operation). w.batch ++ ops) (batches-changed_write q f keeps writes))

pub length-mapped : (f : Write → Write) (writes : List Write) → length (map f writes) ≡ length writes
length-mapped f [] = refl
length-mapped f (w ∷ writes) = let rest : length (map f writes) ≡ length writes = length-mapped f writes in omega arith

pub all-mapped : (P : Write → Type 0) (f : Write → Write) → ((w : Write) → P w → P (f w)) → (writes : List Write) → AllByRecursion P writes → AllByRecursion P (map f writes)
all-mapped P f keeps [] a = tt
all-mapped P f keeps (w ∷ writes) a = (keeps w a.0, all-mapped P f keeps writes a.1)

pub count-mapped : (k : ℕ) (f : Write → Write) → KeepsWrite f → (writes : List Write)
    → count_by (λ (w : Write). w.number == k) (map f writes) ≡ count_by (λ (w : Write). w.number == k) writes
count-mapped k f keeps [] = refl
count-mapped k f keeps (w ∷ writes) =
    let rest : count_by {X = Write} (λ w. w.number == k) (map f writes) ≡ count_by {X = Write} (λ w. w.number == k) writes = count-mapped k f keeps writes in
    let all : count_by {X = Write} (λ w. w.number == k) (w ∷ writes) ≡ one_if (w.number == k) + count_by {X = Write} (λ w. w.number == k) writes = count-cons {X = Write} (λ w. w.number == k) w writes in
    let here : count_by {X = Write} (λ w. w.number == k) (f w ∷ map f writes) ≡ one_if ((f w).number == k) + count_by {X = Write} (λ w. w.number == k) (map f writes) = count-cons {X = Write} (λ w. w.number == k) (f w) (map f writes) in
    let one : one_if ((f w).number == k) ≡ one_if (w.number == k) = ap (λ (n : ℕ). one_if (n == k)) (keeps.number w) in
    omega arith

pub batches-mapped : (f : Write → Write) → KeepsWrite f → (writes : List Write) → batches_of (map f writes) ≡ batches_of writes
batches-mapped f keeps [] = refl
batches-mapped f keeps (w ∷ writes) =
    let first : (f w).batch ≡ w.batch = keeps.batch w in
    let rest : batches_of (map f writes) ≡ batches_of writes = batches-mapped f keeps writes in
    (cc)

-- ---- one more write

pub batches-more : (writes : List Write) (w : Write) → batches_of (writes ++ w ∷ []) ≡ batches_of writes ++ w.batch
batches-more [] w = append-nil w.batch
batches-more (x ∷ writes) w =
    let rest : batches_of (writes ++ w ∷ []) ≡ batches_of writes ++ w.batch = batches-more writes w in
    rw rest (rw append_assoc)

-- no write has a number that was never given
pub count-ungiven : (next : ℕ) (writes : List Write) → AllByRecursion (λ (w : Write). w.number < next) writes → count_by (λ (w : Write). w.number == next) writes ≡ 0
count-ungiven next [] a = refl
count-ungiven next (w ∷ writes) a =
    let rest : count_by {X = Write} (λ w. w.number == next) writes ≡ 0 = count-ungiven next writes a.1 in
    let all : count_by {X = Write} (λ w. w.number == next) (w ∷ writes) ≡ one_if (w.number == next) + count_by {X = Write} (λ w. w.number == next) writes = count-cons {X = Write} (λ w. w.number == next) w writes in
    let below : w.number < next = a.0 in
    let none : one_if (w.number == next) ≡ 0 = grind (arith, nat_tests) in
    omega arith

-- ---- a write among others

-- the write stands between others, and is the first of its number
pub record IsWritePlaced (w : Write) (writes : List Write) : Type 0 where
  pub before : List Write
  pub after : List Write
  pub is : writes ≡ before ++ w ∷ after
  pub without : without_write w.number writes ≡ before ++ after

placed-first : (w : Write) (writes : List Write) → IsWritePlaced w (w ∷ writes)
placed-first w writes = record {
  before = [];
  after = writes;
  is = refl;
  without = ap (λ (b : Bool). if b then writes else w ∷ without_write w.number writes) (itself w.number);
}

placed-later : (w x : Write) (writes : List Write) → (x.number == w.number) ≡ false → IsWritePlaced w writes → IsWritePlaced w (x ∷ writes)
placed-later w x writes other p = record {
  before = x ∷ p.before;
  after = p.after;
  is = ap (λ (ws : List Write). x ∷ ws) p.is;
  without =
      let first : (if x.number == w.number then writes else x ∷ without_write w.number writes) ≡ x ∷ without_write w.number writes = ap (λ (b : Bool). if b then writes else x ∷ without_write w.number writes) other in
      let rest : x ∷ without_write w.number writes ≡ x ∷ (p.before ++ p.after) = ap (λ (ws : List Write). x ∷ ws) p.without in
      (cc);
}

-- the write that is found is the first of its number
pub write-placed : (number : ℕ) (writes : List Write) (w : Write) → AreApart (λ (y : Write). y.number) writes
    → find (λ w. (w.number == number) && is_sent w.progress) writes ≡ Some w → IsWritePlaced w writes
write-placed number [] w apart found = absurd (cc)
write-placed number (x ∷ writes) w apart found =
    on_if (λ (o : Option Write). o ≡ Some w → IsWritePlaced w (x ∷ writes)) ((x.number == number) && is_sent x.progress) (Some x) (find (λ w. (w.number == number) && is_sent w.progress) writes)
    (λ is now. let same : x ≡ w = cc in subst (λ (y : Write). IsWritePlaced y (x ∷ writes)) same (placed-first x writes))
    (λ isnt now.
    let p = write-placed number writes w (apart-rest (λ y. y.number) x writes apart) now in
    placed-later w x writes (apart-other (λ y. y.number) x w p.before p.after (subst (λ (ws : List Write). AreApart (λ y. y.number) (x ∷ ws)) p.is apart)) p)
    found

pub times-without : (n : ℕ) (w : Write) (writes : List Write) → IsWritePlaced w writes
    → times_in n (batches_of (without_write w.number writes)) + times_in n w.batch ≡ times_in n (batches_of writes)
times-without n w writes at =
    let whole : batches_of (at.before ++ w ∷ at.after) ≡ batches_of at.before ++ (w.batch ++ batches_of at.after) = flat_map-append {X = Write} {A = Operation} (λ w. w.batch) at.before (w ∷ at.after) in
    let left : batches_of (at.before ++ at.after) ≡ batches_of at.before ++ batches_of at.after = flat_map-append {X = Write} {A = Operation} (λ w. w.batch) at.before at.after in
    let was : batches_of writes ≡ batches_of (at.before ++ w ∷ at.after) = ap batches_of at.is in
    let is : batches_of (without_write w.number writes) ≡ batches_of (at.before ++ at.after) = ap batches_of at.without in
    let a : times_in n (batches_of writes) ≡ times_in n (batches_of at.before ++ (w.batch ++ batches_of at.after)) = ap (times_in n) (was ∙ whole) in
    let b : times_in n (batches_of at.before ++ (w.batch ++ batches_of at.after)) ≡ times_in n (batches_of at.before) + times_in n (w.batch ++ batches_of at.after) = count-append {X = Operation} (λ op. op.seq == n) (batches_of at.before) (w.batch ++ batches_of at.after) in
    let c : times_in n (w.batch ++ batches_of at.after) ≡ times_in n w.batch + times_in n (batches_of at.after) = count-append {X = Operation} (λ op. op.seq == n) w.batch (batches_of at.after) in
    let d : times_in n (batches_of (without_write w.number writes)) ≡ times_in n (batches_of at.before ++ batches_of at.after) = ap (times_in n) (is ∙ left) in
    let e : times_in n (batches_of at.before ++ batches_of at.after) ≡ times_in n (batches_of at.before) + times_in n (batches_of at.after) = count-append {X = Operation} (λ op. op.seq == n) (batches_of at.before) (batches_of at.after) in
    omega arith

pub all-without_write : (P : Write → Type 0) (q : ℕ) (writes : List Write) → AllByRecursion P writes → AllByRecursion P (without_write q writes)
all-without_write P q [] a = tt
all-without_write P q (w ∷ writes) a =
    on_if (λ (ws : List Write). AllByRecursion P ws) (w.number == q) writes (w ∷ without_write q writes) (λ is. a.1) (λ isnt. (a.0, all-without_write P q writes a.1))

pub length-without_write : (q : ℕ) (writes : List Write) → length (without_write q writes) ≤ length writes
length-without_write q [] = omega arith
length-without_write q (w ∷ writes) =
    let rest : length (without_write q writes) ≤ length writes = length-without_write q writes in
    on_if (λ (ws : List Write). length ws ≤ length (w ∷ writes)) (w.number == q) writes (w ∷ without_write q writes) (λ is. omega arith) (λ isnt. omega arith)

pub count-without_write : (k q : ℕ) (writes : List Write) → count_by (λ (w : Write). w.number == k) (without_write q writes) ≤ count_by (λ (w : Write). w.number == k) writes
count-without_write k q [] = omega arith
count-without_write k q (w ∷ writes) =
    let rest : count_by {X = Write} (λ w. w.number == k) (without_write q writes) ≤ count_by {X = Write} (λ w. w.number == k) writes = count-without_write k q writes in
    let all : count_by {X = Write} (λ w. w.number == k) (w ∷ writes) ≡ one_if (w.number == k) + count_by {X = Write} (λ w. w.number == k) writes = count-cons {X = Write} (λ w. w.number == k) w writes in
    let there : count_by {X = Write} (λ w. w.number == k) (w ∷ without_write q writes) ≡ one_if (w.number == k) + count_by {X = Write} (λ w. w.number == k) (without_write q writes) = count-cons {X = Write} (λ w. w.number == k) w (without_write q writes) in
    on_if (λ (ws : List Write). count_by {X = Write} (λ w. w.number == k) ws ≤ count_by {X = Write} (λ w. w.number == k) (w ∷ writes)) (w.number == q) writes (w ∷ without_write q writes) (λ is. omega arith) (λ isnt. omega arith)

pub batches-without : (P : Operation → Type 0) (q : ℕ) (writes : List Write) → AllByRecursion P (batches_of writes) → AllByRecursion P (batches_of (without_write q writes))
batches-without P q [] a = tt
batches-without P q (w ∷ writes) a =
    on_if (λ (ws : List Write). AllByRecursion P (batches_of ws)) (w.number == q) writes (w ∷ without_write q writes)
    (λ is. All-append_back P w.batch (batches_of writes) a)
    (λ isnt. All-append P w.batch (batches_of (without_write q writes)) (All-append_front P w.batch (batches_of writes) a) (batches-without P q writes (All-append_back P w.batch (batches_of writes) a)))

-- ---- ended writes

-- one more ended write of the epoch
pub times-written : (n epoch : ℕ) (batch : List Operation) (written : List WrittenBatch)
    → times_in n (written_in epoch (written ++ record { epoch = epoch; batch = batch } ∷ [])) ≡ times_in n (written_in epoch written) + times_in n batch
times-written n epoch batch [] =
    let one : WrittenBatch = record { epoch = epoch; batch = batch } in
    let is : written_in epoch (one ∷ []) ≡ batch ++ [] = ap (λ (b : Bool). flat_map {X = WrittenBatch} {A = Operation} (λ w. w.batch) (if b then one ∷ [] else [])) (itself epoch) in
    let same : times_in n (written_in epoch (one ∷ [])) ≡ times_in n batch = ap (times_in n) (is ∙ append-nil batch) in
    omega arith
times-written n epoch batch (x ∷ written) =
    let one : WrittenBatch = record { epoch = epoch; batch = batch } in
    let rest : times_in n (written_in epoch (written ++ one ∷ [])) ≡ times_in n (written_in epoch written) + times_in n batch = times-written n epoch batch written in
    let batches : List WrittenBatch → List Operation = λ ws. flat_map {X = WrittenBatch} {A = Operation} (λ w. w.batch) ws in
    let with_one : times_in n (x.batch ++ written_in epoch (written ++ one ∷ [])) ≡ times_in n x.batch + times_in n (written_in epoch (written ++ one ∷ [])) = count-append {X = Operation} (λ op. op.seq == n) x.batch (written_in epoch (written ++ one ∷ [])) in
    let without : times_in n (x.batch ++ written_in epoch written) ≡ times_in n x.batch + times_in n (written_in epoch written) = count-append {X = Operation} (λ op. op.seq == n) x.batch (written_in epoch written) in
    let goal : Bool → Type 0 = λ (b : Bool). times_in n (batches (if b then x ∷ filter (λ w. w.epoch == epoch) (written ++ one ∷ []) else filter (λ w. w.epoch == epoch) (written ++ one ∷ [])))
    ≡ times_in n (batches (if b then x ∷ filter (λ w. w.epoch == epoch) written else filter (λ w. w.epoch == epoch) written)) + times_in n batch in
    let yes : goal true = omega arith in
    let no_ : goal false = rest in
    (elim (x.epoch == epoch) as (λ (b : Bool). goal b) [ true ↦ yes | false ↦ no_ ])

-- no write of an epoch ended that is later than all of those
pub written-none : (epoch : ℕ) (written : List WrittenBatch) → AllByRecursion (λ (w : WrittenBatch). w.epoch < epoch) written → written_in epoch written ≡ []
written-none epoch [] a = refl
written-none epoch (x ∷ written) a =
    let rest : written_in epoch written ≡ [] = written-none epoch written a.1 in
    on_if (λ (ws : List WrittenBatch). flat_map {X = WrittenBatch} {A = Operation} (λ w. w.batch) ws ≡ []) (x.epoch == epoch) (x ∷ filter (λ w. w.epoch == epoch) written) (filter (λ w. w.epoch == epoch) written)
    (λ is. let below : x.epoch < epoch = a.0 in absurd (grind (arith, nat_tests))) (λ isnt. rest)
