-- What each change makes of the claims on one copy, over plain variables.
use Rattle.std.specs.List.{range_with_len, fold}
use Rattle.std.proofs.Common.{◌≡◌, ℕ, zero, suc, ◌+◌, ◌-◌, ◌<◌, ◌≤◌, ◌==◌, ◌||◌, ◌&&◌, ◌⊎◌, inl, inr, ⊎_elim, max, Bool, true, false, not, nat_lt, if◌then◌else◌, Option, Some, None, is_some, List, [], ◌∷◌, ◌++◌, map, length, take, slice_get, refl, sym, ◌∙◌, ap, subst, arith, length-append, length-take-le}
use Rattle.std.proofs.lemmas.Bool.Decides.{nat_tests}
use Rattle.std.proofs.lemmas.Option.{slice_get_past, slice_get_within}
use Rattle.ccr_op.specs.Operation.{Operation}
use Rattle.ccr_op.specs.declared.operation.Kind.TheVariants.{NoOp}
use Rattle.ccr_tracker.specs.Numbers.{Numbers, has, marked, kept_below, IsCanonical}
use Rattle.ccr_model.specs.Operations.{before_none}
use Rattle.ccr_model.specs.LeaderRows.{end_of, missing_numbers}
use Rattle.ccr_model.specs.Given.{or_else, gaining, plugged, joined_at, listed}
use Rattle.ccr_model.specs.Past.{Line, rewritten}
use Rattle.ccr_law_base.proofs.Cases.{on_if}
use Rattle.ccr_law_copies.specs.Cores.{PrimaryOk, ReplicaOk}
use Rattle.ccr_law_base.proofs.Lists.{some_equal, any-range, slice_get-take, slice_get-append_front, slice_get-append_back}
use Rattle.ccr_law_copies.proofs.Sets.{or_false, canonical-marked, canonical-marked_all, canonical-kept, has-marked, has-marked_all, has-kept, has-below, count_reaches, count-marked, all_below, has-end, whole}
use Rattle.ccr_law_base.proofs.Tests.{and_false}

-- ---- places of a list

pub some-within : (xs : List Operation) (n : ℕ) → is_some (slice_get xs n) ≡ nat_lt n (length xs)
some-within [] n = grind (arith, nat_tests)
some-within (x ∷ xs) zero = grind (arith, nat_tests)
some-within (x ∷ xs) (suc n) = let rest : is_some (slice_get xs n) ≡ nat_lt n (length xs) = some-within xs n in rest ∙ grind (arith, nat_tests)

pub some-longer : (xs ys : List Operation) (n : ℕ) (op : Operation) → slice_get xs n ≡ Some op → slice_get (xs ++ ys) n ≡ Some op
some-longer xs ys n op at = slice_get-append_front xs ys n (slice_get_within xs n op at) ∙ at

pub some-of : (o : Option Operation) → is_some o ≡ true → (op : Operation) × (o ≡ Some op)
some-of None is = cc
some-of (Some op) is = (op, refl)

pub none-of : (o : Option Operation) → is_some o ≡ false → o ≡ None
none-of None is = refl
none-of (Some op) is = cc

-- ---- the cut rises

-- a replica whose known count is at least the bound has the line's operations below it
pub replica-raised : (line : Line) (primary next : ℕ) (ops : ℕ → Option Operation) (number : ℕ) (seen : Numbers) (own known : ℕ) (resynced acked : Bool) (global bound : ℕ)
    → global ≤ line.cut → bound ≤ known → ReplicaOk line primary next ops number seen own known resynced acked
    → ReplicaOk (record { ops = line.ops; cut = max line.cut (max global bound) }) primary next ops number seen own known resynced acked
replica-raised line primary next ops number seen own known resynced acked global bound low le ok = record {
  other = ok.other;
  old = ok.old;
  ordered = ok.ordered;
  processed = ok.processed;
  committed = λ n lt. (elim (nat_lt n line.cut) as (λ b. nat_lt n line.cut ≡ b → ops n ≡ slice_get line.ops n) [
    | true ↦ λ is. ok.committed n (grind (arith, nat_tests))
    | false ↦ λ isnt. known_at n (grind (arith, nat_tests)) resynced ok.early ok.ours
  ]) refl;
  ours = ok.ours;
  numbered = ok.numbered;
  low = let l : own ≤ line.cut = ok.low in omega arith;
  truly = ok.truly;
  early = ok.early;
  late = λ is. let l : line.cut ≤ known = ok.late is in omega arith;
}
  where
    known_at : (n : ℕ) → n < known → (b : Bool) → (b ≡ false → known ≡ 0)
        → (b ≡ true → (n : ℕ) (op : Operation) → ops n ≡ Some op → slice_get line.ops n ≡ Some op) → ops n ≡ slice_get line.ops n
    known_at n lt false early ours = let none : known ≡ 0 = early refl in absurd (omega arith)
    known_at n lt true early ours =
        let count : known ≤ seen.count = ok.truly in
        let inside : n < seen.count = omega arith in
        let at : (op : Operation) × (ops n ≡ Some op) = some-of (ops n) (sym (ok.processed n) ∙ has-below seen n inside) in
        at.1 ∙ sym (ours refl n at.0 at.1)

abbrev pub numbers_below : ℕ → Numbers
numbers_below n = record { count = n; above = [] }

-- ---- one more operation

-- what is told of a number after one more operation was there before, or is that operation
pub gained : (o : Option Operation) (n seq : ℕ) (op x : Operation) → or_else o (if n == seq then Some op else None) ≡ Some x
    → (o ≡ Some x) ⊎ (((n == seq) ≡ true) × (op ≡ x))
gained (Some y) n seq op x at = inl at
gained None n seq op x at =
    (elim (n == seq) as (λ b. (n == seq) ≡ b → (if b then Some op else None) ≡ Some x → (None ≡ Some x) ⊎ (((n == seq) ≡ true) × (op ≡ x))) [
      | true ↦ λ is e. inr (is, some_equal op x e)
      | false ↦ λ isnt e. cc
    ]) refl at

pub gained-some : (o : Option Operation) (n seq : ℕ) (op : Operation) → (is_some o || (seq == n)) ≡ is_some (or_else o (if n == seq then Some op else None))
gained-some (Some y) n seq op = refl
gained-some None n seq op =
    (elim (n == seq) as (λ b. (n == seq) ≡ b → (seq == n) ≡ is_some (if b then Some op else None)) [
      | true ↦ λ is. grind (arith, nat_tests)
      | false ↦ λ isnt. grind (arith, nat_tests)
    ]) refl

-- where the new operation is the one that has to be there
pub gained-same : (o place : Option Operation) (n seq : ℕ) (op : Operation) → o ≡ place → ((n == seq) ≡ true → place ≡ Some op)
    → or_else o (if n == seq then Some op else None) ≡ place
gained-same (Some y) place n seq op is right = is
gained-same None place n seq op is right =
    (elim (n == seq) as (λ b. (n == seq) ≡ b → (if b then Some op else None) ≡ place) [
      | true ↦ λ at. sym (right at)
      | false ↦ λ isnt. is
    ]) refl

pub gained-last : (xs : List Operation) (n k : ℕ) (op : Operation) → k ≡ length xs
    → or_else (slice_get xs n) (if n == k then Some op else None) ≡ slice_get (xs ++ op ∷ []) n
gained-last [] zero k op at = let is : (0 == k) ≡ true = grind (arith, nat_tests) in rw is refl
gained-last [] (suc n) k op at = let isnt : (suc n == k) ≡ false = grind (arith, nat_tests) in rw isnt refl
gained-last (x ∷ xs) zero k op at = refl
gained-last (x ∷ xs) (suc n) k op at =
    let same : (suc n == k) ≡ (n == length xs) = grind (arith, nat_tests) in
    rw same (gained-last xs n (length xs) op refl)

-- ---- a write

pub primary-longer : (line : Line) (ops : ℕ → Option Operation) (seen : Numbers) (global : ℕ) (op : Operation) → op.seq ≡ seen.count
    → PrimaryOk line ops seen global
    → PrimaryOk (record { ops = line.ops ++ op ∷ []; cut = line.cut }) (gaining ops op.seq (Some op)) (marked seen op.seq) global
primary-longer line ops seen global op seq ok = record {
  given = λ n. ap (λ (o : Option Operation). or_else o (if n == op.seq then Some op else None)) (ok.given n) ∙ gained-last line.ops n op.seq op last;
  gapless = all_below (marked seen op.seq) (length (line.ops ++ op ∷ [])) (canonical-marked seen op.seq (subst IsCanonical (sym ok.gapless) tt)) marks;
  full = let l : line.cut ≤ length line.ops = ok.full in omega (arith, more);
  known = ok.known;
  numbered = λ n x at. ⊎_elim (λ old. ok.numbered n x old) (λ new. ap (λ (y : Operation). y.seq) (sym new.1) ∙ grind (arith, nat_tests))
      (gained (slice_get line.ops n) n op.seq op x (gained-last line.ops n op.seq op last ∙ at));
}
  where
    last : op.seq ≡ length line.ops
    last = seq ∙ ap (λ (s : Numbers). s.count) ok.gapless

    more : length (line.ops ++ op ∷ []) ≡ length line.ops + 1
    more = length-append line.ops (op ∷ [])

    marks : (k : ℕ) → has (marked seen op.seq) k ≡ nat_lt k (length (line.ops ++ op ∷ []))
    marks k =
        let old : has seen k ≡ (nat_lt k (length line.ops) || false) = ap (λ (s : Numbers). has s k) ok.gapless in
        has-marked seen op.seq k ∙ rw (old, more, last) (grind (arith, nat_tests))

-- the line gets longer
pub replica-longer : (line : Line) (primary next : ℕ) (ops : ℕ → Option Operation) (number : ℕ) (seen : Numbers) (own known : ℕ) (resynced acked : Bool) (more : List Operation)
    → line.cut ≤ length line.ops → ReplicaOk line primary next ops number seen own known resynced acked
    → ReplicaOk (record { ops = line.ops ++ more; cut = line.cut }) primary next ops number seen own known resynced acked
replica-longer line primary next ops number seen own known resynced acked more full ok = record {
  other = ok.other;
  old = ok.old;
  ordered = ok.ordered;
  processed = ok.processed;
  committed = λ n lt. ok.committed n lt ∙ sym (slice_get-append_front line.ops more n (omega arith));
  ours = λ is n op at. some-longer line.ops more n op (ok.ours is n op at);
  numbered = ok.numbered;
  low = ok.low;
  truly = ok.truly;
  early = ok.early;
  late = ok.late;
}

-- ---- a replication

-- the replica takes the line's operation of a number, and learns a global count
pub replica-takes : (line : Line) (primary next : ℕ) (ops : ℕ → Option Operation) (number : ℕ) (seen : Numbers) (own known : ℕ) (resynced acked : Bool) (global seq : ℕ) (op : Operation)
    → global ≤ line.cut → slice_get line.ops seq ≡ Some op → op.seq ≡ seq → ReplicaOk line primary next ops number seen own known resynced acked
    → ReplicaOk line primary next (gaining ops seq (Some op)) number (marked seen seq) (max own global) known resynced acked
replica-takes line primary next ops number seen own known resynced acked global seq op low at numbered ok = record {
  other = ok.other;
  old = ok.old;
  ordered = canonical-marked seen seq ok.ordered;
  processed = λ n. has-marked seen seq n ∙ (ap (λ (b : Bool). b || (seq == n)) (ok.processed n) ∙ gained-some (ops n) n seq op);
  committed = λ n lt. gained-same (ops n) (slice_get line.ops n) n seq op (ok.committed n lt) (λ is. at_same n is);
  ours = λ is n x there. ⊎_elim (λ old. ok.ours is n x old) (λ new. at_same n new.0 ∙ ap (λ (y : Operation). Some y) new.1) (gained (ops n) n seq op x there);
  numbered = λ n x there. ⊎_elim (λ old. ok.numbered n x old) (λ new. seq_same n x new.0 new.1) (gained (ops n) n seq op x there);
  low = let l : own ≤ line.cut = ok.low in omega arith;
  truly = let l : known ≤ seen.count = ok.truly in omega (arith, count-marked seen seq);
  early = ok.early;
  late = ok.late;
}
  where
    at_same : (n : ℕ) → (n == seq) ≡ true → slice_get line.ops n ≡ Some op
    at_same n is = let e : n ≡ seq = grind (arith, nat_tests) in subst (λ (k : ℕ). slice_get line.ops k ≡ Some op) (sym e) at

    seq_same : (n : ℕ) (x : Operation) → (n == seq) ≡ true → op ≡ x → x.seq ≡ n
    seq_same n x is e = let same : n ≡ seq = grind (arith, nat_tests) in ap (λ (y : Operation). y.seq) (sym e) ∙ (numbered ∙ sym same)

-- ---- acks and syncs

-- all that is committed is below the count
pub cut_below_count : (line : Line) (primary next : ℕ) (ops : ℕ → Option Operation) (number : ℕ) (seen : Numbers) (own known : ℕ) (resynced acked : Bool)
    → line.cut ≤ length line.ops → ReplicaOk line primary next ops number seen own known resynced acked → line.cut ≤ seen.count
cut_below_count line primary next ops number seen own known resynced acked full ok =
    count_reaches seen line.cut ok.ordered (λ k lt.
    ok.processed k ∙ (ap (λ (o : Option Operation). is_some o) (ok.committed k lt) ∙ (some-within line.ops k ∙ (let inside : k < length line.ops = omega arith in grind (arith, nat_tests)))))

pub replica-acked : (line : Line) (primary next : ℕ) (ops : ℕ → Option Operation) (number : ℕ) (seen : Numbers) (own known : ℕ) (resynced acked : Bool)
    → line.cut ≤ length line.ops → resynced ≡ true → ReplicaOk line primary next ops number seen own known resynced acked
    → ReplicaOk line primary next ops number seen own seen.count resynced true
replica-acked line primary next ops number seen own known resynced acked full is ok = record {
  other = ok.other;
  old = ok.old;
  ordered = ok.ordered;
  processed = ok.processed;
  committed = ok.committed;
  ours = ok.ours;
  numbered = ok.numbered;
  low = ok.low;
  truly = omega arith;
  early = λ isnt. cc;
  late = λ now. cut_below_count line primary next ops number seen own known resynced acked full ok;
}

pub replica-knowing : (line : Line) (primary next : ℕ) (ops : ℕ → Option Operation) (number : ℕ) (seen : Numbers) (own known : ℕ) (resynced acked : Bool) (global : ℕ)
    → global ≤ line.cut → ReplicaOk line primary next ops number seen own known resynced acked
    → ReplicaOk line primary next ops number seen (max own global) known resynced acked
replica-knowing line primary next ops number seen own known resynced acked global low ok = record {
  other = ok.other;
  old = ok.old;
  ordered = ok.ordered;
  processed = ok.processed;
  committed = ok.committed;
  ours = ok.ours;
  numbered = ok.numbered;
  low = let l : own ≤ line.cut = ok.low in omega arith;
  truly = ok.truly;
  early = ok.early;
  late = ok.late;
}

-- ---- a promotion

-- a list of numbers' operations, all of which are there
pub listed-length : (f : ℕ → Option Operation) (from size : ℕ) → ((n : ℕ) → from ≤ n → n < from + size → is_some (f n) ≡ true) → length (listed f from size) ≡ size
listed-length f from zero all = refl
listed-length f from (suc size) all =
    (elim (f from) as (λ o. is_some o ≡ true → length (before_none (o ∷ map {A = ℕ} {B = Option Operation} f (range_with_len (from + 1) size))) ≡ suc size) [
      | None ↦ λ is. cc
      | Some op ↦ λ is. let rest : length (listed f (from + 1) size) ≡ size = listed-length f (from + 1) size (λ n le lt. all n (omega arith) (omega arith)) in omega arith
    ]) (all from (omega arith) (omega arith))

pub listed-at : (f : ℕ → Option Operation) (from size k : ℕ) → ((n : ℕ) → from ≤ n → n < from + size → is_some (f n) ≡ true) → k < size
    → slice_get (listed f from size) k ≡ f (from + k)
listed-at f from zero k all lt = absurd (omega arith)
listed-at f from (suc size) zero all lt =
    (elim (f from) as (λ o. f from ≡ o → is_some o ≡ true → slice_get (before_none (o ∷ map {A = ℕ} {B = Option Operation} f (range_with_len (from + 1) size))) 0 ≡ f (from + 0)) [
      | None ↦ λ at is. cc
      | Some op ↦ λ at is. sym at ∙ ap f (omega arith)
    ]) refl (all from (omega arith) (omega arith))
listed-at f from (suc size) (suc k) all lt =
    (elim (f from) as (λ o. is_some o ≡ true → slice_get (before_none (o ∷ map {A = ℕ} {B = Option Operation} f (range_with_len (from + 1) size))) (suc k) ≡ f (from + suc k)) [
      | None ↦ λ is. cc
      | Some op ↦ λ is. listed-at f (from + 1) size k (λ n le below. all n (omega arith) (omega arith)) (omega arith) ∙ ap f (omega arith)
    ]) (all from (omega arith) (omega arith))

pub not_below : (a b : ℕ) → (b < a → b < b) → a ≤ b
not_below a b no_less =
    (elim (nat_lt b a) as (λ t. nat_lt b a ≡ t → a ≤ b) [
      | true ↦ λ is. let lt : b < a = grind (arith, nat_tests) in let never : b < b = no_less lt in omega arith
      | false ↦ λ isnt. grind (arith, nat_tests)
    ]) refl

-- the operations of a rewritten line are those that the new primary has
pub rewritten-length : (line : Line) (f : ℕ → Option Operation) (end : ℕ) → line.cut ≤ length line.ops → line.cut ≤ end → ((n : ℕ) → n < end → is_some (f n) ≡ true)
    → length (rewritten line f end) ≡ end
rewritten-length line f end full le all =
    let front : length (take line.cut line.ops) ≡ line.cut = length-take-le line.cut line.ops full in
    let back : length (listed f line.cut (end - line.cut)) ≡ end - line.cut = listed-length f line.cut (end - line.cut) (λ n low lt. all n (omega arith)) in
    length-append (take line.cut line.ops) (listed f line.cut (end - line.cut)) ∙ omega arith

pub rewritten-at : (line : Line) (f : ℕ → Option Operation) (end : ℕ) → line.cut ≤ length line.ops → line.cut ≤ end → ((n : ℕ) → n < end → is_some (f n) ≡ true)
    → ((n : ℕ) → end ≤ n → f n ≡ None) → ((n : ℕ) → n < line.cut → f n ≡ slice_get line.ops n) → (n : ℕ) → f n ≡ slice_get (rewritten line f end) n
rewritten-at line f end full le all none old n =
    (elim (nat_lt n line.cut) as (λ b. nat_lt n line.cut ≡ b → f n ≡ slice_get (rewritten line f end) n) [
      | true ↦ λ is. let lt : n < line.cut = grind (arith, nat_tests) in
          old n lt ∙ sym (slice_get-append_front (take line.cut line.ops) (listed f line.cut (end - line.cut)) n (omega (arith, front)) ∙ slice_get-take line.cut line.ops n lt)
      | false ↦ λ isnt. (elim (nat_lt n end) as (λ b. nat_lt n end ≡ b → f n ≡ slice_get (rewritten line f end) n) [
        | true ↦ λ is. let low : line.cut ≤ n = grind (arith, nat_tests) in let high : n < end = grind (arith, nat_tests) in at_back low high
        | false ↦ λ out. let high : end ≤ n = grind (arith, nat_tests) in
            none n high ∙ sym (slice_get_past (rewritten line f end) n (omega (arith, rewritten-length line f end full le all)))
      ]) refl
    ]) refl
  where
    front : length (take line.cut line.ops) ≡ line.cut
    front = length-take-le line.cut line.ops full

    at_back : line.cut ≤ n → n < end → f n ≡ slice_get (rewritten line f end) n
    at_back low high =
        let at : slice_get (listed f line.cut (end - line.cut)) (n - line.cut) ≡ f (line.cut + (n - line.cut))
        = listed-at f line.cut (end - line.cut) (n - line.cut) (λ k l h. all k (omega arith)) (omega arith) in
        let place : n ≡ length (take line.cut line.ops) + (n - line.cut) = omega (arith, front) in
        let there : slice_get (rewritten line f end) (length (take line.cut line.ops) + (n - line.cut)) ≡ slice_get (listed f line.cut (end - line.cut)) (n - line.cut)
        = slice_get-append_back (take line.cut line.ops) (listed f line.cut (end - line.cut)) (n - line.cut) in
        ap f (omega arith) ∙ (sym at ∙ (sym there ∙ ap (slice_get (rewritten line f end)) (sym place)))

-- what is told of a number with the gaps plugged was there before, or is a no-op of that number
pub plugged-number : (o : Option Operation) (n : ℕ) (b : Bool) (op x : Operation) → op.seq ≡ n → (o ≡ Some x → x.seq ≡ n) → or_else o (if b then Some op else None) ≡ Some x → x.seq ≡ n
plugged-number (Some y) n b op x own old at = old at
plugged-number None n true op x own old at = ap (λ (z : Operation). z.seq) (sym (some_equal op x at)) ∙ own
plugged-number None n false op x own old at = cc

pub or_else-first : (o place later : Option Operation) → o ≡ place → is_some place ≡ true → or_else o later ≡ place
or_else-first (Some y) place later is there = is
or_else-first None place later is there = let out : is_some {T = Operation} None ≡ true = subst (λ (q : Option Operation). is_some q ≡ true) (sym is) there in cc

pub or_else-some : (o : Option Operation) (op : Operation) → is_some (or_else o (Some op)) ≡ true
or_else-some (Some y) op = refl
or_else-some None op = refl

pub or_else-none : (o : Option Operation) → o ≡ None → or_else o None ≡ None
or_else-none (Some y) is = is
or_else-none None is = refl

-- the replica as the primary of a new line
pub primary-promoted : (line : Line) (primary next : ℕ) (ops : ℕ → Option Operation) (number : ℕ) (seen : Numbers) (own known : ℕ) (resynced acked : Bool) (term : ℕ)
    → line.cut ≤ length line.ops → ReplicaOk line primary next ops number seen own known resynced acked
    → PrimaryOk (record { ops = rewritten line (plugged ops term (end_of seen)) (end_of seen); cut = line.cut }) (plugged ops term (end_of seen))
    (fold {A = ℕ} {B = Numbers} marked seen (missing_numbers seen)) own
primary-promoted line primary next ops number seen own known resynced acked term full ok = record {
  given = at;
  gapless = whole seen ok.ordered ∙ ap numbers_below (sym size);
  full = omega (arith, reach, size);
  known = ok.low;
  numbered = λ n op there. plugged-number (ops n) n (nat_lt n (end_of seen)) record { seq = n; term = term; version = 0; kind = NoOp } op refl (ok.numbered n op) (at n ∙ there);
}
  where
    committed_there : (n : ℕ) → n < line.cut → is_some (slice_get line.ops n) ≡ true
    committed_there n lt = some-within line.ops n ∙ (let inside : n < length line.ops = omega arith in grind (arith, nat_tests))

    reach : line.cut ≤ end_of seen
    reach = not_below line.cut (end_of seen) (λ lt.
        has-end seen (end_of seen) (ok.processed (end_of seen) ∙ (ap (λ (o : Option Operation). is_some o) (ok.committed (end_of seen) lt) ∙ committed_there (end_of seen) lt)))

    all : (n : ℕ) → n < end_of seen → is_some (plugged ops term (end_of seen) n) ≡ true
    all n lt = let is : nat_lt n (end_of seen) ≡ true = grind (arith, nat_tests) in rw is (or_else-some (ops n) record { seq = n; term = term; version = 0; kind = NoOp })

    out : (n : ℕ) → end_of seen ≤ n → (b : Bool) → has seen n ≡ b → b ≡ false
    out n le true is = let lt : n < end_of seen = has-end seen n is in absurd (omega arith)
    out n le false is = refl

    none : (n : ℕ) → end_of seen ≤ n → plugged ops term (end_of seen) n ≡ None
    none n le =
        let isnt : nat_lt n (end_of seen) ≡ false = grind (arith, nat_tests) in
        rw isnt (or_else-none (ops n) (none-of (ops n) (sym (ok.processed n) ∙ out n le (has seen n) refl)))

    old : (n : ℕ) → n < line.cut → plugged ops term (end_of seen) n ≡ slice_get line.ops n
    old n lt = or_else-first (ops n) (slice_get line.ops n) (if nat_lt n (end_of seen) then Some record { seq = n; term = term; version = 0; kind = NoOp } else None)
        (ok.committed n lt) (committed_there n lt)

    size : length (rewritten line (plugged ops term (end_of seen)) (end_of seen)) ≡ end_of seen
    size = rewritten-length line (plugged ops term (end_of seen)) (end_of seen) full reach all

    at : (n : ℕ) → plugged ops term (end_of seen) n ≡ slice_get (rewritten line (plugged ops term (end_of seen)) (end_of seen)) n
    at = rewritten-at line (plugged ops term (end_of seen)) (end_of seen) full reach all none old

-- the others have to be resynced
pub replica-stale : (line : Line) (primary next : ℕ) (ops : ℕ → Option Operation) (number : ℕ) (seen : Numbers) (own known : ℕ) (resynced acked : Bool) (copy : ℕ) (more : List Operation)
    → line.cut ≤ length line.ops → (number == copy) ≡ false → ReplicaOk line primary next ops number seen own known resynced acked
    → ReplicaOk (record { ops = take line.cut line.ops ++ more; cut = line.cut }) copy next ops number seen own 0 false false
replica-stale line primary next ops number seen own known resynced acked copy more full other ok = record {
  other = other;
  old = ok.old;
  ordered = ok.ordered;
  processed = ok.processed;
  committed = λ n lt. ok.committed n lt ∙ sym (
      slice_get-append_front (take line.cut line.ops) more n (let e : length (take line.cut line.ops) ≡ line.cut = length-take-le line.cut line.ops full in omega arith)
      ∙ slice_get-take line.cut line.ops n lt);
  ours = λ is. cc;
  numbered = ok.numbered;
  low = ok.low;
  truly = omega arith;
  early = λ is. refl;
  late = λ is. cc;
}

-- ---- a resync

pub replica-resynced : (line : Line) (primary next : ℕ) (ops : ℕ → Option Operation) (number : ℕ) (seen : Numbers) (own known : ℕ) (resynced acked : Bool)
    (mark count : ℕ) (others : ℕ → Option Operation)
    → mark ≤ line.cut → count ≡ length line.ops → ((n : ℕ) → others n ≡ slice_get line.ops n)
    → ((n : ℕ) (op : Operation) → slice_get line.ops n ≡ Some op → op.seq ≡ n) → line.cut ≤ length line.ops → resynced ≡ false
    → ReplicaOk line primary next ops number seen own known resynced acked
    → ReplicaOk line primary next (joined_at mark ops others) number (fold {A = ℕ} {B = Numbers} marked (kept_below seen mark) (range_with_len mark (count - mark))) own known true acked
replica-resynced line primary next ops number seen own known resynced acked mark count others low length_is given numbered full isnt ok = record {
  other = ok.other;
  old = ok.old;
  ordered = canonical-marked_all (kept_below seen mark) (range_with_len mark (count - mark)) (canonical-kept seen mark ok.ordered);
  processed = λ n. has-marked_all (kept_below seen mark) (range_with_len mark (count - mark)) n
      ∙ (rw (has-kept seen mark n, any-range mark (count - mark) n) (marks n (nat_lt n mark) refl));
  committed = λ n lt. on_if (λ (o : Option Operation). o ≡ slice_get line.ops n) (nat_lt n mark) (ops n) (others n) (λ is. ok.committed n lt) (λ past. given n);
  ours = λ is n x. on_if (λ (o : Option Operation). o ≡ Some x → slice_get line.ops n ≡ Some x) (nat_lt n mark) (ops n) (others n)
      (λ below at. sym (ok.committed n (let lt : n < mark = grind (arith, nat_tests) in omega arith)) ∙ at) (λ past at. sym (given n) ∙ at);
  numbered = λ n x. on_if (λ (o : Option Operation). o ≡ Some x → x.seq ≡ n) (nat_lt n mark) (ops n) (others n)
      (λ below at. ok.numbered n x at) (λ past at. numbered n x (sym (given n) ∙ at));
  low = ok.low;
  truly = let none : known ≡ 0 = ok.early isnt in omega arith;
  early = λ never. cc;
  late = ok.late;
}
  where
    marks : (n : ℕ) (b : Bool) → nat_lt n mark ≡ b
        → ((has seen n && b) || (not b && nat_lt n (mark + (count - mark)))) ≡ is_some (if b then ops n else others n)
    marks n true is = and_true (has seen n) ∙ ok.processed n
      where
        and_true : (b : Bool) → ((b && true) || false) ≡ b
        and_true true = refl
        and_true false = refl
    marks n false isnt = rw (given n, some-within line.ops n, and_false (has seen n)) (grind (arith, nat_tests))

-- ---- a new copy

pub replica-next : (line : Line) (primary next : ℕ) (ops : ℕ → Option Operation) (number : ℕ) (seen : Numbers) (own known : ℕ) (resynced acked : Bool)
    → ReplicaOk line primary next ops number seen own known resynced acked → ReplicaOk line primary (next + 1) ops number seen own known resynced acked
replica-next line primary next ops number seen own known resynced acked ok = record {
  other = ok.other;
  old = let less : number < next = ok.old in omega arith;
  ordered = ok.ordered;
  processed = ok.processed;
  committed = ok.committed;
  ours = ok.ours;
  numbered = ok.numbered;
  low = ok.low;
  truly = ok.truly;
  early = ok.early;
  late = ok.late;
}

-- a copy of the primary, of the next number
pub replica-new : (line : Line) (ops : ℕ → Option Operation) (seen : Numbers) (global number next : ℕ) → number < next → PrimaryOk line ops seen global
    → ReplicaOk line number (next + 1) ops next seen global seen.count true true
replica-new line ops seen global number next less ok = record {
  other = grind (arith, nat_tests);
  old = omega arith;
  ordered = subst IsCanonical (sym ok.gapless) tt;
  processed = λ n. ap (λ (s : Numbers). has s n) ok.gapless ∙ (sym (or_false (nat_lt n (length line.ops))) ∙ (sym (some-within line.ops n) ∙ ap (λ (o : Option Operation). is_some o) (sym (ok.given n))));
  committed = λ n lt. ok.given n;
  ours = λ is n op at. sym (ok.given n) ∙ at;
  numbered = λ n op at. ok.numbered n op (sym (ok.given n) ∙ at);
  low = ok.known;
  truly = omega arith;
  early = λ is. cc;
  late = λ is. let count : seen.count ≡ length line.ops = ap (λ (s : Numbers). s.count) ok.gapless in let full : line.cut ≤ length line.ops = ok.full in omega arith;
}
