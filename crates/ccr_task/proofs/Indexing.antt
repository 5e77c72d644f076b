-- What keeps the numbers of the sent reads and the count of the held ones right.
use Rattle.std.proofs.Common.{◌≡◌, ℕ, ◌<◌, ◌≤◌, ◌+◌, ◌-◌, ◌==◌, ◌&&◌, suc, Bool, true, false, nat_lt, if◌then◌else◌, List, [], ◌∷◌, ◌++◌, length, get_or, set, filter, find, cond, Some, None, refl, sym, ◌∙◌, ap, subst, arith}
use Rattle.std.specs.List.{position_from, remove}
use Rattle.std.proofs.lemmas.Bool.{and_parts, and_from, eqb-true, eq-eqb}
use Rattle.std.proofs.lemmas.Bool.Decides.{nat_tests}
use Rattle.ccr_model.specs.Tasks.{Read, is_held}
use Rattle.ccr_model.specs.Requests.{Progress, on_its_way, is_sent}
use Rattle.std.proofs.lemmas.List.Edits.{length-remove}
use Rattle.ccr_law_base.proofs.Lists.{length-filter-le}
use Rattle.ccr_task.specs.Ordering.{sent_under}
use Rattle.ccr_task.specs.Indexed.{AreRising, IsIndexed, IsUnlisted, numbered, times}
use Rattle.ccr_task.proofs.Counts.{one_if, count-push, count-set, count-remove, count-some, count-only, find-nothing, find-only, none-at-all, position-only}
use Rattle.ccr_task.proofs.Rising.{rising-push, rising-raise}

abbrev pub has_number : ℕ → Read → Bool
has_number q r = r.request == q

abbrev pub is_sent_as : ℕ → Read → Bool
is_sent_as q r = is_sent r.progress && (r.request == q)

abbrev pub one_below : ℕ → ℕ → ℕ
one_below q next = if nat_lt q next then 1 else 0

narrower : (q : ℕ) (r : Read) → is_sent_as q r ≡ true → has_number q r ≡ true
narrower q r is = (and_parts (is_sent r.progress) (r.request == q) is).1

sent-few : (q : ℕ) (reads : List Read) → sent_under q reads ≤ numbered q reads
sent-few q reads = none-at-all (has_number q) (is_sent_as q) (narrower q) reads

below : (q next : ℕ) → q < next → one_below q next ≡ 1
below q next lt = let e : nat_lt q next ≡ true = grind (arith, nat_tests) in ap one_if e

beyond : (q next : ℕ) → next ≤ q → one_below q next ≡ 0
beyond q next le = let e : nat_lt q next ≡ false = grind (arith, nat_tests) in ap one_if e

-- one more number is given out
one-more : (q next : ℕ) → one_below q next + one_if (next == q) ≡ one_below q (next + 1)
one-more q next =
    (elim (next == q) as (λ b. (next == q) ≡ b → one_below q next + one_if b ≡ one_below q (next + 1)) [
      | true ↦ λ is.
          let same : next ≡ q = eqb-true next q is in
          let old : one_below q next ≡ 0 = beyond q next (omega arith) in
          let new : one_below q (next + 1) ≡ 1 = below q (next + 1) (omega arith) in
          omega arith
      | false ↦ λ isnt.
          (elim (nat_lt q next) as (λ b. nat_lt q next ≡ b → one_below q next + 0 ≡ one_below q (next + 1)) [
            | true ↦ λ lt.
                let less : q < next = grind (arith, nat_tests) in
                let old : one_below q next ≡ 1 = below q next less in
                let new : one_below q (next + 1) ≡ 1 = below q (next + 1) (omega arith) in
                omega arith
            | false ↦ λ ge.
                let more : next ≤ q = grind (arith, nat_tests) in
                let apart : (next ≡ q → ⊥) = grind (arith, nat_tests) in
                let old : one_below q next ≡ 0 = beyond q next more in
                let new : one_below q (next + 1) ≡ 0 = beyond q (next + 1) (omega arith) in
                omega arith
          ]) refl
    ]) refl

-- a number that was given out is not the next one
given : (q next : ℕ) → 1 ≤ one_below q next → (next == q) ≡ false
given q next some =
    (elim (next == q) as (λ b. (next == q) ≡ b → b ≡ false) [
      | true ↦ λ is. let same : next ≡ q = eqb-true next q is in let none : one_below q next ≡ 0 = beyond q next (omega arith) in absurd (omega arith)
      | false ↦ λ isnt. refl
    ]) refl

few-at-all : (q next : ℕ) → one_below q next ≤ 1
few-at-all q next = (elim (nat_lt q next) as (λ (b : Bool). one_if b ≤ 1) [ true ↦ omega arith | false ↦ omega arith ])

pub indexed-none : (next : ℕ) → IsIndexed next [] [] 0
indexed-none next = record { apart = λ q. omega arith; rising = omega arith; listed = λ q. refl; counted = refl }

pub indexed-raise : (next : ℕ) (reads : List Read) (sent : List ℕ) (held : ℕ) → IsIndexed next reads sent held → IsIndexed (next + 1) reads sent held
indexed-raise next reads sent held it = record {
  apart = λ q. let few : numbered q reads ≤ one_below q next = it.apart q in let more : one_below q next + one_if (next == q) ≡ one_below q (next + 1) = one-more q next in omega arith;
  rising = rising-raise 0 sent next (next + 1) (omega arith) it.rising;
  listed = it.listed;
  counted = it.counted;
}

-- no two reads have the same number
pub few-numbered : (next : ℕ) (reads : List Read) (sent : List ℕ) (held q : ℕ) → IsIndexed next reads sent held → numbered q reads ≤ 1
few-numbered next reads sent held q it = let few : numbered q reads ≤ one_below q next = it.apart q in let le : one_below q next ≤ 1 = few-at-all q next in omega arith

one_of : (q n : ℕ) (p : Progress) → is_sent p ≡ true → one_if (is_sent p && (n == q)) ≡ one_if (n == q)
one_of q n p is = ap (λ (b : Bool). one_if (b && (n == q))) is

none_of : (q n : ℕ) (p : Progress) → is_sent p ≡ false → one_if (is_sent p && (n == q)) ≡ 0
none_of q n p isnt = ap (λ (b : Bool). one_if (b && (n == q))) isnt

none-by : (b c : Bool) → c ≡ false → one_if (b && c) ≡ 0
none-by true c is = ap one_if is
none-by false c is = refl

-- a read is begun under the next number
pub indexed-begin : (next : ℕ) (reads : List Read) (sent : List ℕ) (held : ℕ) (r : Read) → r.request ≡ next → is_sent r.progress ≡ true → is_held r ≡ false
    → IsIndexed next reads sent held → IsIndexed (next + 1) (reads ++ r ∷ []) (sent ++ next ∷ []) held
indexed-begin next reads sent held r number is isnt it = record {
  apart = λ q.
      let few : numbered q reads ≤ one_below q next = it.apart q in
      let more : one_below q next + one_if (next == q) ≡ one_below q (next + 1) = one-more q next in
      let pushed : numbered q (reads ++ r ∷ []) ≡ numbered q reads + one_if (r.request == q) = count-push (has_number q) r reads in
      let own : one_if (r.request == q) ≡ one_if (next == q) = ap (λ (n : ℕ). one_if (n == q)) number in
      omega arith;
  rising = rising-push 0 sent next it.rising;
  listed = λ q.
      let listed : times q (sent ++ next ∷ []) ≡ times q sent + one_if (next == q) = count-push (λ (n : ℕ). n == q) next sent in
      let pushed : sent_under q (reads ++ r ∷ []) ≡ sent_under q reads + one_if (is_sent r.progress && (r.request == q)) = count-push (is_sent_as q) r reads in
      let own : one_if (is_sent r.progress && (r.request == q)) ≡ one_if (next == q) = one_of q r.request r.progress is ∙ ap (λ (n : ℕ). one_if (n == q)) number in
      let old : times q sent ≡ sent_under q reads = it.listed q in
      omega arith;
  counted =
      let pushed : length (filter is_held (reads ++ r ∷ [])) ≡ length (filter is_held reads) + one_if (is_held r) = count-push is_held r reads in
      let none : one_if (is_held r) ≡ 0 = ap one_if isnt in
      let old : held ≡ length (filter is_held reads) = it.counted in
      omega arith;
}

-- a read at a place becomes one that is not sent, of the same number
pub indexed-put : (next : ℕ) (reads : List Read) (sent after : List ℕ) (held now : ℕ) (i : ℕ) (x y : Read) → i < length reads → x ≡ get_or reads i x → y.request ≡ x.request → is_sent y.progress ≡ false
    → IsUnlisted x.request sent after next → now + one_if (is_held x) ≡ held + one_if (is_held y)
    → IsIndexed next reads sent held → IsIndexed next (set reads i y) after now
indexed-put next reads sent after held now i x y within at number isnt cut count it = record {
  apart = λ q. let few : numbered q reads ≤ one_below q next = it.apart q in let same : numbered q (set reads i y) ≡ numbered q reads = as_many q in omega arith;
  rising = cut.rising;
  listed = λ q. cut.without q ∙ by_case q (x.request == q) refl;
  counted =
      let changed : length (filter is_held (set reads i y)) + one_if (is_held x) ≡ length (filter is_held reads) + one_if (is_held y) = changed_by is_held in
      let old : held ≡ length (filter is_held reads) = it.counted in
      omega arith;
}
  where
    changed_by : (p : Read → Bool) → length (filter p (set reads i y)) + one_if (p x) ≡ length (filter p reads) + one_if (p y)
    changed_by p = subst (λ (r : Read). length (filter p (set reads i y)) + one_if (p r) ≡ length (filter p reads) + one_if (p y)) (sym at) (count-set p y x reads i within)

    as_many : (q : ℕ) → numbered q (set reads i y) ≡ numbered q reads
    as_many q =
        let changed : numbered q (set reads i y) + one_if (x.request == q) ≡ numbered q reads + one_if (y.request == q) = changed_by (has_number q) in
        let own : one_if (y.request == q) ≡ one_if (x.request == q) = ap (λ (n : ℕ). one_if (n == q)) number in
        omega arith

    by_case : (q : ℕ) (b : Bool) → (x.request == q) ≡ b → (if b then 0 else times q sent) ≡ sent_under q (set reads i y)
    by_case q true is =
        let changed : sent_under q (set reads i y) + one_if (is_sent x.progress && (x.request == q)) ≡ sent_under q reads + one_if (is_sent y.progress && (y.request == q)) = changed_by (is_sent_as q) in
        let new : one_if (is_sent y.progress && (y.request == q)) ≡ 0 = none_of q y.request y.progress isnt in
        let few : numbered q reads ≤ 1 = few-numbered next reads sent held q it in
        let here : has_number q (get_or reads i x) ≡ true = subst (λ (r : Read). (r.request == q) ≡ true) at is in
        let only : sent_under q reads ≡ one_if (is_sent_as q (get_or reads i x)) = count-only (has_number q) (is_sent_as q) (narrower q) x reads i within here few in
        let same : one_if (is_sent_as q x) ≡ one_if (is_sent_as q (get_or reads i x)) = ap (λ (r : Read). one_if (is_sent_as q r)) at in
        omega arith
    by_case q false is =
        let changed : sent_under q (set reads i y) + one_if (is_sent x.progress && (x.request == q)) ≡ sent_under q reads + one_if (is_sent y.progress && (y.request == q)) = changed_by (is_sent_as q) in
        let new : one_if (is_sent y.progress && (y.request == q)) ≡ 0 = none_of q y.request y.progress isnt in
        let none : one_if (is_sent x.progress && (x.request == q)) ≡ 0 = none-by (is_sent x.progress) (x.request == q) is in
        let old : times q sent ≡ sent_under q reads = it.listed q in
        old ∙ omega arith

-- a read at a place is sent again, under the next number
pub indexed-again : (next : ℕ) (reads : List Read) (sent after : List ℕ) (held now : ℕ) (i : ℕ) (x y : Read) → i < length reads → x ≡ get_or reads i x → y.request ≡ next → is_sent y.progress ≡ true → is_held y ≡ false
    → IsUnlisted x.request (sent ++ next ∷ []) after (next + 1) → now + one_if (is_held x) ≡ held
    → IsIndexed next reads sent held → IsIndexed (next + 1) (set reads i y) after now
indexed-again next reads sent after held now i x y within at number is isnt cut count it = record {
  apart = λ q.
      let few : numbered q reads ≤ one_below q next = it.apart q in
      let more : one_below q next + one_if (next == q) ≡ one_below q (next + 1) = one-more q next in
      let changed : numbered q (set reads i y) + one_if (x.request == q) ≡ numbered q reads + one_if (y.request == q) = changed_by (has_number q) in
      let own : one_if (y.request == q) ≡ one_if (next == q) = ap (λ (n : ℕ). one_if (n == q)) number in
      omega arith;
  rising = cut.rising;
  listed = λ q. cut.without q ∙ by_case q (x.request == q) refl;
  counted =
      let changed : length (filter is_held (set reads i y)) + one_if (is_held x) ≡ length (filter is_held reads) + one_if (is_held y) = changed_by is_held in
      let none : one_if (is_held y) ≡ 0 = ap one_if isnt in
      let old : held ≡ length (filter is_held reads) = it.counted in
      omega arith;
}
  where
    changed_by : (p : Read → Bool) → length (filter p (set reads i y)) + one_if (p x) ≡ length (filter p reads) + one_if (p y)
    changed_by p = subst (λ (r : Read). length (filter p (set reads i y)) + one_if (p r) ≡ length (filter p reads) + one_if (p y)) (sym at) (count-set p y x reads i within)

    by_case : (q : ℕ) (b : Bool) → (x.request == q) ≡ b → (if b then 0 else times q (sent ++ next ∷ [])) ≡ sent_under q (set reads i y)
    by_case q true own =
        let same : x.request ≡ q = eqb-true x.request q own in
        let few : numbered q reads ≤ one_below q next = it.apart q in
        let here : has_number q (get_or reads i x) ≡ true = subst (λ (r : Read). (r.request == q) ≡ true) at own in
        let some : 1 ≤ numbered q reads = count-some (has_number q) x reads i within here in
        let lower : (next == q) ≡ false = given q next (omega arith) in
        let changed : numbered q (set reads i y) + one_if (x.request == q) ≡ numbered q reads + one_if (y.request == q) = changed_by (has_number q) in
        let other : one_if (y.request == q) ≡ 0 = ap (λ (n : ℕ). one_if (n == q)) number ∙ ap one_if lower in
        let mine : one_if (x.request == q) ≡ 1 = ap one_if own in
        let le : one_below q next ≤ 1 = few-at-all q next in
        let fewer : sent_under q (set reads i y) ≤ numbered q (set reads i y) = sent-few q (set reads i y) in
        omega arith
    by_case q false isnt_own =
        let listed : times q (sent ++ next ∷ []) ≡ times q sent + one_if (next == q) = count-push (λ (n : ℕ). n == q) next sent in
        let changed : sent_under q (set reads i y) + one_if (is_sent x.progress && (x.request == q)) ≡ sent_under q reads + one_if (is_sent y.progress && (y.request == q)) = changed_by (is_sent_as q) in
        let new : one_if (is_sent y.progress && (y.request == q)) ≡ one_if (next == q) = one_of q y.request y.progress is ∙ ap (λ (n : ℕ). one_if (n == q)) number in
        let none : one_if (is_sent x.progress && (x.request == q)) ≡ 0 = none-by (is_sent x.progress) (x.request == q) isnt_own in
        let old : times q sent ≡ sent_under q reads = it.listed q in
        omega arith

-- a read at a place is over
pub indexed-remove : (next : ℕ) (reads : List Read) (sent after : List ℕ) (held now : ℕ) (i : ℕ) (x : Read) → i < length reads → x ≡ get_or reads i x
    → IsUnlisted x.request sent after next → now + one_if (is_held x) ≡ held
    → IsIndexed next reads sent held → IsIndexed next (remove reads i) after now
indexed-remove next reads sent after held now i x within at cut count it = record {
  apart = λ q.
      let few : numbered q reads ≤ one_below q next = it.apart q in
      let changed : numbered q (remove reads i) + one_if (x.request == q) ≡ numbered q reads = changed_by (has_number q) in
      omega arith;
  rising = cut.rising;
  listed = λ q. cut.without q ∙ by_case q (x.request == q) refl;
  counted =
      let changed : length (filter is_held (remove reads i)) + one_if (is_held x) ≡ length (filter is_held reads) = changed_by is_held in
      let old : held ≡ length (filter is_held reads) = it.counted in
      omega arith;
}
  where
    changed_by : (p : Read → Bool) → length (filter p (remove reads i)) + one_if (p x) ≡ length (filter p reads)
    changed_by p = subst (λ (r : Read). length (filter p (remove reads i)) + one_if (p r) ≡ length (filter p reads)) (sym at) (count-remove p x reads i within)

    by_case : (q : ℕ) (b : Bool) → (x.request == q) ≡ b → (if b then 0 else times q sent) ≡ sent_under q (remove reads i)
    by_case q true own =
        let few : numbered q reads ≤ 1 = few-numbered next reads sent held q it in
        let changed : numbered q (remove reads i) + one_if (x.request == q) ≡ numbered q reads = changed_by (has_number q) in
        let mine : one_if (x.request == q) ≡ 1 = ap one_if own in
        let fewer : sent_under q (remove reads i) ≤ numbered q (remove reads i) = sent-few q (remove reads i) in
        omega arith
    by_case q false isnt_own =
        let changed : sent_under q (remove reads i) + one_if (is_sent x.progress && (x.request == q)) ≡ sent_under q reads = changed_by (is_sent_as q) in
        let none : one_if (is_sent x.progress && (x.request == q)) ≡ 0 = none-by (is_sent x.progress) (x.request == q) isnt_own in
        let old : times q sent ≡ sent_under q reads = it.listed q in
        omega arith

-- ---- looks

-- a read of a number that no other has is the first one of it
pub place-only : (q i : ℕ) (r : Read) (reads : List Read) → i < length reads → r ≡ get_or reads i r → r.request ≡ q → numbered q reads ≤ 1 → Some i ≡ position_from (λ (x : Read). x.request == q) 0 reads
place-only q i r reads within at number few =
    let here : has_number q (get_or reads i r) ≡ true = ap (has_number q) (sym at) ∙ eq-eqb r.request q number in
    let zero_more : 0 + i ≡ i = omega arith in
    sym (position-only (has_number q) r 0 reads i within here few ∙ ap (λ (n : ℕ). Some n) zero_more)

abbrev pub sent_under_number : ℕ → Read → Bool
sent_under_number q r = (r.request == q) && is_sent r.progress

passes_one : (q : ℕ) (r : Read) → sent_under_number q r ≡ true → has_number q r ≡ true
passes_one q r is = (and_parts (r.request == q) (is_sent r.progress) is).0

swapped : (q : ℕ) (r : Read) → sent_under_number q r ≡ true → is_sent_as q r ≡ true
swapped q r is = let parts = and_parts (r.request == q) (is_sent r.progress) is in and_from (is_sent r.progress) (r.request == q) parts.1 parts.0

-- a number that is not listed was sent under by none
pub find-unlisted : (next : ℕ) (reads : List Read) (sent : List ℕ) (held q : ℕ) → IsIndexed next reads sent held → times q sent ≡ 0 → None ≡ find (sent_under_number q) reads
find-unlisted next reads sent held q it none =
    let listed : times q sent ≡ sent_under q reads = it.listed q in
    let fewer : length (filter (sent_under_number q) reads) ≤ sent_under q reads = none-at-all (is_sent_as q) (sent_under_number q) (swapped q) reads in
    sym (find-nothing (sent_under_number q) reads (omega arith))

-- a number that no read has
pub find-nowhere : (q k : ℕ) (reads : List Read) → position_from (has_number q) k reads ≡ None → None ≡ find (sent_under_number q) reads
find-nowhere q k [] none = refl
find-nowhere q k (r ∷ reads) none =
    (elim (r.request == q) as (λ b. cond b (Some k) (position_from (has_number q) (k + 1) reads) ≡ None → None ≡ cond (b && is_sent r.progress) (Some r) (find (sent_under_number q) reads)) [
      | true ↦ λ found. absurd (cc)
      | false ↦ λ rest. find-nowhere q (k + 1) reads rest
    ]) none

-- the read of a number, by whether it was sent
pub find-here : (q i : ℕ) (r : Read) (reads : List Read) → i < length reads → r ≡ get_or reads i r → r.request ≡ q → numbered q reads ≤ 1 → is_sent r.progress ≡ true → Some r ≡ find (sent_under_number q) reads
find-here q i r reads within at number few is =
    let here : sent_under_number q (get_or reads i r) ≡ true = ap (sent_under_number q) (sym at) ∙ and_from (r.request == q) (is_sent r.progress) (eq-eqb r.request q number) is in
    let fewer : length (filter (sent_under_number q) reads) ≤ numbered q reads = none-at-all (has_number q) (sent_under_number q) (passes_one q) reads in
    ap (λ (x : Read). Some x) at ∙ sym (find-only (sent_under_number q) r reads i within here (omega arith))

pub find-unsent : (q i : ℕ) (r : Read) (reads : List Read) → i < length reads → r ≡ get_or reads i r → r.request ≡ q → numbered q reads ≤ 1 → is_sent r.progress ≡ false → None ≡ find (sent_under_number q) reads
find-unsent q i r reads within at number few isnt =
    let here : has_number q (get_or reads i r) ≡ true = ap (has_number q) (sym at) ∙ eq-eqb r.request q number in
    let only : length (filter (sent_under_number q) reads) ≡ one_if (sent_under_number q (get_or reads i r)) = count-only (has_number q) (sent_under_number q) (passes_one q) r reads i within here few in
    let none : one_if (sent_under_number q (get_or reads i r)) ≡ 0 = ap (λ (x : Read). one_if (sent_under_number q x)) (sym at) ∙ none-by (r.request == q) (is_sent r.progress) isnt in
    sym (find-nothing (sent_under_number q) reads (omega arith))

-- the place that a search gave has the number
pub has-place : (q k i : ℕ) (reads : List Read) → position_from (has_number q) k reads ≡ Some i → (d : Read) → (k ≤ i) × (i < k + length reads) × ((get_or reads (i - k) d).request ≡ q)
has-place q k i [] found d = absurd (cc)
has-place q k i (r ∷ reads) found d =
    (elim (r.request == q) as (λ b. (r.request == q) ≡ b → cond b (Some k) (position_from (has_number q) (k + 1) reads) ≡ Some i → (k ≤ i) × (i < k + suc (length reads)) × ((get_or (r ∷ reads) (i - k) d).request ≡ q)) [
      | true ↦ λ is here.
          let same : k ≡ i = cc in
          let none : i - k ≡ 0 = omega arith in
          (omega arith, omega arith, ap (λ (n : ℕ). (get_or (r ∷ reads) n d).request) none ∙ eqb-true r.request q is)
      | false ↦ λ isnt later.
          let rest : (k + 1 ≤ i) × (i < k + 1 + length reads) × ((get_or reads (i - (k + 1)) d).request ≡ q) = has-place q (k + 1) i reads later d in
          let low : k + 1 ≤ i = rest.0 in
          let high : i < k + 1 + length reads = rest.1 in
          let one_more : i - k ≡ suc (i - (k + 1)) = omega arith in
          (omega arith, omega arith, ap (λ (n : ℕ). (get_or (r ∷ reads) n d).request) one_more ∙ rest.2)
    ]) refl found

from_zero : (i : ℕ) → i - 0 ≡ i
from_zero i = omega arith

-- what stands at the place of a number
pub at-place : (q i : ℕ) (r : Read) (reads : List Read) → Some i ≡ position_from (λ (x : Read). x.request == q) 0 reads → r ≡ get_or reads i r → r.request ≡ q
at-place q i r reads found at =
    ap (λ (x : Read). x.request) at ∙ (ap (λ (n : ℕ). (get_or reads n r).request) (sym (from_zero i)) ∙ (has-place q 0 i reads (sym found) r).2)

-- ---- what calls come to

unheld : (r : Read) → r.progress ≡ on_its_way → is_held r ≡ false
unheld r is = ap (λ (p : Progress). is_held (record { request = r.request; from = r.from; to = r.to; asked = r.asked; progress = p })) is

pub few-in : (next : ℕ) (reads xs : List Read) (sent : List ℕ) (held q : ℕ) → xs ≡ reads → IsIndexed next reads sent held → numbered q xs ≤ 1
few-in next reads xs sent held q same it = subst (λ (rs : List Read). numbered q rs ≤ 1) (sym same) (few-numbered next reads sent held q it)

pub unlisted-in : (next : ℕ) (reads : List Read) (sent ns : List ℕ) (held q : ℕ) → ns ≡ sent → IsIndexed next reads sent held → ((high : ℕ) → AreRising 0 ns high → times q ns ≡ 0) → None ≡ find (sent_under_number q) reads
unlisted-in next reads sent ns held q same it none =
    find-unlisted next reads sent held q it (subst (λ (ks : List ℕ). times q ks ≡ 0) same (none next (subst (λ (ks : List ℕ). AreRising 0 ks next) (sym same) it.rising)))

-- the read at the place of a number
pub record AtPlace (q i : ℕ) (r : Read) (reads : List Read) : Type 0 where
  pub within : i < length reads
  pub number : r.request ≡ q

pub at-place-in : (q i : ℕ) (r : Read) (reads xs : List Read) → xs ≡ reads → Some i ≡ position_from (λ (x : Read). x.request == q) 0 xs → i < length xs → r ≡ get_or reads i r → AtPlace q i r reads
at-place-in q i r reads xs same found within at = record {
  within = subst (λ (rs : List Read). i < length rs) same within;
  number = at-place q i r reads (subst (λ (rs : List Read). Some i ≡ position_from (λ (x : Read). x.request == q) 0 rs) same found) at;
}

pub nowhere-in : (q : ℕ) (reads xs : List Read) → xs ≡ reads → None ≡ position_from (λ (x : Read). x.request == q) 0 xs → None ≡ find (sent_under_number q) reads
nowhere-in q reads xs same none = find-nowhere q 0 reads (sym (subst (λ (rs : List Read). None ≡ position_from (λ (x : Read). x.request == q) 0 rs) same none))

pub begun : (next after : ℕ) (reads now : List Read) (sent listed : List ℕ) (held : ℕ) (r : Read) → after ≡ next + 1 → now ≡ reads ++ r ∷ [] → listed ≡ sent ++ r.request ∷ [] → r.request ≡ next → r.progress ≡ on_its_way
    → IsIndexed next reads sent held → IsIndexed after now listed held
begun next after reads now sent listed held r raised pushed listed_too number progress it =
    subst (λ (n : ℕ). IsIndexed n now listed held) (sym raised)
    (subst (λ (rs : List Read). IsIndexed (next + 1) rs listed held) (sym pushed)
    (subst (λ (ns : List ℕ). IsIndexed (next + 1) (reads ++ r ∷ []) ns held) (sym (listed_too ∙ ap (λ (n : ℕ). sent ++ n ∷ []) number))
    (indexed-begin next reads sent held r number (ap is_sent progress) (unheld r progress) it)))

pub held-some : (next : ℕ) (reads : List Read) (sent : List ℕ) (held i : ℕ) (x : Read) (b : Bool) → i < length reads → x ≡ get_or reads i x → b ≡ is_held x → IsIndexed next reads sent held → one_if b ≤ held
held-some next reads sent held i x true within at is it =
    let here : is_held (get_or reads i x) ≡ true = ap is_held (sym at) ∙ sym is in
    let some : 1 ≤ length (filter is_held reads) = count-some is_held x reads i within here in
    let counted : held ≡ length (filter is_held reads) = it.counted in
    omega arith
held-some next reads sent held i x false within at is it = omega arith

pub cut-indexed : (next : ℕ) (reads now : List Read) (sent after : List ℕ) (held left i number : ℕ) (x : Read) (b : Bool) → now ≡ remove reads i → i < length reads → x ≡ get_or reads i x → number ≡ x.request
    → ((high : ℕ) → AreRising 0 sent high → IsUnlisted number sent after high) → b ≡ is_held x → left + one_if b ≡ held → IsIndexed next reads sent held → IsIndexed next now after left
cut-indexed next reads now sent after held left i number x b removed within at same cut is count it =
    subst (λ (rs : List Read). IsIndexed next rs after left) (sym removed)
    (indexed-remove next reads sent after held left i x within at (subst (λ (n : ℕ). IsUnlisted n sent after next) same (cut next it.rising))
    (subst (λ (c : Bool). left + one_if c ≡ held) is count) it)

pub put-indexed : (next : ℕ) (reads now : List Read) (sent after : List ℕ) (held others new i number : ℕ) (x y : Read) (b c : Bool) → now ≡ set reads i y → i < length reads → x ≡ get_or reads i x → y.request ≡ x.request
    → is_sent y.progress ≡ false → number ≡ y.request → ((high : ℕ) → AreRising 0 sent high → IsUnlisted number sent after high) → b ≡ is_held x → c ≡ is_held y → others + one_if b ≡ held → new ≡ others + one_if c
    → IsIndexed next reads sent held → IsIndexed next now after new
put-indexed next reads now sent after held others new i number x y b c is_set within at same unsent named cut was is count more it =
    subst (λ (rs : List Read). IsIndexed next rs after new) (sym is_set)
    (indexed-put next reads sent after held new i x y within at same unsent (subst (λ (n : ℕ). IsUnlisted n sent after next) (named ∙ same) (cut next it.rising)) balanced it)
  where
    balanced : new + one_if (is_held x) ≡ held + one_if (is_held y)
    balanced =
        let first : one_if b ≡ one_if (is_held x) = ap one_if was in
        let second : one_if c ≡ one_if (is_held y) = ap one_if is in
        omega arith

-- there is room for one more to be counted
pub room-in : (next : ℕ) (reads : List Read) (sent : List ℕ) (held others all i : ℕ) (x : Read) (b c : Bool) → i < length reads → x ≡ get_or reads i x → b ≡ is_held x → others + one_if b ≡ held → all ≡ length reads
    → IsIndexed next reads sent held → others + one_if c ≤ all
room-in next reads sent held others all i x b c within at was count size it =
    let counted : held ≡ length (filter is_held reads) = it.counted in
    let changed : length (filter is_held (remove reads i)) + one_if (is_held (get_or reads i x)) ≡ length (filter is_held reads) = count-remove is_held x reads i within in
    let own : one_if (is_held (get_or reads i x)) ≡ one_if b = ap (λ (r : Read). one_if (is_held r)) (sym at) ∙ ap one_if (sym was) in
    let fewer : length (filter is_held (remove reads i)) ≤ length (remove reads i) = length-filter-le is_held (remove reads i) in
    let shorter : length (remove reads i) + 1 ≡ length reads = length-remove reads i within in
    let one : one_if c ≤ 1 = (elim c as (λ (d : Bool). one_if d ≤ 1) [ true ↦ omega arith | false ↦ omega arith ]) in
    omega arith

pub raised-indexed : (next after : ℕ) (reads : List Read) (sent : List ℕ) (held : ℕ) → after ≡ next + 1 → IsIndexed next reads sent held → IsIndexed after reads sent held
raised-indexed next after reads sent held raised it = subst (λ (n : ℕ). IsIndexed n reads sent held) (sym raised) (indexed-raise next reads sent held it)

pub held-in : (next : ℕ) (reads xs : List Read) (sent : List ℕ) (held i : ℕ) (x : Read) (b : Bool) → xs ≡ reads → i < length xs → x ≡ get_or reads i x → b ≡ is_held x → IsIndexed next reads sent held → one_if b ≤ held
held-in next reads xs sent held i x b same within at is it = held-some next reads sent held i x b (subst (λ (rs : List Read). i < length rs) same within) at is it

pub again-indexed : (next after : ℕ) (reads xs now : List Read) (sent listed unlisted : List ℕ) (held left i number : ℕ) (x y : Read) (b : Bool) → after ≡ next + 1 → now ≡ set reads i y → xs ≡ reads → i < length xs → x ≡ get_or reads i x
    → y.request ≡ next → y.progress ≡ on_its_way → listed ≡ sent ++ next ∷ [] → number ≡ x.request → ((high : ℕ) → AreRising 0 listed high → IsUnlisted number listed unlisted high)
    → b ≡ is_held x → left + one_if b ≡ held → IsIndexed next reads sent held → IsIndexed after now unlisted left
again-indexed next after reads xs now sent listed unlisted held left i number x y b raised is_set same inside at number_is progress listed_is named cut was count it =
    subst (λ (n : ℕ). IsIndexed n now unlisted left) (sym raised)
    (subst (λ (rs : List Read). IsIndexed (next + 1) rs unlisted left) (sym is_set)
    (indexed-again next reads sent unlisted held left i x y (subst (λ (rs : List Read). i < length rs) same inside) at number_is (ap is_sent progress) (unheld y progress)
    (subst (λ (n : ℕ). IsUnlisted n (sent ++ next ∷ []) unlisted (next + 1)) named
    (subst (λ (ns : List ℕ). IsUnlisted number ns unlisted (next + 1)) listed_is
    (cut (next + 1) (subst (λ (ns : List ℕ). AreRising 0 ns (next + 1)) (sym listed_is) (rising-push 0 sent next it.rising)))))
    (subst (λ (c : Bool). left + one_if c ≡ held) was count) it))
