-- Numbers that rise.
use Rattle.std.proofs.Common.{◌≡◌, ℕ, ◌<◌, ◌≤◌, ◌+◌, ◌==◌, zero, suc, Bool, true, false, nat_lt, if◌then◌else◌, List, [], ◌∷◌, ◌++◌, length, get_or, Option, Result, Ok, Err, refl, sym, ◌∙◌, ap, subst, arith}
use Rattle.std.specs.List.{remove}
use Rattle.std.specs.Ordering.{nat_cmp}
use Rattle.std.specs.Option.{MatchOption}
use Rattle.std.specs.Result.{MatchResult, result_ok}
use Rattle.std.specs.List.Sorted.{IsBinarySearchResult}
use Rattle.std.proofs.lemmas.Bool.{eqb-true}
use Rattle.std.proofs.lemmas.Bool.Decides.{nat_tests}
use Rattle.std.proofs.lemmas.List.Sorted.{searched}
use Rattle.ccr_task.specs.Indexed.{AreRising, IsThere, IsUnlisted, times}
use Rattle.ccr_task.proofs.Counts.{one_if, count-more, count-remove}

pub rising-push : (low : ℕ) (ns : List ℕ) (n : ℕ) → AreRising low ns n → AreRising low (ns ++ n ∷ []) (n + 1)
rising-push low [] n up = let from : low ≤ n = up in (from, omega arith)
rising-push low (m ∷ ns) n up = (up.0, rising-push (m + 1) ns n up.1)

pub rising-raise : (low : ℕ) (ns : List ℕ) (high higher : ℕ) → high ≤ higher → AreRising low ns high → AreRising low ns higher
rising-raise low [] high higher le up = let from : low ≤ high = up in omega arith
rising-raise low (m ∷ ns) high higher le up = (up.0, rising-raise (m + 1) ns high higher le up.1)

pub rising-lower : (lower low : ℕ) (ns : List ℕ) (high : ℕ) → lower ≤ low → AreRising low ns high → AreRising lower ns high
rising-lower lower low [] high le up = let from : low ≤ high = up in omega arith
rising-lower lower low (m ∷ ns) high le up = let from : low ≤ m = up.0 in (omega arith, up.1)

pub rising-remove : (low : ℕ) (ns : List ℕ) (i high : ℕ) → AreRising low ns high → AreRising low (remove ns i) high
rising-remove low [] zero high up = up
rising-remove low [] (suc i) high up = up
rising-remove low (m ∷ ns) zero high up = let from : low ≤ m = up.0 in rising-lower low (m + 1) ns high (omega arith) up.1
rising-remove low (m ∷ ns) (suc i) high up = (up.0, rising-remove (m + 1) ns i high up.1)

one-here : (n : ℕ) → one_if (n == n) ≡ 1
one-here n = let e : (n == n) ≡ true = grind (arith, nat_tests) in ap one_if e

pub one-apart : (m n : ℕ) → (m ≡ n → ⊥) → one_if (m == n) ≡ 0
one-apart m n isnt = let e : (m == n) ≡ false = grind (arith, nat_tests) in ap one_if e

pub times-below : (low : ℕ) (ns : List ℕ) (high n : ℕ) → AreRising low ns high → n < low → times n ns ≡ 0
times-below low [] high n up below = refl
times-below low (m ∷ ns) high n up below =
    let from : low ≤ m = up.0 in
    let rest : times n ns ≡ 0 = times-below (m + 1) ns high n up.1 (omega arith) in
    let apart : one_if (m == n) ≡ 0 = one-apart m n (λ is. omega arith) in
    omega (arith, count-more (λ (k : ℕ). k == n) m ns)

pub times-few : (low : ℕ) (ns : List ℕ) (high n : ℕ) → AreRising low ns high → times n ns ≤ 1
times-few low [] high n up = omega arith
times-few low (m ∷ ns) high n up =
    let more : times n (m ∷ ns) ≡ one_if (m == n) + times n ns = count-more (λ (k : ℕ). k == n) m ns in
    (elim (m == n) as (λ b. (m == n) ≡ b → times n (m ∷ ns) ≤ 1) [
      | true ↦ λ is.
          let same : m ≡ n = eqb-true m n is in
          let none : times n ns ≡ 0 = times-below (m + 1) ns high n up.1 (omega arith) in
          let one : one_if (m == n) ≡ 1 = ap one_if is in
          omega arith
      | false ↦ λ isnt.
          let rest : times n ns ≤ 1 = times-few (m + 1) ns high n up.1 in
          let none : one_if (m == n) ≡ 0 = ap one_if isnt in
          omega arith
    ]) refl

floor : (low : ℕ) (ns : List ℕ) (high j : ℕ) → AreRising low ns high → j < length ns → low ≤ get_or ns j 0
floor low [] high j up lt = absurd (omega arith)
floor low (n ∷ ns) high zero up lt = up.0
floor low (n ∷ ns) high (suc j) up lt =
    let from : low ≤ n = up.0 in
    let rest : n + 1 ≤ get_or ns j 0 = floor (n + 1) ns high j up.1 (omega arith) in
    omega arith

non_decreasing : (low : ℕ) (ns : List ℕ) (high i j : ℕ) → AreRising low ns high → i ≤ j → j < length ns → get_or ns i 0 ≤ get_or ns j 0
non_decreasing low [] high i j up le lt = absurd (omega arith)
non_decreasing low (n ∷ ns) high zero zero up le lt = omega arith
non_decreasing low (n ∷ ns) high zero (suc j) up le lt = let rest : n + 1 ≤ get_or ns j 0 = floor (n + 1) ns high j up.1 (omega arith) in omega arith
non_decreasing low (n ∷ ns) high (suc i) zero up le lt = absurd (omega arith)
non_decreasing low (n ∷ ns) high (suc i) (suc j) up le lt = non_decreasing (n + 1) ns high i j up.1 (omega arith) (omega arith)

-- what is at no place is not there
times-none : (n : ℕ) (ns : List ℕ) → ((k : ℕ) → k < length ns → get_or ns k 0 ≡ n → ⊥) → times n ns ≡ 0
times-none n [] none = refl
times-none n (m ∷ ns) none =
    let rest : times n ns ≡ 0 = times-none n ns (λ k lt. none (suc k) (omega arith)) in
    let apart : one_if (m == n) ≡ 0 = one-apart m n (none 0 (omega arith)) in
    omega (arith, count-more (λ (k : ℕ). k == n) m ns)

-- what a search for a number among rising ones finds: its place, or that it is not there
pub search-rising : (ns : List ℕ) (n high : ℕ) (r : Result ℕ ℕ) → IsBinarySearchResult (λ y. nat_cmp y n) ns r → AreRising 0 ns high → MatchResult r (IsThere n ns) (λ _. times n ns ≡ 0)
search-rising ns n high (Ok i) position up =
    let it : (i < length ns) × (get_or ns i 0 ≡ n) = searched ns n (Ok i) position (λ i j. non_decreasing 0 ns high i j up) in
    record { within = it.0; here = it.1 }
search-rising ns n high (Err i) position up =
    let it : (i ≤ length ns) × ((k : ℕ) → k < i → get_or ns k 0 < n) × ((k : ℕ) → i ≤ k → k < length ns → n < get_or ns k 0) = searched ns n (Err i) position (λ i j. non_decreasing 0 ns high i j up) in
    times-none n ns (λ k lt is. apart i k (get_or ns k 0) n is (it.1 k) (λ le. it.2 k le lt))
  where
    apart : (i k m n : ℕ) → m ≡ n → (k < i → m < n) → (i ≤ k → n < m) → ⊥
    apart i k m n is below above =
        (elim (nat_lt k i) as (λ b. nat_lt k i ≡ b → ⊥) [
          | true ↦ λ lt. let less : k < i = grind (arith, nat_tests) in let low : m < n = below less in omega arith
          | false ↦ λ ge. let more : i ≤ k = grind (arith, nat_tests) in let high : n < m = above more in omega arith
        ]) refl

pub place-rising : (ns : List ℕ) (n high : ℕ) (r : Result ℕ ℕ) (o : Option ℕ) → o ≡ result_ok r → IsBinarySearchResult (λ y. nat_cmp y n) ns r → AreRising 0 ns high → MatchOption o (times n ns ≡ 0) (IsThere n ns)
place-rising ns n high (Ok i) o is position up =
    subst (λ (o : Option ℕ). MatchOption o (times n ns ≡ 0) (IsThere n ns)) (sym is) (search-rising ns n high (Ok i) position up)
place-rising ns n high (Err i) o is position up =
    subst (λ (o : Option ℕ). MatchOption o (times n ns ≡ 0) (IsThere n ns)) (sym is) (search-rising ns n high (Err i) position up)

-- a number that is taken out where it was found
pub times-removed : (m n : ℕ) (ns : List ℕ) (i : ℕ) → IsThere m ns i → times n (remove ns i) + one_if (m == n) ≡ times n ns
times-removed m n ns i it = subst (λ (k : ℕ). times n (remove ns i) + one_if (k == n) ≡ times n ns) it.here (count-remove (λ (k : ℕ). k == n) 0 ns i it.within)

-- it is not there any more
pub unlisted-there : (m : ℕ) (ns : List ℕ) (i high : ℕ) → IsThere m ns i → AreRising 0 ns high → IsUnlisted m ns (remove ns i) high
unlisted-there m ns i high it up = record {
  rising = rising-remove 0 ns i high up;
  without = λ n.
      let cut : times n (remove ns i) + one_if (m == n) ≡ times n ns = times-removed m n ns i it in
      let few : times n ns ≤ 1 = times-few 0 ns high n up in
      by_case n (m == n) refl cut few;
}
  where
    by_case : (n : ℕ) (b : Bool) → (m == n) ≡ b → times n (remove ns i) + one_if b ≡ times n ns → times n ns ≤ 1 → times n (remove ns i) ≡ (if b then 0 else times n ns)
    by_case n true is cut few = let one : times n (remove ns i) + 1 ≡ times n ns = cut in omega arith
    by_case n false is cut few = let none : times n (remove ns i) + 0 ≡ times n ns = cut in omega arith

pub unlisted-nowhere : (m : ℕ) (ns : List ℕ) (high : ℕ) → times m ns ≡ 0 → AreRising 0 ns high → IsUnlisted m ns ns high
unlisted-nowhere m ns high none up = record {
  rising = up;
  without = λ n. by_case n (m == n) refl;
}
  where
    by_case : (n : ℕ) (b : Bool) → (m == n) ≡ b → times n ns ≡ (if b then 0 else times n ns)
    by_case n true is = let same : m ≡ n = eqb-true m n is in ap (λ (k : ℕ). times k ns) (sym same) ∙ none
    by_case n false is = refl

pub unlisted-in-place : (m : ℕ) (ns slice new : List ℕ) (i high : ℕ) → slice ≡ ns → new ≡ remove ns i → ((bound : ℕ) → AreRising 0 slice bound → IsThere m slice i) → AreRising 0 ns high → IsUnlisted m ns new high
unlisted-in-place m ns slice new i high same removed there up =
    subst (λ (ks : List ℕ). IsUnlisted m ns ks high) (sym removed)
    (unlisted-there m ns i high (subst (λ (ks : List ℕ). IsThere m ks i) same (there high (subst (λ (ks : List ℕ). AreRising 0 ks high) (sym same) up))) up)

pub unlisted-in-none : (m : ℕ) (ns slice : List ℕ) (high : ℕ) → slice ≡ ns → ((bound : ℕ) → AreRising 0 slice bound → times m slice ≡ 0) → AreRising 0 ns high → IsUnlisted m ns ns high
unlisted-in-none m ns slice high same none up =
    unlisted-nowhere m ns high (subst (λ (ks : List ℕ). times m ks ≡ 0) same (none high (subst (λ (ks : List ℕ). AreRising 0 ks high) (sym same) up))) up
