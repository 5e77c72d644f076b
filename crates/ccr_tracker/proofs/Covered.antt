-- Which numbers ranges cover, and that they stay apart, under each change.
use Rattle.std.proofs.Common.{◌≡◌, ℕ, zero, suc, ◌+◌, ◌-◌, ◌<◌, ◌≤◌, ◌==◌, ◌||◌, ◌&&◌, Bool, true, false, not, nat_lt, max, List, [], ◌∷◌, ◌++◌, length, cond, if◌then◌else◌, refl, sym, ◌∙◌, ap, subst, arith, Option, Some, None, IsSome, append_assoc, ◌↔◌}
use Rattle.std.specs.Prelude.{IfSome, slice_get}
use Rattle.std.specs.List.{list_any}
use Rattle.std.specs.Ordering.{nat_cmp, is_lt, is_gt}
use Rattle.std.specs.declared.cmp.Ordering.TheVariants.{Less, Equal, Greater}
use Rattle.std.specs.BTreeMap.{is_at, insert_entry}
use Rattle.std.specs.Map.{lookup, remove_entry, set_value}
use Rattle.std.proofs.lemmas.Bool.Decides.{nat_tests}
use Rattle.std.proofs.lemmas.List.Folds.{list_any-append}
use Rattle.ccr_tracker.specs.Numbers.{AscendsFrom, IsEnd, IsFirstLacking}
use Rattle.ccr_tracker.proofs.Members.{AscendsFrom-lower}
use Rattle.ccr_tracker.specs.Ranges.{is_within, covers, run_of, numbers_of, AreApart, start_of, end_from, IsBefore, IsNextAbsent}

-- ranges that begin at a number or above begin above a smaller one
pub AreApart-lower : (low high : ℕ) (rs : List (ℕ × ℕ)) → low ≤ high → AreApart high rs → AreApart low rs
AreApart-lower low high [] le h = tt
AreApart-lower low high (r ∷ rs) le h = (omega (arith, h.0), h.1, h.2)

-- below the first range nothing is covered, no range ends and none begins
pub covers-below : (k low : ℕ) (rs : List (ℕ × ℕ)) → k < low → AreApart low rs → covers rs k ≡ false
covers-below k low [] lt h = refl
covers-below k low (r ∷ rs) lt h =
    let rest : covers rs k ≡ false = covers-below k (r.1 + 1) rs (omega (arith, h.0, h.1)) h.2 in
    let first : low ≤ r.0 = h.0 in
    grind (arith, nat_tests)

pub start-below : (n low : ℕ) (rs : List (ℕ × ℕ)) → n < low → AreApart low rs → start_of rs n ≡ n
start-below n low [] lt h = refl
start-below n low (r ∷ rs) lt h =
    let other : (r.1 == n) ≡ false = let a = h.0 in let b = h.1 in grind (arith, nat_tests) in
    rw other (start-below n (r.1 + 1) rs (omega (arith, h.0, h.1)) h.2)

pub lookup-below : (n low : ℕ) (rs : List (ℕ × ℕ)) → n < low → AreApart low rs → lookup (is_at (nat_cmp n)) rs ≡ None
lookup-below n low [] lt h = refl
lookup-below n low (r ∷ rs) lt h =
    let other : is_at (nat_cmp n) r.0 ≡ false = let a = h.0 in grind (arith, nat_tests) in
    rw other (lookup-below n (r.1 + 1) rs (omega (arith, h.0, h.1)) h.2)

pub end-below : (n low : ℕ) (rs : List (ℕ × ℕ)) → n < low → AreApart low rs → end_from rs n ≡ n
end-below n low [] lt h = refl
end-below n low (r ∷ rs) lt h =
    let other : (r.0 == n) ≡ false = let a = h.0 in grind (arith, nat_tests) in
    rw other (end-below n (r.1 + 1) rs (omega (arith, h.0, h.1)) h.2)

pub remove-below : (n low : ℕ) (rs : List (ℕ × ℕ)) → n < low → AreApart low rs → remove_entry (is_at (nat_cmp n)) rs ≡ rs
remove-below n low [] lt h = refl
remove-below n low (r ∷ rs) lt h =
    let other : is_at (nat_cmp n) r.0 ≡ false = let a = h.0 in grind (arith, nat_tests) in
    rw other (ap (λ es. r ∷ es) (remove-below n (r.1 + 1) rs (omega (arith, h.0, h.1)) h.2))

-- the numbers of ranges

pub any-run : (first count k : ℕ) → list_any (λ j. j == k) (run_of first count) ≡ (not (nat_lt k first) && nat_lt k (first + count))
any-run first zero k = grind (arith, nat_tests)
any-run first (suc count) k =
    let ih : list_any (λ j. j == k) (run_of (first + 1) count) ≡ (not (nat_lt k (first + 1)) && nat_lt k (first + 1 + count)) = any-run (first + 1) count k in
    rw ih (grind (arith, nat_tests))

pub any-numbers : (low : ℕ) (rs : List (ℕ × ℕ)) (k : ℕ) → AreApart low rs → list_any (λ j. j == k) (numbers_of rs) ≡ covers rs k
any-numbers low [] k h = refl
any-numbers low (r ∷ rs) k h =
    let ih : list_any (λ j. j == k) (numbers_of rs) ≡ covers rs k = any-numbers (r.1 + 1) rs k h.2 in
    let lt : r.0 < r.1 = h.1 in
    let end : r.0 + (r.1 - r.0) ≡ r.1 = omega arith in
    let run : list_any (λ j. j == k) (run_of r.0 (r.1 - r.0)) ≡ is_within r k =
    any-run r.0 (r.1 - r.0) k ∙ ap (λ e. not (nat_lt k r.0) && nat_lt k e) end in
    list_any-append (λ j. j == k) (run_of r.0 (r.1 - r.0)) (numbers_of rs) ∙ rw (run, ih) refl

AscendsFrom-run : (first count : ℕ) (xs : List ℕ) → AscendsFrom (first + count) xs → AscendsFrom first (run_of first count ++ xs)
AscendsFrom-run first zero xs h = let e : first + 0 ≡ first = omega arith in subst (λ n. AscendsFrom n xs) e h
AscendsFrom-run first (suc count) xs h =
    let e : first + suc count ≡ first + 1 + count = omega arith in
    (omega arith, AscendsFrom-run (first + 1) count xs (subst (λ n. AscendsFrom n xs) e h))

pub AscendsFrom-numbers : (low : ℕ) (rs : List (ℕ × ℕ)) → AreApart low rs → AscendsFrom low (numbers_of rs)
AscendsFrom-numbers low [] h = tt
AscendsFrom-numbers low (r ∷ rs) h =
    let lt : r.0 < r.1 = h.1 in
    let end : r.1 ≡ r.0 + (r.1 - r.0) = omega arith in
    AscendsFrom-lower low r.0 (run_of r.0 (r.1 - r.0) ++ numbers_of rs) h.0
    (AscendsFrom-run r.0 (r.1 - r.0) (numbers_of rs)
    (subst (λ n. AscendsFrom n (numbers_of rs)) end (AscendsFrom-lower r.1 (r.1 + 1) (numbers_of rs) (omega arith) (AscendsFrom-numbers (r.1 + 1) rs h.2))))

-- where nothing is covered below, the ranges begin above
pub AreApart-from : (low high : ℕ) (rs : List (ℕ × ℕ)) → AreApart low rs → ((k : ℕ) → k < high → covers rs k ≡ false) → AreApart high rs
AreApart-from low high [] h none = tt
AreApart-from low high (r ∷ rs) h none =
    let lt : r.0 < r.1 = h.1 in
    let first : r.0 < high → covers (r ∷ rs) r.0 ≡ false = none r.0 in
    (grind (arith, nat_tests), h.1, h.2)

-- a range found by its first number

pub lookup-from : (low a b : ℕ) (rs : List (ℕ × ℕ)) → AreApart low rs → lookup (is_at (nat_cmp a)) rs ≡ Some b → low ≤ a
lookup-from low a b [] h found = absurd (cc)
lookup-from low a b (r ∷ rs) h found =
    (elim (is_at (nat_cmp a) r.0) as (λ t. is_at (nat_cmp a) r.0 ≡ t → cond t (Some r.1) (lookup (is_at (nat_cmp a)) rs) ≡ Some b → low ≤ a) [
      | true ↦ λ is e. let first : low ≤ r.0 = h.0 in grind (arith, nat_tests)
      | false ↦ λ is e. let rest : r.1 + 1 ≤ a = lookup-from (r.1 + 1) a b rs h.2 e in omega (arith, h.0, h.1)
    ]) refl found

-- no key of the ranges is at n or below, but those up to a, which they begin above
keys-above : (n a low : ℕ) (rs : List (ℕ × ℕ)) → AreApart low rs → a < low
    → ((q : ℕ) → q ≤ n → IsSome (lookup (is_at (nat_cmp q)) rs) → q ≤ a) → AreApart (n + 1) rs
keys-above n a low [] h lt upto = tt
keys-above n a low (r ∷ rs) h lt upto =
    let at : is_at (nat_cmp r.0) r.0 ≡ true = grind (arith, nat_tests) in
    let first : r.0 ≤ n → r.0 ≤ a = λ le. upto r.0 le (rw at refl) in
    let start : low ≤ r.0 = h.0 in
    (grind (arith, nat_tests), h.1, h.2)

-- the range that a key up to n begins, where no key between them begins another
module _ (n a b low : ℕ) (r : ℕ × ℕ) (rs : List (ℕ × ℕ)) (h : AreApart low (r ∷ rs)) (le : a ≤ n)
    (upto : (q : ℕ) → q ≤ n → IsSome (lookup (is_at (nat_cmp q)) (r ∷ rs)) → q ≤ a) where
  later : r.0 ≤ a → (q : ℕ) → q ≤ n → IsSome (lookup (is_at (nat_cmp q)) rs) → q ≤ a
  later first q small there =
      (elim (is_at (nat_cmp q) r.0) as (λ t. is_at (nat_cmp q) r.0 ≡ t → q ≤ a) [
        | true ↦ λ at. grind (arith, nat_tests)
        | false ↦ λ at. upto q small (rw at there)
      ]) refl

  before-here : is_at (nat_cmp a) r.0 ≡ true → Some r.1 ≡ Some b → IsBefore (r ∷ rs) n (a, b)
  before-here is e =
      let start : r.0 ≡ a = grind (arith, nat_tests) in
      let end : r.1 ≡ b = cc in
      let lt : r.0 < r.1 = h.1 in
      let above : AreApart (n + 1) rs = keys-above n a (r.1 + 1) rs h.2 (omega arith) (later (omega arith)) in
      record {
        begins = le;
        ordered = omega arith;
        held = λ k from to. grind (arith, nat_tests);
        absent = let rest : covers rs b ≡ false = covers-below b (r.1 + 1) rs (omega arith) h.2 in grind (arith, nat_tests);
        past = λ gone. let rest : covers rs n ≡ false = covers-below n (n + 1) rs (omega arith) above in grind (arith, nat_tests);
        start = let rest : start_of rs n ≡ n = start-below n (n + 1) rs (omega arith) above in rw (rest, start, end) refl;
      }

  before-there : is_at (nat_cmp a) r.0 ≡ false → lookup (is_at (nat_cmp a)) rs ≡ Some b → IsBefore rs n (a, b) → IsBefore (r ∷ rs) n (a, b)
  before-there is e rest =
      let beyond : r.1 + 1 ≤ a = lookup-from (r.1 + 1) a b rs h.2 e in
      let lt : a < b = rest.ordered in
      record {
        begins = le;
        ordered = lt;
        held = λ k from to. let there : covers rs k ≡ true = rest.held k from to in grind (arith, nat_tests);
        absent = let there : covers rs b ≡ false = rest.absent in grind (arith, nat_tests);
        past = λ gone. let there : covers rs n ≡ false = rest.past gone in grind (arith, nat_tests);
        start = let other : (r.1 == n) ≡ false = grind (arith, nat_tests) in rw other rest.start;
      }

pub before : (n a b low : ℕ) (rs : List (ℕ × ℕ)) → AreApart low rs → a ≤ n → lookup (is_at (nat_cmp a)) rs ≡ Some b
    → ((q : ℕ) → q ≤ n → IsSome (lookup (is_at (nat_cmp q)) rs) → q ≤ a) → IsBefore rs n (a, b)
before n a b low [] h le found upto = absurd (cc)
before n a b low (r ∷ rs) h le found upto =
    (elim (is_at (nat_cmp a) r.0) as (λ t. is_at (nat_cmp a) r.0 ≡ t → cond t (Some r.1) (lookup (is_at (nat_cmp a)) rs) ≡ Some b → IsBefore (r ∷ rs) n (a, b)) [
      | true ↦ λ is e. before-here n a b low r rs h le upto is e
      | false ↦ λ is e. before-there n a b low r rs h le upto is e (before n a b (r.1 + 1) rs h.2 le e (
          later n a b low r rs h le upto (let beyond : r.1 + 1 ≤ a = lookup-from (r.1 + 1) a b rs h.2 e in let lt : r.0 < r.1 = h.1 in omega arith)))
    ]) refl found

-- no key is at n or below
pub none-before : (n low : ℕ) (rs : List (ℕ × ℕ)) → AreApart low rs → ((q : ℕ) → q ≤ n → lookup (is_at (nat_cmp q)) rs ≡ None) → AreApart (n + 1) rs
none-before n low [] h none = tt
none-before n low (r ∷ rs) h none =
    let at : is_at (nat_cmp r.0) r.0 ≡ true = grind (arith, nat_tests) in
    let first : r.0 ≤ n → Some r.1 ≡ None = λ le. let e = none r.0 le in rw at at e in
    (grind (arith, nat_tests), h.1, h.2)

-- the range of the greatest key
pub end-last : (a b low : ℕ) (rs : List (ℕ × ℕ)) → AreApart low rs → lookup (is_at (nat_cmp a)) rs ≡ Some b
    → ((q : ℕ) → IsSome (lookup (is_at (nat_cmp q)) rs) → q ≤ a) → (0 < b) × IsEnd (covers rs) b
end-last a b low rs h found upto =
    let at : IsBefore rs a (a, b) = before a a b low rs h (omega arith) found (λ q le. upto q) in
    let lt : a < b = at.ordered in (
      omega arith,
      record {
        above = λ k le. (before k a b low rs h (omega arith) found (λ q small. upto q)).past le;
        reached = λ k e. at.held k (omega arith) (omega arith);
      },
    )

-- what begins right behind n, where all else is above it
record EndPart (n end : ℕ) (rs left : List (ℕ × ℕ)) : Type 0 where
  beyond : n < end
  apart : AreApart (end + 1) left
  covered : (k : ℕ) → ((not (nat_lt k n) && nat_lt k end) || covers left k) ≡ ((k == n) || covers rs k)

end-part : (n low : ℕ) (rs : List (ℕ × ℕ)) → AreApart low rs → n < low → EndPart n (end_from rs (n + 1)) rs (remove_entry (is_at (nat_cmp (n + 1))) rs)
end-part n low [] h lt = record { beyond = omega arith; apart = tt; covered = λ k. grind (arith, nat_tests) }
end-part n low (r ∷ rs) h lt =
    let first : low ≤ r.0 = h.0 in
    let long : r.0 < r.1 = h.1 in
    (elim (r.0 == n + 1) as (λ t. (r.0 == n + 1) ≡ t → EndPart n (if t then r.1 else end_from rs (n + 1)) (r ∷ rs) (remove_entry (is_at (nat_cmp (n + 1))) (r ∷ rs))) [
      | true ↦ λ is.
          let at : is_at (nat_cmp (n + 1)) r.0 ≡ true = grind (arith, nat_tests) in
          rw at (record { beyond = grind (arith, nat_tests); apart = h.2; covered = λ k. grind (arith, nat_tests) })
      | false ↦ λ is.
          let at : is_at (nat_cmp (n + 1)) r.0 ≡ false = grind (arith, nat_tests) in
          let past : n + 1 < r.0 = grind (arith, nat_tests) in
          let end : end_from rs (n + 1) ≡ n + 1 = end-below (n + 1) (r.1 + 1) rs (omega arith) h.2 in
          let left : remove_entry (is_at (nat_cmp (n + 1))) rs ≡ rs = remove-below (n + 1) (r.1 + 1) rs (omega arith) h.2 in
          rw (at, end, left) (record { beyond = omega arith; apart = (omega arith, h.1, h.2); covered = λ k. grind (arith, nat_tests) })
    ]) refl

start-from : (n low : ℕ) (rs : List (ℕ × ℕ)) → AreApart low rs → low ≤ n → low ≤ start_of rs n
start-from n low [] h le = le
start-from n low (r ∷ rs) h le =
    let first : low ≤ r.0 = h.0 in
    let long : r.0 < r.1 = h.1 in
    (elim (r.1 == n) as (λ t. (r.1 == n) ≡ t → low ≤ (if t then r.0 else start_of rs n)) [
      | true ↦ λ is. first
      | false ↦ λ is.
          (elim (nat_lt n (r.1 + 1)) as (λ t. nat_lt n (r.1 + 1) ≡ t → low ≤ start_of rs n) [
            | true ↦ λ below. let e : start_of rs n ≡ n = start-below n (r.1 + 1) rs (grind (arith, nat_tests)) h.2 in rw e le
            | false ↦ λ above. let rest : r.1 + 1 ≤ start_of rs n = start-from n (r.1 + 1) rs h.2 (grind (arith, nat_tests)) in omega arith
          ]) refl
    ]) refl

-- the ranges with an absent number, as they are put in and taken out
abbrev pub with_number : List (ℕ × ℕ) → ℕ → List (ℕ × ℕ)
with_number rs n = remove_entry (is_at (nat_cmp (n + 1))) (insert_entry nat_cmp rs (start_of rs n) (end_from rs (n + 1)))

pub record Joined (n low : ℕ) (rs now : List (ℕ × ℕ)) : Type 0 where
  pub apart : AreApart low now
  pub members : (k : ℕ) → covers now k ≡ (covers rs k || (k == n))

or_swap : (a b : Bool) → (a || b) ≡ (b || a)
or_swap true true = refl
or_swap true false = refl
or_swap false true = refl
or_swap false false = refl

joined-first : (n low : ℕ) (r : ℕ × ℕ) (rs : List (ℕ × ℕ)) → AreApart low (r ∷ rs) → low ≤ n → n < r.0 → Joined n low (r ∷ rs) (with_number (r ∷ rs) n)
joined-first n low r rs h le lt =
    let end = end_from (r ∷ rs) (n + 1) in
    let part : EndPart n end (r ∷ rs) (remove_entry (is_at (nat_cmp (n + 1))) (r ∷ rs)) = end-part n r.0 (r ∷ rs) (omega arith, h.1, h.2) lt in
    let start : start_of (r ∷ rs) n ≡ n = start-below n r.0 (r ∷ rs) lt (omega arith, h.1, h.2) in
    let less : nat_cmp n r.0 ≡ Less = grind (arith, nat_tests) in
    let other : is_at (nat_cmp (n + 1)) n ≡ false = grind (arith, nat_tests) in
    let put : insert_entry nat_cmp (r ∷ rs) n end ≡ (n, end) ∷ r ∷ rs = rw less refl in
    let taken : remove_entry (is_at (nat_cmp (n + 1))) ((n, end) ∷ r ∷ rs) ≡ (n, end) ∷ remove_entry (is_at (nat_cmp (n + 1))) (r ∷ rs) = rw other refl in
    let now : with_number (r ∷ rs) n ≡ (n, end) ∷ remove_entry (is_at (nat_cmp (n + 1))) (r ∷ rs) =
    ap (λ s. remove_entry (is_at (nat_cmp (n + 1))) (insert_entry nat_cmp (r ∷ rs) s end)) start ∙ ap (remove_entry (is_at (nat_cmp (n + 1)))) put ∙ taken in
    subst (Joined n low (r ∷ rs)) (sym now) record {
      apart = (le, part.beyond, part.apart);
      members = λ k. part.covered k ∙ or_swap (k == n) (covers (r ∷ rs) k);
    }

joined-behind : (n low : ℕ) (r : ℕ × ℕ) (rs : List (ℕ × ℕ)) → AreApart low (r ∷ rs) → r.1 ≡ n → Joined n low (r ∷ rs) (with_number (r ∷ rs) n)
joined-behind n low r rs h is =
    let long : r.0 < r.1 = h.1 in
    let end = end_from rs (n + 1) in
    let part : EndPart n end rs (remove_entry (is_at (nat_cmp (n + 1))) rs) = end-part n (r.1 + 1) rs h.2 (omega arith) in
    let beyond : n < end = part.beyond in
    let at : (r.1 == n) ≡ true = grind (arith, nat_tests) in
    let unlike : (r.0 == n + 1) ≡ false = grind (arith, nat_tests) in
    let same : nat_cmp r.0 r.0 ≡ Equal = grind (arith, nat_tests) in
    let other : is_at (nat_cmp (n + 1)) r.0 ≡ false = grind (arith, nat_tests) in
    let now : with_number (r ∷ rs) n ≡ (r.0, end) ∷ remove_entry (is_at (nat_cmp (n + 1))) rs = rw (at, unlike, same, other) refl in
    subst (Joined n low (r ∷ rs)) (sym now) record {
      apart = (h.0, omega arith, part.apart);
      members = λ k. let covered : ((not (nat_lt k n) && nat_lt k end) || covers (remove_entry (is_at (nat_cmp (n + 1))) rs) k) ≡ ((k == n) || covers rs k) = part.covered k in
          grind (arith, nat_tests);
    }

joined-later : (n low : ℕ) (r : ℕ × ℕ) (rs : List (ℕ × ℕ)) → AreApart low (r ∷ rs) → r.1 < n → Joined n (r.1 + 1) rs (with_number rs n) → Joined n low (r ∷ rs) (with_number (r ∷ rs) n)
joined-later n low r rs h lt rest =
    let long : r.0 < r.1 = h.1 in
    let from : r.1 + 1 ≤ start_of rs n = start-from n (r.1 + 1) rs h.2 (omega arith) in
    let at : (r.1 == n) ≡ false = grind (arith, nat_tests) in
    let unlike : (r.0 == n + 1) ≡ false = grind (arith, nat_tests) in
    let greater : nat_cmp (start_of rs n) r.0 ≡ Greater = grind (arith, nat_tests) in
    let other : is_at (nat_cmp (n + 1)) r.0 ≡ false = grind (arith, nat_tests) in
    let now : with_number (r ∷ rs) n ≡ r ∷ with_number rs n = rw (at, unlike, greater, other) refl in
    subst (Joined n low (r ∷ rs)) (sym now) record {
      apart = (h.0, h.1, rest.apart);
      members = λ k. let covered : covers (with_number rs n) k ≡ (covers rs k || (k == n)) = rest.members k in grind (arith, nat_tests);
    }

pub joined : (n low : ℕ) (rs : List (ℕ × ℕ)) → AreApart low rs → low ≤ n → covers rs n ≡ false → Joined n low rs (with_number rs n)
joined n low [] h le absent =
    let other : is_at (nat_cmp (n + 1)) n ≡ false = grind (arith, nat_tests) in
    rw other (record { apart = (le, omega arith, tt); members = λ k. grind (arith, nat_tests) })
joined n low (r ∷ rs) h le absent =
    let long : r.0 < r.1 = h.1 in
    (elim (nat_lt n r.0) as (λ t. nat_lt n r.0 ≡ t → Joined n low (r ∷ rs) (with_number (r ∷ rs) n)) [
      | true ↦ λ is. joined-first n low r rs h le (grind (arith, nat_tests))
      | false ↦ λ is.
          (elim (r.1 == n) as (λ t. (r.1 == n) ≡ t → Joined n low (r ∷ rs) (with_number (r ∷ rs) n)) [
            | true ↦ λ at. joined-behind n low r rs h (grind (arith, nat_tests))
            | false ↦ λ at.
                let lt : r.1 < n = grind (arith, nat_tests) in
                let out : covers rs n ≡ false = grind (arith, nat_tests) in
                joined-later n low r rs h lt (joined n (r.1 + 1) rs h.2 (omega arith) out)
          ]) refl
    ]) refl

-- the greatest range leaves, or ends earlier

pub record Without (low from to : ℕ) (rs now : List (ℕ × ℕ)) : Type 0 where
  pub apart : AreApart low now
  pub members : (k : ℕ) → covers now k ≡ (covers rs k && not (not (nat_lt k from) && nat_lt k to))

pub removed : (low a b : ℕ) (rs : List (ℕ × ℕ)) → AreApart low rs → lookup (is_at (nat_cmp a)) rs ≡ Some b → Without low a b rs (remove_entry (is_at (nat_cmp a)) rs)
removed low a b [] h found = absurd (cc)
removed low a b (r ∷ rs) h found =
    let long : r.0 < r.1 = h.1 in
    let first : low ≤ r.0 = h.0 in
    (elim (is_at (nat_cmp a) r.0) as (λ t. is_at (nat_cmp a) r.0 ≡ t → cond t (Some r.1) (lookup (is_at (nat_cmp a)) rs) ≡ Some b
    → Without low a b (r ∷ rs) (cond t rs (r ∷ remove_entry (is_at (nat_cmp a)) rs))) [
      | true ↦ λ is e.
          let start : r.0 ≡ a = grind (arith, nat_tests) in
          let end : r.1 ≡ b = cc in
          record {
            apart = AreApart-lower low (r.1 + 1) rs (omega arith) h.2;
            members = λ k. let rest : k < r.1 + 1 → covers rs k ≡ false = λ lt. covers-below k (r.1 + 1) rs lt h.2 in grind (arith, nat_tests);
          }
      | false ↦ λ is e.
          let beyond : r.1 + 1 ≤ a = lookup-from (r.1 + 1) a b rs h.2 e in
          let ih = removed (r.1 + 1) a b rs h.2 e in
          record {
            apart = (h.0, h.1, ih.apart);
            members = λ k. let rest : covers (remove_entry (is_at (nat_cmp a)) rs) k ≡ (covers rs k && not (not (nat_lt k a) && nat_lt k b)) = ih.members k in grind (arith, nat_tests);
          }
    ]) refl found

pub shortened : (low a b n : ℕ) (rs : List (ℕ × ℕ)) → AreApart low rs → lookup (is_at (nat_cmp a)) rs ≡ Some b → a < n → n ≤ b
    → Without low n b rs (set_value (is_at (nat_cmp a)) rs n)
shortened low a b n [] h found lt le = absurd (cc)
shortened low a b n (r ∷ rs) h found lt le =
    let long : r.0 < r.1 = h.1 in
    let first : low ≤ r.0 = h.0 in
    (elim (is_at (nat_cmp a) r.0) as (λ t. is_at (nat_cmp a) r.0 ≡ t → cond t (Some r.1) (lookup (is_at (nat_cmp a)) rs) ≡ Some b
    → Without low n b (r ∷ rs) (cond t ((r.0, n) ∷ rs) (r ∷ set_value (is_at (nat_cmp a)) rs n))) [
      | true ↦ λ is e.
          let start : r.0 ≡ a = grind (arith, nat_tests) in
          let end : r.1 ≡ b = cc in
          record {
            apart = (h.0, omega arith, AreApart-lower (n + 1) (r.1 + 1) rs (omega arith) h.2);
            members = λ k. let rest : k < r.1 + 1 → covers rs k ≡ false = λ lt. covers-below k (r.1 + 1) rs lt h.2 in grind (arith, nat_tests);
          }
      | false ↦ λ is e.
          let beyond : r.1 + 1 ≤ a = lookup-from (r.1 + 1) a b rs h.2 e in
          let ih = shortened (r.1 + 1) a b n rs h.2 e lt le in
          record {
            apart = (h.0, h.1, ih.apart);
            members = λ k. let rest : covers (set_value (is_at (nat_cmp a)) rs n) k ≡ (covers rs k && not (not (nat_lt k n) && nat_lt k b)) = ih.members k in grind (arith, nat_tests);
          }
    ]) refl found

-- the first range joins what is below the count
pub taken : (count a b low : ℕ) (rs : List (ℕ × ℕ)) → AreApart low ((a, b) ∷ rs) → a ≤ count → (k : ℕ)
    → (nat_lt k (max count b) || covers rs k) ≡ (nat_lt k count || covers ((a, b) ∷ rs) k)
taken count a b low rs h le k = let long : a < b = h.1 in grind (arith, nat_tests)

-- a range behind all others

begins-from : (low a b : ℕ) (xs ys : List (ℕ × ℕ)) → AreApart low (xs ++ (a, b) ∷ ys) → low ≤ a
begins-from low a b [] ys h = h.0
begins-from low a b (x ∷ xs) ys h = let rest : x.1 + 1 ≤ a = begins-from (x.1 + 1) a b xs ys h.2 in let first : low ≤ x.0 = h.0 in let long : x.0 < x.1 = h.1 in omega arith

insert-last : (low a b : ℕ) (xs ys : List (ℕ × ℕ)) → AreApart low (xs ++ (a, b) ∷ ys) → insert_entry nat_cmp xs a b ≡ xs ++ (a, b) ∷ []
insert-last low a b [] ys h = refl
insert-last low a b (x ∷ xs) ys h =
    let from : x.1 + 1 ≤ a = begins-from (x.1 + 1) a b xs ys h.2 in
    let long : x.0 < x.1 = h.1 in
    let is : nat_cmp a x.0 ≡ Greater = grind (arith, nat_tests) in
    rw is (ap (λ zs. x ∷ zs) (insert-last (x.1 + 1) a b xs ys h.2))

pub inserted_last : (low a b : ℕ) (xs ys all inserted : List (ℕ × ℕ)) → AreApart low all → xs ++ (a, b) ∷ ys ≡ all → inserted ≡ insert_entry nat_cmp xs a b → inserted ++ ys ≡ all
inserted_last low a b xs ys all inserted up is at =
    let last : insert_entry nat_cmp xs a b ≡ xs ++ (a, b) ∷ [] = insert-last low a b xs ys (subst (AreApart low) (sym is) up) in
    rw (at, last, append_assoc) is

-- orders, as a map's clauses say them

pub not_above : (q n : ℕ) → q ≤ n → is_gt (nat_cmp q n) ≡ false
not_above q n le = grind (arith, nat_tests)

pub from_not_above : (q n : ℕ) → is_gt (nat_cmp q n) ≡ false → q ≤ n
from_not_above q n is = grind (arith, nat_tests)

pub from_not_below : (a q : ℕ) → is_lt (nat_cmp a q) ≡ false → q ≤ a
from_not_below a q is = grind (arith, nat_tests)

-- the end of a range that is looked up

pub end-found : (n e : ℕ) (rs : List (ℕ × ℕ)) → Some e ≡ lookup (is_at (nat_cmp n)) rs → e ≡ end_from rs n
end-found n e [] is = absurd (cc)
end-found n e (r ∷ rs) is =
    (elim (is_at (nat_cmp n) r.0) as (λ t. is_at (nat_cmp n) r.0 ≡ t → Some e ≡ cond t (Some r.1) (lookup (is_at (nat_cmp n)) rs) → e ≡ end_from (r ∷ rs) n) [
      | true ↦ λ at found. let same : (r.0 == n) ≡ true = grind (arith, nat_tests) in rw same (cc)
      | false ↦ λ at found. let other : (r.0 == n) ≡ false = grind (arith, nat_tests) in rw other (end-found n e rs found)
    ]) refl is

pub end-none : (n : ℕ) (rs : List (ℕ × ℕ)) → None ≡ lookup (is_at (nat_cmp n)) rs → n ≡ end_from rs n
end-none n [] is = refl
end-none n (r ∷ rs) is =
    (elim (is_at (nat_cmp n) r.0) as (λ t. is_at (nat_cmp n) r.0 ≡ t → None ≡ cond t (Some r.1) (lookup (is_at (nat_cmp n)) rs) → n ≡ end_from (r ∷ rs) n) [
      | true ↦ λ at found. absurd (cc)
      | false ↦ λ at found. let other : (r.0 == n) ≡ false = grind (arith, nat_tests) in rw other (end-none n rs found)
    ]) refl is

-- the number is put in
pub number-put : (n start end : ℕ) (rs put now : List (ℕ × ℕ)) → start ≡ start_of rs n → end ≡ end_from rs (n + 1) → put ≡ insert_entry nat_cmp rs start end
    → now ≡ remove_entry (is_at (nat_cmp (n + 1))) put → now ≡ with_number rs n
number-put n start end rs put now is ends first last =
    last ∙ ap (remove_entry (is_at (nat_cmp (n + 1)))) (first ∙ ap (λ s. insert_entry nat_cmp rs s end) is ∙ ap (λ e. insert_entry nat_cmp rs (start_of rs n) e) ends)

-- the first range

pub popped : (a b : ℕ) (old new : List (ℕ × ℕ)) (result : Option (ℕ × ℕ)) → slice_get old 0 ≡ Some (a, b) → (IsSome result ↔ (0 < length old))
    → IfSome result (λ p. old ≡ p ∷ new) → old ≡ (a, b) ∷ new
popped a b [] new result first some is = absurd (cc)
popped a b (r ∷ rs) new None first some is = let h : false ≡ true = some.1 (omega arith) in absurd (cc)
popped a b (r ∷ rs) new (Some p) first some is = cc

pub begins-above : (count a b low : ℕ) (rs : List (ℕ × ℕ)) → AreApart low rs → slice_get rs 0 ≡ Some (a, b) → count < a → AreApart (count + 1) rs
begins-above count a b low [] h first lt = tt
begins-above count a b low (r ∷ rs) h first lt = let same : r.0 ≡ a = cc in (omega arith, h.1, h.2)

-- a set that is cut
module _ (n : ℕ) (rs all : List (ℕ × ℕ)) (kept : (k : ℕ) → (covers rs k && nat_lt k n) ≡ (covers all k && nat_lt k n)) where
  pub cut-removed : (low a b : ℕ) (now : List (ℕ × ℕ)) → Without low a b rs now → n ≤ a → (k : ℕ) → (covers now k && nat_lt k n) ≡ (covers all k && nat_lt k n)
  cut-removed low a b now is le k =
      let left : covers now k ≡ (covers rs k && not (not (nat_lt k a) && nat_lt k b)) = is.members k in
      let same : (covers rs k && nat_lt k n) ≡ (covers all k && nat_lt k n) = kept k in
      grind (arith, nat_tests)

  pub cut-done : (b : ℕ) → IsEnd (covers rs) b → b ≤ n → (k : ℕ) → covers rs k ≡ (covers all k && nat_lt k n)
  cut-done b end le k =
      let same : (covers rs k && nat_lt k n) ≡ (covers all k && nat_lt k n) = kept k in
      let out : b ≤ k → covers rs k ≡ false = end.above k in
      grind (arith, nat_tests)

  pub cut-shortened : (low b : ℕ) (now : List (ℕ × ℕ)) → Without low n b rs now → IsEnd (covers rs) b → (k : ℕ) → covers now k ≡ (covers all k && nat_lt k n)
  cut-shortened low b now is end k =
      let left : covers now k ≡ (covers rs k && not (not (nat_lt k n) && nat_lt k b)) = is.members k in
      let same : (covers rs k && nat_lt k n) ≡ (covers all k && nat_lt k n) = kept k in
      let out : b ≤ k → covers rs k ≡ false = end.above k in
      grind (arith, nat_tests)

-- the least number of ranges that is neither below a count nor held
module _ (count a b next : ℕ) (rs held more : List (ℕ × ℕ)) (apart : AreApart 0 ((a, b) ∷ more)) (inside : (k : ℕ) → covers ((a, b) ∷ more) k ≡ true → covers rs k ≡ true)
    (left : (k : ℕ) → covers rs k ≡ true → ((nat_lt k count || covers held k) || covers ((a, b) ∷ more) k) ≡ true)
    (is : IsNextAbsent (covers held) (max count a) next) where
  pub outside-found : next < b → IsFirstLacking (covers rs) (λ k. nat_lt k count || covers held k) (Some next)
  outside-found lt =
      let from : max count a ≤ next = is.reached in
      let absent : covers held next ≡ false = is.absent in (
        inside next (grind (arith, nat_tests)),
        grind (arith, nat_tests),
        λ k small there.
            let any : ((nat_lt k count || covers held k) || (is_within (a, b) k || covers more k)) ≡ true = left k there in
            let none : covers more k ≡ false = covers-below k (b + 1) more (omega arith) apart.2 in
            let has : max count a ≤ k → covers held k ≡ true = λ le. is.held k le small in
            grind (arith, nat_tests),
      )

  pub outside-left : b ≤ next → (k : ℕ) → covers rs k ≡ true → ((nat_lt k count || covers held k) || covers more k) ≡ true
  outside-left le k there =
      let any : ((nat_lt k count || covers held k) || (is_within (a, b) k || covers more k)) ≡ true = left k there in
      let has : max count a ≤ k → k < next → covers held k ≡ true = is.held k in
      grind (arith, nat_tests)

  pub outside-inside : (k : ℕ) → covers more k ≡ true → covers rs k ≡ true
  outside-inside k there = inside k (grind (arith, nat_tests))
