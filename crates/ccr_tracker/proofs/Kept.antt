-- What a count and the ranges above it say of the set that they keep.
use Rattle.std.proofs.Common.{◌≡◌, ℕ, ◌+◌, ◌-◌, ◌<◌, ◌≤◌, ◌==◌, ◌||◌, ◌&&◌, Bool, true, false, not, nat_lt, min, max, List, [], ◌∷◌, map, filter, if◌then◌else◌, refl, sym, ◌∙◌, ap, subst, arith, IsTrue, ◌↔◌, ◌≢◌, Option, Some, None}
use Rattle.std.specs.List.{list_any}
use Rattle.std.specs.Ordering.{nat_cmp}
use Rattle.std.specs.BTreeSet.{insert_key}
use Rattle.std.proofs.lemmas.Bool.Decides.{nat_tests}
use Rattle.ccr_tracker.specs.Numbers.{Numbers, has, AscendsFrom, IsCanonical, IsEnd, IsFirstLacking, IsLeastAbsent, HasGap, risen, marked, filled_below, kept_below, greatest, end_of}
use Rattle.ccr_tracker.specs.Ranges.{covers, numbers_of, AreApart, IsNextAbsent}
use Rattle.ccr_tracker.proofs.Members.{AscendsFrom-lower, AscendsFrom-insert, any-insert, any-filter, has-risen, one_form}
use Rattle.ccr_tracker.proofs.Covered.{AreApart-from, any-numbers, covers-below, AscendsFrom-numbers}

-- the sets that changes give, as members and in the one form

canonical-risen : (count low : ℕ) (xs : List ℕ) → AscendsFrom low xs → IsCanonical (risen count xs)
canonical-risen count low [] up = tt
canonical-risen count low (x ∷ xs) up =
    (elim (nat_lt x count) as (λ b. nat_lt x count ≡ b → IsCanonical (if b then risen count xs else if x == count then risen (count + 1) xs else record { count = count; above = x ∷ xs })) [
      | true ↦ λ is. canonical-risen count (x + 1) xs up.1
      | false ↦ λ is. (elim (x == count) as (λ b. (x == count) ≡ b → IsCanonical (if b then risen (count + 1) xs else record { count = count; above = x ∷ xs })) [
        | true ↦ λ at. canonical-risen (count + 1) (x + 1) xs up.1
        | false ↦ λ at. (grind (arith, nat_tests), up.1)
      ]) refl
    ]) refl

-- a set in the one form with the members that a change leaves
record IsSetOf (test : ℕ → Bool) (s : Numbers) : Type 0 where
  canonical : IsCanonical s
  members : (k : ℕ) → has s k ≡ test k

marked-set : (s : Numbers) (n : ℕ) → IsCanonical s → has s n ≡ false → IsSetOf (λ k. has s k || (k == n)) (marked s n)
marked-set s n up absent =
    rw absent ((elim (n == s.count) as (λ b. (n == s.count) ≡ b → IsSetOf (λ k. has s k || (k == n)) (if b then risen (n + 1) s.above else record s { above = insert_key nat_cmp s.above n })) [
      | true ↦ λ at. record {
        canonical = canonical-risen (n + 1) (s.count + 1) s.above up;
        members = λ k. has-risen (n + 1) s.above k ∙ grind (arith, nat_tests);
      }
      | false ↦ λ past. record {
        canonical = AscendsFrom-insert (s.count + 1) n s.above (grind (arith, nat_tests)) up;
        members = λ k. rw (any-insert n k s.above) (grind (arith, nat_tests));
      }
    ]) refl)

filled-set : (s : Numbers) (n : ℕ) → IsCanonical s → IsSetOf (λ k. has s k || nat_lt k n) (filled_below s n)
filled-set s n up = record {
  canonical = canonical-risen (max s.count n) (s.count + 1) s.above up;
  members = λ k. has-risen (max s.count n) s.above k ∙ grind (arith, nat_tests);
}

ascends-filter : (low n : ℕ) (xs : List ℕ) → AscendsFrom low xs → AscendsFrom low (filter (λ k. nat_lt k n) xs)
ascends-filter low n [] up = tt
ascends-filter low n (x ∷ xs) up =
    elim (nat_lt x n) as (λ b. AscendsFrom low (if b then x ∷ filter (λ j. nat_lt j n) xs else filter (λ j. nat_lt j n) xs)) [
      | true ↦ (up.0, ascends-filter (x + 1) n xs up.1)
      | false ↦ AscendsFrom-lower low (x + 1) _ (omega (arith, up.0)) (ascends-filter (x + 1) n xs up.1)
    ]

kept-set : (s : Numbers) (n : ℕ) → IsCanonical s → IsSetOf (λ k. has s k && nat_lt k n) (kept_below s n)
kept-set s n up = record {
  canonical = AscendsFrom-lower (min s.count n + 1) (s.count + 1) (filter (λ j. nat_lt j n) s.above) (omega arith) (ascends-filter (s.count + 1) n s.above up);
  members = λ k. rw (any-filter n k s.above) (grind (arith, nat_tests));
}

-- a tracker's set
abbrev pub set_of : ℕ → List (ℕ × ℕ) → Numbers
set_of count rs = record { count = count; above = numbers_of rs }

pub has-set : (count : ℕ) (rs : List (ℕ × ℕ)) → AreApart (count + 1) rs → (k : ℕ) → has (set_of count rs) k ≡ (nat_lt k count || covers rs k)
has-set count rs apart k = ap (λ b. nat_lt k count || b) (any-numbers (count + 1) rs k apart)

same : (test : ℕ → Bool) (count : ℕ) (rs : List (ℕ × ℕ)) (t : Numbers) → AreApart (count + 1) rs → ((k : ℕ) → has (set_of count rs) k ≡ test k) → IsSetOf test t
    → set_of count rs ≡ t
same test count rs t apart members is =
    one_form (set_of count rs) t (AscendsFrom-numbers (count + 1) rs apart) is.canonical (λ k. members k ∙ sym (is.members k))

module _ (count : ℕ) (rs : List (ℕ × ℕ)) (s : Numbers) (is : set_of count rs ≡ s) (apart : AreApart (count + 1) rs) where
  pub has-is : (k : ℕ) → (nat_lt k count || covers rs k) ≡ has s k
  has-is k = sym (has-set count rs apart k) ∙ ap (λ (t : Numbers). has t k) is

  pub has-above : (n : ℕ) (result : Bool) → count ≤ n → result ≡ covers rs n → result ≡ has s n
  has-above n result le is = let more : covers rs n ≡ (nat_lt n count || covers rs n) = grind (arith, nat_tests) in is ∙ more ∙ has-is n

  pub canonical : IsCanonical s
  canonical = subst IsCanonical is (AscendsFrom-numbers (count + 1) rs apart)

  pub least_absent : IsLeastAbsent (has s) count
  least_absent = record {
    absent = let none : covers rs count ≡ false = covers-below count (count + 1) rs (omega arith) apart in sym (has-is count) ∙ grind (arith, nat_tests);
    below = λ k lt. sym (has-is k) ∙ grind (arith, nat_tests);
  }

  pub next-below : (n : ℕ) → n < count → IsNextAbsent (has s) n count
  next-below n lt = record { reached = omega arith; absent = least_absent.absent; held = λ k from to. least_absent.below k to }

  pub next-above : (n next : ℕ) → count ≤ n → IsNextAbsent (covers rs) n next → IsNextAbsent (has s) n next
  next-above n next le found =
      let from : n ≤ next = found.reached in
      record {
        reached = from;
        absent = let out : covers rs next ≡ false = found.absent in sym (has-is next) ∙ grind (arith, nat_tests);
        held = λ k start to. let there : covers rs k ≡ true = found.held k start to in sym (has-is k) ∙ grind (arith, nat_tests);
      }

  pub is-end : (end : ℕ) → 0 < end → IsEnd (covers rs) end → IsEnd (has s) end
  is-end end some last =
      let first : (k : ℕ) → end ≡ k + 1 → count < end = λ k e.
      let there : covers rs k ≡ true = last.reached k e in
      let out : k < count + 1 → covers rs k ≡ false = λ lt. covers-below k (count + 1) rs lt apart in
      grind (arith, nat_tests) in
      record {
        above = λ k le. let out : covers rs k ≡ false = last.above k le in let low : count < end = first (end - 1) (omega arith) in sym (has-is k) ∙ grind (arith, nat_tests);
        reached = λ k e. let there : covers rs k ≡ true = last.reached k e in sym (has-is k) ∙ grind (arith, nat_tests);
      }

  pub has_gap : (empty : Bool) → (IsTrue empty ↔ (rs ≡ [])) → IsTrue (not empty) ↔ HasGap s
  has_gap empty iff = subst (λ (t : Numbers). IsTrue (not empty) ↔ HasGap t) is (cases rs apart empty iff)
    where
      cases : (rs : List (ℕ × ℕ)) → AreApart (count + 1) rs → (empty : Bool) → (IsTrue empty ↔ (rs ≡ [])) → IsTrue (not empty) ↔ HasGap (set_of count rs)
      cases [] apart true iff = (λ h. absurd (cc), λ h. absurd (grind (arith, nat_tests, h.1, h.2)))
      cases [] apart false iff = let no : false ≡ true = iff.1 refl in absurd (cc)
      cases (r ∷ rs) apart true iff = let no : r ∷ rs ≡ [] = iff.0 refl in absurd (cc)
      cases (r ∷ rs) apart false iff =
          let long : r.0 < r.1 = apart.1 in
          (λ h. (r.0, omega (arith, apart.0), has-set count (r ∷ rs) apart r.0 ∙ grind (arith, nat_tests)), λ h. refl)

  pub not_covered : (n : ℕ) → has s n ≡ false → covers rs n ≡ false
  not_covered n absent = let out : (nat_lt n count || covers rs n) ≡ false = has-is n ∙ absent in grind (arith, nat_tests)

  -- the number at the count is marked, and the numbers that follow on join
  module _ (n now : ℕ) (left : List (ℕ × ℕ)) (at : n ≡ count) (high : AreApart (now + 1) left)
      (took : (k : ℕ) → (nat_lt k now || covers left k) ≡ (nat_lt k (n + 1) || covers rs k)) where
    pub members_risen : (k : ℕ) → has (set_of now left) k ≡ (has s k || (k == n))
    members_risen k =
        let more : (nat_lt k (n + 1) || covers rs k) ≡ ((nat_lt k count || covers rs k) || (k == n)) = grind (arith, nat_tests) in
        has-set now left high k ∙ took k ∙ more ∙ ap (λ b. b || (k == n)) (has-is k)

    pub risen_is : has s n ≡ false → set_of now left ≡ marked s n
    risen_is absent = same (λ k. has s k || (k == n)) now left (marked s n) high members_risen (marked-set s n canonical absent)

  -- a number above the count is marked
  module _ (n : ℕ) (left : List (ℕ × ℕ)) (absent : has s n ≡ false) (other : n ≢ count) (low : AreApart 0 left)
      (put : (k : ℕ) → covers left k ≡ (covers rs k || (k == n))) where
    pub apart_inserted : AreApart (count + 1) left
    apart_inserted = AreApart-from 0 (count + 1) left low (λ k lt.
        let out : (nat_lt n count || covers rs n) ≡ false = has-is n ∙ absent in
        let none : covers rs k ≡ false = covers-below k (count + 1) rs lt apart in
        put k ∙ grind (arith, nat_tests))

    pub members_inserted : (k : ℕ) → has (set_of count left) k ≡ (has s k || (k == n))
    members_inserted k =
        let more : (nat_lt k count || (covers rs k || (k == n))) ≡ ((nat_lt k count || covers rs k) || (k == n)) = grind (arith, nat_tests) in
        has-set count left apart_inserted k ∙ ap (λ b. nat_lt k count || b) (put k) ∙ more ∙ ap (λ b. b || (k == n)) (has-is k)

    pub inserted_is : set_of count left ≡ marked s n
    inserted_is = same (λ k. has s k || (k == n)) count left (marked s n) apart_inserted members_inserted (marked-set s n canonical absent)

  -- the numbers below n are added
  module _ (n now : ℕ) (left : List (ℕ × ℕ)) (high : AreApart (now + 1) left)
      (took : (k : ℕ) → (nat_lt k now || covers left k) ≡ (nat_lt k (max count n) || covers rs k)) where
    pub members_filled : (k : ℕ) → has (set_of now left) k ≡ (has s k || nat_lt k n)
    members_filled k =
        let more : (nat_lt k (max count n) || covers rs k) ≡ ((nat_lt k count || covers rs k) || nat_lt k n) = grind (arith, nat_tests) in
        has-set now left high k ∙ took k ∙ more ∙ ap (λ b. b || nat_lt k n) (has-is k)

    pub filled_is : set_of now left ≡ filled_below s n
    filled_is = same (λ k. has s k || nat_lt k n) now left (filled_below s n) high members_filled (filled-set s n canonical)

  -- the numbers from n on are forgotten
  module _ (n now : ℕ) (left : List (ℕ × ℕ)) (low : AreApart 0 left) (is_min : now ≡ min count n)
      (cut : (k : ℕ) → covers left k ≡ (covers rs k && nat_lt k n)) where
    pub apart_kept : AreApart (now + 1) left
    apart_kept = AreApart-from 0 (now + 1) left low (λ k lt.
        let none : covers rs k ≡ false = covers-below k (count + 1) rs (omega arith) apart in
        cut k ∙ rw none refl)

    pub members_kept : (k : ℕ) → has (set_of now left) k ≡ (has s k && nat_lt k n)
    members_kept k =
        let less : (nat_lt k now || (covers rs k && nat_lt k n)) ≡ ((nat_lt k count || covers rs k) && nat_lt k n) = grind (arith, nat_tests) in
        has-set now left apart_kept k ∙ ap (λ b. nat_lt k now || b) (cut k) ∙ less ∙ ap (λ b. b && nat_lt k n) (has-is k)

    pub kept_is : set_of now left ≡ kept_below s n
    kept_is = same (λ k. has s k && nat_lt k n) now left (kept_below s n) apart_kept members_kept (kept-set s n canonical)

-- what the second set has that the first one lacks
module _ (low count : ℕ) (rs qs : List (ℕ × ℕ)) (a b : Numbers) (a-is : set_of low rs ≡ a) (b-is : set_of count qs ≡ b) (a-apart : AreApart (low + 1) rs)
    (b-apart : AreApart (count + 1) qs) where
  pub lacking_count : low < count → IsFirstLacking (has b) (has a) (Some low)
  lacking_count lt =
      let least : IsLeastAbsent (has a) low = least_absent low rs a a-is a-apart in
      ((least_absent count qs b b-is b-apart).below low lt, least.absent, λ k small there. least.below k small)

  a-has : (k : ℕ) → (nat_lt k low || covers rs k) ≡ has a k
  a-has = has-is low rs a a-is a-apart

  b-has : (k : ℕ) → (nat_lt k count || covers qs k) ≡ has b k
  b-has = has-is count qs b b-is b-apart

  lacks-not : count ≤ low → (k : ℕ) → (covers qs k ≡ true → (nat_lt k low || covers rs k) ≡ true) → has b k ≡ true → has a k ≡ true
  lacks-not le k listed there =
      let in_b : (nat_lt k count || covers qs k) ≡ true = b-has k ∙ there in
      let in_a : (nat_lt k low || covers rs k) ≡ true = grind (arith, nat_tests) in
      sym (a-has k) ∙ in_a

  pub lacking_outside : count ≤ low → (result : Option ℕ) → IsFirstLacking (covers qs) (λ k. nat_lt k low || covers rs k) result → IsFirstLacking (has b) (has a) result
  lacking_outside le None none = λ k there. lacks-not le k (none k) there
  lacking_outside le (Some n) found = (
    let inside : covers qs n ≡ true = found.0 in sym (b-has n) ∙ grind (arith, nat_tests),
    sym (a-has n) ∙ found.1,
    λ k small there. lacks-not le k (found.2 k small) there,
  )

-- the end of a set

greatest-past : (k : ℕ) (xs : List ℕ) → greatest (map {A = ℕ} {B = ℕ} (λ n. n + 1) xs) ≤ k → list_any (λ j. j == k) xs ≡ false
greatest-past k [] le = refl
greatest-past k (x ∷ xs) le =
    let rest : list_any (λ j. j == k) xs ≡ false = greatest-past k xs (omega (arith, le)) in
    let first : x + 1 ≤ k = omega (arith, le) in
    grind (arith, nat_tests)

greatest-there : (k : ℕ) (xs : List ℕ) → greatest (map {A = ℕ} {B = ℕ} (λ n. n + 1) xs) ≡ k + 1 → list_any (λ j. j == k) xs ≡ true
greatest-there k [] e = absurd (omega (arith, e))
greatest-there k (x ∷ xs) e =
    let rest : greatest (map {A = ℕ} {B = ℕ} (λ n. n + 1) xs) ≡ k + 1 → list_any (λ j. j == k) xs ≡ true = greatest-there k xs in
    let most : max (x + 1) (greatest (map {A = ℕ} {B = ℕ} (λ n. n + 1) xs)) ≡ k + 1 = e in
    grind (arith, nat_tests)

end-law : (s : Numbers) → IsEnd (has s) (end_of s)
end-law s = record {
  above = λ k le. let past : list_any (λ j. j == k) s.above ≡ false = greatest-past k s.above (omega (arith, le)) in grind (arith, nat_tests);
  reached = λ k e.
      let most : max s.count (greatest (map {A = ℕ} {B = ℕ} (λ n. n + 1) s.above)) ≡ k + 1 = e in
      let there : greatest (map {A = ℕ} {B = ℕ} (λ n. n + 1) s.above) ≡ k + 1 → list_any (λ j. j == k) s.above ≡ true = greatest-there k s.above in
      grind (arith, nat_tests);
}

not-below : (test : ℕ → Bool) (a b : ℕ) → IsEnd test a → IsEnd test b → b ≤ a
not-below test a b first second =
    let top : a < b → false ≡ true = λ lt. sym (first.above (b - 1) (omega arith)) ∙ second.reached (b - 1) (omega arith) in
    (elim (nat_lt a b) as (λ t. nat_lt a b ≡ t → b ≤ a) [
      | true ↦ λ is. let no : false ≡ true = top (grind (arith, nat_tests)) in absurd (cc)
      | false ↦ λ is. grind (arith, nat_tests)
    ]) refl

pub end_is : (s : Numbers) (end : ℕ) → IsEnd (has s) end → end ≡ end_of s
end_is s end is =
    let low : end_of s ≤ end = not-below (has s) end (end_of s) is (end-law s) in
    let high : end ≤ end_of s = not-below (has s) (end_of s) end (end-law s) is in
    omega (arith, low, high)
