-- Which numbers are in a set, and that its form stays the one form, under each change.
use Rattle.std.proofs.Common.{◌≡◌, ℕ, ◌+◌, ◌<◌, ◌≤◌, ◌==◌, ◌||◌, ◌&&◌, true, false, nat_lt, List, [], ◌∷◌, filter, if◌then◌else◌, refl, sym, subst, arith}
use Rattle.std.specs.List.{list_any}
use Rattle.std.specs.Ordering.{nat_cmp, match_ordering}
use Rattle.std.specs.declared.cmp.Ordering.TheVariants.{Less, Equal, Greater}
use Rattle.std.specs.BTreeSet.{insert_key}
use Rattle.std.proofs.lemmas.Bool.Decides.{nat_tests}
use Rattle.ccr_tracker.specs.Numbers.{Numbers, has, AscendsFrom, IsCanonical, risen}

-- a list that ascends from a number ascends from a smaller one
pub AscendsFrom-lower : (low high : ℕ) (xs : List ℕ) → low ≤ high → AscendsFrom high xs → AscendsFrom low xs
AscendsFrom-lower low high [] le h = tt
AscendsFrom-lower low high (x ∷ xs) le h = (omega arith, h.1)

-- a number below the start isn't in the list
pub any_below : (k low : ℕ) (xs : List ℕ) → k < low → AscendsFrom low xs → list_any (λ j. j == k) xs ≡ false
any_below k low [] lt h = refl
any_below k low (x ∷ xs) lt h =
    let rest : list_any (λ j. j == k) xs ≡ false = any_below k (x + 1) xs (omega arith) h.1 in
    let first : low ≤ x = h.0 in
    grind (arith, nat_tests)

-- risen

pub has-risen : (count : ℕ) (xs : List ℕ) (k : ℕ) → has (risen count xs) k ≡ (nat_lt k count || list_any (λ j. j == k) xs)
has-risen count [] k = refl
has-risen count (x ∷ xs) k =
    (elim (nat_lt x count) as (λ b. nat_lt x count ≡ b →
    has (if b then risen count xs else if x == count then risen (count + 1) xs else record { count = count; above = x ∷ xs }) k
    ≡ (nat_lt k count || ((x == k) || list_any (λ j. j == k) xs))) [
      | true ↦ λ is. let ih : has (risen count xs) k ≡ (nat_lt k count || list_any (λ j. j == k) xs) = has-risen count xs k in grind (arith, nat_tests)
      | false ↦ λ is. (elim (x == count) as (λ b. (x == count) ≡ b →
          has (if b then risen (count + 1) xs else record { count = count; above = x ∷ xs }) k
          ≡ (nat_lt k count || ((x == k) || list_any (λ j. j == k) xs))) [
            | true ↦ λ at. let ih : has (risen (count + 1) xs) k ≡ (nat_lt k (count + 1) || list_any (λ j. j == k) xs) = has-risen (count + 1) xs k in grind (arith, nat_tests)
            | false ↦ λ at. refl
          ]) refl
    ]) refl

-- insertion

pub any-insert : (n k : ℕ) (xs : List ℕ) → list_any (λ j. j == k) (insert_key nat_cmp xs n) ≡ ((n == k) || list_any (λ j. j == k) xs)
any-insert n k [] = refl
any-insert n k (x ∷ xs) =
    (elim (nat_cmp n x) as (λ o. nat_cmp n x ≡ o →
    list_any (λ j. j == k) (match_ordering o (n ∷ x ∷ xs) (x ∷ xs) (x ∷ insert_key nat_cmp xs n)) ≡ ((n == k) || ((x == k) || list_any (λ j. j == k) xs))) [
      | Less ↦ λ is. refl
      | Equal ↦ λ is. let e : n ≡ x = grind (arith, nat_tests) in rw e (grind (arith, nat_tests))
      | Greater ↦ λ is. let ih : list_any (λ j. j == k) (insert_key nat_cmp xs n) ≡ ((n == k) || list_any (λ j. j == k) xs) = any-insert n k xs in rw ih (grind (arith, nat_tests))
    ]) refl

pub AscendsFrom-insert : (low n : ℕ) (xs : List ℕ) → low ≤ n → AscendsFrom low xs → AscendsFrom low (insert_key nat_cmp xs n)
AscendsFrom-insert low n [] le h = (le, tt)
AscendsFrom-insert low n (x ∷ xs) le h =
    (elim (nat_cmp n x) as (λ o. nat_cmp n x ≡ o → AscendsFrom low (match_ordering o (n ∷ x ∷ xs) (x ∷ xs) (x ∷ insert_key nat_cmp xs n))) [
      | Less ↦ λ is. (le, (grind (arith, nat_tests), h.1))
      | Equal ↦ λ is. h
      | Greater ↦ λ is. (h.0, AscendsFrom-insert (x + 1) n xs (grind (arith, nat_tests)) h.1)
    ]) refl

-- a filter by a limit

pub any-filter : (n k : ℕ) (xs : List ℕ) → list_any (λ j. j == k) (filter (λ j. nat_lt j n) xs) ≡ (list_any (λ j. j == k) xs && nat_lt k n)
any-filter n k [] = refl
any-filter n k (x ∷ xs) =
    let ih : list_any (λ j. j == k) (filter (λ j. nat_lt j n) xs) ≡ (list_any (λ j. j == k) xs && nat_lt k n) = any-filter n k xs in
    (elim (nat_lt x n) as (λ b. nat_lt x n ≡ b →
    list_any (λ j. j == k) (if b then x ∷ filter (λ j. nat_lt j n) xs else filter (λ j. nat_lt j n) xs) ≡ (((x == k) || list_any (λ j. j == k) xs) && nat_lt k n)) [
      | true ↦ λ is. rw ih (grind (arith, nat_tests))
      | false ↦ λ is. rw ih (grind (arith, nat_tests))
    ]) refl

-- the one form

pub same_ascending : (low : ℕ) (xs ys : List ℕ) → AscendsFrom low xs → AscendsFrom low ys
    → ((k : ℕ) → list_any (λ j. j == k) xs ≡ list_any (λ j. j == k) ys) → xs ≡ ys
same_ascending low [] [] up down same = refl
same_ascending low [] (y ∷ ys) up down same =
    let e : false ≡ ((y == y) || list_any (λ j. j == y) ys) = same y in absurd (grind (arith, nat_tests))
same_ascending low (x ∷ xs) [] up down same =
    let e : ((x == x) || list_any (λ j. j == x) xs) ≡ false = same x in absurd (grind (arith, nat_tests))
same_ascending low (x ∷ xs) (y ∷ ys) up down same =
    let at_x : ((x == x) || list_any (λ j. j == x) xs) ≡ ((y == x) || list_any (λ j. j == x) ys) = same x in
    let at_y : ((x == y) || list_any (λ j. j == y) xs) ≡ ((y == y) || list_any (λ j. j == y) ys) = same y in
    let x_above : x < y → list_any (λ j. j == x) ys ≡ false = λ lt. any_below x (y + 1) ys (omega arith) down.1 in
    let y_above : y < x → list_any (λ j. j == y) xs ≡ false = λ lt. any_below y (x + 1) xs (omega arith) up.1 in
    let first : x ≡ y = grind (arith, nat_tests) in
    let rest : xs ≡ ys = same_ascending (x + 1) xs ys up.1 (subst (λ n. AscendsFrom (n + 1) ys) (sym first) down.1) (λ k.
    let at_k : ((x == k) || list_any (λ j. j == k) xs) ≡ ((y == k) || list_any (λ j. j == k) ys) = same k in
    let xs_k : k < x + 1 → list_any (λ j. j == k) xs ≡ false = λ lt. any_below k (x + 1) xs lt up.1 in
    let ys_k : k < y + 1 → list_any (λ j. j == k) ys ≡ false = λ lt. any_below k (y + 1) ys lt down.1 in
    grind (arith, nat_tests)) in
    cc

pub one_form : (a b : Numbers) → IsCanonical a → IsCanonical b → ((k : ℕ) → has a k ≡ has b k) → a ≡ b
one_form a b up down same =
    let a_absent : list_any (λ j. j == a.count) a.above ≡ false = any_below a.count (a.count + 1) a.above (omega arith) up in
    let b_absent : list_any (λ j. j == b.count) b.above ≡ false = any_below b.count (b.count + 1) b.above (omega arith) down in
    let at_a : (nat_lt a.count a.count || list_any (λ j. j == a.count) a.above) ≡ (nat_lt a.count b.count || list_any (λ j. j == a.count) b.above) = same a.count in
    let at_b : (nat_lt b.count a.count || list_any (λ j. j == b.count) a.above) ≡ (nat_lt b.count b.count || list_any (λ j. j == b.count) b.above) = same b.count in
    let counts : a.count ≡ b.count = grind (arith, nat_tests) in
    let rest : a.above ≡ b.above = same_ascending (a.count + 1) a.above b.above up (subst (λ n. AscendsFrom (n + 1) b.above) (sym counts) down) (λ k.
    let at_k : (nat_lt k a.count || list_any (λ j. j == k) a.above) ≡ (nat_lt k b.count || list_any (λ j. j == k) b.above) = same k in
    let as_k : k < a.count + 1 → list_any (λ j. j == k) a.above ≡ false = λ lt. any_below k (a.count + 1) a.above lt up in
    let bs_k : k < b.count + 1 → list_any (λ j. j == k) b.above ≡ false = λ lt. any_below k (b.count + 1) b.above lt down in
    grind (arith, nat_tests)) in
    same_fields a.count b.count a.above b.above counts rest
  where
    same_fields : (m n : ℕ) (xs ys : List ℕ) → m ≡ n → xs ≡ ys
        → ◌≡◌ {A = Numbers} record { count = m; above = xs } record { count = n; above = ys }
    same_fields m n xs ys e f = cc
