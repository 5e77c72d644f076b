-- Numbers in ascending order, of which one more is the greatest, or one goes.
use Rattle.std.specs.List.{AllByRecursion, list_any}
use Rattle.std.specs.List.Sorted.{IsStrictlySortedBy}
use Rattle.std.specs.Ordering.{nat_cmp}
use Rattle.std.specs.declared.cmp.Ordering.TheVariants.{Less, Equal, Greater}
use Rattle.std.specs.BTreeMap.{is_at}
use Rattle.std.specs.BTreeSet.{insert_key}
use Rattle.std.specs.Set.{remove_key}
use Rattle.std.specs.Prelude.{filter}
use Rattle.std.proofs.Common.{◌≡◌, ℕ, ◌<◌, ◌==◌, Bool, true, false, not, nat_lt, cond, List, [], ◌∷◌, ◌++◌, refl, sym, ap, subst, ◌∙◌, arith}
use Rattle.std.proofs.lemmas.Bool.Decides.{nat_tests}

tied : (n k : ℕ) → is_at (nat_cmp n) k ≡ (k == n)
tied n k = grind (arith, nat_tests)

above : (n k : ℕ) → k < n → nat_cmp n k ≡ Greater
above n k less = grind (arith, nat_tests)

-- a number above all others comes last
pub insert_key-last : (n : ℕ) (ks : List ℕ) → AllByRecursion (λ (k : ℕ). k < n) ks → insert_key nat_cmp ks n ≡ ks ++ n ∷ []
insert_key-last n [] below = refl
insert_key-last n (k ∷ ks) below = rw (above n k below.0) (ap (λ (rest : List ℕ). k ∷ rest) (insert_key-last n ks below.1))

pub list_any-at : (n : ℕ) (ks : List ℕ) → list_any (is_at (nat_cmp n)) ks ≡ list_any (λ k. k == n) ks
list_any-at n [] = refl
list_any-at n (k ∷ ks) = rw (tied n k, list_any-at n ks) refl

apart : (n k : ℕ) → nat_cmp n k ≡ Less → (k == n) ≡ false
apart n k less = grind (arith, nat_tests)

-- none of the numbers after one is that one
others-stay : (n : ℕ) (ks : List ℕ) → AllByRecursion (λ (k : ℕ). nat_cmp n k ≡ Less) ks → filter (λ k. not (k == n)) ks ≡ ks
others-stay n [] after = refl
others-stay n (k ∷ ks) after = rw (apart n k after.0) (ap (λ (rest : List ℕ). k ∷ rest) (others-stay n ks after.1))

same : (n k : ℕ) → (k == n) ≡ true → k ≡ n
same n k is = grind (arith, nat_tests)

pub remove_key-filter : (n : ℕ) (ks : List ℕ) → IsStrictlySortedBy nat_cmp ks → remove_key (is_at (nat_cmp n)) ks ≡ filter (λ k. not (k == n)) ks
unfolding IsStrictlySortedBy
remove_key-filter n [] order = refl
remove_key-filter n (k ∷ ks) order = by (k == n) (tied n k) refl (remove_key-filter n ks order.1)
  where
    by : (b : Bool) → is_at (nat_cmp n) k ≡ b → (k == n) ≡ b → remove_key (is_at (nat_cmp n)) ks ≡ filter (λ x. not (x == n)) ks
        → remove_key (is_at (nat_cmp n)) (k ∷ ks) ≡ filter (λ x. not (x == n)) (k ∷ ks)
    by true at is rest =
        let after : AllByRecursion (λ (x : ℕ). nat_cmp n x ≡ Less) ks = subst (λ (m : ℕ). AllByRecursion (λ (x : ℕ). nat_cmp m x ≡ Less) ks) (same n k is) order.0 in
        rw (at, is) (sym (others-stay n ks after))
    by false at isnt rest = rw (at, isnt) (ap (λ (others : List ℕ). k ∷ others) rest)

pub ruleset standing = (insert_key-last, list_any-at, remove_key-filter)
