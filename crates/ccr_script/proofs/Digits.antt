-- Digits and the number that they are.
use Rattle.std.proofs.Common.{◌≡◌, ℕ, zero, suc, ◌+◌, ◌-◌, ◌*◌, ◌^◌, ◌<◌, ◌≤◌, min, List, [], ◌∷◌, length, get_or, take, drop, Bool, true, false, cond, refl, sym, ap, ◌∙◌, subst, arith, inl, inr}
use Rattle.std.specs.Prelude.{◌⊎◌, if◌then◌else◌}
use Rattle.std.proofs.lemmas.List.{drop_more, drop_all}
use Rattle.std.proofs.lemmas.Bool.{cases_lt}
use Rattle.std.proofs.Math.Nat.{mul-le-mul_left}
use Rattle.ccr_script.specs.Amounts.{digit_count, number_after, is_digit}

pub digit_count-within : (xs : List ℕ) → digit_count xs ≤ length xs
digit_count-within [] = omega arith
digit_count-within (x ∷ xs) = by_first (is_digit x) (digit_count-within xs)
  where
    by_first : (t : Bool) → digit_count xs ≤ length xs → (if t then digit_count xs + 1 else 0) ≤ length (x ∷ xs)
    by_first true h = omega (arith, h)
    by_first false h = omega arith

-- the number is not below what it goes on from, if that is past every u64
number_after-rises : (n : ℕ) (xs : List ℕ) → n ≤ number_after n xs
number_after-rises n [] = omega arith
number_after-rises n (x ∷ xs) =
    let h = number_after-rises (n * 10 + (x - 48)) xs in
    omega (arith, h)

-- a number that is cut to a limit, and then goes on with digits, is the number, cut to the limit
pub number_after-cut : (m n : ℕ) (xs : List ℕ) → min m (number_after (min m n) xs) ≡ min m (number_after n xs)
number_after-cut m n xs = by_case (cases_lt m n)
  where
    by_case : (m < n) ⊎ (n ≤ m) → min m (number_after (min m n) xs) ≡ min m (number_after n xs)
    by_case (inl past) =
        let a = number_after-rises (min m n) xs in
        let b = number_after-rises n xs in
        omega (arith, a, b, past)
    by_case (inr within) = let e : min m n ≡ n = omega (arith, within) in rw e refl

-- one digit more
pub number_more : (m n : ℕ) (xs : List ℕ) (i x : ℕ) → i < length xs → x ≡ get_or xs i 0
    → min m (number_after (min m (n * 10 + (x - 48))) (drop (i + 1) xs)) ≡ min m (number_after n (drop i xs))
number_more m n xs i x h is =
    number_after-cut m (n * 10 + (x - 48)) (drop (i + 1) xs)
    ∙ ap (λ ys. min m (number_after n ys)) (sym (drop_more xs i 0 h ∙ ap (λ y. y ∷ drop (i + 1) xs) (sym is)))

pub number_all : (m n : ℕ) (xs : List ℕ) (i : ℕ) → length xs ≤ i → n ≤ m → min m (number_after n (drop i xs)) ≡ n
number_all m n xs i h small = ap (λ ys. min m (number_after n ys)) (drop_all i xs h) ∙ omega (arith, small)

pub count_more : (xs : List ℕ) (i x : ℕ) → i < length xs → x ≡ get_or xs i 0 → is_digit x ≡ true → digit_count (drop i xs) ≡ digit_count (drop (i + 1) xs) + 1
count_more xs i x h is t = ap digit_count (drop_more xs i 0 h ∙ ap (λ y. y ∷ drop (i + 1) xs) (sym is)) ∙ rw t refl

pub count_stops : (xs : List ℕ) (i x : ℕ) → i < length xs → x ≡ get_or xs i 0 → is_digit x ≡ false → digit_count (drop i xs) ≡ 0
count_stops xs i x h is t = ap digit_count (drop_more xs i 0 h ∙ ap (λ y. y ∷ drop (i + 1) xs) (sym is)) ∙ rw t refl

pub count_ends : (xs : List ℕ) (i : ℕ) → length xs ≤ i → digit_count (drop i xs) ≡ 0
count_ends xs i h = ap digit_count (drop_all i xs h)

-- a factor of a number that is cut
pub times_cut : (m n f : ℕ) → 1 ≤ f → min (min m n * f) m ≡ min m (n * f)
times_cut m n f some = by_case (cases_lt m n)
  where
    by_case : (m < n) ⊎ (n ≤ m) → min (min m n * f) m ≡ min m (n * f)
    by_case (inr within) = let e : min m n ≡ n = omega (arith, within) in rw e (omega arith)
    by_case (inl past) =
        let e : min m n ≡ m = omega (arith, past) in
        let big : m ≤ m * f = omega (arith, mul-le-mul_left m some) in
        let bigger : m ≤ n * f = omega (arith, mul-le-mul_left n some, past) in
        rw e (omega (arith, big, bigger))

pub ruleset digit_rules = (times_cut)

pub ruleset count_rules = (digit_count-within, count_more, count_stops, count_ends)

pub ruleset number_rules = (number_more, number_all)
