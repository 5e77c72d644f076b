-- Where a copy stands among those that left, and which of these go.
use Rattle.std.specs.Prelude.{slice_get, find, remove}
use Rattle.std.specs.List.{insert}
use Rattle.std.proofs.Common.{◌≡◌, ℕ, zero, suc, ◌+◌, ◌<◌, ◌≤◌, ◌==◌, cond, nat_lt, if◌then◌else◌, true, false, Option, Some, None, List, [], ◌∷◌, ◌++◌, length, take, drop, get_or, append_assoc, refl, sym, ◌∙◌, ap, arith}
use Rattle.std.proofs.lemmas.List.{append-nil, drop_more, take_all, take_more}
use Rattle.ccr_model.specs.Copies.{Copy}
use Rattle.ccr_model.specs.Leaders.{with_copy}

drop-past : (xs : List Copy) (place : ℕ) → length xs ≤ place → drop place xs ≡ []
drop-past [] zero le = refl
drop-past [] (suc place) le = refl
drop-past (x ∷ xs) zero le = absurd (omega arith)
drop-past (x ∷ xs) (suc place) le = drop-past xs place (omega arith)

drop-none : (xs : List Copy) → drop zero xs ≡ xs
drop-none [] = refl
drop-none (x ∷ xs) = refl

take-none : (xs : List Copy) → take zero xs ≡ []
take-none [] = refl
take-none (x ∷ xs) = refl

-- a copy of this number stands behind the copies before this place
abbrev pub StandsFrom : ℕ → ℕ → List Copy → Type 0
StandsFrom number place xs = (c : Copy) → c.number ≡ number → with_copy c xs ≡ take place xs ++ with_copy c (drop place xs)

pub stands-begun : (number : ℕ) (xs : List Copy) → StandsFrom number zero xs
stands-begun number xs c own =
    sym (ap (λ (front : List Copy). front ++ with_copy c (drop zero xs)) (take-none xs) ∙ ap (with_copy c) (drop-none xs))

put-at : (number : ℕ) (c x : Copy) (xs ys : List Copy) → c.number ≡ number → ys ≡ x ∷ xs → with_copy c ys ≡ (if nat_lt number x.number then c ∷ x ∷ xs else x ∷ with_copy c xs)
put-at number c x xs ys own is = ap (with_copy c) is ∙ ap (λ (n : ℕ). if nat_lt n x.number then c ∷ x ∷ xs else x ∷ with_copy c xs) own

module _ (number place : ℕ) (x : Copy) (xs : List Copy) (low : place < length xs) (is : x ≡ get_or xs place x) (before : StandsFrom number place xs) where
  rest : drop place xs ≡ x ∷ drop (place + 1) xs
  rest = drop_more xs place x low ∙ ap (λ (y : Copy). y ∷ drop (place + 1) xs) (sym is)

  pub stands-more : nat_lt number x.number ≡ false → StandsFrom number (place + 1) xs
  stands-more isnt c own =
      before c own
      ∙ ap (λ (ys : List Copy). take place xs ++ ys)
      (put-at number c x (drop (place + 1) xs) (drop place xs) own rest ∙ ap (λ b. if b then c ∷ x ∷ drop (place + 1) xs else x ∷ with_copy c (drop (place + 1) xs)) isnt)
      ∙ sym (append_assoc (take place xs) (x ∷ []) (with_copy c (drop (place + 1) xs)))
      ∙ ap (λ (front : List Copy). front ++ with_copy c (drop (place + 1) xs))
      (ap (λ (y : Copy). take place xs ++ y ∷ []) is ∙ sym (take_more xs place x low))

  pub stands-here : nat_lt number x.number ≡ true → (c : Copy) → c.number ≡ number → with_copy c xs ≡ insert xs place c
  stands-here here c own =
      before c own
      ∙ ap (λ (ys : List Copy). take place xs ++ ys)
      (put-at number c x (drop (place + 1) xs) (drop place xs) own rest ∙ ap (λ b. if b then c ∷ x ∷ drop (place + 1) xs else x ∷ with_copy c (drop (place + 1) xs)) here
      ∙ ap (λ (ys : List Copy). c ∷ ys) (sym rest))

pub stands-last : (number place : ℕ) (xs : List Copy) → length xs ≤ place → StandsFrom number place xs → (c : Copy) → c.number ≡ number → with_copy c xs ≡ insert xs (length xs) c
stands-last number place xs past before c own =
    let gone : drop place xs ≡ [] = drop-past xs place past in
    let none : drop (length xs) xs ≡ [] = drop-past xs (length xs) (omega arith) in
    before c own
    ∙ ap (λ (ys : List Copy). take place xs ++ with_copy c ys) gone
    ∙ ap (λ (front : List Copy). front ++ c ∷ []) (take_all place xs past ∙ sym (take_all (length xs) xs (omega arith)))
    ∙ ap (λ (ys : List Copy). take (length xs) xs ++ c ∷ ys) (sym none)

-- ---- a look-up by number

-- the first copy of this number is the first among those from this place on
abbrev pub FoundFrom : ℕ → ℕ → List Copy → Type 0
FoundFrom copy place xs = find (λ (c : Copy). c.number == copy) xs ≡ find (λ (c : Copy). c.number == copy) (drop place xs)

pub found-begun : (copy : ℕ) (xs : List Copy) → FoundFrom copy zero xs
found-begun copy xs = sym (ap (find (λ (c : Copy). c.number == copy)) (drop-none xs))

got : (xs : List Copy) (i : ℕ) (d : Copy) → i < length xs → slice_get xs i ≡ Some (get_or xs i d)
got [] i d small = absurd (omega arith)
got (x ∷ xs) zero d small = refl
got (x ∷ xs) (suc i) d small = got xs i d (omega arith)

module _ (copy place : ℕ) (x : Copy) (xs : List Copy) (low : place < length xs) (is : x ≡ get_or xs place x) (before : FoundFrom copy place xs) where
  here : find (λ (c : Copy). c.number == copy) xs ≡ cond (x.number == copy) (Some x) (find (λ (c : Copy). c.number == copy) (drop (place + 1) xs))
  here = before ∙ ap (find (λ (c : Copy). c.number == copy)) (drop_more xs place x low ∙ ap (λ (y : Copy). y ∷ drop (place + 1) xs) (sym is))

  pub found-more : (x.number == copy) ≡ false → FoundFrom copy (place + 1) xs
  found-more isnt = here ∙ ap (λ b. cond b (Some x) (find (λ (c : Copy). c.number == copy) (drop (place + 1) xs))) isnt

  pub found-here : (x.number == copy) ≡ true → find (λ (c : Copy). c.number == copy) xs ≡ slice_get xs place
  found-here own =
      here ∙ ap (λ b. cond b (Some x) (find (λ (c : Copy). c.number == copy) (drop (place + 1) xs))) own
      ∙ ap (λ (y : Copy). Some y) is ∙ sym (got xs place x low)

pub found-none : (copy place : ℕ) (xs : List Copy) → length xs ≤ place → FoundFrom copy place xs → find (λ (c : Copy). c.number == copy) xs ≡ None
found-none copy place xs past before = before ∙ ap (find (λ (c : Copy). c.number == copy)) (drop-past xs place past)

-- ---- the first ones go

pub gone-begun : (xs : List Copy) → xs ≡ drop zero xs
gone-begun xs = sym (drop-none xs)

pub gone-more : (xs left : List Copy) (n : ℕ) → n < length xs → left ≡ drop n xs → remove left 0 ≡ drop (n + 1) xs
gone-more [] left n low is = absurd (omega arith)
gone-more (x ∷ xs) left zero low is = ap (λ (ys : List Copy). remove ys 0) is ∙ drop-none xs
gone-more (x ∷ xs) left (suc n) low is =
    let next : suc (n + 1) ≡ suc n + 1 = omega arith in
    gone-more xs left n (omega arith) is ∙ ap (λ (m : ℕ). drop m (x ∷ xs)) next
