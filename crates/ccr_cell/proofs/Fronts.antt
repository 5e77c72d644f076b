-- Beginnings of one list.
use Rattle.std.proofs.Common.{◌≡◌, ◌<◌, ◌≤◌, Bool, true, false, List, [], ◌∷◌, ◌++◌, length, nat_lt, if◌then◌else◌, refl, ap, sym, ◌∙◌, arith, append_assoc, length-append}
use Rattle.std.proofs.lemmas.Bool.Decides.{nat_tests}
use mathlib.Core.List.{IsPrefix}
use Rattle.ccr_cell.specs.Counts.{longer, shorter}

module _ {A : Type 0} where
  pub prefix_self : (xs : List A) → IsPrefix xs xs
  prefix_self [] = ([], refl)
  prefix_self (x ∷ xs) = (let r = prefix_self xs in r.0, ap (λ ys. x ∷ ys) (prefix_self xs).1)

  pub prefix_trans : (xs ys zs : List A) → IsPrefix xs ys → IsPrefix ys zs → IsPrefix xs zs
  prefix_trans xs ys zs p q = (p.0 ++ q.0, sym (append_assoc xs p.0 q.0) ∙ (ap (λ w. w ++ q.0) p.1 ∙ q.1))

  -- of two beginnings of one list the shorter begins the longer
  pub prefix_shorter : (xs ys zs : List A) → IsPrefix xs zs → IsPrefix ys zs → length xs ≤ length ys → IsPrefix xs ys
  prefix_shorter [] ys zs p q le = (ys, refl)
  prefix_shorter (x ∷ xs) [] zs p q le = absurd (omega arith)
  prefix_shorter (x ∷ xs) (y ∷ ys) [] p q le = absurd (cc (p.1))
  prefix_shorter (x ∷ xs) (y ∷ ys) (z ∷ zs) p q le =
      let heads : x ≡ y = cc (p.1, q.1) in
      let rest = prefix_shorter xs ys zs (p.0, cc (p.1)) (q.0, cc (q.1)) (omega arith) in
      (rest.0, cc (heads, rest.1))

  -- a beginning as long as the whole is the whole
  pub prefix_whole : (xs ys : List A) → IsPrefix xs ys → length ys ≤ length xs → xs ≡ ys
  prefix_whole [] [] p le = refl
  prefix_whole [] (y ∷ ys) p le = absurd (omega arith)
  prefix_whole (x ∷ xs) [] p le = absurd (cc (p.1))
  prefix_whole (x ∷ xs) (y ∷ ys) p le =
      let rest = prefix_whole xs ys (p.0, cc (p.1)) (omega arith) in cc (p.1, rest)

  pub prefix_length : (xs ys : List A) → IsPrefix xs ys → length xs ≤ length ys
  prefix_length xs ys p = omega (arith, sym (ap length p.1) ∙ length-append xs p.0)

  -- What holds of two beginnings of one list: the longer is one too, each begins it, the shorter begins it, it is as long as each,
  -- and it is the whole where one of them is.
  pub record Longer (xs ys zs : List A) : Type 0 where
    pub prefix : IsPrefix (longer xs ys) zs
    pub one : IsPrefix xs (longer xs ys)
    pub other : IsPrefix ys (longer xs ys)
    pub hears : IsPrefix (shorter xs ys) (longer xs ys)
    pub first : length xs ≤ length (longer xs ys)
    pub second : length ys ≤ length (longer xs ys)
    pub whole_one : xs ≡ zs → longer xs ys ≡ zs
    pub whole_other : ys ≡ zs → longer xs ys ≡ zs

  Chosen : Bool → List A → List A → List A → Type 0
  Chosen b xs ys zs = let l : List A = if b then ys else xs in let r : List A = if b then xs else ys in
      IsPrefix l zs × IsPrefix xs l × IsPrefix ys l × IsPrefix r l × (length xs ≤ length l) × (length ys ≤ length l) × (xs ≡ zs → l ≡ zs) × (ys ≡ zs → l ≡ zs)

  chosen : (xs ys zs : List A) → IsPrefix xs zs → IsPrefix ys zs → (b : Bool) → nat_lt (length xs) (length ys) ≡ b → Chosen b xs ys zs
  unfolding Chosen
  chosen xs ys zs p q true is =
      let lt : length xs < length ys = grind (arith, nat_tests) in
      let front = prefix_shorter xs ys zs p q (omega arith) in
      (q, front, prefix_self ys, front, omega arith, omega arith, (λ e. prefix_whole ys zs q (let k = ap length e in omega arith)), (λ e. e))
  chosen xs ys zs p q false is =
      let le : length ys ≤ length xs = grind (arith, nat_tests) in
      let front = prefix_shorter ys xs zs q p le in
      (p, prefix_self xs, front, front, omega arith, omega arith, (λ e. e), (λ e. prefix_whole xs zs p (let k = ap length e in omega arith)))

  pub longer_both : (xs ys zs : List A) → IsPrefix xs zs → IsPrefix ys zs → Longer xs ys zs
  unfolding Chosen
  longer_both xs ys zs p q = let c = chosen xs ys zs p q (nat_lt (length xs) (length ys)) refl in
      record { prefix = c.0; one = c.1; other = c.2; hears = c.3; first = c.4; second = c.5; whole_one = c.6; whole_other = c.7 }
