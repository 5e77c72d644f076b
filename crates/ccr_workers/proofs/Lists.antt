-- Two lists whose elements belong together, at a place, after a change, and joined.
use Rattle.std.specs.Prelude.{slice_set}
use Rattle.std.specs.List.{All, AllByRecursion}
use Rattle.std.proofs.Common.{◌≡◌, ℕ, zero, suc, ◌+◌, ◌<◌, ◌≤◌, Bool, true, false, nat_lt, List, [], ◌∷◌, ◌++◌, length, drop, refl, ap, sym, subst, arith, get_or, add-one, length-append}
use Rattle.std.proofs.lemmas.Bool.Decides.{nat_tests}
use Rattle.ccr_workers.specs.Lists.{Each, Fronts, UpTo}

module _ {A B : Type 0} (R : A → B → Type 0) where
  pub each_length : (xs : List A) (ys : List B) → Each R xs ys → length ys ≡ length xs
  each_length [] [] e = refl
  each_length [] (y ∷ ys) e = absurd e
  each_length (x ∷ xs) [] e = absurd e
  each_length (x ∷ xs) (y ∷ ys) e = ap suc (each_length xs ys e.1)

  pub each_at : (xs : List A) (ys : List B) (i : ℕ) (d : A) (f : B) → i < length xs → Each R xs ys → R (get_or xs i d) (get_or ys i f)
  each_at [] [] i d f lt e = absurd (omega arith)
  each_at [] (y ∷ ys) i d f lt e = absurd e
  each_at (x ∷ xs) [] i d f lt e = absurd e
  each_at (x ∷ xs) (y ∷ ys) zero d f lt e = e.0
  each_at (x ∷ xs) (y ∷ ys) (suc i) d f lt e = each_at xs ys i d f (omega arith) e.1

  pub each_set : (xs : List A) (ys : List B) (i : ℕ) (d : A) (z : B) → i < length xs → R (get_or xs i d) z → Each R xs ys → Each R xs (slice_set ys i z)
  each_set [] [] i d z lt r e = absurd (omega arith)
  each_set [] (y ∷ ys) i d z lt r e = absurd e
  each_set (x ∷ xs) [] i d z lt r e = absurd e
  each_set (x ∷ xs) (y ∷ ys) zero d z lt r e = (r, e.1)
  each_set (x ∷ xs) (y ∷ ys) (suc i) d z lt r e = (e.0, each_set xs ys i d z (omega arith) r e.1)

  -- one more at the end of the second list
  pub fronts_push : (xs : List A) (ys : List B) (d : A) (z : B) → length ys < length xs → R (get_or xs (length ys) d) z → Fronts R xs ys → Fronts R xs (ys ++ z ∷ [])
  fronts_push [] ys d z lt r e = absurd (omega arith)
  fronts_push (x ∷ xs) [] d z lt r e = (r, tt)
  fronts_push (x ∷ xs) (y ∷ ys) d z lt r e = (e.0, fronts_push xs ys d z (omega arith) r e.1)

  pub fronts_whole : (xs : List A) (ys : List B) → length ys ≡ length xs → Fronts R xs ys → Each R xs ys
  fronts_whole [] [] same e = tt
  fronts_whole [] (y ∷ ys) same e = absurd e
  fronts_whole (x ∷ xs) [] same e = absurd (omega arith)
  fronts_whole (x ∷ xs) (y ∷ ys) same e = (e.0, fronts_whole xs ys (omega arith) e.1)

  pub each_read : (xs : List A) (ys : List B) (i : ℕ) (x : A) (f : B) → i < length xs → x ≡ get_or xs i x → Each R xs ys → R x (get_or ys i f)
  each_read xs ys i x f lt is e = subst (λ (a : A). R a (get_or ys i f)) (sym is) (each_at xs ys i x f lt e)

  pub each_step : (xs : List A) (ys : List B) (i : ℕ) (x : A) (z : B) → i < length xs → x ≡ get_or xs i x → R x z → Each R xs ys → Each R xs (slice_set ys i z)
  each_step xs ys i x z lt is r e = each_set xs ys i x z lt (subst (λ (a : A). R a z) is r) e

  pub fronts_short : (xs : List A) (ys : List B) → Fronts R xs ys → length ys ≤ length xs
  fronts_short [] [] e = omega arith
  fronts_short (x ∷ xs) [] e = omega arith
  fronts_short [] (y ∷ ys) e = absurd e
  fronts_short (x ∷ xs) (y ∷ ys) e = let rest = fronts_short xs ys e.1 in omega arith

  pub fronts_step : (xs : List A) (ys zs : List B) (i : ℕ) (x : A) (z : B) → length ys ≡ i → i < length xs → x ≡ get_or xs i x → R x z → zs ≡ ys ++ z ∷ [] → Fronts R xs ys → Fronts R xs zs
  fronts_step xs ys zs i x z count lt is r grew e =
      subst (λ (l : List B). Fronts R xs l) (sym grew)
      (fronts_push xs ys x z (omega (arith, count, lt)) (subst (λ n. R (get_or xs n x) z) (sym count) (subst (λ (a : A). R a z) is r)) e)

  -- the rests of the lists behind a place
  rest_of : (xs : List A) (more : List B) (i : ℕ) (d : A) (y : B) → Each R (drop i xs) (y ∷ more) → (i < length xs) × R (get_or xs i d) y × Each R (drop (suc i) xs) more
  rest_of [] more zero d y e = absurd e
  rest_of [] more (suc i) d y e = absurd e
  rest_of (x ∷ xs) more zero d y e = (omega arith, e.0, e.1)
  rest_of (x ∷ xs) more (suc i) d y e = let r = rest_of xs more i d y e in (omega (arith, r.0), r.1, r.2)

  pub rest_at : (xs : List A) (ys more : List B) (i : ℕ) (d : A) (y : B) → ys ≡ y ∷ more → Each R (drop i xs) ys → (i < length xs) × R (get_or xs i d) y × Each R (drop (i + 1) xs) more
  rest_at xs ys more i d y is e = let r = rest_of xs more i d y (subst (λ (l : List B). Each R (drop i xs) l) is e) in (r.0, r.1, rw add-one r.2)

  rest_end : (xs : List A) (i : ℕ) → Each R (drop i xs) [] → length xs ≤ i
  rest_end [] zero e = omega arith
  rest_end [] (suc i) e = omega arith
  rest_end (x ∷ xs) zero e = absurd e
  rest_end (x ∷ xs) (suc i) e = let r = rest_end xs i e in omega (arith, r)

  pub rest_none : (xs : List A) (ys : List B) (i : ℕ) → ys ≡ [] → Each R (drop i xs) ys → length xs ≤ i
  rest_none xs ys i none e = rest_end xs i (subst (λ (l : List B). Each R (drop i xs) l) none e)

module _ {A B C : Type 0} (R : A → B → Type 0) (S : B → C → Type 0) (T : A → C → Type 0) (join : (x : A) (y : B) (z : C) → R x y → S y z → T x z) where
  -- two relations one after the other
  pub each_then : (xs : List A) (ys : List B) (zs : List C) → Each R xs ys → Each S ys zs → Each T xs zs
  each_then [] [] [] r s = tt
  each_then [] [] (z ∷ zs) r s = absurd s
  each_then [] (y ∷ ys) zs r s = absurd r
  each_then (x ∷ xs) [] zs r s = absurd r
  each_then (x ∷ xs) (y ∷ ys) [] r s = absurd s
  each_then (x ∷ xs) (y ∷ ys) (z ∷ zs) r s = (join x y z r.0 s.0, each_then xs ys zs r.1 s.1)

module _ {A : Type 0} (R : A → A → Type 0) where
  pub each_self : ((x : A) → R x x) → (xs : List A) → Each R xs xs
  each_self same [] = tt
  each_self same (x ∷ xs) = (same x, each_self same xs)

  pub none_yet : (xs : List A) → UpTo R 0 xs xs
  none_yet [] = tt
  none_yet (x ∷ xs) = (refl, none_yet xs)

  pub up_length : (n : ℕ) (xs ys : List A) → UpTo R n xs ys → length ys ≡ length xs
  up_length n [] [] up = refl
  up_length n [] (y ∷ ys) up = absurd up
  up_length n (x ∷ xs) [] up = absurd up
  up_length zero (x ∷ xs) (y ∷ ys) up = ap suc (up_length zero xs ys up.1)
  up_length (suc n) (x ∷ xs) (y ∷ ys) up = ap suc (up_length n xs ys up.1)

  -- the one at the place is as before
  pub up_at : (n : ℕ) (xs ys : List A) (d f : A) → n < length xs → UpTo R n xs ys → get_or ys n f ≡ get_or xs n d
  up_at n [] [] d f lt up = absurd (omega arith)
  up_at n [] (y ∷ ys) d f lt up = absurd up
  up_at n (x ∷ xs) [] d f lt up = absurd up
  up_at zero (x ∷ xs) (y ∷ ys) d f lt up = up.0
  up_at (suc n) (x ∷ xs) (y ∷ ys) d f lt up = up_at n xs ys d f (omega arith) up.1

  up_more : (n : ℕ) (xs ys : List A) (d z : A) → n < length xs → R (get_or xs n d) z → UpTo R n xs ys → UpTo R (suc n) xs (slice_set ys n z)
  up_more n [] [] d z lt r up = absurd (omega arith)
  up_more n [] (y ∷ ys) d z lt r up = absurd up
  up_more n (x ∷ xs) [] d z lt r up = absurd up
  up_more zero (x ∷ xs) (y ∷ ys) d z lt r up = (r, up.1)
  up_more (suc n) (x ∷ xs) (y ∷ ys) d z lt r up = (up.0, up_more n xs ys d z (omega arith) r up.1)

  pub one_more : (n : ℕ) (xs ys : List A) (d z : A) → n < length xs → R (get_or xs n d) z → UpTo R n xs ys → UpTo R (n + 1) xs (slice_set ys n z)
  one_more n xs ys d z lt r up = rw add-one (up_more n xs ys d z lt r up)

  pub all_done : (n : ℕ) (xs ys : List A) → length xs ≤ n → UpTo R n xs ys → Each R xs ys
  all_done n [] [] end up = tt
  all_done n [] (y ∷ ys) end up = up
  all_done n (x ∷ xs) [] end up = up
  all_done zero (x ∷ xs) (y ∷ ys) end up = absurd (omega arith)
  all_done (suc n) (x ∷ xs) (y ∷ ys) end up = (up.0, all_done n xs ys (omega arith) up.1)

module _ {A : Type 0} (R : A → A → Type 0) where
  pub up_step : (n : ℕ) (xs ys : List A) (f z : A) → n < length xs → R (get_or ys n f) z → UpTo R n xs ys → UpTo R (n + 1) xs (slice_set ys n z)
  up_step n xs ys f z lt r up = one_more R n xs ys f z lt (subst (λ (a : A). R a z) (up_at R n xs ys f f lt up) r) up

module _ {A C : Type 0} (Q : C → A → Type 0) (R : A → A → Type 0) where
  -- what is known of the one at the place, which is as before
  pub up_read : (cs : List C) (xs ys : List A) (n : ℕ) (c : C) (f : A) → n < length cs → c ≡ get_or cs n c → Each Q cs xs → UpTo R n xs ys → Q c (get_or ys n f)
  up_read cs xs ys n c f lt is e up =
      subst (λ (a : A). Q c a) (sym (up_at R n xs ys f f (let same = each_length Q cs xs e in omega (arith, same, lt)) up)) (each_read Q cs xs n c f lt is e)

  pub up_within : (cs : List C) (xs ys : List A) (n : ℕ) → n < length cs → Each Q cs xs → UpTo R n xs ys → n < length ys
  up_within cs xs ys n lt e up = let one = each_length Q cs xs e in let two = up_length R n xs ys up in omega (arith, lt, one, two)

  pub up_inside : (cs : List C) (xs : List A) (n : ℕ) → n < length cs → Each Q cs xs → n < length xs
  up_inside cs xs n lt e = let one = each_length Q cs xs e in omega (arith, lt, one)

  pub up_done : (cs : List C) (xs ys : List A) (n : ℕ) → length cs ≤ n → Each Q cs xs → UpTo R n xs ys → Each R xs ys
  up_done cs xs ys n end e up = all_done R n xs ys (let one = each_length Q cs xs e in omega (arith, end, one)) up

module _ {A : Type 0} (R S : A → A → Type 0) where
  -- where nothing is a change too, and those below changed so
  pub so_far : ((x : A) → S x x) → ((x y : A) → R x y → S x y) → (n : ℕ) (xs ys : List A) → UpTo R n xs ys → Each S xs ys
  so_far same weaker n [] [] up = tt
  so_far same weaker n [] (y ∷ ys) up = up
  so_far same weaker n (x ∷ xs) [] up = up
  so_far same weaker zero (x ∷ xs) (y ∷ ys) up = (subst (λ w. S x w) (sym up.0) (same x), so_far same weaker zero xs ys up.1)
  so_far same weaker (suc n) (x ∷ xs) (y ∷ ys) up = (weaker x y up.0, so_far same weaker n xs ys up.1)

module _ {A : Type 0} (R S : A → A → Type 0) where
  pub up_weaker : ((x y : A) → R x y → S x y) → (n : ℕ) (xs ys : List A) → UpTo R n xs ys → UpTo S n xs ys
  up_weaker weaker n [] [] up = tt
  up_weaker weaker n [] (y ∷ ys) up = up
  up_weaker weaker n (x ∷ xs) [] up = up
  up_weaker weaker zero (x ∷ xs) (y ∷ ys) up = (up.0, up_weaker weaker zero xs ys up.1)
  up_weaker weaker (suc n) (x ∷ xs) (y ∷ ys) up = (weaker x y up.0, up_weaker weaker n xs ys up.1)

  pub each_weaker : ((x y : A) → R x y → S x y) → (xs ys : List A) → Each R xs ys → Each S xs ys
  each_weaker weaker [] [] e = tt
  each_weaker weaker [] (y ∷ ys) e = e
  each_weaker weaker (x ∷ xs) [] e = e
  each_weaker weaker (x ∷ xs) (y ∷ ys) e = (weaker x y e.0, each_weaker weaker xs ys e.1)

module _ {A : Type 0} (R : A → A → Type 0) (P : A → Type 0) where
  pub each_second : ((x y : A) → R x y → P y) → (xs ys : List A) → Each R xs ys → AllByRecursion P ys
  each_second has [] [] e = tt
  each_second has [] (y ∷ ys) e = absurd e
  each_second has (x ∷ xs) [] e = absurd e
  each_second has (x ∷ xs) (y ∷ ys) e = (has x y e.0, each_second has xs ys e.1)

-- ---- lists by place

module _ {A : Type 0} where
  get_front : (xs : List A) (x : A) (k : ℕ) (d : A) → k < length xs → get_or (xs ++ x ∷ []) k d ≡ get_or xs k d
  get_front [] x k d lt = absurd (omega arith)
  get_front (y ∷ xs) x zero d lt = refl
  get_front (y ∷ xs) x (suc k) d lt = get_front xs x k d (omega arith)

  get_last : (xs : List A) (x : A) (k : ℕ) (d : A) → k ≡ length xs → get_or (xs ++ x ∷ []) k d ≡ x
  get_last [] x zero d is = refl
  get_last [] x (suc k) d is = absurd (omega arith)
  get_last (y ∷ xs) x zero d is = absurd (omega arith)
  get_last (y ∷ xs) x (suc k) d is = get_last xs x k d (omega arith)

  pub all_front : (P : A → Type 0) (xs ys : List A) (x : A) → ys ≡ xs ++ x ∷ [] → All P ys → All P xs × P x
  all_front P xs ys x is all =
      let both : All P (xs ++ x ∷ []) = subst (All P) is all in
      let long = length-append xs (x ∷ []) in (
        (λ k d lt. subst P (get_front xs x k d lt) (both k d (omega (arith, lt, long)))),
        subst P (get_last xs x (length xs) x refl) (both (length xs) x (omega (arith, long))),
      )

  pub all_push : (P : A → Type 0) (xs ys : List A) (x : A) → ys ≡ xs ++ x ∷ [] → All P xs → P x → All P ys
  all_push P xs ys x is all own = subst (All P) (sym is) (λ k d lt. at k d lt (nat_lt k (length xs)) refl)
    where
      at : (k : ℕ) (d : A) → k < length (xs ++ x ∷ []) → (b : Bool) → nat_lt k (length xs) ≡ b → P (get_or (xs ++ x ∷ []) k d)
      at k d lt true is = let low : k < length xs = grind (arith, nat_tests) in subst P (sym (get_front xs x k d low)) (all k d low)
      at k d lt false is =
          let long = length-append xs (x ∷ []) in
          let high : length xs ≤ k = grind (arith, nat_tests) in
          subst P (sym (get_last xs x k d (omega (arith, lt, long, high)))) own

  pub all_none : (P : A → Type 0) (ys : List A) → ys ≡ [] → All P ys
  all_none P ys none k d lt = absurd (omega (arith, ap length none, lt))
