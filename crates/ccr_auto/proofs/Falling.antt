-- Lists that fall into a part below a point, at most one element at it, and a part above it, by two tests.
use Rattle.std.proofs.Common.{◌≡◌, ℕ, ◌<◌, ◌≤◌, Bool, true, false, not, List, [], ◌∷◌, filter, length, Some, None, ◌⊎◌, inl, inr, refl, sym, ap, arith, zero, suc}
use Rattle.std.specs.List.{AllByRecursion, find, AllWithin, slice_get, remove}

module _ {X : Type 0} (below at : X → Bool) where
  -- what is below stands first, and of what follows only the first may be at the point
  abbrev pub Falls : List X → Type 0
  Falls [] = Unit {0}
  Falls (x ∷ xs) = ((below x ≡ true) × (at x ≡ false) × Falls xs) ⊎ ((below x ≡ false) × AllByRecursion (λ y. (below y ≡ false) × (at y ≡ false)) xs)

  -- each element is above the point
  abbrev pub Above : List X → Type 0
  Above xs = AllByRecursion (λ y. (below y ≡ false) × (at y ≡ false)) xs

  pub filter-above : (xs : List X) → Above xs → filter below xs ≡ []
  filter-above [] h = refl
  filter-above (x ∷ xs) h = let e = h.0.0 in rw e (filter-above xs h.1)

  find-above : (xs : List X) → Above xs → find at xs ≡ None
  find-above [] h = refl
  find-above (x ∷ xs) h = let e = h.0.1 in rw e (find-above xs h.1)

  without-above : (xs : List X) → Above xs → filter (λ y. not (at y)) xs ≡ xs
  without-above [] h = refl
  without-above (x ∷ xs) h = let e = h.0.1 in rw e (ap (λ ys. x ∷ ys) (without-above xs h.1))

  -- the place of the point: how many elements are below it
  abbrev pub place : List X → ℕ
  place xs = length (filter below xs)

  -- the one element at the point stands at the place
  pub record IsAt (xs : List X) (n : ℕ) (x : X) : Type 0 where
    pub low : n < length xs
    pub found : find at xs ≡ Some x
    pub taken : remove xs n ≡ filter (λ y. not (at y)) xs

  IsAt-suc : (y : X) (xs : List X) (n : ℕ) (x : X) → at y ≡ false → IsAt xs n x → IsAt (y ∷ xs) (suc n) x
  IsAt-suc y xs n x e h = record {
    low = let l : n < length xs = h.low in omega arith;
    found = rw e h.found;
    taken = rw e (ap (λ ys. y ∷ ys) h.taken);
  }

  IsAt-zero : (x : X) (xs : List X) → at x ≡ true → Above xs → IsAt (x ∷ xs) 0 x
  IsAt-zero x xs e h = record {
    low = omega arith;
    found = rw e;
    taken = rw e (sym (without-above xs h));
  }

  pub IsAt-place : (xs : List X) (x : X) → Falls xs → slice_get xs (place xs) ≡ Some x → at x ≡ true → IsAt xs (place xs) x
  IsAt-place [] x fall got e = cc
  IsAt-place (y ∷ ys) x (inl h) got e =
      let b = h.0 in rw b (IsAt-suc y ys (place ys) x h.1 (IsAt-place ys x h.2 (rw b at got) e))
  IsAt-place (y ∷ ys) x (inr h) got e =
      let b = h.0 in
      let none = filter-above ys h.1 in
      let first : place (y ∷ ys) ≡ 0 = rw b (rw none) in
      let got' : slice_get (y ∷ ys) 0 ≡ Some x = rw first at got in
      let same : x ≡ y = cc in
      rw first (rw same (IsAt-zero y ys (rw same at e) h.1))

  pub none-at-place : (xs : List X) → Falls xs → slice_get xs (place xs) ≡ None → find at xs ≡ None
  none-at-place [] fall got = refl
  none-at-place (y ∷ ys) (inl h) got =
      let b = h.0 in
      let e = h.1 in
      rw e (none-at-place ys h.2 (rw b at got))
  none-at-place (y ∷ ys) (inr h) got =
      let b = h.0 in
      let none = filter-above ys h.1 in
      let first : place (y ∷ ys) ≡ 0 = rw b (rw none) in
      let got' : slice_get (y ∷ ys) 0 ≡ None = rw first at got in
      cc

  pub other-at-place : (xs : List X) (x : X) → Falls xs → slice_get xs (place xs) ≡ Some x → at x ≡ false → find at xs ≡ None
  other-at-place [] x fall got e = refl
  other-at-place (y ∷ ys) x (inl h) got e =
      let b = h.0 in
      let a = h.1 in
      rw a (other-at-place ys x h.2 (rw b at got) e)
  other-at-place (y ∷ ys) x (inr h) got e =
      let b = h.0 in
      let none = filter-above ys h.1 in
      let first : place (y ∷ ys) ≡ 0 = rw b (rw none) in
      let got' : slice_get (y ∷ ys) 0 ≡ Some x = rw first at got in
      let same : y ≡ x = cc in
      let a : at y ≡ false = rw same e in
      rw a (find-above ys h.1)

  -- the place is where the first part ends
  pub place-is : (xs : List X) (n : ℕ) → n ≤ length xs → AllWithin (λ y. below y ≡ true) xs 0 n → AllWithin (λ y. below y ≡ false) xs n (length xs) → n ≡ place xs
  place-is [] n le front back = omega arith
  place-is (x ∷ xs) zero le front back =
      let b : below x ≡ false = back 0 x (omega arith) (omega arith) in
      rw b (place-is xs 0 (omega arith) (λ k d low high. absurd (omega arith)) (λ k d low high. back (suc k) d (omega arith) (omega arith)))
  place-is (x ∷ xs) (suc n) le front back =
      let b : below x ≡ true = front 0 x (omega arith) (omega arith) in
      rw b (ap suc (place-is xs n (omega arith) (λ k d low high. front (suc k) d (omega arith) (omega arith)) (λ k d low high. back (suc k) d (omega arith) (omega arith))))
