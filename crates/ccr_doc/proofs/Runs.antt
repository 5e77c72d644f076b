-- The runs of a text, one by one.
use Rattle.std.proofs.Common.{◌≡◌, ℕ, ◌<◌, ◌≤◌, List, [], ◌∷◌, length, take, drop, filter, Bool, true, false, not, eqb, refl, sym, ap, ◌∙◌, arith, length-take}
use Rattle.std.proofs.Math.Dec.{eqb-suc-zero}
use Rattle.std.proofs.Math.Numerals.{one-add}
use Rattle.std.proofs.lemmas.List.Splits.{slice_split-cons_yes}
use Rattle.std.proofs.lemmas.List.{drop_all}
use Rattle.std.proofs.lemmas.List.Sums.{prefix_len-le-length}
use Rattle.std.specs.List.{slice_split, onto_first, prefix_len, position_or_len}
use Rattle.ccr_doc.specs.Words.{runs_of}

abbrev kept : List (List ℕ) → List (List ℕ)
kept parts = filter (λ run. not (eqb (length run) 0)) parts

module _ (p : ℕ → Bool) where
  abbrev parts : List ℕ → List (List ℕ)
  parts xs = slice_split (λ x. not (p x)) xs

  skip_at : (x : ℕ) (xs : List ℕ) (b : Bool) → p x ≡ b → runs_of p xs ≡ runs_of p (drop (position_or_len p xs) xs)
      → runs_of p (x ∷ xs) ≡ runs_of p (drop (position_or_len p (x ∷ xs)) (x ∷ xs))
  skip_at x xs true e h = rw (e, e) refl
  skip_at x xs false e h =
      let same : drop (position_or_len p (x ∷ xs)) (x ∷ xs) ≡ drop (position_or_len p xs) xs = rw (e, one-add) refl in
      ap kept (slice_split-cons_yes (λ y. not (p y)) x xs (ap not e)) ∙ h ∙ ap (runs_of p) (sym same)

  -- what stands before the first run is no part of a run
  runs_of_skip : (xs : List ℕ) → runs_of p xs ≡ runs_of p (drop (position_or_len p xs) xs)
  runs_of_skip [] = refl
  runs_of_skip (x ∷ xs) = skip_at x xs (p x) refl (runs_of_skip xs)

  cut_at : (x : ℕ) (xs : List ℕ) (b : Bool) → p x ≡ b → parts xs ≡ take (prefix_len p xs) xs ∷ drop 1 (parts (drop (prefix_len p xs) xs))
      → parts (x ∷ xs) ≡ take (prefix_len p (x ∷ xs)) (x ∷ xs) ∷ drop 1 (parts (drop (prefix_len p (x ∷ xs)) (x ∷ xs)))
  cut_at x xs true e h = rw (e, one-add) (ap (onto_first x) h)
  cut_at x xs false e h = rw (e, e) refl

  cut : (xs : List ℕ) → parts xs ≡ take (prefix_len p xs) xs ∷ drop 1 (parts (drop (prefix_len p xs) xs))
  cut [] = refl
  cut (x ∷ xs) = cut_at x xs (p x) refl (cut xs)

  after_at : (x : ℕ) (xs : List ℕ) (b : Bool) → p x ≡ b → kept (drop 1 (parts (drop (prefix_len p xs) xs))) ≡ runs_of p (drop (prefix_len p xs) xs)
      → kept (drop 1 (parts (drop (prefix_len p (x ∷ xs)) (x ∷ xs)))) ≡ runs_of p (drop (prefix_len p (x ∷ xs)) (x ∷ xs))
  after_at x xs true e h = rw (e, one-add) h
  after_at x xs false e h = rw (e, e) refl

  after : (xs : List ℕ) → kept (drop 1 (parts (drop (prefix_len p xs) xs))) ≡ runs_of p (drop (prefix_len p xs) xs)
  after [] = refl
  after (x ∷ xs) = after_at x xs (p x) refl (after xs)

  kept_cons : (xs : List ℕ) (rest : List (List ℕ)) → 0 < length xs → kept (xs ∷ rest) ≡ xs ∷ kept rest
  kept_cons [] rest h = absurd (omega arith)
  kept_cons (x ∷ xs) rest h = rw (eqb-suc-zero (length xs)) refl

  begins_at : (x : ℕ) (xs : List ℕ) (b : Bool) → p x ≡ b → position_or_len p (x ∷ xs) < length (x ∷ xs)
      → (position_or_len p xs < length xs → 0 < prefix_len p (drop (position_or_len p xs) xs))
      → 0 < prefix_len p (drop (position_or_len p (x ∷ xs)) (x ∷ xs))
  begins_at x xs true e m h = rw (e, e) (omega arith)
  begins_at x xs false e m h =
      let less = rw e at m in
      rw (e, one-add) (h (omega (arith, less)))

  begins : (xs : List ℕ) → position_or_len p xs < length xs → 0 < prefix_len p (drop (position_or_len p xs) xs)
  begins [] h = absurd (omega arith)
  begins (x ∷ xs) h = begins_at x xs (p x) refl h (begins xs)

  -- a text that begins with a run has this run first
  first_run : (xs : List ℕ) → 0 < length (take (prefix_len p xs) xs) → runs_of p xs ≡ take (prefix_len p xs) xs ∷ runs_of p (drop (prefix_len p xs) xs)
  first_run xs h = ap kept (cut xs) ∙ kept_cons (take (prefix_len p xs) xs) (drop 1 (parts (drop (prefix_len p xs) xs))) h ∙ ap (λ rest. take (prefix_len p xs) xs ∷ rest) (after xs)

  pub runs_of_none : (xs : List ℕ) → length xs ≤ position_or_len p xs → runs_of p xs ≡ []
  runs_of_none xs h = runs_of_skip xs ∙ ap (runs_of p) (drop_all (position_or_len p xs) xs h)

  pub run_begins : (xs from : List ℕ) → from ≡ drop (position_or_len p xs) xs → position_or_len p xs < length xs → 0 < prefix_len p from
  run_begins xs from e h = rw e (begins xs h)

  pub runs_of_some : (xs from : List ℕ) → from ≡ drop (position_or_len p xs) xs → position_or_len p xs < length xs
      → runs_of p xs ≡ take (prefix_len p from) from ∷ runs_of p (drop (prefix_len p from) from)
  runs_of_some xs from e h =
      let some : 0 < prefix_len p from = run_begins xs from e h in
      runs_of_skip xs ∙ ap (runs_of p) (sym e) ∙ first_run from (simp length-take (omega (arith, prefix_len-le-length p from)))
