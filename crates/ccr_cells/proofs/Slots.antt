-- One of several passes goes on, or all do, or there is one more.
use Rattle.std.specs.Prelude.{Some, slice_set, Result, Ok, Err, OnOk, OnErr}
use Rattle.std.specs.List.{AllByRecursion}
use Rattle.std.proofs.Common.{◌≡◌, ℕ, zero, suc, ◌+◌, ◌<◌, List, [], ◌∷◌, ◌++◌, length, get_or, take, refl, sym, ◌∙◌, ap, subst, arith}
use Rattle.ccr_model.specs.Leaders.{Start}
use Rattle.ccr_cell.specs.Passes.{view_of}
use Rattle.ccr_workers.specs.Lists.{Each}
use Rattle.ccr_workers.specs.Settles.{IsOnlyPass}
use Rattle.ccr_workers.specs.Lending.{Went}
use Rattle.ccr_workers.proofs.Lists.{each_length, each_then, each_at, each_set, each_weaker}
use Rattle.ccr_workers.proofs.Growing.{only_went}
use Rattle.ccr_cells.specs.declared.numbered.Opening.{Opening}
use Rattle.ccr_journal.specs.declared.journals.Entry.{Entry}
use Rattle.ccr_cells.specs.Opened.{opening_of}
use Rattle.ccr_cells.specs.Views.{Pass, CellOfWorld, AreNumbered, anything, logs_in}

-- ---- lists of two kinds side by side

module _ {A B : Type 0} (R : A → B → Type 0) where
  pub each_push : (xs : List A) (ys : List B) (x : A) (y : B) → Each R xs ys → R x y → Each R (xs ++ x ∷ []) (ys ++ y ∷ [])
  each_push [] [] x y each more = (more, tt)
  each_push [] (b ∷ ys) x y each more = absurd each
  each_push (a ∷ xs) [] x y each more = absurd each
  each_push (a ∷ xs) (b ∷ ys) x y each more = (each.0, each_push xs ys x y each.1 more)

  pub each_and : (P : B → Type 0) (xs : List A) (ys : List B) → Each R xs ys → AllByRecursion P ys → Each (λ x y. R x y × P y) xs ys
  each_and P [] [] each all = tt
  each_and P [] (b ∷ ys) each all = each
  each_and P (a ∷ xs) [] each all = each
  each_and P (a ∷ xs) (b ∷ ys) each all = ((each.0, all.0), each_and P xs ys each.1 all.1)

logs_length : (ps : List Pass) → length (logs_in ps) ≡ length ps
logs_length [] = refl
logs_length (p ∷ ps) = ap suc (logs_length ps)

-- ---- numbers

pub numbered_each : (n : ℕ) (ps qs : List Pass) → Each (λ (p q : Pass). (view_of q).start ≡ (view_of p).start) ps qs → AreNumbered n ps → AreNumbered n qs
numbered_each n [] [] same are = tt
numbered_each n [] (q ∷ qs) same are = absurd same
numbered_each n (p ∷ ps) [] same are = absurd same
numbered_each n (p ∷ ps) (q ∷ qs) same are = ((are.0.0, same.0 ∙ are.0.1), numbered_each (n + 1) ps qs same.1 are.1)

numbered_set : (n : ℕ) (ps : List Pass) (i : ℕ) (d p q : Pass) → i < length ps → p ≡ get_or ps i d → (view_of q).start ≡ (view_of p).start → AreNumbered n ps → AreNumbered n (slice_set ps i q)
numbered_set n [] i d p q within is same are = absurd (omega arith)
numbered_set n (x ∷ ps) zero d p q within is same are =
    ((are.0.0, same ∙ (ap (λ (t : Pass). (view_of t).start) is ∙ are.0.1)), are.1)
numbered_set n (x ∷ ps) (suc i) d p q within is same are = (are.0, numbered_set (n + 1) ps i d p q (omega arith) is same are.1)

numbered_push : (n m : ℕ) (ps : List Pass) (q : Pass) (start : Start) → n + length ps ≡ m → (view_of q).start ≡ Some (record { number = m; start = start }) → AreNumbered n ps → AreNumbered n (ps ++ q ∷ [])
numbered_push n m [] q start at is are = ((start, is ∙ ap (λ (k : ℕ). Some (record { number = k; start = start })) (omega (arith, at))), tt)
numbered_push n m (p ∷ ps) q start at is are = (are.0, numbered_push (n + 1) m ps q start (omega (arith, at)) is are.1)

pub numbered_more : (m : ℕ) (ps qs : List Pass) (q : Pass) (start : Start) → length ps ≡ m → qs ≡ ps ++ q ∷ [] → (view_of q).start ≡ Some (record { number = m; start = start }) → AreNumbered 0 ps
    → AreNumbered 0 qs
numbered_more m ps qs q start at grew is are = subst (AreNumbered 0) (sym grew) (numbered_push 0 m ps q start (omega (arith, at)) is are)

-- ---- a pass at a place goes on

module _ (cells : List CellOfWorld) (ps : List Pass) (only : Each (IsOnlyPass opening_of) cells ps) where
  pub inside_cells : (i : ℕ) → i < length (logs_in ps) → i < length cells
  inside_cells i lt = let one = logs_length ps in let two = each_length (IsOnlyPass opening_of) cells ps only in omega (arith, lt, one, two)

  pub inside_passes : (i : ℕ) → i < length (logs_in ps) → i < length ps
  inside_passes i lt = let one = logs_length ps in omega (arith, lt, one)

  module _ (i : ℕ) (lt : i < length (logs_in ps)) (c d : CellOfWorld) (p f : Pass) (at_cell : c ≡ get_or cells i d) (at_pass : p ≡ get_or ps i f) where
    pub only_at : IsOnlyPass opening_of c p
    only_at =
        subst (λ (x : CellOfWorld). IsOnlyPass opening_of x p) (sym at_cell)
        (subst (λ (x : Pass). IsOnlyPass opening_of (get_or cells i d) x) (sym at_pass)
        (each_at (IsOnlyPass opening_of) cells ps i d f (inside_cells i lt) only))

    module _ (q : Pass) (went : Went anything 0 0 p q) where
      pub only_set : Each (IsOnlyPass opening_of) cells (slice_set ps i q)
      only_set =
          each_set (IsOnlyPass opening_of) cells ps i d q (inside_cells i lt)
          (subst (λ (x : CellOfWorld). IsOnlyPass opening_of x q) at_cell (only_went opening_of anything c p q only_at went)) only

      pub numbers_set : AreNumbered 0 ps → AreNumbered 0 (slice_set ps i q)
      numbers_set are = numbered_set 0 ps i f p q (inside_passes i lt) at_pass went.on.start are

pub went_only : (chosen : Opening → List Entry → Entry → Type 0) (cells : List CellOfWorld) (ps qs : List Pass) → Each (IsOnlyPass opening_of) cells ps → Each (Went chosen 0 0) ps qs
    → Each (IsOnlyPass opening_of) cells qs
went_only chosen cells ps qs only went = each_then (IsOnlyPass opening_of) (Went chosen 0 0) (IsOnlyPass opening_of) (λ cell p q one more. only_went opening_of chosen cell p q one more) cells ps qs only went

pub went_numbered : (chosen : Opening → List Entry → Entry → Type 0) (ps qs : List Pass) → Each (Went chosen 0 0) ps qs → AreNumbered 0 ps → AreNumbered 0 qs
went_numbered chosen ps qs went are =
    numbered_each 0 ps qs (each_weaker (Went chosen 0 0) (λ (p q : Pass). (view_of q).start ≡ (view_of p).start) (λ p q w. w.on.start) ps qs went) are

-- ---- all of a list that was lent as a slice

pub whole_again : {X : Type 0} (n : ℕ) (new rest : List X) → n ≡ length new → take n (new ++ rest) ≡ new
whole_again zero [] [] e = refl
whole_again zero [] (x ∷ rest) e = refl
whole_again zero (y ∷ new) rest e = absurd (omega arith)
whole_again (suc n) [] rest e = absurd (omega arith)
whole_again (suc n) (y ∷ new) rest e = ap (λ xs. y ∷ xs) (whole_again n new rest (omega arith))

-- ---- what is so whether a call was refused or not

pub either_way : {T E : Type 0} (A B C : Type 0) (r : Result T E) → OnOk r A → OnErr r B → (A → C) → (B → C) → C
either_way A B C (Ok x) a b f g = f a
either_way A B C (Err e) a b f g = g b

pub ok_then : {T E : Type 0} (A B : Type 0) (r : Result T E) → (A → B) → OnOk r A → OnOk r B
ok_then A B (Ok x) f a = f a
ok_then A B (Err e) f a = tt

pub err_then : {T E : Type 0} (A B : Type 0) (r : Result T E) → (A → B) → OnErr r A → OnErr r B
err_then A B (Ok x) f a = tt
err_then A B (Err e) f a = f a

-- ---- nothing yet

pub each_none : {A B : Type 0} (R : A → B → Type 0) (xs : List A) (ys : List B) → xs ≡ [] → ys ≡ [] → Each R xs ys
each_none R [] [] one two = tt
each_none R [] (y ∷ ys) one two = absurd cc
each_none R (x ∷ xs) ys one two = absurd cc

pub numbered_none : (n : ℕ) (ps : List Pass) → ps ≡ [] → AreNumbered n ps
numbered_none n [] none = tt
numbered_none n (p ∷ ps) none = absurd cc

pub logs_none : (ps : List Pass) → ps ≡ [] → logs_in ps ≡ []
logs_none [] none = refl
logs_none (p ∷ ps) none = absurd cc
