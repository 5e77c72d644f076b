-- Sums over lists, over replicas and over followers, where one element changes.
use Rattle.std.specs.List.{range_with_len}
use Rattle.std.specs.Prelude.{find, slice_get, slice_set}
use Rattle.std.proofs.Common.{◌≡◌, ◌⊎◌, inl, inr, ℕ, zero, suc, ◌+◌, ◌<◌, ◌≤◌, ◌==◌, Bool, true, false, if◌then◌else◌, Some, List, [], ◌∷◌, ◌++◌, refl, sym, subst, ap, arith}
use Rattle.ccr_model.specs.Copies.{Replica, replaced}
use Rattle.ccr_model.specs.Followers.{Follower}
use Rattle.ccr_law_base.proofs.Lists.{some_equal}
use Rattle.ccr_law_settling.proofs.Measure.Descent.{split}
use Rattle.ccr_law_settling.specs.Measure.{total, passing, over_followers}

-- ---- numbers that pass a test

pub one_fewer : (a b : Bool) → (b ≡ true → a ≡ true) → (if b then 1 else 0) ≤ (if a then 1 else 0)
one_fewer true true step = omega arith
one_fewer true false step = omega arith
one_fewer false false step = omega arith
one_fewer false true step = let e : false ≡ true = step refl in cc

-- where the second test passes less, it passes no more numbers
pub passing_fewer : (p q : ℕ → Bool) (from size : ℕ) → ((n : ℕ) → n < from + size → q n ≡ true → p n ≡ true)
    → passing q (range_with_len from size) ≤ passing p (range_with_len from size)
passing_fewer p q from zero less = omega arith
passing_fewer p q from (suc size) less =
    let rest : passing q (range_with_len (from + 1) size) ≤ passing p (range_with_len (from + 1) size)
    = passing_fewer p q (from + 1) size (λ n lt is. less n (omega arith) is) in
    let here : (if q from then 1 else 0) ≤ (if p from then 1 else 0) = one_fewer (p from) (q from) (less from (omega arith)) in
    omega arith

-- and fewer where it fails at a number that the first passes
pub passing_less : (p q : ℕ → Bool) (from size at : ℕ) → ((n : ℕ) → n < from + size → q n ≡ true → p n ≡ true)
    → from ≤ at → at < from + size → p at ≡ true → q at ≡ false
    → passing q (range_with_len from size) < passing p (range_with_len from size)
passing_less p q from zero at less low high is isnt = absurd (omega arith)
passing_less p q from (suc size) at less low high is isnt =
    by (split from at low)
    (passing_fewer p q (from + 1) size (λ n lt passed. less n (omega arith) passed))
    (λ more. passing_less p q (from + 1) size at (λ n lt passed. less n (omega arith) passed) (omega arith) (omega arith) is isnt)
  where
    by : (from < at) ⊎ (from ≡ at)
        → passing q (range_with_len (from + 1) size) ≤ passing p (range_with_len (from + 1) size)
        → (from < at → passing q (range_with_len (from + 1) size) < passing p (range_with_len (from + 1) size))
        → passing q (range_with_len from (suc size)) < passing p (range_with_len from (suc size))
    by (inr same) rest later =
        let one : p from ≡ true = subst (λ n. p n ≡ true) (sym same) is in
        let none : q from ≡ false = subst (λ n. q n ≡ false) (sym same) isnt in
        rw one (rw none (omega arith))
    by (inl more) rest later =
        let fewer : passing q (range_with_len (from + 1) size) < passing p (range_with_len (from + 1) size) = later more in
        let here : (if q from then 1 else 0) ≤ (if p from then 1 else 0) = one_fewer (p from) (q from) (less from (omega arith)) in
        omega arith

-- ---- sums

pub total_append : {X : Type 0} (amount : X → ℕ) (xs ys : List X) → total amount (xs ++ ys) ≡ total amount xs + total amount ys
total_append amount [] ys = omega arith
total_append amount (x ∷ xs) ys =
    let rest : total amount (xs ++ ys) ≡ total amount xs + total amount ys = total_append amount xs ys in omega arith

-- the one that is found is replaced
pub total_replaced : (amount : Replica → ℕ) (copy : ℕ) (new r : Replica) (rs : List Replica) → find (λ x. x.copy.number == copy) rs ≡ Some r
    → total amount (replaced copy new rs) + amount r ≡ total amount rs + amount new
total_replaced amount copy new r [] found = cc
total_replaced amount copy new r (x ∷ rs) found =
    (elim (x.copy.number == copy) as (λ b. (if b then Some x else find (λ x. x.copy.number == copy) rs) ≡ Some r
    → total amount (if b then new ∷ rs else x ∷ replaced copy new rs) + amount r ≡ amount x + total amount rs + amount new) [
      | true ↦ λ is. let same : amount x ≡ amount r = ap amount (some_equal x r is) in omega arith
      | false ↦ λ isnt. let rest : total amount (replaced copy new rs) + amount r ≡ total amount rs + amount new = total_replaced amount copy new r rs isnt in omega arith
    ]) found

-- one follower is set
pub over_set : (amount : ℕ → Follower → ℕ) (f k : ℕ) (x y : Follower) (xs : List Follower) → slice_get xs k ≡ Some x
    → over_followers amount f (slice_set xs k y) + amount (f + k) x ≡ over_followers amount f xs + amount (f + k) y
over_set amount f k x y [] at = cc
over_set amount f zero x y (z ∷ xs) at =
    let same : z ≡ x = some_equal z x at in
    let e : f + 0 ≡ f = omega arith in
    rw e (subst (λ w. amount f y + over_followers amount (f + 1) xs + amount f w ≡ amount f z + over_followers amount (f + 1) xs + amount f y) same (omega arith))
over_set amount f (suc k) x y (z ∷ xs) at =
    let e : f + suc k ≡ f + 1 + k = omega arith in
    let rest : over_followers amount (f + 1) (slice_set xs k y) + amount (f + 1 + k) x ≡ over_followers amount (f + 1) xs + amount (f + 1 + k) y = over_set amount (f + 1) k x y xs at in
    rw e (omega arith)

pub le_itself : (n : ℕ) → n ≤ n
le_itself n = omega arith

-- one follower is set to another of as much, or less
pub over_set_same : (amount : ℕ → Follower → ℕ) (k : ℕ) (x y : Follower) (xs : List Follower) → slice_get xs k ≡ Some x → amount k y ≤ amount k x
    → over_followers amount 0 (slice_set xs k y) ≤ over_followers amount 0 xs
over_set_same amount k x y xs at le =
    let e : 0 + k ≡ k = omega arith in
    let sums : over_followers amount 0 (slice_set xs k y) + amount k x ≡ over_followers amount 0 xs + amount k y
    = subst (λ n. over_followers amount 0 (slice_set xs k y) + amount n x ≡ over_followers amount 0 xs + amount n y) e (over_set amount 0 k x y xs at) in
    omega arith

pub over_set_less : (amount : ℕ → Follower → ℕ) (k : ℕ) (x y : Follower) (xs : List Follower) → slice_get xs k ≡ Some x → amount k y < amount k x
    → over_followers amount 0 (slice_set xs k y) < over_followers amount 0 xs
over_set_less amount k x y xs at lt =
    let e : 0 + k ≡ k = omega arith in
    let sums : over_followers amount 0 (slice_set xs k y) + amount k x ≡ over_followers amount 0 xs + amount k y
    = subst (λ n. over_followers amount 0 (slice_set xs k y) + amount n x ≡ over_followers amount 0 xs + amount n y) e (over_set amount 0 k x y xs at) in
    omega arith

-- each follower counts no more
pub over_fewer : (a b : ℕ → Follower → ℕ) (f : ℕ) (xs : List Follower) → ((k : ℕ) (x : Follower) → a k x ≤ b k x) → over_followers a f xs ≤ over_followers b f xs
over_fewer a b f [] less = omega arith
over_fewer a b f (x ∷ xs) less =
    let here : a f x ≤ b f x = less f x in
    let rest : over_followers a (f + 1) xs ≤ over_followers b (f + 1) xs = over_fewer a b (f + 1) xs less in
    omega arith
