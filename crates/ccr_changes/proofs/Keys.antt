-- Sets of triples, in the order of a first part and then of two numbers.
use Rattle.std.proofs.Common.{◌≡◌, ℕ, ◌≤◌, ◌==◌, ◌||◌, ◌&&◌, Bool, true, false, cond, List, [], ◌∷◌, refl, ◌∙◌, ap, subst, arith, IfSome}
use Rattle.std.specs.Prelude.{slice_get}
use Rattle.std.specs.List.{list_any}
use Rattle.std.specs.Cmp.{IsTotalOrder, nat_cmp_total, unsigned_tied}
use Rattle.std.specs.Ordering.{nat_cmp, ordering_then, ordering_reverse, match_ordering, is_eq, is_gt}
use Rattle.std.specs.declared.cmp.Ordering.{Ordering}
use Rattle.std.specs.declared.cmp.Ordering.TheVariants.{Less, Equal, Greater}
use Rattle.std.specs.declared.ops.Bound.TheVariants.{Included, Unbounded}
use Rattle.std.specs.Set.{remove_key}
use Rattle.std.specs.BTreeMap.{is_at}
use Rattle.std.specs.BTreeSet.{BTreeSet, insert_key, IsKeyRangeOf, IsKeyInRange}
use Rattle.std.specs.BTreeMap.Range.{IsLeBy}
use Rattle.std.proofs.lemmas.Cmp.{on_total, then_total, tied_itself}
use Rattle.std.proofs.lemmas.Map.Keys.{le_from_not_gt}
use Rattle.std.proofs.lemmas.Bool.Decides.{nat_tests}

abbrev pub key_cmp : {K : Type 0} → (K → K → Ordering) → K × ℕ × ℕ → K × ℕ × ℕ → Ordering
key_cmp R x y = ordering_then (ordering_then (R x.0 y.0) (nat_cmp x.1 y.1)) (nat_cmp x.2 y.2)

then_tied : (o p : Ordering) → is_eq (ordering_then o p) ≡ (is_eq o && is_eq p)
then_tied Less p = refl
then_tied Equal p = refl
then_tied Greater p = refl

then_upto : (o p : Ordering) → is_gt o ≡ false → is_gt p ≡ false → is_gt (ordering_then o p) ≡ false
then_upto Less p a b = refl
then_upto Equal p a b = b
then_upto Greater p a b = a

first_upto : (o p : Ordering) → is_gt (ordering_then o p) ≡ false → is_gt o ≡ false
first_upto Less p h = refl
first_upto Equal p h = refl
first_upto Greater p h = h

module _ {K : Type 0} (R : K → K → Ordering) where
  pub key-tied : (x y : K × ℕ × ℕ) → is_at (key_cmp R x) y ≡ ((is_at (R x.0) y.0 && (x.1 == y.1)) && (x.2 == y.2))
  key-tied x y =
      then_tied (ordering_then (R x.0 y.0) (nat_cmp x.1 y.1)) (nat_cmp x.2 y.2)
      ∙ (ap (λ (b : Bool). b && is_eq (nat_cmp x.2 y.2)) (then_tied (R x.0 y.0) (nat_cmp x.1 y.1))
      ∙ (ap (λ (b : Bool). (is_eq (R x.0 y.0) && b) && is_eq (nat_cmp x.2 y.2)) (unsigned_tied x.1 y.1)
      ∙ ap (λ (b : Bool). (is_eq (R x.0 y.0) && (x.1 == y.1)) && b) (unsigned_tied x.2 y.2)))

  le-first : (x y : K × ℕ × ℕ) → is_gt (key_cmp R x y) ≡ false → is_gt (R x.0 y.0) ≡ false
  le-first x y h = first_upto (R x.0 y.0) (nat_cmp x.1 y.1) (first_upto (ordering_then (R x.0 y.0) (nat_cmp x.1 y.1)) (nat_cmp x.2 y.2) h)

  le-second : (x y : K × ℕ × ℕ) → R x.0 y.0 ≡ Equal → is_gt (key_cmp R x y) ≡ false → x.1 ≤ y.1
  le-second x y tied h =
      let both : is_gt (ordering_then (R x.0 y.0) (nat_cmp x.1 y.1)) ≡ false = first_upto (ordering_then (R x.0 y.0) (nat_cmp x.1 y.1)) (nat_cmp x.2 y.2) h in
      le_from_not_gt x.1 y.1 (subst (λ (o : Ordering). is_gt (ordering_then o (nat_cmp x.1 y.1)) ≡ false) tied both)

  module _ (total : IsTotalOrder R) where
    not_above : (x : K) → is_gt (R x x) ≡ false
    not_above x = ap is_gt (tied_itself total x)

    antisymmetric : (x y : K) → is_gt (R x y) ≡ false → is_gt (R y x) ≡ false → R x y ≡ Equal
    antisymmetric x y a b =
        (elim (R y x) as (λ o. R x y ≡ ordering_reverse o → is_gt o ≡ false → R x y ≡ Equal) [
          | Less ↦ λ is h. let gt : is_gt (R x y) ≡ true = ap is_gt is in absurd cc
          | Equal ↦ λ is h. is
          | Greater ↦ λ is h. absurd cc
        ]) (total.antisymm x y) b

    -- each key from a first part and a number on comes after this
    pub key-start : (k : K) (low n age : ℕ) → low ≤ n → is_gt (key_cmp R (k, low, 0) (k, n, age)) ≡ false
    key-start k low n age le =
        let number : is_gt (nat_cmp low n) ≡ false = grind (arith, nat_tests) in
        let last : is_gt (nat_cmp 0 age) ≡ false = grind (arith, nat_tests) in
        then_upto (ordering_then (R k k) (nat_cmp low n)) (nat_cmp 0 age) (then_upto (R k k) (nat_cmp low n) (not_above k) number) last

-- ---- a key that is put in and taken out again

pub remove-insert : {K : Type 0} {R : K → K → Ordering} (total : IsTotalOrder R) (k : K) (ks : List K) → list_any (is_at (R k)) ks ≡ false → remove_key (is_at (R k)) (insert_key R ks k) ≡ ks
remove-insert {K} {R} total k [] none = ap (λ (o : Ordering). cond (is_eq o) [] (k ∷ [])) (tied_itself total k)
remove-insert {K} {R} total k (x ∷ xs) none =
    (elim (R k x) as (λ o. R k x ≡ o → (is_eq o || list_any (is_at (R k)) xs) ≡ false → remove_key (is_at (R k)) (match_ordering o (k ∷ x ∷ xs) (x ∷ xs) (x ∷ insert_key R xs k)) ≡ x ∷ xs) [
      | Less ↦ λ is other. ap (λ (o : Ordering). cond (is_eq o) (x ∷ xs) (k ∷ remove_key (is_at (R k)) (x ∷ xs))) (tied_itself total k)
      | Equal ↦ λ is other. absurd cc
      | Greater ↦ λ is other.
          ap (λ (o : Ordering). cond (is_eq o) (insert_key R xs k) (x ∷ remove_key (is_at (R k)) (insert_key R xs k))) is
          ∙ ap (λ (rest : List K). x ∷ rest) (remove-insert total k xs other)
    ]) refl none

-- ---- the first key from a start on

pub record IsFirst {K : Type 0} (R : K → K → Ordering) (keys : List K) (low first : K) : Type 0 where
  pub there : list_any (is_at (R first)) keys ≡ true
  pub from : is_gt (R low first) ≡ false
  pub least : (q : K) → is_gt (R low q) ≡ false → list_any (is_at (R q)) keys ≡ true → is_gt (R first q) ≡ false

pub first-some : {K : Type 0} (R : K → K → Ordering) (s : BTreeSet K) (low first : K) (run rest : List K) → IsKeyRangeOf R (Included low) Unbounded s run → run ≡ first ∷ rest → IsFirst R s.keys low first
first-some {K} R s low first run rest range is =
    let own : IsKeyInRange R (Included low) Unbounded s first = subst (λ (r : List K). IfSome (slice_get r 0) (IsKeyInRange R (Included low) Unbounded s)) is range.1 in
    record {
      there = own.1;
      from = own.0.0;
      least = λ q from has. subst (λ (r : List K). IfSome (slice_get r 0) (λ k. IsLeBy R k q)) is (range.2 q (from, tt) has);
    }

pub first-none : {K : Type 0} (R : K → K → Ordering) (s : BTreeSet K) (low : K) (run : List K) → IsKeyRangeOf R (Included low) Unbounded s run → run ≡ [] → (q : K) → is_gt (R low q) ≡ false → list_any (is_at (R q)) s.keys ≡ false
first-none R s low run range is q from = range.5 is q (from, tt)

-- ---- of a first part

module _ {K : Type 0} {R : K → K → Ordering} (total : IsTotalOrder R) (keys : List (K × ℕ × ℕ)) (k : K) (low : ℕ) where
  -- a key of the first part, from the number on, comes after the first one, which then has the first part too
  pub shared : (first : K × ℕ × ℕ) (n age : ℕ) → IsFirst (key_cmp R) keys (k, low, 0) first → low ≤ n → list_any (is_at (key_cmp R (k, n, age))) keys ≡ true
      → (R k first.0 ≡ Equal) × (R first.0 k ≡ Equal) × (low ≤ first.1) × (first.1 ≤ n)
  shared first n age it le has =
      let after : is_gt (key_cmp R first (k, n, age)) ≡ false = it.least (k, n, age) (key-start R total k low n age le) has in
      let before : is_gt (key_cmp R (k, low, 0) first) ≡ false = it.from in
      let up : is_gt (R first.0 k) ≡ false = le-first R first (k, n, age) after in
      let down : is_gt (R k first.0) ≡ false = le-first R (k, low, 0) first before in
      let there : R k first.0 ≡ Equal = antisymmetric R total k first.0 down up in
      let back : R first.0 k ≡ Equal = antisymmetric R total first.0 k up down in
      (there, back, le-second R (k, low, 0) first there before, le-second R first (k, n, age) back after)

-- the whole order is total
pub key-total : {K : Type 0} {R : K → K → Ordering} → IsTotalOrder R → IsTotalOrder (key_cmp R)
key-total {K} {R} total = then_total (then_total (on_total (λ (x : K × ℕ × ℕ). x.0) total) (on_total (λ (x : K × ℕ × ℕ). x.1) nat_cmp_total)) (on_total (λ (x : K × ℕ × ℕ). x.2) nat_cmp_total)
