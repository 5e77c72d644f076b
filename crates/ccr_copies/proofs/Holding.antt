-- What a copy holds it has processed, after each of its changes.
use Rattle.std.specs.Prelude.{flat_map, filter}
use Rattle.std.proofs.Common.{◌≡◌, ◌⊎◌, ℕ, ◌≤◌, inl, inr, ◌<◌, ◌+◌, ◌==◌, Bool, true, false, ◌||◌, ◌&&◌, nat_lt, if◌then◌else◌, List, [], ◌∷◌, ◌++◌, refl, sym, ◌∙◌, ap, arith}
use Rattle.std.proofs.lemmas.Bool.{eqb-true}
use Rattle.std.proofs.lemmas.Bool.Decides.{nat_tests}
use Rattle.ccr_op.specs.Operation.{Operation}
use Rattle.ccr_tracker.specs.Numbers.{Numbers, has, kept_below}
use Rattle.ccr_model.specs.Operations.{has_number, with_op}
use Rattle.ccr_model.specs.Stores.{Store, held, stored, flushed, sifted}
use Rattle.ccr_law_base.proofs.Tests.{by_test, or_true}
use Rattle.ccr_law_copies.proofs.Sets.{has-kept}
use Rattle.ccr_law_stores.proofs.Holding.{held-flushed, held-sifted}
use Rattle.ccr_copies.specs.Processed.{HoldsProcessed}

has-append : (n : ℕ) (xs ys : List Operation) → has_number (xs ++ ys) n ≡ (has_number xs n || has_number ys n)
has-append n [] ys = refl
has-append n (x ∷ xs) ys = (elim (x.seq == n) as (λ b. (b || has_number (xs ++ ys) n) ≡ ((b || has_number xs n) || has_number ys n)) [ true ↦ refl | false ↦ has-append n xs ys ])

has-with_op : (n : ℕ) (op : Operation) (xs : List Operation) → has_number (with_op op xs) n ≡ (has_number xs n || (op.seq == n))
has-with_op n op [] = (elim (op.seq == n) as (λ b. (b || false) ≡ b) [ true ↦ refl | false ↦ refl ])
has-with_op n op (x ∷ xs) =
    (elim (nat_lt op.seq x.seq) as (λ b. has_number (if b then op ∷ x ∷ xs else x ∷ with_op op xs) n ≡ (((x.seq == n) || has_number xs n) || (op.seq == n))) [
      | true ↦ turned (op.seq == n) ((x.seq == n) || has_number xs n)
      | false ↦ ap (λ b. (x.seq == n) || b) (has-with_op n op xs) ∙ grouped (x.seq == n) (has_number xs n) (op.seq == n)
    ])
  where
    turned : (a b : Bool) → (a || b) ≡ (b || a)
    turned true true = refl
    turned true false = refl
    turned false true = refl
    turned false false = refl

    grouped : (a b c : Bool) → (a || (b || c)) ≡ ((a || b) || c)
    grouped true b c = refl
    grouped false b c = refl

pub has-stored : (op : Operation) (store : Store) (k : ℕ) → has_number (held (stored op store)) k ≡ (has_number (held store) k || (op.seq == k))
has-stored op store k =
    has-append k (flat_map {X = List Operation} {A = Operation} (λ part. part) store.parts) (with_op op store.open_part)
    ∙ (ap (λ b. has_number (flat_map {X = List Operation} {A = Operation} (λ part. part) store.parts) k || b) (has-with_op k op store.open_part)
    ∙ (grouped (has_number (flat_map {X = List Operation} {A = Operation} (λ part. part) store.parts) k) (has_number store.open_part k) (op.seq == k)
    ∙ ap (λ b. b || (op.seq == k)) (sym (has-append k (flat_map {X = List Operation} {A = Operation} (λ part. part) store.parts) store.open_part))))
  where
    grouped : (a b c : Bool) → (a || (b || c)) ≡ ((a || b) || c)
    grouped true b c = refl
    grouped false b c = refl

-- more numbers are processed
pub holds-more : (seen next : Numbers) (store : Store) → HoldsProcessed seen store → ((k : ℕ) → has seen k ≡ true → has next k ≡ true) → HoldsProcessed next store
holds-more seen next store holds more = record { each = λ k there. more k (holds.each k there) }

pub holds-marked : (seen next : Numbers) (store : Store) (n : ℕ) → HoldsProcessed seen store → ((k : ℕ) → has next k ≡ (has seen k || (k == n))) → HoldsProcessed next store
holds-marked seen next store n holds marks = holds-more seen next store holds (λ k there. marks k ∙ ap (λ b. b || (k == n)) there)

-- an operation of a number that was noted comes
pub holds-taken : (seen next : Numbers) (store later : Store) (op : Operation) (n : ℕ) → HoldsProcessed seen store → ((k : ℕ) → has next k ≡ (has seen k || (k == n))) → n ≡ op.seq → later ≡ stored op store
    → HoldsProcessed next later
holds-taken seen next store later op n holds marks number is = record { each = λ k there. marks k ∙ by k (sym (ap (λ (s : Store). has_number (held s) k) is ∙ has-stored op store k) ∙ there) }
  where
    by : (k : ℕ) → (has_number (held store) k || (op.seq == k)) ≡ true → (has seen k || (k == n)) ≡ true
    by k either =
        (elim (has_number (held store) k) as (λ b. has_number (held store) k ≡ b → (b || (op.seq == k)) ≡ true → (has seen k || (k == n)) ≡ true) [
          | true ↦ λ old any. ap (λ b. b || (k == n)) (holds.each k old)
          | false ↦ λ old own. let same : (k == n) ≡ true = grind (arith, nat_tests) in ap (λ b. has seen k || b) same ∙ or_true (has seen k)
        ]) refl either

-- nothing of a number that isn't processed is held
pub not-held : (seen : Numbers) (store : Store) (n : ℕ) → HoldsProcessed seen store → has seen n ≡ false → has_number (held store) n ≡ false
not-held seen store n holds absent = by_test (has_number (held store) n ≡ false) (has_number (held store) n) (λ there. absurd (true_false (sym (holds.each n there) ∙ absent))) (λ isnt. isnt)
  where
    true_false : true ≡ false → ⊥
    true_false e = cc

pub holds-flushed : (seen : Numbers) (store next : Store) → HoldsProcessed seen store → next ≡ flushed store → HoldsProcessed seen next
holds-flushed seen store next holds is = record { each = λ k there. holds.each k (sym (ap (λ (s : Store). has_number (held s) k) is ∙ ap (λ ops. has_number ops k) (held-flushed store)) ∙ there) }

pub holds-fewer : (seen : Numbers) (store next : Store) → HoldsProcessed seen store → ((n : ℕ) → has_number (held next) n ≡ true → has_number (held store) n ≡ true) → HoldsProcessed seen next
holds-fewer seen store next holds fewer = record { each = λ k there. holds.each k (fewer k there) }

has-filter : (mark k : ℕ) (ops : List Operation) → has_number (filter (λ op. nat_lt op.seq mark) ops) k ≡ (has_number ops k && nat_lt k mark)
has-filter mark k [] = refl
has-filter mark k (op ∷ ops) =
    by_test _ (nat_lt op.seq mark)
    (λ low. ap (λ b. has_number (if b then op ∷ filter (λ x. nat_lt x.seq mark) ops else filter (λ x. nat_lt x.seq mark) ops) k) low
    ∙ (ap (λ b. (op.seq == k) || b) (has-filter mark k ops) ∙ kept low))
    (λ high. ap (λ b. has_number (if b then op ∷ filter (λ x. nat_lt x.seq mark) ops else filter (λ x. nat_lt x.seq mark) ops) k) high
    ∙ (has-filter mark k ops ∙ gone high))
  where
    kept : nat_lt op.seq mark ≡ true → ((op.seq == k) || (has_number ops k && nat_lt k mark)) ≡ (((op.seq == k) || has_number ops k) && nat_lt k mark)
    kept low = by_test _ (op.seq == k)
        (λ own. let below : nat_lt k mark ≡ true = grind (arith, nat_tests) in
        ap (λ b. b || (has_number ops k && nat_lt k mark)) own ∙ sym (ap (λ b. (b || has_number ops k) && nat_lt k mark) own ∙ below))
        (λ other. ap (λ b. b || (has_number ops k && nat_lt k mark)) other ∙ sym (ap (λ b. (b || has_number ops k) && nat_lt k mark) other))

    none : (b : Bool) → (b && false) ≡ false
    none true = refl
    none false = refl

    gone : nat_lt op.seq mark ≡ false → (has_number ops k && nat_lt k mark) ≡ (((op.seq == k) || has_number ops k) && nat_lt k mark)
    gone high = by_test _ (op.seq == k)
        (λ own. let above : nat_lt k mark ≡ false = grind (arith, nat_tests) in
        ap (λ b. has_number ops k && b) above ∙ (none (has_number ops k) ∙ sym (ap (λ b. ((op.seq == k) || has_number ops k) && b) above ∙ none ((op.seq == k) || has_number ops k))))
        (λ other. sym (ap (λ b. (b || has_number ops k) && nat_lt k mark) other))

pub has-sifted : (mark k : ℕ) (store : Store) → has_number (held (sifted (λ op. nat_lt op.seq mark) store)) k ≡ (has_number (held store) k && nat_lt k mark)
has-sifted mark k store = ap (λ ops. has_number ops k) (held-sifted (λ op. nat_lt op.seq mark) store) ∙ has-filter mark k (held store)

-- what is at or above a number goes, of what is held and of what is processed
pub holds-rolled : (seen next : Numbers) (store later : Store) (mark : ℕ) → HoldsProcessed seen store → later ≡ sifted (λ op. nat_lt op.seq mark) store
    → ((k : ℕ) → has next k ≡ (has seen k && nat_lt k mark)) → HoldsProcessed next later
holds-rolled seen next store later mark holds is keeps = record { each = λ k there. keeps k ∙ by k (sym (ap (λ (s : Store). has_number (held s) k) is ∙ has-sifted mark k store) ∙ there) }
  where
    by : (k : ℕ) → (has_number (held store) k && nat_lt k mark) ≡ true → (has seen k && nat_lt k mark) ≡ true
    by k both =
        (elim (has_number (held store) k) as (λ b. has_number (held store) k ≡ b → (b && nat_lt k mark) ≡ true → (has seen k && nat_lt k mark) ≡ true) [
          | true ↦ λ old low. ap (λ b. b && nat_lt k mark) (holds.each k old) ∙ low
          | false ↦ λ old low. absurd (cc)
        ]) refl both

-- what is left after a roll back is below the number
pub sifted-below : (mark : ℕ) (store later : Store) → later ≡ sifted (λ op. nat_lt op.seq mark) store → (n : ℕ) → has_number (held later) n ≡ true → n < mark
sifted-below mark store later is n there = low (nat_lt n mark) (has_number (held store) n) refl (sym (ap (λ (s : Store). has_number (held s) n) is ∙ has-sifted mark n store) ∙ there)
  where
    low : (b a : Bool) → nat_lt n mark ≡ b → (a && b) ≡ true → n < mark
    low true a test both = grind (arith, nat_tests)
    low false true test both = absurd (cc)
    low false false test both = absurd (cc)

-- a run of operations comes whose numbers are processed
pub holds-run : (seen : Numbers) (store later : Store) (from to : ℕ) → HoldsProcessed seen store → ((k : ℕ) → from ≤ k → k < to → has seen k ≡ true)
    → ((k : ℕ) → has_number (held later) k ≡ true → (has_number (held store) k ≡ true) ⊎ ((from ≤ k) × (k < to))) → HoldsProcessed seen later
holds-run seen store later from to holds run within = record { each = λ k there. by k (within k there) }
  where
    by : (k : ℕ) → (has_number (held store) k ≡ true) ⊎ ((from ≤ k) × (k < to)) → has seen k ≡ true
    by k (inl was) = holds.each k was
    by k (inr both) = run k both.0 both.1
