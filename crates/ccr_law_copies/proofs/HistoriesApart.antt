-- Histories that begin with two terms have two UUIDs, whatever that of the first is.
use Rattle.std.specs.Str.{bytes_eq}
use Rattle.std.proofs.Common.{◌≡◌, ℕ, ◌≤◌, ◌<◌, ◌^◌, ◌==◌, true, false, if◌then◌else◌, List, refl, sym, ◌∙◌, subst, arith}
use Rattle.std.proofs.lemmas.Bool.Decides.{nat_tests}
use Rattle.std.proofs.lemmas.Slice.Eq.{bytes_eq-Decides}
use Rattle.ccr_model.specs.Leaders.{history_of_term}
use Rattle.ccr_law_base.proofs.Histories.{begun-apart, first-apart}
use Rattle.ccr_law_copies.specs.Begun.{uuid_at, WasBegun, AreTold}

-- that of a term from 2 on
pub later_uuid : (first : List ℕ) (term : ℕ) → 2 ≤ term → uuid_at first term ≡ history_of_term first term
later_uuid first term later =
    let isnt : (term == 1) ≡ false = grind (arith, nat_tests) in
    rw isnt refl

pub uuids_apart : AreTold
uuids_apart first a b some less few =
    rw (later_uuid first b (omega arith))
    ((elim (a == 1) as (λ t. (a == 1) ≡ t → bytes_eq (if t then first else history_of_term first a) (history_of_term first b) ≡ false) [
      | true ↦ λ is. first-apart first b (omega arith) few
      | false ↦ λ isnt. begun-apart first a b some less few
    ]) refl)

-- the other way round
bytes_turned : (a b : List ℕ) → bytes_eq a b ≡ false → bytes_eq b a ≡ false
bytes_turned a b other =
    (elim (bytes_eq b a) as (λ t. bytes_eq b a ≡ t → t ≡ false) [
      | true ↦ λ is. let same : b ≡ a = (bytes_eq-Decides b a).0 is in sym ((bytes_eq-Decides a b).1 (sym same)) ∙ other
      | false ↦ λ isnt. refl
    ]) refl

-- a history that was begun isn't one that begins with a later term
pub begun_before : (first : List ℕ) (term : ℕ) (history : List ℕ) (other : ℕ) → WasBegun first term history → term < other → other ≤ 2 ^ 32
    → bytes_eq history (history_of_term first other) ≡ false
begun_before first term history other is less few =
    let low : is.began ≤ term = is.so_far in
    let some : 1 ≤ is.began = is.some in
    subst (λ (x : List ℕ). bytes_eq x (history_of_term first other) ≡ false) (sym is.same)
    (subst (λ (x : List ℕ). bytes_eq (uuid_at first is.began) x ≡ false) (later_uuid first other (omega arith)) (uuids_apart first is.began other some (omega arith) few))

pub later_other : (first : List ℕ) (term : ℕ) (history : List ℕ) (other : ℕ) → WasBegun first term history → term < other → other ≤ 2 ^ 32
    → bytes_eq (history_of_term first other) history ≡ false
later_other first term history other is less few = bytes_turned history (history_of_term first other) (begun_before first term history other is less few)

-- what began with a term so far did so with a term up to a later one
pub begun_still : (first : List ℕ) (term new_term : ℕ) (history : List ℕ) → term ≤ new_term → WasBegun first term history → WasBegun first new_term history
begun_still first term new_term history le is =
    record { began = is.began; some = is.some; so_far = let low : is.began ≤ term = is.so_far in omega arith; same = is.same }
