-- Lemmas on what a test finds in a list, and on what a filter or one more element leaves.
use Rattle.std.proofs.Common.{◌≡◌, ℕ, suc, zero, Bool, true, false, ◌||◌, List, [], ◌∷◌, ◌++◌, map, take, drop, refl, ap, ◌∙◌}
use Rattle.std.specs.Prelude.{Option, Some, None, is_some, filter}
use Rattle.std.specs.List.{AllByRecursion, list_any, list_all}
use Rattle.ccr_law_base.proofs.Cases.{on_if}
use Rattle.ccr_law_base.proofs.Tests.{or-more}
use Rattle.std.proofs.lemmas.Bool.{and_parts, or_left, or_right}

pub or-other : (a b : Bool) → (a ≡ true → b ≡ true) → (a || b) ≡ true → b ≡ true
or-other true b other is = other refl
or-other false b other is = is

-- ---- what holds of all

pub All-put : {X : Type 0} (P : X → Type 0) (n : ℕ) (new : X) (xs : List X) → P new → AllByRecursion P xs → AllByRecursion P (take n xs ++ new ∷ drop n xs)
All-put P zero new xs it all = (it, all)
All-put P (suc n) new [] it all = (it, tt)
All-put P (suc n) new (x ∷ xs) it all = (all.0, All-put P n new xs it all.1)

-- what holds of those that a filter keeps holds of each that passes
pub All-unfilter : {X : Type 0} (P : X → Type 0) (test : X → Bool) (xs : List X) → AllByRecursion P (filter test xs) → AllByRecursion (λ x. test x ≡ true → P x) xs
All-unfilter P test [] all = tt
All-unfilter P test (x ∷ xs) all =
    on_if (λ (ys : List _). AllByRecursion P ys → AllByRecursion (λ x. test x ≡ true → P x) (x ∷ xs)) (test x) (x ∷ filter test xs) (filter test xs)
    (λ passes these. (λ it. these.0, All-unfilter P test xs these.1))
    (λ fails these. (λ passes. absurd cc, All-unfilter P test xs these)) all

pub All-pass : {X : Type 0} (test : X → Bool) (xs : List X) → list_all test xs ≡ true → AllByRecursion (λ x. test x ≡ true) xs
All-pass test [] all = tt
All-pass test (x ∷ xs) all = let both = and_parts (test x) (list_all test xs) all in (both.0, All-pass test xs both.1)

-- ---- what a test finds

pub the-found : {X : Type 0} (found : Option X) → is_some found ≡ true → (x : X) × (found ≡ Some x)
the-found None some = absurd cc
the-found (Some x) some = (x, refl)

pub any-put : {X : Type 0} (test : X → Bool) (n : ℕ) (new : X) (xs : List X) → list_any test xs ≡ true → list_any test (take n xs ++ new ∷ drop n xs) ≡ true
any-put test zero new xs some = or_right (test new) (list_any test xs) some
any-put test (suc n) new [] some = absurd cc
any-put test (suc n) new (x ∷ xs) some = or-more (test x) (list_any test xs) (list_any test (take n xs ++ new ∷ drop n xs)) (any-put test n new xs) some

-- the one that is put into a list is found
pub any-new : {X : Type 0} (test : X → Bool) (n : ℕ) (new : X) (xs : List X) → test new ≡ true → list_any test (take n xs ++ new ∷ drop n xs) ≡ true
any-new test zero new xs passes = or_left (test new) (list_any test xs) passes
any-new test (suc n) new [] passes = or_left (test new) false passes
any-new test (suc n) new (x ∷ xs) passes = or_right (test x) (list_any test (take n xs ++ new ∷ drop n xs)) (any-new test n new xs passes)

-- a filter that keeps all that pass loses none of them
pub any-filter : {X : Type 0} (test keep : X → Bool) (xs : List X) → AllByRecursion (λ x. test x ≡ true → keep x ≡ true) xs
    → list_any test xs ≡ true → list_any test (filter keep xs) ≡ true
any-filter test keep [] kept some = some
any-filter test keep (x ∷ xs) kept some =
    on_if (λ (ys : List _). list_any test ys ≡ true) (keep x) (x ∷ filter keep xs) (filter keep xs)
    (λ stays. or-more (test x) (list_any test xs) (list_any test (filter keep xs)) (any-filter test keep xs kept.1) some)
    (λ goes. any-filter test keep xs kept.1 (or-other (test x) (list_any test xs) (λ passes. absurd (let stays = kept.0 passes in cc)) some))

pub any-map : {X : Type 0} (test : X → Bool) (f : X → X) → ((x : X) → test (f x) ≡ test x) → (xs : List X) → list_any test (map f xs) ≡ list_any test xs
any-map test f same [] = refl
any-map test f same (x ∷ xs) = ap (λ b. b || list_any test (map f xs)) (same x) ∙ ap (λ b. test x || b) (any-map test f same xs)
