-- Entries under ages that ascend.
use Rattle.std.proofs.Common.{◌≡◌, ℕ, ◌+◌, ◌<◌, ◌≤◌, ◌==◌, ◌||◌, zero, suc, Bool, true, false, nat_lt, cond, Option, Some, None, Result, Ok, Err, IfNone, IfSome, List, [], ◌∷◌, ◌++◌, length, filter, get_or, refl, sym, ◌∙◌, ap, subst, arith}
use Rattle.std.specs.Prelude.{slice_get}
use Rattle.std.specs.List.{list_any, remove, AllByRecursion}
use Rattle.std.specs.Ordering.{nat_cmp, match_ordering}
use Rattle.std.specs.declared.cmp.Ordering.{Ordering}
use Rattle.std.specs.declared.cmp.Ordering.TheVariants.{Less, Equal, Greater}
use Rattle.std.specs.Map.{lookup, keys_of, values_of, remove_entry}
use Rattle.std.specs.BTreeMap.{is_at, insert_entry}
use Rattle.std.specs.Cmp.{unsigned_tied}
use Rattle.std.specs.Result.{result_ok}
use Rattle.std.specs.List.Sorted.{IsBinarySearchResult}
use Rattle.std.proofs.lemmas.List.Sorted.{searched}
use Rattle.std.proofs.lemmas.Option.{slice_get-get_or, get_or_from_slice_get, slice_get_within}
use Rattle.std.proofs.lemmas.Bool.Decides.{nat_tests}
use Rattle.ccr_changes.specs.Indexes.{AreAges, AreRising}

-- the ages of those that pass
abbrev pub ages_by : {X : Type 0} → (X → Bool) → List (ℕ × X) → List ℕ
ages_by t es = keys_of (filter (λ e. t e.1) es)

pub at_same : (a b : ℕ) → a ≡ b → is_at (nat_cmp a) b ≡ true
at_same a b is = let own : (a == b) ≡ true = grind (arith, nat_tests) in unsigned_tied a b ∙ own

at_below : (a b : ℕ) → a < b → is_at (nat_cmp a) b ≡ false
at_below a b lt = let apart : (a == b) ≡ false = grind (arith, nat_tests) in unsigned_tied a b ∙ apart

pub at_above : (a b : ℕ) → b < a → is_at (nat_cmp a) b ≡ false
at_above a b lt = let apart : (a == b) ≡ false = grind (arith, nat_tests) in unsigned_tied a b ∙ apart

pub at_is : (a b : ℕ) → is_at (nat_cmp a) b ≡ true → a ≡ b
at_is a b is = let same : (a == b) ≡ true = sym (unsigned_tied a b) ∙ is in grind (arith, nat_tests)

later : (next n : ℕ) → n < next → nat_cmp next n ≡ Greater
later next n lt =
    let low : nat_lt next n ≡ false = grind (arith, nat_tests) in
    let apart : (next == n) ≡ false = grind (arith, nat_tests) in
    ap (λ b. cond b Less (cond (next == n) Equal Greater)) low ∙ ap (λ b. cond b Equal Greater) apart

module _ {X : Type 0} where
  -- no entry has an age below the first, or from the next one on
  pub absent : (low next age : ℕ) (es : List (ℕ × X)) → AreAges low next es → age < low → lookup (is_at (nat_cmp age)) es ≡ None
  absent low next age [] ages lt = refl
  absent low next age (e ∷ es) ages lt =
      let from : low ≤ e.0 = ages.0 in
      ap (λ (b : Bool). cond b (Some e.1) (lookup (is_at (nat_cmp age)) es)) (at_below age e.0 (omega arith)) ∙ absent (e.0 + 1) next age es ages.2 (omega arith)

  pub fresh : (low next : ℕ) (es : List (ℕ × X)) → AreAges low next es → lookup (is_at (nat_cmp next)) es ≡ None
  fresh low next [] ages = refl
  fresh low next (e ∷ es) ages = ap (λ (b : Bool). cond b (Some e.1) (lookup (is_at (nat_cmp next)) es)) (at_above next e.0 ages.1) ∙ fresh (e.0 + 1) next es ages.2

  pub push-ages : (low next : ℕ) (es : List (ℕ × X)) (x : X) → AreAges low next es → low ≤ next → AreAges low (next + 1) (es ++ (next, x) ∷ [])
  push-ages low next [] x ages le = (le, omega arith, tt)
  push-ages low next (e ∷ es) x ages le =
      let below : e.0 < next = ages.1 in
      (ages.0, omega arith, push-ages (e.0 + 1) next es x ages.2 (omega arith))

  -- the next age comes last
  pub insert-last : (low next : ℕ) (es : List (ℕ × X)) (x : X) → AreAges low next es → insert_entry nat_cmp es next x ≡ es ++ (next, x) ∷ []
  insert-last low next [] x ages = refl
  insert-last low next (e ∷ es) x ages =
      ap (λ (o : Ordering). match_ordering o ((next, x) ∷ e ∷ es) ((e.0, x) ∷ es) (e ∷ insert_entry nat_cmp es next x)) (later next e.0 ages.1)
      ∙ ap (λ (rest : List (ℕ × X)). e ∷ rest) (insert-last (e.0 + 1) next es x ages.2)

  lower : (low high next : ℕ) (es : List (ℕ × X)) → low ≤ high → AreAges high next es → AreAges low next es
  lower low high next [] le ages = tt
  lower low high next (e ∷ es) le ages = let from : high ≤ e.0 = ages.0 in (omega arith, ages.1, ages.2)

  pub remove-ages : (low next age : ℕ) (es : List (ℕ × X)) → AreAges low next es → AreAges low next (remove_entry (is_at (nat_cmp age)) es)
  remove-ages low next age [] ages = tt
  remove-ages low next age (e ∷ es) ages =
      let from : low ≤ e.0 = ages.0 in
      elim (is_at (nat_cmp age) e.0) as (λ b. AreAges low next (cond b es (e ∷ remove_entry (is_at (nat_cmp age)) es))) [
        | true ↦ lower low (e.0 + 1) next es (omega arith) ages.2
        | false ↦ (ages.0, ages.1, remove-ages (e.0 + 1) next age es ages.2)
      ]

  -- what is found behind the first entry is found
  behind : (low next age : ℕ) (e : ℕ × X) (es : List (ℕ × X)) (x : X) → AreAges low next (e ∷ es) → lookup (is_at (nat_cmp age)) es ≡ Some x → lookup (is_at (nat_cmp age)) (e ∷ es) ≡ Some x
  behind low next age e es x ages is =
      (elim (is_at (nat_cmp age) e.0) as (λ b. is_at (nat_cmp age) e.0 ≡ b → cond b (Some e.1) (lookup (is_at (nat_cmp age)) es) ≡ Some x) [
        | true ↦ λ here.
            let same : age ≡ e.0 = at_is age e.0 here in
            let none : lookup (is_at (nat_cmp age)) es ≡ None = absent (e.0 + 1) next age es ages.2 (omega arith) in
            absurd cc
        | false ↦ λ there. is
      ]) refl

  head_found : (age : ℕ) (e : ℕ × X) (es : List (ℕ × X)) → age ≡ e.0 → lookup (is_at (nat_cmp age)) (e ∷ es) ≡ Some e.1
  head_found age e es is = ap (λ (b : Bool). cond b (Some e.1) (lookup (is_at (nat_cmp age)) es)) (at_same age e.0 is)

  -- an entry of this age passes, and is at this place among those that pass
  pub record Found (t : X → Bool) (low : ℕ) (es : List (ℕ × X)) (i age : ℕ) : Type 0 where
    pub value : X
    pub there : lookup (is_at (nat_cmp age)) es ≡ Some value
    pub passes : t value ≡ true
    pub place : slice_get (filter t (values_of es)) i ≡ Some value
    pub above : low ≤ age

  pub found : (t : X → Bool) (low next i age : ℕ) (es : List (ℕ × X)) → AreAges low next es → slice_get (ages_by t es) i ≡ Some age → Found t low es i age
  found t low next i age [] ages is = absurd cc
  found t low next zero age (e ∷ es) ages is =
      (elim (t e.1) as (λ b. t e.1 ≡ b → slice_get (keys_of (cond b (e ∷ filter (λ e. t e.1) es) (filter (λ e. t e.1) es))) zero ≡ Some age → Found t low (e ∷ es) zero age) [
        | true ↦ λ passing here.
            let same : age ≡ e.0 = cc in
            let from : low ≤ e.0 = ages.0 in
            record {
              value = e.1;
              there = head_found age e es same;
              passes = passing;
              place = ap (λ (b : Bool). slice_get (cond b (e.1 ∷ filter t (values_of es)) (filter t (values_of es))) zero) passing;
              above = omega arith;
            }
        | false ↦ λ failing here.
            let rest : Found t (e.0 + 1) es zero age = found t (e.0 + 1) next zero age es ages.2 here in
            let from : low ≤ e.0 = ages.0 in
            record {
              value = rest.value;
              there = behind low next age e es rest.value ages rest.there;
              passes = rest.passes;
              place = ap (λ (b : Bool). slice_get (cond b (e.1 ∷ filter t (values_of es)) (filter t (values_of es))) zero) failing ∙ rest.place;
              above = let past : e.0 + 1 ≤ age = rest.above in omega arith;
            }
      ]) refl is
  found t low next (suc i) age (e ∷ es) ages is =
      (elim (t e.1) as (λ b. t e.1 ≡ b → slice_get (keys_of (cond b (e ∷ filter (λ e. t e.1) es) (filter (λ e. t e.1) es))) (suc i) ≡ Some age → Found t low (e ∷ es) (suc i) age) [
        | true ↦ λ passing here.
            let rest : Found t (e.0 + 1) es i age = found t (e.0 + 1) next i age es ages.2 here in
            let from : low ≤ e.0 = ages.0 in
            record {
              value = rest.value;
              there = behind low next age e es rest.value ages rest.there;
              passes = rest.passes;
              place = ap (λ (b : Bool). slice_get (cond b (e.1 ∷ filter t (values_of es)) (filter t (values_of es))) (suc i)) passing ∙ rest.place;
              above = let past : e.0 + 1 ≤ age = rest.above in omega arith;
            }
        | false ↦ λ failing here.
            let rest : Found t (e.0 + 1) es (suc i) age = found t (e.0 + 1) next (suc i) age es ages.2 here in
            let from : low ≤ e.0 = ages.0 in
            record {
              value = rest.value;
              there = behind low next age e es rest.value ages rest.there;
              passes = rest.passes;
              place = ap (λ (b : Bool). slice_get (cond b (e.1 ∷ filter t (values_of es)) (filter t (values_of es))) (suc i)) failing ∙ rest.place;
              above = let past : e.0 + 1 ≤ age = rest.above in omega arith;
            }
      ]) refl is

  -- past the last age is past the last value
  pub missing : (t : X → Bool) (i : ℕ) (es : List (ℕ × X)) → slice_get (ages_by t es) i ≡ None → slice_get (filter t (values_of es)) i ≡ None
  missing t i [] is = refl
  missing t zero (e ∷ es) is =
      (elim (t e.1) as (λ b. slice_get (keys_of (cond b (e ∷ filter (λ e. t e.1) es) (filter (λ e. t e.1) es))) zero ≡ None → slice_get (cond b (e.1 ∷ filter t (values_of es)) (filter t (values_of es))) zero ≡ None) [
        | true ↦ λ here. absurd cc
        | false ↦ λ here. missing t zero es here
      ]) is
  missing t (suc i) (e ∷ es) is =
      (elim (t e.1) as (λ b. slice_get (keys_of (cond b (e ∷ filter (λ e. t e.1) es) (filter (λ e. t e.1) es))) (suc i) ≡ None → slice_get (cond b (e.1 ∷ filter t (values_of es)) (filter t (values_of es))) (suc i) ≡ None) [
        | true ↦ λ here. missing t i es here
        | false ↦ λ here. missing t (suc i) es here
      ]) is

  -- the entry of an age is at a place among those that pass
  pub placed : (t : X → Bool) (age : ℕ) (x : X) (es : List (ℕ × X)) → lookup (is_at (nat_cmp age)) es ≡ Some x → t x ≡ true → (i : ℕ) × (slice_get (ages_by t es) i ≡ Some age)
  placed t age x [] is passing = absurd cc
  placed t age x (e ∷ es) is passing =
      (elim (is_at (nat_cmp age) e.0) as (λ b. is_at (nat_cmp age) e.0 ≡ b → cond b (Some e.1) (lookup (is_at (nat_cmp age)) es) ≡ Some x → (i : ℕ) × (slice_get (ages_by t (e ∷ es)) i ≡ Some age)) [
        | true ↦ λ here it.
            let same : age ≡ e.0 = at_is age e.0 here in
            let own : e.1 ≡ x = cc in
            let pass : t e.1 ≡ true = ap t own ∙ passing in
            (0, ap (λ (b : Bool). slice_get (keys_of (cond b (e ∷ filter (λ e. t e.1) es) (filter (λ e. t e.1) es))) 0) pass ∙ ap (λ (n : ℕ). Some n) (sym same))
        | false ↦ λ there it.
            let rest : (i : ℕ) × (slice_get (ages_by t es) i ≡ Some age) = placed t age x es it passing in
            elim (t e.1) as (λ b. (i : ℕ) × (slice_get (keys_of (cond b (e ∷ filter (λ e. t e.1) es) (filter (λ e. t e.1) es))) i ≡ Some age)) [
              | true ↦ (suc rest.0, rest.1)
              | false ↦ rest
            ]
      ]) refl is

  -- those that pass, without the one at a place
  pub remove-at : (t : X → Bool) (low next i age : ℕ) (es : List (ℕ × X)) → AreAges low next es → slice_get (ages_by t es) i ≡ Some age
      → ages_by t (remove_entry (is_at (nat_cmp age)) es) ≡ remove (ages_by t es) i
  remove-at t low next i age [] ages is = absurd cc
  remove-at t low next zero age (e ∷ es) ages is =
      (elim (t e.1) as (λ b. t e.1 ≡ b → slice_get (keys_of (cond b (e ∷ filter (λ e. t e.1) es) (filter (λ e. t e.1) es))) zero ≡ Some age
      → ages_by t (remove_entry (is_at (nat_cmp age)) (e ∷ es)) ≡ remove (keys_of (cond b (e ∷ filter (λ e. t e.1) es) (filter (λ e. t e.1) es))) zero) [
        | true ↦ λ passing here.
            let same : age ≡ e.0 = cc in
            ap (λ (b : Bool). ages_by t (cond b es (e ∷ remove_entry (is_at (nat_cmp age)) es))) (at_same age e.0 same)
        | false ↦ λ failing here.
            let rest : Found t (e.0 + 1) es zero age = found t (e.0 + 1) next zero age es ages.2 here in
            let past : e.0 + 1 ≤ age = rest.above in
            ap (λ (b : Bool). ages_by t (cond b es (e ∷ remove_entry (is_at (nat_cmp age)) es))) (at_above age e.0 (omega arith))
            ∙ ap (λ (b : Bool). keys_of (cond b (e ∷ filter (λ e. t e.1) (remove_entry (is_at (nat_cmp age)) es)) (filter (λ e. t e.1) (remove_entry (is_at (nat_cmp age)) es)))) failing
            ∙ remove-at t (e.0 + 1) next zero age es ages.2 here
      ]) refl is
  remove-at t low next (suc i) age (e ∷ es) ages is =
      (elim (t e.1) as (λ b. t e.1 ≡ b → slice_get (keys_of (cond b (e ∷ filter (λ e. t e.1) es) (filter (λ e. t e.1) es))) (suc i) ≡ Some age
      → ages_by t (remove_entry (is_at (nat_cmp age)) (e ∷ es)) ≡ remove (keys_of (cond b (e ∷ filter (λ e. t e.1) es) (filter (λ e. t e.1) es))) (suc i)) [
        | true ↦ λ passing here.
            let rest : Found t (e.0 + 1) es i age = found t (e.0 + 1) next i age es ages.2 here in
            let past : e.0 + 1 ≤ age = rest.above in
            ap (λ (b : Bool). ages_by t (cond b es (e ∷ remove_entry (is_at (nat_cmp age)) es))) (at_above age e.0 (omega arith))
            ∙ ap (λ (b : Bool). keys_of (cond b (e ∷ filter (λ e. t e.1) (remove_entry (is_at (nat_cmp age)) es)) (filter (λ e. t e.1) (remove_entry (is_at (nat_cmp age)) es)))) passing
            ∙ ap (λ (rest : List ℕ). e.0 ∷ rest) (remove-at t (e.0 + 1) next i age es ages.2 here)
        | false ↦ λ failing here.
            let rest : Found t (e.0 + 1) es (suc i) age = found t (e.0 + 1) next (suc i) age es ages.2 here in
            let past : e.0 + 1 ≤ age = rest.above in
            ap (λ (b : Bool). ages_by t (cond b es (e ∷ remove_entry (is_at (nat_cmp age)) es))) (at_above age e.0 (omega arith))
            ∙ ap (λ (b : Bool). keys_of (cond b (e ∷ filter (λ e. t e.1) (remove_entry (is_at (nat_cmp age)) es)) (filter (λ e. t e.1) (remove_entry (is_at (nat_cmp age)) es)))) failing
            ∙ remove-at t (e.0 + 1) next (suc i) age es ages.2 here
      ]) refl is

  -- an entry that does not pass leaves those that do
  pub remove-other : (t : X → Bool) (age : ℕ) (x : X) (es : List (ℕ × X)) → lookup (is_at (nat_cmp age)) es ≡ Some x → t x ≡ false → ages_by t (remove_entry (is_at (nat_cmp age)) es) ≡ ages_by t es
  remove-other t age x [] is failing = refl
  remove-other t age x (e ∷ es) is failing =
      (elim (is_at (nat_cmp age) e.0) as (λ b. cond b (Some e.1) (lookup (is_at (nat_cmp age)) es) ≡ Some x → ages_by t (cond b es (e ∷ remove_entry (is_at (nat_cmp age)) es)) ≡ ages_by t (e ∷ es)) [
        | true ↦ λ it.
            let own : e.1 ≡ x = cc in
            let fails : t e.1 ≡ false = ap t own ∙ failing in
            sym (ap (λ (b : Bool). keys_of (cond b (e ∷ filter (λ e. t e.1) es) (filter (λ e. t e.1) es))) fails)
        | false ↦ λ it.
            let rest : ages_by t (remove_entry (is_at (nat_cmp age)) es) ≡ ages_by t es = remove-other t age x es it failing in
            elim (t e.1) as (λ b. keys_of (cond b (e ∷ filter (λ e. t e.1) (remove_entry (is_at (nat_cmp age)) es)) (filter (λ e. t e.1) (remove_entry (is_at (nat_cmp age)) es))) ≡ keys_of (cond b (e ∷ filter (λ e. t e.1) es) (filter (λ e. t e.1) es))) [
              | true ↦ ap (λ (ages : List ℕ). e.0 ∷ ages) rest
              | false ↦ rest
            ]
      ]) is

  -- one more entry
  pub push-by : (t : X → Bool) (next : ℕ) (x : X) (es : List (ℕ × X)) → ages_by t (es ++ (next, x) ∷ []) ≡ cond (t x) (ages_by t es ++ next ∷ []) (ages_by t es)
  push-by t next x [] = elim (t x) as (λ b. keys_of {K = ℕ} {X = X} (cond b ((next, x) ∷ []) []) ≡ cond b (next ∷ []) []) [ true ↦ refl | false ↦ refl ]
  push-by t next x (e ∷ es) =
      elim (t e.1) as (λ b. keys_of (cond b (e ∷ filter (λ e. t e.1) (es ++ (next, x) ∷ [])) (filter (λ e. t e.1) (es ++ (next, x) ∷ [])))
      ≡ cond (t x) (keys_of (cond b (e ∷ filter (λ e. t e.1) es) (filter (λ e. t e.1) es)) ++ next ∷ []) (keys_of (cond b (e ∷ filter (λ e. t e.1) es) (filter (λ e. t e.1) es)))) [
        | true ↦ ap (λ (ages : List ℕ). e.0 ∷ ages) (push-by t next x es) ∙ inside (t x) (ages_by t es ++ next ∷ []) (ages_by t es)
        | false ↦ push-by t next x es
      ]
    where
      inside : (b : Bool) (more same : List ℕ) → e.0 ∷ cond b more same ≡ cond b (e.0 ∷ more) (e.0 ∷ same)
      inside true more same = refl
      inside false more same = refl

  pub values-push : (next : ℕ) (x : X) (es : List (ℕ × X)) → values_of (es ++ (next, x) ∷ []) ≡ values_of es ++ x ∷ []
  values-push next x [] = refl
  values-push next x (e ∷ es) = ap (λ (xs : List X). e.1 ∷ xs) (values-push next x es)

  pub lookup-push : (low next q : ℕ) (es : List (ℕ × X)) (x : X) → AreAges low next es → lookup (is_at (nat_cmp q)) (es ++ (next, x) ∷ []) ≡ cond (is_at (nat_cmp q) next) (Some x) (lookup (is_at (nat_cmp q)) es)
  lookup-push low next q [] x ages = refl
  lookup-push low next q (e ∷ es) x ages =
      (elim (is_at (nat_cmp q) e.0) as (λ b. is_at (nat_cmp q) e.0 ≡ b → cond b (Some e.1) (lookup (is_at (nat_cmp q)) (es ++ (next, x) ∷ [])) ≡ cond (is_at (nat_cmp q) next) (Some x) (cond b (Some e.1) (lookup (is_at (nat_cmp q)) es))) [
        | true ↦ λ here.
            let same : q ≡ e.0 = at_is q e.0 here in
            let before : e.0 < next = ages.1 in
            sym (ap (λ (b : Bool). cond b (Some x) (Some e.1)) (at_below q next (omega arith)))
        | false ↦ λ there. lookup-push (e.0 + 1) next q es x ages.2
      ]) refl

  -- ---- some entry, and all entries

  pub record Some_entry (t : X → Bool) (low : ℕ) (es : List (ℕ × X)) : Type 0 where
    pub age : ℕ
    pub value : X
    pub there : lookup (is_at (nat_cmp age)) es ≡ Some value
    pub passes : t value ≡ true

  pub some-entry : (t : X → Bool) (low next : ℕ) (es : List (ℕ × X)) → AreAges low next es → list_any t (values_of es) ≡ true → Some_entry t low es
  some-entry t low next [] ages any = absurd cc
  some-entry t low next (e ∷ es) ages any =
      (elim (t e.1) as (λ b. t e.1 ≡ b → (b || list_any t (values_of es)) ≡ true → Some_entry t low (e ∷ es)) [
        | true ↦ λ passing it. record { age = e.0; value = e.1; there = head_found e.0 e es refl; passes = passing }
        | false ↦ λ failing it.
            let rest : Some_entry t (e.0 + 1) es = some-entry t (e.0 + 1) next es ages.2 it in
            record { age = rest.age; value = rest.value; there = behind low next rest.age e es rest.value ages rest.there; passes = rest.passes }
      ]) refl any

  pub any-entry : (t : X → Bool) (age : ℕ) (x : X) (es : List (ℕ × X)) → lookup (is_at (nat_cmp age)) es ≡ Some x → t x ≡ true → list_any t (values_of es) ≡ true
  any-entry t age x [] is passing = absurd cc
  any-entry t age x (e ∷ es) is passing =
      (elim (is_at (nat_cmp age) e.0) as (λ b. cond b (Some e.1) (lookup (is_at (nat_cmp age)) es) ≡ Some x → (t e.1 || list_any t (values_of es)) ≡ true) [
        | true ↦ λ it. let own : e.1 ≡ x = cc in let pass : t e.1 ≡ true = ap t own ∙ passing in ap (λ (b : Bool). b || list_any t (values_of es)) pass
        | false ↦ λ it. either (t e.1) (list_any t (values_of es)) (any-entry t age x es it passing)
      ]) is
    where
      either : (a b : Bool) → b ≡ true → (a || b) ≡ true
      either true b is = refl
      either false b is = is

  pub all-entries : (P : X → Type 0) (low next : ℕ) (es : List (ℕ × X)) → AreAges low next es → ((age : ℕ) (x : X) → lookup (is_at (nat_cmp age)) es ≡ Some x → P x) → AllByRecursion P (values_of es)
  all-entries P low next [] ages each = tt
  all-entries P low next (e ∷ es) ages each =
      (each e.0 e.1 (head_found e.0 e es refl), all-entries P (e.0 + 1) next es ages.2 (λ age x is. each age x (behind low next age e es x ages is)))

  -- the ages of those that pass rise
  pub rising-by : (t : X → Bool) (low next : ℕ) (es : List (ℕ × X)) → AreAges low next es → AreRising low (ages_by t es)
  rising-by t low next [] ages = tt
  rising-by t low next (e ∷ es) ages =
      let from : low ≤ e.0 = ages.0 in
      elim (t e.1) as (λ b. AreRising low (keys_of (cond b (e ∷ filter (λ e. t e.1) es) (filter (λ e. t e.1) es)))) [
        | true ↦ (ages.0, rising-by t (e.0 + 1) next es ages.2)
        | false ↦ lower_rising low (e.0 + 1) (ages_by t es) (omega arith) (rising-by t (e.0 + 1) next es ages.2)
      ]
    where
      lower_rising : (low high : ℕ) (xs : List ℕ) → low ≤ high → AreRising high xs → AreRising low xs
      lower_rising low high [] le rising = tt
      lower_rising low high (x ∷ xs) le rising = let from : high ≤ x = rising.0 in (omega arith, rising.1)

-- ---- rising numbers

floor : (low : ℕ) (xs : List ℕ) (j : ℕ) → AreRising low xs → j < length xs → low ≤ get_or xs j 0
floor low [] j rising lt = absurd (omega arith)
floor low (x ∷ xs) zero rising lt = rising.0
floor low (x ∷ xs) (suc j) rising lt =
    let from : low ≤ x = rising.0 in
    let rest : x + 1 ≤ get_or xs j 0 = floor (x + 1) xs j rising.1 (omega arith) in
    omega arith

pub non_decreasing : (low : ℕ) (xs : List ℕ) (i j : ℕ) → AreRising low xs → i ≤ j → j < length xs → get_or xs i 0 ≤ get_or xs j 0
non_decreasing low [] i j rising le lt = absurd (omega arith)
non_decreasing low (x ∷ xs) zero zero rising le lt = omega arith
non_decreasing low (x ∷ xs) zero (suc j) rising le lt = let rest : x + 1 ≤ get_or xs j 0 = floor (x + 1) xs j rising.1 (omega arith) in omega arith
non_decreasing low (x ∷ xs) (suc i) zero rising le lt = absurd (omega arith)
non_decreasing low (x ∷ xs) (suc i) (suc j) rising le lt = non_decreasing (x + 1) xs i j rising.1 (omega arith) (omega arith)

-- what a search for a number among rising ones finds
pub searched-place : (xs : List ℕ) (x : ℕ) (r : Result ℕ ℕ) (o : Option ℕ) → o ≡ result_ok r → IsBinarySearchResult (λ y. nat_cmp y x) xs r → AreRising 0 xs
    → IfNone o ((at : ℕ) → slice_get xs at ≡ Some x → ⊥) × IfSome o (λ at. slice_get xs at ≡ Some x)
searched-place xs x (Ok i) o is position rising =
    let it : (i < length xs) × (get_or xs i 0 ≡ x) = searched xs x (Ok i) position (λ i j. non_decreasing 0 xs i j rising) in
    let there : slice_get xs i ≡ Some x = slice_get-get_or xs i 0 it.0 ∙ ap (λ (n : ℕ). Some n) it.1 in
    subst (λ (o : Option ℕ). IfNone o ((at : ℕ) → slice_get xs at ≡ Some x → ⊥) × IfSome o (λ at. slice_get xs at ≡ Some x)) (sym is) (tt, there)
searched-place xs x (Err i) o is position rising =
    let it : (i ≤ length xs) × ((k : ℕ) → k < i → get_or xs k 0 < x) × ((k : ℕ) → i ≤ k → k < length xs → x < get_or xs k 0) = searched xs x (Err i) position (λ i j. non_decreasing 0 xs i j rising) in
    subst (λ (o : Option ℕ). IfNone o ((at : ℕ) → slice_get xs at ≡ Some x → ⊥) × IfSome o (λ at. slice_get xs at ≡ Some x)) (sym is) (
      λ at there.
          let lt : at < length xs = slice_get_within xs at x there in
          let own : get_or xs at 0 ≡ x = get_or_from_slice_get xs at x 0 there in
          apart at i (get_or xs at 0) x own (it.1 at) (λ le. it.2 at le lt),
      tt,
    )
  where
    apart : (at i y x : ℕ) → y ≡ x → (at < i → y < x) → (i ≤ at → x < y) → ⊥
    apart at i y x is low high =
        (elim (nat_lt at i) as (λ b. nat_lt at i ≡ b → ⊥) [
          | true ↦ λ lt. let below : at < i = grind (arith, nat_tests) in let less : y < x = low below in omega arith
          | false ↦ λ ge. let above : i ≤ at = grind (arith, nat_tests) in let more : x < y = high above in omega arith
        ]) refl
