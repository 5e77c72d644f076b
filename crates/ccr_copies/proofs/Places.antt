-- Where a replica stands, and that the replicas stay in ascending number.
use Rattle.std.specs.Prelude.{slice_get, slice_set, find, remove, option_copied, IfSome}
use Rattle.std.specs.List.{range_with_len}
use Rattle.std.proofs.Common.{◌≡◌, Bor, ℕ, zero, suc, ◌+◌, ◌-◌, ◌<◌, ◌≤◌, ◌==◌, cond, if◌then◌else◌, true, false, Option, Some, None, List, [], ◌∷◌, ◌++◌, length, map, take, drop, get_or, refl, sym, ◌∙◌, ap, subst, arith}
use Rattle.std.proofs.lemmas.Bool.{eqb-true}
use Rattle.std.proofs.lemmas.Bool.Decides.{nat_tests}
use Rattle.std.proofs.lemmas.List.{drop_more}
use Rattle.ccr_model.specs.Copies.{Copy, Replica, Copies, new_copy, new_copies, replica_in_step, replaced, without, changed_replica}
use Rattle.ccr_model.specs.CopyFacts.{AscendBelow}
use Rattle.ccr_law_base.proofs.Lists.{some_equal}
use Rattle.ccr_law_base.proofs.Tests.{by_test}
use Rattle.ccr_copies.specs.Places.{AreNumbered, IsPlaceOf}

-- no replica before this place has the number
abbrev pub NoneBefore : ℕ → ℕ → List Replica → Type 0
NoneBefore copy place rs = (k : ℕ) (r : Replica) → k < place → slice_get rs k ≡ Some r → (r.copy.number == copy) ≡ false

pub none-more : (copy place : ℕ) (q : Replica) (rs : List Replica) → NoneBefore copy place rs → slice_get rs place ≡ Some q → (q.copy.number == copy) ≡ false → NoneBefore copy (place + 1) rs
none-more copy place q rs before at other k r low get =
    by_test ((r.copy.number == copy) ≡ false) (k == place)
    (λ same. ap (λ (x : Replica). x.copy.number == copy) (some_equal r q (sym get ∙ (ap (λ (i : ℕ). slice_get rs i) (eqb-true k place same) ∙ at))) ∙ other)
    (λ apart. before k r (below k place low apart) get)
  where
    below : (k place : ℕ) → k < place + 1 → (k == place) ≡ false → k < place
    below k place low apart = grind (arith, apart)

pub none-there : (copy : ℕ) (rs : List Replica) → NoneBefore copy (length rs) rs → find (λ r. r.copy.number == copy) rs ≡ None
none-there copy [] before = refl
none-there copy (x ∷ xs) before =
    ap (λ b. cond b (Some x) (find (λ (r : Replica). r.copy.number == copy) xs)) (before zero x (omega arith) refl)
    ∙ none-there copy xs (λ k r low get. before (suc k) r (omega arith) get)

pub place-is : (copy place : ℕ) (r : Replica) (rs : List Replica) → NoneBefore copy place rs → slice_get rs place ≡ Some r → (r.copy.number == copy) ≡ true → IsPlaceOf copy place rs
place-is copy place r [] before at own = absurd (cc)
place-is copy zero r (x ∷ xs) before at own =
    let here : (x.copy.number == copy) ≡ true = ap (λ (q : Replica). q.copy.number == copy) (some_equal x r at) ∙ own in
    record {
      low = omega arith;
      found = ap (λ b. cond b (Some x) (find (λ (q : Replica). q.copy.number == copy) xs)) here;
      replaced = λ new. sym (ap (λ b. if b then new ∷ xs else x ∷ replaced copy new xs) here);
      gone = sym (ap (λ b. if b then xs else x ∷ without copy xs) here);
      changed = λ change q get.
          ap (λ (y : Replica). (record y { copy = change y.copy }) ∷ xs) (sym (some_equal x q get))
          ∙ sym (ap (λ b. if b then record x { copy = change x.copy } ∷ xs else x ∷ changed_replica copy change xs) here);
    }
place-is copy (suc place) r (x ∷ xs) before at own =
    let other : (x.copy.number == copy) ≡ false = before zero x (omega arith) refl in
    let rest : IsPlaceOf copy place xs = place-is copy place r xs (λ k q low get. before (suc k) q (omega arith) get) at own in
    record {
      low = let low : place < length xs = rest.low in omega arith;
      found = ap (λ b. cond b (Some x) (find (λ (q : Replica). q.copy.number == copy) xs)) other ∙ rest.found;
      replaced = λ new. ap (λ (l : List Replica). x ∷ l) (rest.replaced new) ∙ sym (ap (λ b. if b then new ∷ xs else x ∷ replaced copy new xs) other);
      gone = ap (λ (l : List Replica). x ∷ l) rest.gone ∙ sym (ap (λ b. if b then xs else x ∷ without copy xs) other);
      changed = λ change q get.
          ap (λ (l : List Replica). x ∷ l) (rest.changed change q get)
          ∙ sym (ap (λ b. if b then record x { copy = change x.copy } ∷ xs else x ∷ changed_replica copy change xs) other);
    }

-- ---- ascending numbers

ascend-low : (next low less : ℕ) (rs : List Replica) → less ≤ low → AscendBelow next low rs → AscendBelow next less rs
ascend-low next low less [] fewer all = let end : low ≤ next = all in omega arith
ascend-low next low less (r ∷ rs) fewer all = let first : low ≤ r.copy.number = all.0 in (omega arith, all.1)

-- a replica of the same number in the place of another
first-again : (next low : ℕ) (r new : Replica) (rs : List Replica) → new.copy.number ≡ r.copy.number → AscendBelow next low (r ∷ rs) → AscendBelow next low (new ∷ rs)
first-again next low r new rs same all =
    (subst (λ (k : ℕ). low ≤ k) (sym same) all.0, subst (λ (k : ℕ). AscendBelow next (k + 1) rs) (sym same) all.1)

ascend-set : (next low place : ℕ) (r new : Replica) (rs : List Replica) → slice_get rs place ≡ Some r → new.copy.number ≡ r.copy.number → AscendBelow next low rs
    → AscendBelow next low (slice_set rs place new)
ascend-set next low place r new [] at same all = absurd (cc)
ascend-set next low zero r new (x ∷ xs) at same all = first-again next low x new xs (same ∙ ap (λ (q : Replica). q.copy.number) (sym (some_equal x r at))) all
ascend-set next low (suc place) r new (x ∷ xs) at same all = (all.0, ascend-set next (x.copy.number + 1) place r new xs at same all.1)

-- a replica is changed in its place, and keeps its number
pub numbered-set : (next place : ℕ) (r new : Replica) (rs : List Replica) → slice_get rs place ≡ Some r → new.copy.number ≡ r.copy.number → AreNumbered next rs → AreNumbered next (slice_set rs place new)
numbered-set next place r new rs at same all = record { ascend = ascend-set next 0 place r new rs at same all.ascend }

ascend-remove : (next low place : ℕ) (rs : List Replica) → AscendBelow next low rs → AscendBelow next low (remove rs place)
ascend-remove next low zero [] all = all
ascend-remove next low (suc place) [] all = all
ascend-remove next low zero (x ∷ xs) all = let first : low ≤ x.copy.number = all.0 in ascend-low next (x.copy.number + 1) low xs (omega arith) all.1
ascend-remove next low (suc place) (x ∷ xs) all = (all.0, ascend-remove next (x.copy.number + 1) place xs all.1)

-- a replica leaves
pub numbered-remove : (next place : ℕ) (rs : List Replica) → AreNumbered next rs → AreNumbered next (remove rs place)
numbered-remove next place rs all = record { ascend = ascend-remove next 0 place rs all.ascend }

ascend-map : (next low : ℕ) (f : Replica → Replica) (rs : List Replica) → ((r : Replica) → (f r).copy.number ≡ r.copy.number) → AscendBelow next low rs
    → AscendBelow next low (map {A = Replica} {B = Replica} f rs)
ascend-map next low f [] same all = all
ascend-map next low f (r ∷ rs) same all = first-again next low r (f r) (map {A = Replica} {B = Replica} f rs) (same r) (all.0, ascend-map next (r.copy.number + 1) f rs same all.1)

pub numbered-map : (next : ℕ) (f : Replica → Replica) (rs : List Replica) → ((r : Replica) → (f r).copy.number ≡ r.copy.number) → AreNumbered next rs
    → AreNumbered next (map {A = Replica} {B = Replica} f rs)
numbered-map next f rs same all = record { ascend = ascend-map next 0 f rs same all.ascend }

ascend-push : (next low : ℕ) (new : Replica) (rs : List Replica) → new.copy.number ≡ next → AscendBelow next low rs → AscendBelow (next + 1) low (rs ++ new ∷ [])
ascend-push next low new [] number all = let end : low ≤ next = all in (omega arith, omega arith)
ascend-push next low new (r ∷ rs) number all = (all.0, ascend-push next (r.copy.number + 1) new rs number all.1)

-- a replica of the next number comes
pub numbered-push : (next : ℕ) (new : Replica) (rs : List Replica) → new.copy.number ≡ next → AreNumbered next rs → AreNumbered (next + 1) (rs ++ new ∷ [])
numbered-push next new rs number all = record { ascend = ascend-push next 0 new rs number all.ascend }

ascend-range : (next from size : ℕ) → from + size ≤ next
    → AscendBelow next from (map {A = ℕ} {B = Replica} (λ number. replica_in_step (new_copy number) 0) (range_with_len from size))
ascend-range next from zero within = omega arith
ascend-range next from (suc size) within = (omega arith, ascend-range next (from + 1) size (omega arith))

pub numbered-new : (copies : ℕ) → AreNumbered copies (new_copies copies).replicas
numbered-new copies = record { ascend = by_size copies }
  where
    by_size : (copies : ℕ) → AscendBelow copies 0 (new_copies copies).replicas
    by_size zero = omega arith
    by_size (suc n) =
        let size : suc n - 1 ≡ n = omega arith in
        subst (λ (k : ℕ). AscendBelow (suc n) 0 (map {A = ℕ} {B = Replica} (λ number. replica_in_step (new_copy number) 0) (range_with_len 1 k))) (sym size)
        (ascend-low (suc n) 1 0 (map {A = ℕ} {B = Replica} (λ number. replica_in_step (new_copy number) 0) (range_with_len 1 n)) (omega arith) (ascend-range (suc n) 1 n (omega arith)))

-- the replica at a place is the first of its number
later-other : (next low place : ℕ) (r : Replica) (rs : List Replica) → AscendBelow next low rs → slice_get rs place ≡ Some r → low ≤ r.copy.number
later-other next low place r [] all at = absurd (cc)
later-other next low zero r (x ∷ xs) all at = subst (λ (q : Replica). low ≤ q.copy.number) (some_equal x r at) all.0
later-other next low (suc place) r (x ∷ xs) all at =
    let first : low ≤ x.copy.number = all.0 in
    let later : x.copy.number + 1 ≤ r.copy.number = later-other next (x.copy.number + 1) place r xs all.1 at in
    omega arith

found-at : (next low place : ℕ) (r : Replica) (rs : List Replica) → AscendBelow next low rs → slice_get rs place ≡ Some r → find (λ q. q.copy.number == r.copy.number) rs ≡ Some r
found-at next low place r [] all at = absurd (cc)
found-at next low zero r (x ∷ xs) all at =
    let same : x ≡ r = some_equal x r at in
    ap (λ b. cond b (Some x) (find (λ (q : Replica). q.copy.number == r.copy.number) xs)) (ap (λ (q : Replica). q.copy.number == r.copy.number) same ∙ own r.copy.number) ∙ at
  where
    own : (n : ℕ) → (n == n) ≡ true
    own n = grind arith
found-at next low (suc place) r (x ∷ xs) all at =
    let later : x.copy.number + 1 ≤ r.copy.number = later-other next (x.copy.number + 1) place r xs all.1 at in
    ap (λ b. cond b (Some x) (find (λ (q : Replica). q.copy.number == r.copy.number) xs)) (apart x.copy.number r.copy.number later)
    ∙ found-at next (x.copy.number + 1) place r xs all.1 at
  where
    apart : (a b : ℕ) → a + 1 ≤ b → (a == b) ≡ false
    apart a b low = grind arith

pub found_first : (next place : ℕ) (r : Replica) (rs : List Replica) → AreNumbered next rs → slice_get rs place ≡ Some r → find (λ q. q.copy.number == r.copy.number) rs ≡ Some r
found_first next place r rs all at = found-at next 0 place r rs all.ascend at

-- an element of a list by its place
pub get-at : {X : Type 0} (xs : List X) (place : ℕ) (x : X) → place < length xs → x ≡ get_or xs place x → slice_get xs place ≡ Some x
get-at [] place x low is = absurd (none place low)
  where
    none : (n : ℕ) → n < 0 → ⊥
    none n low = omega arith
get-at (y ∷ ys) zero x low is = ap (λ z. Some z) (sym is)
get-at (y ∷ ys) (suc place) x low is = get-at ys place x (less place ys low) is
  where
    less : {X : Type 0} (n : ℕ) (xs : List X) → suc n < suc (length xs) → n < length xs
    less n xs low = omega arith

-- what is left of a list from a place on
pub left-at : {X : Type 0} (xs : List X) (place : ℕ) (x : X) → place < length xs → x ≡ get_or xs place x → drop place xs ≡ x ∷ drop (place + 1) xs
left-at xs place x low is = drop_more xs place x low ∙ ap (λ z. z ∷ drop (place + 1) xs) (sym is)

-- a number that is compared as a wider one
pub is-number : (from own copy : ℕ) → from ≡ own → from ≡ copy → (own == copy) ≡ true
is-number from own copy same is = grind (arith, nat_tests)

pub isnt-number : (from own copy : ℕ) → from ≡ own → (from ≡ copy → ⊥) → (own == copy) ≡ false
isnt-number from own copy same isnt = grind (arith, nat_tests)

-- what is lent of a place is the first replica of its number
pub number-of : (next place : ℕ) (rs : List Replica) (o : Option (Bor Replica)) → option_copied o ≡ slice_get rs place → AreNumbered next rs
    → IfSome o (λ x. find (λ (q : Replica). q.copy.number == x.now.copy.number) rs ≡ Some x.now)
number-of next place rs None is all = tt
number-of next place rs (Some x) is all = found_first next place x.now rs all (sym is)

-- a place within a list has an element
pub get-within : {X : Type 0} (place : ℕ) (xs : List X) → place < length xs → (x : X) × (slice_get xs place ≡ Some x)
get-within place [] low = absurd (none place low)
  where
    none : (n : ℕ) → n < 0 → ⊥
    none n low = omega arith
get-within zero (x ∷ xs) low = (x, refl)
get-within (suc place) (x ∷ xs) low = get-within place xs (less place xs low)
  where
    less : {X : Type 0} (n : ℕ) (xs : List X) → suc n < suc (length xs) → n < length xs
    less n xs low = omega arith
