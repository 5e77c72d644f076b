-- Patterns in the order of their names.
use Rattle.std.proofs.Common.{◌≡◌, ℕ, ◌<◌, ◌≤◌, Bool, true, false, cond, not, List, [], ◌∷◌, ◌++◌, length, Option, Some, None, get_or, inl, inr, refl, sym, ◌∙◌, ap, arith, zero, suc, take, drop, MatchOption}
use Rattle.std.specs.List.{AllByRecursion, slice_get, remove, insert}
use Rattle.std.specs.List.Sorted.{IsStrictlySortedBy, IsPartitionedBy}
use Rattle.std.specs.Ordering.{nat_cmp, is_lt, is_eq, ordering_reverse}
use Rattle.std.specs.declared.cmp.Ordering.{Ordering}
use Rattle.std.specs.declared.cmp.Ordering.TheVariants.{Less, Equal, Greater}
use Rattle.std.specs.Cmp.Lexicographic.{slice_cmp}
use Rattle.std.specs.Str.{bytes_eq}
use Rattle.std.proofs.lemmas.Cmp.{nat_list_cmp_total}
use Rattle.std.proofs.lemmas.Bool.{cases_lt}
use Rattle.std.proofs.lemmas.Option.{slice_get_read, slice_get_past}
use Rattle.std.proofs.lemmas.List.Kept.{IsStrictlySortedBy-filter}
use Rattle.std.proofs.lemmas.Map.Text.{is_eq-slice_cmp}
use Rattle.std.proofs.lemmas.Map.Keys.{Less-from_sorted}
use Rattle.ccr_auto.specs.Follow.{FollowPattern, by_name, Ascend, pattern_of, place_of, with_pattern, IsPlace, IsGap}
use Rattle.ccr_auto.proofs.Falling.{Falls, Above, filter-above, IsAt-place, none-at-place, other-at-place}

-- whether the name of a pattern is below this one
abbrev pub is_below : List ℕ → FollowPattern → Bool
is_below name pattern = is_lt (slice_cmp nat_cmp pattern.name name)

abbrev pub is_of : List ℕ → FollowPattern → Bool
is_of name pattern = bytes_eq pattern.name name

-- what an order answers, in the two tests
below-Less : (name : List ℕ) (x : FollowPattern) → slice_cmp nat_cmp x.name name ≡ Less → (is_below name x ≡ true) × (is_of name x ≡ false)
below-Less name x e = (ap is_lt e, sym (is_eq-slice_cmp x.name name) ∙ ap is_eq e)

below-Equal : (name : List ℕ) (x : FollowPattern) → slice_cmp nat_cmp x.name name ≡ Equal → (is_below name x ≡ false) × (is_of name x ≡ true)
below-Equal name x e = (ap is_lt e, sym (is_eq-slice_cmp x.name name) ∙ ap is_eq e)

below-Greater : (name : List ℕ) (x : FollowPattern) → slice_cmp nat_cmp x.name name ≡ Greater → (is_below name x ≡ false) × (is_of name x ≡ false)
below-Greater name x e = (ap is_lt e, sym (is_eq-slice_cmp x.name name) ∙ ap is_eq e)

-- what comes after a pattern above a name is above it
Greater-after : (name a b : List ℕ) → slice_cmp nat_cmp a name ≡ Greater → slice_cmp nat_cmp a b ≡ Less → slice_cmp nat_cmp b name ≡ Greater
Greater-after name a b h g =
    let back : slice_cmp nat_cmp name a ≡ Less = nat_list_cmp_total.antisymm name a ∙ ap ordering_reverse h in
    let far : slice_cmp nat_cmp name b ≡ Less = nat_list_cmp_total.trans name a b back g in
    nat_list_cmp_total.antisymm b name ∙ ap ordering_reverse far

Greater-after_Equal : (name a b : List ℕ) → slice_cmp nat_cmp a name ≡ Equal → slice_cmp nat_cmp a b ≡ Less → slice_cmp nat_cmp b name ≡ Greater
Greater-after_Equal name a b h g =
    let far : slice_cmp nat_cmp name b ≡ Less = sym (nat_list_cmp_total.congr a name b h) ∙ g in
    nat_list_cmp_total.antisymm b name ∙ ap ordering_reverse far

Above-after : (name : List ℕ) (x : FollowPattern) → ((b : List ℕ) → slice_cmp nat_cmp x.name b ≡ Less → slice_cmp nat_cmp b name ≡ Greater)
    → (xs : List FollowPattern) → AllByRecursion (λ y. by_name x y ≡ Less) xs → Above (is_below name) (is_of name) xs
Above-after name x after [] h = tt
Above-after name x after (y ∷ ys) h = (below-Greater name y (after y.name h.0), Above-after name x after ys h.1)

Falls-ascend : (name : List ℕ) (xs : List FollowPattern) → Ascend xs → Falls (is_below name) (is_of name) xs
unfolding IsStrictlySortedBy
Falls-ascend name [] up = tt
Falls-ascend name (x ∷ xs) up =
    (elim (slice_cmp nat_cmp x.name name) as (λ o. slice_cmp nat_cmp x.name name ≡ o → Falls (is_below name) (is_of name) (x ∷ xs)) [
      | Less ↦ λ e. let t = below-Less name x e in inl (t.0, t.1, Falls-ascend name xs up.1)
      | Equal ↦ λ e. inr ((below-Equal name x e).0, Above-after name x (λ b. Greater-after_Equal name x.name b e) xs up.0)
      | Greater ↦ λ e. inr ((below-Greater name x e).0, Above-after name x (λ b. Greater-after name x.name b e) xs up.0)
    ]) refl

Less-lt : (o : Ordering) → is_lt o ≡ true → o ≡ Less
Less-lt Less h = refl
Less-lt Equal h = cc
Less-lt Greater h = cc

-- the patterns below a name come first
pub partitioned : (name : List ℕ) (xs : List FollowPattern) → Ascend xs → IsPartitionedBy (is_below name) xs
partitioned name xs up i j d le lt h =
    elim (cases_lt i j) [
      | inl less ↦
          let first : slice_cmp nat_cmp (get_or xs i d).name (get_or xs j d).name ≡ Less = Less-from_sorted by_name xs i j d up less lt in
          ap is_lt (nat_list_cmp_total.trans (get_or xs i d).name (get_or xs j d).name name first (Less-lt _ h))
      | inr more ↦ let e : i ≡ j = omega arith in rw e h
    ]

pub IsPlace-at : (name : List ℕ) (xs : List FollowPattern) (n : ℕ) (pattern : FollowPattern) → n ≡ place_of name xs → Ascend xs → n < length xs → pattern ≡ get_or xs n pattern → bytes_eq pattern.name name ≡ true → IsPlace name n xs
IsPlace-at name xs n pattern is up lt read e =
    let got : slice_get xs n ≡ Some pattern = slice_get_read xs (length xs) n pattern refl lt read in
    let got' : slice_get xs (place_of name xs) ≡ Some pattern = rw is at got in
    let h = IsAt-place (is_below name) (is_of name) xs pattern (Falls-ascend name xs up) got' e in
    record { low = lt; found = (pattern, h.found); taken = ap (λ k. remove xs k) is ∙ h.taken }

pub IsGap-past : (name : List ℕ) (xs : List FollowPattern) (n : ℕ) → n ≡ place_of name xs → Ascend xs → n ≤ length xs → length xs ≤ n → IsGap name n xs
IsGap-past name xs n is up low le =
    let got : slice_get xs n ≡ None = slice_get_past xs n le in
    let got' : slice_get xs (place_of name xs) ≡ None = rw is at got in
    record { low = low; none = none-at-place (is_below name) (is_of name) xs (Falls-ascend name xs up) got'; first = is }

pub IsGap-other : (name : List ℕ) (xs : List FollowPattern) (n : ℕ) (pattern : FollowPattern) → n ≡ place_of name xs → Ascend xs → n < length xs → pattern ≡ get_or xs n pattern → bytes_eq pattern.name name ≡ false → IsGap name n xs
IsGap-other name xs n pattern is up lt read e =
    let got : slice_get xs n ≡ Some pattern = slice_get_read xs (length xs) n pattern refl lt read in
    let got' : slice_get xs (place_of name xs) ≡ Some pattern = rw is at got in
    record { low = omega arith; none = other-at-place (is_below name) (is_of name) xs pattern (Falls-ascend name xs up) got' e; first = is }

pub Ascend-nil : Ascend []
unfolding IsStrictlySortedBy
Ascend-nil = tt

pub Ascend-taken : (name : List ℕ) (n : ℕ) (xs : List FollowPattern) → IsPlace name n xs → Ascend xs → Ascend (remove xs n)
Ascend-taken name n xs at up = rw at.taken (IsStrictlySortedBy-filter by_name (λ pattern. not (bytes_eq pattern.name name)) xs up)

-- what holds of each pattern holds of each with one more
All-insert : (R : FollowPattern → Type 0) (pattern : FollowPattern) → R pattern → (n : ℕ) (xs : List FollowPattern) → AllByRecursion R xs → AllByRecursion R (take n xs ++ pattern ∷ drop n xs)
All-insert R pattern r zero xs h = (r, h)
All-insert R pattern r (suc n) [] h = (r, tt)
All-insert R pattern r (suc n) (x ∷ xs) h = (h.0, All-insert R pattern r n xs h.1)

-- what is after one that is greater is greater
All-after : (pattern x : FollowPattern) → slice_cmp nat_cmp pattern.name x.name ≡ Less → (xs : List FollowPattern) → AllByRecursion (λ y. by_name x y ≡ Less) xs → AllByRecursion (λ y. by_name pattern y ≡ Less) xs
All-after pattern x e [] h = tt
All-after pattern x e (y ∷ ys) h = (nat_list_cmp_total.trans pattern.name x.name y.name e h.0, All-after pattern x e ys h.1)

Ascend-with_pattern : (pattern : FollowPattern) (xs : List FollowPattern) → Ascend xs → pattern_of pattern.name xs ≡ None → Ascend (with_pattern pattern xs)
unfolding IsStrictlySortedBy
Ascend-with_pattern pattern [] up none = (tt, tt)
Ascend-with_pattern pattern (x ∷ xs) up none =
    (elim (slice_cmp nat_cmp x.name pattern.name) as (λ o. slice_cmp nat_cmp x.name pattern.name ≡ o → Ascend (with_pattern pattern (x ∷ xs))) [
      | Less ↦ λ e.
          let t = below-Less pattern.name x e in
          let b = t.0 in
          let a = t.1 in
          let none' : pattern_of pattern.name xs ≡ None = rw a at none in
          rw b (All-insert (λ y. by_name x y ≡ Less) pattern e (place_of pattern.name xs) xs up.0, Ascend-with_pattern pattern xs up.1 none')
      | Equal ↦ λ e. let t = below-Equal pattern.name x e in let a = t.1 in let no : Some x ≡ None = rw a at none in cc
      | Greater ↦ λ e.
          let t = below-Greater pattern.name x e in
          let b = t.0 in
          let rest = filter-above (is_below pattern.name) (is_of pattern.name) xs (Above-after pattern.name x (λ k. Greater-after pattern.name x.name k e) xs up.0) in
          let first : place_of pattern.name (x ∷ xs) ≡ 0 = rw b (rw rest) in
          let less : slice_cmp nat_cmp pattern.name x.name ≡ Less = nat_list_cmp_total.antisymm pattern.name x.name ∙ ap ordering_reverse e in
          rw first ((less, All-after pattern x less xs up.0), up)
    ]) refl

pub Ascend-added : (pattern : FollowPattern) (n : ℕ) (xs : List FollowPattern) → IsGap pattern.name n xs → Ascend xs → Ascend (insert xs n pattern)
Ascend-added pattern n xs gap up = let e = gap.first in rw e (Ascend-with_pattern pattern xs up gap.none)

pub Ascend-either : (b : Bool) (xs ys : List FollowPattern) → Ascend xs → Ascend ys → Ascend (cond b xs ys)
Ascend-either true xs ys h k = h
Ascend-either false xs ys h k = k

-- an answer by whether there is a pattern of the name
pub taken_answer : (o : Option FollowPattern) (P : Type 0) (Q : FollowPattern → Type 0) → (pattern : FollowPattern) × (o ≡ Some pattern) → ((pattern : FollowPattern) → Q pattern) → MatchOption o P Q
taken_answer o P Q found q = let e = found.1 in rw e (q found.0)

pub free_answer : (o : Option FollowPattern) (P : Type 0) (Q : FollowPattern → Type 0) → o ≡ None → P → MatchOption o P Q
free_answer o P Q e p = rw e p
