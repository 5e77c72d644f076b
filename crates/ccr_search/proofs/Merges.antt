-- The first of all hits that are left is that of the front which no other leads.
use Rattle.std.specs.Cmp.{IsTotalOrder}
use Rattle.std.specs.List.{AllByRecursion, flat_map, fold}
use Rattle.std.specs.Ordering.{ordering_reverse}
use Rattle.std.proofs.Common.{◌≡◌, ◌⊎◌, inl, inr, ℕ, zero, suc, ◌+◌, ◌<◌, nat_lt, Bool, true, false, if◌then◌else◌, is_lt, Ordering, Less, Equal, Greater, Option, Some, None, List, [], ◌∷◌, ◌++◌, length, drop, take, slice_get, slice_set, refl, sym, ◌∙◌, ap, subst, append_assoc, arith}
use Rattle.std.proofs.lemmas.Bool.Decides.{nat_tests}
use Rattle.std.proofs.lemmas.List.Sums.{fold-append}
use Rattle.ccr_query.specs.declared.answers.Hit.{Hit}
use Rattle.ccr_query.specs.declared.sorting.SortKey.{SortKey}
use Rattle.ccr_model.specs.Answers.{AreInOrder}
use Rattle.ccr_model.specs.Searches.{sorted_hits}
use Rattle.ccr_law_base.proofs.Lists.{some_equal, get_within, drop-zero, All-append, All-set, All-at, All-weaker}
use Rattle.ccr_law_stores.proofs.Insertions.{put, put_all, All-put, less}
use Rattle.ccr_law_stores.proofs.SearchOrders.{order_of, hit_total}
use Rattle.ccr_law_stores.proofs.SearchSorts.{sorted_put}
use Rattle.ccr_search.specs.Joined.{leads, sorted_rests, AreSorted, IsFirstOf, IsTaken}
use Rattle.ccr_search.proofs.SameLists.{never_itself}

-- ---- the first of what is sorted

put_first : {X : Type 0} (R : X → X → Ordering) (h : X) (xs : List X) → AllByRecursion (λ x. R h x ≡ Less) xs → put R h xs ≡ h ∷ xs
put_first R h [] before = refl
put_first {X = X} R h (x ∷ xs) before = ap (λ (o : Ordering). if is_lt o then h ∷ x ∷ xs else x ∷ put R h xs) before.0

all_behind : {X : Type 0} (R : X → X → Ordering) (h : X) (ys sorted : List X) → AllByRecursion (λ y. is_lt (R y h) ≡ false) ys
    → put_all R (h ∷ sorted) ys ≡ h ∷ put_all R sorted ys
all_behind R h [] sorted behind = refl
all_behind {X = X} R h (y ∷ ys) sorted behind =
    ap (λ (b : Bool). put_all R (if b then y ∷ h ∷ sorted else h ∷ put R y sorted) ys) behind.0 ∙ all_behind R h ys (put R y sorted) behind.1

All-put_all : {X : Type 0} (P : X → Type 0) (R : X → X → Ordering) (xs sorted : List X) → AllByRecursion P xs → AllByRecursion P sorted → AllByRecursion P (put_all R sorted xs)
All-put_all P R [] sorted all done = done
All-put_all P R (x ∷ xs) sorted all done = All-put_all P R xs (put R x sorted) all.1 (All-put P R x sorted all.0 done)

least_first : {X : Type 0} (R : X → X → Ordering) (h : X) (xs ys : List X) → AllByRecursion (λ x. R h x ≡ Less) xs → AllByRecursion (λ y. is_lt (R y h) ≡ false) ys
    → put_all R [] (xs ++ h ∷ ys) ≡ h ∷ put_all R [] (xs ++ ys)
least_first {X = X} R h xs ys before behind =
    fold-append {A = X} {B = List X} (λ rest x. put R x rest) [] xs (h ∷ ys)
    ∙ ap (λ (sorted : List X). put_all R sorted ys) (put_first R h (put_all R [] xs) (All-put_all (λ x. R h x ≡ Less) R xs [] before tt))
    ∙ all_behind R h ys (put_all R [] xs) behind
    ∙ ap (λ (sorted : List X). h ∷ sorted) (sym (fold-append {A = X} {B = List X} (λ rest x. put R x rest) [] xs ys))

-- ---- orders

not_back : {X : Type 0} (R : X → X → Ordering) → IsTotalOrder R → (x y : X) → R x y ≡ Less → is_lt (R y x) ≡ false
not_back R total x y first = by (R y x) refl
  where
    by : (o : Ordering) → R y x ≡ o → is_lt o ≡ false
    by Less is = absurd (never_itself R total x (total.trans x y x first is))
    by Equal is = refl
    by Greater is = refl

-- what stands behind one that is not less is not less
behind : {X : Type 0} (R : X → X → Ordering) → IsTotalOrder R → (x y z : X) → is_lt (R x z) ≡ false → R x y ≡ Less → is_lt (R y z) ≡ false
behind R total x y z isnt first = by (R y z) refl
  where
    by : (o : Ordering) → R y z ≡ o → is_lt o ≡ false
    by Less is = absurd (let e : R x z ≡ Less = total.trans x y z first is in cc)
    by Equal is = refl
    by Greater is = refl

-- what is less than another one that is not less than a third is less than this one
between : {X : Type 0} (R : X → X → Ordering) → IsTotalOrder R → (x z y : X) → R x z ≡ Less → is_lt (R y z) ≡ false → R x y ≡ Less
between R total x z y first isnt = by (R x y) refl (total.antisymm y x)
  where
    by : (o : Ordering) → R x y ≡ o → R y x ≡ ordering_reverse (R x y) → R x y ≡ Less
    by Less is back = is
    by Equal is back = absurd (let e : R x z ≡ R y z = total.congr x y z is in cc)
    by Greater is back =
        let under : R y x ≡ Less = back ∙ ap ordering_reverse is in
        absurd (let e : R y z ≡ Less = total.trans y x z under first in cc)

-- ---- the hits of a front

all_before : (keys : List SortKey) (h x : Hit) (xs : List Hit) → order_of keys h x ≡ Less → AreInOrder keys (x ∷ xs) → AllByRecursion (λ y. order_of keys h y ≡ Less) (x ∷ xs)
all_before keys h x xs first order =
    (first, All-weaker (λ y. order_of keys x y ≡ Less) (λ y. order_of keys h y ≡ Less) (λ y later. (hit_total keys).trans h x y first later) xs order.0)

all_behind_of : (keys : List SortKey) (h x : Hit) (xs : List Hit) → is_lt (order_of keys x h) ≡ false → AreInOrder keys (x ∷ xs)
    → AllByRecursion (λ y. is_lt (order_of keys y h) ≡ false) (x ∷ xs)
all_behind_of keys h x xs isnt order =
    (isnt, All-weaker (λ y. order_of keys x y ≡ Less) (λ y. is_lt (order_of keys y h) ≡ false) (λ y later. behind (order_of keys) (hit_total keys) x y h isnt later) xs order.0)

own_behind : (keys : List SortKey) (h : Hit) (rest : List Hit) → AreInOrder keys (h ∷ rest) → AllByRecursion (λ y. is_lt (order_of keys y h) ≡ false) rest
own_behind keys h rest order =
    All-weaker (λ y. order_of keys h y ≡ Less) (λ y. is_lt (order_of keys y h) ≡ false) (λ y later. not_back (order_of keys) (hit_total keys) h y later) rest order.0

abbrev all_in : List (List Hit) → List Hit
all_in lists = flat_map {X = List Hit} {A = Hit} (λ rest. rest) lists

lists_behind : (keys : List SortKey) (h : Hit) (rest : List Hit) (lists : List (List Hit)) → ((at : ℕ) (list : List Hit) → slice_get lists at ≡ Some list → leads keys list (h ∷ rest) ≡ false)
    → AreSorted keys lists → AllByRecursion (λ y. is_lt (order_of keys y h) ≡ false) (all_in lists)
lists_behind keys h rest [] isnt sorted = tt
lists_behind keys h rest ([] ∷ lists) isnt sorted = lists_behind keys h rest lists (λ at list there. isnt (suc at) list there) sorted.1
lists_behind keys h rest ((x ∷ xs) ∷ lists) isnt sorted =
    All-append (λ y. is_lt (order_of keys y h) ≡ false) (x ∷ xs) (all_in lists) (all_behind_of keys h x xs (isnt zero (x ∷ xs) refl) sorted.0)
    (lists_behind keys h rest lists (λ at list there. isnt (suc at) list there) sorted.1)

first_of_all : (keys : List SortKey) (h : Hit) (xs ys : List Hit) → AllByRecursion (λ x. order_of keys h x ≡ Less) xs → AllByRecursion (λ y. is_lt (order_of keys y h) ≡ false) ys
    → sorted_hits keys (xs ++ h ∷ ys) ≡ h ∷ sorted_hits keys (xs ++ ys)
first_of_all keys h xs ys before after =
    sorted_put keys (xs ++ h ∷ ys) ∙ least_first (order_of keys) h xs ys before after ∙ ap (λ (hits : List Hit). h ∷ hits) (sym (sorted_put keys (xs ++ ys)))

merge_step : (keys : List SortKey) (h : Hit) (rest : List Hit) (lists : List (List Hit)) (place : ℕ) (xs : List Hit) → AllByRecursion (λ x. order_of keys h x ≡ Less) xs
    → slice_get lists place ≡ Some (h ∷ rest)
    → ((at : ℕ) (list : List Hit) → slice_get lists at ≡ Some list → leads keys list (h ∷ rest) ≡ false)
    → ((at : ℕ) (hit : Hit) (hits : List Hit) → at < place → slice_get lists at ≡ Some (hit ∷ hits) → order_of keys h hit ≡ Less)
    → AreSorted keys lists
    → sorted_hits keys (xs ++ all_in lists) ≡ h ∷ sorted_hits keys (xs ++ all_in (slice_set lists place rest))
merge_step keys h rest [] place xs low there isnt before sorted = absurd (cc)
merge_step keys h rest (list ∷ lists) zero xs low there isnt before sorted =
    let is : list ≡ h ∷ rest = some_equal list (h ∷ rest) there in
    let own : AreInOrder keys (h ∷ rest) = subst (AreInOrder keys) is sorted.0 in
    ap (λ (l : List Hit). sorted_hits keys (xs ++ (l ++ all_in lists))) is
    ∙ first_of_all keys h xs (rest ++ all_in lists) low
    (All-append (λ y. is_lt (order_of keys y h) ≡ false) rest (all_in lists) (own_behind keys h rest own)
    (lists_behind keys h rest lists (λ at list there. isnt (suc at) list there) sorted.1))
merge_step keys h rest ([] ∷ lists) (suc place) xs low there isnt before sorted =
    merge_step keys h rest lists place xs low there (λ at list there. isnt (suc at) list there) (λ at hit hits under there. before (suc at) hit hits (omega arith) there) sorted.1
merge_step keys h rest ((x ∷ list) ∷ lists) (suc place) xs low there isnt before sorted =
    let front : AllByRecursion (λ y. order_of keys h y ≡ Less) (x ∷ list) = all_before keys h x list (before zero x list (omega arith) refl) sorted.0 in
    ap (sorted_hits keys) (sym (append_assoc xs (x ∷ list) (all_in lists)))
    ∙ merge_step keys h rest lists place (xs ++ x ∷ list) (All-append (λ y. order_of keys h y ≡ Less) xs (x ∷ list) low front) there
    (λ at list there. isnt (suc at) list there) (λ at hit hits under there. before (suc at) hit hits (omega arith) there) sorted.1
    ∙ ap (λ (hits : List Hit). h ∷ sorted_hits keys hits) (append_assoc xs (x ∷ list) (all_in (slice_set lists place rest)))

-- ---- no hit is left

none_left : (keys : List SortKey) (lists : List (List Hit)) → ((at : ℕ) (list : List Hit) → slice_get lists at ≡ Some list → leads keys list [] ≡ false) → all_in lists ≡ []
none_left keys [] isnt = refl
none_left keys ([] ∷ lists) isnt = none_left keys lists (λ at list there. isnt (suc at) list there)
none_left keys ((x ∷ xs) ∷ lists) isnt = absurd (let e : true ≡ false = isnt zero (x ∷ xs) refl in cc)

set_none : (lists : List (List Hit)) (place : ℕ) → all_in lists ≡ [] → all_in (slice_set lists place []) ≡ []
set_none [] place none = none
set_none ([] ∷ lists) zero none = none
set_none ((x ∷ xs) ∷ lists) zero none = absurd (cc)
set_none ([] ∷ lists) (suc place) none = set_none lists place none
set_none ((x ∷ xs) ∷ lists) (suc place) none = absurd (cc)

-- ---- a hit is taken

taken_of : (keys : List SortKey) (lists : List (List Hit)) (place : ℕ) (first : List Hit) → slice_get lists place ≡ Some first
    → ((at : ℕ) (list : List Hit) → slice_get lists at ≡ Some list → leads keys list first ≡ false)
    → ((at : ℕ) (hit : Hit) (hits : List Hit) → at < place → slice_get lists at ≡ Some (hit ∷ hits) → leads keys first (hit ∷ hits) ≡ true)
    → AreSorted keys lists → IsTaken keys lists (slice_set lists place (drop 1 first)) (slice_get first 0)
taken_of keys lists place [] there isnt before sorted = record {
  sorted = All-set (AreInOrder keys) lists place [] sorted tt;
  first = ap (λ (hits : List Hit). slice_get (sorted_hits keys hits) 0) (sym none);
  left = ap (sorted_hits keys) (set_none lists place none) ∙ ap (λ (hits : List Hit). drop 1 (sorted_hits keys hits)) (sym none);
}
  where
    none : all_in lists ≡ []
    none = none_left keys lists isnt
taken_of keys lists place (h ∷ rest) there isnt before sorted =
    subst (λ (left : List Hit). IsTaken keys lists (slice_set lists place left) (Some h)) (sym (drop-zero rest)) (record {
      sorted = All-set (AreInOrder keys) lists place rest sorted own.1;
      first = ap (λ (hits : List Hit). slice_get hits 0) (sym step);
      left = sym (ap (drop 1) step ∙ drop-zero (sorted_rests keys (slice_set lists place rest)));
    })
  where
    own : AreInOrder keys (h ∷ rest)
    own = All-at (AreInOrder keys) lists place (h ∷ rest) sorted there

    step : sorted_rests keys lists ≡ h ∷ sorted_rests keys (slice_set lists place rest)
    step = merge_step keys h rest lists place [] tt there isnt (λ at hit hits under there. less (order_of keys h hit) (before at hit hits under there)) sorted

pub taken_first : (keys : List SortKey) (lists : List (List Hit)) (place : ℕ) (first : List Hit) → IsFirstOf keys lists (length lists) place → slice_get lists place ≡ Some first → AreSorted keys lists
    → IsTaken keys lists (slice_set lists place (drop 1 first)) (slice_get first 0)
taken_first keys lists place first f there sorted =
    let same : f.first ≡ first = some_equal f.first first (sym f.there ∙ there) in
    subst (λ (list : List Hit). IsTaken keys lists (slice_set lists place (drop 1 list)) (slice_get list 0)) same
    (taken_of keys lists place f.first f.there (λ at list there. f.none_leads at list (get_within lists at list there) there) f.before sorted)

-- ---- the first of more fronts

below_or_same : (a n : ℕ) → a < n + 1 → (a < n) ⊎ (a ≡ n)
below_or_same a n low = by (nat_lt a n) refl
  where
    by : (b : Bool) → nat_lt a n ≡ b → (a < n) ⊎ (a ≡ n)
    by true is = inl (grind (arith, nat_tests))
    by false is = inr (grind (arith, nat_tests))

leads_itself : (keys : List SortKey) (list : List Hit) → leads keys list list ≡ false
leads_itself keys [] = refl
leads_itself keys (h ∷ list) = by (order_of keys h h) refl
  where
    by : (o : Ordering) → order_of keys h h ≡ o → is_lt o ≡ false
    by Less is = absurd (never_itself (order_of keys) (hit_total keys) h is)
    by Equal is = refl
    by Greater is = refl

-- one that leads the first so far leads all that have a hit, and none leads it
leads_all : (keys : List SortKey) (new old : List Hit) (hit : Hit) (hits : List Hit) → leads keys new old ≡ true → leads keys (hit ∷ hits) old ≡ false → leads keys new (hit ∷ hits) ≡ true
leads_all keys [] old hit hits first isnt = absurd (cc)
leads_all keys (n ∷ new) [] hit hits first isnt = absurd (cc)
leads_all keys (n ∷ new) (o ∷ old) hit hits first isnt =
    ap is_lt (between (order_of keys) (hit_total keys) n o hit (less (order_of keys n o) first) isnt)

never_leads : (keys : List SortKey) (new old list : List Hit) → leads keys new old ≡ true → leads keys list old ≡ false → leads keys list new ≡ false
never_leads keys new old [] first isnt = refl
never_leads keys [] old (x ∷ list) first isnt = absurd (cc)
never_leads keys (n ∷ new) [] (x ∷ list) first isnt = absurd (cc)
never_leads keys (n ∷ new) (o ∷ old) (x ∷ list) first isnt =
    not_back (order_of keys) (hit_total keys) n x (between (order_of keys) (hit_total keys) n o x (less (order_of keys n o) first) isnt)

pub first_none : (keys : List SortKey) (lists : List (List Hit)) (list : List Hit) → slice_get lists 0 ≡ Some list → IsFirstOf keys lists 0 0
first_none keys lists list there =
    record { first = list; there = there; none_leads = λ at list low there. absurd (omega arith); before = λ at hit hits low there. absurd (omega arith) }

pub first_moves : (keys : List SortKey) (lists : List (List Hit)) (n place : ℕ) (new old : List Hit) → IsFirstOf keys lists n place → slice_get lists n ≡ Some new → slice_get lists place ≡ Some old
    → leads keys new old ≡ true → IsFirstOf keys lists (n + 1) n
first_moves keys lists n place new old f there before leading = record {
  first = new;
  there = there;
  none_leads = λ at list low got. by at list got (below_or_same at n low);
  before = λ at hit hits low got. leads_all keys new f.first hit hits now (f.none_leads at (hit ∷ hits) low got);
}
  where
    now : leads keys new f.first ≡ true
    now = subst (λ (list : List Hit). leads keys new list ≡ true) (some_equal old f.first (sym before ∙ f.there)) leading

    by : (at : ℕ) (list : List Hit) → slice_get lists at ≡ Some list → (at < n) ⊎ (at ≡ n) → leads keys list new ≡ false
    by at list got (inl low) = never_leads keys new f.first list now (f.none_leads at list low got)
    by at list got (inr same) =
        let is : list ≡ new = some_equal list new (sym got ∙ ap (slice_get lists) same ∙ there) in
        subst (λ (l : List Hit). leads keys l new ≡ false) (sym is) (leads_itself keys new)

pub first_stays : (keys : List SortKey) (lists : List (List Hit)) (n place : ℕ) (new old : List Hit) → IsFirstOf keys lists n place → slice_get lists n ≡ Some new → slice_get lists place ≡ Some old
    → leads keys new old ≡ false → IsFirstOf keys lists (n + 1) place
first_stays keys lists n place new old f there before isnt = record {
  first = f.first;
  there = f.there;
  none_leads = λ at list low got. by at list got (below_or_same at n low);
  before = f.before;
}
  where
    by : (at : ℕ) (list : List Hit) → slice_get lists at ≡ Some list → (at < n) ⊎ (at ≡ n) → leads keys list f.first ≡ false
    by at list got (inl low) = f.none_leads at list low got
    by at list got (inr same) =
        let is : new ≡ list = some_equal new list (sym there ∙ ap (slice_get lists) (sym same) ∙ got) in
        subst (λ (l : List Hit). leads keys l f.first ≡ false) is
        (subst (λ (l : List Hit). leads keys new l ≡ false) (some_equal old f.first (sym before ∙ f.there)) isnt)
