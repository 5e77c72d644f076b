-- What the indexes have, and what each change leaves them.
use Rattle.std.proofs.Common.{◌≡◌, ℕ, ◌+◌, ◌<◌, ◌≤◌, ◌==◌, ◌&&◌, zero, suc, Bool, true, false, cond, Option, Some, None, is_some, Result, Ok, Err, OnOk, OnErr, IfNone, nat_lt, List, [], ◌∷◌, ◌++◌, length, refl, sym, ◌∙◌, ap, subst, arith, if◌then◌else◌}
use Rattle.std.specs.Prelude.{slice_get}
use Rattle.std.specs.Option.{OnSome, option_map_or}
use Rattle.std.specs.Result.{is_err}
use Rattle.std.specs.List.{list_any, remove, AllByRecursion}
use Rattle.std.specs.Ordering.{nat_cmp}
use Rattle.std.specs.Cmp.{unsigned_tied}
use Rattle.std.specs.Cmp.Lexicographic.{slice_cmp, bytes_decides}
use Rattle.std.specs.Str.{bytes_eq}
use Rattle.std.specs.Map.{lookup, values_of, remove_entry}
use Rattle.std.specs.BTreeMap.{is_at, insert_entry}
use Rattle.std.proofs.lemmas.Map.Text.{is_eq-slice_cmp}
use Rattle.std.proofs.lemmas.Bool.Decides.{nat_tests}
use Rattle.ccr_model.specs.Leaders.{Poll, polls_of, without_poll}
use Rattle.ccr_changes.specs.Waits.{waits_at, waits_for, IsFromAbove, IsLeastAt}
use Rattle.ccr_changes.specs.Indexes.{AreAges, AreRising, IsAnyRequest, IsFirstKey, IsIndexed, Listed, ages_in, ages_of, copy_cmp, has_copy, has_poll, has_request, request_cmp}
use Rattle.ccr_changes.proofs.Ages.{Found, Some_entry, all-entries, any-entry, at_same, found, fresh, insert-last, lookup-push, missing, placed, values-push, push-ages, push-by, remove-ages, remove-at, remove-other, rising-by, some-entry}
use Rattle.ccr_changes.proofs.Keys.{key-tied}
use Rattle.ccr_changes.proofs.Takes.{is_of, take-values}

-- ---- the ages that are listed for each follower

abbrev pub list_at : List (List ℕ × Listed) → List ℕ → Option Listed
list_at ages follower = lookup (is_at (slice_cmp nat_cmp follower)) ages

abbrev pub items_of : Option Listed → List ℕ
items_of listed = option_map_or (λ (l : Listed). l.items) listed []

-- the list of one follower is another one, or none
abbrev pub Writes : List ℕ → List (List ℕ × Listed) → List (List ℕ × Listed) → Option Listed → Type 0
Writes own old new after = (f : List ℕ) → list_at new f ≡ cond (is_at (slice_cmp nat_cmp own) f) after (list_at old f)

pub ages-written : (own : List ℕ) (old new : List (List ℕ × Listed)) (after : Option Listed) (change : List ℕ → List ℕ) → Writes own old new after → items_of after ≡ change (ages_in old own)
    → (f : List ℕ) → ages_in new f ≡ (if bytes_eq own f then change (ages_in old f) else ages_in old f)
ages-written own old new after change writes what f =
    ap items_of (writes f)
    ∙ (ap (λ (b : Bool). items_of (cond b after (list_at old f))) (is_eq-slice_cmp own f)
    ∙ (elim (bytes_eq own f) as (λ b. bytes_eq own f ≡ b → items_of (cond b after (list_at old f)) ≡ (if b then change (ages_in old f) else ages_in old f)) [
      | true ↦ λ is. let same : own ≡ f = (bytes_decides own f).0 is in subst (λ (q : List ℕ). items_of after ≡ change (ages_in old q)) same what
      | false ↦ λ is. refl
    ]) refl)

-- the list of one follower is written with the same ages
pub ages-kept : (own : List ℕ) (old new : List (List ℕ × Listed)) (after : Option Listed) → Writes own old new after → items_of after ≡ ages_in old own → (f : List ℕ) → ages_in new f ≡ ages_in old f
ages-kept own old new after writes what f = ages-written own old new after (λ xs. xs) writes what f ∙ either (bytes_eq own f) (ages_in old f)
  where
    either : (b : Bool) (xs : List ℕ) → (if b then xs else xs) ≡ xs
    either true xs = refl
    either false xs = refl

pub remove-past : (xs : List ℕ) (i : ℕ) → length xs ≤ i → remove xs i ≡ xs
remove-past [] zero le = refl
remove-past [] (suc i) le = refl
remove-past (x ∷ xs) zero le = absurd (omega arith)
remove-past (x ∷ xs) (suc i) le = ap (λ (rest : List ℕ). x ∷ rest) (remove-past xs i (omega arith))

remove-last : (xs : List ℕ) (age : ℕ) → remove (xs ++ age ∷ []) (length xs) ≡ xs
remove-last [] age = refl
remove-last (x ∷ xs) age = ap (λ (rest : List ℕ). x ∷ rest) (remove-last xs age)

-- an age that was listed as the youngest is taken off again
pub ages-undone : (own : List ℕ) (age place : ℕ) (old more new : List (List ℕ × Listed)) → place ≡ length (ages_in old own)
    → ((f : List ℕ) → ages_in more f ≡ (if bytes_eq own f then ages_in old f ++ age ∷ [] else ages_in old f))
    → ((f : List ℕ) → ages_in new f ≡ (if bytes_eq own f then remove (ages_in more f) place else ages_in more f))
    → (f : List ℕ) → ages_in new f ≡ ages_in old f
ages-undone own age place old more new at pushed removed f =
    (elim (bytes_eq own f) as (λ b. bytes_eq own f ≡ b → ages_in more f ≡ (if b then ages_in old f ++ age ∷ [] else ages_in old f) → ages_in new f ≡ (if b then remove (ages_in more f) place else ages_in more f) → ages_in new f ≡ ages_in old f) [
      | true ↦ λ is put cut.
          let same : own ≡ f = (bytes_decides own f).0 is in
          let here : place ≡ length (ages_in old f) = at ∙ ap (λ (q : List ℕ). length (ages_in old q)) same in
          cut ∙ (ap (λ (xs : List ℕ). remove xs place) put ∙ (ap (λ (n : ℕ). remove (ages_in old f ++ age ∷ []) n) here ∙ remove-last (ages_in old f) age))
      | false ↦ λ is put cut. cut ∙ put
    ]) refl (pushed f) (removed f)

-- a list without what was at a place, or as it was where nothing is there
pub removed-items : (o : Option ℕ) (old new : Listed) (at : ℕ) → OnSome o (new.items ≡ remove old.items at) → IfNone o (new ≡ old) → (at < length old.items → is_some o ≡ true) → new.items ≡ remove old.items at
removed-items (Some n) old new at items none there = items
removed-items None old new at items none there =
    (elim (nat_lt at (length old.items)) as (λ b. nat_lt at (length old.items) ≡ b → new.items ≡ remove old.items at) [
      | true ↦ λ is. let lt : at < length old.items = grind (arith, nat_tests) in let e : is_some {T = ℕ} None ≡ true = there lt in absurd cc
      | false ↦ λ is. let le : length old.items ≤ at = grind (arith, nat_tests) in ap (λ (q : Listed). q.items) none ∙ sym (remove-past old.items at le)
    ]) refl

pub at_err : {A E : Type 0} (r : Result A E) (P : Type 0) → P → OnErr r P
at_err (Ok x) P h = tt
at_err (Err e) P h = h

pub from_err : {A E : Type 0} (r : Result A E) (P : Type 0) → is_err r ≡ true → OnErr r P → P
from_err (Ok x) P is h = absurd cc
from_err (Err e) P is h = h

pub from_ok : {A E : Type 0} (r : Result A E) (P : Type 0) → is_err r ≡ false → OnOk r P → P
from_ok (Ok x) P is h = h
from_ok (Err e) P is h = absurd cc

-- ---- the sets of keys

keyed-push : (test : Poll → Bool) (next q : ℕ) (p : Poll) (es : List (ℕ × Poll)) (old new here : Bool) → AreAges 0 next es → old ≡ has_poll es test q → here ≡ (test p && (next == q))
    → new ≡ (if here then true else old) → new ≡ has_poll (es ++ (next, p) ∷ []) test q
keyed-push test next q p es old new here ages before at put =
    (elim (next == q) as (λ b. (next == q) ≡ b → new ≡ has_poll (es ++ (next, p) ∷ []) test q) [
      | true ↦ λ is.
          let same : q ≡ next = grind (arith, nat_tests) in
          let none : old ≡ false = before ∙ ap (λ (o : Option Poll). option_map_or test o false) (ap (λ (n : ℕ). lookup (is_at (nat_cmp n)) es) same ∙ fresh 0 next es ages) in
          let after : has_poll (es ++ (next, p) ∷ []) test q ≡ test p =
          ap (λ (o : Option Poll). option_map_or test o false) (lookup-push 0 next q es p ages ∙ ap (λ (b : Bool). cond b (Some p) (lookup (is_at (nat_cmp q)) es)) (at_same q next same)) in
          put ∙ (ap (λ (b : Bool). if b then true else old) (at ∙ ap (λ (b : Bool). test p && b) is) ∙ (ap (λ (o : Bool). if (test p && true) then true else o) none ∙ (own (test p) ∙ sym after)))
      | false ↦ λ is.
          let apart : (q == next) ≡ false = grind (arith, nat_tests) in
          let after : has_poll (es ++ (next, p) ∷ []) test q ≡ has_poll es test q =
          ap (λ (o : Option Poll). option_map_or test o false) (lookup-push 0 next q es p ages ∙ ap (λ (b : Bool). cond b (Some p) (lookup (is_at (nat_cmp q)) es)) (unsigned_tied q next ∙ apart)) in
          put ∙ (ap (λ (b : Bool). if b then true else old) (at ∙ ap (λ (b : Bool). test p && b) is) ∙ (other (test p) old ∙ (before ∙ sym after)))
    ]) refl
  where
    own : (b : Bool) → (if (b && true) then true else false) ≡ b
    own true = refl
    own false = refl

    other : (b o : Bool) → (if (b && false) then true else o) ≡ o
    other true o = refl
    other false o = refl

-- each key of the map but one has what it had
abbrev pub Without : ℕ → List (ℕ × Poll) → List (ℕ × Poll) → Type 0
Without age old new = (q : ℕ) → lookup (is_at (nat_cmp q)) new ≡ cond (is_at (nat_cmp age) q) None (lookup (is_at (nat_cmp q)) old)

keyed-remove : (test : Poll → Bool) (age q : ℕ) (p : Poll) (es fs : List (ℕ × Poll)) (old new here : Bool) → lookup (is_at (nat_cmp age)) es ≡ Some p → Without age es fs → old ≡ has_poll es test q
    → here ≡ (test p && (age == q)) → new ≡ (if here then false else old) → new ≡ has_poll fs test q
keyed-remove test age q p es fs old new here there gone before at put =
    (elim (age == q) as (λ b. (age == q) ≡ b → new ≡ has_poll fs test q) [
      | true ↦ λ is.
          let same : q ≡ age = grind (arith, nat_tests) in
          let had : old ≡ test p = before ∙ ap (λ (o : Option Poll). option_map_or test o false) (ap (λ (n : ℕ). lookup (is_at (nat_cmp n)) es) same ∙ there) in
          let after : has_poll fs test q ≡ false =
          ap (λ (o : Option Poll). option_map_or test o false) (gone q ∙ ap (λ (b : Bool). cond b None (lookup (is_at (nat_cmp q)) es)) (at_same age q (sym same))) in
          put ∙ (ap (λ (b : Bool). if b then false else old) (at ∙ ap (λ (b : Bool). test p && b) is) ∙ (ap (λ (o : Bool). if (test p && true) then false else o) had ∙ (own (test p) ∙ sym after)))
      | false ↦ λ is.
          let after : has_poll fs test q ≡ has_poll es test q =
          ap (λ (o : Option Poll). option_map_or test o false) (gone q ∙ ap (λ (b : Bool). cond b None (lookup (is_at (nat_cmp q)) es)) (unsigned_tied age q ∙ is)) in
          put ∙ (ap (λ (b : Bool). if b then false else old) (at ∙ ap (λ (b : Bool). test p && b) is) ∙ (other (test p) old ∙ (before ∙ sym after)))
    ]) refl
  where
    own : (b : Bool) → (if (b && true) then false else b) ≡ false
    own true = refl
    own false = refl

    other : (b o : Bool) → (if (b && false) then false else o) ≡ o
    other true o = refl
    other false o = refl

abbrev pub copy_key : Poll → ℕ → ℕ × ℕ × ℕ
copy_key p age = (p.copy, p.from, age)

abbrev pub request_key : Poll → ℕ → List ℕ × ℕ × ℕ
request_key p age = (p.follower, p.request, age)

copy-tied : (p : Poll) (age : ℕ) (key : ℕ × ℕ × ℕ) → is_at (copy_cmp (copy_key p age)) key ≡ (((p.copy == key.0) && (p.from == key.1)) && (age == key.2))
copy-tied p age key = key-tied nat_cmp (copy_key p age) key ∙ ap (λ (b : Bool). (b && (p.from == key.1)) && (age == key.2)) (unsigned_tied p.copy key.0)

request-tied : (p : Poll) (age : ℕ) (key : List ℕ × ℕ × ℕ) → is_at (request_cmp (request_key p age)) key ≡ ((bytes_eq p.follower key.0 && (p.request == key.1)) && (age == key.2))
request-tied p age key = key-tied (slice_cmp nat_cmp) (request_key p age) key ∙ ap (λ (b : Bool). (b && (p.request == key.1)) && (age == key.2)) (is_eq-slice_cmp p.follower key.0)

-- ---- all of them

pub indexed-begun : IsIndexed [] 0 [] [] []
indexed-begun = record { ordered = tt; listed = λ f. refl; at_copies = λ key. refl; requested = λ key. refl }

module _ (es : List (ℕ × Poll)) (next : ℕ) (ages : List (List ℕ × Listed)) (copies : List (ℕ × ℕ × ℕ)) (requests : List (List ℕ × ℕ × ℕ)) (indexed : IsIndexed es next ages copies requests) where
  pub indexed-same : (fs : List (ℕ × Poll)) (ages2 : List (List ℕ × Listed)) (copies2 : List (ℕ × ℕ × ℕ)) (requests2 : List (List ℕ × ℕ × ℕ)) → fs ≡ es → ((f : List ℕ) → ages_in ages2 f ≡ ages_in ages f)
      → copies2 ≡ copies → requests2 ≡ requests → IsIndexed fs next ages2 copies2 requests2
  indexed-same fs ages2 copies2 requests2 is listed at_copies requested = record {
    ordered = subst (AreAges 0 next) (sym is) indexed.ordered;
    listed = λ f. listed f ∙ (indexed.listed f ∙ ap (λ (polls : List (ℕ × Poll)). ages_of polls f) (sym is));
    at_copies = λ key. ap (λ (keys : List (ℕ × ℕ × ℕ)). has_copy keys key) at_copies ∙ (indexed.at_copies key ∙ ap (λ (polls : List (ℕ × Poll)). has_poll polls (λ p. (p.copy == key.0) && (p.from == key.1)) key.2) (sym is));
    requested = λ key. ap (λ (keys : List (List ℕ × ℕ × ℕ)). has_request keys key) requested ∙ (indexed.requested key ∙ ap (λ (polls : List (ℕ × Poll)). has_poll polls (λ p. bytes_eq p.follower key.0 && (p.request == key.1)) key.2) (sym is));
  }

  -- no key has the next age
  pub fresh-copy : (p : Poll) → has_copy copies (copy_key p next) ≡ false
  fresh-copy p = indexed.at_copies (copy_key p next) ∙ ap (λ (o : Option Poll). option_map_or (λ r. (r.copy == p.copy) && (r.from == p.from)) o false) (fresh 0 next es indexed.ordered)

  pub fresh-request : (p : Poll) → has_request requests (request_key p next) ≡ false
  fresh-request p = indexed.requested (request_key p next) ∙ ap (λ (o : Option Poll). option_map_or (λ r. bytes_eq r.follower p.follower && (r.request == p.request)) o false) (fresh 0 next es indexed.ordered)

  pub indexed-push : (p : Poll) (ages2 : List (List ℕ × Listed)) (copies2 : List (ℕ × ℕ × ℕ)) (requests2 : List (List ℕ × ℕ × ℕ))
      → ((f : List ℕ) → ages_in ages2 f ≡ (if bytes_eq p.follower f then ages_in ages f ++ next ∷ [] else ages_in ages f))
      → ((key : ℕ × ℕ × ℕ) → has_copy copies2 key ≡ (if is_at (copy_cmp (copy_key p next)) key then true else has_copy copies key))
      → ((key : List ℕ × ℕ × ℕ) → has_request requests2 key ≡ (if is_at (request_cmp (request_key p next)) key then true else has_request requests key))
      → IsIndexed (es ++ (next, p) ∷ []) (next + 1) ages2 copies2 requests2
  indexed-push p ages2 copies2 requests2 listed at_copies requested = record {
    ordered = push-ages 0 next es p indexed.ordered (omega arith);
    listed = λ f. listed f ∙ (ap (λ (xs : List ℕ). if bytes_eq p.follower f then xs ++ next ∷ [] else xs) (indexed.listed f) ∙ sym (push-by (is_of f) next p es));
    at_copies = λ key.
        keyed-push (λ r. (r.copy == key.0) && (r.from == key.1)) next key.2 p es (has_copy copies key) (has_copy copies2 key) (is_at (copy_cmp (copy_key p next)) key) indexed.ordered (indexed.at_copies key) (copy-tied p next key) (at_copies key);
    requested = λ key.
        keyed-push (λ r. bytes_eq r.follower key.0 && (r.request == key.1)) next key.2 p es (has_request requests key) (has_request requests2 key) (is_at (request_cmp (request_key p next)) key) indexed.ordered (indexed.requested key) (request-tied p next key) (requested key);
  }

  pub parked : (p : Poll) (fs : List (ℕ × Poll)) → fs ≡ insert_entry nat_cmp es next p → fs ≡ es ++ (next, p) ∷ []
  parked p fs is = is ∙ insert-last 0 next es p indexed.ordered

  pub parked-values : (p : Poll) (fs : List (ℕ × Poll)) → fs ≡ insert_entry nat_cmp es next p → values_of fs ≡ values_of es ++ p ∷ []
  parked-values p fs is = ap (λ (polls : List (ℕ × Poll)). values_of polls) (parked p fs is) ∙ values-push next p es

  -- the age at a place among a follower's is that of its poll there
  pub found-at : (f : List ℕ) (at age : ℕ) → slice_get (ages_in ages f) at ≡ Some age → Found (is_of f) 0 es at age
  found-at f at age is = found (is_of f) 0 next at age es indexed.ordered (ap (λ (xs : List ℕ). slice_get xs at) (sym (indexed.listed f)) ∙ is)

  pub missing-at : (f : List ℕ) (at : ℕ) → slice_get (ages_in ages f) at ≡ None → slice_get (polls_of (values_of es) f) at ≡ None
  missing-at f at is = missing (is_of f) at es (ap (λ (xs : List ℕ). slice_get xs at) (sym (indexed.listed f)) ∙ is)

  pub taken-values : (f : List ℕ) (at age : ℕ) (fs : List (ℕ × Poll)) → slice_get (ages_in ages f) at ≡ Some age → fs ≡ remove_entry (is_at (nat_cmp age)) es → values_of fs ≡ without_poll f at (values_of es)
  taken-values f at age fs is cut =
      ap (λ (polls : List (ℕ × Poll)). values_of polls) cut ∙ take-values f 0 next at age es indexed.ordered (ap (λ (xs : List ℕ). slice_get xs at) (sym (indexed.listed f)) ∙ is)

  pub indexed-remove : (f : List ℕ) (at age : ℕ) (p : Poll) (fs : List (ℕ × Poll)) (ages2 : List (List ℕ × Listed)) (copies2 : List (ℕ × ℕ × ℕ)) (requests2 : List (List ℕ × ℕ × ℕ))
      → slice_get (ages_in ages f) at ≡ Some age → lookup (is_at (nat_cmp age)) es ≡ Some p → fs ≡ remove_entry (is_at (nat_cmp age)) es → Without age es fs
      → ((g : List ℕ) → ages_in ages2 g ≡ (if bytes_eq f g then remove (ages_in ages g) at else ages_in ages g))
      → ((key : ℕ × ℕ × ℕ) → has_copy copies2 key ≡ (if is_at (copy_cmp (copy_key p age)) key then false else has_copy copies key))
      → ((key : List ℕ × ℕ × ℕ) → has_request requests2 key ≡ (if is_at (request_cmp (request_key p age)) key then false else has_request requests key))
      → IsIndexed fs next ages2 copies2 requests2
  indexed-remove f at age p fs ages2 copies2 requests2 is there cut gone listed at_copies requested =
      let it : Found (is_of f) 0 es at age = found-at f at age is in
      let own : it.value ≡ p = (let e : Some it.value ≡ Some p = sym it.there ∙ there in cc) in
      let same : p.follower ≡ f = (bytes_decides p.follower f).0 (ap (is_of f) (sym own) ∙ it.passes) in
      record {
        ordered = subst (AreAges 0 next) (sym cut) (remove-ages 0 next age es indexed.ordered);
        listed = λ g. listed g ∙ (ap (λ (xs : List ℕ). if bytes_eq f g then remove xs at else xs) (indexed.listed g) ∙ (by_follower g (bytes_eq f g) refl same ∙ ap (λ (polls : List (ℕ × Poll)). ages_of polls g) (sym cut)));
        at_copies = λ key.
            keyed-remove (λ r. (r.copy == key.0) && (r.from == key.1)) age key.2 p es fs (has_copy copies key) (has_copy copies2 key) (is_at (copy_cmp (copy_key p age)) key) there gone (indexed.at_copies key) (copy-tied p age key) (at_copies key);
        requested = λ key.
            keyed-remove (λ r. bytes_eq r.follower key.0 && (r.request == key.1)) age key.2 p es fs (has_request requests key) (has_request requests2 key) (is_at (request_cmp (request_key p age)) key) there gone (indexed.requested key) (request-tied p age key) (requested key);
      }
    where
      by_follower : (g : List ℕ) (b : Bool) → bytes_eq f g ≡ b → p.follower ≡ f → (if b then remove (ages_of es g) at else ages_of es g) ≡ ages_of (remove_entry (is_at (nat_cmp age)) es) g
      by_follower g true eq same =
          let equal : f ≡ g = (bytes_decides f g).0 eq in
          let place : slice_get (ages_of es g) at ≡ Some age = subst (λ (q : List ℕ). slice_get (ages_of es q) at ≡ Some age) equal (ap (λ (xs : List ℕ). slice_get xs at) (sym (indexed.listed f)) ∙ is) in
          sym (remove-at (is_of g) 0 next at age es indexed.ordered place)
      by_follower g false eq same = sym (remove-other (is_of g) age p es there (ap (λ (q : List ℕ). bytes_eq q g) same ∙ eq))

  -- ---- looks

  pub rising-in : (f : List ℕ) → AreRising 0 (ages_in ages f)
  rising-in f = subst (AreRising 0) (sym (indexed.listed f)) (rising-by (is_of f) 0 next es indexed.ordered)

  -- the poll of a key
  pub record OfCopy (copy from age : ℕ) : Type 0 where
    pub poll : Poll
    pub there : lookup (is_at (nat_cmp age)) es ≡ Some poll
    pub here : waits_at copy poll ≡ true
    pub number : poll.from ≡ from

  pub of-copy : (copy from age : ℕ) → has_copy copies (copy, from, age) ≡ true → OfCopy copy from age
  of-copy copy from age has = by (lookup (is_at (nat_cmp age)) es) refl (sym (indexed.at_copies (copy, from, age)) ∙ has)
    where
      by : (o : Option Poll) → lookup (is_at (nat_cmp age)) es ≡ o → option_map_or (λ r. (r.copy == copy) && (r.from == from)) o false ≡ true → OfCopy copy from age
      by None is h = absurd cc
      by (Some p) is h = record { poll = p; there = is; here = first (p.copy == copy) (p.from == from) h; number = let e : (p.from == from) ≡ true = second (p.copy == copy) (p.from == from) h in grind (arith, nat_tests) }
        where
          first : (a b : Bool) → (a && b) ≡ true → a ≡ true
          first true b h = refl
          first false b h = absurd cc

          second : (a b : Bool) → (a && b) ≡ true → b ≡ true
          second true b h = h
          second false b h = absurd cc

  copy_listed : (copy age : ℕ) (p : Poll) → lookup (is_at (nat_cmp age)) es ≡ Some p → waits_at copy p ≡ true → has_copy copies (copy, p.from, age) ≡ true
  copy_listed copy age p is here =
      let own : (p.from == p.from) ≡ true = grind (arith, nat_tests) in
      indexed.at_copies (copy, p.from, age)
      ∙ (ap (λ (o : Option Poll). option_map_or (λ r. (r.copy == copy) && (r.from == p.from)) o false) is ∙ (ap (λ (b : Bool). b && (p.from == p.from)) here ∙ own))

  pub none-at : (copy : ℕ) → ((from age : ℕ) → has_copy copies (copy, from, age) ≡ false) → list_any (waits_at copy) (values_of es) ≡ false
  none-at copy none = by (list_any (waits_at copy) (values_of es)) refl
    where
      by : (b : Bool) → list_any (waits_at copy) (values_of es) ≡ b → b ≡ false
      by true any =
          let it : Some_entry (waits_at copy) 0 es = some-entry (waits_at copy) 0 next es indexed.ordered any in
          let has : has_copy copies (copy, it.value.from, it.age) ≡ true = copy_listed copy it.age it.value it.there it.passes in
          sym has ∙ none it.value.from it.age
      by false any = refl

  -- no poll at the copy asks for less than its first key
  above-first : (copy from age : ℕ) → IsFirstKey copies copy from age → AllByRecursion (IsFromAbove copy from) (values_of es)
  above-first copy from age first = all-entries (IsFromAbove copy from) 0 next es indexed.ordered (λ other p is here. first.least p.from other (copy_listed copy other p is here))

  pub least-at : (copy from age at : ℕ) (p : Poll) → IsFirstKey copies copy from age → lookup (is_at (nat_cmp age)) es ≡ Some p → slice_get (ages_in ages p.follower) at ≡ Some age
      → IsLeastAt copy (values_of es) (record { follower = p.follower; at = at; from = from })
  least-at copy from age at p first is place =
      let key : OfCopy copy from age = of-copy copy from age first.there in
      let it : Found (is_of p.follower) 0 es at age = found-at p.follower at age place in
      let own : it.value ≡ p = (let e : Some it.value ≡ Some p = sym it.there ∙ is in cc) in
      let same : key.poll ≡ p = (let e : Some key.poll ≡ Some p = sym key.there ∙ is in cc) in
      record {
        poll = p;
        there = it.place ∙ ap (λ (r : Poll). Some r) own;
        here = ap (waits_at copy) (sym same) ∙ key.here;
        number = ap (λ (r : Poll). r.from) (sym same) ∙ key.number;
        least = above-first copy from age first;
      }

  -- the poll of an age is listed for its follower
  pub listed-at : (age : ℕ) (p : Poll) → lookup (is_at (nat_cmp age)) es ≡ Some p → (at : ℕ) × (slice_get (ages_in ages p.follower) at ≡ Some age)
  listed-at age p is =
      let own : is_of p.follower p ≡ true = (bytes_decides p.follower p.follower).1 refl in
      let it : (at : ℕ) × (slice_get (ages_of es p.follower) at ≡ Some age) = placed (is_of p.follower) age p es is own in
      (it.0, ap (λ (xs : List ℕ). slice_get xs it.0) (indexed.listed p.follower) ∙ it.1)

  pub any-request : (f : List ℕ) (request : ℕ) (b : Bool) → IsAnyRequest requests f request b → b ≡ list_any (waits_for f request) (values_of es)
  any-request f request true some =
      by (lookup (is_at (nat_cmp some.0)) es) refl (sym (indexed.requested (f, request, some.0)) ∙ some.1)
    where
      by : (o : Option Poll) → lookup (is_at (nat_cmp some.0)) es ≡ o → option_map_or (waits_for f request) o false ≡ true → true ≡ list_any (waits_for f request) (values_of es)
      by None is h = absurd cc
      by (Some p) is h = sym (any-entry (waits_for f request) some.0 p es is h)
  any-request f request false none = by (list_any (waits_for f request) (values_of es)) refl
    where
      by : (b : Bool) → list_any (waits_for f request) (values_of es) ≡ b → false ≡ b
      by true any =
          let it : Some_entry (waits_for f request) 0 es = some-entry (waits_for f request) 0 next es indexed.ordered any in
          let has : has_request requests (f, request, it.age) ≡ true = indexed.requested (f, request, it.age) ∙ (ap (λ (o : Option Poll). option_map_or (waits_for f request) o false) it.there ∙ it.passes) in
          sym (none it.age) ∙ has
      by false any = refl
