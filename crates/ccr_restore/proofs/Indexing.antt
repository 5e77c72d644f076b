-- The index of the parts by their places.
use Rattle.std.proofs.Common.{◌≡◌, ℕ, zero, suc, ◌+◌, ◌-◌, ◌<◌, ◌≤◌, ◌==◌, ◌&&◌, Bool, true, false, nat_lt, cond, Option, Some, None, List, [], ◌∷◌, length, drop, get_or, refl, sym, ◌∙◌, ap, arith}
use Rattle.std.specs.Prelude.{find, slice_get}
use Rattle.std.specs.List.{position_from}
use Rattle.std.specs.Option.{option_map_or}
use Rattle.std.specs.Ordering.{nat_cmp, ordering_then, is_eq}
use Rattle.std.specs.declared.cmp.Ordering.{Ordering}
use Rattle.std.specs.declared.cmp.Ordering.TheVariants.{Less, Equal, Greater}
use Rattle.std.proofs.lemmas.Bool.Decides.{nat_tests}
use Rattle.std.proofs.lemmas.List.{drop_more, drop_all}
use Rattle.ccr_model.specs.Restores.{Chunk, bytes_at}
use Rattle.ccr_restore.specs.Index.{place_cmp, is_part_at, place_in, IsIndex}
use Rattle.ccr_restore.proofs.Steps.{drop_none, drop_tail}

then_tied : (o p : Ordering) → is_eq (ordering_then o p) ≡ (is_eq o && is_eq p)
then_tied Less p = refl
then_tied Equal p = refl
then_tied Greater p = refl

numbers_tied : (a b : ℕ) → is_eq (nat_cmp a b) ≡ (a == b)
numbers_tied a b = by_tests (nat_lt a b) (a == b) refl refl
  where
    by_tests : (lt eq : Bool) → nat_lt a b ≡ lt → (a == b) ≡ eq → is_eq (cond lt Less (cond eq Equal Greater)) ≡ eq
    by_tests true true is same = absurd (grind (arith, nat_tests))
    by_tests true false is same = refl
    by_tests false true isnt same = refl
    by_tests false false isnt same = refl

-- a part's place is tied with another exactly where it is at that
pub tied : (c : Chunk) (place : ℕ × ℕ) → is_eq (place_cmp (c.file, c.offset) place) ≡ is_part_at place c
tied c place =
    then_tied (nat_cmp c.file place.0) (nat_cmp c.offset place.1)
    ∙ (ap (λ (b : Bool). b && is_eq (nat_cmp c.offset place.1)) (numbers_tied c.file place.0) ∙ ap (λ (b : Bool). (c.file == place.0) && b) (numbers_tied c.offset place.1))

-- one more part is put before those that are there
pub index-turn : (parts : List Chunk) (at next : ℕ) (c : Chunk) (place : ℕ × ℕ) (old new : Option ℕ) → at ≡ next + 1 → next < length parts → c ≡ get_or parts next c
    → old ≡ position_from (is_part_at place) at (drop at parts) → new ≡ cond (is_eq (place_cmp (c.file, c.offset) place)) (Some next) old
    → new ≡ position_from (is_part_at place) next (drop next parts)
index-turn parts at next c place old new one_more lt is before put =
    put
    ∙ (ap (λ (b : Bool). cond b (Some next) old) (tied c place)
    ∙ (ap (cond (is_part_at place c) (Some next)) (before ∙ ap (λ (n : ℕ). position_from (is_part_at place) n (drop n parts)) one_more)
    ∙ sym (ap (position_from (is_part_at place) next) (drop_more parts next c lt ∙ ap (λ (x : Chunk). x ∷ drop (next + 1) parts) (sym is)))))

pub index-start : (parts : List Chunk) (at : ℕ) (place : ℕ × ℕ) → length parts ≤ at → None ≡ position_from (is_part_at place) at (drop at parts)
index-start parts at place le = sym (ap (position_from (is_part_at place) at) (drop_all at parts le))

pub index-end : (parts : List Chunk) (at : ℕ) (place : ℕ × ℕ) (o : Option ℕ) → at ≡ 0 → o ≡ position_from (is_part_at place) at (drop at parts) → o ≡ position_from (is_part_at place) 0 parts
index-end parts at place o none before =
    before ∙ (ap (λ (n : ℕ). position_from (is_part_at place) n (drop n parts)) none ∙ ap (position_from (is_part_at place) 0) (drop_none parts))

-- ---- look-ups

head_at : (all : List Chunk) (i : ℕ) (x : Chunk) (rest : List Chunk) → drop i all ≡ x ∷ rest → slice_get all i ≡ Some x
head_at [] zero x rest is = cc
head_at [] (suc i) x rest is = cc
head_at (y ∷ ys) zero x rest is = let same : y ≡ x = cc in ap (λ (c : Chunk). Some c) same
head_at (y ∷ ys) (suc i) x rest is = head_at ys i x rest is

at_test : (p : Chunk → Bool) (all : List Chunk) (i k : ℕ) (x : Chunk) (xs : List Chunk) (b : Bool) → drop i all ≡ x ∷ xs → cond b (Some i) (position_from p (i + 1) xs) ≡ Some k
    → (position_from p (i + 1) xs ≡ Some k → slice_get all k ≡ find p xs) → slice_get all k ≡ cond b (Some x) (find p xs)
at_test p all i k x xs true is here later = let same : k ≡ i = cc in ap (slice_get all) same ∙ head_at all i x xs is
at_test p all i k x xs false is there later = later there

-- the part at the first place that passes is the first that passes
pub at_position : (p : Chunk → Bool) (all : List Chunk) (i k : ℕ) (xs : List Chunk) → drop i all ≡ xs → position_from p i xs ≡ Some k → slice_get all k ≡ find p xs
at_position p all i k [] is found = cc
at_position p all i k (x ∷ xs) is found = at_test p all i k x xs (p x) is found (at_position p all (i + 1) k xs (drop_tail all i x xs is))

no_test : (i : ℕ) (x : Chunk) (o : Option ℕ) (found : Option Chunk) (b : Bool) → cond b (Some i) o ≡ None → (o ≡ None → found ≡ None) → cond b (Some x) found ≡ None
no_test i x o found true is later = cc
no_test i x o found false is later = later is

pub no_position : (p : Chunk → Bool) (i : ℕ) (xs : List Chunk) → position_from p i xs ≡ None → find p xs ≡ None
no_position p i [] none = refl
no_position p i (x ∷ xs) none = no_test i x (position_from p (i + 1) xs) (find p xs) (p x) none (no_position p (i + 1) xs)

-- the bytes of a place, by what the index has for it
pub bytes-none : (parts : List Chunk) (index : List ((ℕ × ℕ) × ℕ)) (place : ℕ × ℕ) → IsIndex parts index → place_in index place ≡ None → bytes_at parts place ≡ []
bytes-none parts index place ok none =
    ap (λ (o : Option Chunk). option_map_or (λ c. c.bytes) o []) (no_position (is_part_at place) 0 parts (sym (ok place) ∙ none))

pub bytes-some : (parts : List Chunk) (index : List ((ℕ × ℕ) × ℕ)) (place : ℕ × ℕ) (k : ℕ) → IsIndex parts index → place_in index place ≡ Some k
    → bytes_at parts place ≡ option_map_or (λ (c : Chunk). c.bytes) (slice_get parts k) []
bytes-some parts index place k ok some =
    ap (λ (o : Option Chunk). option_map_or (λ c. c.bytes) o []) (sym (at_position (is_part_at place) parts 0 k parts (drop_none parts) (sym (ok place) ∙ some)))
