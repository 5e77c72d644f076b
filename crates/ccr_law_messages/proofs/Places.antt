-- The parts that a bootstrap asks for lie within the session's files.
use Rattle.std.specs.Prelude.{slice_get, flat_map}
use Rattle.std.specs.List.{AllByRecursion, range_with_len, enumerate_from}
use Rattle.std.proofs.Common.{◌≡◌, ℕ, zero, suc, ◌+◌, ◌-◌, ◌*◌, ◌/◌, ◌<◌, ◌≤◌, Some, List, [], ◌∷◌, map, length, refl, sym, ◌∙◌, ap, subst, arith}
use Rattle.std.proofs.Math.Nat.{div-zero, div-mul-le_self}
use Rattle.ccr_model.specs.Restores.{offsets_of, places_of}
use Rattle.ccr_law_messages.specs.Saying.{Setting, IsAsItOpened, IsPlaceOf}
use Rattle.ccr_law_base.proofs.Lists.{All-weaker, All-append, All-map}

-- a place of one of these files
pub record IsWithin (files : List (List ℕ)) (file offset : ℕ) : Type 0 where
  pub bytes : List ℕ
  pub is_file : slice_get files file ≡ Some bytes
  pub within : offset < length bytes

-- the size of one of these files
record IsSize (files : List (List ℕ)) (file size : ℕ) : Type 0 where
  pub bytes : List ℕ
  pub is_file : slice_get files file ≡ Some bytes
  pub same : size ≡ length bytes

sizes-of : (all files : List (List ℕ)) (k : ℕ) → ((i : ℕ) → slice_get all (k + i) ≡ slice_get files i)
    → AllByRecursion (λ (at : ℕ × ℕ). IsSize all at.0 at.1) (enumerate_from k (map {A = List ℕ} {B = ℕ} (λ file. length file) files))
sizes-of all [] k at = tt
sizes-of all (file ∷ files) k at = (
  record { bytes = file; is_file = ap (slice_get all) (omega arith) ∙ at 0; same = refl },
  sizes-of all files (k + 1) (λ i. ap (slice_get all) (omega arith) ∙ at (suc i)),
)

range-below : (from size : ℕ) → AllByRecursion (λ (n : ℕ). n < from + size) (range_with_len from size)
range-below from zero = tt
range-below from (suc size) = (omega arith, All-weaker (λ (n : ℕ). n < from + 1 + size) (λ (n : ℕ). n < from + suc size) (λ n less. omega arith) (range_with_len (from + 1) size) (range-below (from + 1) size))

-- so many whole parts are no more than all
parts-fit : (n q c most : ℕ) → n < q → q * c ≤ most → n * c + c ≤ most
parts-fit n q c most less fits =
    let rest : ℕ = q - (n + 1) in
    let split : q ≡ n + 1 + rest = omega arith in
    let spread : (n + 1 + rest) * c ≡ n * c + c + rest * c = omega arith in
    let same : q * c ≡ (n + 1 + rest) * c = ap (λ (x : ℕ). x * c) split in
    omega arith

offset-within : (c size n : ℕ) → n < (size + c - 1) / c → n * c < size
offset-within zero size n less = let none : (size + 0 - 1) / 0 ≡ 0 = div-zero (size + 0 - 1) in absurd (omega arith)
offset-within (suc c) size n less =
    let all : (size + suc c - 1) / suc c * suc c ≤ size + suc c - 1 = div-mul-le_self (size + suc c - 1) (suc c) in
    let fits : n * suc c + suc c ≤ size + suc c - 1 = parts-fit n ((size + suc c - 1) / suc c) (suc c) (size + suc c - 1) less all in
    omega arith

offsets-within : (c size : ℕ) → AllByRecursion (λ (offset : ℕ). offset < size) (offsets_of c size)
offsets-within c size =
    All-map (λ (offset : ℕ). offset < size) (λ (n : ℕ). n * c) (range_with_len 0 ((size + c - 1) / c))
    (All-weaker (λ (n : ℕ). n < 0 + (size + c - 1) / c) (λ (n : ℕ). n * c < size) (λ n less. offset-within c size n (omega arith)) (range_with_len 0 ((size + c - 1) / c)) (range-below 0 ((size + c - 1) / c)))

places-within : (files : List (List ℕ)) (c : ℕ) (sizes : List (ℕ × ℕ)) → AllByRecursion (λ (at : ℕ × ℕ). IsSize files at.0 at.1) sizes
    → AllByRecursion (λ (place : ℕ × ℕ). IsWithin files place.0 place.1) (flat_map {X = ℕ × ℕ} {A = ℕ × ℕ} (λ at. map {A = ℕ} {B = ℕ × ℕ} (λ offset. (at.0, offset)) (offsets_of c at.1)) sizes)
places-within files c [] all = tt
places-within files c (at ∷ sizes) all =
    All-append (λ (place : ℕ × ℕ). IsWithin files place.0 place.1) (map {A = ℕ} {B = ℕ × ℕ} (λ offset. (at.0, offset)) (offsets_of c at.1))
    (flat_map {X = ℕ × ℕ} {A = ℕ × ℕ} (λ at. map {A = ℕ} {B = ℕ × ℕ} (λ offset. (at.0, offset)) (offsets_of c at.1)) sizes)
    (All-map (λ (place : ℕ × ℕ). IsWithin files place.0 place.1) (λ (offset : ℕ). (at.0, offset)) (offsets_of c at.1)
    (All-weaker (λ (offset : ℕ). offset < at.1) (λ (offset : ℕ). IsWithin files at.0 offset)
    (λ offset less. record { bytes = all.0.bytes; is_file = all.0.is_file; within = (let same : at.1 ≡ length all.0.bytes = all.0.same in omega arith) }) (offsets_of c at.1) (offsets-within c at.1)))
    (places-within files c sizes all.1)

-- each part of a session that was opened so is a place of it
pub all-places : (e : Setting) (number : ℕ) (history : List ℕ) (count : ℕ) (sizes : List ℕ) (c : ℕ) → IsAsItOpened e number history count sizes
    → AllByRecursion (λ (place : ℕ × ℕ). IsPlaceOf e number place.0 place.1) (places_of c sizes)
all-places e number history count sizes c opened =
    All-weaker (λ (place : ℕ × ℕ). IsWithin opened.session.files place.0 place.1) (λ (place : ℕ × ℕ). IsPlaceOf e number place.0 place.1)
    (λ place within. record { session = opened.session; opened = opened.opened; bytes = within.bytes; is_file = within.is_file; within = within.within }) (places_of c sizes)
    (places-within opened.session.files c (enumerate_from 0 sizes)
    (subst (λ (ns : List ℕ). AllByRecursion (λ (at : ℕ × ℕ). IsSize opened.session.files at.0 at.1) (enumerate_from 0 ns)) (sym opened.same_sizes)
    (sizes-of opened.session.files opened.session.files 0 (λ i. ap (slice_get opened.session.files) (omega arith)))))
