-- Where the parts of files begin: those of one file among those of all.
use Rattle.std.specs.List.{enumerate_from}
use Rattle.std.specs.Prelude.{filter, flat_map, slice_get}
use Rattle.std.proofs.Common.{◌≡◌, ℕ, zero, suc, ◌+◌, ◌<◌, ◌==◌, Bool, true, false, if◌then◌else◌, Some, List, [], ◌∷◌, ◌++◌, map, refl, ◌∙◌, ap, arith}
use Rattle.std.proofs.lemmas.Bool.Decides.{nat_tests}
use Rattle.std.proofs.lemmas.List.{append-nil}
use Rattle.std.proofs.lemmas.List.Concat.{flat_map-cons}
use Rattle.std.proofs.lemmas.List.Elements.{filter-append}
use Rattle.ccr_model.specs.Restores.{offsets_of}
use Rattle.ccr_law_base.proofs.Lists.{some_equal}

-- the parts of the files from this number on
abbrev pub places_from : ℕ → ℕ → List ℕ → List (ℕ × ℕ)
places_from size file sizes =
    flat_map {X = ℕ × ℕ} {A = ℕ × ℕ} (λ at. map {A = ℕ} {B = ℕ × ℕ} (λ offset. (at.0, offset)) (offsets_of size at.1)) (enumerate_from file sizes)

abbrev pub is_of : ℕ → ℕ × ℕ → Bool
is_of file place = place.0 == file

filter_own : (file : ℕ) (offsets : List ℕ) → filter (is_of file) (map {A = ℕ} {B = ℕ × ℕ} (λ offset. (file, offset)) offsets) ≡ map {A = ℕ} {B = ℕ × ℕ} (λ offset. (file, offset)) offsets
filter_own file [] = refl
filter_own file (o ∷ offsets) =
    let is : (file == file) ≡ true = grind (arith, nat_tests) in
    ap (λ (b : Bool). if b then (file, o) ∷ filter (is_of file) (map {A = ℕ} {B = ℕ × ℕ} (λ offset. (file, offset)) offsets)
    else filter (is_of file) (map {A = ℕ} {B = ℕ × ℕ} (λ offset. (file, offset)) offsets)) is
    ∙ ap (λ (ps : List (ℕ × ℕ)). (file, o) ∷ ps) (filter_own file offsets)

filter_other : (file own : ℕ) (offsets : List ℕ) → (own == file) ≡ false → filter (is_of file) (map {A = ℕ} {B = ℕ × ℕ} (λ offset. (own, offset)) offsets) ≡ []
filter_other file own [] isnt = refl
filter_other file own (o ∷ offsets) isnt =
    ap (λ (b : Bool). if b then (own, o) ∷ filter (is_of file) (map {A = ℕ} {B = ℕ × ℕ} (λ offset. (own, offset)) offsets)
    else filter (is_of file) (map {A = ℕ} {B = ℕ × ℕ} (λ offset. (own, offset)) offsets)) isnt
    ∙ filter_other file own offsets isnt

places-cons : (size file n : ℕ) (sizes : List ℕ)
    → places_from size file (n ∷ sizes) ≡ map {A = ℕ} {B = ℕ × ℕ} (λ offset. (file, offset)) (offsets_of size n) ++ places_from size (file + 1) sizes
places-cons size file n sizes =
    flat_map-cons {X = ℕ × ℕ} {A = ℕ × ℕ} (λ at. map {A = ℕ} {B = ℕ × ℕ} (λ offset. (at.0, offset)) (offsets_of size at.1)) (file, n) (enumerate_from (file + 1) sizes)

places_below : (size file from : ℕ) (sizes : List ℕ) → file < from → filter (is_of file) (places_from size from sizes) ≡ []
places_below size file from [] less = refl
places_below size file from (n ∷ sizes) less =
    let isnt : (from == file) ≡ false = grind (arith, nat_tests) in
    ap (filter (is_of file)) (places-cons size from n sizes)
    ∙ (filter-append (is_of file) (map {A = ℕ} {B = ℕ × ℕ} (λ offset. (from, offset)) (offsets_of size n)) (places_from size (from + 1) sizes)
    ∙ (ap (λ (ps : List (ℕ × ℕ)). ps ++ filter (is_of file) (places_from size (from + 1) sizes)) (filter_other file from (offsets_of size n) isnt)
    ∙ places_below size file (from + 1) sizes (omega arith)))

pub places_at : (size from k n : ℕ) (sizes : List ℕ) → slice_get sizes k ≡ Some n
    → (file : ℕ) → file ≡ from + k → filter (is_of file) (places_from size from sizes) ≡ map {A = ℕ} {B = ℕ × ℕ} (λ offset. (file, offset)) (offsets_of size n)
places_at size from k n [] at file is = cc
places_at size from zero n (m ∷ sizes) at file is =
    let same : from ≡ file = omega arith in
    let own : m ≡ n = some_equal m n at in
    ap (filter (is_of file)) (places-cons size from m sizes)
    ∙ (filter-append (is_of file) (map {A = ℕ} {B = ℕ × ℕ} (λ offset. (from, offset)) (offsets_of size m)) (places_from size (from + 1) sizes)
    ∙ (ap (λ (ps : List (ℕ × ℕ)). filter (is_of file) (map {A = ℕ} {B = ℕ × ℕ} (λ offset. (from, offset)) (offsets_of size m)) ++ ps) (places_below size file (from + 1) sizes (omega arith))
    ∙ (append-nil (filter (is_of file) (map {A = ℕ} {B = ℕ × ℕ} (λ offset. (from, offset)) (offsets_of size m)))
    ∙ (ap (λ (i : ℕ). filter (is_of file) (map {A = ℕ} {B = ℕ × ℕ} (λ offset. (i, offset)) (offsets_of size m))) same
    ∙ (filter_own file (offsets_of size m) ∙ ap (λ (i : ℕ). map {A = ℕ} {B = ℕ × ℕ} (λ offset. (file, offset)) (offsets_of size i)) own)))))
places_at size from (suc k) n (m ∷ sizes) at file is =
    let isnt : (from == file) ≡ false = grind (arith, nat_tests) in
    ap (filter (is_of file)) (places-cons size from m sizes)
    ∙ (filter-append (is_of file) (map {A = ℕ} {B = ℕ × ℕ} (λ offset. (from, offset)) (offsets_of size m)) (places_from size (from + 1) sizes)
    ∙ (ap (λ (ps : List (ℕ × ℕ)). ps ++ filter (is_of file) (places_from size (from + 1) sizes)) (filter_other file from (offsets_of size m) isnt)
    ∙ places_at size (from + 1) k n sizes at file (omega arith)))
