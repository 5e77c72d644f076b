-- The bytes of a file, part by part.
use Rattle.std.specs.List.{AllByRecursion, range_with_len}
use Rattle.std.specs.Prelude.{flat_map}
use Rattle.std.proofs.Common.{◌≡◌, ℕ, zero, suc, ◌+◌, ◌-◌, ◌*◌, ◌<◌, ◌≤◌, Some, List, [], ◌∷◌, ◌++◌, map, length, get_or, sym, ◌∙◌, ap, subst, append_assoc, arith}
use Rattle.std.proofs.lemmas.List.{append-nil}
use Rattle.std.proofs.lemmas.List.Concat.{flat_map-cons}
use Rattle.std.proofs.lemmas.List.Folds.{flat_map-map}
use Rattle.std.proofs.lemmas.Option.{slice_get-get_or}
use Rattle.ccr_op.specs.Operation.{Operation}
use Rattle.ccr_model.specs.Restores.{Fetch, offsets_of, bytes_at, file_bytes}
use Rattle.ccr_law_base.proofs.FileParts.{places_at}
use Rattle.ccr_restore.specs.Places.{parts_in}

-- the parts of a file, joined, are its bytes
pub file-is : (chunk_size : ℕ) (f : Fetch) (file size : ℕ) → file < length f.sizes → size ≡ get_or f.sizes file 0
    → flat_map {X = ℕ} {A = ℕ} (λ n. bytes_at f.chunks (file, n * chunk_size)) (range_with_len 0 (parts_in chunk_size size)) ≡ file_bytes chunk_size f file
file-is chunk_size f file size lt is =
    sym (ap (flat_map {X = ℕ × ℕ} {A = ℕ} (bytes_at f.chunks)) (places_at chunk_size 0 file size f.sizes (slice_get-get_or f.sizes file 0 lt ∙ ap (λ (n : ℕ). Some n) (sym is)) file (omega arith))
    ∙ (flat_map-map (bytes_at f.chunks) (λ (offset : ℕ). (file, offset)) (offsets_of chunk_size size)
    ∙ flat_map-map (λ (offset : ℕ). bytes_at f.chunks (file, offset)) (λ (n : ℕ). n * chunk_size) (range_with_len 0 (parts_in chunk_size size))))

-- ---- loops over a range

pub range-turn : (g : ℕ → List ℕ) (n i : ℕ) (bytes more total : List ℕ) → i < n → more ≡ bytes ++ g i → bytes ++ flat_map {X = ℕ} {A = ℕ} g (range_with_len i (n - i)) ≡ total
    → more ++ flat_map {X = ℕ} {A = ℕ} g (range_with_len (i + 1) (n - (i + 1))) ≡ total
range-turn g n i bytes more total lt grown before =
    ap (λ (xs : List ℕ). xs ++ flat_map {X = ℕ} {A = ℕ} g (range_with_len (i + 1) (n - (i + 1)))) grown
    ∙ (append_assoc bytes (g i) (flat_map {X = ℕ} {A = ℕ} g (range_with_len (i + 1) (n - (i + 1))))
    ∙ (ap (λ (xs : List ℕ). bytes ++ xs) (sym (ap (λ (k : ℕ). flat_map {X = ℕ} {A = ℕ} g (range_with_len i k)) one_more ∙ flat_map-cons {X = ℕ} {A = ℕ} g i (range_with_len (i + 1) (n - (i + 1))))) ∙ before))
  where
    one_more : n - i ≡ suc (n - (i + 1))
    one_more = omega arith

pub files-turn : (g : ℕ → List Operation) (n i : ℕ) (files more total : List (List Operation)) → i < n → more ≡ files ++ g i ∷ [] → files ++ map {A = ℕ} {B = List Operation} g (range_with_len i (n - i)) ≡ total
    → more ++ map {A = ℕ} {B = List Operation} g (range_with_len (i + 1) (n - (i + 1))) ≡ total
files-turn g n i files more total lt grown before =
    ap (λ (xs : List (List Operation)). xs ++ map {A = ℕ} {B = List Operation} g (range_with_len (i + 1) (n - (i + 1)))) grown
    ∙ (append_assoc files (g i ∷ []) (map {A = ℕ} {B = List Operation} g (range_with_len (i + 1) (n - (i + 1))))
    ∙ (ap (λ (xs : List (List Operation)). files ++ xs) (sym (ap (λ (k : ℕ). map {A = ℕ} {B = List Operation} g (range_with_len i k)) one_more)) ∙ before))
  where
    one_more : n - i ≡ suc (n - (i + 1))
    one_more = omega arith

-- what holds along a range holds at each of its numbers
pub in_range : (P : ℕ → Type 0) (from n k : ℕ) → AllByRecursion P (range_with_len from n) → k < n → P (from + k)
in_range P from zero k all lt = absurd (omega arith)
in_range P from (suc n) zero all lt = let same : from ≡ from + 0 = omega arith in subst P same all.0
in_range P from (suc n) (suc k) all lt = let same : from + 1 + k ≡ from + suc k = omega arith in subst P same (in_range P (from + 1) n k all.1 (omega arith))
