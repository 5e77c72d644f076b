-- A walk over the parts of a session's files, in order of file and offset.
use Rattle.std.specs.Prelude.{◌≡◌, ℕ, ◌+◌, ◌-◌, ◌*◌, ◌/◌, ◌<◌, ◌≤◌, ◌^◌, List, [], ◌∷◌, ◌++◌, length, drop, map, flat_map, slice_get, Some}
use Rattle.std.specs.List.{range_with_len, enumerate_from}
use Rattle.ccr_journal.specs.Params.{IsFrom1Below}
use Rattle.ccr_model.specs.Restores.{offsets_of, places_of}

-- the greatest size of a part, the sizes of the files, and how many parts were passed
pub record Walk : Type 0 where
  pub chunk_size : ℕ
  pub sizes : List ℕ
  pub asked : ℕ

-- where its parts begin
abbrev pub all_places : Walk → List (ℕ × ℕ)
all_places w = places_of w.chunk_size w.sizes

-- where the parts begin that were not passed
abbrev pub places_left : Walk → List (ℕ × ℕ)
places_left w = drop w.asked (all_places w)

-- how many parts a file of this size has
abbrev pub parts_in : ℕ → ℕ → ℕ
parts_in chunk_size size = (size + chunk_size - 1) / chunk_size

-- the parts of a file from this one on
abbrev pub parts_from : ℕ → ℕ → ℕ → ℕ → List (ℕ × ℕ)
parts_from chunk_size file part size =
    map {A = ℕ} {B = ℕ × ℕ} (λ offset. (file, offset)) (map {A = ℕ} {B = ℕ} (λ n. n * chunk_size) (range_with_len part (parts_in chunk_size size - part)))

-- the parts of the files from this number on
abbrev pub places_from : ℕ → ℕ → List ℕ → List (ℕ × ℕ)
places_from chunk_size file sizes =
    flat_map {X = ℕ × ℕ} {A = ℕ × ℕ} (λ at. map {A = ℕ} {B = ℕ × ℕ} (λ offset. (at.0, offset)) (offsets_of chunk_size at.1)) (enumerate_from file sizes)

-- the parts from a part of a file on, where these are the sizes from that file on
abbrev pub left_from : ℕ → ℕ → ℕ → List ℕ → List (ℕ × ℕ)
left_from chunk_size file part [] = []
left_from chunk_size file part (size ∷ sizes) = parts_from chunk_size file part size ++ places_from chunk_size (file + 1) sizes

-- the next part is this one of this file, or the files are at their end
pub record IsAt (chunk_size : ℕ) (sizes : List ℕ) (asked file part : ℕ) : Type 0 where
  pub chunk : IsFrom1Below (2 ^ 24 + 1) chunk_size
  pub few : length sizes < 2 ^ 32
  pub within : file ≤ length sizes
  pub there : (size : ℕ) → slice_get sizes file ≡ Some size → part < parts_in chunk_size size
  pub passed : asked ≤ length (places_of chunk_size sizes)
  pub left : left_from chunk_size file part (drop file sizes) ≡ drop asked (places_of chunk_size sizes)
