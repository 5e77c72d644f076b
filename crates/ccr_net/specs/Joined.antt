use Rattle.std.specs.Prelude.{ℕ, ◌+◌, ◌-◌, ◌<◌, ◌≤◌, ◌≡◌, List, [], ◌∷◌, ◌++◌, length, take, slice_index_or}

-- the frames of all chunks, in order
abbrev pub joined : {A : Type 0} → List (List A) → List A
joined [] = []
joined (chunk ∷ chunks) = chunk ++ joined chunks

-- the frame at `at` of all is the one at `offset` of this chunk
pub record IsPlace {A : Type 0} (chunks : List (List A)) (at chunk offset : ℕ) : Type 0 where
  pub is_there : chunk < length chunks
  pub within : offset < length (slice_index_or chunks chunk [])
  pub counts : length (joined (take chunk chunks)) + offset ≡ at

-- there is a next chunk, and one of 256 frames takes in both
abbrev pub FitsWithNext : {A : Type 0} → List (List A) → ℕ → Type 0
FitsWithNext chunks i = (i + 1 < length chunks) × (length (slice_index_or chunks i []) + length (slice_index_or chunks (i + 1) []) ≤ 256)

-- there is a last chunk, and it has fewer than 256 frames
abbrev pub LastHasRoom : {A : Type 0} → List (List A) → Type 0
LastHasRoom chunks = (0 < length chunks) × (length (slice_index_or chunks (length chunks - 1) []) < 256)

-- no chunk fits with its next one
abbrev pub AreApart : {A : Type 0} → List (List A) → Type 0
AreApart chunks = (i : ℕ) → FitsWithNext chunks i → ⊥

-- no chunk does but the one at `index` and the one before it
abbrev pub AreApartBeside : {A : Type 0} → ℕ → List (List A) → Type 0
AreApartBeside index chunks = (i : ℕ) → FitsWithNext chunks i → (i ≤ index) × (index ≤ i + 1)

-- no chunk of `after` does but the one before `index`, where it did already
abbrev pub AreApartBefore : {A : Type 0} → ℕ → List (List A) → List (List A) → Type 0
AreApartBefore index before after = (i : ℕ) → FitsWithNext after i → (i + 1 ≡ index) × FitsWithNext before i
