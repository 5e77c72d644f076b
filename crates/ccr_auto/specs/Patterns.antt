use Rattle.std.specs.Prelude.{◌≡◌, ◌≢◌, ℕ, Bool, true, false, ◌&&◌, ◌||◌, ◌==◌, List, [], ◌∷◌, ◌++◌, length, take, drop, All, Option, Some, None, if◌then◌else◌}
use Rattle.std.specs.Str.{bytes_eq}
use Rattle.std.proofs.Common.{◌⊎◌}

-- A name matches a pattern where both are empty, where their first bytes are equal and the rests match,
-- or where the pattern begins with `*`, which stands for some front of the name, and the rests match.
abbrev pub Matches : List ℕ → List ℕ → Type 0
Matches [] name = name ≡ []
Matches (c ∷ pattern) name =
    ((rest : List ℕ) × (name ≡ c ∷ rest) × Matches pattern rest)
    ⊎ ((c ≡ 42) × (front : List ℕ) × (rest : List ℕ) × (name ≡ front ++ rest) × Matches pattern rest)

-- some end of the name passes, be it all or nothing of it
abbrev pub some_end : (List ℕ → Bool) → List ℕ → Bool
some_end test [] = test []
some_end test (x ∷ name) = test (x ∷ name) || some_end test name

-- the first byte is this one, and the rest passes
abbrev pub begins_with : ℕ → (List ℕ → Bool) → List ℕ → Bool
begins_with c test [] = false
begins_with c test (x ∷ name) = (x == c) && test name

abbrev pub is_empty : List ℕ → Bool
is_empty [] = true
is_empty (x ∷ name) = false

-- the relation `Matches` as a test
abbrev pub is_match : List ℕ → List ℕ → Bool
is_match [] name = is_empty name
is_match (c ∷ pattern) name = begins_with c (is_match pattern) name || ((c == 42) && some_end (is_match pattern) name)

-- no byte is a `*`
abbrev pub HasNoStar : List ℕ → Type 0
HasNoStar pattern = All (λ c. c ≢ 42) pattern

-- the name begins with this piece
abbrev pub has_front : List ℕ → List ℕ → Bool
has_front piece name = bytes_eq (take (length piece) name) piece

-- what comes after the leftmost place of a piece
abbrev pub after_piece : List ℕ → List ℕ → Option (List ℕ)
after_piece piece [] = if has_front piece [] then Some (drop (length piece) []) else None
after_piece piece (x ∷ name) = if has_front piece (x ∷ name) then Some (drop (length piece) (x ∷ name)) else after_piece piece name
