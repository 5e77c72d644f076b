-- The requests for parts that are outstanding.
use Rattle.std.specs.Prelude.{ℕ, ◌+◌, ◌==◌, min, if◌then◌else◌, List, [], ◌∷◌, Option, Some, None}
use Rattle.std.specs.Option.{option_map_or}
use Rattle.ccr_model.specs.Restores.{ChunkAsked}

-- the place of the first request of a number, or how many there are
abbrev pub first_of : ℕ → List ChunkAsked → ℕ
first_of request [] = 0
first_of request (a ∷ asks) = if a.request == request then 0 else first_of request asks + 1

-- the lesser of two times, of which either may be missing
abbrev pub earlier : Option ℕ → Option ℕ → Option ℕ
earlier None other = other
earlier (Some n) other = Some (option_map_or (λ m. min n m) other n)
