-- Where the parts stand, by their places.
use Rattle.std.specs.Prelude.{◌≡◌, ℕ, List, Option, ◌==◌, ◌&&◌, Bool}
use Rattle.std.specs.List.{position_from}
use Rattle.std.specs.Ordering.{nat_cmp, ordering_then}
use Rattle.std.specs.declared.cmp.Ordering.{Ordering}
use Rattle.std.specs.Map.{lookup}
use Rattle.std.specs.BTreeMap.{is_at}
use Rattle.ccr_model.specs.Restores.{Chunk}

-- the order of places
abbrev pub place_cmp : ℕ × ℕ → ℕ × ℕ → Ordering
place_cmp x y = ordering_then (nat_cmp x.0 y.0) (nat_cmp x.1 y.1)

abbrev pub is_part_at : ℕ × ℕ → Chunk → Bool
is_part_at place c = (c.file == place.0) && (c.offset == place.1)

-- what the index has for a place
abbrev pub place_in : List ((ℕ × ℕ) × ℕ) → ℕ × ℕ → Option ℕ
place_in index place = lookup (is_at (place_cmp place)) index

-- the index leads to the first part of each place, and to none where there is none
abbrev pub IsIndex : List Chunk → List ((ℕ × ℕ) × ℕ) → Type 0
IsIndex parts index = (place : ℕ × ℕ) → place_in index place ≡ position_from (is_part_at place) 0 parts
