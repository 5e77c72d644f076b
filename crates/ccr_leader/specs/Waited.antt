-- The leases that requests wait for.
use Rattle.std.specs.Prelude.{◌≡◌, ℕ, Bool, true, List}
use Rattle.std.specs.List.{AllByRecursion, list_any}
use Rattle.std.specs.Str.{bytes_eq}

-- the list has the id
abbrev pub has_id : List (List ℕ) → List ℕ → Bool
has_id ids id = list_any (λ other. bytes_eq other id) ids

-- the list has the id of each
abbrev pub HasEach : {K : Type 0} → (K → List ℕ) → List (List ℕ) → List K → Type 0
HasEach {K} id_of ids ks = AllByRecursion (λ (k : K). has_id ids (id_of k) ≡ true) ks
