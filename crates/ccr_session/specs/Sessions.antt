use Rattle.std.specs.Prelude.{ℕ, ◌≡◌, ◌<◌, List}
use Rattle.std.specs.List.{AllByRecursion}
use Rattle.ccr_model.specs.Leaders.{Session}

-- the open sessions in order of their numbers, and the number that the next one gets
pub record Sessions : Type 0 where
  pub next : ℕ
  pub sessions : List Session

-- each session stands under its number, and the next number is above it
abbrev pub AreNumbered : ℕ → List (ℕ × Session) → Type 0
AreNumbered next entries = AllByRecursion (λ entry. (entry.1.number ≡ entry.0) × (entry.0 < next)) entries
