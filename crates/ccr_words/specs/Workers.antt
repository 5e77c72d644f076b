-- How many workers the words of the program ask for.
use Rattle.std.specs.Prelude.{ℕ, ◌==◌, ◌&&◌, nat_lt, nat_le, if◌then◌else◌, Bool, List, [], ◌∷◌, Option, Some, None, codes}
use Rattle.std.specs.List.{before_first, after_first}
use Rattle.std.specs.Str.{bytes_eq}
use Rattle.ccr_words.specs.Numbers.{number_in}

-- 1 to 64 workers
abbrev pub crew_of : Option ℕ → Option ℕ
crew_of None = None
crew_of (Some workers) = if nat_lt 0 workers && nat_le workers 64 then Some workers else None

abbrev pub is_equals_sign : ℕ → Bool
is_equals_sign byte = byte == 61

-- behind `run`, the words `--workers N`
abbrev pub apart : List ℕ → List ℕ → Option ℕ
apart flag number = if bytes_eq flag (codes "--workers") then crew_of (number_in number) else None

-- behind the program's own name, the words `run --workers N` or `run --workers=N`
abbrev pub workers_of : List (List ℕ) → Option ℕ
workers_of (op ∷ word ∷ []) = if bytes_eq op (codes "run") then apart (before_first is_equals_sign word) (after_first is_equals_sign word) else None
workers_of (op ∷ flag ∷ number ∷ []) = if bytes_eq op (codes "run") then apart flag number else None
workers_of _ = None
