-- What the words of the program ask for, where one thread does it.
use Rattle.std.specs.Prelude.{ℕ, nat_le, if◌then◌else◌, List, [], ◌∷◌, Option, Some, None, codes}
use Rattle.std.specs.Str.{bytes_eq}
use Rattle.ccr_words.specs.Numbers.{number_in}
use Rattle.ccr_words.specs.declared.forms.Form.{Form}
use Rattle.ccr_words.specs.declared.forms.Form.TheVariants.{Replay, Sample}

-- a seed and a number of writes, of which there are at most 200,000
abbrev pub sample_of : Option ℕ → Option ℕ → Option Form
sample_of None writes = None
sample_of (Some seed) None = None
sample_of (Some seed) (Some writes) = if nat_le writes 200000 then Some (Sample seed writes) else None

-- the form of the words, behind the program's own name: `replay`, or `sample SEED WRITES`
abbrev pub form_of : List (List ℕ) → Option Form
form_of (op ∷ []) = if bytes_eq op (codes "replay") then Some Replay else None
form_of (op ∷ seed ∷ writes ∷ []) = if bytes_eq op (codes "sample") then sample_of (number_in seed) (number_in writes) else None
form_of _ = None
