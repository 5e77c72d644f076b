-- The words of a text.
use Rattle.std.specs.Prelude.{ℕ, List, length, map, filter, Bool, not, ◌||◌, ◌==◌, nat_le}
use Rattle.std.specs.Char.{is_ascii_alphanumeric}
use Rattle.std.specs.List.{slice_split, list_any}
use Rattle.std.specs.Str.{str_to_ascii_lowercase, bytes_eq}

-- a byte of an ASCII letter, an ASCII digit or a character past ASCII
abbrev pub is_word_byte : ℕ → Bool
is_word_byte byte = is_ascii_alphanumeric byte || nat_le 128 byte

-- the longest runs of what passes, in order
abbrev pub runs_of : (ℕ → Bool) → List ℕ → List (List ℕ)
runs_of passes text = filter (λ run. not (length run == 0)) (slice_split (λ byte. not (passes byte)) text)

abbrev pub tokens_of : List ℕ → List (List ℕ)
tokens_of text = map str_to_ascii_lowercase (runs_of is_word_byte text)

abbrev pub have_common_token : List ℕ → List ℕ → Bool
have_common_token left right = list_any (λ token. list_any (bytes_eq token) (tokens_of right)) (tokens_of left)
