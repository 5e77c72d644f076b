-- Numbers in words.
use Rattle.std.specs.Prelude.{ℕ, ◌&&◌, nat_lt, nat_le, if◌then◌else◌, Bool, List, length, Option, Some, None}
use Rattle.std.specs.Char.{is_ascii_digit}
use Rattle.std.specs.List.{list_all}
use Rattle.std.specs.Str.Parse.{digits_value}

-- 1 to 9 decimal digits
abbrev pub is_number : List ℕ → Bool
is_number word = (nat_lt 0 (length word) && nat_le (length word) 9) && list_all is_ascii_digit word

-- the number that they write
abbrev pub number_in : List ℕ → Option ℕ
number_in word = if is_number word then Some (digits_value 10 word) else None
