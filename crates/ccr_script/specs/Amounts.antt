-- Plain numbers, sizes and times. They have no bound here.
use Rattle.std.specs.Prelude.{ℕ, ◌+◌, ◌-◌, ◌*◌, ◌==◌, ◌&&◌, Bool, nat_le, if◌then◌else◌, List, [], ◌∷◌, take, drop, codes, Option, Some, None, option_map, option_and_then}
use Rattle.std.specs.Str.{bytes_eq}
use Rattle.serde_json.specs.Data.{Data}
use Rattle.serde_json.specs.Find.{as_str, as_number, as_u64}
use Rattle.ccr_script.specs.declared.amounts.Unit.{Unit}
use Rattle.ccr_script.specs.declared.amounts.Unit.TheVariants.{Count, Size, Time}

abbrev pub is_digit : ℕ → Bool
is_digit b = nat_le 48 b && nat_le b 57

-- how many digits a text begins with
abbrev pub digit_count : List ℕ → ℕ
digit_count [] = 0
digit_count (b ∷ bs) = if is_digit b then digit_count bs + 1 else 0

-- the number that goes on with these digits
abbrev pub number_after : ℕ → List ℕ → ℕ
number_after n [] = n
number_after n (b ∷ bs) = number_after (n * 10 + (b - 48)) bs

-- bytes
unfoldable pub size_factor : List ℕ → Option ℕ
size_factor name =
    if bytes_eq name (codes "b") then Some 1
    else (if bytes_eq name (codes "kb") then Some 1024
    else (if bytes_eq name (codes "mb") then Some 1048576
    else (if bytes_eq name (codes "gb") then Some 1073741824
    else None)))

-- milliseconds
unfoldable pub time_factor : List ℕ → Option ℕ
time_factor name =
    if bytes_eq name (codes "ms") then Some 1
    else (if bytes_eq name (codes "s") then Some 1000
    else (if bytes_eq name (codes "m") then Some 60000
    else (if bytes_eq name (codes "h") then Some 3600000
    else (if bytes_eq name (codes "d") then Some 86400000
    else None))))

unfoldable pub factor_of : Unit → List ℕ → Option ℕ
factor_of Count name = None
factor_of Size name = size_factor name
factor_of Time name = time_factor name

-- digits and a unit
abbrev pub amount_of_text : Unit → List ℕ → Option ℕ
amount_of_text unit text =
    if digit_count text == 0 then None
    else option_map (λ f. number_after 0 (take (digit_count text) text) * f) (factor_of unit (drop (digit_count text) text))

abbrev pub amount_from : Unit → Option ℕ → Option (List ℕ) → Option ℕ
amount_from unit (Some n) text = Some n
amount_from unit None text = option_and_then (amount_of_text unit) text

-- a whole number, or a text of digits and a unit
abbrev pub amount_of : Unit → Data → Option ℕ
amount_of unit d = amount_from unit (option_and_then as_u64 (as_number d)) (as_str d)
