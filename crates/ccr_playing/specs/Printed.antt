use Rattle.std.specs.Prelude.{ℕ, List, [], ◌++◌, codes, decimal}
use Rattle.ccr_script.specs.declared.bad_lines.BadLine.{BadLine}
use Rattle.ccr_script.specs.declared.bad_lines.BadLine.TheVariants.{NotJson, NoOp, BadField, TooLong, TooMany, Memory}

-- what is printed for a line that ends a run; want of memory has no answer
abbrev pub bad_text : BadLine → List ℕ
bad_text NotJson = codes "bad NotJson"
bad_text NoOp = codes "bad NoOp"
bad_text BadField = codes "bad BadField"
bad_text TooLong = codes "bad TooLong"
bad_text TooMany = codes "bad TooMany"
bad_text Memory = []

-- a whole line of output
abbrev pub line_of : ℕ → List ℕ → List ℕ
line_of number text = decimal number ++ codes " " ++ text ++ codes "\n"
