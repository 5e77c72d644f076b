use Rattle.std.proofs.Common.{◌≡◌, ◌≤◌, ◌-◌, ◌^◌, min, drop}
use Rattle.ccr_script.specs.Amounts.{number_after}
use Rattle.ccr_script.proofs.amounts.number_of_digits.Given as goal

abbrev pub invariant-loop-digit : goal.invariant-loop-digit
invariant-loop-digit l =
    (l.number ≤ 18446744073709551615) × (min 18446744073709551615 (number_after l.number (drop l.digit-index l.digits)) ≡ min 18446744073709551615 (number_after 0 l.digits))
