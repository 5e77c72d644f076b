use Rattle.std.proofs.Common.{◌≡◌, sym, ◌∙◌, refl, arith, get_or}
use Rattle.ccr_script.proofs.Digits.{number_more, number_all}
use Rattle.ccr_script.proofs.amounts.number_of_digits.Goals as goal

pub loop-digit-preserved : goal.loop-digit-preserved
loop-digit-preserved c =
    let next = c.next_number-number.ensures in
    (omega (arith, next), rw next (number_more 18446744073709551615 c.loop-digit.number c.args.digits.now c.loop-digit.digit-index (get_or c.args.digits.now c.loop-digit.digit-index 0) (omega arith) refl ∙ c.loop-digit.invariant.1))

pub returns : goal.returns
returns c =
    let small = c.loop-digit.invariant.0 in
    sym (number_all 18446744073709551615 c.loop-digit.number c.args.digits.now c.loop-digit.digit-index (omega arith) small) ∙ c.loop-digit.invariant.1
