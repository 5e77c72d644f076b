use Rattle.std.proofs.Common.{◌^◌, ◌<◌, arith}
use Rattle.ccr_policy.proofs.Digits.{digits_are}
use Rattle.ccr_policy.proofs.binary_digits.Goals as goal

pub returns-clause-fits : goal.returns-clause-fits
returns-clause-fits c = let small : c.args.ops < 2 ^ 64 = omega arith in (digits_are c.args.ops small).fits

pub returns-clause-least : goal.returns-clause-least
returns-clause-least c = let small : c.args.ops < 2 ^ 64 = omega arith in (digits_are c.args.ops small).least
