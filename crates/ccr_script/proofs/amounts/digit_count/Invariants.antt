use Rattle.std.proofs.Common.{◌≡◌, ◌+◌, drop}
use Rattle.ccr_script.specs.Amounts.{digit_count}
use Rattle.ccr_script.proofs.amounts.digit_count.Given as goal

abbrev pub invariant-loop-byte : goal.invariant-loop-byte
invariant-loop-byte l = (l.count ≡ l.byte-index) × (digit_count l.bytes ≡ l.count + digit_count (drop l.byte-index l.bytes))
