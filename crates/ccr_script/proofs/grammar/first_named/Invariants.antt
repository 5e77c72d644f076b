use Rattle.std.proofs.Common.{◌≡◌, drop}
use Rattle.ccr_script.specs.Grammar.{first_named}
use Rattle.ccr_script.proofs.grammar.first_named.Given as goal

abbrev pub invariant-loop-op : goal.invariant-loop-op
invariant-loop-op l = first_named l.text l.ops ≡ first_named l.text (drop l.op-index l.ops)
