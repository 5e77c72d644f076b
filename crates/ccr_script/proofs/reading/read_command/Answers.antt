use Rattle.std.proofs.Common.{◌≡◌, Some, true, false, rules, tests}
use Rattle.serde_json.specs.View.{view}
use Rattle.ccr_script.specs.Checking.{has_fields}
use Rattle.ccr_script.specs.Commands.{is_blank, op_in}
use Rattle.ccr_script.specs.Grammar.{fields_of}
use Rattle.ccr_script.proofs.Made.{no_fault}
use Rattle.ccr_script.proofs.reading.read_command.Goals as goal

pub returns-clause-no_fault : goal.returns-clause-no_fault
returns-clause-no_fault c =
    let d = view c.in_ok-value.value in
    let some : is_blank c.args.line.now ≡ false = search rules in
    let named : op_in d ≡ Some c.in-Some.op = search rules in
    let fits : has_fields (fields_of c.in-Some.op) d ≡ true = search (rules, tests) in
    no_fault c.args.line.now d c.in-Some.op c.in_ok-command.command some c.in_ok-value.ensures.ok named fits c.in_ok-command.ensures.ok
