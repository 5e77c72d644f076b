use Rattle.std.proofs.Common.{◌≡◌}
use Rattle.serde_json.specs.View.{view, members_view}
use Rattle.ccr_script.specs.Checking.{members_fit, all_members_fit}
use Rattle.ccr_script.proofs.checking.all_fit.Given as goal

abbrev pub invariant-loop-name : goal.invariant-loop-name
invariant-loop-name l = members_fit l.fields.needed.now l.fields.allowed.now (members_view l.name-iterator) ≡ all_members_fit l.fields.needed.now l.fields.allowed.now (view l.value)
