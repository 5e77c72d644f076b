use Rattle.std.proofs.Common.{◌≡◌}
use Rattle.serde_json.specs.View.{view, members_view}
use Rattle.ccr_script.specs.Settings.{members_known, are_members_known}
use Rattle.ccr_script.proofs.settings.are_members_known.Given as goal

abbrev pub invariant-loop-name : goal.invariant-loop-name
invariant-loop-name l = members_known l.settings l.truths (members_view l.name-iterator) ≡ are_members_known l.settings l.truths (view l.object)
