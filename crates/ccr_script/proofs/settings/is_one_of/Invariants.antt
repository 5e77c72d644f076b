use Rattle.std.proofs.Common.{◌≡◌, drop}
use Rattle.serde_json.specs.View.{view}
use Rattle.ccr_script.specs.Settings.{is_one_of}
use Rattle.ccr_script.proofs.settings.is_one_of.Given as goal

abbrev pub invariant-loop-setting : goal.invariant-loop-setting
invariant-loop-setting l = is_one_of l.settings l.name (view l.value) ≡ is_one_of (drop l.setting-index l.settings) l.name (view l.value)
