use Rattle.std.proofs.Common.{◌≡◌, drop}
use Rattle.serde_json.specs.View.{view}
use Rattle.ccr_script.specs.Checking.{fits_one}
use Rattle.ccr_script.proofs.checking.fits_one.Given as goal

abbrev pub invariant-loop-field : goal.invariant-loop-field
invariant-loop-field l = fits_one l.fields l.name (view l.value) ≡ fits_one (drop l.field-index l.fields) l.name (view l.value)
