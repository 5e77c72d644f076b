-- a script without a fault is done to its end, where its source and its sink don't fail and memory suffices
use Rattle.std.proofs.Common.{◌≡◌, ℕ, ◌+◌, List, refl, sym, ◌∙◌, arith}
use Rattle.std.specs.Prelude.{◌⊎◌, Option, Some, None}
use mathlib.Core.Logic.{inl, inr}
use Rattle.ccr_script.specs.Commands.{AsksFor, fault_of}
use Rattle.ccr_script.specs.declared.bad_lines.BadLine.{BadLine}
use Rattle.ccr_journal.specs.declared.journals.Entry.{Entry}
use Rattle.ccr_plans.specs.Scenes.{Scene, Does, Begins}
use Rattle.ccr_playing.specs.Played.{PlayedToBad}
use Rattle.ccr_playing.specs.Script.{IsBadBehind}
use Rattle.ccr_playing.specs.declared.statuses.Status.{Status}
use Rattle.ccr_playing.specs.declared.statuses.Status.TheVariants as ends
use Rattle.ccr_playing.specs.Tells.{AreQuiet, AreTold, Tells}
use Rattle.ccr_worlds.specs.Fated.{Fate}
use Rattle.ccr_reports.specs.Faultless.{EndsWell, IsFaultless}
use Rattle.ccr_reports.specs.Reports.{Reported}

none_is_bad : (script : Option (List ℕ)) (lines : List (List ℕ)) (why : BadLine) → IsFaultless script → IsBadBehind fault_of script lines why → ⊥
none_is_bad None lines why faultless bad = faultless
none_is_bad (Some script) lines why faultless bad = let wrong : Some why ≡ None = sym bad.3 ∙ faultless lines bad.0 bad.1 bad.2 in absurd cc

ends_well : (status : Status) (script left : Option (List ℕ)) (before after : Scene) (old new : Option (List ℕ)) (reads reads' writes writes' : ℕ)
    → Tells AsksFor fault_of Does Begins status script left before after old new → AreTold status reads reads' writes writes' → IsFaultless script → AreQuiet reads reads' writes writes' → EndsWell status
ends_well ends.Done script left before after old new reads reads' writes writes' tells told faultless quiet = inl refl
ends_well (ends.BadLine line why) script left before after old new reads reads' writes writes' tells told faultless quiet = absurd (none_is_bad script tells.lines why faultless tells.bad)
ends_well ends.ReadFault script left before after old new reads reads' writes writes' tells told faultless quiet = absurd (omega (arith, told.0, quiet.0))
ends_well ends.WriteFault script left before after old new reads reads' writes writes' tells told faultless quiet = absurd (omega (arith, told.1, quiet.1))
ends_well ends.OutOfMemory script left before after old new reads reads' writes writes' tells told faultless quiet = inr refl
ends_well ends.Usage script left before after old new reads reads' writes writes' tells told faultless quiet = absurd tells

-- so it is with a run of which a report tells
pub complete : (fates : ℕ → Fate) (status : Status) (script left : Option (List ℕ)) (journals : List (List Entry)) (old new : Option (List ℕ)) (reads reads' writes writes' : ℕ)
    → Reported fates status script left journals old new → AreTold status reads reads' writes writes' → IsFaultless script → AreQuiet reads reads' writes writes' → EndsWell status
complete fates status script left journals old new reads reads' writes writes' report told faultless quiet =
    ends_well status script left _ report.scene old new reads reads' writes writes' report.told told faultless quiet
