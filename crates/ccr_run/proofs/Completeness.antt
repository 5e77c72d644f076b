-- a script that is made is done to its end, where the sink doesn't fail and memory suffices
use Rattle.std.proofs.Common.{◌≡◌, ℕ, List, refl, arith}
use Rattle.std.specs.Prelude.{Option}
use mathlib.Core.Logic.{inl, inr}
use Rattle.ccr_journal.specs.declared.journals.Entry.{Entry}
use Rattle.ccr_script.specs.declared.bad_lines.BadLine.{BadLine}
use Rattle.ccr_script.specs.declared.commands.Command.{Command}
use Rattle.ccr_plans.specs.Scenes.{Scene}
use Rattle.ccr_playing.specs.declared.statuses.Status.{Status}
use Rattle.ccr_playing.specs.declared.statuses.Status.TheVariants as ends
use Rattle.ccr_playing.specs.Tells.{AreQuiet, AreTold}
use Rattle.ccr_worlds.specs.Fated.{Fate}
use Rattle.ccr_reports.specs.Faultless.{EndsWell}
use Rattle.ccr_reports.proofs.HandedIn.{is_no_usage}
use Rattle.ccr_reports.proofs.Completeness.{complete}
use Rattle.ccr_run.specs.Samples.{Sampled, Sums}

sums_well : (status : Status) (commands : List Command) (before after : Scene) (old new : Option (List ℕ)) (reads reads' writes writes' : ℕ)
    → Sums status commands before after old new → AreTold status reads reads' writes writes' → AreQuiet reads reads' writes writes' → EndsWell status
sums_well ends.Done commands before after old new reads reads' writes writes' sums told quiet = inl refl
sums_well (ends.BadLine line why) commands before after old new reads reads' writes writes' sums told quiet = absurd sums
sums_well ends.ReadFault commands before after old new reads reads' writes writes' sums told quiet = absurd sums
sums_well ends.WriteFault commands before after old new reads reads' writes writes' sums told quiet = absurd (omega (arith, told.1, quiet.1))
sums_well ends.OutOfMemory commands before after old new reads reads' writes writes' sums told quiet = inr refl
sums_well ends.Usage commands before after old new reads reads' writes writes' sums told quiet = absurd sums

pub sample_complete : (fates : ℕ → Fate) (commands : List Command) (status : Status) (journals : List (List Entry)) (old new : Option (List ℕ)) (reads reads' writes writes' : ℕ)
    → Sampled fates commands status journals old new → AreTold status reads reads' writes writes' → AreQuiet reads reads' writes writes' → EndsWell status
sample_complete fates commands status journals old new reads reads' writes writes' sample told quiet = sums_well status commands _ sample.scene old new reads reads' writes writes' sample.told told quiet

pub ruleset ending = (is_no_usage, complete, sample_complete)
