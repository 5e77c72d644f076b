-- how a run ends
use Rattle.std.proofs.Common.{◌≡◌, ℕ, List, subst}
use Rattle.std.specs.Prelude.{Option}
use Rattle.ccr_journal.specs.declared.journals.Entry.{Entry}
use Rattle.ccr_meta.specs.Names.{Names}
use Rattle.ccr_script.specs.declared.commands.Command.{Command}
use Rattle.ccr_deeds.specs.Logs.{Log}
use Rattle.ccr_plans.specs.Scenes.{Scene}
use Rattle.ccr_game.specs.Games.{start_scene}
use Rattle.ccr_playing.specs.declared.statuses.Status.{Status}
use Rattle.ccr_worlds.specs.Fated.{Fate}
use Rattle.ccr_reports.specs.Reports.{Handed}
use Rattle.ccr_run.specs.Samples.{Sampled, Sums}

-- a run began at the start, and its logs were handed out
pub sampled : (fates : ℕ → Fate) (commands : List Command) (status : Status) (journals : List (List Entry)) (old new : Option (List ℕ)) (first : Scene) (names : Names) (logs logs' : List Log)
    → first ≡ start_scene → Sums status commands first (record { names = names; logs = logs }) old new → logs' ≡ logs → Handed fates logs' journals → Sampled fates commands status journals old new
sampled fates commands status journals old new first names logs logs' fresh told same handed = record {
  scene = record { names = names; logs = logs };
  told = subst (λ s. Sums status commands s (record { names = names; logs = logs }) old new) fresh told;
  handed = subst (λ ls. Handed fates ls journals) same handed;
}
