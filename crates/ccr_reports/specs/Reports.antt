-- What a report tells of a run.
use Rattle.std.specs.Prelude.{◌≡◌, ℕ, List, map, Option}
use Rattle.std.specs.List.{AllByRecursion}
use Rattle.ccr_journal.specs.declared.journals.Entry.{Entry}
use Rattle.ccr_model.specs.Past.{start_past}
use Rattle.ccr_model.specs.Headline.{Headline}
use Rattle.ccr_law_reached.specs.Reached.{IsPossible}
use Rattle.ccr_law_settled.specs.WhenSettled.{AnswersWhenSettled}
use Rattle.ccr_script.specs.Commands.{AsksFor, fault_of}
use Rattle.ccr_deeds.specs.Logs.{Log}
use Rattle.ccr_plans.specs.Scenes.{Scene, Does, Begins}
use Rattle.ccr_game.specs.Games.{start_scene}
use Rattle.ccr_playing.specs.declared.statuses.Status.{Status}
use Rattle.ccr_playing.specs.Tells.{Tells}
use Rattle.ccr_worlds.specs.Fated.{Fate, PicksAreHanded}
use Rattle.ccr_worlds.specs.HandedOut.{KeepsPrefixes}

-- The journals of a report are those of these logs. Each could have come about from its start, so the theorem on journals holds of it: what
-- was committed at a place of it stays committed. After a settle, and while only searches follow, each search answers over the whole line that
-- the commands on its shard make. Its merges join what the policy picks that was handed in for its world.
pub record Handed (fates : ℕ → Fate) (logs : List Log) (journals : List (List Entry)) : Type 0 where
  pub journals_are : journals ≡ map {A = Log} {B = List Entry} (λ log. log.entries) logs
  pub possible : AllByRecursion (λ (log : Log). IsPossible log.start log.entries) logs
  pub headline : AllByRecursion (λ (log : Log). Headline (start_past log.start) log.entries) logs
  pub prefixes : AllByRecursion KeepsPrefixes logs
  pub settled : AllByRecursion (λ (log : Log). AnswersWhenSettled log.start log.entries) logs
  pub picks : PicksAreHanded fates 0 logs

-- One scene tells what was done of the script and what was written, and its journals are those of the report.
pub record Reported (fates : ℕ → Fate) (status : Status) (script left : Option (List ℕ)) (journals : List (List Entry)) (old new : Option (List ℕ)) : Type 0 where
  pub scene : Scene
  pub told : Tells AsksFor fault_of Does Begins status script left start_scene scene old new
  pub handed : Handed fates scene.logs journals
