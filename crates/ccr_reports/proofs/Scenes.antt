-- how a run ends
use Rattle.std.proofs.Common.{◌≡◌, ℕ, List, map, subst, sym}
use Rattle.std.specs.Prelude.{Option}
use Rattle.std.specs.List.{AllByRecursion}
use Rattle.ccr_journal.specs.declared.journals.Entry.{Entry}
use Rattle.ccr_meta.specs.Names.{Names}
use Rattle.ccr_model.specs.Past.{start_past}
use Rattle.ccr_model.specs.Headline.{Headline}
use Rattle.ccr_law_reached.specs.Reached.{IsPossible}
use Rattle.ccr_law_settled.proofs.Answered.{each_answers}
use Rattle.ccr_script.specs.Commands.{AsksFor, fault_of}
use Rattle.ccr_deeds.specs.Logs.{Log}
use Rattle.ccr_plans.specs.Scenes.{Scene, Does, Begins}
use Rattle.ccr_game.specs.Games.{start_scene}
use Rattle.ccr_playing.specs.declared.statuses.Status.{Status}
use Rattle.ccr_playing.specs.Tells.{Tells}
use Rattle.ccr_worlds.specs.Fated.{Fate, PicksAreHanded}
use Rattle.ccr_worlds.specs.HandedOut.{KeepsPrefixes}
use Rattle.ccr_reports.specs.Reports.{Handed, Reported}

-- the journals of these logs were handed out
pub handed_out : (fates : ℕ → Fate) (logs : List Log) (journals : List (List Entry)) → journals ≡ map {A = Log} {B = List Entry} (λ log. log.entries) logs
    → AllByRecursion (λ (log : Log). IsPossible log.start log.entries) logs → AllByRecursion (λ (log : Log). Headline (start_past log.start) log.entries) logs
    → AllByRecursion KeepsPrefixes logs → PicksAreHanded fates 0 logs → Handed fates logs journals
handed_out fates logs journals are possible headline prefixes picks =
    record {
      journals_are = are;
      possible = possible;
      headline = headline;
      prefixes = prefixes;
      settled = each_answers (λ (log : Log). log.start) (λ (log : Log). log.entries) logs possible;
      picks = picks;
    }

-- a run began at the start, and its logs were handed out
pub reported : (fates : ℕ → Fate) (status : Status) (script left : Option (List ℕ)) (journals : List (List Entry)) (old new : Option (List ℕ)) (first : Scene) (names : Names) (logs logs' : List Log)
    → first ≡ start_scene → Tells AsksFor fault_of Does Begins status script left first (record { names = names; logs = logs }) old new → logs' ≡ logs
    → Handed fates logs' journals → Reported fates status script left journals old new
reported fates status script left journals old new first names logs logs' fresh told same handed = record {
  scene = record { names = names; logs = logs };
  told = subst (λ s. Tells AsksFor fault_of Does Begins status script left s (record { names = names; logs = logs }) old new) fresh told;
  handed = subst (λ ls. Handed fates ls journals) same handed;
}
