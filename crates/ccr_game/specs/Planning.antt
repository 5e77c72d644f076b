-- What is true of a command's plan.
use Rattle.std.specs.Prelude.{◌≡◌, ◌+◌, List, length}
use Rattle.std.specs.List.{AllByRecursion}
use Rattle.ccr_journal.specs.declared.replies.Reply.{Reply}
use Rattle.ccr_meta.specs.Names.{Names}
use Rattle.ccr_script.specs.declared.commands.Command.{Command}
use Rattle.ccr_answers.specs.Answers.{AreOrderedFor}
use Rattle.ccr_deeds.specs.Deeds.{AreOrderedDeeds, IsWithin}
use Rattle.ccr_plans.specs.Planned.{Planned}
use Rattle.ccr_plans.specs.NamesAfter.{names_after}
use Rattle.ccr_plans.specs.Scenes.{Scene, planned}

-- The command comes to this plan and leaves these names. The deeds are in worlds that are there or that it makes, the names count these worlds,
-- and where each deed's answer is in order, so is what the answer is printed from.
pub record IsPlanFor (before : Scene) (c : Command) (left : Names) (plan : Planned) : Type 0 where
  pub is : plan ≡ planned before c
  pub names : (told : List Reply) → left ≡ names_after before.names c told
  pub within : AllByRecursion (IsWithin (length before.logs + length plan.made)) plan.deeds
  pub count : left.worlds ≡ length before.logs + length plan.made
  pub ordered : (told : List Reply) → length told ≡ length plan.deeds → AreOrderedDeeds plan.deeds told → AreOrderedFor plan.answer told
