-- What a command does to the names and the journals of a run, and how it is answered.
use Rattle.std.specs.Prelude.{◌≡◌, List, []}
use Rattle.ccr_journal.specs.declared.replies.Reply.{Reply}
use Rattle.ccr_script.specs.declared.commands.Command.{Command}
use Rattle.ccr_answers.specs.declared.forms.Answer.{Answer}
use Rattle.ccr_deeds.specs.Deeds.{AreDeeds}
use Rattle.ccr_plans.specs.NamesAfter.{names_after}
use Rattle.ccr_plans.specs.Scenes.{Scene, planned, with_made}

-- no cluster, no index, no world
abbrev pub start_scene : Scene
start_scene = record { names = record { clusters = []; indices = []; worlds = 0 }; logs = [] }

-- a command was done: this is the form of its answer, and so its deeds were answered
pub record DoesWith (before : Scene) (c : Command) (after : Scene) (form : Answer) (told : List Reply) : Type 0 where
  pub done : AreDeeds (with_made before.logs (planned before c).made) (planned before c).deeds after.logs told
  pub names : after.names ≡ names_after before.names c told
  pub is : form ≡ (planned before c).answer
