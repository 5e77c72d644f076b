-- What a command comes to.
use Rattle.std.specs.Prelude.{List}
use Rattle.ccr_model.specs.Leaders.{Start}
use Rattle.ccr_deeds.specs.declared.deeds.Deed.{Deed}
use Rattle.ccr_answers.specs.declared.forms.Answer.{Answer}

-- the worlds that are made, what is then done in them, and the form of the answer
pub record Planned : Type 0 where
  pub made : List Start
  pub deeds : List Deed
  pub answer : Answer
