use Rattle.ccr_law_settled.proofs.ScriptLines.{line_is_of_script}
use Rattle.ccr_law_settled.proofs.Commands.{line_is_of_commands}
use Rattle.ccr_law_settled.proofs.Answered.{answers_when_settled}
use Rattle.ccr_law_settled.proofs.settled.settled_answers.Goals as goal

pub returns-clause-answers : goal.returns-clause-answers
returns-clause-answers c = answers_when_settled

pub returns-clause-line : goal.returns-clause-line
returns-clause-line c = line_is_of_script

pub returns-clause-commands : goal.returns-clause-commands
returns-clause-commands c = line_is_of_commands
