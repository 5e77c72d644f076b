use Rattle.std.proofs.Common.{◌≡◌, ◌++◌, List, map, filter, drop}
use Rattle.ccr_wire.specs.Message.{Frame}
use Rattle.ccr_model.specs.Leaders.{KeptRequest}
use Rattle.ccr_leader.proofs.Due.{answers_due}
use Rattle.ccr_leader.proofs.kept_requests.add_answers.Given as goal

abbrev pub invariant-loop-kept : goal.invariant-loop-kept
invariant-loop-kept l = l.sent ++ answers_due l.copies (drop l.kept-index l.list) ≡ l.initial.sent ++ answers_due l.copies l.list
