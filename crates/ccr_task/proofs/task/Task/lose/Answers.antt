use Rattle.std.proofs.Common.{refl, sym, ◌∙◌}
use Rattle.std.specs.List.{slice_get}
use Rattle.ccr_model.specs.Tasks.{sent_reads}
use Rattle.ccr_task.proofs.Calls.{found-none, found-some, lost-read}
use Rattle.ccr_task.proofs.task.Task.lose.Goals as goal

pub returns-in_default : goal.returns-in_default
returns-in_default c = found-none (slice_get (sent_reads c.args.self.now) c.args.at) _ _ (sym c.in_default.is ∙ c.sent_at.ensures) (refl, refl)

pub returns : goal.returns
returns c =
    found-some (slice_get (sent_reads c.args.self.now) c.args.at) c.in-Some.request _ _ (sym c.in-Some.is ∙ c.sent_at.ensures)
    (λ r same. (refl, lost-read c.args.self.now c.lose_read.new.self c.in-Some.request c.args.now r same c.lose_read.ensures))
