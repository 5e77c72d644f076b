use Rattle.std.proofs.Common.{◌≡◌, ◌==◌, ◌&&◌, drop, find}
use Rattle.ccr_model.specs.Requests.{is_sent}
use Rattle.ccr_model.specs.Tasks.{Write}
use Rattle.ccr_task.proofs.lists.sent_write.Given as goal

abbrev pub invariant-loop-write : goal.invariant-loop-write
invariant-loop-write l = find (λ (w : Write). (w.number == l.number) && is_sent w.progress) (drop l.write-index l.writes) ≡ find (λ (w : Write). (w.number == l.number) && is_sent w.progress) l.writes
