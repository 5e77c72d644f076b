use Rattle.std.proofs.Common.{◌≡◌, List, drop, filter}
use Rattle.std.specs.List.{fold}
use Rattle.ccr_model.specs.Requests.{is_due}
use Rattle.ccr_model.specs.Tasks.{Read, by_request, in_order_of_request}
use Rattle.ccr_task.proofs.lists.due_reads.Given as goal

abbrev pub invariant-loop-read : goal.invariant-loop-read
invariant-loop-read l = fold {A = Read} {B = List Read} (λ rest r. by_request r rest) l.due.items (filter (λ (r : Read). is_due l.now r.progress) (drop l.read-index l.reads)) ≡ in_order_of_request (filter (λ (r : Read). is_due l.now r.progress) l.reads)
