use Rattle.std.proofs.Common.{nat_lt, sym, ◌∙◌, ap}
use Rattle.std.specs.List.{list_any}
use Rattle.ccr_model.specs.Tasks.{is_held}
use Rattle.ccr_task.specs.Reading.{Reading}
use Rattle.ccr_task.proofs.Counts.{any-counted}
use Rattle.ccr_task.proofs.reading.Reading.has_held.Goals as goal

pub returns : goal.returns
returns c = ap (nat_lt 0) c.self.invariant.indexed.counted ∙ (sym (any-counted is_held c.self.inside.reads.items) ∙ ap (λ (r : Reading). list_any is_held r.reads) c.self.view_is)
