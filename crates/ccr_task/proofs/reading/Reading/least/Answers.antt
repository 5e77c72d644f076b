use Rattle.std.proofs.Common.{slice_get, ◌∙◌, ap}
use Rattle.std.specs.Option.{option_map_or}
use Rattle.ccr_model.specs.Tasks.{Read, least_from}
use Rattle.ccr_task.specs.Reading.{Reading}
use Rattle.ccr_task.proofs.Froms.{least-first}
use Rattle.ccr_task.proofs.reading.Reading.least.Goals as goal

pub returns-then-self : goal.returns-then-self
returns-then-self c =
    c.first_from.ensures ∙ (ap (λ xs. option_map_or (λ (r : Read). r.from) (slice_get xs 0) c.args.next) c.as_slice.ensures.value
    ∙ (least-first c.args.next c.self.inside.reads.items (c.self.invariant.ascending c.if-self.true) ∙ ap (λ (s : Reading). least_from c.args.next s.reads) c.self.view_is))
