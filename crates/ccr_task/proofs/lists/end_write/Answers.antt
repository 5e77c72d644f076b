use Rattle.std.proofs.Common.{◌==◌, List, sym, ◌∙◌, ap}
use Rattle.std.specs.List.{position_from}
use Rattle.ccr_model.specs.Tasks.{Write}
use Rattle.ccr_task.proofs.Matches.{write-unremoved, write-removed}
use Rattle.ccr_task.proofs.lists.end_write.Goals as goal

pub returns-in_default : goal.returns-in_default
returns-in_default c = sym (write-unremoved c.args.number c.args.writes.now.items (sym (c.place_of_write.ensures.place ∙ ap (λ (xs : List Write). position_from (λ (w : Write). w.number == c.args.number) 0 xs) c.as_slice.ensures.value) ∙ c.in_default.is))

pub returns : goal.returns
returns c = c.remove.ensures.items ∙ sym (write-removed c.args.number c.in-Some.place c.args.writes.now.items (sym (c.place_of_write.ensures.place ∙ ap (λ (xs : List Write). position_from (λ (w : Write). w.number == c.args.number) 0 xs) c.as_slice.ensures.value) ∙ c.in-Some.is))
