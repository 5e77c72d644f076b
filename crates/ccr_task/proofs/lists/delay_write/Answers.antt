use Rattle.std.proofs.Common.{◌==◌, List, set, sym, ◌∙◌, ap}
use Rattle.std.specs.List.{position_from}
use Rattle.ccr_model.specs.Requests.{waiting}
use Rattle.ccr_model.specs.Tasks.{Write}
use Rattle.ccr_task.proofs.Matches.{write-unchanged, write-changed}
use Rattle.ccr_task.proofs.lists.delay_write.Goals as goal

pub returns-in_default : goal.returns-in_default
returns-in_default c =
    sym (write-unchanged c.args.number (λ (own : Write). record own { progress = waiting c.args.until }) c.args.writes.now.items
    (sym (c.place_of_write.ensures.place ∙ ap (λ (xs : List Write). position_from (λ (w : Write). w.number == c.args.number) 0 xs) c.as_slice.ensures.value) ∙ c.in_default.is))

pub returns : goal.returns
returns c =
    ap (λ (r : Write). set c.args.writes.now.items c.in-Some.place r) (c.wait.ensures ∙ ap (λ (own : Write). record own { progress = waiting c.args.until }) c.index_mut.ensures.value)
    ∙ sym (write-changed c.args.number c.in-Some.place (λ (own : Write). record own { progress = waiting c.args.until }) c.args.writes.now.items c.index_mut.result.now
    (sym (c.place_of_write.ensures.place ∙ ap (λ (xs : List Write). position_from (λ (w : Write). w.number == c.args.number) 0 xs) c.as_slice.ensures.value) ∙ c.in-Some.is))
