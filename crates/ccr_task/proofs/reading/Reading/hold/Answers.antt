use Rattle.std.proofs.Common.{◌≡◌, set, ◌∙◌, ap, subst}
use Rattle.ccr_model.specs.Requests.{held_back}
use Rattle.ccr_model.specs.Tasks.{Read, changed_read}
use Rattle.ccr_task.specs.Reading.{Reading}
use Rattle.ccr_task.proofs.Changes.{stays, becomes}
use Rattle.ccr_task.proofs.Indexing.{few-in}
use Rattle.ccr_task.proofs.reading.Reading.hold.Goals as goal

pub place_of_read-requires : goal.place_of_read-requires
place_of_read-requires c =
    few-in c.self.inside.next_request c.self.inside.reads.items c.as_slice.result.now c.self.inside.sent.items c.self.inside.held c.request.result c.as_slice.ensures.value c.self.invariant.indexed

pub returns-in_default : goal.returns-in_default
returns-in_default c =
    subst (λ (s : Reading). s ≡ record s { reads = changed_read c.args.read.now.request (λ (own : Read). record own { from = c.args.from; asked = c.args.asked; progress = held_back }) s.reads }) c.self.view_is
    (stays c.self.inside.next_request (c.request.result) (c.args.read.now.request) c.self.inside.reads.items c.as_slice.result.now (λ (own : Read). record own { from = c.args.from; asked = c.args.asked; progress = held_back }) c.as_slice.ensures.value c.request.ensures c.in_default.ensures.place)

pub returns : goal.returns
returns c =
    c.put.ensures ∙ subst (λ (s : Reading). record s { reads = set s.reads c.in-Some.place c.hold.new.self } ≡ record s { reads = changed_read c.args.read.now.request (λ (own : Read). record own { from = c.args.from; asked = c.args.asked; progress = held_back }) s.reads }) c.self.view_is
    (becomes c.self.inside.next_request (c.request.result) (c.args.read.now.request) c.in-Some.place c.self.inside.reads.items c.as_slice.result.now (λ (own : Read). record own { from = c.args.from; asked = c.args.asked; progress = held_back }) c.index.result.now c.hold.new.self c.as_slice.ensures.value c.request.ensures c.in-Some.ensures.place c.index.ensures
    (c.hold.ensures ∙ ap (λ (own : Read). record own { from = c.args.from; asked = c.args.asked; progress = held_back }) c.copy-own.ensures))
