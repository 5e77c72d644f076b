use Rattle.std.proofs.Common.{◌≡◌, ◌∙◌, subst}
use Rattle.std.specs.List.{remove}
use Rattle.ccr_model.specs.Tasks.{without_read}
use Rattle.ccr_task.specs.Reading.{Reading}
use Rattle.ccr_task.proofs.Changes.{stays-all, leaves}
use Rattle.ccr_task.proofs.Indexing.{few-in}
use Rattle.ccr_task.proofs.reading.Reading.end.Goals as goal

pub place_of_read-requires : goal.place_of_read-requires
place_of_read-requires c =
    few-in c.self.inside.next_request c.self.inside.reads.items c.as_slice.result.now c.self.inside.sent.items c.self.inside.held c.request.result c.as_slice.ensures.value c.self.invariant.indexed

pub returns-in_default : goal.returns-in_default
returns-in_default c =
    subst (λ (s : Reading). s ≡ record s { reads = without_read c.args.read.now.request s.reads }) c.self.view_is
    (stays-all c.self.inside.next_request c.request.result c.args.read.now.request c.self.inside.reads.items c.as_slice.result.now c.as_slice.ensures.value c.request.ensures c.in_default.ensures.place)

pub returns : goal.returns
returns c =
    c.cut.ensures ∙ subst (λ (s : Reading). record s { reads = remove s.reads c.in-Some.place } ≡ record s { reads = without_read c.args.read.now.request s.reads }) c.self.view_is
    (leaves c.self.inside.next_request c.request.result c.args.read.now.request c.in-Some.place c.self.inside.reads.items c.as_slice.result.now c.as_slice.ensures.value c.request.ensures c.in-Some.ensures.place)
