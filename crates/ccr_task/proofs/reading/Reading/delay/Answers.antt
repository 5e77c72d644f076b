use Rattle.std.proofs.Common.{◌≡◌, set, refl, ◌∙◌, ap, subst}
use Rattle.ccr_model.specs.Requests.{waiting}
use Rattle.ccr_model.specs.Tasks.{Read, changed_read}
use Rattle.ccr_task.specs.Reading.{Reading}
use Rattle.ccr_task.proofs.Changes.{stays, becomes}
use Rattle.ccr_task.proofs.Indexing.{few-in}
use Rattle.ccr_task.proofs.reading.Reading.delay.Goals as goal

pub place_of_read-requires : goal.place_of_read-requires
place_of_read-requires c =
    few-in c.self.inside.next_request c.self.inside.reads.items c.as_slice-3.result.now c.self.inside.sent.items c.self.inside.held c.args.request c.as_slice-3.ensures.value c.self.invariant.indexed

pub returns-in_default : goal.returns-in_default
returns-in_default c =
    subst (λ (s : Reading). s ≡ record s { reads = changed_read c.args.request (λ (own : Read). record own { progress = waiting c.args.until }) s.reads }) c.self.view_is
    (stays c.self.inside.next_request (c.args.request) (c.args.request) c.self.inside.reads.items c.as_slice-3.result.now (λ (own : Read). record own { progress = waiting c.args.until }) c.as_slice-3.ensures.value refl c.in_default.ensures.place)

pub returns : goal.returns
returns c =
    c.put.ensures ∙ subst (λ (s : Reading). record s { reads = set s.reads c.in-Some.place c.wait.new.self } ≡ record s { reads = changed_read c.args.request (λ (own : Read). record own { progress = waiting c.args.until }) s.reads }) c.self.view_is
    (becomes c.self.inside.next_request (c.args.request) (c.args.request) c.in-Some.place c.self.inside.reads.items c.as_slice-3.result.now (λ (own : Read). record own { progress = waiting c.args.until }) c.index.result.now c.wait.new.self c.as_slice-3.ensures.value refl c.in-Some.ensures.place c.index.ensures
    (c.wait.ensures ∙ ap (λ (own : Read). record own { progress = waiting c.args.until }) c.copy-own.ensures))
