use Rattle.std.proofs.Common.{◌∙◌, ap, slice_get, filter}
use Rattle.std.specs.Option.{option_map}
use Rattle.ccr_model.specs.Requests.{is_sent}
use Rattle.ccr_model.specs.Tasks.{Read, in_order_of_request}
use Rattle.ccr_task.specs.Reading.{Reading}
use Rattle.ccr_task.proofs.Places.{sent-number-at}
use Rattle.ccr_task.proofs.reading.Reading.sent_at.Goals as goal

pub returns : goal.returns
returns c =
    c.number_at.ensures ∙ (ap (λ ns. slice_get ns c.args.at) c.as_slice.ensures.value
    ∙ (sent-number-at c.self.inside.sent.items c.self.inside.next_request c.self.inside.reads.items c.args.at c.self.invariant.indexed.rising c.self.invariant.indexed.listed
    ∙ ap (λ (s : Reading). option_map (λ (r : Read). r.request) (slice_get (in_order_of_request (filter (λ (r : Read). is_sent r.progress) s.reads)) c.args.at)) c.self.view_is))
