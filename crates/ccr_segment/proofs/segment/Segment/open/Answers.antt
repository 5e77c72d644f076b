use Rattle.std.proofs.Common.{ap, subst, ◌∙◌}
use Rattle.ccr_segment.specs.Reading.{Gives, segment_of}
use Rattle.ccr_segment.proofs.SegmentLaws.{is_found, segment_again}
use Rattle.ccr_segment.proofs.segment.Segment.open.Goals as goal

pub returns-clause-found : goal.returns-clause-found
returns-clause-found c = is_found c.args.from.items c.read_segment.result (rw c.as_slice.ensures.value at c.know_bytes.ensures) c.read_segment.ensures

pub returns-clause-only : goal.returns-clause-only
returns-clause-only c = λ ops fits e. subst (λ read. Gives (λ x. x) c.read_segment.result read) (ap segment_of e ∙ segment_again ops fits) c.read_segment.ensures
