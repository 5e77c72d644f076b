use Rattle.std.proofs.Common.{rules}
use Rattle.ccr_segment.proofs.WritingLaws.{begun}
use Rattle.ccr_segment.proofs.writer.Writer.new.Goals as goal

pub invariant_of-result : goal.invariant_of-result
invariant_of-result c = (begun c.extend_from_slice.new.self.items (search rules)).0

pub returns : goal.returns
returns c = (begun c.extend_from_slice.new.self.items (search rules)).1
