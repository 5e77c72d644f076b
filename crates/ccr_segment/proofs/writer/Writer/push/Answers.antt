use Rattle.std.proofs.Common.{rules}
use Rattle.ccr_segment.proofs.WritingLaws.{pushed}
use Rattle.ccr_segment.proofs.writer.Writer.push.Goals as goal

pub invariant_of-self-2 : goal.invariant_of-self-2
invariant_of-self-2 c =
    (pushed c.self.inside.routed c.is_some-routed.result c.self.inside.count c.self.inside.bytes.items c.encode.new.to.items c.args.self.now c.args.op.now c.self.invariant c.self.view_is
    c.in_ok-encode.ensures.ok c.kind-fits.ensures.fits (search rules) c.requires.count c.requires.order).0

pub returns-clause-ok : goal.returns-clause-ok
returns-clause-ok c =
    (pushed c.self.inside.routed c.is_some-routed.result c.self.inside.count c.self.inside.bytes.items c.encode.new.to.items c.args.self.now c.args.op.now c.self.invariant c.self.view_is
    c.in_ok-encode.ensures.ok c.kind-fits.ensures.fits (search rules) c.requires.count c.requires.order).1
