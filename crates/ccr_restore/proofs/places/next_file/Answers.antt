use Rattle.std.proofs.Common.{arith}
use Rattle.std.proofs.lemmas.Option.{slice_get_within}
use Rattle.ccr_restore.proofs.Walking.{left-empty}
use Rattle.ccr_restore.proofs.places.next_file.Goals as goal

pub loop-file-preserved : goal.loop-file-preserved
loop-file-preserved c = record {
  within = omega arith;
  same = left-empty c.args.chunk_size c.loop-file.file c.args.sizes.now _ c.requires.some c.loop-file-test.true c.if-sizes-file-gt0.false c.loop-file.invariant.same;
}

pub returns-clause-there : goal.returns-clause-there
returns-clause-there c = λ size is. absurd (omega (arith, slice_get_within c.args.sizes.now c.loop-file.file size is, c.loop-file-test.false))
