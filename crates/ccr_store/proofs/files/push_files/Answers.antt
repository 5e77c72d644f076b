use Rattle.std.proofs.Common.{◌++◌, map}
use Rattle.ccr_segment.specs.Segment.{spelling as segment_of_ops}
use Rattle.ccr_store.specs.Kept.{kept_at, lists_of, contents_of, files_of}
use Rattle.ccr_store.proofs.Views.{files-turn}
use Rattle.ccr_store.proofs.files.push_files.Goals as goal

pub loop-part-preserved : goal.loop-part-preserved
loop-part-preserved c =
    files-turn (kept_at c.args.ops.now.entries) c.args.count c.args.parts.now c.loop-part.part-index c.part-item.result c.as_slice.result.now (contents_of c.loop-part.files.items) (contents_of c.push_file.new.files.items)
    (contents_of c.args.files.now.items ++ map segment_of_ops (files_of (kept_at c.args.ops.now.entries) c.args.count (lists_of c.args.parts.now))) c.loop-part-test.true c.part-item.is c.as_slice.ensures c.in_ok-push_file.ensures c.loop-part.invariant
