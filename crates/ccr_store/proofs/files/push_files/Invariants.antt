use Rattle.std.proofs.Common.{◌≡◌, ◌++◌, map, drop}
use Rattle.ccr_segment.specs.Segment.{spelling as segment_of_ops}
use Rattle.ccr_store.specs.Kept.{kept_at, lists_of, contents_of, files_of}
use Rattle.ccr_store.proofs.files.push_files.Given as goal

abbrev pub invariant-loop-part : goal.invariant-loop-part
invariant-loop-part l =
    contents_of l.files.items ++ map segment_of_ops (files_of (kept_at l.ops.entries) l.count (lists_of (drop l.part-index l.parts)))
    ≡ contents_of l.initial.files.items ++ map segment_of_ops (files_of (kept_at l.ops.entries) l.count (lists_of l.parts))
