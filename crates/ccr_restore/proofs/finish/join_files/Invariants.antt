use Rattle.std.proofs.Common.{◌≡◌, ℕ, ◌-◌, ◌++◌, List, map, length}
use Rattle.std.specs.List.{range_with_len}
use Rattle.ccr_op.specs.Operation.{Operation}
use Rattle.ccr_segment.specs.Index.{ops_in}
use Rattle.ccr_model.specs.Restores.{file_bytes, files_of}
use Rattle.ccr_restore.specs.Stages.{fetch_of}
use Rattle.ccr_restore.proofs.finish.join_files.Given as goal

abbrev pub invariant-loop-file : goal.invariant-loop-file
invariant-loop-file l =
    l.files.items ++ map {A = ℕ} {B = List Operation} (λ file. ops_in (file_bytes l.fetch.places.chunk_size (fetch_of l.fetch) file)) (range_with_len l.file (length l.fetch.places.sizes - l.file))
    ≡ files_of l.fetch.places.chunk_size (fetch_of l.fetch)
