use Rattle.std.proofs.Common.{◌≡◌, ℕ, List, ◌<◌, ◌+◌, ◌++◌, ◌∷◌, [], sym, ◌∙◌, ap, subst, length, get_or, arith}
use Rattle.ccr_op.specs.Operation.{Operation}
use Rattle.ccr_segment.specs.Index.{ops_in}
use Rattle.ccr_model.specs.Restores.{Fetch, file_bytes}
use Rattle.ccr_restore.specs.Finishing.{IsSpelled, AreSpelled}
use Rattle.ccr_restore.specs.Stages.{fetch_of}
use Rattle.ccr_restore.proofs.Joining.{file-is, files-turn, in_range}
use Rattle.ccr_restore.proofs.finish.join_files.Goals as goal

spelled : (chunk_size file : ℕ) (f : Fetch) → AreSpelled chunk_size f → file < length f.sizes → IsSpelled (file_bytes chunk_size f file)
spelled chunk_size file f all lt =
    let P : ℕ → Type 0 = λ k. IsSpelled (file_bytes chunk_size f k) in
    let same : 0 + file ≡ file = omega arith in
    subst P same (in_range P 0 (length f.sizes) file all lt)

pub open_segment-requires : goal.open_segment-requires
open_segment-requires c =
    let f = c.args.fetch.now in
    let long : length c.sizes-size-items.result.now ≡ length f.places.sizes = ap length c.sizes-size-items.ensures.value in
    let lt : c.loop-file.file < length f.places.sizes = omega arith in
    let bytes_are : c.in_ok-bytes.bytes.items ≡ file_bytes f.places.chunk_size (fetch_of f) c.loop-file.file =
    c.in_ok-bytes.ensures ∙ file-is f.places.chunk_size (fetch_of f) c.loop-file.file _ lt (ap (λ xs. get_or xs c.loop-file.file 0) c.sizes-size-items.ensures.value) in
    subst IsSpelled (sym bytes_are) (spelled f.places.chunk_size c.loop-file.file (fetch_of f) c.requires lt)

pub loop-file-preserved : goal.loop-file-preserved
loop-file-preserved c =
    let f = c.args.fetch.now in
    let long : length c.sizes-size-items.result.now ≡ length f.places.sizes = ap length c.sizes-size-items.ensures.value in
    let lt : c.loop-file.file < length f.places.sizes = omega arith in
    let bytes_are : c.in_ok-bytes.bytes.items ≡ file_bytes f.places.chunk_size (fetch_of f) c.loop-file.file =
    c.in_ok-bytes.ensures ∙ file-is f.places.chunk_size (fetch_of f) c.loop-file.file _ lt (ap (λ xs. get_or xs c.loop-file.file 0) c.sizes-size-items.ensures.value) in
    files-turn (λ file. ops_in (file_bytes f.places.chunk_size (fetch_of f) file)) (length f.places.sizes) c.loop-file.file c.loop-file.files.items c.push.new.self.items _ lt
    (c.in_ok-push.ensures.items ∙ ap (λ (ops : List Operation). c.loop-file.files.items ++ ops ∷ []) (c.in_ok-segment.ensures ∙ ap ops_in bytes_are)) c.loop-file.invariant
