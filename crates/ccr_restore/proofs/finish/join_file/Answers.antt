use Rattle.std.proofs.Common.{◌≡◌, ℕ, List, ◌<◌, ◌*◌, ◌+◌, ◌++◌, ◌∙◌, ap, arith}
use Rattle.ccr_model.specs.Restores.{bytes_at}
use Rattle.ccr_restore.specs.Places.{parts_in}
use Rattle.ccr_restore.proofs.Joining.{range-turn}
use Rattle.ccr_restore.proofs.finish.join_file.Goals as goal

pub loop-part-preserved : goal.loop-part-preserved
loop-part-preserved c =
    let f = c.args.fetch.now in
    let all : c.parts_in-part-end.result ≡ parts_in f.places.chunk_size c.args.size = c.parts_in-part-end.ensures ∙ ap (λ k. parts_in k c.args.size) c.chunk_size-chunk_size.ensures.value in
    let lt : c.loop-part.part < parts_in f.places.chunk_size c.args.size = omega arith in
    let offset : c.offset_of-offset.result ≡ c.loop-part.part * f.places.chunk_size = c.offset_of-offset.ensures ∙ ap (λ k. c.loop-part.part * k) c.chunk_size-chunk_size.ensures.value in
    let part : c.bytes_at.result.now ≡ bytes_at f.parts.items (c.args.file, c.loop-part.part * f.places.chunk_size) =
    c.bytes_at.ensures ∙ (ap (λ xs. bytes_at xs (c.args.file, c.offset_of-offset.result)) c.as_slice.ensures.value ∙ ap (λ k. bytes_at f.parts.items (c.args.file, k)) offset) in
    range-turn (λ n. bytes_at f.parts.items (c.args.file, n * f.places.chunk_size)) (parts_in f.places.chunk_size c.args.size) c.loop-part.part c.loop-part.bytes.items c.extend_from_slice.new.self.items _ lt
    (c.in_ok-extend_from_slice.ensures.items ∙ ap (λ (xs : List ℕ). c.loop-part.bytes.items ++ xs) part) c.loop-part.invariant
