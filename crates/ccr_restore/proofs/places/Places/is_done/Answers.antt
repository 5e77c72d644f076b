use Rattle.std.proofs.Common.{◌≡◌, ◌==◌, ◌∙◌, ap, length, arith}
use Rattle.ccr_restore.specs.Places.{Walk, all_places}
use Rattle.ccr_restore.proofs.Walking.{done-is}
use Rattle.ccr_restore.proofs.places.Places.is_done.Goals as goal

pub returns : goal.returns
returns c =
    let s = c.self.inside in
    let long : c.len.result ≡ length s.sizes.items = omega (arith, s.sizes.ok.0) in
    ap (λ n. s.file == n) long ∙ (done-is s.chunk_size s.sizes.items s.asked s.file s.part c.self.invariant ∙ ap (λ (w : Walk). w.asked == length (all_places w)) c.self.view_is)
