use Rattle.std.proofs.Common.{sym, ap, ◌∙◌, List, ℕ, slice_set}
use Rattle.ccr_net.specs.Joined.{joined}
use Rattle.ccr_net.proofs.Joining.{frame_there, taken_there}
use Rattle.ccr_net.proofs.places.take_at.Goals as goal

pub returns-clause-frame : goal.returns-clause-frame
returns-clause-frame c =
    sym (frame_there c.args.chunks.now.items c.args.at c.place_of-place.result.chunk c.place_of-place.result.offset c.index_mut.result.now c.place_of-place.ensures c.index_mut.ensures.value ∙ c.take-frame.ensures.frame)

pub returns-clause-after : goal.returns-clause-after
returns-clause-after c =
    let left = ap (λ (chunk : List (List ℕ)). joined (slice_set c.args.chunks.now.items c.place_of-place.result.chunk chunk)) c.take-frame.ensures.after in
    c.join_with_next-2.ensures.same ∙ (c.join_with_next.ensures.same ∙ (left ∙ taken_there c.args.chunks.now.items c.args.at c.place_of-place.result.chunk c.place_of-place.result.offset c.index_mut.result.now c.place_of-place.ensures c.index_mut.ensures.value))
