use Rattle.std.proofs.Common.{sym, ◌∙◌}
use Rattle.ccr_net.proofs.Joining.{frame_there}
use Rattle.ccr_net.proofs.places.frame_at.Goals as goal

pub returns : goal.returns
returns c =
    sym (frame_there c.args.chunks.now.items c.args.at c.place_of-place.result.chunk c.place_of-place.result.offset c.index.result.now c.place_of-place.ensures c.index.ensures ∙ c.frame.ensures)
