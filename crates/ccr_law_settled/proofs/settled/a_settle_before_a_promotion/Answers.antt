use Rattle.std.specs.Prelude.{refl}
use Rattle.ccr_model.specs.Outcomes.{guarded}
use Rattle.ccr_model.specs.CopyRows.{replicate_row, ack_row, sync_row}
use Rattle.ccr_model.specs.LeaderRows.{write_row}
use Rattle.ccr_model.specs.World.{search_row}
use Rattle.ccr_law_settled.proofs.settled.a_settle_before_a_promotion.Goals as goal

pub returns : goal.returns
unfolding guarded replicate_row ack_row sync_row write_row search_row
returns c = record { legal = (refl, (refl, (refl, (refl, (refl, (refl, tt)))))); ends = refl; script = refl; line = refl; kept = refl; lacked = refl }
