-- What all groups of claims say of a place, joined.
use Rattle.ccr_model.specs.Past.{Past}
use Rattle.ccr_model.specs.Invariants.{CopiesAscend}
use Rattle.ccr_law_copies.specs.Cores.{IsCore}
use Rattle.ccr_law_copies.specs.Begun.{HasHistories}
use Rattle.ccr_law_leases.specs.TrueLeases.{HasTrueLeases}
use Rattle.ccr_law_leases.specs.NoteOrder.{HasNotesInOrder}
use Rattle.ccr_law_stores.specs.TrueStores.{HasTrueStores}
use Rattle.ccr_law_stores.specs.Spelled.{HasSmallOps}
use Rattle.ccr_law_tasks.specs.GoodFollowers.{HasGoodTasks}
use Rattle.ccr_law_messages.specs.TrueFrames.{HasTrueFrames}
use Rattle.ccr_law_followers.specs.CopyLaws.{HasTrueFollowers}
use Rattle.ccr_law_settling_grounds.specs.Purposes.{HasPurposes}
use Rattle.ccr_law_retention.specs.Retaining.{IsRetaining}

-- of the leader's side: the copies and the line, the leases and the order of their notes, what the copies hold, that the operations can be
-- spelled in bytes, and which histories were begun
pub record IsLeading (p : Past) : Type 0 where
  pub core : IsCore p
  pub leases : HasTrueLeases p
  pub order : HasNotesInOrder p
  pub stores : HasTrueStores p
  pub small : HasSmallOps p
  pub histories : HasHistories p

-- of the whole world besides: the order of the copies; what each request is for; the messages, the polls and the sessions; the
-- followers' tasks; their copies and bootstraps; and what their leases retain
pub record IsWhole (p : Past) : Type 0 where
  pub leading : IsLeading p
  pub order : CopiesAscend p.state
  pub purposes : HasPurposes p.state
  pub frames : HasTrueFrames p
  pub tasks : HasGoodTasks p
  pub followers : HasTrueFollowers p
  pub retaining : IsRetaining p
