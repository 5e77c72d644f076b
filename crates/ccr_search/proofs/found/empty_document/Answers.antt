use Rattle.std.proofs.Common.{◌≡◌}
use Rattle.ccr_search.proofs.Blank.{blank_document}
use Rattle.ccr_search.proofs.found.empty_document.Goals as goal

pub returns-in-Ok : goal.returns-in-Ok
returns-in-Ok c = let read = c.in-Ok.ensures.ok in let blank = blank_document in cc
