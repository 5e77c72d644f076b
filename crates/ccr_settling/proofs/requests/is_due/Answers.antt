use Rattle.ccr_settling.proofs.Following.{due-none, due-some}
use Rattle.ccr_settling.proofs.requests.is_due.Goals as goal

pub returns-in-Some : goal.returns-in-Some
returns-in-Some c = due-some c.args.own.now c.in-Some.until c.now.result c.in-Some.ensures c.now.ensures

pub returns-in-None : goal.returns-in-None
returns-in-None c = due-none c.args.own.now c.in-None.ensures
