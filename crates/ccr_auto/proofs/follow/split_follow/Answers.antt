use Rattle.ccr_auto.proofs.Markers.{none_marked, once_marked, twice_marked}
use Rattle.ccr_auto.proofs.follow.split_follow.Goals as goal

pub returns-in_err-front : goal.returns-in_err-front
returns-in_err-front c = rw c.from_residual.ensures (none_marked c.args.follow.now c.in_err-front.ensures.cases)

pub returns-then-contains : goal.returns-then-contains
returns-then-contains c = twice_marked c.args.follow.now c.in_ok-front.front.now c.in_ok-front.back.now c.in_ok-front.ensures.cases c.if-contains.ensures.cases

pub returns : goal.returns
returns c = once_marked c.args.follow.now c.in_ok-front.front.now c.in_ok-front.back.now c.in_ok-front.ensures.cases c.if-contains.ensures.cases
