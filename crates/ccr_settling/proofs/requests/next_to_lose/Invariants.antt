use Rattle.ccr_settling.proofs.Following.{AwaitedBelow}
use Rattle.ccr_settling.proofs.requests.next_to_lose.Given as goal

abbrev pub invariant-loop-at : goal.invariant-loop-at
invariant-loop-at l = AwaitedBelow l.at l.polls l.f l.own.work
