use Rattle.ccr_deeds.specs.Settles.{IsSettled}
use Rattle.ccr_worlds.specs.Fated.{standing_of}
use Rattle.ccr_worlds.proofs.Turns.{UpTo, Turn}
use Rattle.ccr_worlds.proofs.settling.settle_each.Given as goal

abbrev pub invariant-loop-world : goal.invariant-loop-world
invariant-loop-world g l = UpTo (Turn (λ w. standing_of g.P.Chooser.fate w.recorded w.policy) IsSettled) l.world-index l.initial.worlds l.worlds
