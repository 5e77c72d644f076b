use Rattle.std.proofs.Common.{◌≡◌, length, ap, arith}
use Rattle.ccr_worlds.specs.Fated.{standing_of}
use Rattle.ccr_worlds.proofs.Making.{none_made}
use Rattle.ccr_worlds.proofs.bare.Bare.new.Goals as goal

pub invariant_of-result : goal.invariant_of-result
invariant_of-result g c = record {
  fated = none_made (λ w. standing_of g.P.Chooser.fate w.recorded w.policy) g.P.Chooser.fate g.K.Handed.fates c.new.result.items c.args.policies.items c.reverse.new.self.items
      c.new.ensures.items c.reverse.ensures.items c.requires;
  empty = c.new-2.ensures.items;
  enough = omega (arith, ap length c.new.ensures.items);
}
