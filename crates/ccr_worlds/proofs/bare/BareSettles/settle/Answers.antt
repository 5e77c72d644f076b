use Rattle.std.proofs.Common.{◌≡◌, ◌++◌, length, map, reverse, drop, ap, arith}
use Rattle.ccr_worlds.specs.Fated.{standing_of}
use Rattle.ccr_worlds.proofs.Making.{lent_fated, whole_again}
use Rattle.ccr_worlds.proofs.bare.BareSettles.settle.Goals as goal

pub invariant_of-self : goal.invariant_of-self
invariant_of-self g c =
    let all : c.self.inside.worlds.len ≡ length c.settle_each.new.worlds =
    omega (arith, c.self.inside.worlds.ok.0, ap length c.deref_mut.ensures.value, c.settle_each.auto.worlds) in
    let left = map g.P.Chooser.fate (reverse c.self.inside.left.items) in
    record {
      fated = lent_fated (λ w. standing_of g.P.Chooser.fate w.recorded w.policy) g.K.Handed.fates left c.self.inside.worlds.items c.deref_mut.result.now c.settle_each.new.worlds
          c.self.inside.worlds.len c.deref_mut.ensures.value all (c.settle_each.ensures.fated g.K.Handed.fates 0 left) c.self.invariant.fated;
      empty = c.self.invariant.empty;
      enough = omega (
        arith,
        c.self.invariant.enough,
        ap length c.deref_mut.ensures.value,
        c.settle_each.auto.worlds,
        ap length (whole_again c.self.inside.worlds.len c.settle_each.new.worlds (drop (length c.settle_each.new.worlds) c.self.inside.worlds.items) all),
      );
    }
