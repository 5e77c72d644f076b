use Rattle.std.proofs.Common.{◌≡◌, ◌≤◌, ◌+◌, ◌++◌, ◌∷◌, [], length, refl, ap, ◌∙◌, arith, length-append}
use Rattle.std.specs.Prelude.{vec_capacity}
use Rattle.ccr_worlds.specs.Fated.{log_of, standing_of}
use Rattle.ccr_worlds.proofs.Making.{made, none_left}
use Rattle.ccr_worlds.proofs.bare.BareWorlds.make.Goals as goal

pub invariant_of-self-2 : goal.invariant_of-self-2
invariant_of-self-2 g c =
    let world = record c.in_ok-world.world { policy = c.pop.result } in
    let grew = c.put.ensures.items ∙ ap (λ ws. ws ++ world ∷ []) c.reserve-2.ensures.items in
    record {
      fated = made (λ w. standing_of g.P.Chooser.fate w.recorded w.policy) g.P.Chooser.fate g.K.Handed.fates c.self.inside.worlds.items c.put.new.list.items world c.self.inside.left.items
          c.pop.new.self.items c.pop.result c.start_of.result grew (ap log_of c.in_ok-world.ensures.recorded) refl c.pop.ensures.items
          (none_left _ _ c.self.inside.left.items c.pop.new.self.items c.pop.result _ c.pop.ensures.cases c.pop.ensures.rest) c.self.invariant.fated;
      empty = c.reserve.ensures.items ∙ c.self.invariant.empty;
      enough = omega (arith, ap length grew, length-append c.self.inside.worlds.items (world ∷ []), c.self.inside.worlds.ok.0, c.len.ensures, c.in-Some.ensures, c.in_ok-reserve.ensures.ok);
    }
