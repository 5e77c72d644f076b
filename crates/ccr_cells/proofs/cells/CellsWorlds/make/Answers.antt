use Rattle.std.proofs.Common.{◌≡◌, ◌++◌, ◌∷◌, [], length, map, reverse, ap, ◌∙◌, arith}
use Rattle.std.specs.Prelude.{vec_capacity}
use Rattle.ccr_worlds.proofs.Making.{none_left}
use Rattle.ccr_cells.specs.Opened.{opening_of}
use Rattle.ccr_cells.proofs.Policies.{next_left}
use Rattle.ccr_cells.proofs.Turns.{one_made}
use Rattle.ccr_cells.proofs.cells.CellsWorlds.make.Goals as goal

pub invariant_of-self-2 : goal.invariant_of-self-2
invariant_of-self-2 g c =
    let count : length c.self.inside.passes.items ≡ c.len-number.result =
    omega (arith, c.len-number.ensures, c.reserve-3.new.self.ok.0, ap length c.reserve-3.ensures.items) in
    one_made g.K.Handed.fates c.self.inside.cells.items c.put.new.list.items c.self.inside.passes.items c.put-2.new.list.items
    (map g.P.Chooser.fate (reverse c.pop-policy.new.self.items)) c.reserve.new.self.items (vec_capacity c.reserve.new.self) c.in-Ok.cell c.in-Ok.pass c.new-2.result
    c.len-number.result c.start_of.result c.self.invariant.only c.self.invariant.numbered
    (c.put.ensures.items ∙ ap (λ cells. cells ++ c.in-Ok.cell ∷ []) c.reserve-2.ensures.items)
    (c.put-2.ensures.items ∙ ap (λ passes. passes ++ c.in-Ok.pass ∷ []) c.reserve-3.ensures.items)
    c.in-Ok.ensures.own c.in-Ok.ensures.first c.in-Ok.ensures.view c.in-Ok.ensures.owns (ap opening_of (c.new-2.ensures ∙ c.in_ok-world.ensures)) count
    (next_left g.P.Chooser.fate g.K.Handed.fates (length c.self.inside.passes.items) c.self.inside.left.items c.pop-policy.new.self.items c.pop-policy.result c.pop-policy.ensures.items
    (none_left _ _ c.self.inside.left.items c.pop-policy.new.self.items c.pop-policy.result _ c.pop-policy.ensures.cases c.pop-policy.ensures.rest)
    (c.self.invariant.handed c.if-self.false)).1
    (c.reserve.ensures.items ∙ c.self.invariant.empty)
    (omega (arith, c.self.inside.passes.ok.0, c.len.ensures, c.in-Some.ensures, c.in_ok-reserve.ensures.ok))
