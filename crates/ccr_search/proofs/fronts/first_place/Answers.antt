use Rattle.std.proofs.Common.{rules, ◌∙◌, sym}
use Rattle.ccr_search.specs.Joined.{rests_in}
use Rattle.ccr_search.proofs.Merges.{first_none, first_moves, first_stays}
use Rattle.ccr_search.proofs.Pages.{rests_some, rests_of}
use Rattle.ccr_search.proofs.fronts.first_place.Goals as goal
use Rattle.ccr_search.proofs.fronts.first_place.Goals.{then-is_leading, else-is_leading}

pub loop-place-init : goal.loop-place-init
loop-place-init c = let at = rests_some c.args.fronts.now 0 c.requires.some in (first_none _ _ at.0 at.1, c.requires.some)

pub loop-place-preserved : goal.loop-place-preserved
loop-place-preserved c =
    let was = c.loop-place.invariant in
    let here = rests_of c.args.fronts.now c.loop-place.place c.index-fronts-place.result (search rules) (search rules) in
    let there = rests_of c.args.fronts.now c.loop-place.first c.index-fronts-first.result (search rules) was.1 in
    elim c.if-is_leading.branch [
      | then-is_leading w ↦ rw w.first-is (first_moves _ _ _ _ _ _ was.0 here there (sym c.is_leading.ensures ∙ w.if-is_leading.true), search rules)
      | else-is_leading w ↦ rw w.first-is (first_stays _ _ _ _ _ _ was.0 here there (sym c.is_leading.ensures ∙ w.if-is_leading.false), was.1)
    ]
