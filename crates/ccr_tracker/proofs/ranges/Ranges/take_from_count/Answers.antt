use Rattle.std.proofs.Common.{◌≡◌, ℕ, ◌+◌, ◌||◌, ◌∷◌, nat_lt, List, sym, ◌∙◌, ap, subst, arith}
use Rattle.ccr_tracker.specs.Ranges.{AreApart, covers}
use Rattle.ccr_tracker.proofs.Covered.{AreApart-lower, begins-above, popped, taken}
use Rattle.ccr_tracker.proofs.ranges.Ranges.take_from_count.Goals as goal

pub loop-first-preserved : goal.loop-first-preserved
loop-first-preserved c =
    let first = c.in-Some.first.now in
    let end = c.in-Some.end.now in
    let left = c.pop_first.new.self.entries in
    let is : c.loop-first.self-inside.by_start.entries ≡ (first, end) ∷ left = popped first end c.loop-first.self-inside.by_start.entries left c.pop_first.result c.in-Some.ensures.first c.pop_first.ensures.variant c.pop_first.ensures.removal in
    let apart : AreApart 0 ((first, end) ∷ left) = subst (AreApart 0) is c.loop-first.invariant.0 in (
      AreApart-lower 0 (end + 1) left (omega arith) apart.2,
      λ k.
          ap (λ n. nat_lt k n || covers left k) c.max-count.ensures ∙ taken c.loop-first.count first end 0 left apart c.if-first-count.false k
          ∙ ap (λ (rs : List (ℕ × ℕ)). nat_lt k c.loop-first.count || covers rs k) (sym is) ∙ c.loop-first.invariant.1 k,
    )

pub returns-then-first-count-clause-apart : goal.returns-then-first-count-clause-apart
returns-then-first-count-clause-apart c =
    begins-above c.loop-first.count c.in-Some.first.now c.in-Some.end.now 0 c.loop-first.self-inside.by_start.entries c.loop-first.invariant.0 c.in-Some.ensures.first c.if-first-count.true
