use Rattle.std.proofs.Common.{◌≡◌, ℕ, ◌+◌, ◌||◌, ◌∷◌, true, nat_lt, List, subst, arith}
use Rattle.ccr_tracker.specs.Ranges.{AreApart, IsNextAbsent, covers}
use Rattle.ccr_tracker.proofs.Covered.{AreApart-lower, outside-found, outside-inside, outside-left}
use Rattle.ccr_tracker.proofs.ranges.Ranges.first_outside.Goals as goal

pub returns-then-absent-end : goal.returns-then-absent-end
returns-then-absent-end c =
    let step : c.loop-first.first-iterator ≡ (c.in-Some.first.now, c.in-Some.end.now) ∷ c.next.new.self = c.in-Some.ensures.steps in
    let apart : AreApart 0 ((c.in-Some.first.now, c.in-Some.end.now) ∷ c.next.new.self) = subst (AreApart 0) step c.loop-first.invariant.0 in
    let inside = subst (λ (rs : List (ℕ × ℕ)). (k : ℕ) → covers rs k ≡ true → covers c.args.self.now k ≡ true) step c.loop-first.invariant.1 in
    let left = subst (λ (rs : List (ℕ × ℕ)). (k : ℕ) → covers c.args.self.now k ≡ true → ((nat_lt k c.args.count || covers c.args.held.now k) || covers rs k) ≡ true)
    step c.loop-first.invariant.2 in
    let absent = subst (λ n. IsNextAbsent (covers c.args.held.now) n c.first_absent_from-absent.result) c.max.ensures c.first_absent_from-absent.ensures in
    outside-found c.args.count c.in-Some.first.now c.in-Some.end.now c.first_absent_from-absent.result c.args.self.now c.args.held.now c.next.new.self apart inside left absent c.if-absent-end.true

pub loop-first-preserved : goal.loop-first-preserved
loop-first-preserved c =
    let step : c.loop-first.first-iterator ≡ (c.in-Some.first.now, c.in-Some.end.now) ∷ c.next.new.self = c.in-Some.ensures.steps in
    let apart : AreApart 0 ((c.in-Some.first.now, c.in-Some.end.now) ∷ c.next.new.self) = subst (AreApart 0) step c.loop-first.invariant.0 in
    let inside = subst (λ (rs : List (ℕ × ℕ)). (k : ℕ) → covers rs k ≡ true → covers c.args.self.now k ≡ true) step c.loop-first.invariant.1 in
    let left = subst (λ (rs : List (ℕ × ℕ)). (k : ℕ) → covers c.args.self.now k ≡ true → ((nat_lt k c.args.count || covers c.args.held.now k) || covers rs k) ≡ true)
    step c.loop-first.invariant.2 in
    let absent = subst (λ n. IsNextAbsent (covers c.args.held.now) n c.first_absent_from-absent.result) c.max.ensures c.first_absent_from-absent.ensures in
    (AreApart-lower 0 (c.in-Some.end.now + 1) c.next.new.self (omega arith) apart.2, outside-inside c.args.count c.in-Some.first.now c.in-Some.end.now c.first_absent_from-absent.result c.args.self.now c.args.held.now c.next.new.self apart inside left absent, outside-left c.args.count c.in-Some.first.now c.in-Some.end.now c.first_absent_from-absent.result c.args.self.now c.args.held.now c.next.new.self apart inside left absent c.if-absent-end.false)
