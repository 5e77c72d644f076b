use Rattle.std.proofs.Common.{◌≡◌, ℕ, ◌&&◌, nat_lt, List, sym, subst, arith}
use Rattle.ccr_tracker.specs.Ranges.{AreApart, covers}
use Rattle.ccr_tracker.proofs.Covered.{cut-done, cut-removed, cut-shortened, end-last, from_not_below, removed, shortened}
use Rattle.ccr_tracker.proofs.ranges.Ranges.cut_from.Goals as goal

pub loop-first-preserved : goal.loop-first-preserved
loop-first-preserved c =
    let left = removed 0 c.in-Some.first.now c.in-Some.end.now c.loop-first.self-inside.by_start.entries c.loop-first.invariant.0 c.in-Some.ensures.value in
    let kept = cut-removed c.args.n c.loop-first.self-inside.by_start.entries c.self.inside.by_start.entries c.loop-first.invariant.1
    0 c.in-Some.first.now c.in-Some.end.now _ left c.if-first-n.false in
    subst (λ (rs : List (ℕ × ℕ)). AreApart 0 rs × ((k : ℕ) → (covers rs k && nat_lt k c.args.n) ≡ (covers c.self.inside.by_start.entries k && nat_lt k c.args.n)))
    (sym c.remove.ensures.entries) (left.apart, kept)

pub returns-then-end-n-clause-members : goal.returns-then-end-n-clause-members
returns-then-end-n-clause-members c =
    let last = end-last c.in-Some.first.now c.in-Some.end.now 0 c.loop-first.self-inside.by_start.entries c.loop-first.invariant.0 c.in-Some.ensures.value
    (λ q there. from_not_below c.in-Some.first.now q (c.in-Some.ensures.greatest q there)) in
    subst (λ (all : List (ℕ × ℕ)). (k : ℕ) → covers c.loop-first.self-inside.by_start.entries k ≡ (covers all k && nat_lt k c.args.n)) c.self.view_is
    (cut-done c.args.n c.loop-first.self-inside.by_start.entries c.self.inside.by_start.entries c.loop-first.invariant.1 c.in-Some.end.now last.1 c.if-end-n.true)

pub invariant_of-self-then-first-n : goal.invariant_of-self-then-first-n
invariant_of-self-then-first-n c =
    let short = shortened 0 c.in-Some.first.now c.in-Some.end.now c.args.n c.loop-first.self-inside.by_start.entries c.loop-first.invariant.0 c.in-Some.ensures.value
    c.if-first-n.true (omega (arith, c.if-end-n.false)) in
    subst (AreApart 0) (sym c.shorten.ensures) short.apart

pub returns-then-first-n-clause-apart : goal.returns-then-first-n-clause-apart
returns-then-first-n-clause-apart c =
    let short = shortened 0 c.in-Some.first.now c.in-Some.end.now c.args.n c.loop-first.self-inside.by_start.entries c.loop-first.invariant.0 c.in-Some.ensures.value
    c.if-first-n.true (omega (arith, c.if-end-n.false)) in
    subst (AreApart 0) (sym c.shorten.ensures) short.apart

pub returns-then-first-n-clause-members : goal.returns-then-first-n-clause-members
returns-then-first-n-clause-members c =
    let short = shortened 0 c.in-Some.first.now c.in-Some.end.now c.args.n c.loop-first.self-inside.by_start.entries c.loop-first.invariant.0 c.in-Some.ensures.value
    c.if-first-n.true (omega (arith, c.if-end-n.false)) in
    let last = end-last c.in-Some.first.now c.in-Some.end.now 0 c.loop-first.self-inside.by_start.entries c.loop-first.invariant.0 c.in-Some.ensures.value
    (λ q there. from_not_below c.in-Some.first.now q (c.in-Some.ensures.greatest q there)) in
    let cut = cut-shortened c.args.n c.loop-first.self-inside.by_start.entries c.self.inside.by_start.entries c.loop-first.invariant.1 0 c.in-Some.end.now _ short last.1 in
    subst (λ (all : List (ℕ × ℕ)). (k : ℕ) → covers c.shorten.new.by_start.entries k ≡ (covers all k && nat_lt k c.args.n)) c.self.view_is
    (subst (λ (rs : List (ℕ × ℕ)). (k : ℕ) → covers rs k ≡ (covers c.self.inside.by_start.entries k && nat_lt k c.args.n)) (sym c.shorten.ensures) cut)
