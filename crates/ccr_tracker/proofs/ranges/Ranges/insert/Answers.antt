use Rattle.std.proofs.Common.{◌≡◌, ℕ, ◌+◌, ◌||◌, ◌==◌, false, List, sym, subst, arith}
use Rattle.ccr_tracker.specs.Ranges.{AreApart, covers, end_from, start_of}
use Rattle.ccr_tracker.proofs.Covered.{joined, number-put}
use Rattle.ccr_tracker.proofs.ranges.Ranges.insert.Goals as goal

pub invariant_of-self-2 : goal.invariant_of-self-2
invariant_of-self-2 c =
    let starts = subst (λ (rs : List (ℕ × ℕ)). c.start_of-start.result ≡ start_of rs c.args.n) (sym c.self.view_is) c.start_of-start.ensures in
    let ends = subst (λ (rs : List (ℕ × ℕ)). c.end_from-end.result ≡ end_from rs (c.args.n + 1)) (sym c.self.view_is) c.end_from-end.ensures in
    let absent : covers c.self.inside.by_start.entries c.args.n ≡ false = subst (λ (rs : List (ℕ × ℕ)). covers rs c.args.n ≡ false) (sym c.self.view_is) c.requires.absent in
    let now = number-put c.args.n c.start_of-start.result c.end_from-end.result c.self.inside.by_start.entries c.insert.new.self.entries c.remove.new.self.entries
    starts ends c.in_ok-insert.ensures.entries c.remove.ensures.entries in
    let with = joined c.args.n 0 c.self.inside.by_start.entries c.self.invariant (omega arith) absent in
    subst (AreApart 0) (sym now) with.apart

pub returns-clause-apart : goal.returns-clause-apart
returns-clause-apart c =
    let starts = subst (λ (rs : List (ℕ × ℕ)). c.start_of-start.result ≡ start_of rs c.args.n) (sym c.self.view_is) c.start_of-start.ensures in
    let ends = subst (λ (rs : List (ℕ × ℕ)). c.end_from-end.result ≡ end_from rs (c.args.n + 1)) (sym c.self.view_is) c.end_from-end.ensures in
    let absent : covers c.self.inside.by_start.entries c.args.n ≡ false = subst (λ (rs : List (ℕ × ℕ)). covers rs c.args.n ≡ false) (sym c.self.view_is) c.requires.absent in
    let now = number-put c.args.n c.start_of-start.result c.end_from-end.result c.self.inside.by_start.entries c.insert.new.self.entries c.remove.new.self.entries
    starts ends c.in_ok-insert.ensures.entries c.remove.ensures.entries in
    let with = joined c.args.n 0 c.self.inside.by_start.entries c.self.invariant (omega arith) absent in
    subst (AreApart 0) (sym now) with.apart

pub returns-clause-members : goal.returns-clause-members
returns-clause-members c =
    let starts = subst (λ (rs : List (ℕ × ℕ)). c.start_of-start.result ≡ start_of rs c.args.n) (sym c.self.view_is) c.start_of-start.ensures in
    let ends = subst (λ (rs : List (ℕ × ℕ)). c.end_from-end.result ≡ end_from rs (c.args.n + 1)) (sym c.self.view_is) c.end_from-end.ensures in
    let absent : covers c.self.inside.by_start.entries c.args.n ≡ false = subst (λ (rs : List (ℕ × ℕ)). covers rs c.args.n ≡ false) (sym c.self.view_is) c.requires.absent in
    let now = number-put c.args.n c.start_of-start.result c.end_from-end.result c.self.inside.by_start.entries c.insert.new.self.entries c.remove.new.self.entries
    starts ends c.in_ok-insert.ensures.entries c.remove.ensures.entries in
    let with = joined c.args.n 0 c.self.inside.by_start.entries c.self.invariant (omega arith) absent in
    subst (λ (all : List (ℕ × ℕ)). (k : ℕ) → covers c.remove.new.self.entries k ≡ (covers all k || (k == c.args.n))) c.self.view_is
    (subst (λ (rs : List (ℕ × ℕ)). (k : ℕ) → covers rs k ≡ (covers c.self.inside.by_start.entries k || (k == c.args.n))) (sym now) with.members)
