use Rattle.std.proofs.Common.{◌≡◌, ◌≢◌, [], ap, subst, Ok, arith}
use Rattle.ccr_lines.specs.Lines.{rest_of, HasLine}
use Rattle.ccr_lines.proofs.Parts.{has-line}
use Rattle.ccr_lines.proofs.lines.Lines.next.Goals as goal

pub returns-then-self-eq-MOST_LINES-clause-too_many : goal.returns-then-self-eq-MOST_LINES-clause-too_many
returns-then-self-eq-MOST_LINES-clause-too_many g c _ =
    let more = c.in_ok-has_more.ensures.more (ap (λ b. Ok b) c.if-not-branch.false) in
    let some : c.has_more.new.chunk.bytes ≢ [] = more.0 in
    let number : c.self.inside.number ≡ c.args.self.now.number = ap (λ r. r.number) c.self.view_is in
    let pending : c.self.inside.chunk.bytes ≡ c.args.self.now.pending = ap (λ r. r.pending) c.self.view_is in
    let here : HasLine (rest_of c.self.inside.chunk.bytes (g.S.Source.left c.args.from.now)) =
    subst (λ o. HasLine o) c.in_ok-has_more.ensures.rest (has-line c.has_more.new.chunk.bytes (g.S.Source.left c.has_more.new.from) some) in
    (subst (λ xs. HasLine (rest_of xs (g.S.Source.left c.args.from.now))) pending here, omega arith)
