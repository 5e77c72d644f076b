use Rattle.std.proofs.Common.{◌≡◌, ap, true, false, Ok}
use Rattle.std.specs.Prelude.{Err}
use Rattle.ccr_lines.specs.declared.chunks.Refused.TheVariants.{TooLong}
use Rattle.ccr_lines.proofs.Parts.{breaks-off, line-ends, line-finishes, over}
use Rattle.ccr_lines.proofs.lines.read_line.Goals as goal

pub returns-in-Err-TooLong-clause-too_long : goal.returns-in-Err-TooLong-clause-too_long
returns-in-Err-TooLong-clause-too_long g c _ =
    let refused : c.give.result ≡ Err TooLong = cc in
    over _ (g.S.Source.left c.pieces.from) c.pieces.chunk.bytes c.pieces.bytes.items _ c.pieces.invariant.plain c.pieces.invariant.taken (c.give.ensures.too_long refused)

pub returns-in-Ok-true-clause-line : goal.returns-in-Ok-true-clause-line
returns-in-Ok-true-clause-line g c =
    let ended : c.give.result ≡ Ok true = cc in
    line-ends _ (g.S.Source.left c.pieces.from) c.pieces.chunk.bytes c.give.new.self.bytes c.pieces.bytes.items c.give.new.line.items
    c.pieces.invariant.plain c.pieces.invariant.taken (c.give.ensures.ended ended)

pub returns-in_err-has_more-clause-broken_off : goal.returns-in_err-has_more-clause-broken_off
returns-in_err-has_more-clause-broken_off g c _ =
    let went : c.give.result ≡ Ok false = cc in
    breaks-off _ (g.S.Source.left c.pieces.from) (g.S.Source.left c.has_more.new.from) c.pieces.chunk.bytes c.give.new.self.bytes c.has_more.new.chunk.bytes
    c.pieces.bytes.items c.give.new.line.items c.pieces.invariant.plain c.pieces.invariant.taken (c.give.ensures.goes_on went)
    c.has_more.ensures.rest c.in_err-has_more.ensures.none.0

pub returns-then-not-branch-clause-line : goal.returns-then-not-branch-clause-line
returns-then-not-branch-clause-line g c =
    let went : c.give.result ≡ Ok false = cc in
    let end = c.in_ok-has_more.ensures.end (ap (λ b. Ok b) c.if-not-branch.true) in
    line-finishes _ (g.S.Source.left c.pieces.from) (g.S.Source.left c.has_more.new.from) c.pieces.chunk.bytes c.give.new.self.bytes c.has_more.new.chunk.bytes c.pieces.bytes.items c.give.new.line.items
    c.pieces.invariant.plain c.pieces.invariant.taken c.pieces.invariant.begun (c.give.ensures.goes_on went)
    c.in_ok-has_more.ensures.rest end.0 end.2
