use Rattle.std.proofs.Common.{◌≡◌, ◌∙◌, eqb, true, false, length, refl, sym, eq-eqb, rules, arith}
use Rattle.std.proofs.lemmas.Bool.{ne_eqb}
use Rattle.std.specs.Prelude.{not}
use Rattle.std.proofs.lemmas.Result.{err_from_is_err_and}
use Rattle.ccr_segment.specs.Segment.{version_for}
use Rattle.ccr_segment.specs.Index.{least_after}
use Rattle.ccr_segment.proofs.PlaceLaws.{tells_on, ends, is_done, total}
use Rattle.ccr_segment.proofs.reading.read_rest.Goals as goal

pub returns-in_err-seq : goal.returns-in_err-seq
returns-in_err-seq c =
    let p = err_from_is_err_and c.from_residual.result c.from_residual.ensures.1 in
    rw (p.1, p.2) (ends c.in_err-seq.field-0.0 c.loop.places.items c.loop.routed c.args.version c.loop.start (least_after c.loop.before) c.args.number c.loop.counter c.loop.rest.now c.args.bytes.now c.loop-test.true c.in_err-seq.ensures.read c.loop.invariant.0)

pub loop-preserved : goal.loop-preserved
loop-preserved c = (
  rw c.in_ok-push.ensures.items (tells_on c.loop.places.items c.loop.routed c.args.version c.loop.start (least_after c.loop.before) c.args.number c.loop.counter c.loop.rest.now c.in_ok-seq.seq c.in_ok-seq.size c.in_ok-seq.is_routed c.in_ok-seq.after.now (total c.args.version c.args.number c.args.bytes.now) c.loop-test.true c.in_ok-seq.ensures.read c.loop.invariant.0),
  omega (arith, c.in_ok-seq.ensures.size, c.loop.invariant.1),
)

pub returns-then-not-is_empty : goal.returns-then-not-is_empty
returns-then-not-is_empty c =
    let left : not (eqb (length c.loop.rest.now) 0) ≡ true = first_of (cc, search rules, grind arith) in
    is_done c.loop.places.items c.loop.routed c.args.version c.loop.start (least_after c.loop.before) c.args.number c.loop.counter c.loop.rest.now c.args.bytes.now c.loop-test.false c.loop.invariant.0 ∙ rw left refl

pub returns-then-version-version_for : goal.returns-then-version-version_for
returns-then-version-version_for c =
    let none : not (eqb (length c.loop.rest.now) 0) ≡ false = first_of (cc, search rules, grind arith) in
    let other : eqb c.args.version (version_for c.loop.routed) ≡ false = ne_eqb _ _ (λ e. c.if-version-version_for.true (e ∙ sym c.version_for.ensures)) in
    is_done c.loop.places.items c.loop.routed c.args.version c.loop.start (least_after c.loop.before) c.args.number c.loop.counter c.loop.rest.now c.args.bytes.now c.loop-test.false c.loop.invariant.0 ∙ rw (none, other) refl

pub returns : goal.returns
returns c =
    let none : not (eqb (length c.loop.rest.now) 0) ≡ false = first_of (cc, search rules, grind arith) in
    let same : eqb c.args.version (version_for c.loop.routed) ≡ true = eq-eqb _ _ (c.if-version-version_for.false ∙ c.version_for.ensures) in
    is_done c.loop.places.items c.loop.routed c.args.version c.loop.start (least_after c.loop.before) c.args.number c.loop.counter c.loop.rest.now c.args.bytes.now c.loop-test.false c.loop.invariant.0 ∙ rw (none, same) refl
