use Rattle.std.proofs.Common.{◌≡◌, ◌∙◌, ◌-◌, refl, sym, length, take, drop, arith}
use Rattle.std.proofs.lemmas.Result.{err_from_is_err_and}
use Rattle.std.proofs.lemmas.List.{take_all, length-drop}
use Rattle.ccr_segment.specs.Index.{least_after}
use Rattle.ccr_segment.proofs.PlaceLaws.{next_barred, next_fault, next_low, next_is, of_not_true, of_not_false}
use Rattle.ccr_segment.proofs.reading.read_next.Goals as goal

pub returns-then-is_barred-clause-read : goal.returns-then-is_barred-clause-read
returns-then-is_barred-clause-read c = next_barred c.args.version (least_after c.args.before) c.args.bytes.now (sym c.is_barred.ensures ∙ c.if-is_barred.true)

pub returns-then-not-is_above-clause-read : goal.returns-then-not-is_above-clause-read
returns-then-not-is_above-clause-read c =
    next_low c.args.version (least_after c.args.before) c.args.bytes.now c.in_ok-seq.seq c.in_ok-seq.size (λ i. omega (arith, c.type_inv.bytes i)) (sym c.is_barred.ensures ∙ c.if-is_barred.false) (sym c.in_ok-seq.ensures.exact) (of_not_false _ (sym c.is_above.ensures ∙ c.if-not-is_above.true))

pub returns-in_err-seq-clause-read : goal.returns-in_err-seq-clause-read
returns-in_err-seq-clause-read c =
    let p = err_from_is_err_and c.from_residual.result c.from_residual.ensures.1 in
    rw (p.1, p.2) (next_fault c.args.version (least_after c.args.before) c.args.bytes.now c.in_err-seq.field-0.0 (sym c.is_barred.ensures ∙ c.if-is_barred.false) (sym c.in_err-seq.ensures.exact))

pub returns-clause-read : goal.returns-clause-read
returns-clause-read c =
    let bytes = c.args.bytes.now in
    let size = c.in_ok-seq.size in
    let whole : take (length bytes - size) (drop size bytes) ≡ drop size bytes = take_all (length bytes - size) (drop size bytes) (omega (arith, length-drop size bytes)) in
    next_is c.args.version (least_after c.args.before) bytes c.in_ok-seq.seq size (λ i. omega (arith, c.type_inv.bytes i)) (sym c.is_barred.ensures ∙ c.if-is_barred.false) (sym c.in_ok-seq.ensures.exact) (of_not_true _ (sym c.is_above.ensures ∙ c.if-not-is_above.false))
    ∙ rw (whole, c.is_routed-routed.ensures) refl
