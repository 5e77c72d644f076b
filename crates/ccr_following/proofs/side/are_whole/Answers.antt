use Rattle.std.specs.List.{list_all}
use Rattle.std.proofs.Common.{◌≡◌, ℕ, Bool, true, false, ◌&&◌, refl, sym, ap, ◌∙◌, drop}
use Rattle.ccr_model.specs.Copies.{Copy}
use Rattle.ccr_model.specs.Settled.{is_whole}
use Rattle.ccr_following.proofs.Wholeness.{copies_of, whole-none, whole-not, whole-rest}
use Rattle.ccr_following.proofs.side.are_whole.Goals as goal

both : (first all rest value : Bool) → first ≡ true → rest ≡ all → rest ≡ value → value ≡ (first && all)
both first all rest value holds same is = sym is ∙ (same ∙ ap (λ (b : Bool). b && all) (sym holds))

pub returns-in_default : goal.returns-in_default
returns-in_default c =
    both (is_whole c.args.count c.args.copies.now.primary) (list_all (is_whole c.args.count) (copies_of c.args.copies.now.replicas))
    (list_all (is_whole c.args.count) (copies_of (drop c.loop-place.place c.args.copies.now.replicas))) true
    (ap (λ (p : Copy). is_whole c.args.count p) (sym c.primary.ensures) ∙ (sym c.is_whole.ensures ∙ c.if-not-is_whole.false)) c.loop-place.invariant
    (whole-none c.args.count c.loop-place.place c.args.copies.now.replicas c.in_default.ensures.value)

pub returns-then-not-is_whole-2 : goal.returns-then-not-is_whole-2
returns-then-not-is_whole-2 c =
    both (is_whole c.args.count c.args.copies.now.primary) (list_all (is_whole c.args.count) (copies_of c.args.copies.now.replicas))
    (list_all (is_whole c.args.count) (copies_of (drop c.loop-place.place c.args.copies.now.replicas))) false
    (ap (λ (p : Copy). is_whole c.args.count p) (sym c.primary.ensures) ∙ (sym c.is_whole.ensures ∙ c.if-not-is_whole.false)) c.loop-place.invariant
    (whole-not c.args.count c.loop-place.place c.args.copies.now.replicas c.in-Some.replica.now c.in-Some.ensures.value
    (ap (λ (p : Copy). is_whole c.args.count p) (sym c.copy.ensures) ∙ (sym c.is_whole-in-loop-place.ensures ∙ c.if-not-is_whole-2.true)))

pub loop-place-preserved : goal.loop-place-preserved
loop-place-preserved c =
    whole-rest c.args.count c.loop-place.place c.args.copies.now.replicas c.in-Some.replica.now c.in-Some.ensures.value
    (ap (λ (p : Copy). is_whole c.args.count p) (sym c.copy.ensures) ∙ (sym c.is_whole-in-loop-place.ensures ∙ c.if-not-is_whole-2.false))
    ∙ c.loop-place.invariant
