-- What a write of an epoch comes to.
use Rattle.std.proofs.Common.{◌≡◌, ℕ, nat_lt, Bool, true, false, if◌then◌else◌, List, sym, ◌∙◌, ap}
use Rattle.ccr_op.specs.Operation.{Operation}
use Rattle.ccr_journal.specs.declared.replies.Reply.TheVariants as replies
use Rattle.ccr_journal.specs.declared.replies.Refusal.TheVariants.{OldEpoch}
use Rattle.ccr_model.specs.Outcomes.{answered, refused, guarded}
use Rattle.ccr_model.specs.Copies.{Copies}
use Rattle.ccr_model.specs.FollowerRows.{applied, new_in}
use Rattle.ccr_follower.specs.Engine.{Engine, with_copies, engine_apply_row}

-- its epoch is over
pub apply-over : (e : Engine) (epoch : ℕ) (batch : List Operation) → nat_lt epoch e.epoch ≡ true → engine_apply_row e epoch batch ≡ refused e (OldEpoch e.epoch)
unfolding engine_apply_row guarded
apply-over e epoch batch over =
    ap (λ (b : Bool). if b then refused e (OldEpoch e.epoch) else answered (replies.Applied (new_in e.copies.primary.seen batch)) (with_copies e (applied batch e.copies))) over

-- its epoch is not over, and the copies took it
pub apply-taken : (e : Engine) (epoch new : ℕ) (batch taken : List Operation) (after : Copies) → nat_lt epoch e.epoch ≡ false
    → taken ≡ batch → new ≡ new_in e.copies.primary.seen taken → after ≡ applied taken e.copies → engine_apply_row e epoch batch ≡ answered (replies.Applied new) (with_copies e after)
unfolding engine_apply_row guarded
apply-taken e epoch new batch taken after kept same told ok =
    ap (λ (b : Bool). if b then refused e (OldEpoch e.epoch) else answered (replies.Applied (new_in e.copies.primary.seen batch)) (with_copies e (applied batch e.copies))) kept
    ∙ (ap (λ (ops : List Operation). answered (replies.Applied (new_in e.copies.primary.seen ops)) (with_copies e (applied ops e.copies))) (sym same)
    ∙ (ap (λ (n : ℕ). answered (replies.Applied n) (with_copies e (applied taken e.copies))) (sym told)
    ∙ ap (λ (copies : Copies). answered (replies.Applied new) (with_copies e copies)) (sym ok)))
