-- A reply to a read that was sent.
use Rattle.std.proofs.Common.{◌≡◌, ℕ, List, [], Option, Some, sym, ap, subst}
use Rattle.ccr_wire.specs.Message.{Frame}
use Rattle.ccr_op.specs.Operation.{Operation}
use Rattle.ccr_wire.specs.declared.content.Content.{Content}
use Rattle.ccr_wire.specs.declared.content.Content.TheVariants as contents
use Rattle.ccr_model.specs.Tasks.{Task, Read, after_reply, filled_if_active}
use Rattle.ccr_task.specs.Does.{Did}
use Rattle.ccr_task.specs.declared.task.Taken.TheVariants as takens
use Rattle.ccr_task.specs.Takes.{Takes}

-- a reply to a read
pub takes-reply : (t new : Task) (content : Content) (found : Option Read) (r : Read) (from global : ℕ) (ops brought : List Operation) (asks : List Frame) → found ≡ Some r → content ≡ contents.ReadReply from global ops
    → brought ≡ ops → Did new [] asks (filled_if_active (after_reply t r global brought)) → Takes t content found (takens.Kept asks) new
takes-reply t new content found r from global ops brought asks sent says same did =
    subst (λ (o : Option Read). Takes t content o (takens.Kept asks) new) (sym sent)
    (subst (λ (m : Content). Takes t m (Some r) (takens.Kept asks) new) (sym says)
    (subst (λ (xs : List Operation). (takens.Kept asks ≡ takens.Kept (filled_if_active (after_reply t r global xs)).sent) × (new ≡ (filled_if_active (after_reply t r global xs)).next)) same
    (ap (λ (ms : List Frame). takens.Kept ms) did.sent, did.next)))
