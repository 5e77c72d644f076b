-- A batch of an old epoch is refused and changes nothing.
use Rattle.std.proofs.Common.{◌≡◌, ℕ, zero, suc, ◌<◌, Option, Some, None, List, [], ◌∷◌, ◌++◌, slice_get, slice_set, refl, sym, ap, ◌∙◌, subst, append-nil}
use Rattle.std.proofs.lemmas.Bool.{lt-ltb}
use Rattle.ccr_op.specs.Operation.{Operation}
use Rattle.ccr_wire.specs.Message.{Frame}
use Rattle.ccr_journal.specs.declared.events.Event.{Event}
use Rattle.ccr_journal.specs.declared.events.Event.TheVariants as events
use Rattle.ccr_journal.specs.declared.journals.Entry.{Entry}
use Rattle.ccr_journal.specs.declared.replies.Reply.{Reply}
use Rattle.ccr_journal.specs.declared.replies.Reply.TheVariants as replies
use Rattle.ccr_journal.specs.declared.replies.Refusal.TheVariants.{OldEpoch}
use Rattle.ccr_model.specs.Outcomes.{Outcome, guarded}
use Rattle.ccr_model.specs.Followers.{Follower}
use Rattle.ccr_model.specs.FollowerRows.{Sent, apply_row, sent_write}
use Rattle.ccr_model.specs.World.{State, for_follower}
use Rattle.ccr_model.specs.Step.{step, picks_in}
use Rattle.ccr_model.specs.Past.{Past, past_after}
use Rattle.ccr_model.specs.Headline.{RefusesOldEpoch}
use Rattle.ccr_law_base.specs.Events.{IsLegalAt}
use Rattle.ccr_law_base.proofs.Lists.{some_equal}

-- an element is put where it stands
pub set_same : (xs : List Follower) (n : ℕ) (x : Follower) → slice_get xs n ≡ Some x → slice_set xs n x ≡ xs
set_same [] n x is = cc
set_same (y ∷ xs) zero x is = ap (λ (z : Follower). z ∷ xs) (sym (some_equal y x is))
set_same (y ∷ xs) (suc n) x is = ap (λ (zs : List Follower). y ∷ zs) (set_same xs n x is)

-- the batch is refused
pub refused_old : (s : Follower) (epoch number : ℕ) (batch : List Operation) (found : Option Sent) → epoch < s.epoch
    → apply_row s epoch number batch found ≡ record { reply = replies.Refused (OldEpoch s.epoch); next = s; sent = [] }
unfolding apply_row guarded
refused_old s epoch number batch found less = rw (lt-ltb epoch s.epoch less) refl

abbrev pub IsRefusedOld : State → ℕ → ℕ → Outcome State → Type 0
IsRefusedOld s f epoch o = (own : Follower) → slice_get s.followers f ≡ Some own → epoch < own.epoch → (o.reply ≡ replies.Refused (OldEpoch own.epoch)) × (o.next ≡ s)

-- a refusal of a follower changes nothing in the world
pub unmoved : (s : State) (f : ℕ) (own : Follower) → slice_get s.followers f ≡ Some own
    → record s { followers = slice_set s.followers f own; flight = s.flight ++ [] } ≡ s
unmoved s f own is =
    ap (λ (followers : List Follower). record s { followers = followers; flight = s.flight ++ [] }) (set_same s.followers f own is)
    ∙ ap (λ (flight : List Frame). record s { flight = flight }) (append-nil s.flight)

pub old_epoch_at : (s : State) (f epoch write : ℕ) (batch : List Operation) (found : Option Follower) → slice_get s.followers f ≡ found
    → IsRefusedOld s f epoch (for_follower s f (λ x. apply_row x epoch write batch (sent_write x.work write)) found)
old_epoch_at s f epoch write batch None none own is less = cc
old_epoch_at s f epoch write batch (Some x) found own is less =
    let same : x ≡ own = some_equal x own (sym found ∙ is) in
    subst (λ (y : Follower). (for_follower s f (λ x. apply_row x epoch write batch (sent_write x.work write)) (Some y)).reply ≡ replies.Refused (OldEpoch own.epoch)
    × (for_follower s f (λ x. apply_row x epoch write batch (sent_write x.work write)) (Some y)).next ≡ s) (sym same)
    (subst (λ (o : Outcome Follower). (o.reply ≡ replies.Refused (OldEpoch own.epoch)) × (record s { followers = slice_set s.followers f o.next; flight = s.flight ++ o.sent } ≡ s))
    (sym (refused_old own epoch write batch (sent_write own.work write) less)) (refl, unmoved s f own is))

pub old_epoch_by : (p : Past) (event : Event) (picks : List ℕ) → RefusesOldEpoch p.state (step p.state event picks).next event (step p.state event picks).reply
old_epoch_by p (events.Apply f epoch write batch) picks = old_epoch_at p.state f epoch write batch (slice_get p.state.followers f) refl
old_epoch_by p _ picks = tt

pub old_epoch_of : (p : Past) (entry : Entry) → IsLegalAt p entry → RefusesOldEpoch p.state (past_after p entry).state entry.event entry.reply
old_epoch_of p entry legal =
    subst (λ (reply : Reply). RefusesOldEpoch p.state (step p.state entry.event (picks_in entry.reply)).next entry.event reply) (sym legal)
    (old_epoch_by p entry.event (picks_in entry.reply))
