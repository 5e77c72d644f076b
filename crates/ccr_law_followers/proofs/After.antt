-- What is claimed of one follower after an event.
use Rattle.std.proofs.Common.{◌≡◌, ℕ, ◌≤◌, ◌&&◌, Bool, true, false, not, if◌then◌else◌, Option, List, refl, sym, ◌∙◌, ap, subst, arith}
use Rattle.ccr_op.specs.Operation.{Operation}
use Rattle.ccr_journal.specs.declared.events.Event.{Event}
use Rattle.ccr_journal.specs.declared.replies.Reply.{Reply}
use Rattle.ccr_model.specs.Outcomes.{Outcome}
use Rattle.ccr_model.specs.Copies.{Copies}
use Rattle.ccr_model.specs.Followers.{Follower}
use Rattle.ccr_model.specs.FollowerRows.{is_bootstrapping}
use Rattle.ccr_model.specs.Past.{Line, FollowerPast, WrittenBatch, ends_bootstrap, follower_given_after, written_after}
use Rattle.ccr_law_followers.specs.TrueCopies.{FollowerOk}
use Rattle.ccr_law_followers.proofs.One.{Extends}
use Rattle.ccr_law_followers.proofs.Several.{copies-later}

abbrev pub OkOf : Line → FollowerPast → Follower → Type 0
OkOf line past s = FollowerOk line past.given past.restored past.written (is_bootstrapping s.work) s.copies

-- the claims on the follower after an event, by the line of its history, which stays, and its primary knows no lesser global count
pub record OkAfter (line : Line) (f : ℕ) (past : FollowerPast) (event : Event) (reply : Reply) (old new : Follower) : Type 0 where
  pub ok : FollowerOk line (follower_given_after f old new line.ops past.given event reply)
      (if ends_bootstrap old new then new.copies.primary.global else past.restored) (written_after f old past.written event reply) (is_bootstrapping new.work) new.copies
  pub rises : old.copies.primary.global ≤ new.copies.primary.global
  pub stays : new.history ≡ old.history

abbrev pub RowOk : Line → ℕ → FollowerPast → Event → Follower → Outcome Follower → Type 0
RowOk line f past event s o = OkAfter line f past event o.reply s o.next

pub not_both : (b : Bool) → (b && not b) ≡ false
not_both true = refl
not_both false = refl

-- a bootstrap that goes on, or was over, doesn't end
pub unended : (s new : Follower) → is_bootstrapping new.work ≡ is_bootstrapping s.work → ends_bootstrap s new ≡ false
unended s new same = ap (λ (b : Bool). is_bootstrapping s.work && not b) same ∙ not_both (is_bootstrapping s.work)

-- an event that ends no bootstrap, where these operations were then given and these batches written
pub settled : (line : Line) (f : ℕ) (past : FollowerPast) (event : Event) (reply : Reply) (s new : Follower) (given : ℕ → ℕ → Option Operation) (written : List WrittenBatch)
    → follower_given_after f s new line.ops past.given event reply ≡ given → written_after f s past.written event reply ≡ written
    → is_bootstrapping new.work ≡ is_bootstrapping s.work → new.history ≡ s.history → s.copies.primary.global ≤ new.copies.primary.global
    → FollowerOk line given past.restored written (is_bootstrapping new.work) new.copies → OkAfter line f past event reply s new
settled line f past event reply s new given written given_is written_is same stays rises ok = record {
  ok = subst (λ (g : ℕ → ℕ → Option Operation). FollowerOk line g (if ends_bootstrap s new then new.copies.primary.global else past.restored)
      (written_after f s past.written event reply) (is_bootstrapping new.work) new.copies) (sym given_is)
      (subst (λ (w : List WrittenBatch). FollowerOk line given (if ends_bootstrap s new then new.copies.primary.global else past.restored) w (is_bootstrapping new.work) new.copies)
      (sym written_is)
      (subst (λ (b : Bool). FollowerOk line given (if b then new.copies.primary.global else past.restored) written (is_bootstrapping new.work) new.copies)
      (sym (unended s new same)) ok));
  rises = rises;
  stays = stays;
}

-- the copies and the history are as they were, and the bootstrap goes on or was over
pub record Keeps (s new : Follower) : Type 0 where
  pub copies : new.copies ≡ s.copies
  pub work : is_bootstrapping new.work ≡ is_bootstrapping s.work
  pub history : new.history ≡ s.history

pub kept : (line : Line) (f : ℕ) (past : FollowerPast) (event : Event) (reply : Reply) (s new : Follower)
    → follower_given_after f s new line.ops past.given event reply ≡ past.given → written_after f s past.written event reply ≡ past.written
    → Keeps s new → OkOf line past s → OkAfter line f past event reply s new
kept line f past event reply s new given_is written_is same ok =
    settled line f past event reply s new past.given past.written given_is written_is same.work same.history
    (subst (λ (t : Copies). s.copies.primary.global ≤ t.primary.global) (sym same.copies) (omega arith))
    (subst (λ (t : Copies). FollowerOk line past.given past.restored past.written (is_bootstrapping new.work) t) (sym same.copies)
    (subst (λ (b : Bool). FollowerOk line past.given past.restored past.written b s.copies) (sym same.work) ok))

-- the line goes on
pub ok-later : (line later : Line) (given : ℕ → ℕ → Option Operation) (restored : ℕ) (written : List WrittenBatch) (bootstrapping : Bool) (s : Copies) → Extends line later
    → FollowerOk line given restored written bootstrapping s → FollowerOk later given restored written bootstrapping s
ok-later line later given restored written bootstrapping s on ok = record {
  copies = copies-later line later given restored written s.primary s.replicas s.next on ok.copies;
  counted = ok.counted;
  fresh = ok.fresh;
}
