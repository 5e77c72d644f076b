-- Where the kept requests are settled after an event, those that are left are kept rightly.
use Rattle.std.proofs.Common.{◌≡◌, true, false, not, filter, List, refl}
use Rattle.ccr_wire.specs.Message.{Frame}
use Rattle.ccr_journal.specs.declared.replies.Reply.{Reply}
use Rattle.ccr_journal.specs.declared.replies.Reply.TheVariants as replies
use Rattle.ccr_journal.specs.declared.replies.Refusal.{Refusal}
use Rattle.ccr_journal.specs.declared.replies.Heard.{Heard as Hearing}
use Rattle.ccr_law_base.proofs.Lists.{All-weaker, All-filter_test}
use Rattle.ccr_model.specs.Outcomes.{Outcome, refused}
use Rattle.ccr_model.specs.Copies.{Copies}
use Rattle.ccr_model.specs.Leaders.{Leader, KeptRequest}
use Rattle.ccr_model.specs.LeaderRows.{all_hold, answering_kept, settling_requests}
use Rattle.ccr_model.specs.LeaderFrames.{hears}
use Rattle.ccr_law_settling_grounds.specs.Parked.{AreKeptRightly, ArePollsThere, ArePollsOf, IsParkedRightly}
use Rattle.std.proofs.lemmas.Bool.{not-true}

-- the polls wait rightly, of the leader's history, and so do the kept requests where the event was refused
pub record IsRightToSettle (o : Outcome Leader) : Type 0 where
  pub polls : ArePollsThere o.next.copies o.next.polls
  pub own : ArePollsOf o.next.history o.next.polls
  pub kept : (why : Refusal) → o.reply ≡ replies.Refused why → AreKeptRightly o.next.copies o.next.kept

pub right_if_refused : (l : Leader) (why : Refusal) → IsParkedRightly l → IsRightToSettle (refused l why)
right_if_refused l why are = record { polls = are.polls; own = are.own; kept = λ other is. are.kept }

pub right_if_heard : (what : Hearing) (next : Leader) (sent : List Frame) → ArePollsThere next.copies next.polls → ArePollsOf next.history next.polls → IsRightToSettle (hears what next sent)
right_if_heard what next sent polls own = record { polls = polls; own = own; kept = λ why is. absurd cc }

left_kept : (s : Copies) (kept : List KeptRequest) → AreKeptRightly s (filter (λ k. not (all_hold k.id s)) kept)
left_kept s kept =
    All-weaker (λ (k : KeptRequest). not (all_hold k.id s) ≡ true) (λ (k : KeptRequest). all_hold k.id s ≡ false) (λ k left. not-true (all_hold k.id s) left)
    (filter (λ k. not (all_hold k.id s)) kept) (All-filter_test (λ k. not (all_hold k.id s)) kept)

answered_parked : (reply : Reply) (o : Outcome Leader) → ArePollsThere o.next.copies o.next.polls → ArePollsOf o.next.history o.next.polls → ((why : Refusal) → reply ≡ replies.Refused why → AreKeptRightly o.next.copies o.next.kept)
    → IsParkedRightly (answering_kept reply o).next
answered_parked (replies.Refused why) o polls own kept = record { kept = kept why refl; polls = polls; own = own }
answered_parked _ o polls own kept = record { kept = left_kept o.next.copies o.next.kept; polls = polls; own = own }

pub settled_parked : (o : Outcome Leader) → IsRightToSettle o → IsParkedRightly (settling_requests o).next
settled_parked o right = answered_parked o.reply o right.polls right.own right.kept
