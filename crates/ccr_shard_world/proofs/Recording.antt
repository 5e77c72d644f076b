-- A world at its start and after one more event, and what may be rested on there.
use Rattle.std.proofs.Common.{◌≡◌, ℕ, ◌+◌, ◌<◌, ◌≤◌, ◌^◌, Bool, false, List, [], ◌∷◌, ◌++◌, length, sym, ◌∙◌, ap, subst, arith}
use Rattle.ccr_journal.specs.declared.events.Event.{Event}
use Rattle.ccr_journal.specs.declared.journals.Entry.{Entry}
use Rattle.ccr_journal.specs.declared.replies.Reply.{Reply}
use Rattle.ccr_model.specs.Outcomes.{Outcome}
use Rattle.ccr_model.specs.Leaders.{Start}
use Rattle.ccr_model.specs.World.{State, start_state}
use Rattle.ccr_model.specs.Fit.{IsFitEvent}
use Rattle.ccr_model.specs.Step.{step, picks_in, outcome_at, state_after}
use Rattle.ccr_model.specs.Past.{start_past, past_of}
use Rattle.ccr_model.specs.Headline.{Headline, StaysCommitted}
use Rattle.ccr_law_base.proofs.Journals.{after-append, legal-push, fit-push}
use Rattle.ccr_law_base.proofs.Picks.{same-picks}
use Rattle.ccr_law.proofs.Theorem.{headline_holds, committed_prefix}
use Rattle.ccr_law_reached.specs.Reached.{IsPossible, IsReached, IsReadyFor}
use Rattle.ccr_shard_world.specs.Recorded.{IsRecorded, IsReplyTo}

-- ---- the start, and one more event

pub recorded_start : (start : Start) (s : State) → 1 ≤ start.copies → start.copies ≤ 8 → s ≡ start_state start → IsRecorded start s [] false
recorded_start start s some few is = record {
  possible = record { count = record { some = some; few = few }; fit = record { events = tt; few = omega arith }; legal = tt };
  whole = λ whole. is;
}

-- what the event comes to, by the picks that its reply keeps
outcome_is : (s : State) (event : Event) (picks : List ℕ) (reply : Reply) → reply ≡ (step s event picks).reply → step s event (picks_in reply) ≡ step s event picks
outcome_is s event picks reply is = subst (λ (r : Reply). step s event (picks_in r) ≡ step s event picks) (sym is) (same-picks s event picks)

pub reply_to : (s : State) (event : Event) (picks : List ℕ) (reply : Reply) → reply ≡ (step s event picks).reply → IsReplyTo s event reply
reply_to s event picks reply is = is ∙ sym (ap (λ (o : Outcome State). o.reply) (outcome_is s event picks reply is))

pub possible_push : (start : Start) (entries : List Entry) (s : State) (event : Event) (reply : Reply) (picks : List ℕ) → IsPossible start entries → s ≡ state_after (start_state start) entries
    → reply ≡ (step s event picks).reply → IsFitEvent event → length entries + 1 < 2 ^ 32 → IsPossible start (entries ++ record { event = event; reply = reply } ∷ [])
possible_push start entries s event reply picks now at is fit few =
    let entry : Entry = record { event = event; reply = reply } in
    record {
      count = now.count;
      fit = fit-push entries entry now.fit.events fit few;
      legal = legal-push (start_state start) entries entry now.legal (subst (λ (x : State). reply ≡ (outcome_at x entry).reply) at (reply_to s event picks reply is));
    }

pub recorded_push : (start : Start) (entries : List Entry) (old new : State) (event : Event) (reply : Reply) (picks : List ℕ) → IsPossible start entries → old ≡ state_after (start_state start) entries
    → reply ≡ (step old event picks).reply → new ≡ (step old event picks).next → IsFitEvent event → length entries + 1 < 2 ^ 32
    → IsRecorded start new (entries ++ record { event = event; reply = reply } ∷ []) false
recorded_push start entries old new event reply picks now at is after fit few =
    let entry : Entry = record { event = event; reply = reply } in
    record {
      possible = possible_push start entries old event reply picks now at is fit few;
      whole = λ whole.
          after ∙ (sym (ap (λ (o : Outcome State). o.next) (outcome_is old event picks reply is))
          ∙ (ap (λ (x : State). (outcome_at x entry).next) at ∙ sym (after-append (start_state start) entries (entry ∷ []))));
    }

pub ruleset recording = (recorded_start, reply_to)

-- ---- what may be rested on

pub reached : (start : Start) (s : State) (entries : List Entry) (broken : Bool) → IsRecorded start s entries broken → broken ≡ false → IsReached s
reached start s entries broken now whole = record { start = start; entries = entries; possible = now.possible; is = now.whole whole }

pub ready : (start : Start) (s : State) (entries : List Entry) (broken : Bool) (event : Event) → IsRecorded start s entries broken → broken ≡ false → IsFitEvent event → length entries + 1 < 2 ^ 32
    → IsReadyFor s event
unfolding reached
ready start s entries broken event now whole fit few = record { reached = reached start s entries broken now whole; fit = fit; few = few }

pub ruleset reaching = (reached)

-- ---- the theorem

pub headline : (start : Start) (entries : List Entry) → IsPossible start entries → Headline (start_past start) entries
headline start entries now = headline_holds start now.count entries now.fit now.legal

pub prefix : (start : Start) (entries : List Entry) → IsPossible start entries → (front back : List Entry) → entries ≡ front ++ back
    → StaysCommitted (past_of (start_past start) front) (past_of (start_past start) entries)
prefix start entries now front back is =
    let whole : IsPossible start (front ++ back) = subst (IsPossible start) is now in
    subst (λ (xs : List Entry). StaysCommitted (past_of (start_past start) front) (past_of (start_past start) xs)) (sym is)
    (committed_prefix start whole.count front back whole.fit whole.legal)

pub ruleset headlines = (headline, prefix)
