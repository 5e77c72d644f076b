-- A run of settling grows by an entry, and ends.
use Rattle.std.proofs.Common.{◌≡◌, ℕ, true, List, [], ◌∷◌, ◌++◌, refl, sym, ◌∙◌, ap, subst}
use Rattle.std.proofs.lemmas.List.{append_assoc, append-nil}
use Rattle.ccr_journal.specs.declared.events.Event.TheVariants as events
use Rattle.ccr_journal.specs.declared.replies.Reply.TheVariants as replies
use Rattle.ccr_journal.specs.declared.journals.Entry.{Entry}
use Rattle.ccr_journal.specs.declared.replies.Reply.{Reply}
use Rattle.ccr_model.specs.Leaders.{Start}
use Rattle.ccr_model.specs.Outcomes.{guarded}
use Rattle.ccr_model.specs.World.{State, start_state}
use Rattle.ccr_model.specs.Step.{step, picks_in, outcome_at, state_after}
use Rattle.ccr_model.specs.Settled.{is_settled}
use Rattle.ccr_model.specs.Settling.{MaySettle}
use Rattle.ccr_model.specs.Past.{Past, start_past, past_after, past_of}
use Rattle.ccr_law_base.specs.Events.{IsLegalAt}
use Rattle.ccr_law_base.proofs.Journals.{after_legal, state-of, past-append, after-append}
use Rattle.ccr_law_settling.specs.Measure.{IsBelow}
use Rattle.ccr_law_settling.specs.Lowering.{measure_at, LowersAt}
use Rattle.ccr_law_reached.specs.Reached.{IsPossible, told_by}
use Rattle.ccr_law_reached.proofs.InReached.{lowers_after}
use Rattle.ccr_settling.specs.Next.{IsNext}
use Rattle.ccr_shard_world.specs.Recorded.{Recorded, state_of, IsReplyTo}
use Rattle.ccr_shard_world.specs.Runs.{AreSettling, AreLowering, Settling, SettledBy}

-- ---- one entry more

settling_more : (s : State) (front : List Entry) (entry : Entry) → AreSettling s front → IsNext (state_after s front) entry.event → AreSettling s (front ++ entry ∷ [])
settling_more s [] entry each next = (next, tt)
settling_more s (e ∷ front) entry each next = (each.0, settling_more (outcome_at s e).next front entry each.1 next)

lowering_more : (p : Past) (front : List Entry) (entry : Entry) → AreLowering p front → IsBelow (measure_at (past_after (past_of p front) entry)) (measure_at (past_of p front))
    → AreLowering p (front ++ entry ∷ [])
lowering_more p [] entry lowers below = (below, tt)
lowering_more p (e ∷ front) entry lowers below = (lowers.0, lowering_more (past_after p e) front entry lowers.1 below)

-- an entry of a settling event lowers the measure
below_at : (p : Past) (entry : Entry) → LowersAt p entry.event → IsLegalAt p entry → MaySettle p.state entry.event → IsBelow (measure_at (past_after p entry)) (measure_at p)
below_at p entry lowers legal may = after_legal (λ (after : Past). IsBelow (measure_at after) (measure_at p)) p entry legal (lowers may (picks_in entry.reply))

below_after : (start : Start) (entries : List Entry) (entry : Entry) → IsPossible start entries → IsNext (state_after (start_state start) entries) entry.event
    → IsReplyTo (state_after (start_state start) entries) entry.event entry.reply → IsBelow (measure_at (past_after (told_by start entries) entry)) (measure_at (told_by start entries))
below_after start entries entry now next reply =
    below_at (told_by start entries) entry (lowers_after start entries now entry.event)
    (subst (λ (s : State). entry.reply ≡ (outcome_at s entry).reply) (sym (state-of start entries)) reply)
    (subst (λ (s : State). MaySettle s entry.event) (sym (state-of start entries)) next.may)

run_push : (start : Start) (old now : List Entry) (entry : Entry) → Settling start old now → IsPossible start now → IsNext (state_after (start_state start) now) entry.event
    → IsReplyTo (state_after (start_state start) now) entry.event entry.reply → Settling start old (now ++ entry ∷ [])
run_push start old now entry run possible next reply =
    let at : state_after (start_state start) now ≡ state_after (state_after (start_state start) old) run.added
    = ap (state_after (start_state start)) run.grew ∙ after-append (start_state start) old run.added in
    let place : told_by start now ≡ past_of (told_by start old) run.added
    = ap (past_of (start_past start)) run.grew ∙ past-append (start_past start) old run.added in
    record {
      added = run.added ++ entry ∷ [];
      grew = ap (λ (xs : List Entry). xs ++ entry ∷ []) run.grew ∙ append_assoc old run.added (entry ∷ []);
      each = settling_more (state_after (start_state start) old) run.added entry run.each (subst (λ (s : State). IsNext s entry.event) at next);
      lowers = lowering_more (told_by start old) run.added entry run.lowers
          (subst (λ (p : Past). IsBelow (measure_at (past_after p entry)) (measure_at p)) place (below_after start now entry possible next reply));
    }

-- ---- as the calls use it

pub settling_start : (start : Start) (entries : List Entry) → Settling start entries entries
settling_start start entries = record { added = []; grew = sym (append-nil entries); each = tt; lowers = tt }

pub settling_push : (old now : Recorded) (entry : Entry) → Settling old.start old.journal now.journal → now.start ≡ old.start → IsPossible now.start now.journal → IsNext (state_of now) entry.event
    → IsReplyTo (state_of now) entry.event entry.reply → Settling old.start old.journal (now.journal ++ entry ∷ [])
settling_push old now entry run same possible next reply =
    run_push old.start old.journal now.journal entry run (subst (λ (start : Start). IsPossible start now.journal) same possible)
    (subst (λ (start : Start). IsNext (state_after (start_state start) now.journal) entry.event) same next)
    (subst (λ (start : Start). IsReplyTo (state_after (start_state start) now.journal) entry.event entry.reply) same reply)

settled_reply : (s : State) (picks : List ℕ) → is_settled s ≡ true → (step s events.Settle picks).reply ≡ replies.Settled
unfolding guarded
settled_reply s picks settled = rw settled refl

pub settled_push : (old now new : Recorded) (reply : Reply) (picks : List ℕ) → Settling old.start old.journal now.journal → now.start ≡ old.start → is_settled (state_of now) ≡ true
    → reply ≡ (step (state_of now) events.Settle picks).reply → new ≡ record now { journal = now.journal ++ record { event = events.Settle; reply = reply } ∷ [] }
    → SettledBy old.start old.journal new.journal
settled_push old now new reply picks run same settled is after =
    let last : reply ≡ replies.Settled = is ∙ settled_reply (state_of now) picks settled in
    record {
      between = now.journal;
      run = run;
      settled = subst (λ (start : Start). is_settled (state_after (start_state start) now.journal) ≡ true) same settled;
      last = ap (λ (r : Recorded). r.journal) after ∙ ap (λ (r : Reply). now.journal ++ record { event = events.Settle; reply = r } ∷ []) last;
    }

pub ruleset settles = (settling_start, settling_push, settled_push)
