-- In a possible journal each search after a settle answers over the line that the script makes.
use Rattle.std.specs.List.{AllByRecursion}
use Rattle.std.proofs.Common.{◌≡◌, true, false, List, ◌∷◌, ◌++◌, sym, subst}
use Rattle.ccr_op.specs.Operation.{Operation}
use Rattle.ccr_journal.specs.declared.journals.Entry.{Entry}
use Rattle.ccr_model.specs.Leaders.{Start}
use Rattle.ccr_model.specs.World.{State, start_state}
use Rattle.ccr_model.specs.Settled.{is_settled}
use Rattle.ccr_model.specs.Step.{outcome_at, state_after}
use Rattle.ccr_model.specs.Past.{Past}
use Rattle.ccr_law_base.proofs.Lists.{All-weaker}
use Rattle.ccr_law_base.proofs.Journals.{state-of, legal-rest}
use Rattle.ccr_law.specs.Parts.{IsWhole}
use Rattle.ccr_law.proofs.Theorem.{always}
use Rattle.ccr_law_reached.specs.Reached.{IsPossible, told_by}
use Rattle.ccr_law_reached.proofs.Places.{possible_at}
use Rattle.ccr_law_settled.specs.ScriptLine.{script_line}
use Rattle.ccr_law_settled.specs.WhenSettled.{AnswersWhole, ends_settled, AnswersWhenSettled}
use Rattle.ccr_law_settled.proofs.AfterSettle.{settled_searches, ends_rightly, possible_front}
use Rattle.ccr_law_settled.proofs.ScriptLines.{line_is_of_script}

pub whole_after : (start : Start) (entries : List Entry) → IsPossible start entries → IsWhole (told_by start entries)
whole_after start entries possible = possible_at IsWhole (always IsWhole (λ p short now. now)) start entries possible

answers_at : (start : Start) (front back : List Entry) (entry : Entry) → IsPossible start (front ++ entry ∷ back) → ends_settled false front ≡ true
    → AnswersWhole (state_after (start_state start) front) (script_line start front) entry.event entry.reply
answers_at start front back entry possible settled =
    let p : Past = told_by start front in
    let before : IsPossible start front = possible_front start front (entry ∷ back) possible in
    let same : p.state ≡ state_after (start_state start) front = state-of start front in
    let legal : entry.reply ≡ (outcome_at (state_after (start_state start) front) entry).reply = (legal-rest (start_state start) front (entry ∷ back) possible.legal).0 in
    let is : is_settled (state_after (start_state start) front) ≡ true = ends_rightly (start_state start) front false before.legal (λ never. absurd cc) settled in
    subst (λ (ops : List Operation). AnswersWhole (state_after (start_state start) front) ops entry.event entry.reply) (line_is_of_script start front before)
    (subst (λ (s : State). AnswersWhole s p.line.ops entry.event entry.reply) same
    (settled_searches p (whole_after start front before) (subst (λ (s : State). is_settled s ≡ true) (sym same) is) entry
    (subst (λ (s : State). entry.reply ≡ (outcome_at s entry).reply) (sym same) legal)))

pub answers_when_settled : (start : Start) (entries : List Entry) → IsPossible start entries → AnswersWhenSettled start entries
answers_when_settled start entries possible front back entry is settled = answers_at start front back entry (subst (IsPossible start) is possible) settled

-- so it is of all journals that these tell
pub each_answers : {X : Type 0} (start : X → Start) (entries : X → List Entry) (xs : List X) → AllByRecursion (λ (x : X). IsPossible (start x) (entries x)) xs
    → AllByRecursion (λ (x : X). AnswersWhenSettled (start x) (entries x)) xs
each_answers {X = X} start entries xs possible =
    All-weaker (λ (x : X). IsPossible (start x) (entries x)) (λ (x : X). AnswersWhenSettled (start x) (entries x))
    (λ x is. answers_when_settled (start x) (entries x) is) xs possible
