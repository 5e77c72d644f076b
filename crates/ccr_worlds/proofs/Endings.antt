-- A world is settled, and worlds hand out their journals, as the calls tell it.
use Rattle.std.specs.Prelude.{Result, Ok, Err, OnOk, OnErr}
use Rattle.std.specs.List.{AllByRecursion}
use Rattle.std.proofs.Common.{◌≡◌, ◌≤◌, ◌+◌, ℕ, suc, length, Bool, true, false, List, [], ◌∷◌, ◌++◌, map, Option, refl, ap, sym, subst, ◌∙◌, append_assoc, append-nil, arith}
use Rattle.ccr_journal.specs.declared.journals.Entry.{Entry}
use Rattle.ccr_model.specs.Leaders.{Start}
use Rattle.ccr_model.specs.Past.{start_past, past_of}
use Rattle.ccr_model.specs.Headline.{Headline, StaysCommitted}
use Rattle.ccr_law_reached.specs.Reached.{IsPossible}
use Rattle.ccr_shard_world.specs.Recorded.{Recorded}
use Rattle.ccr_shard_world.specs.Runs.{Settling, SettledBy}
use Rattle.ccr_deeds.specs.Logs.{Log}
use Rattle.ccr_deeds.specs.Settles.{IsSettled, MayBeSettled}
use Rattle.ccr_worlds.specs.Fated.{Fate, Standing, Fated, log_of, standing_of}
use Rattle.ccr_worlds.specs.HandedOut.{IsHandedOut}
use Rattle.ccr_worlds.proofs.Quiet.{went_on, went_on_settled, is_settled_log, may_be_settled_log}
use Rattle.ccr_worlds.proofs.Fates.{fated_run}

pub at_ok : {T E : Type 0} (A : Type 0) (r : Result T E) → A → OnOk r A
at_ok A (Ok x) a = a
at_ok A (Err e) a = tt

pub at_err : {T E : Type 0} (A : Type 0) (r : Result T E) → A → OnErr r A
at_err A (Ok x) a = tt
at_err A (Err e) a = a

pub ok_settled : {T E : Type 0} (r0 r1 : Recorded) (r : Result T E) → r1.start ≡ r0.start → OnOk r (SettledBy r0.start r0.journal r1.journal) → OnOk r (IsSettled (log_of r0) (log_of r1))
ok_settled r0 r1 (Ok x) same s =
    subst (λ (start : Start). IsSettled (log_of r0) (record { start = start; entries = r1.journal })) (sym same) (is_settled_log r0.start r0.journal r1.journal s)
ok_settled r0 r1 (Err e) same s = tt

pub err_settling : {T E : Type 0} (r0 r1 : Recorded) (r : Result T E) → r1.start ≡ r0.start → OnErr r (Settling r0.start r0.journal r1.journal) → OnErr r (MayBeSettled (log_of r0) (log_of r1))
err_settling r0 r1 (Ok x) same s = tt
err_settling r0 r1 (Err e) same s =
    subst (λ (start : Start). MayBeSettled (log_of r0) (record { start = start; entries = r1.journal })) (sym same) (may_be_settled_log r0.start r0.journal r1.journal s)

-- a world that was whole goes on picking as the policy that was handed in for it
pub fated_settled : {B T E : Type 0} (fate : B → Fate) (r0 r1 : Recorded) (p0 p1 : Option B) (r : Result T E) → r0.broken ≡ false
    → OnOk r (SettledBy r0.start r0.journal r1.journal) → OnErr r (Settling r0.start r0.journal r1.journal) → r1.start ≡ r0.start → p1 ≡ p0 → IsPossible r1.start r1.journal
    → (first : Fate) → Fated first (standing_of fate r0 p0) → Fated first (standing_of fate r1 p1)
fated_settled fate r0 r1 p0 p1 (Ok x) whole ok err same kept possible first f =
    fated_run fate first r0 r1 p0 p1 (went_on_settled r0.start r0.journal r1.journal ok) same kept possible (λ _. whole) f
fated_settled fate r0 r1 p0 p1 (Err e) whole ok err same kept possible first f =
    fated_run fate first r0 r1 p0 p1 (went_on r0.start r0.journal r1.journal err) same kept possible (λ _. whole) f

pub entries_of : {X : Type 0} (recorded : X → Recorded) (xs : List X) → map (λ (log : Log). log.entries) (map (λ x. log_of (recorded x)) xs) ≡ map (λ x. (recorded x).journal) xs
entries_of recorded [] = refl
entries_of recorded (x ∷ xs) = ap (λ (es : List (List Entry)). (recorded x).journal ∷ es) (entries_of recorded xs)

-- what is known of a world's journal that is handed out
pub handed_out : (r : Recorded) (journal : List Entry) → journal ≡ r.journal → IsPossible r.start journal → Headline (start_past r.start) journal
    → ((front back : List Entry) → journal ≡ front ++ back → StaysCommitted (past_of (start_past r.start) front) (past_of (start_past r.start) journal)) → IsHandedOut (log_of r)
handed_out r journal is possible headline prefix = record {
  possible = subst (IsPossible r.start) is possible;
  headline = subst (Headline (start_past r.start)) is headline;
  prefix = λ front back split. subst (λ (es : List Entry). StaysCommitted (past_of (start_past r.start) front) (past_of (start_past r.start) es)) is (prefix front back (is ∙ split));
}

-- one more journal was handed out
pub journals_more : {X : Type 0} (f : X → List Entry) (x : X) (rest more : List X) (before after total : List (List Entry)) (journal : List Entry)
    → rest ≡ x ∷ more → after ≡ before ++ journal ∷ [] → journal ≡ f x → before ++ map f rest ≡ total → after ++ map f more ≡ total
journals_more {X = X} f x rest more before after total journal taken put is told =
    ap (λ (js : List (List Entry)). js ++ map f more) put ∙ (append_assoc before (journal ∷ []) (map f more)
    ∙ (ap (λ (j : List Entry). before ++ j ∷ map f more) is ∙ (ap (λ (xs : List X). before ++ map f xs) (sym taken) ∙ told)))

pub known_more : {X : Type 0} (g : X → Log) (x : X) (rest more : List X) (T : Type 0) → rest ≡ x ∷ more → IsHandedOut (g x)
    → (AllByRecursion IsHandedOut (map g rest) → T) → AllByRecursion IsHandedOut (map g more) → T
known_more {X = X} g x rest more T taken own known all = known (subst (λ (xs : List X). AllByRecursion IsHandedOut (map g xs)) (sym taken) (own, all))

pub room_more : {X : Type 0} (x : X) (rest more : List X) (old new room room' : ℕ) → rest ≡ x ∷ more → new ≡ old + 1 → room ≤ room' → old + length rest ≤ room
    → new + length more ≤ room'
room_more {X = X} x rest more old new room room' taken one kept fits =
    let enough : old + suc (length more) ≤ room = subst (λ (xs : List X). old + length xs ≤ room) taken fits in
    omega arith

pub journals_all : {X : Type 0} (f : X → List Entry) (rest : List X) (all total : List (List Entry)) → rest ≡ [] → all ++ map f rest ≡ total → all ≡ total
journals_all {X = X} f rest all total none told = sym (append-nil all) ∙ (ap (λ (xs : List X). all ++ map f xs) (sym none) ∙ told)
