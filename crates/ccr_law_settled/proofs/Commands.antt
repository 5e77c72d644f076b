-- The script of a journal makes the same line as the commands by which it went on.
use Rattle.std.specs.List.{fold}
use Rattle.std.proofs.Common.{◌≡◌, Bool, true, false, not, if◌then◌else◌, List, [], ◌∷◌, ◌++◌, refl, sym, ◌∙◌, ap}
use Rattle.ccr_journal.specs.declared.sides.Side.TheVariants as sides
use Rattle.ccr_journal.specs.declared.events.Event.{Event}
use Rattle.ccr_journal.specs.declared.events.Event.TheVariants as events
use Rattle.ccr_journal.specs.declared.journals.Entry.{Entry}
use Rattle.ccr_journal.specs.declared.replies.Reply.{Reply}
use Rattle.ccr_journal.specs.declared.replies.Reply.TheVariants as replies
use Rattle.ccr_model.specs.Leaders.{Start}
use Rattle.ccr_model.specs.World.{State, start_state}
use Rattle.ccr_model.specs.Step.{outcome_at, state_after}
use Rattle.ccr_model.specs.Settling.{IsSettling, IsSettleRun}
use Rattle.ccr_law_reached.specs.Reached.{IsPossible}
use Rattle.ccr_law_settled.specs.Outlines.{Outline, new_outline, settling}
use Rattle.ccr_law_settled.specs.ScriptLine.{commanded, Role, changing, catching_up, settled, aside, role_of, settles_with, settles_next, is_of_script, script_of}
use Rattle.ccr_law_settled.specs.Scripts.{GoesOnBy, IsByScript, LineIsOfCommands}
use Rattle.ccr_law_settled.proofs.OutlineSettles.{copying-settles, acking-settles, resyncing-settles}
use Rattle.ccr_law_settled.proofs.ScriptLines.{line_is_of_script}

-- the outline after these commands
abbrev pub after_all : Outline → List Event → Outline
after_all t script = fold {A = Event} {B = Outline} commanded t script

-- ---- a settle makes the steps before it needless

-- what a settle comes to
abbrev pub Settles : Role → Event → Type 0
Settles settled event = (t : Outline) → commanded t event ≡ settling t
Settles _ event = Unit {0}

settles : (event : Event) (reply : Reply) → Settles (role_of event reply) event
settles events.Settle replies.Settled = λ t. refl
settles (events.Replicate sides.Leader copy seq) _ = tt
settles (events.Ack sides.Leader copy) _ = tt
settles (events.Promote sides.Leader copy) _ = tt
settles (events.FailCopy sides.Leader copy) _ = tt
settles (events.AddCopy sides.Leader) _ = tt
settles _ _ = tt

absorb : (role : Role) (later : Bool) (event : Event) (script : List Event) (t other : Outline) → Settles role event → settles_with role later ≡ true → settling t ≡ settling other
    → (later ≡ true → after_all t script ≡ after_all other script)
    → after_all t (if is_of_script role later then event ∷ script else script) ≡ after_all other (if is_of_script role later then event ∷ script else script)
absorb changing later event script t other says comes same rest = absurd cc
absorb catching_up true event script t other says comes same rest = rest refl
absorb catching_up false event script t other says comes same rest = absurd cc
absorb settled later event script t other says comes same rest = ap (λ (x : Outline). after_all x script) (says t ∙ (same ∙ sym (says other)))
absorb aside later event script t other says comes same rest = rest comes

absorbed : (entries : List Entry) (t other : Outline) → settles_next entries ≡ true → settling t ≡ settling other → after_all t (script_of entries) ≡ after_all other (script_of entries)
absorbed [] t other comes same = absurd cc
absorbed (entry ∷ entries) t other comes same =
    absorb (role_of entry.event entry.reply) (settles_next entries) entry.event (script_of entries) t other (settles entry.event entry.reply) comes same
    (λ later. absorbed entries t other later same)

-- ---- one command

-- what a command that isn't a settle comes to
abbrev pub Says : Role → Event → Type 0
Says changing event = Unit {0}
Says catching_up event = (t : Outline) → settling (commanded t event) ≡ settling t
Says settled event = ⊥
Says aside event = (t : Outline) → commanded t event ≡ t

abbrev pub is_settle : Event → Bool
is_settle events.Settle = true
is_settle _ = false

-- what each command but a settle comes to
says : (event : Event) (reply : Reply) → is_settle event ≡ false → Says (role_of event reply) event
says (events.Write request) reply isnt = tt
says (events.Promote sides.Leader copy) reply isnt = tt
says (events.ForcePromote copy) reply isnt = tt
says (events.FailCopy sides.Leader copy) reply isnt = tt
says (events.AddCopy sides.Leader) reply isnt = tt
says (events.Replicate sides.Leader copy seq) reply isnt = λ t. copying-settles t copy seq _ refl
says (events.Ack sides.Leader copy) reply isnt = λ t. acking-settles t copy _ refl
says (events.Resync copy) reply isnt = λ t. resyncing-settles t copy _ refl
says events.Settle reply isnt = absurd cc
says _ reply isnt = λ t. refl

one_command : (role : Role) (event : Event) (entries : List Entry) (t : Outline) → Says role event
    → after_all t (if is_of_script role (settles_next entries) then event ∷ script_of entries else script_of entries) ≡ after_all (commanded t event) (script_of entries)
one_command changing event entries t says = refl
one_command catching_up event entries t says =
    (elim (settles_next entries) as (λ b. settles_next entries ≡ b → after_all t (if not b then event ∷ script_of entries else script_of entries) ≡ after_all (commanded t event) (script_of entries)) [
      | true ↦ λ comes. absorbed entries t (commanded t event) comes (sym (says t))
      | false ↦ λ none. refl
    ]) refl
one_command settled event entries t says = absurd says
one_command aside event entries t says = ap (λ (x : Outline). after_all x (script_of entries)) (sym (says t))

-- ---- a settle

-- what may be used to settle the world is left out before the settle
left_out : (s : State) (event : Event) (reply : Reply) → IsSettling s event → (is_of_script (role_of event reply) true ≡ false) × (settles_with (role_of event reply) true ≡ true)
left_out s (events.Replicate sides.Leader copy seq) reply is = (refl, refl)
left_out s (events.Replicate (sides.Follower f) copy seq) reply is = (refl, refl)
left_out s (events.Ack sides.Leader copy) reply is = (refl, refl)
left_out s (events.Ack (sides.Follower f) copy) reply is = (refl, refl)
left_out s (events.Sync sides.Leader copy) reply is = (refl, refl)
left_out s (events.Sync (sides.Follower f) copy) reply is = (refl, refl)
left_out s (events.Resync copy) reply is = (refl, refl)
left_out s (events.Take f write) reply is = (refl, refl)
left_out s (events.Apply f epoch write batch) reply is = (refl, refl)
left_out s (events.Written f write) reply is = (refl, refl)
left_out s (events.Tick f) reply is = (refl, refl)
left_out s (events.Deliver at copy keep) reply is = (refl, refl)
left_out s (events.Wake f at) reply is = (refl, refl)
left_out s (events.Lose f at) reply is = (refl, refl)
left_out s (events.Clock (sides.Follower f) now) reply is = (refl, refl)
left_out s _ reply is = absurd is

settle_role : (entry : Entry) → entry.event ≡ events.Settle → entry.reply ≡ replies.Settled → role_of entry.event entry.reply ≡ settled
settle_role entry event reply = ap (λ (e : Event). role_of e entry.reply) event ∙ ap (λ (r : Reply). role_of events.Settle r) reply

run_settles : (s : State) (run rest : List Entry) → IsSettleRun s run → settles_next (run ++ rest) ≡ true
run_settles s [] rest is = absurd is
run_settles s (entry ∷ []) rest is = ap (λ (role : Role). settles_with role (settles_next rest)) (settle_role entry is.0 is.1)
run_settles s (entry ∷ next ∷ run) rest is =
    ap (λ (b : Bool). settles_with (role_of entry.event entry.reply) b) (run_settles (outcome_at s entry).next (next ∷ run) rest is.1) ∙ (left_out s entry.event entry.reply is.0).1

run_is : (s : State) (run rest : List Entry) (t : Outline) → IsSettleRun s run → after_all t (script_of (run ++ rest)) ≡ after_all (settling t) (script_of rest)
run_is s [] rest t is = absurd is
run_is s (entry ∷ []) rest t is =
    ap (λ (role : Role). after_all t (if is_of_script role (settles_next rest) then entry.event ∷ script_of rest else script_of rest)) (settle_role entry is.0 is.1)
    ∙ ap (λ (e : Event). after_all (commanded t e) (script_of rest)) is.0
run_is s (entry ∷ next ∷ run) rest t is =
    ap (λ (b : Bool). after_all t (if b then entry.event ∷ script_of (next ∷ run ++ rest) else script_of (next ∷ run ++ rest)))
    (ap (λ (b : Bool). is_of_script (role_of entry.event entry.reply) b) (run_settles (outcome_at s entry).next (next ∷ run) rest is.1) ∙ (left_out s entry.event entry.reply is.0).0)
    ∙ run_is (outcome_at s entry).next (next ∷ run) rest t is.1

-- ---- all commands

-- a command that isn't a settle
one : (event : Event) (first rest : List Entry) (t : Outline) → is_settle event ≡ false → (told : Reply) × (first ≡ record { event = event; reply = told } ∷ [])
    → after_all t (script_of (first ++ rest)) ≡ after_all (commanded t event) (script_of rest)
one event first rest t isnt is =
    ap (λ (es : List Entry). after_all t (script_of (es ++ rest))) is.1 ∙ one_command (role_of event is.0) event rest t (says event is.0 isnt)

-- a command and what the journal went on with
goes_on : (event : Event) (s : State) (first rest : List Entry) (t : Outline) → GoesOnBy event s first → after_all t (script_of (first ++ rest)) ≡ after_all (commanded t event) (script_of rest)
goes_on events.Settle s first rest t is = run_is s first rest t is
goes_on (events.Write request) s first rest t is = one (events.Write request) first rest t refl is
goes_on (events.Replicate side copy seq) s first rest t is = one (events.Replicate side copy seq) first rest t refl is
goes_on (events.Ack side copy) s first rest t is = one (events.Ack side copy) first rest t refl is
goes_on (events.Sync side copy) s first rest t is = one (events.Sync side copy) first rest t refl is
goes_on (events.Promote side copy) s first rest t is = one (events.Promote side copy) first rest t refl is
goes_on (events.ForcePromote copy) s first rest t is = one (events.ForcePromote copy) first rest t refl is
goes_on (events.Resync copy) s first rest t is = one (events.Resync copy) first rest t refl is
goes_on (events.FailCopy side copy) s first rest t is = one (events.FailCopy side copy) first rest t refl is
goes_on (events.AddCopy side) s first rest t is = one (events.AddCopy side) first rest t refl is
goes_on (events.Flush side copy) s first rest t is = one (events.Flush side copy) first rest t refl is
goes_on (events.Merge side copy) s first rest t is = one (events.Merge side copy) first rest t refl is
goes_on (events.Clock side now) s first rest t is = one (events.Clock side now) first rest t refl is
goes_on events.Expire s first rest t is = one events.Expire first rest t refl is
goes_on events.CloseSessions s first rest t is = one events.CloseSessions first rest t refl is
goes_on (events.Tick f) s first rest t is = one (events.Tick f) first rest t refl is
goes_on (events.Deliver at copy keep) s first rest t is = one (events.Deliver at copy keep) first rest t refl is
goes_on (events.Drop at) s first rest t is = one (events.Drop at) first rest t refl is
goes_on (events.Wake f at) s first rest t is = one (events.Wake f at) first rest t refl is
goes_on (events.Lose f at) s first rest t is = one (events.Lose f at) first rest t refl is
goes_on (events.LoseWrite f write) s first rest t is = one (events.LoseWrite f write) first rest t refl is
goes_on (events.Take f write) s first rest t is = one (events.Take f write) first rest t refl is
goes_on (events.Apply f epoch write batch) s first rest t is = one (events.Apply f epoch write batch) first rest t refl is
goes_on (events.Written f write) s first rest t is = one (events.Written f write) first rest t refl is
goes_on (events.Renew f) s first rest t is = one (events.Renew f) first rest t refl is
goes_on (events.Follow params count name) s first rest t is = one (events.Follow params count name) first rest t refl is
goes_on (events.Pause f) s first rest t is = one (events.Pause f) first rest t refl is
goes_on (events.Resume f) s first rest t is = one (events.Resume f) first rest t refl is
goes_on (events.Restart f) s first rest t is = one (events.Restart f) first rest t refl is
goes_on (events.Unfollow f) s first rest t is = one (events.Unfollow f) first rest t refl is
goes_on (events.Search side copy request) s first rest t is = one (events.Search side copy request) first rest t refl is
goes_on (events.Status side) s first rest t is = one (events.Status side) first rest t refl is

by_script : (s : State) (script : List Event) (entries : List Entry) (t : Outline) → IsByScript s script entries → after_all t (script_of entries) ≡ after_all t script
by_script s [] entries t is = ap (λ (es : List Entry). after_all t (script_of es)) is
by_script s (event ∷ script) entries t is =
    ap (λ (es : List Entry). after_all t (script_of es)) is.2
    ∙ (goes_on event s is.0 is.1 t is.3 ∙ by_script (state_after s is.0) script is.1 (commanded t event) is.4)

pub line_is_of_commands : (start : Start) (entries : List Entry) → IsPossible start entries → LineIsOfCommands start entries
line_is_of_commands start entries possible script is =
    line_is_of_script start entries possible ∙ ap (λ (t : Outline). t.line.ops) (by_script (start_state start) script entries (new_outline start) is)
