-- The line of a possible journal is the one that its script makes.
use Rattle.std.specs.List.{fold, range_with_len}
use Rattle.std.proofs.Common.{◌≡◌, ℕ, ◌+◌, ◌-◌, ◌<◌, ◌^◌, Bool, true, false, if◌then◌else◌, List, [], ◌∷◌, map, length, refl, sym, ◌∙◌, ap, subst, arith}
use Rattle.ccr_tracker.specs.Numbers.{no_numbers}
use Rattle.ccr_journal.specs.declared.events.Event.{Event}
use Rattle.ccr_journal.specs.declared.journals.Entry.{Entry}
use Rattle.ccr_journal.specs.declared.replies.Reply.{Reply}
use Rattle.ccr_model.specs.Copies.{Replica, new_copy, replica_in_step}
use Rattle.ccr_model.specs.Given.{no_ops, none_given}
use Rattle.ccr_model.specs.Leaders.{Start}
use Rattle.ccr_model.specs.Step.{picks_in, IsLegal}
use Rattle.ccr_model.specs.Past.{Past, start_past, past_after, past_of}
use Rattle.ccr_law_base.specs.Events.{past_by}
use Rattle.ccr_law_base.proofs.Journals.{after_legal}
use Rattle.ccr_law.specs.Parts.{IsWhole}
use Rattle.ccr_law.proofs.Walks.{AreFitEvents, kept_after}
use Rattle.ccr_law.proofs.Whole.{whole-start, whole-keeps}
use Rattle.ccr_law_reached.specs.Reached.{IsPossible, told_by}
use Rattle.ccr_law_settled.specs.Outlines.{ReplicaOutline, Outline, new_outline, settling}
use Rattle.ccr_law_settled.specs.ScriptLine.{commanded, Role, changing, catching_up, settled, aside, role_of, settles_with, settles_next, is_of_script, script_of, script_line}
use Rattle.ccr_law_settled.proofs.Outlined.{replica_outlines, outline_of}
use Rattle.ccr_law_settled.proofs.OutlineEvents.{Tells, tells}

-- ---- from place to place

-- what the script made so far is the outline, but for what a settle that comes before the next change makes anyway
record Follows (p : Past) (t : Outline) (later : Bool) : Type 0 where
  settles : settling (outline_of p) ≡ settling t
  same : later ≡ false → outline_of p ≡ t

exactly : (p : Past) (t : Outline) (later : Bool) → outline_of p ≡ t → Follows p t later
exactly p t later is = record { settles = ap settling is; same = λ none. is }

follow : (role : Role) (later : Bool) (p next : Past) (event : Event) (t : Outline) → Tells role p next event → Follows p t (settles_with role later)
    → Follows next (if is_of_script role later then commanded t event else t) later
follow changing later p next event t told was = exactly next (commanded t event) later (told ∙ ap (λ (x : Outline). commanded x event) (was.same refl))
follow catching_up false p next event t told was = exactly next (commanded t event) false (told.0 ∙ ap (λ (x : Outline). commanded x event) (was.same refl))
follow catching_up true p next event t told was = record {
  settles = ap settling told.0 ∙ (told.1 (outline_of p) ∙ was.settles);
  same = λ never. absurd cc;
}
follow settled later p next event t told was = exactly next (commanded t event) later (told.0 ∙ (was.settles ∙ sym (told.1 t)))
follow aside later p next event t told was = record { settles = ap settling told ∙ was.settles; same = λ none. told ∙ was.same none }

-- ---- a whole journal

taken_if : (b : Bool) (t : Outline) (event : Event) (script : List Event)
    → fold {A = Event} {B = Outline} commanded (if b then commanded t event else t) script ≡ fold {A = Event} {B = Outline} commanded t (if b then event ∷ script else script)
taken_if true t event script = refl
taken_if false t event script = refl

scripted : (p : Past) (entries : List Entry) → AreFitEvents entries → p.place + length entries < 2 ^ 32 → IsLegal p.state entries → IsWhole p
    → (t : Outline) → Follows p t (settles_next entries) → outline_of (past_of p entries) ≡ fold {A = Event} {B = Outline} commanded t (script_of entries)
scripted p [] fit short legal now t was = was.same refl
scripted p (entry ∷ entries) fit short legal now t was =
    let role : Role = role_of entry.event entry.reply in
    let told : Tells role p (past_after p entry) entry.event = after_legal (λ (q : Past). Tells role p q entry.event) p entry legal.0
    (subst (λ (reply : Reply). Tells (role_of entry.event reply) p (past_by p entry.event (picks_in entry.reply)) entry.event) (sym legal.0) (tells p entry.event (picks_in entry.reply) now.leading)) in
    scripted (past_after p entry) entries fit.1 (omega arith) legal.1 (kept_after IsWhole whole-keeps p entry fit.0 legal.0 (omega arith) now)
    (if is_of_script role (settles_next entries) then commanded t entry.event else t)
    (follow role (settles_next entries) p (past_after p entry) entry.event t told was)
    ∙ taken_if (is_of_script role (settles_next entries)) t entry.event (script_of entries)

-- ---- the start

new_replicas : (ns : List ℕ) → replica_outlines none_given (map {A = ℕ} {B = Replica} (λ n. replica_in_step (new_copy n) 0) ns)
    ≡ map {A = ℕ} {B = ReplicaOutline} (λ n. record { copy = record { number = n; seen = no_numbers; ops = no_ops }; known = 0; resynced = true }) ns
new_replicas [] = refl
new_replicas (n ∷ ns) = ap (λ (rs : List ReplicaOutline). record { copy = record { number = n; seen = no_numbers; ops = no_ops }; known = 0; resynced = true } ∷ rs) (new_replicas ns)

starts : (start : Start) → outline_of (start_past start) ≡ new_outline start
starts start = ap (λ (rs : List ReplicaOutline). record (new_outline start) { replicas = rs }) (new_replicas (range_with_len 1 (start.copies - 1)))

-- ---- the theorem

pub line_is_of_script : (start : Start) (entries : List Entry) → IsPossible start entries → (told_by start entries).line.ops ≡ script_line start entries
line_is_of_script start entries possible =
    ap (λ (t : Outline). t.line.ops)
    (scripted (start_past start) entries possible.fit.events (let few : length entries < 2 ^ 32 = possible.fit.few in omega arith) possible.legal (whole-start start possible.count)
    (new_outline start) (exactly (start_past start) (new_outline start) (settles_next entries) (starts start)))
