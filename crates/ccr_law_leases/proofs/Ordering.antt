-- The notes of the leases' history stay in order, and a lease that was answered and not lost since is unbroken.
use Rattle.std.proofs.Common.{◌≡◌, ℕ, ◌+◌, ◌<◌, Bool, true, false, ◌||◌, ◌&&◌, List, [], ◌∷◌, ◌++◌, map, refl, arith}
use Rattle.std.specs.Prelude.{Option, Some, None, nat_lt, ◌==◌, filter, if◌then◌else◌}
use Rattle.std.specs.Str.{bytes_eq}
use Rattle.std.specs.List.{AllByRecursion, list_any}
use Rattle.std.proofs.lemmas.Bool.{lt-ltb, and_parts, or_left}
use Rattle.std.proofs.lemmas.Bool.Decides.{Decides-eqb}
use Rattle.ccr_lease.specs.declared.retention.Expired.{Expired}
use Rattle.ccr_wire.specs.Message.{Frame}
use Rattle.ccr_wire.specs.declared.kind.LeaseResult.TheVariants as results
use Rattle.ccr_wire.specs.declared.content.Content.{Content}
use Rattle.ccr_wire.specs.declared.content.Content.TheVariants as contents
use Rattle.ccr_journal.specs.Params.{IsCopyCount}
use Rattle.ccr_journal.specs.declared.sides.Side.TheVariants as sides
use Rattle.ccr_journal.specs.declared.events.Event.{Event}
use Rattle.ccr_journal.specs.declared.events.Event.TheVariants as events
use Rattle.ccr_journal.specs.declared.journals.Entry.{Entry}
use Rattle.ccr_journal.specs.declared.replies.Reply.{Reply}
use Rattle.ccr_journal.specs.declared.replies.Reply.TheVariants as replies
use Rattle.ccr_journal.specs.declared.replies.Heard.{Heard as Hearing}
use Rattle.ccr_journal.specs.declared.replies.Heard.TheVariants as heard
use Rattle.ccr_law_base.specs.Events.{past_by}
use Rattle.ccr_law_base.proofs.Cases.{on_if}
use Rattle.ccr_law_base.proofs.Journals.{by_events, by_entries}
use Rattle.ccr_model.specs.Copies.{Copies, greatest_floor, has_lease}
use Rattle.ccr_model.specs.Leaders.{Start, Leader, KeptRequest}
use Rattle.ccr_model.specs.LeaderRows.{all_hold}
use Rattle.ccr_model.specs.LeaseHistory.{LeaseDeed, LeaseNote, ends_answered, is_unbroken, is_loss, is_lost_after, notes_of_add, notes_of_renewal, notes_of_removal, notes_of_content, notes_of_kept, notes_of_message, notes_of}
use Rattle.ccr_model.specs.LeaseHistory as history
use Rattle.ccr_model.specs.Step.{IsLegal, step}
use Rattle.ccr_model.specs.World.{start_state}
use Rattle.ccr_model.specs.Past.{Past, start_past, past_of, delivered_to_leader, notes_kept}
use Rattle.ccr_law_leases.specs.NoteOrder.{is_answer, IsAnsweredAt, ComesAfter, LossesComeAfter, AreInOrder, HasNotesInOrder, StaysUnbroken}
use Rattle.ccr_law_base.proofs.Lists.{All-weaker, All-every, All-append, All-map}
use Rattle.ccr_law_leases.proofs.Messages.{adding}
use Rattle.ccr_law_base.proofs.Tests.{or_second}

-- ---- the notes of one entry

abbrev pub AreOfEntry : ℕ → List LeaseNote → Type 0
AreOfEntry place new = AllByRecursion (λ (note : LeaseNote). note.place ≡ place) new × LossesComeAfter new

abbrev pub AreAnswers : ℕ → List LeaseNote → Type 0
AreAnswers place new = AllByRecursion (λ (note : LeaseNote). (note.place ≡ place) × (is_loss note.deed ≡ false)) new

answers-first : (place : ℕ) (new more : List LeaseNote) → AreAnswers place new → AreOfEntry place more → AreOfEntry place (new ++ more)
answers-first place [] more none of = of
answers-first place (note ∷ new) more none of =
    let rest = answers-first place new more none.1 of in
    ((none.0.0, rest.0), (All-every (ComesAfter note) (λ older loss answer. absurd (let isnt = none.0.1 in cc)) (new ++ more), rest.1))

answers-alone : (place : ℕ) (new : List LeaseNote) → AreAnswers place new → AreOfEntry place new
answers-alone place [] none = (tt, tt)
answers-alone place (note ∷ new) none =
    let rest = answers-alone place new none.1 in
    ((none.0.0, rest.0), (All-every (ComesAfter note) (λ older loss answer. absurd (let isnt = none.0.1 in cc)) new, rest.1))

losses-alone : (new : List LeaseNote) → AllByRecursion (λ (note : LeaseNote). is_answer note.deed ≡ false) new → LossesComeAfter new
losses-alone [] none = tt
losses-alone (note ∷ new) none =
    (All-weaker (λ (older : LeaseNote). is_answer older.deed ≡ false) (ComesAfter note) (λ older isnt loss answer. absurd cc) new none.1, losses-alone new none.1)

-- ---- what an entry notes

kept-alone : (s : Leader) (next : Copies) (place : ℕ) → AreAnswers place (notes_of_kept s next place)
kept-alone s next place =
    let note : KeptRequest → LeaseNote = λ k. record { id = k.id; place = place; deed = history.answered (greatest_floor next) } in
    All-map (λ (n : LeaseNote). (n.place ≡ place) × (is_loss n.deed ≡ false)) note (filter (λ k. all_hold k.id next) s.kept)
    (All-every (λ (k : KeptRequest). (place ≡ place) × (false ≡ false)) (λ k. (refl, refl)) (filter (λ k. all_hold k.id next) s.kept))

kept-places : (s : Leader) (next : Copies) (place : ℕ) → AreOfEntry place (notes_of_kept s next place)
kept-places s next place = answers-alone place (notes_of_kept s next place) (kept-alone s next place)

adding-places : (s : Leader) (place : ℕ) (id : List ℕ) → AreOfEntry place (adding s place id)
adding-places s place id =
    on_if (AreOfEntry place) (has_lease id s.copies.primary) [] (record { id = id; place = place; deed = history.added s.copies.primary.floor } ∷ [])
    (λ there. (tt, tt)) (λ missing. ((refl, tt), (tt, tt)))

add-places : (s : Leader) (place : ℕ) (id : List ℕ) (hearing : Hearing) → AreOfEntry place (notes_of_add s place id hearing)
add-places s place id (heard.NotReady copy) = (tt, tt)
add-places s place id (heard.Lease result number) =
    answers-first place (record { id = id; place = place; deed = history.answered number } ∷ []) (adding s place id) ((refl, refl), tt) (adding-places s place id)
add-places s place id _ = adding-places s place id

renewal-places : (place : ℕ) (id : List ℕ) (hearing : Hearing) → AreOfEntry place (notes_of_renewal place id hearing)
renewal-places place id (heard.Lease results.Ok number) = ((refl, tt), (tt, tt))
renewal-places place id _ = (tt, tt)

removal-places : (place : ℕ) (id : List ℕ) (hearing : Hearing) → AreOfEntry place (notes_of_removal place id hearing)
removal-places place id (heard.Lease results.Ok number) = ((refl, tt), (tt, tt))
removal-places place id _ = (tt, tt)

content-places : (s : Leader) (place : ℕ) (content : Content) (hearing : Hearing) → AreOfEntry place (notes_of_content s place content hearing)
content-places s place (contents.LeaseAdd id) hearing = add-places s place id hearing
content-places s place (contents.LeaseRenew id number) hearing = renewal-places place id hearing
content-places s place (contents.LeaseRemove id) hearing = removal-places place id hearing
content-places s place _ hearing = (tt, tt)

message-places : (s : Leader) (next : Copies) (place : ℕ) (hearing : Hearing) (delivered : Option Frame) → AreOfEntry place (notes_of_message s next place hearing delivered)
message-places s next place hearing None = (tt, tt)
message-places s next place hearing (Some m) =
    answers-first place (notes_of_kept s next place) (notes_of_content s place m.content hearing) (kept-alone s next place) (content-places s place m.content hearing)

expired-places : (place : ℕ) (lost : List Expired) → AreOfEntry place (map {A = Expired} {B = LeaseNote} (λ lease. record { id = lease.id; place = place; deed = history.dropped }) lost)
expired-places place lost =
    let note : Expired → LeaseNote = λ lease. record { id = lease.id; place = place; deed = history.dropped } in (
      All-map (λ (n : LeaseNote). n.place ≡ place) note lost (All-every (λ (e : Expired). place ≡ place) (λ e. refl) lost),
      losses-alone (map note lost) (All-map (λ (n : LeaseNote). is_answer n.deed ≡ false) note lost (All-every (λ (e : Expired). false ≡ false) (λ e. refl) lost)),
    )

notes-places : (s : Leader) (next : Copies) (place : ℕ) (delivered : Option Frame) (event : Event) (reply : Reply) → AreOfEntry place (notes_of s next place delivered event reply)
notes-places s next place delivered (events.Deliver at copy keep) (replies.Heard hearing) = message-places s next place hearing delivered
notes-places s next place delivered (events.Sync sides.Leader copy) replies.Done = kept-places s next place
notes-places s next place delivered (events.FailCopy sides.Leader copy) replies.Done = kept-places s next place
notes-places s next place delivered events.Expire (replies.Expired list) = expired-places place list
notes-places s next place delivered _ _ = (tt, tt)

-- ---- all notes

losses-more : (place : ℕ) (new notes : List LeaseNote) → AreOfEntry place new → AreInOrder place notes → LossesComeAfter (new ++ notes)
losses-more place [] notes of order = order.losses
losses-more place (note ∷ new) notes of order = (
  All-append (ComesAfter note) new notes of.1.0
      (All-weaker (λ (older : LeaseNote). older.place < place) (ComesAfter note) (λ older before loss answer. let e = of.0.0 in omega arith) notes order.earlier),
  losses-more place new notes (of.0.1, of.1.1) order,
)

order-more : (place : ℕ) (new notes : List LeaseNote) → AreOfEntry place new → AreInOrder place notes → AreInOrder (place + 1) (new ++ notes)
order-more place new notes of order = record {
  earlier = All-append (λ (note : LeaseNote). note.place < place + 1) new notes
      (All-weaker (λ (note : LeaseNote). note.place ≡ place) (λ (note : LeaseNote). note.place < place + 1) (λ note is. omega arith) new of.0)
      (All-weaker (λ (note : LeaseNote). note.place < place) (λ (note : LeaseNote). note.place < place + 1) (λ note before. omega arith) notes order.earlier);
  losses = losses-more place new notes of order;
}

pub order-start : (start : Start) → IsCopyCount start.copies → HasNotesInOrder (start_past start)
order-start start counts = record { earlier = tt; losses = tt }

-- of a history that begins nothing is noted yet
order-kept : (place : ℕ) (notes : List LeaseNote) (event : Event) (reply : Reply) → AreInOrder place notes → AreInOrder place (notes_kept notes event reply)
order-kept place notes (events.ForcePromote copy) (replies.Forced term filled) order = record { earlier = tt; losses = tt }
order-kept place notes _ _ order = order

pub order-keeps : (p : Past) (event : Event) (picks : List ℕ) → HasNotesInOrder p → HasNotesInOrder (past_by p event picks)
order-keeps p event picks order =
    order-more p.place
    (notes_of p.state.leader (step p.state event picks).next.leader.copies p.place (delivered_to_leader p.state event) event (step p.state event picks).reply)
    (notes_kept p.notes event (step p.state event picks).reply)
    (notes-places p.state.leader (step p.state event picks).next.leader.copies p.place (delivered_to_leader p.state event) event (step p.state event picks).reply)
    (order-kept p.place p.notes event (step p.state event picks).reply order)

pub order-holds : (start : Start) → IsCopyCount start.copies → (entries : List Entry) → IsLegal (start_state start) entries → HasNotesInOrder (past_of (start_past start) entries)
order-holds start counts entries legal = by_entries HasNotesInOrder (by_events HasNotesInOrder order-keeps) (start_past start) entries legal (order-start start counts)

-- ---- what was answered and not lost since

-- the test of `IsAnsweredAt`
abbrev pub is_answered_at : List ℕ → ℕ → LeaseNote → Bool
is_answered_at id place note = bytes_eq note.id id && (is_answer note.deed && (note.place == place))

-- a loss is of a later entry than the answer
later-loss : (id : List ℕ) (place : ℕ) (note : LeaseNote) (notes : List LeaseNote) → AllByRecursion (ComesAfter note) notes → is_loss note.deed ≡ true
    → list_any (is_answered_at id place) notes ≡ true → nat_lt place note.place ≡ true
later-loss id place note [] after loss some = absurd cc
later-loss id place note (older ∷ notes) after loss some =
    (elim (is_answered_at id place older) as (λ b. is_answered_at id place older ≡ b → (b || list_any (is_answered_at id place) notes) ≡ true → nat_lt place note.place ≡ true) [
      | true ↦ λ is any.
          let parts = and_parts (bytes_eq older.id id) (is_answer older.deed && (older.place == place)) is in
          let both = and_parts (is_answer older.deed) (older.place == place) parts.1 in
          let same : older.place ≡ place = (Decides-eqb older.place place).0 both.1 in
          let less : older.place < note.place = after.0 loss both.0 in
          lt-ltb place note.place (omega arith)
      | false ↦ λ isnt any. later-loss id place note notes after.1 loss any
    ]) refl some

-- a note about the lease itself
own-note : (deed : LeaseDeed) (same later some tail lost : Bool) → (some ≡ true → tail ≡ true) → (is_loss deed ≡ true → some ≡ true → later ≡ true)
    → ((is_answer deed && same) || some) ≡ true → ((is_loss deed && later) || lost) ≡ false → ends_answered deed tail ≡ true
own-note (history.added number) same later some tail lost before after is kept = before is
own-note (history.answered number) same later some tail lost before after is kept = refl
own-note (history.renewed number) same later some tail lost before after is kept = before is
own-note history.dropped same later some tail lost before after is kept = absurd (let gone = or_left later lost (after refl is) in cc)
own-note history.removed same later some tail lost before after is kept = absurd (let gone = or_left later lost (after refl is) in cc)

-- a lease that an entry answered, and that none after it dropped or removed, is unbroken
pub unbroken-since : (id : List ℕ) (place : ℕ) (notes : List LeaseNote) → LossesComeAfter notes → IsAnsweredAt id place notes → is_lost_after id place notes ≡ false
    → is_unbroken id notes ≡ true
unbroken-since id place [] order answered kept = absurd cc
unbroken-since id place (note ∷ notes) order answered kept =
    let before : IsAnsweredAt id place notes → is_unbroken id notes ≡ true = λ some. unbroken-since id place notes order.1 some (or_second _ (is_lost_after id place notes) kept) in
    (elim (bytes_eq note.id id) as (λ own.
    ((own && (is_answer note.deed && (note.place == place))) || list_any (is_answered_at id place) notes) ≡ true
    → ((own && is_loss note.deed && nat_lt place note.place) || is_lost_after id place notes) ≡ false
    → (if own then ends_answered note.deed (is_unbroken id notes) else is_unbroken id notes) ≡ true) [
      | true ↦ λ is kept. own-note note.deed (note.place == place) (nat_lt place note.place) (list_any (is_answered_at id place) notes) (is_unbroken id notes) (is_lost_after id place notes)
          before (λ loss some. later-loss id place note notes order.0 loss some) is kept
      | false ↦ λ is kept. before is
    ]) answered kept

pub order-says : (p : Past) → HasNotesInOrder p → StaysUnbroken p
order-says p order id place answered kept = unbroken-since id place p.notes order.losses answered kept
