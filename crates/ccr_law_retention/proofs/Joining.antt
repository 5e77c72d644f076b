-- A new follower.
use Rattle.std.specs.Prelude.{slice_get, length, cond}
use Rattle.std.specs.List.{AllByRecursion, position_from}
use Rattle.std.specs.Str.{bytes_eq}
use Rattle.std.proofs.Common.{◌≡◌, ◌⊎◌, inl, inr, ℕ, zero, suc, ◌+◌, ◌&&◌, Bool, true, false, List, [], ◌∷◌, ◌++◌, map, Option, Some, None, refl, ap, sym, ◌∙◌, subst, arith}
use Rattle.std.proofs.lemmas.Iterator.Adapters.{position_from-zero}
use Rattle.ccr_wire.specs.Message.{Frame}
use Rattle.ccr_journal.specs.declared.params.ParamValues.{ParamValues}
use Rattle.ccr_journal.specs.declared.events.Event.{Event}
use Rattle.ccr_journal.specs.declared.events.Event.TheVariants as events
use Rattle.ccr_journal.specs.declared.replies.Reply.{Reply}
use Rattle.ccr_journal.specs.declared.replies.Reply.TheVariants as replies
use Rattle.ccr_journal.specs.declared.replies.Refusal.TheVariants.{SameName}
use Rattle.ccr_model.specs.Outcomes.{Outcome}
use Rattle.ccr_model.specs.Followers.{Follower, uuid_of, new_follower}
use Rattle.ccr_model.specs.World.{State, with_new_follower, follow_row, same_name}
use Rattle.ccr_model.specs.Past.{Line, Past, FollowerPast, line_of, past_with, sending_place, follower_past_of}
use Rattle.ccr_model.specs.Invariants.{renewal_of, is_missing}
use Rattle.ccr_law_base.proofs.Cases.{on_guards}
use Rattle.ccr_law_base.proofs.Lists.{All-weaker, All-every, All-append, All-append_front, All-at, some_equal, push-old}
use Rattle.ccr_law_leases.proofs.Notes.{other_bytes}
use Rattle.ccr_law_retention.specs.Grounds.{HasGrounds}
use Rattle.ccr_law_retention.specs.Retaining.{GrantOk, MissingOk, OpensIn, FollowerOk, FollowerOkOf, IsToldTruly, IsToldTrulyOf, IsRetaining, is_grant, is_replicating, IsEarly}
use Rattle.ccr_law_retention.proofs.Lists.{sent-append, sent-each}
use Rattle.ccr_law_retention.proofs.Growing.{grows}
use Rattle.ccr_law_retention.proofs.Worlds.{early-asked}
use Rattle.ccr_law_retention.proofs.Places.{setting-of, past-unmoved, refused-place}
use Rattle.std.proofs.lemmas.Bool.{and_parts}

-- ---- the end of a list

push-at : {X : Type 0} (xs : List X) (i : ℕ) (x y : X) → slice_get (xs ++ y ∷ []) i ≡ Some x → (slice_get xs i ≡ Some x) ⊎ ((x ≡ y) × (i ≡ length xs))
push-at [] zero x y at = inr (sym (some_equal y x at), refl)
push-at [] (suc i) x y at = absurd cc
push-at (z ∷ xs) zero x y at = inl at
push-at (z ∷ xs) (suc i) x y at = (elim (push-at xs i x y at) as (λ _. (slice_get xs i ≡ Some x) ⊎ ((x ≡ y) × (suc i ≡ suc (length xs)))) [
  | inl old ↦ inl old
  | inr new ↦ inr (new.0, ap suc new.1)
])

past-end : {X : Type 0} (xs : List X) → slice_get xs (length xs) ≡ None
past-end [] = refl
past-end (x ∷ xs) = past-end xs

-- ---- names

none-from : (name : List ℕ) (i : ℕ) (followers : List Follower) → position_from (λ (f : Follower). bytes_eq f.lease name) i followers ≡ None → AllByRecursion (λ (f : Follower). bytes_eq f.lease name ≡ false) followers
none-from name i [] none = tt
none-from name i (x ∷ followers) none =
    (elim (bytes_eq x.lease name) as (λ (b : Bool). bytes_eq x.lease name ≡ b → cond b (Some i) (position_from (λ (f : Follower). bytes_eq f.lease name) (i + 1) followers) ≡ None
    → AllByRecursion (λ (f : Follower). bytes_eq f.lease name ≡ false) (x ∷ followers)) [
      | true ↦ λ is gone. absurd cc
      | false ↦ λ isnt rest. (isnt, none-from name (i + 1) followers rest)
    ]) refl none

none-named : (name : List ℕ) (followers : List Follower) → same_name followers name ≡ None → AllByRecursion (λ (f : Follower). bytes_eq f.lease name ≡ false) followers
none-named name followers none = none-from name 0 followers (sym (position_from-zero (λ (f : Follower). bytes_eq f.lease name) followers) ∙ none)

-- ---- answers

past-old : (followers : List Follower) (new : Follower) (g : ℕ) (past : FollowerPast) (delivered : Option ℕ) (event : Event) (reply : Reply) (lines : List ℕ → Line)
    → (follower_past_of g past delivered event reply lines (slice_get followers g) (slice_get (followers ++ new ∷ []) g)).answer ≡ past.answer
past-old followers new g past delivered event reply lines =
    (elim (slice_get followers g) as (λ (o : Option Follower). slice_get followers g ≡ o → (follower_past_of g past delivered event reply lines o (slice_get (followers ++ new ∷ []) g)).answer ≡ past.answer) [
      | None ↦ λ none. refl
      | Some x ↦ λ there.
          ap (λ (o : Option Follower). (follower_past_of g past delivered event reply lines (Some x) o).answer) (push-old followers g x new there) ∙ past-unmoved g past delivered event reply lines (Some x)
    ]) refl

-- ---- the event

made-place : (p : Past) (params : ParamValues) (copies : ℕ) (name : List ℕ) → HasGrounds p → same_name p.state.followers name ≡ None → IsRetaining p
    → IsRetaining (past_with p (record { event = events.Follow params copies name; reply = replies.Done }) (with_new_follower p.state params copies name))
made-place p params copies name grounds named all =
    let event : Event = events.Follow params copies name in
    let made = new_follower (length p.state.followers) params copies name p.state.leader.history p.state.leader.start.retention in
    let new : Follower = made.next in
    let o : Outcome State = with_new_follower p.state params copies name in
    let after : Past = past_with p (record { event = event; reply = replies.Done }) o in
    let now : ℕ → Option ℕ = λ g. (after.followers g).answer in
    let same : (g : ℕ) → now g ≡ (p.followers g).answer = λ g. past-old p.state.followers new g (p.followers g) (sending_place p.sent_at event) event replies.Done (line_of p) in
    let places : List ℕ = p.sent_at ++ map {A = Frame} {B = ℕ} (λ m. p.place) made.sent in
    let others : AllByRecursion (λ (f : Follower). bytes_eq f.lease name ≡ false) p.state.followers = none-named name p.state.followers named in
    record {
      made = λ g x at current. (elim (push-at p.state.followers g x new at) as (λ _. FollowerOkOf now p.notes (p.state.flight ++ made.sent) places g x) [
        | inl there ↦
            subst (λ (a : Option ℕ). FollowerOk a p.notes (p.state.flight ++ made.sent) places (uuid_of g) x.lease x.work x.copies.primary.global) (sym (same g))
            (grows (p.followers g).answer p.notes [] p.state.flight made.sent p.sent_at p.state.leader.history (uuid_of g) x.lease x.work x.copies.primary.global p.state.leader.copies p.line.cut p.place (setting-of p grounds)
            (λ id b floors renewals. tt) (tt, tt) (early-asked p.state.leader.history p.state.followers (λ f. (p.followers f).answer) p.notes p.earlier p.state.flight p.sent_at p.line.cut g x all there) (all.made g x there current))
        | inr both ↦
            subst (λ (y : Follower). FollowerOkOf now p.notes (p.state.flight ++ made.sent) places g y) (sym both.0)
            (subst (λ (k : ℕ). FollowerOkOf now p.notes (p.state.flight ++ made.sent) places k new) (sym both.1) (fresh same))
      ]);
      opens = λ g x at current.
          All-append (OpensIn (uuid_of g) p.state.leader.history) p.state.flight made.sent
          ((elim (push-at p.state.followers g x new at) as (λ _. AllByRecursion (OpensIn (uuid_of g) p.state.leader.history) p.state.flight) [
            | inl there ↦ all.opens g x there current
            | inr both ↦ subst (λ (k : ℕ). AllByRecursion (OpensIn (uuid_of k) p.state.leader.history) p.state.flight) (sym both.1)
                (All-weaker (λ (m : Frame). bytes_eq m.follower (uuid_of (length p.state.followers)) ≡ false) (OpensIn (uuid_of (length p.state.followers)) p.state.leader.history)
                (λ m other is. absurd cc) p.state.flight grounds.messages.unmade)
          ])) ((λ is. tt), tt);
      told = λ g x at. (elim (push-at p.state.followers g x new at) as (λ _. IsToldTrulyOf now (p.notes ++ p.earlier) (p.state.flight ++ made.sent) g x) [
        | inl there ↦
            let was = all.told g x there in
            subst (λ (a : Option ℕ). IsToldTruly a (p.notes ++ p.earlier) (p.state.flight ++ made.sent) (uuid_of g) x.lease x.work) (sym (same g)) (record {
              phase = was.phase;
              missing = All-append (MissingOk (p.followers g).answer (uuid_of g) x.lease (p.notes ++ p.earlier) x.work) p.state.flight made.sent was.missing
                  ((λ is. absurd (let no = (and_parts (bytes_eq (uuid_of (length p.state.followers)) (uuid_of g)) false is).1 in cc)), tt);
            })
        | inr both ↦
            subst (λ (y : Follower). IsToldTrulyOf now (p.notes ++ p.earlier) (p.state.flight ++ made.sent) g y) (sym both.0) (record {
              phase = tt;
              missing = All-every (MissingOk (now g) (uuid_of g) name (p.notes ++ p.earlier) made.next.work) (λ m is. inl refl) (p.state.flight ++ made.sent);
            })
      ]);
      unmade = λ g at. same g ∙ all.unmade g (not-there g at);
      paired = sent-append (λ (m : Frame) (at : ℕ). Unit {0}) p.state.flight made.sent p.sent_at _ all.paired (tt, tt);
      early = λ id nobody.
          let before : IsEarly id p.line.cut p.notes p.state.flight =
          all.early id (All-append_front (λ (s : Follower). (bytes_eq s.lease id && is_replicating s.work) ≡ false) p.state.followers (new ∷ []) nobody) in
          record { low = let low = before.low in omega arith; none = All-append (λ (m : Frame). renewal_of id m.content ≡ None) p.state.flight made.sent before.none (refl, tt) };
      apart = λ f g x y at_f at_g is. (elim (push-at p.state.followers f x new at_f) as (λ _. f ≡ g) [
        | inl old_f ↦ (elim (push-at p.state.followers g y new at_g) as (λ _. f ≡ g) [
          | inl old_g ↦ all.apart f g x y old_f old_g is
          | inr new_g ↦ absurd (
              let other : bytes_eq x.lease name ≡ false = All-at (λ (f : Follower). bytes_eq f.lease name ≡ false) p.state.followers f x others old_f in
              let own : bytes_eq x.lease name ≡ true = subst (λ (z : List ℕ). bytes_eq x.lease z ≡ true) (ap (λ (z : Follower). z.lease) new_g.0) is in
              cc)
        ])
        | inr new_f ↦ (elim (push-at p.state.followers g y new at_g) as (λ _. f ≡ g) [
          | inl old_g ↦ absurd (
              let other : bytes_eq y.lease name ≡ false = All-at (λ (f : Follower). bytes_eq f.lease name ≡ false) p.state.followers g y others old_g in
              let flipped : bytes_eq name y.lease ≡ false = other_bytes y.lease name other in
              let own : bytes_eq name y.lease ≡ true = subst (λ (z : List ℕ). bytes_eq z y.lease ≡ true) (ap (λ (z : Follower). z.lease) new_f.0) is in
              cc)
          | inr new_g ↦ new_f.1 ∙ sym new_g.1
        ])
      ]);
    }
  where
    not-there : (g : ℕ) → slice_get (p.state.followers ++ (new_follower (length p.state.followers) params copies name p.state.leader.history p.state.leader.start.retention).next ∷ []) g ≡ None → slice_get p.state.followers g ≡ None
    not-there g at =
        (elim (slice_get p.state.followers g) as (λ (o : Option Follower). slice_get p.state.followers g ≡ o → o ≡ None) [
          | None ↦ λ none. refl
          | Some x ↦ λ there. absurd (
              let some = push-old p.state.followers g x (new_follower (length p.state.followers) params copies name p.state.leader.history p.state.leader.start.retention).next there in cc)
        ]) refl

    fresh : ((g : ℕ) → ((past_with p (record { event = events.Follow params copies name; reply = replies.Done }) (with_new_follower p.state params copies name)).followers g).answer ≡ (p.followers g).answer)
        → FollowerOkOf (λ g. ((past_with p (record { event = events.Follow params copies name; reply = replies.Done }) (with_new_follower p.state params copies name)).followers g).answer) p.notes
        (p.state.flight ++ (new_follower (length p.state.followers) params copies name p.state.leader.history p.state.leader.start.retention).sent)
        (p.sent_at ++ map {A = Frame} {B = ℕ} (λ m. p.place) (new_follower (length p.state.followers) params copies name p.state.leader.history p.state.leader.start.retention).sent)
        (length p.state.followers) (new_follower (length p.state.followers) params copies name p.state.leader.history p.state.leader.start.retention).next
    fresh same =
        let f : ℕ = length p.state.followers in
        let made = new_follower f params copies name p.state.leader.history p.state.leader.start.retention in
        let answer : Option ℕ = ((past_with p (record { event = events.Follow params copies name; reply = replies.Done }) (with_new_follower p.state params copies name)).followers f).answer in
        record {
          phase = tt;
          answered = same f ∙ all.unmade f (past-end p.state.followers);
          grants = sent-append (GrantOk (uuid_of f) name p.notes) p.state.flight made.sent p.sent_at _
              (sent-each (GrantOk (uuid_of f) name p.notes) p.state.flight p.sent_at all.paired
              (All-weaker (λ (m : Frame). bytes_eq m.follower (uuid_of f) ≡ false) (λ (m : Frame). (place : ℕ) → GrantOk (uuid_of f) name p.notes m place)
              (λ m other place is. absurd (let own = (and_parts (bytes_eq m.follower (uuid_of f)) (is_grant m.content) is).0 in cc)) p.state.flight grounds.messages.unmade))
              ((λ is. absurd (let no = (and_parts (bytes_eq (uuid_of f) (uuid_of f)) false is).1 in cc)), tt);
          within = λ kept. tt;
          missing = All-append (MissingOk answer (uuid_of f) name p.notes made.next.work) p.state.flight made.sent
              (All-weaker (λ (m : Frame). bytes_eq m.follower (uuid_of f) ≡ false) (MissingOk answer (uuid_of f) name p.notes made.next.work)
              (λ m other is. absurd (let own = (and_parts (bytes_eq m.follower (uuid_of f)) (is_missing m.content) is).0 in cc)) p.state.flight grounds.messages.unmade)
              ((λ is. inl refl), tt);
        }

pub follow-place : (p : Past) (params : ParamValues) (copies : ℕ) (name : List ℕ) (same : Option ℕ) → HasGrounds p → same_name p.state.followers name ≡ same → IsRetaining p
    → IsRetaining (past_with p (record { event = events.Follow params copies name; reply = (follow_row p.state params copies name same).reply }) (follow_row p.state params copies name same))
unfolding follow_row
follow-place p params copies name (Some f) grounds is all = refused-place p (events.Follow params copies name) (SameName f) all
follow-place p params copies name None grounds is all =
    on_guards (λ (o : Outcome State). IsRetaining (past_with p (record { event = events.Follow params copies name; reply = o.reply }) o)) p.state _ (with_new_follower p.state params copies name)
    (λ why. refused-place p (events.Follow params copies name) why all) (λ tests. made-place p params copies name grounds is all)
