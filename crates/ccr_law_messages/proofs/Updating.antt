-- All messages and works after one follower changed, one was made, or sessions were opened.
use Rattle.std.specs.Prelude.{slice_get, slice_set, ◌==◌}
use Rattle.std.proofs.Common.{◌≡◌, ℕ, ◌+◌, ◌<◌, ◌≤◌, Bool, true, false, Some, List, [], ◌∷◌, ◌++◌, length, refl, sym, ◌∙◌, subst, arith, inl, inr}
use Rattle.std.proofs.lemmas.Bool.{eqb-true}
use Rattle.ccr_wire.specs.Message.{Frame}
use Rattle.ccr_model.specs.Leaders.{Session, KeptRequest, Poll}
use Rattle.ccr_model.specs.Requests.{Sending}
use Rattle.ccr_model.specs.Followers.{Follower}
use Rattle.ccr_model.specs.World.{most_followers}
use Rattle.ccr_model.specs.Past.{Line}
use Rattle.ccr_law_messages.specs.Saying.{IsTrueMessage, IsGoodWork}
use Rattle.ccr_law_messages.specs.TrueFrames.{Scene, Own, own_of, setting, IsOfFollower, frame_of_poll, frame_of_kept, AreOfFollowers, IsGoodFollower, AreGoodFollowers, Tells}
use Rattle.ccr_law_messages.proofs.Finds.{length-set, push-at, push-new, length-push}
use Rattle.ccr_law_messages.proofs.Moving.{GrowsTo, followed-message, grown-message, grown-work}
use Rattle.ccr_law_messages.proofs.FollowerRows.{GoesOn, StartsWell}
use Rattle.ccr_law_base.proofs.Lists.{All-weaker, All-append, some_equal, push-old, set-other, set-same}

-- ---- the line grows, and sessions are opened

abbrev pub grown_scene : (List ℕ → Line) → List Session → (ℕ → List ℕ) → Scene
grown_scene lines opened opened_in = record { lines = lines; opened = opened; opened_in = opened_in }

-- the lines of the followers' histories grow
abbrev pub GrowFor : Scene → (List ℕ → Line) → List Session → (ℕ → List ℕ) → List Follower → Type 0
GrowFor scene lines opened opened_in followers =
    (f : ℕ) (s : Follower) → slice_get followers f ≡ Some s → GrowsTo (scene.lines s.history) (lines s.history) scene.opened opened scene.opened_in opened_in

grown-of : (scene : Scene) (lines : List ℕ → Line) (opened : List Session) (opened_in : ℕ → List ℕ) (followers : List Follower) (m : Frame) → GrowFor scene lines opened opened_in followers → IsOfFollower scene followers m
    → IsOfFollower (grown_scene lines opened opened_in) followers m
grown-of scene lines opened opened_in followers m g of = record {
  number = of.number;
  follower = of.follower;
  there = of.there;
  truth = grown-message (setting scene of.number (own_of of.follower)) (lines of.follower.history) opened opened_in of.follower.work m (g of.number of.follower of.there) of.truth;
}

pub tells-grown : (scene : Scene) (lines : List ℕ → Line) (opened : List Session) (opened_in : ℕ → List ℕ) (followers : List Follower) (flight : List Frame) (polls : List Poll) (kept : List KeptRequest)
    → GrowFor scene lines opened opened_in followers → Tells scene followers flight polls kept → Tells (grown_scene lines opened opened_in) followers flight polls kept
tells-grown scene lines opened opened_in followers flight polls kept g now = record {
  flight_ok = All-weaker (IsOfFollower scene followers) (IsOfFollower (grown_scene lines opened opened_in) followers) (λ m of. grown-of scene lines opened opened_in followers m g of) flight now.flight_ok;
  polls_ok = All-weaker (λ (p : Poll). IsOfFollower scene followers (frame_of_poll p)) (λ (p : Poll). IsOfFollower (grown_scene lines opened opened_in) followers (frame_of_poll p))
      (λ p of. grown-of scene lines opened opened_in followers (frame_of_poll p) g of) polls now.polls_ok;
  kept_ok = All-weaker (λ (k : KeptRequest). IsOfFollower scene followers (frame_of_kept k)) (λ (k : KeptRequest). IsOfFollower (grown_scene lines opened opened_in) followers (frame_of_kept k))
      (λ k of. grown-of scene lines opened opened_in followers (frame_of_kept k) g of) kept now.kept_ok;
  works = λ f s at. record { some = (now.works f s at).some; work = grown-work (setting scene f (own_of s)) (lines s.history) opened opened_in s.work (g f s at) (now.works f s at).work };
  few = now.few;
}

-- ---- one follower goes on

-- what is true of the follower at a place
pub true-there : (scene : Scene) (followers : List Follower) (m : Frame) (of : IsOfFollower scene followers m) (x : Follower) → slice_get followers of.number ≡ Some x
    → IsTrueMessage (setting scene of.number (own_of x)) x.work m
true-there scene followers m of x there =
    subst (λ (y : Follower). IsTrueMessage (setting scene of.number (own_of y)) y.work m) (some_equal of.follower x (sym of.there ∙ there)) of.truth

of-updated : (scene : Scene) (followers : List Follower) (f : ℕ) (x next : Follower) (sent : List Frame) (m : Frame) → slice_get followers f ≡ Some x → GoesOn scene f x next sent
    → IsOfFollower scene followers m → IsOfFollower scene (slice_set followers f next) m
of-updated scene followers f x next sent m at goes of =
    (elim (f == of.number) as (λ (b : Bool). (f == of.number) ≡ b → IsOfFollower scene (slice_set followers f next) m) [
      | true ↦ λ here.
          let same : of.number ≡ f = sym (eqb-true f of.number here) in
          let there : slice_get followers of.number ≡ Some x = subst (λ (k : ℕ). slice_get followers k ≡ Some x) (sym same) at in
          let was : IsTrueMessage (setting scene of.number (own_of x)) x.work m = true-there scene followers m of x there in
          let own : IsTrueMessage (setting scene f (own_of x)) x.work m = subst (λ (k : ℕ). IsTrueMessage (setting scene k (own_of x)) x.work m) same was in
          let moved : IsTrueMessage (setting scene f (own_of x)) next.work m = followed-message (setting scene f (own_of x)) x.work next.work m goes.goes.follows own in
          record {
            number = f;
            follower = next;
            there = set-same followers f x next at;
            truth = subst (λ (own : Own). IsTrueMessage (setting scene f own) next.work m) (sym goes.same_lease) moved;
          }
      | false ↦ λ other. record {
        number = of.number;
        follower = of.follower;
        there = set-other followers f of.number next other ∙ of.there;
        truth = of.truth;
      }
    ]) refl

of-sent : (scene : Scene) (followers : List Follower) (f : ℕ) (x next : Follower) (sent : List Frame) → slice_get followers f ≡ Some x → GoesOn scene f x next sent
    → AreOfFollowers scene (slice_set followers f next) sent
of-sent scene followers f x next sent at goes =
    All-weaker (IsTrueMessage (setting scene f (own_of x)) next.work) (IsOfFollower scene (slice_set followers f next))
    (λ m truth. record {
      number = f;
      follower = next;
      there = set-same followers f x next at;
      truth = subst (λ (own : Own). IsTrueMessage (setting scene f own) next.work m) (sym goes.same_lease) truth;
    }) sent goes.goes.messages

works-updated : (scene : Scene) (followers : List Follower) (f : ℕ) (x next : Follower) (sent : List Frame) → slice_get followers f ≡ Some x → GoesOn scene f x next sent
    → AreGoodFollowers scene followers → AreGoodFollowers scene (slice_set followers f next)
works-updated scene followers f x next sent at goes works = λ k y is.
    (elim (f == k) as (λ (b : Bool). (f == k) ≡ b → IsGoodFollower scene k y) [
      | true ↦ λ here.
          let same : f ≡ k = eqb-true f k here in
          let new : next ≡ y = some_equal next y (sym (set-same followers f x next at) ∙ subst (λ (m : ℕ). slice_get (slice_set followers f next) m ≡ Some y) (sym same) is) in
          let good : IsGoodFollower scene f next = record { some = goes.some; work = subst (λ (own : Own). IsGoodWork (setting scene f own) next.work) (sym goes.same_lease) goes.goes.good } in
          subst (λ (z : Follower). IsGoodFollower scene k z) new (subst (λ (m : ℕ). IsGoodFollower scene m next) same good)
      | false ↦ λ other. works k y (sym (set-other followers f k next other) ∙ is)
    ]) refl

pub tells-updated : (scene : Scene) (followers : List Follower) (flight : List Frame) (polls : List Poll) (kept : List KeptRequest) (f : ℕ) (x next : Follower) (sent : List Frame)
    → slice_get followers f ≡ Some x → GoesOn scene f x next sent → Tells scene followers flight polls kept → Tells scene (slice_set followers f next) (flight ++ sent) polls kept
tells-updated scene followers flight polls kept f x next sent at goes now = record {
  flight_ok = All-append (IsOfFollower scene (slice_set followers f next)) flight sent
      (All-weaker (IsOfFollower scene followers) (IsOfFollower scene (slice_set followers f next)) (λ m of. of-updated scene followers f x next sent m at goes of) flight now.flight_ok)
      (of-sent scene followers f x next sent at goes);
  polls_ok = All-weaker (λ (p : Poll). IsOfFollower scene followers (frame_of_poll p)) (λ (p : Poll). IsOfFollower scene (slice_set followers f next) (frame_of_poll p))
      (λ p of. of-updated scene followers f x next sent (frame_of_poll p) at goes of) polls now.polls_ok;
  kept_ok = All-weaker (λ (k : KeptRequest). IsOfFollower scene followers (frame_of_kept k)) (λ (k : KeptRequest). IsOfFollower scene (slice_set followers f next) (frame_of_kept k))
      (λ k of. of-updated scene followers f x next sent (frame_of_kept k) at goes of) kept now.kept_ok;
  works = works-updated scene followers f x next sent at goes now.works;
  few = subst (λ (n : ℕ). n ≤ most_followers) (sym (length-set followers f next)) now.few;
}

-- ---- one follower is made

of-longer : (scene : Scene) (followers : List Follower) (new : Follower) (m : Frame) → IsOfFollower scene followers m → IsOfFollower scene (followers ++ new ∷ []) m
of-longer scene followers new m of = record {
  number = of.number;
  follower = of.follower;
  there = push-old followers of.number of.follower new of.there;
  truth = of.truth;
}

works-longer : (scene : Scene) (followers : List Follower) (new : Follower) → IsGoodFollower scene (length followers) new → AreGoodFollowers scene followers → AreGoodFollowers scene (followers ++ new ∷ [])
works-longer scene followers new good works = λ k y is.
    (elim (push-at followers k y new is) as (λ _. IsGoodFollower scene k y) [
      | inl old ↦ works k y old
      | inr last ↦ subst (λ (z : Follower). IsGoodFollower scene k z) last.0 (subst (λ (n : ℕ). IsGoodFollower scene n new) (sym last.1) good)
    ])

pub tells-longer : (scene : Scene) (followers : List Follower) (flight : List Frame) (polls : List Poll) (kept : List KeptRequest) (made : Sending Follower)
    → length followers < most_followers → StartsWell scene (length followers) made → Tells scene followers flight polls kept
    → Tells scene (followers ++ made.next ∷ []) (flight ++ made.sent) polls kept
tells-longer scene followers flight polls kept made few starts now = record {
  flight_ok = All-append (IsOfFollower scene (followers ++ made.next ∷ [])) flight made.sent
      (All-weaker (IsOfFollower scene followers) (IsOfFollower scene (followers ++ made.next ∷ [])) (λ m of. of-longer scene followers made.next m of) flight now.flight_ok)
      (All-weaker (IsTrueMessage (setting scene (length followers) (own_of made.next)) made.next.work) (IsOfFollower scene (followers ++ made.next ∷ []))
      (λ m truth. record { number = length followers; follower = made.next; there = push-new followers made.next; truth = truth }) made.sent starts.messages);
  polls_ok = All-weaker (λ (p : Poll). IsOfFollower scene followers (frame_of_poll p)) (λ (p : Poll). IsOfFollower scene (followers ++ made.next ∷ []) (frame_of_poll p))
      (λ p of. of-longer scene followers made.next (frame_of_poll p) of) polls now.polls_ok;
  kept_ok = All-weaker (λ (k : KeptRequest). IsOfFollower scene followers (frame_of_kept k)) (λ (k : KeptRequest). IsOfFollower scene (followers ++ made.next ∷ []) (frame_of_kept k))
      (λ k of. of-longer scene followers made.next (frame_of_kept k) of) kept now.kept_ok;
  works = works-longer scene followers made.next starts.good now.works;
  few = let longer : length (followers ++ made.next ∷ []) ≡ length followers + 1 = length-push followers made.next in omega arith;
}
