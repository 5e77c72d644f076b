-- The messages of each number are about what it is for at the start, and each event keeps it.
use Rattle.std.specs.Prelude.{slice_get}
use Rattle.std.specs.Str.{bytes_eq}
use Rattle.std.proofs.Common.{◌≡◌, ℕ, ◌<◌, ◌≤◌, true, false, Some, List, length, sym, ◌∙◌, ap, subst, arith}
use Rattle.std.proofs.lemmas.Bool.Decides.{nat_tests}
use Rattle.std.proofs.lemmas.Slice.Eq.{bytes_eq-Decides}
use Rattle.ccr_wire.specs.Message.{Frame}
use Rattle.ccr_model.specs.Leaders.{KeptRequest, Poll}
use Rattle.ccr_model.specs.Followers.{Follower, Work, restoring, replicating, uuid_of}
use Rattle.ccr_model.specs.World.{State, follower_of, most_followers}
use Rattle.ccr_model.specs.Step.{step}
use Rattle.ccr_model.specs.FrameFacts.{next_request_of}
use Rattle.ccr_law_messages.specs.Saying.{Setting, IsGoodWork}
use Rattle.ccr_law_messages.specs.TrueFrames.{Scene, setting, IsOfFollower, own_of, frame_of_poll, frame_of_kept, Tells, scene_of}
use Rattle.ccr_law_messages.proofs.Naming.{named-at}
use Rattle.ccr_law_settling_grounds.specs.Purposes.{about, awaited, Agree, AreAlike, HasPurposes, PurposesStart, PurposesKeep}
use Rattle.ccr_law_settling_grounds.proofs.Purpose.Fitting.{FitsOwn, name_in}
use Rattle.ccr_law_settling_grounds.proofs.Purpose.Followers.{AreReadsDrawn}
use Rattle.ccr_law_settling_grounds.proofs.Purpose.Worlds.{FitsIn, WorldFits, AreOrderly, NextIsUnheard, names_differ}
use Rattle.ccr_law_settling_grounds.proofs.Purpose.Rows.{each_fits}
use Rattle.ccr_law_base.proofs.Lists.{All-weaker, All-both, some_equal, get_within}

-- the message agrees with what its follower waits for
abbrev AgreesOwn : List ℕ → Work → Frame → Type 0
AgreesOwn uuid w m = bytes_eq m.follower uuid ≡ true → Agree (awaited w m.request) (about m.content)

-- ---- what the law of the messages in flight gives

named_work : (e : Setting) (w : Work) → IsGoodWork e w → name_in w ≡ e.uuid
named_work e (restoring r) good = good.named
named_work e (replicating t) good = good.named

reads_drawn : (e : Setting) (w : Work) → IsGoodWork e w → AreReadsDrawn w
reads_drawn e (restoring r) good = tt
reads_drawn e (replicating t) good = good.reads.drawn

abbrev TellsOf : Scene → State → Type 0
TellsOf scene s = Tells scene s.followers s.flight s.leader.polls s.leader.kept

orderly : (scene : Scene) (s : State) → TellsOf scene s → AreOrderly s.followers
orderly scene s tells = record {
  few = tells.few;
  named = λ f own there. named_work (setting scene f (own_of own)) own.work (tells.works f own there).work;
  drawn = λ f own there. reads_drawn (setting scene f (own_of own)) own.work (tells.works f own there).work;
}

-- the follower that is meant is the one whose name it is
same_follower : (scene : Scene) (followers : List Follower) (m : Frame) (f : ℕ) (own : Follower) → length followers ≤ most_followers → slice_get followers f ≡ Some own
    → (of : IsOfFollower scene followers m) → bytes_eq m.follower (uuid_of f) ≡ true → of.follower ≡ own
same_follower scene followers m f own few there of named =
    let same : uuid_of of.number ≡ uuid_of f = sym of.truth.named ∙ (bytes_eq-Decides m.follower (uuid_of f)).0 named in
    let number : of.number ≡ f =
    some_equal of.number f (sym (named-at followers of.number of.follower few of.there) ∙ (ap (λ (uuid : List ℕ). follower_of followers uuid) same ∙ named-at followers f own few there)) in
    some_equal of.follower own (sym of.there ∙ (ap (λ (n : ℕ). slice_get followers n) number ∙ there))

fits_there : (scene : Scene) (followers : List Follower) (m : Frame) (f : ℕ) (own : Follower) → length followers ≤ most_followers → slice_get followers f ≡ Some own
    → IsOfFollower scene followers m × AgreesOwn (uuid_of f) own.work m → FitsOwn (uuid_of f) own.work m
fits_there scene followers m f own few there both = λ named. record {
  drawn = subst (λ (x : Follower). m.request < next_request_of x.work) (same_follower scene followers m f own few there both.0 named) both.0.truth.drawn;
  agrees = both.1 named;
}

world_fits : (scene : Scene) (s : State) → TellsOf scene s → HasPurposes s → WorldFits s
world_fits scene s tells now = λ f own there.
    let fits : (m : Frame) → IsOfFollower scene s.followers m × AgreesOwn (uuid_of f) own.work m → FitsOwn (uuid_of f) own.work m =
    λ m both. fits_there scene s.followers m f own tells.few there both in
    let alike : AreAlike s f own = now f own there in
    record {
      sent_fit = All-weaker (λ (m : Frame). IsOfFollower scene s.followers m × AgreesOwn (uuid_of f) own.work m) (FitsOwn (uuid_of f) own.work) fits s.flight
          (All-both (IsOfFollower scene s.followers) (AgreesOwn (uuid_of f) own.work) s.flight tells.flight_ok alike.flight);
      polls_fit = All-weaker (λ (p : Poll). IsOfFollower scene s.followers (frame_of_poll p) × AgreesOwn (uuid_of f) own.work (frame_of_poll p)) (λ (p : Poll). FitsOwn (uuid_of f) own.work (frame_of_poll p))
          (λ p both. fits (frame_of_poll p) both) s.leader.polls
          (All-both (λ (p : Poll). IsOfFollower scene s.followers (frame_of_poll p)) (λ (p : Poll). AgreesOwn (uuid_of f) own.work (frame_of_poll p)) s.leader.polls tells.polls_ok alike.polls);
      kept_fit = All-weaker (λ (k : KeptRequest). IsOfFollower scene s.followers (frame_of_kept k) × AgreesOwn (uuid_of f) own.work (frame_of_kept k)) (λ (k : KeptRequest). FitsOwn (uuid_of f) own.work (frame_of_kept k))
          (λ k both. fits (frame_of_kept k) both) s.leader.kept
          (All-both (λ (k : KeptRequest). IsOfFollower scene s.followers (frame_of_kept k)) (λ (k : KeptRequest). AgreesOwn (uuid_of f) own.work (frame_of_kept k)) s.leader.kept tells.kept_ok alike.kept);
    }

-- a message of a follower that was made is not under the name of the next
not_next : (scene : Scene) (followers : List Follower) (m : Frame) (w : Work) → length followers ≤ most_followers → IsOfFollower scene followers m → FitsOwn (uuid_of (length followers)) w m
not_next scene followers m w few of = λ named.
    let low : of.number < length followers = get_within followers of.number of.follower of.there in
    let other : bytes_eq (uuid_of of.number) (uuid_of (length followers)) ≡ false = names_differ of.number (length followers) (omega arith) (omega arith) (grind (arith, nat_tests)) in
    let same : bytes_eq (uuid_of of.number) (uuid_of (length followers)) ≡ true = subst (λ (name : List ℕ). bytes_eq name (uuid_of (length followers)) ≡ true) of.truth.named named in
    absurd cc

next_unheard : (scene : Scene) (s : State) → TellsOf scene s → NextIsUnheard s
next_unheard scene s tells = λ w.
    let fits : (m : Frame) → IsOfFollower scene s.followers m → FitsOwn (uuid_of (length s.followers)) w m = λ m of. not_next scene s.followers m w tells.few of in
    record {
      sent_fit = All-weaker (IsOfFollower scene s.followers) (FitsOwn (uuid_of (length s.followers)) w) fits s.flight tells.flight_ok;
      polls_fit = All-weaker (λ (p : Poll). IsOfFollower scene s.followers (frame_of_poll p)) (λ (p : Poll). FitsOwn (uuid_of (length s.followers)) w (frame_of_poll p))
          (λ p of. fits (frame_of_poll p) of) s.leader.polls tells.polls_ok;
      kept_fit = All-weaker (λ (k : KeptRequest). IsOfFollower scene s.followers (frame_of_kept k)) (λ (k : KeptRequest). FitsOwn (uuid_of (length s.followers)) w (frame_of_kept k))
          (λ k of. fits (frame_of_kept k) of) s.leader.kept tells.kept_ok;
    }

-- ---- the law

-- what fits agrees
purposes_of : (s : State) → WorldFits s → HasPurposes s
purposes_of s fits = λ f own there.
    let fit : FitsIn s (uuid_of f) own.work = fits f own there in
    record {
      flight = All-weaker (FitsOwn (uuid_of f) own.work) (AgreesOwn (uuid_of f) own.work) (λ m fit_one named. (fit_one named).agrees) s.flight fit.sent_fit;
      polls = All-weaker (λ (p : Poll). FitsOwn (uuid_of f) own.work (frame_of_poll p)) (λ (p : Poll). AgreesOwn (uuid_of f) own.work (frame_of_poll p))
          (λ p fit_one named. (fit_one named).agrees) s.leader.polls fit.polls_fit;
      kept = All-weaker (λ (k : KeptRequest). FitsOwn (uuid_of f) own.work (frame_of_kept k)) (λ (k : KeptRequest). AgreesOwn (uuid_of f) own.work (frame_of_kept k))
          (λ k fit_one named. (fit_one named).agrees) s.leader.kept fit.kept_fit;
    }

pub purposes_start : PurposesStart
purposes_start start = λ f own there. absurd cc

pub purposes_keep : PurposesKeep
purposes_keep p event picks frames now =
    purposes_of (step p.state event picks).next
    (each_fits p.state event picks (orderly (scene_of p) p.state frames.messages) (next_unheard (scene_of p) p.state frames.messages) (world_fits (scene_of p) p.state frames.messages now))
