-- A message that fits its follower's work goes on to fit it, where each number that was drawn stands for what it stood for or for nothing.
use Rattle.std.specs.Prelude.{is_some}
use Rattle.std.specs.Str.{bytes_eq}
use Rattle.std.specs.List.{AllByRecursion}
use Rattle.std.proofs.Common.{◌≡◌, ℕ, ◌<◌, ◌≤◌, true, if◌then◌else◌, Option, Some, None, List, [], ◌++◌, refl, sym, ap, subst, arith, inl, inr}
use Rattle.ccr_wire.specs.Message.{Frame}
use Rattle.ccr_model.specs.Followers.{Work, restoring, replicating}
use Rattle.ccr_model.specs.FrameFacts.{next_request_of}
use Rattle.ccr_law_settling_grounds.specs.Purposes.{Purpose, for_lease, for_session, for_beginning, begins, about, awaited, Agree}
use Rattle.ccr_law_messages.specs.Asking.{IsNoMore}
use Rattle.ccr_law_messages.proofs.Finds.{no_more-trans}
use Rattle.ccr_law_base.proofs.Lists.{All-weaker, All-append}

-- a message fits a work: its number was drawn, and what it says is what the work waits for under that number
pub record Fits (w : Work) (request : ℕ) (said : Option Purpose) : Type 0 where
  pub drawn : request < next_request_of w
  pub agrees : Agree (awaited w request) said

-- a message fits where it is under this name
abbrev pub FitsOwn : List ℕ → Work → Frame → Type 0
FitsOwn uuid w m = bytes_eq m.follower uuid ≡ true → Fits w m.request (about m.content)

-- a message is under this name, and fits
pub record IsOwn (uuid : List ℕ) (w : Work) (m : Frame) : Type 0 where
  pub named : m.follower ≡ uuid
  pub fits : Fits w m.request (about m.content)

-- the name under which a work sends
abbrev pub name_in : Work → List ℕ
name_in (restoring r) = r.follower
name_in (replicating t) = t.follower

-- ---- agreement

-- what waits for a lease, or for a session, waits for one of both
pub lease_begins : (waited : Option Purpose) → Agree waited (Some for_lease) → Agree waited (Some for_beginning)
lease_begins None agrees = tt
lease_begins (Some purpose) agrees = ap begins agrees

pub session_begins : (waited : Option Purpose) → Agree waited (Some for_session) → Agree waited (Some for_beginning)
session_begins None agrees = tt
session_begins (Some purpose) agrees = ap begins agrees

pub nothing_awaited : (waited said : Option Purpose) → waited ≡ None → Agree waited said
nothing_awaited waited said none = subst (λ (o : Option Purpose). Agree o said) (sym none) tt

pub same_or_nothing : (old new said : Option Purpose) → IsNoMore old new → Agree old said → Agree new said
same_or_nothing old new said (inl same) agrees = subst (λ (o : Option Purpose). Agree o said) (sym same) agrees
same_or_nothing old new said (inr none) agrees = nothing_awaited new said none

-- where nothing is found any more if nothing was, no more is awaited
pub none_stays_none : {X : Type 0} (purpose : Purpose) (old new : Option X) → (old ≡ None → new ≡ None)
    → IsNoMore (if is_some old then Some purpose else None) (if is_some new then Some purpose else None)
none_stays_none purpose None None stays = inl refl
none_stays_none purpose None (Some y) stays = let is : Some y ≡ None = stays refl in absurd cc
none_stays_none purpose (Some x) None stays = inr refl
none_stays_none purpose (Some x) (Some y) stays = inl refl

-- ---- a work goes on, and sends messages under its name

pub record Moves (uuid : List ℕ) (old new : Work) (sent : List Frame) : Type 0 where
  pub next : next_request_of old ≤ next_request_of new
  pub waits : (n : ℕ) → n < next_request_of old → IsNoMore (awaited old n) (awaited new n)
  pub named : name_in new ≡ uuid
  pub messages : AllByRecursion (IsOwn uuid new) sent

pub fits_on : (uuid : List ℕ) (old new : Work) (sent : List Frame) (request : ℕ) (said : Option Purpose) → Moves uuid old new sent → Fits old request said → Fits new request said
fits_on uuid old new sent request said moves fits = record {
  drawn = let next : next_request_of old ≤ next_request_of new = moves.next in let low : request < next_request_of old = fits.drawn in omega arith;
  agrees = same_or_nothing (awaited old request) (awaited new request) said (moves.waits request fits.drawn) fits.agrees;
}

pub moves_then : (uuid : List ℕ) (a b c : Work) (first second : List Frame) → Moves uuid a b first → Moves uuid b c second → Moves uuid a c (first ++ second)
moves_then uuid a b c first second one two =
    let x : next_request_of a ≤ next_request_of b = one.next in
    let y : next_request_of b ≤ next_request_of c = two.next in
    record {
      next = omega arith;
      waits = λ n low. no_more-trans (awaited a n) (awaited b n) (awaited c n) (one.waits n low) (two.waits n (omega arith));
      named = two.named;
      messages = All-append (IsOwn uuid c) first second
          (All-weaker (IsOwn uuid b) (IsOwn uuid c) (λ m own. record { named = own.named; fits = fits_on uuid b c second m.request (about m.content) two own.fits }) first one.messages) two.messages;
    }

pub moves_not : (uuid : List ℕ) (w : Work) → name_in w ≡ uuid → Moves uuid w w []
moves_not uuid w named = record { next = omega arith; waits = λ n low. inl refl; named = named; messages = tt }
