-- The sessions after an event: those that were open stay as they were opened, and at most one is opened.
use Rattle.std.specs.Prelude.{filter, nat_le, ◌==◌, ◌⊎◌}
use Rattle.std.specs.List.{AllByRecursion}
use Rattle.std.proofs.Common.{◌≡◌, ℕ, ◌+◌, ◌<◌, ◌≤◌, Bool, true, false, if◌then◌else◌, Some, List, [], ◌∷◌, ◌++◌, refl, sym, ◌∙◌, ap, subst, arith, inl, inr}
use Rattle.std.proofs.lemmas.Bool.Decides.{nat_tests}
use Rattle.ccr_model.specs.Leaders.{Start, Leader, Session, session_of}
use Rattle.ccr_model.specs.LeaderFrames.{new_session}
use Rattle.ccr_model.specs.Past.{Line, opened_after}
use Rattle.ccr_law_messages.specs.TrueFrames.{Serves, IsOpen, AreSessions}
use Rattle.ccr_law_messages.proofs.Finds.{find-back, find-takes}
use Rattle.ccr_law_base.proofs.Lists.{All-weaker, All-both, All-append, All-push, find-front}
use Rattle.ccr_law_base.proofs.Tests.{itself}

-- those that are open were open before
pub record StaysOpen (l : Leader) (next : ℕ) (sessions : List Session) : Type 0 where
  pub same_next : next ≡ l.next_session
  pub keeps : (opened : List Session) → AllByRecursion (IsOpen opened l.next_session) l.sessions → AllByRecursion (IsOpen opened l.next_session) sessions

-- one more is open
pub record OpensOne (l : Leader) (next : ℕ) (sessions : List Session) : Type 0 where
  pub new_next : next ≡ l.next_session + 1
  pub new : sessions ≡ l.sessions ++ new_session l ∷ []

pub record SessionsGo (l : Leader) (start : Start) (next : ℕ) (sessions : List Session) : Type 0 where
  pub same_start : start ≡ l.start
  pub go : StaysOpen l next sessions ⊎ OpensOne l next sessions

abbrev pub SessionsGoTo : Leader → Leader → Type 0
SessionsGoTo l next = SessionsGo l next.start next.next_session next.sessions

pub stay-open : (l : Leader) → SessionsGo l l.start l.next_session l.sessions
stay-open l = record { same_start = refl; go = inl (record { same_next = refl; keeps = λ opened all. all }) }

-- ---- lists

filter-none : {X : Type 0} (test : X → Bool) (xs : List X) → AllByRecursion (λ x. test x ≡ false) xs → filter test xs ≡ []
filter-none test [] all = refl
filter-none test (x ∷ xs) all = ap (λ (b : Bool). if b then x ∷ filter test xs else filter test xs) all.0 ∙ filter-none test xs all.1

filter-last : {X : Type 0} (test : X → Bool) (xs : List X) (x : X) → AllByRecursion (λ x. test x ≡ false) xs → test x ≡ true → filter test (xs ++ x ∷ []) ≡ x ∷ []
filter-last test [] x all is = ap (λ (b : Bool). if b then x ∷ [] else []) is
filter-last test (y ∷ xs) x all is = ap (λ (b : Bool). if b then y ∷ filter test (xs ++ x ∷ []) else filter test (xs ++ x ∷ [])) all.0 ∙ filter-last test xs x all.1 is

-- ---- what was opened

open-old : (opened : List Session) (next : ℕ) (sessions : List Session) → AllByRecursion (IsOpen opened next) sessions → AllByRecursion (λ (s : Session). nat_le next s.number ≡ false) sessions
open-old opened next sessions all = All-weaker (IsOpen opened next) (λ (s : Session). nat_le next s.number ≡ false) (λ s is. let low : s.number < next = is.old in grind (arith, nat_tests)) sessions all

stays-opened : (opened : List Session) (next : ℕ) (sessions : List Session) → AllByRecursion (IsOpen opened next) sessions → opened_after opened next sessions ≡ opened ++ []
stays-opened opened next sessions all = ap (λ (more : List Session). opened ++ more) (filter-none (λ (s : Session). nat_le next s.number) sessions (open-old opened next sessions all))

one-opened : (opened : List Session) (l : Leader) → AllByRecursion (IsOpen opened l.next_session) l.sessions
    → opened_after opened l.next_session (l.sessions ++ new_session l ∷ []) ≡ opened ++ new_session l ∷ []
one-opened opened l all =
    ap (λ (more : List Session). opened ++ more) (filter-last (λ (s : Session). nat_le l.next_session s.number) l.sessions (new_session l) (open-old opened l.next_session l.sessions all) (grind (arith, nat_tests)))

new-found : (opened : List Session) (l : Leader) → AllByRecursion (λ (s : Session). s.number < l.next_session) opened → session_of (opened ++ new_session l ∷ []) l.next_session ≡ Some (new_session l)
new-found opened l old =
    find-back (λ (s : Session). s.number == l.next_session) opened (new_session l ∷ [])
    (All-weaker (λ (s : Session). s.number < l.next_session) (λ (s : Session). (s.number == l.next_session) ≡ false) (λ s low. grind (arith, nat_tests)) opened old)
    ∙ find-takes (λ (s : Session). s.number == l.next_session) (new_session l) [] (itself l.next_session)

-- where a session is opened it is found under its number
pub opening-found : (lines : List ℕ → Line) (opened_in : ℕ → List ℕ) (opened : List Session) (l : Leader) (next : ℕ) (sessions : List Session) → AreSessions lines opened_in opened l.next_session l.sessions → OpensOne l next sessions
    → session_of (opened_after opened l.next_session sessions) l.next_session ≡ Some (new_session l)
opening-found lines opened_in opened l next sessions are one =
    subst (λ (now : List Session). session_of (opened_after opened l.next_session now) l.next_session ≡ Some (new_session l)) (sym one.new)
    (subst (λ (all : List Session). session_of all l.next_session ≡ Some (new_session l)) (sym (one-opened opened l are.still)) (new-found opened l are.old))

pub open-later : (opened more : List Session) (old next : ℕ) (s : Session) → old ≤ next → IsOpen opened old s → IsOpen (opened ++ more) next s
open-later opened more old next s less is = record {
  old = let low : s.number < old = is.old in omega arith;
  first = is.first;
  found = find-front (λ (x : Session). x.number == s.number) opened more is.first is.found;
  same_count = is.same_count;
  same_files = is.same_files;
}

-- each session that was opened goes on serving
abbrev pub GoOnServing : (List ℕ → Line) → (ℕ → List ℕ) → (List ℕ → Line) → (ℕ → List ℕ) → List Session → Type 0
GoOnServing lines opened_in after after_in opened = AllByRecursion (λ (s : Session). Serves lines opened_in s → Serves after after_in s) opened

serve-on : (lines : List ℕ → Line) (opened_in : ℕ → List ℕ) (after : List ℕ → Line) (after_in : ℕ → List ℕ) (opened : List Session)
    → GoOnServing lines opened_in after after_in opened → AllByRecursion (Serves lines opened_in) opened → AllByRecursion (Serves after after_in) opened
serve-on lines opened_in after after_in opened on hold =
    All-weaker (λ (s : Session). (Serves lines opened_in s → Serves after after_in s) × Serves lines opened_in s) (Serves after after_in) (λ s both. both.0 both.1) opened
    (All-both (λ (s : Session). Serves lines opened_in s → Serves after after_in s) (Serves lines opened_in) opened on hold)

stay-true : (lines : List ℕ → Line) (opened_in : ℕ → List ℕ) (after : List ℕ → Line) (after_in : ℕ → List ℕ) (opened : List Session) (l : Leader) (sessions : List Session)
    → GoOnServing lines opened_in after after_in opened → AreSessions lines opened_in opened l.next_session l.sessions
    → AllByRecursion (IsOpen opened l.next_session) sessions → AreSessions after after_in (opened ++ []) l.next_session sessions
stay-true lines opened_in after after_in opened l sessions on are still = record {
  hold = All-append (Serves after after_in) opened [] (serve-on lines opened_in after after_in opened on are.hold) tt;
  old = All-append (λ (s : Session). s.number < l.next_session) opened [] are.old tt;
  still = All-weaker (IsOpen opened l.next_session) (IsOpen (opened ++ []) l.next_session) (λ s is. open-later opened [] l.next_session l.next_session s (omega arith) is) sessions still;
}

open-true : (lines : List ℕ → Line) (opened_in : ℕ → List ℕ) (after : List ℕ → Line) (after_in : ℕ → List ℕ) (opened : List Session) (l : Leader)
    → GoOnServing lines opened_in after after_in opened → Serves after after_in (new_session l) → AreSessions lines opened_in opened l.next_session l.sessions
    → AreSessions after after_in (opened ++ new_session l ∷ []) (l.next_session + 1) (l.sessions ++ new_session l ∷ [])
open-true lines opened_in after after_in opened l on files are = record {
  hold = All-push (Serves after after_in) opened (new_session l) (serve-on lines opened_in after after_in opened on are.hold) files;
  old = All-push (λ (s : Session). s.number < l.next_session + 1) opened (new_session l)
      (All-weaker (λ (s : Session). s.number < l.next_session) (λ (s : Session). s.number < l.next_session + 1) (λ s low. omega arith) opened are.old) (omega arith);
  still = All-push (IsOpen (opened ++ new_session l ∷ []) (l.next_session + 1)) l.sessions (new_session l)
      (All-weaker (IsOpen opened l.next_session) (IsOpen (opened ++ new_session l ∷ []) (l.next_session + 1))
      (λ s is. open-later opened (new_session l ∷ []) l.next_session (l.next_session + 1) s (omega arith) is) l.sessions are.still)
      (record { old = omega arith; first = new_session l; found = new-found opened l are.old; same_count = refl; same_files = refl });
}

-- the sessions after an event are as they were opened
pub sessions-true : (lines : List ℕ → Line) (opened_in : ℕ → List ℕ) (after : List ℕ → Line) (after_in : ℕ → List ℕ) (opened : List Session) (l : Leader) (start : Start) (next : ℕ) (sessions : List Session)
    → GoOnServing lines opened_in after after_in opened → (OpensOne l next sessions → Serves after after_in (new_session l))
    → AreSessions lines opened_in opened l.next_session l.sessions → SessionsGo l start next sessions → AreSessions after after_in (opened_after opened l.next_session sessions) next sessions
sessions-true lines opened_in after after_in opened l start next sessions on files are goes = by_case goes.go
  where
    by_case : StaysOpen l next sessions ⊎ OpensOne l next sessions → AreSessions after after_in (opened_after opened l.next_session sessions) next sessions
    by_case (inl stays) =
        let still : AllByRecursion (IsOpen opened l.next_session) sessions = stays.keeps opened are.still in
        subst (λ (n : ℕ). AreSessions after after_in (opened_after opened l.next_session sessions) n sessions) (sym stays.same_next)
        (subst (λ (all : List Session). AreSessions after after_in all l.next_session sessions) (sym (stays-opened opened l.next_session sessions still))
        (stay-true lines opened_in after after_in opened l sessions on are still))
    by_case (inr one) =
        subst (λ (n : ℕ). AreSessions after after_in (opened_after opened l.next_session sessions) n sessions) (sym one.new_next)
        (subst (λ (now : List Session). AreSessions after after_in (opened_after opened l.next_session now) (l.next_session + 1) now) (sym one.new)
        (subst (λ (all : List Session). AreSessions after after_in all (l.next_session + 1) (l.sessions ++ new_session l ∷ [])) (sym (one-opened opened l are.still))
        (open-true lines opened_in after after_in opened l on (files one) are)))
