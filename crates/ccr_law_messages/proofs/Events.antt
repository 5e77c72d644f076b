-- What holds of the messages and the sessions holds at the start, and each event keeps it.
use Rattle.std.specs.Prelude.{max}
use Rattle.std.proofs.Common.{◌≡◌, ℕ, ◌+◌, ◌<◌, ◌≤◌, ◌==◌, Bool, true, false, nat_lt, if◌then◌else◌, Option, Some, None, List, ◌++◌, length, refl, sym, ◌∙◌, ap, subst, arith}
use Rattle.std.proofs.lemmas.Bool.Decides.{nat_tests}
use Rattle.std.proofs.lemmas.Bool.{eqb-true}
use Rattle.ccr_journal.specs.declared.events.Event.{Event}
use Rattle.ccr_journal.specs.declared.events.Event.TheVariants as events
use Rattle.ccr_model.specs.LeaderRows.{force_promote_row}
use Rattle.ccr_model.specs.Outcomes.{Outcome}
use Rattle.ccr_model.specs.Copies.{Copy}
use Rattle.ccr_model.specs.Leaders.{Leader, Session, session_of, stale_of}
use Rattle.ccr_model.specs.LeaderFrames.{read_ops, new_session}
use Rattle.ccr_model.specs.World.{State}
use Rattle.ccr_model.specs.Step.{step}
use Rattle.ccr_model.specs.Past.{Line, Past, line_of}
use Rattle.ccr_model.specs.FrameFacts.{IsCommitted}
use Rattle.ccr_law_base.specs.Events.{past_by}
use Rattle.ccr_law_base.proofs.Lists.{All-weaker, All-find}
use Rattle.ccr_law_base.proofs.Stays.{begins_none, history_stays}
use Rattle.ccr_law_stores.specs.TrueStores.{IsTrueSession, HasTrueStores, BringsCommitted}
use Rattle.ccr_law_stores.proofs.Reading.{read-of-leader}
use Rattle.ccr_law_copies.specs.Cores.{HasOnward, IsCore}
use Rattle.ccr_law_copies.proofs.LeaderEvents.{line-is}
use Rattle.ccr_law_leases.proofs.Notes.{same_bytes}
use Rattle.ccr_law_messages.specs.Serving.{ReadBrings, ReadsBring, OpensTruly}
use Rattle.ccr_law_messages.specs.TrueFrames.{Scene, Serves, IsOpen, scene_of, HasTrueFrames}
use Rattle.ccr_law_messages.specs.FrameLaws.{FramesStart, FramesKeep}
use Rattle.ccr_law_messages.proofs.Growing.{KeepsFront, front-stays, front-committed, front-holds, grows}
use Rattle.ccr_law_messages.proofs.Openings.{SessionsGoTo, OpensOne, GoOnServing, sessions-true, opening-found, open-later}
use Rattle.ccr_law_messages.proofs.LeaderSessions.{sessions-go}
use Rattle.ccr_law_messages.proofs.LeaderSends.{CopyBrings}
use Rattle.ccr_law_messages.proofs.Updating.{grown_scene, GrowFor, tells-grown}
use Rattle.ccr_law_messages.proofs.MessageEvents.{TellsIn, Serves as ServesNow, FindsNew, each-tells}

pub frames-start : FramesStart
frames-start start = record {
  sessions = record { hold = tt; old = tt; still = tt };
  messages = record { flight_ok = tt; polls_ok = tt; kept_ok = tt; works = λ f s at. absurd cc; few = omega arith };
}

-- what the leader's stores give
reads-bring : (p : Past) → IsCore p → HasTrueStores p → ReadsBring p
reads-bring p core stores = λ copy c found from max_ops max_bytes high some.
    let told : BringsCommitted p.line from c.global max_ops max_bytes (read_ops c from max_ops max_bytes) = read-of-leader p copy c from max_ops max_bytes core stores found high in
    record {
      committed = told.ours;
      run = told.begins;
      number = let few : length (read_ops c from max_ops max_bytes) ≤ max max_ops 1 = told.number in omega arith;
      size = told.size;
    }

-- what reads bring is committed in the later line
brings-later : (line next : Line) (c : Copy) → KeepsFront line next → CopyBrings line c → CopyBrings next c
brings-later line next c front brings = λ from max_ops max_bytes high some.
    let told : ReadBrings line from max_ops max_bytes (read_ops c from max_ops max_bytes) = brings from max_ops max_bytes high some in
    record {
      committed = All-weaker (IsCommitted line) (IsCommitted next) (front-committed line next front) (read_ops c from max_ops max_bytes) told.committed;
      run = told.run;
      number = told.number;
      size = told.size;
    }

-- ---- the lines and the sessions grow

-- the line of each history stays up to its cut
keeps-front : (p : Past) (event : Event) (picks : List ℕ) → IsCore p → (history : List ℕ) → HasOnward p (past_by p event picks) → KeepsFront (line_of p history) (line_of (past_by p event picks) history)
keeps-front p event picks core history onward =
    front-stays (line_of p history) (line_of (past_by p event picks) history) (line-is p core history).numbered (onward history)

-- a session that was opened before stays in its history
stays-in : (p : Past) (event : Event) (picks : List ℕ) (number : ℕ) → number < p.state.leader.next_session → (past_by p event picks).opened_in number ≡ p.opened_in number
stays-in p event picks number low =
    let is : nat_lt number p.state.leader.next_session ≡ true = grind (arith, nat_tests) in
    ap (λ (b : Bool). if b then p.opened_in number else (step p.state event picks).next.leader.history) is

old-of : (p : Past) → HasTrueFrames p → (n : ℕ) (s : Session) → session_of p.opened n ≡ Some s → n < p.state.leader.next_session
old-of p now n s found =
    let both : (s.number < p.state.leader.next_session) × ((s.number == n) ≡ true)
    = All-find (λ (x : Session). x.number < p.state.leader.next_session) (λ x. x.number == n) p.opened s now.sessions.old found in
    let same : s.number ≡ n = eqb-true s.number n both.1 in
    subst (λ (k : ℕ). k < p.state.leader.next_session) same both.0

grow-for : (p : Past) (event : Event) (picks : List ℕ) (more : List Session) → HasOnward p (past_by p event picks) → IsCore p → HasTrueFrames p
    → GrowFor (scene_of p) (line_of (past_by p event picks)) (p.opened ++ more) (past_by p event picks).opened_in p.state.followers
grow-for p event picks more onward core now = λ f s at.
    grows (line_of p s.history) (line_of (past_by p event picks) s.history) p.opened more p.opened_in (past_by p event picks).opened_in
    (λ n session found. stays-in p event picks n (old-of p now n session found))
    (keeps-front p event picks core s.history onward)

serve-later : (p : Past) (event : Event) (picks : List ℕ) → HasOnward p (past_by p event picks) → IsCore p → HasTrueFrames p
    → GoOnServing (line_of p) p.opened_in (line_of (past_by p event picks)) (past_by p event picks).opened_in p.opened
serve-later p event picks onward core now =
    All-weaker (λ (s : Session). s.number < p.state.leader.next_session)
    (λ (s : Session). Serves (line_of p) p.opened_in s → Serves (line_of (past_by p event picks)) (past_by p event picks).opened_in s)
    (λ s old holds. subst (λ (history : List ℕ). IsTrueSession (line_of (past_by p event picks) history) s) (sym (stays-in p event picks s.number old))
    (front-holds (line_of p (p.opened_in s.number)) (line_of (past_by p event picks) (p.opened_in s.number)) s (keeps-front p event picks core (p.opened_in s.number) onward) holds))
    p.opened now.sessions.old

pub own-line : (p : Past) → line_of p p.state.leader.history ≡ p.line
own-line p = ap (λ (b : Bool). if b then p.line else p.ended p.state.leader.history) (same_bytes p.state.leader.history)

-- the leader's line grows
own-front : (p : Past) (event : Event) (picks : List ℕ) → HasOnward p (past_by p event picks) → IsCore p → KeepsFront p.line (line_of (past_by p event picks) p.state.leader.history)
own-front p event picks onward core =
    subst (λ (line : Line). KeepsFront line (line_of (past_by p event picks) p.state.leader.history)) (own-line p) (keeps-front p event picks core p.state.leader.history onward)

-- a session that is opened now is in the leader's history
opens-in : (p : Past) (event : Event) (picks : List ℕ) → begins_none event ≡ true → (past_by p event picks).opened_in p.state.leader.next_session ≡ p.state.leader.history
opens-in p event picks none =
    let isnt : nat_lt p.state.leader.next_session p.state.leader.next_session ≡ false = grind (arith, nat_tests) in
    ap (λ (b : Bool). if b then p.opened_in p.state.leader.next_session else (step p.state event picks).next.leader.history) isnt ∙ history_stays p.state event picks none

-- a forced promotion opens no session
force-opens_none : (l : Leader) (copy : ℕ) (found : Option Copy) → OpensOne l (force_promote_row l copy found).next.next_session (force_promote_row l copy found).next.sessions → ⊥
unfolding force_promote_row
force-opens_none l copy None one = let next : l.next_session ≡ l.next_session + 1 = one.new_next in absurd (omega arith)
force-opens_none l copy (Some c) one = let next : l.next_session ≡ l.next_session + 1 = one.new_next in absurd (omega arith)

new-serves : (p : Past) (event : Event) (picks : List ℕ) → HasOnward p (past_by p event picks) → IsCore p → OpensTruly p → (b : Bool) → begins_none event ≡ b
    → OpensOne p.state.leader (step p.state event picks).next.leader.next_session (step p.state event picks).next.leader.sessions
    → Serves (line_of (past_by p event picks)) (past_by p event picks).opened_in (new_session p.state.leader)
new-serves p event picks onward core opens true none one =
    subst (λ (history : List ℕ). IsTrueSession (line_of (past_by p event picks) history) (new_session p.state.leader)) (sym (opens-in p event picks none))
    (front-holds p.line (line_of (past_by p event picks) p.state.leader.history) (new_session p.state.leader) (own-front p event picks onward core) opens)
new-serves p (events.ForcePromote copy) picks onward core opens false begins one = absurd (force-opens_none p.state.leader copy (stale_of p.state.leader.stale copy) one)
new-serves p event picks onward core opens false begins one = absurd (cc)

serves-later : (p : Past) (event : Event) (picks : List ℕ) (more : List Session) → HasOnward p (past_by p event picks) → IsCore p → ReadsBring p → HasTrueFrames p → begins_none event ≡ true
    → ServesNow (grown_scene (line_of (past_by p event picks)) (p.opened ++ more) (past_by p event picks).opened_in) p.state.leader
serves-later p event picks more onward core reads now none = record {
  brings = λ copy c found. brings-later p.line (line_of (past_by p event picks) p.state.leader.history) c (own-front p event picks onward core) (reads copy c found);
  still = All-weaker (IsOpen p.opened p.state.leader.next_session) (IsOpen (p.opened ++ more) p.state.leader.next_session)
      (λ s is. open-later p.opened more p.state.leader.next_session p.state.leader.next_session s (omega arith) is) p.state.leader.sessions now.sessions.still;
  same_history = opens-in p event picks none;
}

pub frames-keep : FramesKeep
frames-keep p event picks onward core stores opens params now =
    let o : Outcome State = step p.state event picks in
    let goes : SessionsGoTo p.state.leader o.next.leader = sessions-go p.state event picks in
    let scene : Scene = scene_of (past_by p event picks) in
    let before : TellsIn scene p.state =
    tells-grown (scene_of p) (line_of (past_by p event picks)) (past_by p event picks).opened (past_by p event picks).opened_in p.state.followers p.state.flight p.state.leader.polls p.state.leader.kept
    (grow-for p event picks _ onward core now) now.messages in
    let finds : FindsNew scene p.state.leader o.next.leader =
    λ one. opening-found (line_of p) p.opened_in p.opened p.state.leader o.next.leader.next_session o.next.leader.sessions now.sessions one in
    record {
      sessions = sessions-true (line_of p) p.opened_in (line_of (past_by p event picks)) (past_by p event picks).opened_in p.opened p.state.leader o.next.leader.start o.next.leader.next_session o.next.leader.sessions
          (serve-later p event picks onward core now) (λ one. new-serves p event picks onward core opens (begins_none event) refl one) now.sessions goes;
      messages = each-tells scene p.state event picks (λ none. serves-later p event picks _ onward core (reads-bring p core stores) now none) finds params before;
    }
