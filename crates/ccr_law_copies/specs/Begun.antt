-- The histories of a shard world: which of them were begun, and that no two share a UUID.
use Rattle.std.specs.Prelude.{◌≡◌, ℕ, ◌+◌, ◌≤◌, ◌<◌, ◌^◌, ◌==◌, false, if◌then◌else◌, List, [], ◌∷◌}
use Rattle.std.specs.List.{AllByRecursion}
use Rattle.std.specs.Str.{bytes_eq}
use Rattle.ccr_journal.specs.declared.events.Event.{Event}
use Rattle.ccr_journal.specs.declared.journals.Entry.{Entry}
use Rattle.ccr_model.specs.Leaders.{Start, history_of_term}
use Rattle.ccr_model.specs.Followers.{Follower}
use Rattle.ccr_model.specs.Past.{Line, Past, no_line, start_past, past_after}
use Rattle.ccr_law_base.specs.Events.{past_by}
use Rattle.ccr_law_copies.specs.Cores.{IsCore, HasOnward}

-- the UUID of the history that begins with a term: that of term 1 is the one that the leader was made with
abbrev pub uuid_at : List ℕ → ℕ → List ℕ
uuid_at first term = if term == 1 then first else history_of_term first term

-- the history began with a term from 1 to this one
pub record WasBegun (first : List ℕ) (term : ℕ) (history : List ℕ) : Type 0 where
  pub began : ℕ
  pub some : 1 ≤ began
  pub so_far : began ≤ term
  pub same : history ≡ uuid_at first began

-- after so many entries the leader's term is at least 1 and no greater than these allow; its history, those of the followers and those in which
-- sessions were opened were begun; and no history of a later term has a line
pub record AreBegun (first : List ℕ) (term place : ℕ) (current : List ℕ) (followers : List Follower) (opened_in : ℕ → List ℕ) (ended : List ℕ → Line) : Type 0 where
  pub some : 1 ≤ term
  pub few : term ≤ place + 1
  pub leader : WasBegun first term current
  pub followers_begun : AllByRecursion (λ (s : Follower). WasBegun first term s.history) followers
  pub sessions : (number : ℕ) → WasBegun first term (opened_in number)
  pub later : (other : ℕ) → term < other → other ≤ 2 ^ 32 → ended (history_of_term first other) ≡ no_line

abbrev pub HasHistories : Past → Type 0
HasHistories p =
    AreBegun p.state.leader.start.history p.state.leader.copies.term p.place p.state.leader.history p.state.followers p.opened_in p.ended

abbrev pub HistoriesStart : Type 0
HistoriesStart = (start : Start) → HasHistories (start_past start)

abbrev pub HistoriesKeep : Type 0
HistoriesKeep = (p : Past) (event : Event) (picks : List ℕ) → HasHistories p → HasHistories (past_by p event picks)

-- histories that begin with two terms have two UUIDs
abbrev pub AreTold : Type 0
AreTold = (first : List ℕ) (a b : ℕ) → 1 ≤ a → a < b → b ≤ 2 ^ 32 → bytes_eq (uuid_at first a) (uuid_at first b) ≡ false

-- each event leaves what was committed of each history
abbrev pub HistoriesOnward : Type 0
HistoriesOnward = (p : Past) (event : Event) (picks : List ℕ) → p.place + 1 < 2 ^ 32 → IsCore p → HasHistories p → HasOnward p (past_by p event picks)

-- so does each entry
abbrev pub AllOnward : Past → List Entry → Type 0
AllOnward p [] = Unit {0}
AllOnward p (entry ∷ entries) = HasOnward p (past_after p entry) × AllOnward (past_after p entry) entries
