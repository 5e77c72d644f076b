-- What waits at the leader: requests for leases that some copy still lacks, and reads of its history at copies that are there.
use Rattle.std.specs.Prelude.{◌≡◌, ℕ, true, false, List, is_some}
use Rattle.std.specs.List.{AllByRecursion}
use Rattle.std.specs.Str.{bytes_eq}
use Rattle.ccr_journal.specs.declared.events.Event.{Event}
use Rattle.ccr_model.specs.Copies.{Copies, copy_of}
use Rattle.ccr_model.specs.Leaders.{Start, Leader, KeptRequest, Poll}
use Rattle.ccr_model.specs.LeaderRows.{all_hold}
use Rattle.ccr_model.specs.World.{State, start_state}
use Rattle.ccr_model.specs.Step.{step}

-- of each kept request some copy lacks the lease: none is due an answer
abbrev pub AreKeptRightly : Copies → List KeptRequest → Type 0
AreKeptRightly s kept = AllByRecursion (λ (k : KeptRequest). all_hold k.id s ≡ false) kept

-- each poll waits at a copy that is there
abbrev pub ArePollsThere : Copies → List Poll → Type 0
ArePollsThere s polls = AllByRecursion (λ (p : Poll). is_some (copy_of s p.copy) ≡ true) polls

-- each poll is of this history
abbrev pub ArePollsOf : List ℕ → List Poll → Type 0
ArePollsOf history polls = AllByRecursion (λ (p : Poll). bytes_eq p.history history ≡ true) polls

pub record IsParkedRightly (l : Leader) : Type 0 where
  pub kept : AreKeptRightly l.copies l.kept
  pub polls : ArePollsThere l.copies l.polls
  pub own : ArePollsOf l.history l.polls

abbrev pub ParkedStart : Type 0
ParkedStart = (start : Start) → IsParkedRightly (start_state start).leader

abbrev pub ParkedKeep : Type 0
ParkedKeep = (s : State) (event : Event) (picks : List ℕ) → IsParkedRightly s.leader → IsParkedRightly (step s event picks).next.leader
