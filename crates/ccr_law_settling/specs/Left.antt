-- What is settled of the leader where nothing may be done.
use Rattle.std.specs.Prelude.{◌≡◌, true, false, [], None}
use Rattle.std.specs.List.{list_all}
use Rattle.ccr_journal.specs.declared.events.Event.{Event}
use Rattle.ccr_model.specs.Copies.{all_copies, not_ready}
use Rattle.ccr_model.specs.Settled.{is_whole}
use Rattle.ccr_model.specs.World.{State}
use Rattle.ccr_model.specs.Settling.{may_act}

abbrev pub NothingMayBeDone : State → Type 0
NothingMayBeDone s = (event : Event) → may_act s event ≡ false

pub record IsLeaderSettled (s : State) : Type 0 where
  pub ready : not_ready s.leader.copies ≡ None
  pub whole : list_all (is_whole s.leader.copies.primary.seen.count) (all_copies s.leader.copies) ≡ true
  pub taken : s.flight ≡ []
