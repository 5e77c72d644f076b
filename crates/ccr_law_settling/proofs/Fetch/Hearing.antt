-- How the measure of a world becomes smaller where a bootstrap ends.
use Rattle.std.specs.List.{AllByRecursion}
use Rattle.std.specs.Prelude.{slice_get, slice_set, remove}
use Rattle.std.proofs.Common.{◌≡◌, ℕ, ◌<◌, Some, List, [], ◌++◌, sym, subst}
use Rattle.ccr_journal.specs.declared.params.ParamValues.{ParamValues}
use Rattle.ccr_journal.specs.declared.sides.Phase.TheVariants as phases
use Rattle.ccr_model.specs.Outcomes.{Outcome}
use Rattle.ccr_model.specs.Requests.{Sending}
use Rattle.ccr_model.specs.Tasks.{Task, started}
use Rattle.ccr_model.specs.Restores.{Restore, fetching, Fetch, is_complete}
use Rattle.ccr_model.specs.Leaders.{Session}
use Rattle.ccr_model.specs.Followers.{Follower, restoring, bootstrapped}
use Rattle.ccr_model.specs.FollowerRows.{restore_done}
use Rattle.ccr_model.specs.World.{State, at_follower}
use Rattle.ccr_law_base.proofs.Cases.{on_if}
use Rattle.ccr_law_settling.specs.Measure.{rank_of, IsLower}
use Rattle.ccr_law_settling.proofs.Measure.Totals.{le_itself}
use Rattle.ccr_law_settling.proofs.Measure.Filling.{fill_fills}
use Rattle.ccr_law_settling.proofs.Measure.Flights.{IsPlain}
use Rattle.ccr_law_settling.proofs.Measure.StaleMessages.{left}
use Rattle.ccr_law_settling.proofs.Measure.Hearing.{rank_lower}

-- ---- a bootstrap that fetches

started_plain : (sessions : List Session) (params : ParamValues) (count epoch : ℕ) (history follower : List ℕ) (request : ℕ)
    → AllByRecursion (IsPlain sessions) (started params count epoch history follower request).sent
started_plain sessions params count epoch history follower request = (fill_fills count sessions first (le_itself count)).sent
  where
    first : Task
    first = record {
      params = params;
      history = history;
      follower = follower;
      phase = phases.Active;
      epoch = epoch;
      next_request = request;
      retry = 0;
      next = count;
      known = count;
      reads = [];
      buffer = [];
      next_write = 0;
      writes = [];
    }

-- where all parts are there its rank falls to 0; what lowers where some are lacking is for the caller to say
pub done_lower : (count_of : List ℕ → ℕ) (s : State) (at f : ℕ) (own : Follower) (done : Sending Restore) (r : Restore) (fetch : Fetch) → slice_get s.followers f ≡ Some own
    → done.next ≡ record r { stage = fetching fetch } → 0 < rank_of s.flight s.leader.sessions f own.work
    → IsLower count_of (record s { followers = slice_set s.followers f (record own { work = restoring (record r { stage = fetching fetch }) }); flight = remove s.flight at ++ done.sent }) s
    → IsLower count_of (at_follower (left s at) f (restore_done own done)).next s
done_lower count_of s at f own done r fetch there is some lower =
    subst (λ (next : Restore). IsLower count_of (at_follower (left s at) f (restore_done own (record { next = next; sent = done.sent }))).next s) (sym is)
    (on_if (λ (o : Outcome Follower). IsLower count_of (at_follower (left s at) f o).next s) (is_complete r.chunk_size fetch) _ _
    (λ whole. rank_lower count_of s at f own (bootstrapped own (record r { stage = fetching fetch }) fetch).next (bootstrapped own (record r { stage = fetching fetch }) fetch).sent there
    (started_plain s.leader.sessions own.params fetch.count 1 fetch.history r.follower r.next_request) some)
    (λ lacking. lower))
