-- An event leaves what was committed, and the sessions as they were opened.
use Rattle.std.specs.Prelude.{slice_get, ◌==◌}
use Rattle.std.proofs.Common.{◌≡◌, ℕ, ◌<◌, ◌≤◌, Some, List, ◌++◌, take, sym, ◌∙◌, ap, arith}
use Rattle.ccr_op.specs.Operation.{Operation}
use Rattle.ccr_model.specs.Leaders.{Session, session_of}
use Rattle.ccr_model.specs.Past.{Line}
use Rattle.ccr_model.specs.FrameFacts.{IsCommitted}
use Rattle.ccr_law_stores.specs.TrueStores.{IsTrueSession}
use Rattle.ccr_law_stores.proofs.Sessions.{front-same, session-stays}
use Rattle.ccr_law_messages.proofs.Moving.{GrowsTo}
use Rattle.ccr_law_base.proofs.Lists.{slice_get-take, find-front}
use Rattle.ccr_law_copies.specs.Cores.{IsFront}

-- the line, whose operations are told by their numbers, keeps what was committed
pub record KeepsFront (line next : Line) : Type 0 where
  pub cut : line.cut ≤ next.cut
  pub same : take line.cut next.ops ≡ take line.cut line.ops
  pub numbered : (n : ℕ) (op : Operation) → slice_get line.ops n ≡ Some op → op.seq ≡ n

pub front-stays : (old new : Line) → ((n : ℕ) (op : Operation) → slice_get old.ops n ≡ Some op → op.seq ≡ n) → IsFront old new → KeepsFront old new
front-stays old new numbered front = record { cut = front.cut; same = front.same; numbered = numbered }

pub front-committed : (line next : Line) → KeepsFront line next → (op : Operation) → IsCommitted line op → IsCommitted next op
front-committed line next front op is = record {
  below = let low : op.seq < line.cut = is.below in let more : line.cut ≤ next.cut = front.cut in omega arith;
  same = sym (slice_get-take line.cut next.ops op.seq is.below) ∙ (ap (λ (xs : List Operation). slice_get xs op.seq) front.same ∙ (slice_get-take line.cut line.ops op.seq is.below ∙ is.same));
}

pub front-holds : (line next : Line) (s : Session) → KeepsFront line next → IsTrueSession line s → IsTrueSession next s
front-holds line next s front holds = session-stays line next s front.numbered (front-same line.cut next.ops line.ops front.same) front.cut holds

-- what an event does to the line and to the sessions that were opened
pub grows : (line next : Line) (opened more : List Session) (old_in opened_in : ℕ → List ℕ) → ((n : ℕ) (s : Session) → session_of opened n ≡ Some s → opened_in n ≡ old_in n)
    → KeepsFront line next → GrowsTo line next opened (opened ++ more) old_in opened_in
grows line next opened more old_in opened_in within front = record {
  committed = front-committed line next front;
  known = λ n s found. find-front (λ x. x.number == n) opened more s found;
  within = within;
}
