-- What the claims on the followers' copies imply.
use Rattle.std.specs.List.{AllByRecursion}
use Rattle.std.specs.Prelude.{slice_get}
use Rattle.std.proofs.Common.{◌≡◌, ℕ, Option, Some, List}
use Rattle.ccr_op.specs.Operation.{Operation}
use Rattle.ccr_model.specs.Stores.{held}
use Rattle.ccr_model.specs.Copies.{Copy, Replica, Copies, all_copies}
use Rattle.ccr_model.specs.Given.{IsAmong}
use Rattle.ccr_model.specs.Followers.{Follower, Work, restoring, replicating}
use Rattle.ccr_model.specs.Past.{Line, Past, FollowerPast, WrittenBatch, line_of}
use Rattle.ccr_model.specs.CopyFacts.{IsKnownTruly}
use Rattle.ccr_model.specs.FrameFacts.{IsCommitted}
use Rattle.ccr_model.specs.Invariants.{HasProcessed, IsTrueFollowerCopy, AreTrueCopies, IsTrueReplication}
use Rattle.ccr_model.specs.Headline.{HoldsCommitted}
use Rattle.ccr_law_base.proofs.Lists.{All-weaker, All-map, All-places}
use Rattle.ccr_law_followers.specs.TrueCopies.{CopyOk, ReplicaOk, CopiesOf, HasTrueCopies, WritesCommitted, HasCommittedBatches, IsTrueCopyGroup}
use Rattle.ccr_law_followers.proofs.One.{copy-says}

-- what holds of the primary and of each replica's copy holds of all copies
pub All-copies : (Q : Copy → Type 0) (line : Line) (given : ℕ → ℕ → Option Operation) (restored : ℕ) (written : List WrittenBatch) (s : Copies)
    → ((c : Copy) → CopyOk line (given c.number) restored written s.next c → Q c) → CopiesOf line given restored written s → AllByRecursion Q (all_copies s)
All-copies Q line given restored written s step ok = (
  step s.primary ok.own,
  All-map Q (λ (r : Replica). r.copy) s.replicas
      (All-weaker (λ (r : Replica). ReplicaOk line (given r.copy.number) restored written s.primary.number s.primary.global s.next r) (λ (r : Replica). Q r.copy)
      (λ r is. step r.copy is.copy) s.replicas ok.others),
)

pub copies-say : (line : Line) (past : FollowerPast) (s : Copies) → CopiesOf line past.given past.restored past.written s → AreTrueCopies line past s
copies-say line past s ok = record {
  copies = All-copies (IsTrueFollowerCopy line past.given past.restored) line past.given past.restored past.written s
      (λ c is. copy-says line past.given past.restored past.written s.next c is) ok;
  known = All-weaker (λ (r : Replica). ReplicaOk line (past.given r.copy.number) past.restored past.written s.primary.number s.primary.global s.next r) IsKnownTruly
      (λ r is. record { known = is.truly; early = λ some. is.resynced }) s.replicas ok.others;
  written = All-copies (λ (c : Copy). AllByRecursion (HasProcessed c) past.written) line past.given past.restored past.written s (λ c is. is.all) ok;
}

pub followers-say : (p : Past) → HasTrueCopies p → (f : ℕ) (s : Follower) → slice_get p.state.followers f ≡ Some s → IsTrueCopyGroup p f s
followers-say p ok f s at = record {
  copies = copies-say (line_of p s.history) (p.followers f) s.copies (ok.made f s at).copies;
  written = All-copies (λ (c : Copy). AllByRecursion (HasProcessed c) (p.followers f).written) (line_of p s.history) (p.followers f).given (p.followers f).restored (p.followers f).written s.copies
      (λ c is. is.all) (ok.made f s at).copies;
}

-- ---- what is held

pub holds-committed : (p : Past) → HasTrueCopies p → HoldsCommitted p
holds-committed p ok =
    All-places (λ (s : Follower). AllByRecursion (λ (c : Copy). AllByRecursion (IsCommitted (line_of p s.history)) (held c.store)) (all_copies s.copies)) p.state.followers
    (λ f s at.
    All-copies (λ (c : Copy). AllByRecursion (IsCommitted (line_of p s.history)) (held c.store)) (line_of p s.history) (p.followers f).given (p.followers f).restored (p.followers f).written s.copies
    (λ c is. All-weaker (IsAmong ((p.followers f).given c.number)) (IsCommitted (line_of p s.history)) (λ op among. (is.committed op.seq op among).0) (held c.store) is.store.ours)
    (ok.made f s at).copies)

-- ---- what is taken of the tasks

pub writes-committed : (p : Past) → ((f : ℕ) (s : Follower) → slice_get p.state.followers f ≡ Some s → IsTrueReplication (line_of p s.history) (p.followers f) s.work) → WritesCommitted p
writes-committed p truth f s at = by_work s.work (truth f s at)
  where
    by_work : (work : Work) → IsTrueReplication (line_of p s.history) (p.followers f) work → HasCommittedBatches (line_of p s.history) work
    by_work (restoring r) true_of = tt
    by_work (replicating t) true_of = true_of.0.batches
