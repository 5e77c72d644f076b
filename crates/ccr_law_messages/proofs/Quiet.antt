-- The events about copies send nothing.
use Rattle.std.proofs.Common.{◌≡◌, ℕ, Option, Some, None, List, [], refl}
use Rattle.ccr_op.specs.Operation.{Operation}
use Rattle.ccr_doc.specs.declared.sources.BadSource.{BadSource as SourceFault}
use Rattle.ccr_journal.specs.declared.requests.WriteRequest.{WriteRequest}
use Rattle.ccr_model.specs.Outcomes.{Outcome}
use Rattle.ccr_model.specs.Copies.{Copy, Replica, Copies}
use Rattle.ccr_model.specs.CopyRows.{replicate_row, ack_row, sync_row, fail_copy_row, add_copy_row, flush_row, merge_row, follower_promote_row}
use Rattle.ccr_model.specs.LeaderRows.{write_row, resync_row}
use Rattle.ccr_law_base.proofs.Cases.{on_if, on_guards}

abbrev pub IsSilent : {S : Type 0} → Outcome S → Type 0
IsSilent o = o.sent ≡ []

pub write-silent : (s : Copies) (request : WriteRequest) (fault : Option SourceFault) (found : Option Operation) → IsSilent (write_row s request fault found)
unfolding write_row
write-silent s request (Some fault) found = refl
write-silent s request None found = on_guards (λ (o : Outcome Copies). IsSilent o) s _ _ (λ why. refl) (λ tests. refl)

pub replicate-silent : (s : Copies) (copy seq : ℕ) (found : Option Replica) → IsSilent (replicate_row s copy seq found)
unfolding replicate_row
replicate-silent s copy seq None = refl
replicate-silent s copy seq (Some r) = on_guards (λ (o : Outcome Copies). IsSilent o) s _ _ (λ why. refl) (λ tests. refl)

pub ack-silent : (s : Copies) (copy : ℕ) (found : Option Replica) → IsSilent (ack_row s copy found)
unfolding ack_row
ack-silent s copy None = refl
ack-silent s copy (Some r) = on_guards (λ (o : Outcome Copies). IsSilent o) s _ _ (λ why. refl) (λ tests. refl)

pub sync-silent : (s : Copies) (copy : ℕ) (found : Option Replica) → IsSilent (sync_row s copy found)
unfolding sync_row
sync-silent s copy None = refl
sync-silent s copy (Some r) = on_guards (λ (o : Outcome Copies). IsSilent o) s _ _ (λ why. refl) (λ tests. refl)

pub fail_copy-silent : (s : Copies) (copy : ℕ) (found : Option Replica) → IsSilent (fail_copy_row s copy found)
unfolding fail_copy_row
fail_copy-silent s copy None = refl
fail_copy-silent s copy (Some r) = refl

pub add_copy-silent : (s : Copies) → IsSilent (add_copy_row s)
unfolding add_copy_row
add_copy-silent s = on_guards (λ (o : Outcome Copies). IsSilent o) s _ _ (λ why. refl) (λ tests. refl)

pub flush-silent : (s : Copies) (copy : ℕ) (found : Option Copy) → IsSilent (flush_row s copy found)
unfolding flush_row
flush-silent s copy None = refl
flush-silent s copy (Some c) = refl

pub merge-silent : (s : Copies) (retention copy : ℕ) (picks : List ℕ) (found : Option Copy) → IsSilent (merge_row s retention copy picks found)
unfolding merge_row
merge-silent s retention copy picks None = refl
merge-silent s retention copy picks (Some c) = refl

pub follower_promote-silent : (s : Copies) (copy : ℕ) (found : Option Replica) → IsSilent (follower_promote_row s copy found)
unfolding follower_promote_row
follower_promote-silent s copy None = refl
follower_promote-silent s copy (Some r) = refl

pub resync-silent : (s : Copies) (copy : ℕ) (found : Option Replica) → IsSilent (resync_row s copy found)
unfolding resync_row
resync-silent s copy None = refl
resync-silent s copy (Some r) = on_if (λ (o : Outcome Copies). IsSilent o) r.resynced _ _ (λ already. refl) (λ not_yet. refl)
