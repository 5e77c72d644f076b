-- What a write is answered.
use Rattle.std.specs.Prelude.{is_some, IsSomeAnd}
use Rattle.std.proofs.Common.{◌≡◌, ℕ, ◌&&◌, Bool, true, false, if◌then◌else◌, Option, Some, None, Result, Ok, Err, List, [], ◌∷◌, refl, sym, ◌∙◌, ap, subst}
use Rattle.ccr_op.specs.Operation.{Operation}
use Rattle.ccr_op.specs.declared.operation.Kind.{Kind}
use Rattle.ccr_op.specs.declared.operation.Kind.TheVariants.{Index, Delete}
use Rattle.ccr_doc.specs.Sources.{compact_of}
use Rattle.ccr_doc.specs.declared.sources.BadSource.{BadSource as SourceFault}
use Rattle.ccr_journal.specs.declared.requests.WriteRequest.{WriteRequest}
use Rattle.ccr_journal.specs.declared.replies.Reply.TheVariants as replies
use Rattle.ccr_journal.specs.declared.replies.Wrote.{Wrote}
use Rattle.ccr_journal.specs.declared.replies.Refusal.{Refusal}
use Rattle.ccr_journal.specs.declared.replies.Refusal.TheVariants.{BadSource, Conflict, Exists}
use Rattle.ccr_model.specs.Operations.{live}
use Rattle.ccr_model.specs.Stores.{held}
use Rattle.ccr_model.specs.Outcomes.{Outcome, refused, answered, guarded, within}
use Rattle.ccr_model.specs.Copies.{Copies}
use Rattle.ccr_model.specs.Leaders.{Leader, KeptRequest}
use Rattle.ccr_model.specs.LeaderRows.{with_copies, source_fault, kind_of_request, conflicts, place_of_live, number_of, result_of, wrote_at, written_operation, primary_takes, write_row, leader_write}
use Rattle.ccr_law_settling_grounds.specs.Parked.{AreKeptRightly}
use Rattle.ccr_leader.specs.declared.leader_fault.LeaderFault.{LeaderFault}
use Rattle.ccr_leader.specs.declared.leader_fault.LeaderFault.TheVariants as faults
use Rattle.ccr_leader.specs.Faults.{refusal_of}
use Rattle.ccr_leader.specs.Writing.{expectation, IsCompactOf, result_for}

-- ---- sources

-- a source that has a compact text has no fault
pub source-faultless : (body source : Option (List ℕ)) → IsCompactOf body source → source_fault body ≡ None
source-faultless None None is = refl
source-faultless None (Some text) is = absurd is
source-faultless (Some body) None is = absurd is
source-faultless (Some body) (Some text) is = ap (λ (r : Result (List ℕ) SourceFault). elim r as (λ _. Option SourceFault) [ Ok text ↦ None | Err fault ↦ Some fault ]) is

pub source-faulty : (body : List ℕ) (fault : SourceFault) → compact_of body ≡ Err fault → source_fault (Some body) ≡ Some fault
source-faulty body fault is = ap (λ (r : Result (List ℕ) SourceFault). elim r as (λ _. Option SourceFault) [ Ok text ↦ None | Err fault ↦ Some fault ]) is

-- what is written has the compact text
pub kind-some : (id text : List ℕ) (routing body : Option (List ℕ)) → IsCompactOf body (Some text) → kind_of_request id routing body ≡ Index id routing text
kind-some id text routing None is = absurd is
kind-some id text routing (Some body) is =
    ap (λ (r : Result (List ℕ) SourceFault). elim r as (λ _. Kind) [ Ok text ↦ Index id routing text | Err fault ↦ Delete id routing ]) is

pub kind-none : (id : List ℕ) (routing body : Option (List ℕ)) → IsCompactOf body None → kind_of_request id routing body ≡ Delete id routing
kind-none id routing None is = refl
kind-none id routing (Some body) is = absurd is

pub result-for : (body : Option (List ℕ)) (found : Option Operation) → result_for (is_some body) (is_some found) ≡ result_of body found
result-for (Some body) (Some op) = refl
result-for (Some body) None = refl
result-for None (Some op) = refl
result-for None None = refl

-- ---- the row

-- the guards of a write are what it expects
guarded-accepted : (s : Copies) (a b : Bool) (first second : Refusal) (effect : Outcome Copies) → (if a then Some first else if b then Some second else None) ≡ None
    → guarded s ((a, first) ∷ (b, second) ∷ []) effect ≡ effect
unfolding guarded
guarded-accepted s true b first second effect none = absurd cc
guarded-accepted s false true first second effect none = absurd cc
guarded-accepted s false false first second effect none = refl

guarded-refused : (s : Copies) (a b : Bool) (first second why : Refusal) (effect : Outcome Copies) → (if a then Some first else if b then Some second else None) ≡ Some why
    → guarded s ((a, first) ∷ (b, second) ∷ []) effect ≡ refused s why
unfolding guarded
guarded-refused s true b first second why effect is = let same : first ≡ why = cc in ap (λ (r : Refusal). refused s r) same
guarded-refused s false true first second why effect is = let same : second ≡ why = cc in ap (λ (r : Refusal). refused s r) same
guarded-refused s false false first second why effect is = absurd cc

pub row-accepted : (s : Copies) (request : WriteRequest) (fault : Option SourceFault) (found : Option Operation) → fault ≡ None → expectation request found ≡ None
    → write_row s request fault found ≡ answered (replies.Written (wrote_at s request found)) (primary_takes s (written_operation request (wrote_at s request found)))
unfolding write_row
row-accepted s request (Some fault) found readable meets = absurd cc
row-accepted s request None found readable meets =
    guarded-accepted s (conflicts request.expect found) (request.create && is_some found) (Conflict (place_of_live found)) (Exists (number_of found))
    (answered (replies.Written (wrote_at s request found)) (primary_takes s (written_operation request (wrote_at s request found)))) meets

pub row-refused : (s : Copies) (request : WriteRequest) (fault : Option SourceFault) (found : Option Operation) (why : Refusal) → fault ≡ None → expectation request found ≡ Some why
    → write_row s request fault found ≡ refused s why
unfolding write_row
row-refused s request (Some fault) found why readable fails = absurd cc
row-refused s request None found why readable fails =
    guarded-refused s (conflicts request.expect found) (request.create && is_some found) (Conflict (place_of_live found)) (Exists (number_of found)) why
    (answered (replies.Written (wrote_at s request found)) (primary_takes s (written_operation request (wrote_at s request found)))) fails

row-unreadable : (s : Copies) (request : WriteRequest) (fault : Option SourceFault) (own : SourceFault) (found : Option Operation) → fault ≡ Some own → write_row s request fault found ≡ refused s (BadSource own)
unfolding write_row
row-unreadable s request None own found is = absurd cc
row-unreadable s request (Some fault) own found is = let same : fault ≡ own = cc in ap (λ (f : SourceFault). refused s (BadSource f)) same

-- ---- the leader's row

abbrev pub found_by : Leader → WriteRequest → Option Operation
found_by s request = live (held s.copies.primary.store) request.id

pub write-accepted : (s : Leader) (request : WriteRequest) (source : Option (List ℕ)) (wrote : Wrote) (op : Operation) (next : Copies) → IsCompactOf request.body source
    → expectation request (found_by s request) ≡ None → wrote ≡ wrote_at s.copies request (found_by s request) → op ≡ written_operation request wrote → next ≡ primary_takes s.copies op
    → leader_write s request ≡ answered (replies.Written wrote) (with_copies s next)
write-accepted s request source wrote op next compact meets told is takes =
    ap (within (with_copies s)) (row-accepted s.copies request (source_fault request.body) (found_by s request) (source-faultless request.body source compact) meets)
    ∙ ap (λ (w : Wrote). answered (replies.Written w) (with_copies s (primary_takes s.copies (written_operation request w)))) (sym told)
    ∙ ap (λ (o : Operation). answered (replies.Written wrote) (with_copies s (primary_takes s.copies o))) (sym is)
    ∙ ap (λ (cs : Copies). answered (replies.Written wrote) (with_copies s cs)) (sym takes)

pub write-refused : (s : Leader) (request : WriteRequest) (source : Option (List ℕ)) (why : Refusal) → IsCompactOf request.body source
    → expectation request (found_by s request) ≡ Some why → leader_write s request ≡ refused s why
write-refused s request source why compact fails =
    ap (within (with_copies s)) (row-refused s.copies request (source_fault request.body) (found_by s request) why (source-faultless request.body source compact) fails)

pub write-unreadable : (s : Leader) (request : WriteRequest) (own : SourceFault) → source_fault request.body ≡ Some own → leader_write s request ≡ refused s (BadSource own)
write-unreadable s request own is = ap (within (with_copies s)) (row-unreadable s.copies request (source_fault request.body) own (found_by s request) is)

pub write-unreadable_as : (s : Leader) (request : WriteRequest) (fault : LeaderFault) (found : Option SourceFault) → source_fault request.body ≡ found
    → IsSomeAnd found (λ own. fault ≡ faults.BadSource own) → leader_write s request ≡ refused s (refusal_of fault)
write-unreadable_as s request fault None is bad = absurd bad
write-unreadable_as s request fault (Some own) is bad = write-unreadable s request own is ∙ ap (λ (f : LeaderFault). refused s (refusal_of f)) (sym bad)

-- a write changes no lease
pub kept-taken : (s next : Copies) (op : Operation) (kept : List KeptRequest) → next ≡ primary_takes s op → AreKeptRightly s kept → AreKeptRightly next kept
kept-taken s next op kept is are = subst (λ (cs : Copies). AreKeptRightly cs kept) (sym is) are
