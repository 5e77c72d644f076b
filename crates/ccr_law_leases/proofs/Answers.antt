-- Answers to requests for leases: each copy has the lease, and its floor is not above the number that is answered.
use Rattle.std.proofs.Common.{◌≡◌, ℕ, ◌≤◌, true, false, not, List, [], ◌∷◌, ◌++◌, map, refl, sym, subst, arith, append_assoc}
use Rattle.std.specs.Prelude.{Option, Some, None, filter, find, max}
use Rattle.std.specs.Option.{option_map}
use Rattle.std.specs.List.{AllByRecursion}
use Rattle.ccr_journal.specs.declared.replies.Reply.{Reply}
use Rattle.ccr_journal.specs.declared.replies.Reply.TheVariants as replies
use Rattle.ccr_law_base.proofs.Cases.{on_if}
use Rattle.ccr_model.specs.Outcomes.{Outcome}
use Rattle.ccr_model.specs.Copies.{Copy, Replica, Copies, all_copies, greatest, greatest_floor, has_lease, lacks_lease}
use Rattle.ccr_model.specs.Leaders.{Leader, KeptRequest}
use Rattle.ccr_model.specs.LeaderRows.{all_hold, answering_kept, settling_requests}
use Rattle.ccr_model.specs.LeaseHistory.{LeaseNote, answered, notes_of_kept}
use Rattle.ccr_law_leases.specs.TrueLeases.{AreTrueLeasesOf}
use Rattle.ccr_law_base.proofs.Lists.{All-weaker, All-map_back, All-both, find_none}
use Rattle.ccr_law_leases.proofs.Finding.{All-pass}
use Rattle.ccr_law_leases.proofs.Notes.{Bears, true-answer}
use Rattle.std.proofs.lemmas.Bool.{not-false}

-- each floor is at most the greatest
greatest-least : (cs : List Copy) → AllByRecursion (λ (c : Copy). c.floor ≤ greatest (map {A = Copy} {B = ℕ} (λ c. c.floor) cs)) cs
greatest-least [] = tt
greatest-least (c ∷ cs) = (
  omega arith,
  All-weaker (λ (other : Copy). other.floor ≤ greatest (map {A = Copy} {B = ℕ} (λ c. c.floor) cs))
      (λ (other : Copy). other.floor ≤ max c.floor (greatest (map {A = Copy} {B = ℕ} (λ c. c.floor) cs))) (λ other least. omega arith) cs (greatest-least cs),
)

-- an answer with the greatest floor about a lease that each copy has
pub answered-true : (id : List ℕ) (place : ℕ) (notes : List LeaseNote) (s : Copies) → AllByRecursion (λ (c : Copy). has_lease id c ≡ true) (all_copies s)
    → AreTrueLeasesOf notes s → AreTrueLeasesOf (record { id = id; place = place; deed = answered (greatest_floor s) } ∷ notes) s
answered-true id place notes s all are =
    let both = All-both (λ (c : Copy). has_lease id c ≡ true) (λ (c : Copy). c.floor ≤ greatest_floor s) (all_copies s) all (greatest-least (all_copies s)) in
    true-answer id place (greatest_floor s) notes s.term s.primary.leases s.primary.floor s.replicas both.0
    (All-map_back (λ (c : Copy). Bears id (greatest_floor s) c.leases.leases c.floor) (λ (r : Replica). r.copy) s.replicas both.1) are

no-number : (found : Option Copy) → option_map {T = Copy} {U = ℕ} (λ c. c.number) found ≡ None → found ≡ None
no-number None none = refl
no-number (Some c) none = absurd cc

-- where no copy lacks the lease, each has it
pub none-lacks : (id : List ℕ) (s : Copies) → lacks_lease id s ≡ None → AllByRecursion (λ (c : Copy). has_lease id c ≡ true) (all_copies s)
none-lacks id s none =
    All-weaker (λ (c : Copy). not (has_lease id c) ≡ false) (λ (c : Copy). has_lease id c ≡ true) (λ c it. not-false (has_lease id c) it) (all_copies s)
    (find_none (λ c. not (has_lease id c)) (all_copies s) (no-number (find (λ c. not (has_lease id c)) (all_copies s)) none))

-- ---- kept requests

kept-true : (ks : List KeptRequest) (place : ℕ) (notes : List LeaseNote) (s : Copies) → AreTrueLeasesOf notes s
    → AreTrueLeasesOf (map {A = KeptRequest} {B = LeaseNote} (λ k. record { id = k.id; place = place; deed = answered (greatest_floor s) }) (filter (λ k. all_hold k.id s) ks) ++ notes) s
kept-true [] place notes s are = are
kept-true (k ∷ ks) place notes s are =
    on_if (λ (due : List KeptRequest). AreTrueLeasesOf (map {A = KeptRequest} {B = LeaseNote} (λ k. record { id = k.id; place = place; deed = answered (greatest_floor s) }) due ++ notes) s)
    (all_hold k.id s) (k ∷ filter (λ k. all_hold k.id s) ks) (filter (λ k. all_hold k.id s) ks)
    (λ hold. answered-true k.id place _ s (All-pass (has_lease k.id) (all_copies s) hold) (kept-true ks place notes s are))
    (λ lack. kept-true ks place notes s are)

-- the requests that are answered are true
pub answers-true : (s : Leader) (next : Copies) (place : ℕ) (notes : List LeaseNote) → AreTrueLeasesOf notes next → AreTrueLeasesOf (notes_of_kept s next place ++ notes) next
answers-true s next place notes are = kept-true s.kept place notes next are

-- the same with what else is noted
pub answers-then-true : (s : Leader) (next : Copies) (place : ℕ) (more notes : List LeaseNote) → AreTrueLeasesOf (more ++ notes) next
    → AreTrueLeasesOf ((notes_of_kept s next place ++ more) ++ notes) next
answers-then-true s next place more notes are =
    subst (λ (all : List LeaseNote). AreTrueLeasesOf all next) (sym (append_assoc (notes_of_kept s next place) more notes)) (answers-true s next place (more ++ notes) are)

-- to answer kept requests changes neither the reply nor the copies
answering-same : (P : Reply → Copies → Type 0) (reply : Reply) (o : Outcome Leader) → P o.reply o.next.copies
    → P (answering_kept reply o).reply (answering_kept reply o).next.copies
answering-same P (replies.Refused why) o it = it
answering-same P _ o it = it

pub settling-same : (P : Reply → Copies → Type 0) (o : Outcome Leader) → P o.reply o.next.copies → P (settling_requests o).reply (settling_requests o).next.copies
settling-same P o it = answering-same P o.reply o it
