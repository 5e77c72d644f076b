-- What a note of the leases' history changes.
use Rattle.std.proofs.Common.{◌≡◌, ℕ, ◌≤◌, Bool, true, false, List, ◌∷◌, refl, sym, subst, arith}
use Rattle.std.specs.Prelude.{is_some, max, if◌then◌else◌}
use Rattle.std.specs.Str.{bytes_eq}
use Rattle.std.specs.List.{AllByRecursion}
use Rattle.std.proofs.lemmas.Slice.Eq.{bytes_eq-Decides}
use Rattle.ccr_lease.specs.declared.retention.Lease.{Lease}
use Rattle.ccr_lease.specs.Leases.{Collection, lease_of}
use Rattle.ccr_law_base.proofs.Cases.{on_if}
use Rattle.ccr_model.specs.Copies.{Replica}
use Rattle.ccr_model.specs.LeaseHistory.{LeaseNote, added, answered, renewed, dropped, removed, number_in, ends_answered, retained, is_unbroken}
use Rattle.ccr_law_leases.specs.TrueLeases.{AgreeWithNotes, AreBehind, AreTrueLeases}
use Rattle.ccr_law_base.proofs.Lists.{All-weaker, All-both}

-- ids that differ do so the other way round
pub other_bytes : (xs ys : List ℕ) → bytes_eq xs ys ≡ false → bytes_eq ys xs ≡ false
other_bytes xs ys other =
    (elim (bytes_eq ys xs) as (λ b. bytes_eq ys xs ≡ b → b ≡ false) [
      | true ↦ λ is. absurd (let same : bytes_eq xs ys ≡ true = (bytes_eq-Decides xs ys).1 (sym ((bytes_eq-Decides ys xs).0 is)) in cc)
      | false ↦ λ is. refl
    ]) refl

pub same_bytes : (xs : List ℕ) → bytes_eq xs xs ≡ true
same_bytes xs = (bytes_eq-Decides xs xs).1 refl

-- ---- what is retained

pub retained-more : (id : List ℕ) (note : LeaseNote) (notes : List LeaseNote) → retained id notes ≤ retained id (note ∷ notes)
retained-more id note notes =
    on_if (λ (n : ℕ). retained id notes ≤ n) (bytes_eq note.id id) (max (number_in note.deed) (retained id notes)) (retained id notes)
    (λ same. omega arith) (λ other. omega arith)

pub retained-own : (id : List ℕ) (note : LeaseNote) (notes : List LeaseNote) → bytes_eq note.id id ≡ true → number_in note.deed ≤ retained id (note ∷ notes)
retained-own id note notes own =
    on_if (λ (n : ℕ). number_in note.deed ≤ n) (bytes_eq note.id id) (max (number_in note.deed) (retained id notes)) (retained id notes)
    (λ same. omega arith) (λ other. absurd cc)

-- ---- notes that are no answers

-- with the note no lease is unbroken that was not
abbrev pub IsNoAnswer : LeaseNote → List LeaseNote → Type 0
IsNoAnswer note notes = (id : List ℕ) → is_unbroken id (note ∷ notes) ≡ true → is_unbroken id notes ≡ true

pub no-answer : (note : LeaseNote) (notes : List LeaseNote) → ((before : Bool) → ends_answered note.deed before ≡ true → before ≡ true) → IsNoAnswer note notes
no-answer note notes breaks id =
    on_if (λ (b : Bool). b ≡ true → is_unbroken id notes ≡ true) (bytes_eq note.id id) (ends_answered note.deed (is_unbroken id notes)) (is_unbroken id notes)
    (λ own. breaks (is_unbroken id notes)) (λ other still. still)

pub no-answer-added : (id : List ℕ) (place number : ℕ) (notes : List LeaseNote) → IsNoAnswer (record { id = id; place = place; deed = added number }) notes
no-answer-added id place number notes = no-answer (record { id = id; place = place; deed = added number }) notes (λ before still. still)

pub no-answer-renewed : (id : List ℕ) (place number : ℕ) (notes : List LeaseNote) → IsNoAnswer (record { id = id; place = place; deed = renewed number }) notes
no-answer-renewed id place number notes = no-answer (record { id = id; place = place; deed = renewed number }) notes (λ before still. still)

pub no-answer-dropped : (id : List ℕ) (place : ℕ) (notes : List LeaseNote) → IsNoAnswer (record { id = id; place = place; deed = dropped }) notes
no-answer-dropped id place notes = no-answer (record { id = id; place = place; deed = dropped }) notes (λ before still. absurd cc)

pub no-answer-removed : (id : List ℕ) (place : ℕ) (notes : List LeaseNote) → IsNoAnswer (record { id = id; place = place; deed = removed }) notes
no-answer-removed id place notes = no-answer (record { id = id; place = place; deed = removed }) notes (λ before still. absurd cc)

-- a lease that is unbroken although a loss is the newest note is another than the one that was lost
pub broken : (note : LeaseNote) (notes : List LeaseNote) (id : List ℕ) → ((before : Bool) → ends_answered note.deed before ≡ false)
    → is_unbroken id (note ∷ notes) ≡ true → bytes_eq note.id id ≡ false
broken note notes id ends =
    (elim (bytes_eq note.id id) as (λ b. (if b then ends_answered note.deed (is_unbroken id notes) else is_unbroken id notes) ≡ true → b ≡ false) [
      | true ↦ λ still. absurd (let lost = ends (is_unbroken id notes) in cc)
      | false ↦ λ still. refl
    ])

-- ---- one copy

pub agree-note : (note : LeaseNote) (notes : List LeaseNote) (leases : List Lease) (low : ℕ) → IsNoAnswer note notes → AgreeWithNotes notes leases low → AgreeWithNotes (note ∷ notes) leases low
agree-note note notes leases low none agree = record {
  numbers = All-weaker (λ (lease : Lease). lease.number ≤ retained lease.id notes) (λ (lease : Lease). lease.number ≤ retained lease.id (note ∷ notes))
      (λ lease least. let more = retained-more lease.id note notes in omega arith) leases agree.numbers;
  there = λ id still. agree.there id (none id still);
  floor = λ id still. let least = agree.floor id (none id still) in let more = retained-more id note notes in omega arith;
}

-- the copy has the lease, and its floor is not above the number
abbrev pub Bears : List ℕ → ℕ → List Lease → ℕ → Type 0
Bears id number leases low = (is_some (lease_of id leases) ≡ true) × (low ≤ number)

pub agree-answer : (id : List ℕ) (place number : ℕ) (notes : List LeaseNote) (leases : List Lease) (low : ℕ) → Bears id number leases low
    → AgreeWithNotes notes leases low → AgreeWithNotes (record { id = id; place = place; deed = answered number } ∷ notes) leases low
agree-answer id place number notes leases low bears agree =
    let note : LeaseNote = record { id = id; place = place; deed = answered number } in record {
      numbers = All-weaker (λ (lease : Lease). lease.number ≤ retained lease.id notes) (λ (lease : Lease). lease.number ≤ retained lease.id (note ∷ notes))
          (λ lease least. let more = retained-more lease.id note notes in omega arith) leases agree.numbers;
      there = λ other. on_if (λ (b : Bool). b ≡ true → is_some (lease_of other leases) ≡ true) (bytes_eq id other) true (is_unbroken other notes)
          (λ own still. subst (λ (x : List ℕ). is_some (lease_of x leases) ≡ true) ((bytes_eq-Decides id other).0 own) bears.0) (λ another. agree.there other);
      floor = λ other. on_if (λ (b : Bool). b ≡ true → low ≤ retained other (note ∷ notes)) (bytes_eq id other) true (is_unbroken other notes)
          (λ own still. let low_enough = bears.1 in let least = retained-own other note notes own in omega arith)
          (λ another still. let least = agree.floor other still in let more = retained-more other note notes in omega arith);
    }

-- ---- all copies

pub true-note : (note : LeaseNote) (notes : List LeaseNote) (term : ℕ) (primary : Collection) (low : ℕ) (rs : List Replica) → IsNoAnswer note notes
    → AreTrueLeases notes term primary low rs → AreTrueLeases (note ∷ notes) term primary low rs
true-note note notes term primary low rs none are = record {
  agree = agree-note note notes primary.leases low none are.agree;
  current = are.current;
  behind = All-weaker (λ (r : Replica). AreBehind notes primary r.copy.leases r.copy.floor) (λ (r : Replica). AreBehind (note ∷ notes) primary r.copy.leases r.copy.floor)
      (λ r own. record { agree = agree-note note notes r.copy.leases.leases r.copy.floor none own.agree; behind = own.behind; earlier = own.earlier }) rs are.behind;
}

pub true-answer : (id : List ℕ) (place number : ℕ) (notes : List LeaseNote) (term : ℕ) (primary : Collection) (low : ℕ) (rs : List Replica)
    → Bears id number primary.leases low → AllByRecursion (λ (r : Replica). Bears id number r.copy.leases.leases r.copy.floor) rs
    → AreTrueLeases notes term primary low rs → AreTrueLeases (record { id = id; place = place; deed = answered number } ∷ notes) term primary low rs
true-answer id place number notes term primary low rs bears all are =
    let note : LeaseNote = record { id = id; place = place; deed = answered number } in record {
      agree = agree-answer id place number notes primary.leases low bears are.agree;
      current = are.current;
      behind = All-weaker (λ (r : Replica). AreBehind notes primary r.copy.leases r.copy.floor × Bears id number r.copy.leases.leases r.copy.floor)
          (λ (r : Replica). AreBehind (note ∷ notes) primary r.copy.leases r.copy.floor)
          (λ r own. record { agree = agree-answer id place number notes r.copy.leases.leases r.copy.floor own.1 own.0.agree; behind = own.0.behind; earlier = own.0.earlier }) rs
          (All-both (λ (r : Replica). AreBehind notes primary r.copy.leases r.copy.floor) (λ (r : Replica). Bears id number r.copy.leases.leases r.copy.floor) rs are.behind all);
    }
