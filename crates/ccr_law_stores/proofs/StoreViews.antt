-- What a copy holds shows the same documents as what it was given.
use Rattle.std.proofs.Common.{◌≡◌, ℕ, zero, suc, ◌+◌, ◌<◌, ◌≤◌, inl, inr, Bool, true, Option, Some, is_some, List, sym, ◌∙◌, ap, arith}
use Rattle.ccr_op.specs.Operation.{Operation, id_of}
use Rattle.ccr_op.specs.declared.operation.Kind.{Kind}
use Rattle.ccr_op.specs.declared.operation.Kind.TheVariants.{Index, Delete, NoOp}
use Rattle.ccr_model.specs.Operations.{has_number}
use Rattle.ccr_model.specs.Stores.{held}
use Rattle.ccr_model.specs.Copies.{Copy}
use Rattle.ccr_model.specs.Answers.{IsIn, IsLive, SameView}
use Rattle.ccr_model.specs.CopyFacts.{IsGivenBelow, HoldsEnough}
use Rattle.ccr_model.specs.Given.{IsAmong}
use Rattle.ccr_law_base.proofs.Lists.{some_equal, All-in}
use Rattle.ccr_law_stores.specs.TrueStores.{IsNotMissed, StoreOk, IsTrueStore}
use Rattle.ccr_law_stores.proofs.Counting.{has-in, in-given}
use Rattle.ccr_law_base.proofs.Tests.{by_test}

-- what is held below m
abbrev pub Held : ℕ → List Operation → Operation → Type 0
Held m xs op = IsIn xs op × (op.seq < m)

pub id_equal : (kind : Kind) (id own : List ℕ) → id_of kind ≡ Some own → id_of kind ≡ Some id → own ≡ id
id_equal kind id own is given = some_equal own id (sym is ∙ given)

-- why a given operation that isn't held, about the id of one that is held, is no greater than that one; `further` is the same claim of
-- greater operations
pub not_greater : (ops : ℕ → Option Operation) (there : ℕ → Bool) (count n : ℕ) (kind : Kind) (id : List ℕ) (top : Operation) → id_of kind ≡ Some id
    → ops top.seq ≡ Some top → there top.seq ≡ true → id_of top.kind ≡ Some id
    → ((y : Operation) → ops y.seq ≡ Some y → id_of y.kind ≡ Some id → n < y.seq → y.seq < count → y.seq ≤ top.seq)
    → IsNotMissed ops there count n kind → n ≤ top.seq
not_greater ops there count n (Index own routing body) id top about given held shows further p =
    let le : p.op.seq ≤ top.seq = further p.op p.given (p.about ∙ about) p.above p.below in let lt : n < p.op.seq = p.above in omega arith
not_greater ops there count n (Delete own routing) id top about given held shows further (inl p) =
    let le : p.op.seq ≤ top.seq = further p.op p.given (p.about ∙ about) p.above p.below in let lt : n < p.op.seq = p.above in omega arith
not_greater ops there count n (Delete own routing) id top about given held shows further (inr least) = least top given held (shows ∙ sym about)
not_greater ops there count n NoOp id top about given held shows further why = cc

-- the greatest of what is held is the greatest of what was given
pub greatest_given : (ops : ℕ → Option Operation) (restored : ℕ) (xs : List Operation) (floor commit count m : ℕ) (id : List ℕ) (top : Operation)
    → StoreOk ops restored xs floor commit count → count ≤ m → ops top.seq ≡ Some top → has_number xs top.seq ≡ true → id_of top.kind ≡ Some id
    → ((y : Operation) → Held m xs y → id_of y.kind ≡ Some id → y.seq ≤ top.seq)
    → (steps : ℕ) (y : Operation) → m ≤ y.seq + steps → ops y.seq ≡ Some y → y.seq < m → id_of y.kind ≡ Some id → y.seq ≤ top.seq
greatest_given ops restored xs floor commit count m id top ok le given held shows greatest zero y near at low about = absurd (omega arith)
greatest_given ops restored xs floor commit count m id top ok le given held shows greatest (suc steps) y near at low about =
    by_test (y.seq ≤ top.seq) (has_number xs y.seq)
    (λ is. greatest y (in-given ops xs y ok.ours at is, low) about)
    (λ isnt. not_greater ops (has_number xs) count y.seq y.kind id top about given held shows
    (λ z own names above below. greatest_given ops restored xs floor commit count m id top ok le given held shows greatest steps z (omega arith) own (omega arith) names)
    (ok.covered y.seq y at isnt))

-- the operation that puts a given document in place is held
pub live_held : (ops : ℕ → Option Operation) (restored : ℕ) (xs : List Operation) (floor commit count m : ℕ) (id : List ℕ) (routing : Option (List ℕ)) (body : List ℕ) (op : Operation) (kind : Kind)
    → count ≤ m → kind ≡ Index id routing body → ((y : Operation) → IsGivenBelow m ops y → id_of y.kind ≡ Some id → y.seq ≤ op.seq)
    → IsNotMissed ops (has_number xs) count op.seq kind → ⊥
live_held ops restored xs floor commit count m id routing body op (Index own way text) le puts greatest p =
    let same : Some own ≡ Some id = ap id_of puts in
    let high : p.op.seq ≤ op.seq = greatest p.op (p.given, (let lt : p.op.seq < count = p.below in omega arith)) (p.about ∙ same) in
    let lt : op.seq < p.op.seq = p.above in absurd (omega arith)
live_held ops restored xs floor commit count m id routing body op (Delete own way) le puts greatest why = cc
live_held ops restored xs floor commit count m id routing body op NoOp le puts greatest why = cc

pub store-shows : (ops : ℕ → Option Operation) (restored : ℕ) (xs : List Operation) (floor commit count m : ℕ) → count ≤ m
    → StoreOk ops restored xs floor commit count → SameView (Held m xs) (IsGivenBelow m ops)
store-shows ops restored xs floor commit count m le ok id routing body = (
  (λ (live : IsLive (Held m xs) id routing body). record {
    op = live.op;
    is_in = (All-in (IsAmong ops) xs live.op ok.ours live.is_in.0, live.is_in.1);
    puts = live.puts;
    greatest = λ y given about. greatest_given ops restored xs floor commit count m id live.op ok le
        (All-in (IsAmong ops) xs live.op ok.ours live.is_in.0) (has-in xs live.op live.is_in.0) (ap id_of live.puts) live.greatest
        m y (omega arith) given.0 given.1 about;
  }),
  (λ (live : IsLive (IsGivenBelow m ops) id routing body). record {
    op = live.op;
    is_in = (
      by_test (IsIn xs live.op) (has_number xs live.op.seq)
          (λ is. in-given ops xs live.op ok.ours live.is_in.0 is)
          (λ isnt. absurd (live_held ops restored xs floor commit count m id routing body live.op live.op.kind le live.puts live.greatest (ok.covered live.op.seq live.op live.is_in.0 isnt))),
      live.is_in.1,
    );
    puts = live.puts;
    greatest = λ y there about. live.greatest y (All-in (IsAmong ops) xs y ok.ours there.0, there.1) about;
  }),
)

-- a copy whose store is right, and that has processed all below its global count, holds enough
pub holds-enough : (ops : ℕ → Option Operation) (restored : ℕ) (c : Copy) → ((n : ℕ) → n < c.global → is_some (ops n) ≡ true) → IsTrueStore ops restored c → HoldsEnough ops restored c
holds-enough ops restored c whole ok = record {
  floor = ok.low;
  commit = ok.closed;
  whole = whole;
  ours = ok.ours;
  kept = ok.kept;
  view = λ m le. store-shows ops restored (held c.store) c.floor c.commit c.global m le ok;
}
