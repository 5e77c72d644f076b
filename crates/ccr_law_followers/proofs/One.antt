-- What each change makes of the claims on one copy.
use Rattle.std.specs.List.{AllByRecursion, fold}
use Rattle.std.specs.Prelude.{slice_get}
use Rattle.std.proofs.Common.{◌≡◌, ℕ, zero, suc, ◌<◌, ◌≤◌, ◌==◌, ◌||◌, ◌⊎◌, inl, inr, max, Bool, true, false, nat_lt, if◌then◌else◌, Option, Some, None, is_some, List, [], ◌∷◌, length, take, refl, sym, ◌∙◌, ap, subst, arith}
use Rattle.std.proofs.lemmas.Bool.Decides.{nat_tests}
use Rattle.ccr_op.specs.Operation.{Operation}
use Rattle.ccr_tracker.specs.Numbers.{Numbers, has, marked, no_numbers, filled_below}
use Rattle.ccr_model.specs.Operations.{has_number}
use Rattle.ccr_model.specs.Stores.{held, stored}
use Rattle.ccr_model.specs.Copies.{Copy, new_copy, taking}
use Rattle.ccr_model.specs.Given.{IsAmong, no_ops, or_else, gaining, gaining_batch, front_of}
use Rattle.ccr_model.specs.Followers.{restored_copy}
use Rattle.ccr_model.specs.Past.{Line, WrittenBatch}
use Rattle.ccr_model.specs.FrameFacts.{IsCommitted}
use Rattle.ccr_model.specs.Invariants.{HasProcessed, IsTrueFollowerCopy}
use Rattle.ccr_law_base.proofs.Lists.{All-weaker, slice_get-take}
use Rattle.ccr_law_copies.proofs.Sets.{or_false, canonical-marked, has-marked, has-below, count-marked}
use Rattle.ccr_law_copies.proofs.CopyChanges.{some-within, some-of, gained, gained-some}
use Rattle.ccr_law_stores.specs.TrueStores.{StoreOk, IsTrueHistory, AreNumbered}
use Rattle.ccr_law_stores.proofs.CopyChanges.{store-given, store-gains, store-counts}
use Rattle.ccr_law_stores.proofs.StoreViews.{holds-enough}
use Rattle.ccr_law_stores.proofs.Histories.{low_some, copy-restored}
use Rattle.ccr_law_followers.specs.TrueCopies.{CopyOk, all_in}

-- ---- a later line

-- what is committed stays
pub record Extends (line later : Line) : Type 0 where
  pub cut : line.cut ≤ later.cut
  pub front : take line.cut later.ops ≡ take line.cut line.ops

pub extends-at : (line later : Line) (n : ℕ) → Extends line later → n < line.cut → slice_get later.ops n ≡ slice_get line.ops n
extends-at line later n on lt =
    sym (slice_get-take line.cut later.ops n lt) ∙ (ap (λ (xs : List Operation). slice_get xs n) on.front ∙ slice_get-take line.cut line.ops n lt)

pub committed-later : (line later : Line) (op : Operation) → Extends line later → IsCommitted line op → IsCommitted later op
committed-later line later op on is = record {
  below = let low : op.seq < line.cut = is.below in let rises : line.cut ≤ later.cut = on.cut in omega arith;
  same = extends-at line later op.seq on is.below ∙ is.same;
}

pub copy-later : (line later : Line) (ops : ℕ → Option Operation) (restored : ℕ) (written : List WrittenBatch) (next : ℕ) (c : Copy) → Extends line later
    → CopyOk line ops restored written next c → CopyOk later ops restored written next c
copy-later line later ops restored written next c on ok = record {
  old = ok.old;
  committed = λ n op at. (committed-later line later op on (ok.committed n op at).0, (ok.committed n op at).1);
  processed = ok.processed;
  ordered = ok.ordered;
  reached = ok.reached;
  store = ok.store;
  all = ok.all;
}

-- ---- small changes

pub copy-numbered : (line : Line) (ops : ℕ → Option Operation) (restored : ℕ) (written : List WrittenBatch) (next : ℕ) (c : Copy)
    → CopyOk line ops restored written next c → AreNumbered ops
copy-numbered line ops restored written next c ok n op at = (ok.committed n op at).1

-- the same was given
pub copy-given : (line : Line) (ops later : ℕ → Option Operation) (restored : ℕ) (written : List WrittenBatch) (next : ℕ) (c : Copy) → ((n : ℕ) → later n ≡ ops n)
    → CopyOk line ops restored written next c → CopyOk line later restored written next c
copy-given line ops later restored written next c same ok = record {
  old = ok.old;
  committed = λ n op at. ok.committed n op (sym (same n) ∙ at);
  processed = λ n. ok.processed n ∙ ap (λ (o : Option Operation). is_some o) (sym (same n));
  ordered = ok.ordered;
  reached = ok.reached;
  store = store-given ops later restored (held c.store) c.floor c.commit c.global (copy-numbered line ops restored written next c ok) same ok.store;
  all = ok.all;
}

pub copy-next : (line : Line) (ops : ℕ → Option Operation) (restored : ℕ) (written : List WrittenBatch) (next later : ℕ) (c : Copy) → next ≤ later
    → CopyOk line ops restored written next c → CopyOk line ops restored written later c
copy-next line ops restored written next later c le ok = record {
  old = let less : c.number < next = ok.old in omega arith;
  committed = ok.committed;
  processed = ok.processed;
  ordered = ok.ordered;
  reached = ok.reached;
  store = ok.store;
  all = ok.all;
}

-- the copy learns a global count
pub copy-knows : (line : Line) (ops : ℕ → Option Operation) (restored : ℕ) (written : List WrittenBatch) (next : ℕ) (c : Copy) (global : ℕ) → c.global ≤ global → global ≤ c.seen.count
    → CopyOk line ops restored written next c → CopyOk line ops restored written next (record c { global = global })
copy-knows line ops restored written next c global rises low ok = record {
  old = ok.old;
  committed = ok.committed;
  processed = ok.processed;
  ordered = ok.ordered;
  reached = low;
  store = store-counts ops restored (held c.store) c.floor c.commit c.global global rises ok.store;
  all = ok.all;
}

-- ---- one more operation

pub processed-more : (c : Copy) (seen : Numbers) (written : List WrittenBatch) → ((n : ℕ) → has c.seen n ≡ true → has seen n ≡ true)
    → AllByRecursion (HasProcessed c) written → AllByRecursion (HasProcessed (record c { seen = seen })) written
processed-more c seen written more all =
    All-weaker (HasProcessed c) (HasProcessed (record c { seen = seen }))
    (λ w done. All-weaker (λ (op : Operation). has c.seen op.seq ≡ true) (λ (op : Operation). has seen op.seq ≡ true) (λ op is. more op.seq is) w.batch done) written all

pub marked-more : (s : Numbers) (seq n : ℕ) → has s n ≡ true → has (marked s seq) n ≡ true
marked-more s seq n is = has-marked s seq n ∙ ap (λ (b : Bool). b || (seq == n)) is

-- a number that was given before is not given again
pub gained-before : (ops : ℕ → Option Operation) (seq : ℕ) (op : Option Operation) → is_some (ops seq) ≡ true → (n : ℕ) → gaining ops seq op n ≡ ops n
gained-before ops seq op there n = before (ops n) (n == seq) refl refl
  where
    before : (o : Option Operation) (b : Bool) → ops n ≡ o → (n == seq) ≡ b → or_else o (if b then op else None) ≡ o
    before (Some x) b at is = refl
    before None false at is = refl
    before None true at is =
        let e : n ≡ seq = grind (arith, nat_tests) in
        let none : is_some (ops seq) ≡ false = ap (λ (k : ℕ). is_some (ops k)) (sym e) ∙ ap (λ (o : Option Operation). is_some o) at in cc

pub copy-takes : (line : Line) (ops : ℕ → Option Operation) (restored : ℕ) (written : List WrittenBatch) (next : ℕ) (c : Copy) (seq : ℕ) (op : Operation)
    → IsCommitted line op → op.seq ≡ seq
    → CopyOk line ops restored written next c → CopyOk line (gaining ops seq (Some op)) restored written next (taking c seq (Some op))
copy-takes line ops restored written next c seq op committed number ok = record {
  old = ok.old;
  committed = λ n x at. by_source n x (gained (ops n) n seq op x at);
  processed = λ n. has-marked c.seen seq n ∙ (ap (λ (b : Bool). b || (seq == n)) (ok.processed n) ∙ gained-some (ops n) n seq op);
  ordered = canonical-marked c.seen seq ok.ordered;
  reached = let low : c.global ≤ c.seen.count = ok.reached in omega (arith, count-marked c.seen seq);
  store = by_seen (has c.seen seq) refl;
  all = processed-more c (marked c.seen seq) written (marked-more c.seen seq) ok.all;
}
  where
    by_source : (n : ℕ) (x : Operation) → (ops n ≡ Some x) ⊎ (((n == seq) ≡ true) × (op ≡ x)) → IsCommitted line x × (x.seq ≡ n)
    by_source n x (inl at) = ok.committed n x at
    by_source n x (inr at) =
        (subst (IsCommitted line) at.1 committed, ap (λ (y : Operation). y.seq) (sym at.1) ∙ (number ∙ (let is : (n == seq) ≡ true = at.0 in grind (arith, nat_tests))))

    by_seen : (b : Bool) → has c.seen seq ≡ b → StoreOk (gaining ops seq (Some op)) restored (held (if b then c.store else stored op c.store)) c.floor c.commit c.global
    by_seen true is =
        store-given ops (gaining ops seq (Some op)) restored (held c.store) c.floor c.commit c.global (copy-numbered line ops restored written next c ok)
        (gained-before ops seq (Some op) (sym (ok.processed seq) ∙ is)) ok.store
    by_seen false isnt =
        store-gains ops restored c.store c.floor c.commit c.global seq op (copy-numbered line ops restored written next c ok) number
        (sym (ok.processed seq) ∙ isnt) (let low : c.global ≤ c.seen.count = ok.reached in let high : c.seen.count ≤ seq = not_less in omega arith) ok.store
      where
        not_less : c.seen.count ≤ seq
        not_less = grind (arith, nat_tests)

-- ---- a batch

-- what one operation and then the others give is what all of them give
pub batch-gains : (line : List Operation) (ops : ℕ → Option Operation) (op : Operation) (batch : List Operation) → slice_get line op.seq ≡ Some op
    → (n : ℕ) → gaining_batch ops (op ∷ batch) line n ≡ gaining_batch (gaining ops op.seq (Some op)) batch line n
batch-gains line ops op batch at n = gains (ops n) (n == op.seq) refl
  where
    gains : (o : Option Operation) (b : Bool) → (n == op.seq) ≡ b
        → or_else o (if (op.seq == n) || has_number batch n then slice_get line n else None)
        ≡ or_else (or_else o (if b then Some op else None)) (if has_number batch n then slice_get line n else None)
    gains (Some x) b is = refl
    gains None true is =
        let e : op.seq ≡ n = grind (arith, nat_tests) in
        let test : (op.seq == n) ≡ true = grind (arith, nat_tests) in
        ap (λ (b : Bool). if b || has_number batch n then slice_get line n else None) test ∙ (ap (slice_get line) (sym e) ∙ at)
    gains None false is =
        let test : (op.seq == n) ≡ false = grind (arith, nat_tests) in
        ap (λ (b : Bool). if b || has_number batch n then slice_get line n else None) test

pub none-gained : (o : Option Operation) → or_else o None ≡ o
none-gained None = refl
none-gained (Some x) = refl

abbrev pub taking_all : Copy → List Operation → Copy
taking_all c batch = fold {A = Operation} {B = Copy} (λ own op. taking own op.seq (Some op)) c batch

pub copy-takes_all : (line : Line) (ops : ℕ → Option Operation) (restored : ℕ) (written : List WrittenBatch) (next : ℕ) (c : Copy) (batch : List Operation)
    → AllByRecursion (IsCommitted line) batch → CopyOk line ops restored written next c
    → CopyOk line (gaining_batch ops batch line.ops) restored written next (taking_all c batch)
copy-takes_all line ops restored written next c [] all ok = copy-given line ops (gaining_batch ops [] line.ops) restored written next c (λ n. none-gained (ops n)) ok
copy-takes_all line ops restored written next c (op ∷ batch) all ok =
    let is : IsCommitted line op = all.0 in
    copy-given line (gaining_batch (gaining ops op.seq (Some op)) batch line.ops) (gaining_batch ops (op ∷ batch) line.ops) restored written next
    (taking_all (taking c op.seq (Some op)) batch) (batch-gains line.ops ops op batch is.same)
    (copy-takes_all line (gaining ops op.seq (Some op)) restored written next (taking c op.seq (Some op)) batch all.1
    (copy-takes line ops restored written next c op.seq op is refl ok))

pub taking_all-number : (c : Copy) (batch : List Operation) → (taking_all c batch).number ≡ c.number
taking_all-number c [] = refl
taking_all-number c (op ∷ batch) = taking_all-number (taking c op.seq (Some op)) batch

pub taking_all-global : (c : Copy) (batch : List Operation) → (taking_all c batch).global ≡ c.global
taking_all-global c [] = refl
taking_all-global c (op ∷ batch) = taking_all-global (taking c op.seq (Some op)) batch

-- ---- the start, and the end of a bootstrap

pub copy-fresh : (line : Line) (number next : ℕ) → number < next → CopyOk line no_ops 0 [] next (new_copy number)
copy-fresh line number next less = record {
  old = less;
  committed = λ n op at. cc;
  processed = λ n. grind (arith, nat_tests);
  ordered = tt;
  reached = omega arith;
  store = record {
    low = omega arith;
    since = omega arith;
    closed = omega arith;
    ours = tt;
    once = λ n. omega arith;
    kept = λ n le some. cc;
    covered = λ n x at out. cc;
  };
  all = tt;
}

-- a copy without operations knows of none
pub copy-empty : (line : Line) (ops : ℕ → Option Operation) (restored : ℕ) (written : List WrittenBatch) (next : ℕ) (c : Copy) → ((n : ℕ) → ops n ≡ None)
    → CopyOk line ops restored written next c → c.global ≡ 0
copy-empty line ops restored written next c none ok = zero_of c.global refl
  where
    zero_of : (g : ℕ) → c.global ≡ g → g ≡ 0
    zero_of zero is = refl
    zero_of (suc g) is =
        let low : c.global ≤ c.seen.count = ok.reached in
        let there : has c.seen 0 ≡ true = has-below c.seen 0 (omega arith) in
        let out : has c.seen 0 ≡ false = ok.processed 0 ∙ ap (λ (o : Option Operation). is_some o) (none 0) in cc

-- of a copy that was given nothing, also where that is told in other words
pub copy-bare : (line : Line) (ops more : ℕ → Option Operation) (restored again : ℕ) (written : List WrittenBatch) (next : ℕ) (c : Copy)
    → ((n : ℕ) → ops n ≡ None) → ((n : ℕ) → more n ≡ None) → again ≡ 0 → CopyOk line ops restored written next c → CopyOk line more again written next c
copy-bare line ops more restored again written next c none none_more nothing ok = record {
  old = ok.old;
  committed = λ n op at. let out : more n ≡ None = none_more n in cc;
  processed = λ n. ok.processed n ∙ ap (λ (o : Option Operation). is_some o) (none n ∙ sym (none_more n));
  ordered = ok.ordered;
  reached = ok.reached;
  store = record {
    low = ok.store.low;
    since = omega arith;
    closed = ok.store.closed;
    ours = All-weaker (IsAmong ops) (IsAmong more) (λ op is. let out : ops op.seq ≡ None = none op.seq in cc) (held c.store) ok.store.ours;
    once = ok.store.once;
    kept = λ n le some. let out : more n ≡ None = none_more n in cc;
    covered = λ n x at out. let none_there : more n ≡ None = none_more n in cc;
  };
  all = ok.all;
}

pub copy-restores : (line : Line) (count : ℕ) (files : List (List Operation)) (next : ℕ) (c : Copy) → c.number < next → c.floor ≡ 0 → c.commit ≡ 0
    → line.cut ≤ length line.ops → ((n : ℕ) (op : Operation) → n < count → slice_get line.ops n ≡ Some op → op.seq ≡ n)
    → IsTrueHistory line count (all_in files)
    → CopyOk line (front_of count line.ops) count [] next (restored_copy count files c)
copy-restores line count files next c less no_floor no_commit full numbered history = record {
  old = less;
  committed = λ n op at.
      let low : (nat_lt n count ≡ true) × (slice_get line.ops n ≡ Some op) = low_some (slice_get line.ops n) (nat_lt n count) op at in
      let test : nat_lt n count ≡ true = low.0 in
      let lt : n < count = grind (arith, nat_tests) in
      let le : count ≤ line.cut = history.low in
      let number : op.seq ≡ n = numbered n op lt low.1 in
      (record { below = omega arith; same = ap (slice_get line.ops) number ∙ low.1 }, number);
  processed = λ n. sees n (nat_lt n count) refl;
  ordered = tt;
  reached = omega arith;
  store = copy-restored line count files c no_floor no_commit history;
  all = tt;
}
  where
    sees : (n : ℕ) (b : Bool) → nat_lt n count ≡ b → has (filled_below no_numbers count) n ≡ is_some (if b then slice_get line.ops n else None)
    sees n true is =
        let lt : n < count = grind (arith, nat_tests) in
        let le : count ≤ line.cut = history.low in
        let some : is_some (slice_get line.ops n) ≡ true = some-within line.ops n ∙ grind (arith, nat_tests) in
        has-below (filled_below no_numbers count) n (omega arith) ∙ sym some
    sees n false isnt = sym (or_false (nat_lt n (max 0 count))) ∙ grind (arith, nat_tests)

-- ---- in the words of the model

pub copy-says : (line : Line) (given : ℕ → ℕ → Option Operation) (restored : ℕ) (written : List WrittenBatch) (next : ℕ) (c : Copy)
    → CopyOk line (given c.number) restored written next c → IsTrueFollowerCopy line given restored c
copy-says line given restored written next c ok = record {
  committed = ok.committed;
  processed = λ n is. some-of (given c.number n) (sym (ok.processed n) ∙ is);
  taken = λ n op at. ok.processed n ∙ ap (λ (o : Option Operation). is_some o) at;
  store = holds-enough (given c.number) restored c
      (λ n lt. sym (ok.processed n) ∙ has-below c.seen n (let low : c.global ≤ c.seen.count = ok.reached in omega arith)) ok.store;
}
