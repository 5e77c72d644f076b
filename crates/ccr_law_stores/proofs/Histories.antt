-- What is held below a count serves for the first operations of the line, so many: session files, and copies restored from them.
use Rattle.std.specs.Prelude.{filter, slice_get}
use Rattle.std.proofs.Common.{◌≡◌, ℕ, zero, suc, ◌<◌, ◌≤◌, inl, inr, Bool, true, false, nat_lt, if◌then◌else◌, Option, Some, None, is_some, List, [], ◌∷◌, ◌++◌, take, refl, sym, ◌∙◌, ap, subst, arith}
use Rattle.std.proofs.lemmas.Bool.Decides.{nat_tests}
use Rattle.ccr_op.specs.Operation.{Operation}
use Rattle.ccr_model.specs.Operations.{has_number}
use Rattle.ccr_model.specs.Stores.{held, files_below}
use Rattle.ccr_model.specs.Copies.{Copy}
use Rattle.ccr_model.specs.Followers.{restored_copy}
use Rattle.ccr_model.specs.Answers.{IsIn, IsLive, SameView}
use Rattle.ccr_model.specs.CopyFacts.{IsGivenBelow}
use Rattle.ccr_model.specs.FrameFacts.{IsCommitted}
use Rattle.ccr_model.specs.Given.{IsAmong, front_of}
use Rattle.ccr_model.specs.Past.{Line}
use Rattle.ccr_law_copies.specs.Cores.{PrimaryOk}
use Rattle.ccr_law_base.proofs.Lists.{All-weaker, All-both, All-filter, All-filter_test, some_equal, All-in}
use Rattle.ccr_law_stores.specs.TrueStores.{times, StoreOk, IsTrueStore, AreNumbered, IsTrueHistory, ShowsLine}
use Rattle.ccr_law_stores.proofs.Counting.{times-filter, count_is, has-same}
use Rattle.ccr_law_stores.proofs.Holding.{in_parts, in-files, append_none}
use Rattle.ccr_law_stores.proofs.CopyChanges.{not_missed-above, store-above}
use Rattle.ccr_law_stores.proofs.StoreViews.{Held, store-shows}

-- ---- what is held below the count

pub low_some : (o : Option Operation) (b : Bool) (x : Operation) → (if b then o else None) ≡ Some x → (b ≡ true) × (o ≡ Some x)
low_some o true x at = (refl, at)
low_some o false x at = cc

pub filter-below : (n count : ℕ) (xs : List Operation) → n < count → times n (filter (λ op. nat_lt op.seq count) xs) ≡ times n xs
filter-below n count xs lt = times-filter (λ k. nat_lt k count) n xs ∙ (let is : nat_lt n count ≡ true = grind (arith, nat_tests) in ap (λ (b : Bool). if b then times n xs else 0) is)

pub filter-le : (test : ℕ → Bool) (n : ℕ) (xs : List Operation) → times n (filter (λ op. test op.seq) xs) ≤ times n xs
filter-le test n xs = subst (λ (k : ℕ). k ≤ times n xs) (sym (times-filter test n xs)) (either (test n))
  where
    either : (b : Bool) → (if b then times n xs else 0) ≤ times n xs
    either true = omega arith
    either false = omega arith

-- what is held below the count serves for what was given below it
pub store-below : (ops later : ℕ → Option Operation) (restored : ℕ) (xs : List Operation) (floor commit count : ℕ) → AreNumbered ops
    → ((n : ℕ) → later n ≡ (if nat_lt n count then ops n else None))
    → StoreOk ops restored xs floor commit count → StoreOk later count (filter (λ op. nat_lt op.seq count) xs) 0 0 count
store-below ops later restored xs floor commit count numbered front ok = record {
  low = omega arith;
  since = omega arith;
  closed = omega arith;
  ours = All-weaker (λ (x : Operation). IsAmong ops x × (nat_lt x.seq count ≡ true)) (IsAmong later)
      (λ x both. front x.seq ∙ (ap (λ (b : Bool). if b then ops x.seq else None) both.1 ∙ both.0))
      (filter (λ op. nat_lt op.seq count) xs)
      (All-both (IsAmong ops) (λ (x : Operation). nat_lt x.seq count ≡ true) (filter (λ op. nat_lt op.seq count) xs)
      (All-filter (IsAmong ops) (λ op. nat_lt op.seq count) xs ok.ours) (All-filter_test (λ op. nat_lt op.seq count) xs));
  once = λ n. let few : times n xs ≤ 1 = ok.once n in omega (arith, filter-le (λ k. nat_lt k count) n xs);
  kept = λ n le some.
      let out : nat_lt n count ≡ false = grind (arith, nat_tests) in
      let none : later n ≡ None = front n ∙ ap (λ (b : Bool). if b then ops n else None) out in
      let never : is_some {T = Operation} None ≡ true = sym (ap (λ (o : Option Operation). is_some o) none) ∙ some in cc;
  covered = λ n x at out.
      let low : (nat_lt n count ≡ true) × (ops n ≡ Some x) = low_some (ops n) (nat_lt n count) x (sym (front n) ∙ at) in
      let test : nat_lt n count ≡ true = low.0 in
      let lt : n < count = grind (arith, nat_tests) in
      let number : x.seq ≡ n = numbered n x low.1 in
      not_missed-above ops later (has_number xs) (has_number (filter (λ op. nat_lt op.seq count) xs)) count x.seq x.kind
      (λ k less. front k ∙ (let is : nat_lt k count ≡ true = grind (arith, nat_tests) in ap (λ (b : Bool). if b then ops k else None) is))
      (λ k less. has-same (filter (λ op. nat_lt op.seq count) xs) xs k (filter-below k count xs less))
      (omega arith)
      (ok.covered n x low.1 (sym (has-same (filter (λ op. nat_lt op.seq count) xs) xs n (filter-below n count xs lt)) ∙ out));
}

-- ---- files

-- the operations in the files that a session of the primary gets
pub files-of-primary : (line : Line) (ops : ℕ → Option Operation) (c : Copy) → PrimaryOk line ops c.seen c.global → IsTrueStore ops 0 c
    → IsTrueHistory line c.global (in_parts (files_below c.global c.store))
files-of-primary line ops c primary ok = record {
  low = primary.known;
  store = subst (λ (xs : List Operation). StoreOk (front_of c.global line.ops) c.global xs 0 0 c.global) (sym (in-files c.global c.store))
      (store-below ops (front_of c.global line.ops) 0 (held c.store) c.floor c.commit c.global (λ n op at. primary.numbered n op (sym (primary.given n) ∙ at))
      (λ n. ap (λ (o : Option Operation). if nat_lt n c.global then o else None) (sym (primary.given n))) ok);
}

-- the line's operations are told by their numbers
pub front-numbered : (line : Line) (count : ℕ) → ((n : ℕ) (op : Operation) → slice_get line.ops n ≡ Some op → op.seq ≡ n) → AreNumbered (front_of count line.ops)
front-numbered line count numbered n op at = numbered n op (low_some (slice_get line.ops n) (nat_lt n count) op at).1

-- a later line has the same committed operations, and no less is committed
pub history-stays : (line later : Line) (count : ℕ) (xs : List Operation) → ((n : ℕ) (op : Operation) → slice_get line.ops n ≡ Some op → op.seq ≡ n)
    → ((n : ℕ) → n < line.cut → slice_get later.ops n ≡ slice_get line.ops n) → line.cut ≤ later.cut
    → IsTrueHistory line count xs → IsTrueHistory later count xs
history-stays line later count xs numbered same rises ok = record {
  low = let le : count ≤ line.cut = ok.low in omega arith;
  store =
      let le : count ≤ line.cut = ok.low in
      store-above (front_of count line.ops) (front_of count later.ops) count xs xs 0 0 count (front-numbered line count numbered)
      (λ n lt. ap (λ (o : Option Operation). if nat_lt n count then o else None) (same n (omega arith)))
      (λ n lt. refl)
      (All-weaker (IsAmong (front_of count line.ops)) (IsAmong (front_of count later.ops))
      (λ x at. let low : (nat_lt x.seq count ≡ true) × (slice_get line.ops x.seq ≡ Some x) = low_some (slice_get line.ops x.seq) (nat_lt x.seq count) x at in
      let test : nat_lt x.seq count ≡ true = low.0 in let lt : x.seq < count = grind (arith, nat_tests) in
      ap (λ (b : Bool). if b then slice_get later.ops x.seq else None) test ∙ (same x.seq (omega arith) ∙ low.1)) xs ok.store.ours)
      (λ n high. ok.store.once n)
      (λ n high some. let out : nat_lt n count ≡ false = grind (arith, nat_tests) in
      let never : is_some {T = Operation} None ≡ true = sym (ap (λ (b : Bool). is_some (if b then slice_get later.ops n else None)) out) ∙ some in cc)
      ok.store;
}

-- ---- the same documents

pub live-same : (S T : Operation → Type 0) (id : List ℕ) (routing : Option (List ℕ)) (body : List ℕ) → ((op : Operation) → S op → T op) → ((op : Operation) → T op → S op) → IsLive S id routing body → IsLive T id routing body
live-same S T id routing body forth back live =
    record { op = live.op; is_in = forth live.op live.is_in; puts = live.puts; greatest = λ y there about. live.greatest y (back y there) about }

pub view-same : (S S_too T T_too : Operation → Type 0) → ((op : Operation) → S op → S_too op) → ((op : Operation) → S_too op → S op)
    → ((op : Operation) → T op → T_too op) → ((op : Operation) → T_too op → T op) → SameView S T → SameView S_too T_too
view-same S S_too T T_too s_forth s_back t_forth t_back view id routing body = (
  (λ (live : IsLive S_too id routing body). live-same T T_too id routing body t_forth t_back ((view id routing body).0 (live-same S_too S id routing body s_back s_forth live))),
  (λ (live : IsLive T_too id routing body). live-same S S_too id routing body s_forth s_back ((view id routing body).1 (live-same T_too T id routing body t_back t_forth live))),
)

pub take_place : (n : ℕ) (xs : List Operation) (x : Operation) → IsIn (take n xs) x → (k : ℕ) × (k < n) × (slice_get xs k ≡ Some x)
take_place zero [] x there = absurd there
take_place zero (y ∷ xs) x there = absurd there
take_place (suc n) [] x there = absurd there
take_place (suc n) (y ∷ xs) x (inl e) = (0, omega arith, ap (λ (z : Operation). Some z) e)
take_place (suc n) (y ∷ xs) x (inr there) = let rest : (k : ℕ) × (k < n) × (slice_get xs k ≡ Some x) = take_place n xs x there in (suc rest.0, (let lt : rest.0 < n = rest.1 in omega arith), rest.2)

pub place_take : (n : ℕ) (xs : List Operation) (x : Operation) (k : ℕ) → k < n → slice_get xs k ≡ Some x → IsIn (take n xs) x
place_take zero xs x k lt at = absurd (omega arith)
place_take (suc n) [] x k lt at = cc
place_take (suc n) (y ∷ xs) x zero lt at = inl (some_equal y x at)
place_take (suc n) (y ∷ xs) x (suc k) lt at = inr (place_take n xs x k (omega arith) at)

-- what a true history says in the words of the sessions
pub history-shows : (line : Line) (count : ℕ) (xs : List Operation) → ((n : ℕ) (op : Operation) → slice_get line.ops n ≡ Some op → op.seq ≡ n)
    → IsTrueHistory line count xs → ShowsLine line count xs
history-shows line count xs numbered ok = record {
  ours = All-weaker (IsAmong (front_of count line.ops)) (λ (op : Operation). IsCommitted line op × (op.seq < count)) (λ x at. committed x at) xs ok.store.ours;
  once = λ n. subst (λ (k : ℕ). k ≤ 1) (sym (count_is n xs)) (ok.store.once n);
  view = view-same (Held count xs) (IsIn xs) (IsGivenBelow count (front_of count line.ops)) (IsIn (take count line.ops))
      (λ op there. there.0)
      (λ op there. (there, (committed op (All-in (IsAmong (front_of count line.ops)) xs op ok.store.ours there)).1))
      (λ op given. place_take count line.ops op op.seq given.1 (low_some (slice_get line.ops op.seq) (nat_lt op.seq count) op given.0).1)
      (λ op there. placed op (take_place count line.ops op there))
      (store-shows (front_of count line.ops) count xs 0 0 count count (omega arith) ok.store);
}
  where
    committed : (x : Operation) → front_of count line.ops x.seq ≡ Some x → IsCommitted line x × (x.seq < count)
    committed x at =
        let low : (nat_lt x.seq count ≡ true) × (slice_get line.ops x.seq ≡ Some x) = low_some (slice_get line.ops x.seq) (nat_lt x.seq count) x at in
        let test : nat_lt x.seq count ≡ true = low.0 in let lt : x.seq < count = grind (arith, nat_tests) in
        let le : count ≤ line.cut = ok.low in
        (record { below = omega arith; same = low.1 }, lt)

    placed : (op : Operation) → (k : ℕ) × (k < count) × (slice_get line.ops k ≡ Some op) → IsGivenBelow count (front_of count line.ops) op
    placed op place =
        let same : op.seq ≡ place.0 = numbered place.0 op place.2 in
        let less : place.0 < count = place.1 in
        let lt : op.seq < count = omega arith in
        let test : nat_lt op.seq count ≡ true = grind (arith, nat_tests) in
        (ap (λ (b : Bool). if b then slice_get line.ops op.seq else None) test ∙ (ap (slice_get line.ops) same ∙ place.2), lt)

-- ---- restored copies

-- a copy that was restored from such files, and had neither floor nor commit count
pub copy-restored : (line : Line) (count : ℕ) (files : List (List Operation)) (c : Copy) → c.floor ≡ 0 → c.commit ≡ 0 → IsTrueHistory line count (in_parts files)
    → IsTrueStore (front_of count line.ops) count (restored_copy count files c)
copy-restored line count files c no_floor no_commit ok =
    subst (λ (k : ℕ). StoreOk (front_of count line.ops) count (in_parts files ++ []) k c.commit count) (sym no_floor)
    (subst (λ (k : ℕ). StoreOk (front_of count line.ops) count (in_parts files ++ []) 0 k count) (sym no_commit)
    (subst (λ (xs : List Operation). StoreOk (front_of count line.ops) count xs 0 0 count) (sym (append_none (in_parts files))) ok.store))
