-- What the changes of copies make of the claims on what they hold.
use Rattle.std.specs.List.{AllByRecursion, list_any, range_with_len}
use Rattle.std.specs.Prelude.{filter}
use Rattle.std.proofs.Common.{◌≡◌, ℕ, ◌+◌, ◌-◌, ◌<◌, ◌≤◌, ◌==◌, ◌&&◌, ◌||◌, ◌⊎◌, inl, inr, max, Bool, true, false, not, nat_lt, if◌then◌else◌, Option, Some, None, is_some, List, [], ◌∷◌, length, refl, sym, ◌∙◌, ap, subst, arith}
use Rattle.std.proofs.lemmas.Bool.Decides.{nat_tests}
use Rattle.ccr_op.specs.Operation.{Operation}
use Rattle.ccr_op.specs.declared.operation.Kind.TheVariants.{NoOp}
use Rattle.ccr_tracker.specs.Numbers.{Numbers, has}
use Rattle.ccr_model.specs.Operations.{has_number, op_at, run_from}
use Rattle.ccr_model.specs.Stores.{Store, held, stored_if_some, flushed, sifted, stored_all}
use Rattle.ccr_model.specs.Copies.{Copy, taking, knowing}
use Rattle.ccr_model.specs.LeaderRows.{filled, end_of, missing_numbers}
use Rattle.ccr_model.specs.Given.{IsAmong, or_else, gaining, plugged, joined_at}
use Rattle.ccr_law_base.proofs.Cases.{on_if}
use Rattle.ccr_law_base.proofs.Lists.{All-weaker, All-both, All-filter, All-filter_test, any-range, All-in}
use Rattle.ccr_law_copies.proofs.CopyChanges.{gained, gained-some}
use Rattle.ccr_law_copies.proofs.Sets.{has-marked, any-filter_test}
use Rattle.ccr_law_stores.specs.TrueStores.{one, times, StoreOk, IsTrueStore, AreNumbered}
use Rattle.ccr_law_stores.proofs.Counting.{times-filter, has-same, has_by_times, in-find, found_at}
use Rattle.ccr_law_stores.proofs.Holding.{held-sifted, times-stored_all, All-stored_all}
use Rattle.ccr_law_stores.proofs.CopyChanges.{below_or, store-above, store-given, store-gains, store-counts, store-flushes}
use Rattle.ccr_law_stores.proofs.Histories.{filter-below}
use Rattle.ccr_law_stores.proofs.Runs.{RunOk, run-ok, run-given, run-above, times-run, one_true, one_false, one-le}

-- ---- one more operation

pub numbered-gaining : (ops : ℕ → Option Operation) (seq : ℕ) (op : Operation) → op.seq ≡ seq → AreNumbered ops → AreNumbered (gaining ops seq (Some op))
numbered-gaining ops seq op number numbered n x at = by_gain (gained (ops n) n seq op x at)
  where
    by_gain : (ops n ≡ Some x) ⊎ (((n == seq) ≡ true) × (op ≡ x)) → x.seq ≡ n
    by_gain (inl old) = numbered n x old
    by_gain (inr new) = let same : n ≡ seq = (let is : (n == seq) ≡ true = new.0 in grind (arith, nat_tests)) in ap (λ (y : Operation). y.seq) (sym new.1) ∙ (number ∙ sym same)

-- the copy takes an operation of this number, where it has processed just what it was given, and all below its global count; `o` is that
-- operation unless the number was processed
pub copy-takes_found : (ops : ℕ → Option Operation) (restored : ℕ) (c : Copy) (seq : ℕ) (op : Operation) (o : Option Operation) → AreNumbered ops → op.seq ≡ seq
    → ((n : ℕ) → has c.seen n ≡ is_some (ops n)) → ((n : ℕ) → n < c.global → is_some (ops n) ≡ true) → (has c.seen seq ≡ false → o ≡ Some op)
    → IsTrueStore ops restored c → IsTrueStore (gaining ops seq (Some op)) restored (taking c seq o)
copy-takes_found ops restored c seq op o numbered number processed whole found ok =
    on_if (λ (s : Store). StoreOk (gaining ops seq (Some op)) restored (held s) c.floor c.commit c.global) (has c.seen seq) c.store (stored_if_some o c.store)
    (λ is. store-given ops (gaining ops seq (Some op)) restored (held c.store) c.floor c.commit c.global numbered (λ n. same n (sym (processed seq) ∙ is) (n == seq) refl) ok)
    (λ isnt. subst (λ (q : Option Operation). StoreOk (gaining ops seq (Some op)) restored (held (stored_if_some q c.store)) c.floor c.commit c.global) (sym (found isnt))
    (store-gains ops restored c.store c.floor c.commit c.global seq op numbered number (sym (processed seq) ∙ isnt) (high (sym (processed seq) ∙ isnt)) ok))
  where
    high : is_some (ops seq) ≡ false → c.global ≤ seq
    high out = below_or (c.global ≤ seq) seq c.global (λ lt. let is : is_some (ops seq) ≡ true = whole seq lt in cc) (λ le. le)

    or_none : (o : Option Operation) → or_else o None ≡ o
    or_none None = refl
    or_none (Some x) = refl

    or_some : (o : Option Operation) → is_some o ≡ true → or_else o (Some op) ≡ o
    or_some None is = cc
    or_some (Some x) is = refl

    same : (n : ℕ) → is_some (ops seq) ≡ true → (b : Bool) → (n == seq) ≡ b → or_else (ops n) (if n == seq then Some op else None) ≡ ops n
    same n is true at =
        let number_is : n ≡ seq = grind (arith, nat_tests) in
        ap (λ (b : Bool). or_else (ops n) (if b then Some op else None)) at ∙ or_some (ops n) (ap (λ (k : ℕ). is_some (ops k)) number_is ∙ is)
    same n is false at = ap (λ (b : Bool). or_else (ops n) (if b then Some op else None)) at ∙ or_none (ops n)

pub copy-takes : (ops : ℕ → Option Operation) (restored : ℕ) (c : Copy) (seq : ℕ) (op : Operation) → AreNumbered ops → op.seq ≡ seq
    → ((n : ℕ) → has c.seen n ≡ is_some (ops n)) → ((n : ℕ) → n < c.global → is_some (ops n) ≡ true)
    → IsTrueStore ops restored c → IsTrueStore (gaining ops seq (Some op)) restored (taking c seq (Some op))
copy-takes ops restored c seq op numbered number processed whole ok =
    copy-takes_found ops restored c seq op (Some op) numbered number processed whole (λ isnt. refl) ok

pub copy-flushes : (ops : ℕ → Option Operation) (restored : ℕ) (c : Copy) → IsTrueStore ops restored c
    → IsTrueStore ops restored (record c { store = flushed c.store; commit = c.global })
copy-flushes ops restored c ok = store-flushes ops restored c.store c.floor c.commit c.global ok

-- the operation of a number that is held is the one that was given
pub held-op : (ops : ℕ → Option Operation) (xs : List Operation) (n : ℕ) (op : Operation) → AllByRecursion (IsAmong ops) xs → ops n ≡ Some op → has_number xs n ≡ true
    → op_at n xs ≡ Some op
held-op ops xs n op all given there =
    let at : (x : Operation) × (op_at n xs ≡ Some x) × (x.seq ≡ n) = found_at xs n there in
    let own : ops at.0.seq ≡ Some at.0 = All-in (IsAmong ops) xs at.0 all (in-find n xs at.0 at.1) in
    at.1 ∙ (sym own ∙ (ap ops at.2 ∙ given))

pub copy-knows : (ops : ℕ → Option Operation) (restored : ℕ) (c : Copy) (global : ℕ) → IsTrueStore ops restored c → IsTrueStore ops restored (knowing global c)
copy-knows ops restored c global ok = store-counts ops restored (held c.store) c.floor c.commit c.global (max c.global global) (omega arith) ok

-- ---- no-ops in the gaps

abbrev pub gap_op : ℕ → ℕ → Operation
gap_op term n = record { seq = n; term = term; version = 0; kind = NoOp }

-- what was given, with no-ops of these numbers
abbrev pub gained_all : ℕ → List ℕ → (ℕ → Option Operation) → ℕ → Option Operation
gained_all term [] ops = ops
gained_all term (n ∷ numbers) ops = gained_all term numbers (gaining ops n (Some (gap_op term n)))

pub copy-filled : (term : ℕ) (numbers : List ℕ) (ops : ℕ → Option Operation) (restored : ℕ) (c : Copy) → AreNumbered ops
    → ((n : ℕ) → has c.seen n ≡ is_some (ops n)) → ((n : ℕ) → n < c.global → is_some (ops n) ≡ true)
    → IsTrueStore ops restored c → IsTrueStore (gained_all term numbers ops) restored (filled term numbers c)
copy-filled term [] ops restored c numbered processed whole ok = ok
copy-filled term (n ∷ numbers) ops restored c numbered processed whole ok =
    copy-filled term numbers (gaining ops n (Some (gap_op term n))) restored (taking c n (Some (gap_op term n)))
    (numbered-gaining ops n (gap_op term n) refl numbered)
    (λ k. has-marked c.seen n k ∙ (ap (λ (b : Bool). b || (n == k)) (processed k) ∙ gained-some (ops k) k n (gap_op term n)))
    (λ k lt. more (ops k) (if k == n then Some (gap_op term n) else None) (whole k lt))
    (copy-takes ops restored c n (gap_op term n) numbered refl processed whole ok)
  where
    more : (o later : Option Operation) → is_some o ≡ true → is_some (or_else o later) ≡ true
    more None later is = cc
    more (Some x) later is = refl

pub or_else_assoc : (a b c : Option Operation) → or_else (or_else a b) c ≡ or_else a (or_else b c)
or_else_assoc None b c = refl
or_else_assoc (Some x) b c = refl

pub or_same : (n m : ℕ) (term : ℕ) (b : Bool) (rest : Bool) → (n == m) ≡ b
    → or_else (if b then Some (gap_op term m) else None) (if rest then Some (gap_op term n) else None) ≡ (if b || rest then Some (gap_op term n) else None)
or_same n m term true rest is = let same : m ≡ n = grind (arith, nat_tests) in ap (λ (k : ℕ). Some (gap_op term k)) same
or_same n m term false rest is = refl

pub gained_all-is : (term : ℕ) (numbers : List ℕ) (ops : ℕ → Option Operation) (n : ℕ)
    → gained_all term numbers ops n ≡ or_else (ops n) (if list_any (λ k. k == n) numbers then Some (gap_op term n) else None)
gained_all-is term [] ops n = none (ops n)
  where
    none : (o : Option Operation) → o ≡ or_else o None
    none None = refl
    none (Some x) = refl
gained_all-is term (m ∷ numbers) ops n =
    gained_all-is term numbers (gaining ops m (Some (gap_op term m))) n
    ∙ (or_else_assoc (ops n) (if n == m then Some (gap_op term m) else None) (if list_any (λ k. k == n) numbers then Some (gap_op term n) else None)
    ∙ ap (or_else (ops n))
    (or_same n m term (n == m) (list_any (λ k. k == n) numbers) refl
    ∙ ap (λ (b : Bool). if b || list_any (λ k. k == n) numbers then Some (gap_op term n) else None) (swapped n m)))
  where
    swapped : (n m : ℕ) → (n == m) ≡ (m == n)
    swapped n m = grind (arith, nat_tests)

-- the no-ops of all missing numbers plug the gaps
pub plugged-is : (term : ℕ) (ops : ℕ → Option Operation) (seen : Numbers) → ((n : ℕ) → has seen n ≡ is_some (ops n)) → (n : ℕ)
    → plugged ops term (end_of seen) n ≡ gained_all term (missing_numbers seen) ops n
plugged-is term ops seen processed n =
    by_some (ops n) (has seen n) (processed n) (nat_lt n (end_of seen)) (list_any (λ k. k == n) (missing_numbers seen)) (λ out. same out)
    ∙ sym (gained_all-is term (missing_numbers seen) ops n)
  where
    same : has seen n ≡ false → nat_lt n (end_of seen) ≡ list_any (λ k. k == n) (missing_numbers seen)
    same out =
        let listed : list_any (λ k. k == n) (missing_numbers seen) ≡ (list_any (λ k. k == n) (range_with_len seen.count (end_of seen - seen.count)) && not (has seen n))
        = any-filter_test (λ k. not (has seen k)) n (range_with_len seen.count (end_of seen - seen.count)) in
        let range : list_any (λ k. k == n) (range_with_len seen.count (end_of seen - seen.count)) ≡ (not (nat_lt n seen.count) && nat_lt n (seen.count + (end_of seen - seen.count)))
        = any-range seen.count (end_of seen - seen.count) n in
        let past : seen.count ≤ n = grind (arith, nat_tests) in
        sym (listed ∙ (ap (λ (b : Bool). b && not (has seen n)) range ∙ (ap (λ (b : Bool). (not (nat_lt n seen.count) && nat_lt n (seen.count + (end_of seen - seen.count))) && not b) out ∙ (grind (arith, nat_tests)))))

    by_some : (o : Option Operation) (b : Bool) → b ≡ is_some o → (low listed : Bool) → (b ≡ false → low ≡ listed)
        → or_else o (if low then Some (gap_op term n) else None) ≡ or_else o (if listed then Some (gap_op term n) else None)
    by_some (Some x) b is low listed same_too = refl
    by_some None b is low listed same_too = ap (λ (t : Bool). if t then Some (gap_op term n) else None) (same_too is)

pub copy-plugged : (term : ℕ) (ops : ℕ → Option Operation) (restored : ℕ) (c : Copy) → AreNumbered ops
    → ((n : ℕ) → has c.seen n ≡ is_some (ops n)) → ((n : ℕ) → n < c.global → is_some (ops n) ≡ true)
    → IsTrueStore ops restored c → IsTrueStore (plugged ops term (end_of c.seen)) restored (filled term (missing_numbers c.seen) c)
copy-plugged term ops restored c numbered processed whole ok =
    let all : IsTrueStore (gained_all term (missing_numbers c.seen) ops) restored (filled term (missing_numbers c.seen) c)
    = copy-filled term (missing_numbers c.seen) ops restored c numbered processed whole ok in
    store-given (gained_all term (missing_numbers c.seen) ops) (plugged ops term (end_of c.seen)) restored (held (filled term (missing_numbers c.seen) c).store)
    (filled term (missing_numbers c.seen) c).floor (filled term (missing_numbers c.seen) c).commit (filled term (missing_numbers c.seen) c).global
    (numbered_all (missing_numbers c.seen) ops numbered)
    (λ n. plugged-is term ops c.seen processed n) all
  where
    numbered_all : (numbers : List ℕ) (ops : ℕ → Option Operation) → AreNumbered ops → AreNumbered (gained_all term numbers ops)
    numbered_all [] ops numbered = numbered
    numbered_all (n ∷ numbers) ops numbered = numbered_all numbers (gaining ops n (Some (gap_op term n))) (numbered-gaining ops n (gap_op term n) refl numbered)

-- ---- resyncs

-- what is held from the mark on, which is at the count or above it, goes, and a run of the others' operations comes in its place
pub store-resynced : (ops others : ℕ → Option Operation) (restored : ℕ) (s : Store) (xs : List Operation) (floor commit count mark end : ℕ) → AreNumbered ops → count ≤ mark
    → AllByRecursion (IsAmong others) xs → ((n : ℕ) → mark ≤ n → is_some (others n) ≡ true → n < end)
    → ((n : ℕ) → mark ≤ n → n < end → has_number xs n ≡ true)
    → StoreOk ops restored (held s) floor commit count
    → StoreOk (joined_at mark ops others) restored (held (stored_all (run_from xs mark end) (sifted (λ op. nat_lt op.seq mark) s))) floor commit count
store-resynced ops others restored s xs floor commit count mark end numbered low all ends there ok =
    store-above ops (joined_at mark ops others) restored (held s) (held (stored_all (run_from xs mark end) (sifted (λ op. nat_lt op.seq mark) s))) floor commit count numbered
    (λ n lt. let is : nat_lt n mark ≡ true = grind (arith, nat_tests) in ap (λ (b : Bool). if b then ops n else others n) is)
    (λ n lt. below_mark n (omega arith))
    (All-stored_all (IsAmong (joined_at mark ops others)) (run_from xs mark end) (sifted (λ op. nat_lt op.seq mark) s) news olds)
    (λ n le. below_or (times n (held (stored_all (run_from xs mark end) (sifted (λ op. nat_lt op.seq mark) s))) ≤ 1) n mark
    (λ lt. subst (λ (k : ℕ). k ≤ 1) (sym (below_mark n lt)) (ok.once n))
    (λ high. omega (arith, above_mark n high, one-le (not (nat_lt n mark) && nat_lt n (mark + length (run_from xs mark end))))))
    (λ n le is. below_or (has_number (held (stored_all (run_from xs mark end) (sifted (λ op. nat_lt op.seq mark) s))) n ≡ true) n mark
    (λ lt. has-same (held (stored_all (run_from xs mark end) (sifted (λ op. nat_lt op.seq mark) s))) (held s) n (below_mark n lt)
    ∙ ok.kept n (let l : floor ≤ count = ok.low in let since : restored ≤ count = ok.since in omega arith)
    (let test : nat_lt n mark ≡ true = grind (arith, nat_tests) in sym (ap (λ (b : Bool). is_some (if b then ops n else others n)) test) ∙ is))
    (λ high. has_by_times (held (stored_all (run_from xs mark end) (sifted (λ op. nat_lt op.seq mark) s))) n
    (let test : nat_lt n mark ≡ false = grind (arith, nat_tests) in
    let lt : n < end = ends n high (sym (ap (λ (b : Bool). is_some (if b then ops n else others n)) test) ∙ is) in
    let size : length (run_from xs mark end) ≡ end - mark = run.number in
    omega (arith, above_mark n high, one_true (not (nat_lt n mark) && nat_lt n (mark + length (run_from xs mark end))) (grind (arith, nat_tests))))))
    ok
  where
    run : RunOk xs mark (end - mark) (run_from xs mark end)
    run = run-ok xs mark (end - mark) (λ n le lt. there n le (omega arith))

    counted : (n : ℕ) → times n (held (stored_all (run_from xs mark end) (sifted (λ op. nat_lt op.seq mark) s)))
        ≡ one (not (nat_lt n mark) && nat_lt n (mark + length (run_from xs mark end))) + times n (filter (λ op. nat_lt op.seq mark) (held s))
    counted n = times-stored_all n (run_from xs mark end) (sifted (λ op. nat_lt op.seq mark) s)
        ∙ (ap (λ (k : ℕ). k + times n (held (sifted (λ op. nat_lt op.seq mark) s))) (times-run n mark (run_from xs mark end) run.begins)
        ∙ ap (λ (ys : List Operation). one (not (nat_lt n mark) && nat_lt n (mark + length (run_from xs mark end))) + times n ys) (held-sifted (λ op. nat_lt op.seq mark) s))

    below_mark : (n : ℕ) → n < mark → times n (held (stored_all (run_from xs mark end) (sifted (λ op. nat_lt op.seq mark) s))) ≡ times n (held s)
    below_mark n lt =
        let none : one (not (nat_lt n mark) && nat_lt n (mark + length (run_from xs mark end))) ≡ 0
        = one_false (not (nat_lt n mark) && nat_lt n (mark + length (run_from xs mark end))) (grind (arith, nat_tests)) in
        counted n ∙ omega (arith, filter-below n mark (held s) lt)

    above_mark : (n : ℕ) → mark ≤ n → times n (held (stored_all (run_from xs mark end) (sifted (λ op. nat_lt op.seq mark) s)))
        ≡ one (not (nat_lt n mark) && nat_lt n (mark + length (run_from xs mark end)))
    above_mark n le =
        let out : nat_lt n mark ≡ false = grind (arith, nat_tests) in
        let none : times n (filter (λ op. nat_lt op.seq mark) (held s)) ≡ 0 = times-filter (λ k. nat_lt k mark) n (held s) ∙ ap (λ (b : Bool). if b then times n (held s) else 0) out in
        counted n ∙ omega arith

    news : AllByRecursion (IsAmong (joined_at mark ops others)) (run_from xs mark end)
    news = All-weaker (λ (op : Operation). (IsAmong others op × (op.seq < end)) × (mark ≤ op.seq)) (IsAmong (joined_at mark ops others))
        (λ x both. let high : mark ≤ x.seq = both.1 in let test : nat_lt x.seq mark ≡ false = grind (arith, nat_tests) in
        ap (λ (b : Bool). if b then ops x.seq else others x.seq) test ∙ both.0.0)
        (run_from xs mark end)
        (All-both (λ (op : Operation). IsAmong others op × (op.seq < end)) (λ (op : Operation). mark ≤ op.seq) (run_from xs mark end)
        (run-given others xs mark end (run_from xs mark end) all run) (run-above mark (run_from xs mark end) run.begins))

    olds : AllByRecursion (IsAmong (joined_at mark ops others)) (held (sifted (λ op. nat_lt op.seq mark) s))
    olds = subst (AllByRecursion (IsAmong (joined_at mark ops others))) (sym (held-sifted (λ op. nat_lt op.seq mark) s))
        (All-weaker (λ (op : Operation). IsAmong ops op × (nat_lt op.seq mark ≡ true)) (IsAmong (joined_at mark ops others))
        (λ x both. ap (λ (b : Bool). if b then ops x.seq else others x.seq) both.1 ∙ both.0)
        (filter (λ op. nat_lt op.seq mark) (held s))
        (All-both (IsAmong ops) (λ (op : Operation). nat_lt op.seq mark ≡ true) (filter (λ op. nat_lt op.seq mark) (held s))
        (All-filter (IsAmong ops) (λ op. nat_lt op.seq mark) (held s) ok.ours) (All-filter_test (λ op. nat_lt op.seq mark) (held s))))
