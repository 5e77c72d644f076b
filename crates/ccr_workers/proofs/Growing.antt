-- What passes keep while they act, are cut and are joined.
use Rattle.std.specs.Prelude.{MatchOption, Option, Some, None}
use Rattle.std.proofs.Common.{◌≡◌, ◌≢◌, ◌==◌, ℕ, zero, suc, ◌+◌, ◌-◌, ◌<◌, ◌≤◌, Bool, true, false, List, [], ◌∷◌, ◌++◌, length, if◌then◌else◌, refl, ap, sym, subst, ◌∙◌, arith, append_assoc, append-nil, length-append}
use Rattle.std.proofs.lemmas.Bool.Decides.{nat_tests}
use mathlib.Core.List.{IsPrefix}
use Rattle.ccr_cell.specs.declared.view.View.{View}
use Rattle.ccr_cell.specs.declared.pass.Ticket.{Ticket}
use Rattle.ccr_cell.specs.declared.cell.Cell.{Cell}
use Rattle.ccr_cell.specs.Counts.{times, once_between}
use Rattle.ccr_cell.specs.Passes.{view_of, IsOf}
use Rattle.ccr_cell.specs.Law.{IsWhole, kept_half, given_half}
use Rattle.ccr_cell.specs.Told.{Acted, Looked, Joined}
use Rattle.ccr_cell.proofs.Fronts.{prefix_self, prefix_trans, prefix_length}
use Rattle.ccr_workers.specs.Settles.{IsChosen, AreChosen, Settles, IsAlone, IsHome, IsOnlyPass}
use Rattle.ccr_workers.specs.Lending.{ChosenAt, WentOn, Went, IsReady, MayLend, Halved}

-- ---- counts

times_append : (p : ℕ) (xs ys : List ℕ) → times p (xs ++ ys) ≡ times p xs + times p ys
times_append p [] ys = omega arith
times_append p (x ∷ xs) ys = let rest = times_append p xs ys in omega arith

none_in : (p : ℕ) → times p [] ≡ 0
none_in p = refl

-- ---- places

same_some : {S : Type 0} (s t : S) → Some s ≡ Some t → s ≡ t
same_some s t e = cc

module _ {S E : Type 0} (chosen : S → List E → E → Type 0) where
  pub chosen_later : (start : S) (xs ys : List E) (p : ℕ) → IsPrefix xs ys → ChosenAt chosen start xs p → ChosenAt chosen start ys p
  chosen_later start xs ys p pre at = record {
    front = at.front;
    entry = at.entry;
    back = at.back ++ pre.0;
    split = sym pre.1 ∙ (ap (λ (l : List E). l ++ pre.0) at.split ∙ append_assoc at.front (at.entry ∷ at.back) pre.0);
    here = at.here;
    is = at.is;
  }

  -- ---- a pass goes on

  pub on_self : (v : View S E) → WentOn chosen 0 0 v v
  on_self v = record {
    begins = prefix_self v.seen;
    share = refl;
    start = refl;
    opened = refl;
    added = [];
    mine = sym (append-nil v.mine);
    each = λ start is p some. absurd (some refl);
    owns = λ owns. owns;
  }

  -- of two lists that were put together, a place is in one of them
  either_in : (T : Type 0) (p : ℕ) (xs ys : List ℕ) → (times p xs ≢ 0 → T) → (times p ys ≢ 0 → T) → times p (xs ++ ys) ≢ 0 → T
  either_in T p xs ys one two some = by_count (times p xs) refl
    where
      by_count : (n : ℕ) → times p xs ≡ n → T
      by_count zero none = two (λ gone. some (times_append p xs ys ∙ omega (arith, none, gone)))
      by_count (suc n) is = one (λ gone. absurd (omega (arith, is, gone)))

  pub on_then : (a b c d : ℕ) (v w u : View S E) → WentOn chosen a b v w → WentOn chosen c d w u → WentOn chosen (a + c) (b + d) v u
  on_then a b c d v w u one two = record {
    begins = prefix_trans v.seen w.seen u.seen one.begins two.begins;
    share = omega (arith, one.share, two.share);
    start = two.start ∙ one.start;
    opened = two.opened ∙ one.opened;
    added = one.added ++ two.added;
    mine = two.mine ∙ (ap (λ (l : List ℕ). l ++ two.added) one.mine ∙ append_assoc v.mine one.added two.added);
    each = λ start is p some. either_in (ChosenAt chosen start u.seen p) p one.added two.added
        (λ at. chosen_later start w.seen u.seen p two.begins (one.each start is p at))
        (λ at. two.each start (one.start ∙ is) p at) some;
    owns = λ owns. two.owns (one.owns owns);
  }

  -- so many shares lent and got back
  pub on_even : (n : ℕ) (v w : View S E) → WentOn chosen (n + 0) (0 + n) v w → WentOn chosen 0 0 v w
  on_even n v w on = record {
    begins = on.begins;
    share = omega (arith, on.share);
    start = on.start;
    opened = on.opened;
    added = on.added;
    mine = on.mine;
    each = on.each;
    owns = on.owns;
  }

  -- ---- what each call of a cell does

  pub looked_on : (may : S → List E → Type 0) (v w : View S E) → Looked may v w → WentOn chosen 0 0 v w
  looked_on may v w it = record {
    begins = it.begins;
    share = omega (arith, it.same.share);
    start = it.same.start;
    opened = it.same.opened;
    added = [];
    mine = it.mine ∙ sym (append-nil v.mine);
    each = λ start is p some. absurd (some refl);
    owns = λ _ whole. it.owns (sym it.same.share ∙ whole);
  }

  pub acted_on : (may : S → List E → Type 0) (entry : E) (place : ℕ) (v w : View S E) → ((start : S) (front : List E) → may start front → chosen start front entry)
      → Acted may entry place v w → WentOn chosen 0 0 v w
  acted_on may entry place v w is_chosen it = record {
    begins = prefix_trans v.seen it.front w.seen it.begins (entry ∷ [], sym it.seen);
    share = omega (arith, it.same.share);
    start = it.same.start;
    opened = it.same.opened;
    added = place ∷ [];
    mine = it.mine;
    each = λ start is p some. at_place start is p (some_place p place some);
    owns = λ _ whole. it.owns (sym it.same.share ∙ whole);
  }
    where
      some_place : (p place : ℕ) → times p (place ∷ []) ≢ 0 → p ≡ place
      some_place p place some = by_test (p == place) refl
        where
          by_test : (b : Bool) → (p == place) ≡ b → p ≡ place
          by_test true is = grind (arith, nat_tests)
          by_test false is = absurd (some (ap (λ (b : Bool). (if b then 1 else 0) + 0) is))

      at_place : (start : S) → v.start ≡ Some start → (p : ℕ) → p ≡ place → ChosenAt chosen start w.seen p
      at_place start is p here = record {
        front = it.front;
        entry = entry;
        back = [];
        split = it.seen;
        here = here ∙ it.here;
        is = subst (λ (s : S). chosen s it.front entry) (same_some it.start start (sym it.from_start ∙ is)) (is_chosen it.start it.front it.may_be);
      }

  -- ---- the entries that were made

  same_split : (xs ys : List E) (x y : E) (us vs : List E) → length xs ≡ length ys → xs ++ (x ∷ us) ≡ ys ++ (y ∷ vs) → (xs ≡ ys) × (x ≡ y)
  same_split [] [] x y us vs same is = (refl, cc)
  same_split [] (b ∷ ys) x y us vs same is = absurd (omega arith)
  same_split (a ∷ xs) [] x y us vs same is = absurd (omega arith)
  same_split (a ∷ xs) (b ∷ ys) x y us vs same is =
      let heads : a ≡ b = cc in
      let tails : xs ++ (x ∷ us) ≡ ys ++ (y ∷ vs) = cc in
      let rest = same_split xs ys x y us vs (omega arith) tails in (cc (heads, rest.0), rest.1)

  pub are_chosen : (start : S) (front rest seen : List E) → front ++ rest ≡ seen → ((k : ℕ) → length front ≤ k → k < length seen → ChosenAt chosen start seen k)
      → AreChosen chosen start front rest
  are_chosen start front [] seen is all = tt
  are_chosen start front (e ∷ rest) seen is all =
      let size = ap length is in
      let long = length-append front (e ∷ rest) in
      let at = all (length front) (omega arith) (omega (arith, size, long)) in
      let same = same_split front at.front e at.entry rest at.back at.here (is ∙ at.split) in (
        subst (λ (l : List E). chosen start l e) (sym same.0) (subst (λ (x : E). chosen start at.front x) (sym same.1) at.is),
        are_chosen start (front ++ e ∷ []) rest seen (append_assoc front (e ∷ []) rest ∙ is) (λ k le lt. let more = length-append front (e ∷ []) in all k (omega (arith, le, more)) lt),
      )

  once_out : (a b p : ℕ) → b ≤ p → once_between a b p ≡ 0
  once_out a b p le = grind (arith, nat_tests)

  once_in : (a b p : ℕ) → a ≤ p → p < b → once_between a b p ≡ 1
  once_in a b p le lt = grind (arith, nat_tests)

  stays_whole : (v w : View S E) → IsAlone v → WentOn chosen 0 0 v w → IsWhole w
  stays_whole v w alone on = let whole : v.share ≡ 4294967296 = alone.whole in omega (arith, on.share, whole)

  pub on_alone : (v w : View S E) → IsAlone v → WentOn chosen 0 0 v w → IsAlone w
  on_alone v w alone on = record {
    whole = stays_whole v w alone on;
    owns = on.owns (λ _. alone.owns) (stays_whole v w alone on);
    opened = let long = prefix_length v.seen w.seen on.begins in omega (arith, on.opened, alone.opened, long);
  }

  one_of : (v w : View S E) → IsAlone v → (on : WentOn chosen 0 0 v w) → (k : ℕ) → length v.seen ≤ k → k < length w.seen → times k on.added ≢ 0
  one_of v w alone on k le lt none =
      let before = alone.owns k ∙ once_out v.opened (length v.seen) k le in
      let opened : w.opened ≤ k = omega (arith, on.opened, alone.opened, le) in
      let after = (on_alone v w alone on).owns k ∙ once_in w.opened (length w.seen) k opened lt in
      let both = ap (times k) on.mine ∙ times_append k v.mine on.added in
      absurd (omega (arith, before, after, both, none))

  pub on_settles : (v w : View S E) → IsAlone v → WentOn chosen 0 0 v w → Settles chosen v w
  on_settles v w alone on = record {
    added = on.begins.0;
    grew = sym on.begins.1;
    each = λ start is. are_chosen start v.seen on.begins.0 w.seen on.begins.1 (λ k le lt. on.each start is k (one_of v w alone on k le lt));
    same = record { share = omega (arith, on.share); start = on.start; opened = on.opened };
  }

  -- ---- the same of passes

  module _ {X : Type 0} where
    pub went_self : (p : Ticket X S E) → Went chosen 0 0 p p
    went_self p = record { table = refl; on = on_self (view_of p) }

    pub went_then : (a b c d : ℕ) (p q r : Ticket X S E) → Went chosen a b p q → Went chosen c d q r → Went chosen (a + c) (b + d) p r
    went_then a b c d p q r one two = record { table = two.table ∙ one.table; on = on_then a b c d (view_of p) (view_of q) (view_of r) one.on two.on }

    pub went_on : (p q r : Ticket X S E) → Went chosen 0 0 p q → Went chosen 0 0 q r → Went chosen 0 0 p r
    went_on p q r one two = went_then 0 0 0 0 p q r one two

    pub went_even : (n : ℕ) (p q r : Ticket X S E) → Went chosen n 0 p q → Went chosen 0 n q r → Went chosen 0 0 p r
    went_even n p q r one two =
        let both = went_then n 0 0 n p q r one two in record { table = both.table; on = on_even n (view_of p) (view_of r) both.on }

    pub went_alone : (p q : Ticket X S E) → IsAlone (view_of p) → Went chosen 0 0 p q → IsAlone (view_of q)
    went_alone p q alone went = on_alone (view_of p) (view_of q) alone went.on

    -- one more share lent, of a pass that had the whole
    pub lent_more : (n : ℕ) (p q r : Ticket X S E) → IsAlone (view_of p) → n + 2 ≤ 4294967296 → Went chosen n 0 p q → Halved q r → Went chosen (n + 1) 0 p r
    lent_more n p q r alone few went halved = record {
      table = halved.table ∙ went.table;
      on = subst (λ (v : View S E). WentOn chosen (n + 1) 0 (view_of p) v) (sym halved.view) (record {
        begins = went.on.begins;
        share = let whole : (view_of p).share ≡ 4294967296 = alone.whole in omega (arith, went.on.share, whole, few);
        start = went.on.start;
        opened = went.on.opened;
        added = went.on.added;
        mine = went.on.mine;
        each = went.on.each;
        owns = λ _ all.
            let whole : (view_of p).share ≡ 4294967296 = alone.whole in
            let again : (view_of q).share - 1 ≡ 4294967296 = all in
            absurd (omega (arith, went.on.share, whole, again));
      });
    }

-- ---- a turn

module _ {X S V R E : Type 0} (entry_of : V → R → E) (may_reply : S → List E → V → R → Type 0) (may_choose : S → List E → V → Type 0) (is_idle : S → List E → Type 0) where
  pub turned_none : (p q : Ticket X S E) → q.seat.table_id ≡ p.seat.table_id → (may : S → List E → Type 0) → Looked may (view_of p) (view_of q)
      → Went (IsChosen entry_of may_reply may_choose is_idle) 0 0 p q
  turned_none p q table may it = record { table = table; on = looked_on (IsChosen entry_of may_reply may_choose is_idle) may (view_of p) (view_of q) it }

  pub turned : (p q : Ticket X S E) (next : Option (V × R × ℕ)) → q.seat.table_id ≡ p.seat.table_id
      → MatchOption next (Looked is_idle (view_of p) (view_of q))
      (λ r. Acted (λ s front. (¬ is_idle s front) × may_choose s front r.0 × may_reply s front r.0 r.1) (entry_of r.0 r.1) r.2 (view_of p) (view_of q))
      → Went (IsChosen entry_of may_reply may_choose is_idle) 0 0 p q
  turned p q None table it = turned_none p q table is_idle it
  turned p q (Some r) table it = record {
    table = table;
    on = acted_on (IsChosen entry_of may_reply may_choose is_idle) _ (entry_of r.0 r.1) r.2 (view_of p) (view_of q)
        (λ start front may. record { event = r.0; reply = r.1; is = refl; left = may.0; may = may.1; replied = may.2 }) it;
  }

-- ---- passes of cells

module _ {X S V R E N : Type 0} (start : X → S) (chosen : S → List E → E → Type 0) where
  pub home_went : (a b : ℕ) (cell : Cell X S V R E N) (p q : Ticket X S E) → IsHome start cell p → Went chosen a b p q → IsHome start cell q
  home_went a b cell p q home went = record { own = went.table ∙ home.own; from_start = went.on.start ∙ home.from_start }

  pub ready_went : (cell : Cell X S V R E N) (p q : Ticket X S E) → IsReady start chosen cell p → Went chosen 0 0 p q → IsReady start chosen cell q
  ready_went cell p q ready went = record {
    home = home_went 0 0 cell p q ready.home went;
    share = omega (arith, went.on.share, ready.share);
    each = λ s is place some. either_in chosen (ChosenAt chosen s (view_of q).seen place) place (view_of p).mine went.on.added
        (λ at. chosen_later chosen s (view_of p).seen (view_of q).seen place went.on.begins (ready.each s (sym went.on.start ∙ is) place at))
        (λ at. went.on.each s (sym went.on.start ∙ is) place at)
        (λ none. some (ap (times place) went.on.mine ∙ none));
  }

  pub only_went : (cell : Cell X S V R E N) (p q : Ticket X S E) → IsOnlyPass start cell p → Went chosen 0 0 p q → IsOnlyPass start cell q
  only_went cell p q only went = record { home = home_went 0 0 cell p q only.home went; alone = went_alone chosen p q only.alone went }

  pub may_lend : (n : ℕ) (cell : Cell X S V R E N) (p q : Ticket X S E) → n + 2 ≤ 4294967296 → IsOnlyPass start cell p → Went chosen n 0 p q → MayLend start cell q
  may_lend n cell p q few only went = record {
    home = home_went n 0 cell p q only.home went;
    two = let whole : (view_of p).share ≡ 4294967296 = only.alone.whole in omega (arith, went.on.share, whole, few);
  }

  -- a worker's new pass
  pub ready_given : (cell : Cell X S V R E N) (p w : Ticket X S E) → MayLend start cell p → IsOf cell w → view_of w ≡ given_half (view_of p) → IsReady start chosen cell w
  ready_given cell p w lends own view = record {
    home = record { own = own; from_start = ap (λ (v : View S E). v.start) view ∙ lends.home.from_start };
    share = ap (λ (v : View S E). v.share) view;
    each = λ s is place some. absurd (some (ap (λ (v : View S E). times place v.mine) view));
  }

  pub halved_at : (cell : Cell X S V R E N) (p q : Ticket X S E) → MayLend start cell p → IsOf cell q → view_of q ≡ kept_half (view_of p) → Halved p q
  halved_at cell p q lends own view = record { table = own ∙ sym lends.home.own; view = view }

  -- a worker's pass goes back
  pub joined_went : (cell : Cell X S V R E N) (p w q : Ticket X S E) → IsHome start cell p → IsReady start chosen cell w → IsOf cell q → Joined (view_of p) (view_of w) (view_of q)
      → Went chosen 0 1 p q
  joined_went cell p w q home ready own it = record {
    table = own ∙ sym home.own;
    on = record {
      begins = it.one;
      share = omega (arith, it.share, ready.share);
      start = it.start;
      opened = it.opened;
      added = (view_of w).mine;
      mine = it.mine;
      each = λ s is place some. chosen_later chosen s (view_of w).seen (view_of q).seen place it.other
          (ready.each s (ready.home.from_start ∙ (sym home.from_start ∙ is)) place some);
      owns = λ _. it.owns;
    };
  }
