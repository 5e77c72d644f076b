-- That each step of a cell keeps its rule, in the form that the table asks for.
use Rattle.std.proofs.Common.{◌≡◌, ◌==◌, ◌%◌, ◌*◌, ℕ, ◌+◌, ◌<◌, ◌≤◌, Bool, true, false, List, [], ◌∷◌, ◌++◌, length, get_or, refl, sym, ap, subst, ◌∙◌, arith, Some, MatchBool, length-append}
use Rattle.std.proofs.lemmas.Bool.Decides.{nat_tests}
use mathlib.Core.Option.{Option, some, none, some-injective}
use mathlib.Core.List.{IsPrefix}
use prog.Atomic.{either}
use lib.ListN.{get_elem?}
use Rattle.atomic_table.specs.Table.{State, Me, step, Act, keeps, takes, gives, Allows, Splits, Joins, Final, Seen, Valid, stepped, carried_after, opening as table_opening}
use Rattle.ccr_cell.specs.declared.view.View.{View}
use Rattle.ccr_cell.specs.Counts.{times, once_between}
use Rattle.ccr_cell.specs.Law.{first_view, spent_view, kept_half, given_half, both_views, Kept, Took, Takes, Added, Adds, Leaves, Bounds}
use Rattle.ccr_cell.specs.Told.{InHand, Acted, Closed}
use Rattle.ccr_cell.proofs.Sums.{times_append, once_more, total_has, set_at}
use Rattle.ccr_cell.proofs.Fronts.{prefix_self, prefix_length}
use Rattle.ccr_cell.proofs.Rules.{whole_seen, whole_owns, took, gave, still, splits, joins, opens, Ends, ends}

pub bare : {A : Type 0} (xs : List A) → length xs ≡ 0 → xs ≡ []
bare [] e = refl
bare (x ∷ xs) e = absurd (omega arith)

module _ {X S E : Type 0} (start : X → S) (journal : X → List E) (st : S) (opening : List E) where
  abbrev pub Law : State X (View S E) → Type 0
  Law = Kept start journal st opening

  -- a compare-exchange by one that holds nothing, where the word found is n and `hit` says whether it is the one that was asked for
  takes_case : (id old : ℕ) (v : View S E) → old % 2 ≡ 0 → 0 < v.share → (s : State X (View S E)) → Law s → get_elem? s.views id ≡ some v
      → (n : ℕ) → get_or s.words 0 0 ≡ n → (hit : Bool) → (n == old) ≡ hit
      → (w : View S E) × (a : Act X) × Valid s.homes [] a × Law (stepped s 0 (either hit (old + 1) n) id [] w a) × MatchBool hit (Took start journal (v, []) n (w, carried_after [] a)) (let me : Me X (View S E) = (v, []) in let after : Me X (View S E) = (w, carried_after [] a) in after ≡ me)
  takes_case id old v even live s h at n found true is =
      let same : n ≡ old = grind (arith, nat_tests) in
      let bit = h.bit in
      let word : n ≡ 2 * length h.log + h.held = sym found ∙ ap (λ (l : List ℕ). get_or l 0 0) h.words in
      let free : h.held ≡ 0 = omega arith in
      let r = h.rests free in
      let m : X = r.0 in
      let f = h.fits id v at live in
      let grows : IsPrefix v.seen (journal m) = subst (λ (l : List E). IsPrefix v.seen l) (sym r.2) f.prefix in
      let len : length (journal m) ≡ length h.log = ap length r.2 in (
        record v { seen = journal m; turn = true },
        takes 0 m,
        ap (λ (l : List (Option X)). get_elem? l 0) r.1,
        took start journal st opening s h id v m at live free r.1 r.2 (old + 1) (omega arith),
        record {
          machine = m;
          now = refl;
          prefix = grows;
          same_start = f.same_start ∙ ap Some (sym r.3);
          length_found = omega arith;
          whole = λ all. r.2 ∙ sym (whole_seen start journal st opening s h id v at all);
        },
      )
  takes_case id old v even live s h at n found false is = (v, keeps, tt, still start journal st opening s h id v n at found, refl)

  pub may_take : (slots id : ℕ) (me : Me X (View S E)) (old : ℕ) → me.1 ≡ [] → old % 2 ≡ 0 → 0 < me.0.share
      → Allows Law slots id me 0 (λ n. either (n == old) (old + 1) n) (Takes start journal (step slots 0 old (old + 1) none) me)
  may_take slots id me old bare even live =
      subst (λ (c : List (ℕ × X)). let x : Me X (View S E) = (me.0, c) in Allows Law slots id x 0 (λ n. either (n == old) (old + 1) n) (Takes start journal (step slots 0 old (old + 1) none) x)) (sym bare)
      (λ s h count at fits. takes_case id old me.0 even live s h at (get_or s.words 0 0) refl (get_or s.words 0 0 == old) refl)

  -- the machine goes back with one entry more
  pub adds_entry : (slots id : ℕ) (v : View S E) (m : X) (entry : E) (n : ℕ) → v.turn ≡ true → v.start ≡ Some (start m) → journal m ≡ v.seen ++ entry ∷ [] → 0 < v.share → n ≡ 2 * length v.seen + 2
      → (let me : Me X (View S E) = (v, (0, m) ∷ []) in Allows Law slots id me 0 (λ _. n) (λ _. Adds start journal (step slots 0 n 0 none) me n))
  adds_entry slots id v m entry n turn from_start grown live next s h count at fits =
      let me : Me X (View S E) = (v, (0, m) ∷ []) in
      let place : ℕ = length v.seen in
      let mine : List ℕ = v.mine ++ place ∷ [] in
      let w : View S E = record v { seen = journal m; mine = mine; turn = false } in
      let after : Me X (View S E) = (w, []) in
      let t = h.turns id v at turn in
      let f = h.fits id v at live in
      let len : length (journal m) ≡ length v.seen + 1 = ap length grown ∙ length-append v.seen (entry ∷ []) in
      let grows : IsPrefix v.seen (journal m) = (entry ∷ [], sym grown) in
      let first : length opening ≤ length v.seen = (let a = prefix_length opening h.log h.begun in let b = ap length t.2 in omega arith) in
      let start_is : start m ≡ st = cc (from_start, f.same_start) in
      let counted : (p : ℕ) → times p mine + once_between (length opening) (length v.seen) p ≡ times p v.mine + once_between (length opening) (length (journal m)) p = λ p.
      (let a = times_append p v.mine (place ∷ []) in
      let b = once_more (length opening) place p first in
      let c : once_between (length opening) (length (journal m)) p ≡ once_between (length opening) (place + 1) p = ap (λ (k : ℕ). once_between (length opening) k p) len in
      omega arith) in
      let below : (p : ℕ) → length (journal m) ≤ p → times p mine ≡ 0 = λ p le.
      (let a = times_append p v.mine (place ∷ []) in
      let b = f.below p (omega arith) in
      let c : times p (place ∷ []) ≡ 0 = grind (arith, nat_tests) in
      omega arith) in
      let kept = gave start journal st opening s h id v m (journal m) mine at live turn refl start_is grows counted below n (omega arith) in (
        w,
        gives,
        tt,
        kept,
        (λ m' same.
            let machine : m ≡ m' = ap (λ (l : List (ℕ × X)). (get_or l 0 (0, m)).1) same in
            let told : Added start journal me after m = record {
              now = refl;
              owns = λ all. whole_owns start journal st opening _ kept id w (set_at s.views id v w at) all;
            } in
            subst (λ (x : X). Added start journal me after x) machine told),
      )

  pub may_add : (slots id : ℕ) (me : Me X (View S E)) (entry : E) (n : ℕ) → InHand start journal me (me.0.seen ++ entry ∷ []) → 0 < me.0.share → n ≡ 2 * length me.0.seen + 2
      → Allows Law slots id me 0 (λ _. n) (λ _. Adds start journal (step slots 0 n 0 none) me n)
  may_add slots id me entry n hand live next =
      subst (λ (c : List (ℕ × X)). let x : Me X (View S E) = (me.0, c) in Allows Law slots id x 0 (λ _. n) (λ _. Adds start journal (step slots 0 n 0 none) x n)) (sym hand.holds)
      (adds_entry slots id me.0 hand.machine entry n hand.turn hand.from_start hand.journal_is live next)

  -- the machine goes back as it was
  pub leaves_turn : (slots id : ℕ) (v : View S E) (m : X) (n : ℕ) → v.turn ≡ true → v.start ≡ Some (start m) → journal m ≡ v.seen → 0 < v.share → n ≡ 2 * length v.seen
      → (let me : Me X (View S E) = (v, (0, m) ∷ []) in Allows Law slots id me 0 (λ _. n) (λ _. Leaves (step slots 0 n 0 none) me n))
  leaves_turn slots id v m n turn from_start same live next s h count at fits =
      let w : View S E = record v { turn = false } in
      let f = h.fits id v at live in
      let start_is : start m ≡ st = cc (from_start, f.same_start) in
      let kept = gave start journal st opening s h id v m v.seen v.mine at live turn same start_is (prefix_self v.seen) (λ p. refl) f.below n next in (
        w,
        gives,
        tt,
        kept,
        record { now = refl; owns = λ all. whole_owns start journal st opening _ kept id w (set_at s.views id v w at) all },
      )

  pub may_leave : (slots id : ℕ) (me : Me X (View S E)) (n : ℕ) → InHand start journal me me.0.seen → 0 < me.0.share → n ≡ 2 * length me.0.seen
      → Allows Law slots id me 0 (λ _. n) (λ _. Leaves (step slots 0 n 0 none) me n)
  may_leave slots id me n hand live next =
      subst (λ (c : List (ℕ × X)). let x : Me X (View S E) = (me.0, c) in Allows Law slots id x 0 (λ _. n) (λ _. Leaves (step slots 0 n 0 none) x n)) (sym hand.holds)
      (leaves_turn slots id me.0 hand.machine n hand.turn hand.from_start hand.journal_is live next)

  -- a load tells what always holds
  pub may_load : (slots id : ℕ) (me : Me X (View S E)) → 0 < me.0.share → Allows Law slots id me 0 (λ n. n) (Bounds (step slots 0 0 0 none) me)
  may_load slots id me live s h count at fits =
      let v : View S E = me.0 in
      let all = h.shares in
      let has = total_has (λ (u : View S E). u.share) s.views id v at in (
        v,
        keeps,
        tt,
        still start journal st opening s h id v (get_or s.words 0 0) at refl,
        record { now = refl; share = omega arith; hears = (h.fits id v at live).hears; owns = λ whole. whole_owns start journal st opening s h id v at whole },
      )

  pub may_split : (id : ℕ) (v : View S E) → 1 < v.share → Splits Law id v (kept_half v) (given_half v)
  may_split id v two s h at = splits start journal st opening s h id v at two

  pub may_join : (id : ℕ) (v : View S E) (other : ℕ) (w : View S E) → 0 < v.share → 0 < w.share → v.turn ≡ false → w.turn ≡ false → Joins Law id v other w (both_views v w) spent_view
  may_join id v other w live live_other idle idle_other s h at apart there = joins start journal st opening s h id v other w at apart there live live_other idle idle_other

  pub may_open : (m : X) (n : ℕ) → journal m ≡ opening → start m ≡ st → n ≡ 2 * length opening → Law (table_opening (n ∷ []) (m ∷ []) (first_view st opening))
  may_open m n journal_is start_is next = opens start journal st opening m n journal_is start_is next

  pub at_end : (id : ℕ) (v : View S E) (words : List ℕ) (slots : List X) → v.share ≡ 4294967296 → v.turn ≡ false → Final (Seen Law id v) words slots → Ends start journal st opening v slots
  at_end id v words slots whole idle final = let seen = final.1 in ends start journal st opening final.0 seen.0 id v slots seen.1 whole idle final.4

-- what the one with the whole share takes out of the slot
pub closed_with : {X S E : Type 0} (start : X → S) (journal : X → List E) (first : X) (id : ℕ) (v : View S E) (words : List ℕ) (slots : List X) → v.share ≡ 4294967296 → v.turn ≡ false
    → Final (Seen (Kept start journal (start first) (journal first)) id v) words slots → (machine : X) → get_elem? slots 0 ≡ some machine → Closed start journal first v machine
closed_with start journal first id v words slots whole idle final machine there =
    let e = at_end start journal (start first) (journal first) id v words slots whole idle final in
    let same : e.machine ≡ machine = some-injective e.machine machine (sym e.there ∙ there) in
    let told : Closed start journal first v e.machine = record {
      start_is = e.start_is;
      from_start = e.from_start ∙ ap Some (sym e.start_is);
      journal_is = e.journal_is;
      begun = subst (λ l. IsPrefix (journal first) l) (sym e.journal_is) e.begun;
      first_is = e.first_is;
      owns = e.owns;
    } in
    subst (λ m. Closed start journal first v m) same told

-- a turn in which the machine was stepped once
pub acted : {X S E : Type 0} (start : X → S) (journal : X → List E) (may : S → List E → Type 0) (entry : E) (place word : ℕ) (me taken stepped after : Me X (View S E)) (hand : View S E)
    → Took start journal me word taken → hand ≡ taken.0 → stepped.0 ≡ hand → place ≡ length hand.seen → InHand start journal stepped (hand.seen ++ entry ∷ [])
    → ((m : X) → stepped.1 ≡ (0, m) ∷ [] → Added start journal stepped after m) → ((s : S) → hand.start ≡ Some s → may s hand.seen) → Acted may entry place me.0 after.0
acted {X} {S} {E} start journal may entry place word me taken stepped after hand t hand_is stepped_is place_is done added may_be =
    let view : hand ≡ record (me.0) { seen = journal t.machine; turn = true } = hand_is ∙ ap (λ (x : Me X (View S E)). x.0) t.now in
    let seen : hand.seen ≡ journal t.machine = ap (λ (v : View S E). v.seen) view in
    let a = added done.machine done.holds in
    let next : after.0 ≡ record (stepped.0) { seen = journal done.machine; mine = stepped.0.mine ++ length stepped.0.seen ∷ []; turn = false } = ap (λ (x : Me X (View S E)). x.0) a.now in
    let share : stepped.0.share ≡ me.0.share = ap (λ (v : View S E). v.share) (stepped_is ∙ view) in record {
      start = start t.machine;
      front = hand.seen;
      begins = subst (λ (l : List E). IsPrefix me.0.seen l) (sym seen) t.prefix;
      seen = ap (λ (v : View S E). v.seen) next ∙ done.journal_is;
      here = place_is;
      may_be = may_be (start t.machine) (ap (λ (v : View S E). v.start) view ∙ t.same_start);
      from_start = t.same_start;
      mine = cc (ap (λ (v : View S E). v.mine) next, ap (λ (v : View S E). v.mine) (stepped_is ∙ view), ap (λ (v : View S E). v.seen) stepped_is, place_is);
      same = record {
        share = ap (λ (v : View S E). v.share) next ∙ share;
        start = ap (λ (v : View S E). v.start) next ∙ ap (λ (v : View S E). v.start) (stepped_is ∙ view);
        opened = ap (λ (v : View S E). v.opened) next ∙ ap (λ (v : View S E). v.opened) (stepped_is ∙ view);
      };
      alone = λ whole. seen ∙ t.whole whole;
      owns = λ whole. a.owns (share ∙ whole);
    }
