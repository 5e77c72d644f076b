-- What each kind of step makes of the rule of a cell.
use Rattle.std.proofs.Common.{◌≡◌, ◌≢◌, ◌*◌, ◌-◌, ℕ, zero, suc, ◌+◌, ◌<◌, ◌≤◌, true, false, List, [], ◌∷◌, ◌++◌, length, set, get_or, refl, sym, ap, subst, ◌∙◌, ⊎_elim, arith, Some}
use mathlib.Core.Option.{Option, some, none, some-injective, some-ne-none}
use mathlib.Core.List.{IsPrefix}
use mathlib.Core.Logic.{dite}
use native.Mathlib.Decide.{ℕ_discrete}
use lib.ListN.{get_elem?}
use Rattle.atomic_table.specs.Table.{State}
use Rattle.atomic_table.proofs.Lists.{at_snoc, set_else, set_again, at_longer}
use Rattle.ccr_cell.specs.declared.view.View.{View}
use Rattle.ccr_cell.specs.Counts.{times, total, once_between}
use Rattle.ccr_cell.specs.Law.{first_view, spent_view, kept_half, given_half, both_views, Owns, Fits, IsLatest, Kept}
use Rattle.ccr_cell.proofs.Sums.{times_append, once_none, total_set, total_snoc, total_rest, total_only, set_at, each_set, each_snoc}
use Rattle.ccr_cell.proofs.Fronts.{prefix_self, prefix_trans, prefix_length, longer_both}

module _ {X S E : Type 0} (start : X → S) (journal : X → List E) (st : S) (opening : List E) where
  abbrev pub Rule : State X (View S E) → Type 0
  Rule = Kept start journal st opening

  -- the machine at home, with its journal
  pub record AtHome (log : List E) (homes : List (Option X)) : Type 0 where
    pub machine : X
    pub here : get_elem? homes 0 ≡ some (some machine)
    pub journal_is : journal machine ≡ log
    pub start_is : start machine ≡ st

  at_home : (s : State X (View S E)) (h : Rule s) → h.held ≡ 0 → AtHome h.log s.homes
  at_home s h e = let r = h.rests e in record { machine = r.0; here = ap (λ (l : List (Option X)). get_elem? l 0) r.1; journal_is = r.2; start_is = r.3 }

  -- the one who has the whole share is the one who knows the journal
  pub whole_seen : (s : State X (View S E)) (h : Rule s) (id : ℕ) (v : View S E) → get_elem? s.views id ≡ some v → v.share ≡ 4294967296 → v.seen ≡ h.log
  whole_seen s h id v at whole =
      let k = h.knows in
      let u : View S E = k.0 in
      let there : get_elem? s.views h.longest ≡ some u = k.1 in
      let latest : IsLatest h.log u = k.2 in
      let all = h.shares in
      dite (ℕ_discrete h.longest id)
      (λ e.
      let same : some u ≡ some v = sym there ∙ (ap (λ (i : ℕ). get_elem? s.views i) e ∙ at) in
      let eq : u ≡ v = some-injective u v same in
      subst (λ (x : View S E). x.seen ≡ h.log) eq latest.all)
      (λ ne.
      let none_left : u.share ≡ 0 = total_rest (λ (x : View S E). x.share) s.views id v at (omega arith) h.longest u there ne in
      let live = latest.live in
      absurd (omega arith))

  -- nobody else has a share, so each place is one of its own calls
  pub whole_owns : (s : State X (View S E)) (h : Rule s) (id : ℕ) (v : View S E) → get_elem? s.views id ≡ some v → v.share ≡ 4294967296 → Owns v
  whole_owns s h id v at whole p =
      let all = h.shares in
      let live : 0 < v.share = omega arith in
      let rest : (j : ℕ) (u : View S E) → get_elem? s.views j ≡ some u → j ≢ id → times p u.mine ≡ 0 = λ j u there ne.
      ap (times p) (h.spent j u there (total_rest (λ (x : View S E). x.share) s.views id v at (omega arith) j u there ne)).0 in
      let only = total_only (λ (x : View S E). times p x.mine) s.views id v at rest in
      let f = h.fits id v at live in
      sym only ∙ (h.places p ∙ (ap (λ (n : ℕ). once_between n (length h.log) p) (sym f.same_first) ∙ ap (λ (l : List E). once_between v.opened (length l) p) (sym (whole_seen s h id v at whole))))

  -- the view takes the machine in hand
  pub took : (s : State X (View S E)) (h : Rule s) (id : ℕ) (v : View S E) (m : X) → get_elem? s.views id ≡ some v → 0 < v.share → h.held ≡ 0
      → s.homes ≡ some m ∷ [] → journal m ≡ h.log
      → (n : ℕ) → n ≡ 2 * length h.log + 1
      → Rule record { words = set s.words 0 n; homes = set s.homes 0 none; views = set s.views id (record v { seen = journal m; turn = true }) }
  took s h id v m at live home homes same n next =
      let w : View S E = record v { seen = journal m; turn = true } in
      let f = h.fits id v at live in record {
        log = h.log;
        held = 1;
        holder = id;
        longest = id;
        bit = omega arith;
        words = ap (λ (l : List ℕ). set l 0 n) h.words ∙ ap (λ (k : ℕ). k ∷ []) next;
        rests = λ e. absurd (omega arith);
        out = λ _. (ap (λ (l : List (Option X)). set l 0 none) homes, (w, set_at s.views id v w at, refl));
        turns = each_set (λ i u. u.turn ≡ true → (1 ≡ 1) × (i ≡ id) × (u.seen ≡ h.log)) s.views id w (λ _. (refl, refl, same))
            (λ j u other there turn. let was = (h.turns j u there turn).0 in absurd (omega arith));
        fits = each_set (λ _ u. 0 < u.share → Fits st opening h.log u) s.views id w
            (λ _. record {
              prefix = subst (λ (l : List E). IsPrefix l h.log) (sym same) (prefix_self h.log);
              hears = subst (λ (l : List E). IsPrefix v.heard l) (sym same) (prefix_trans v.heard v.seen h.log f.hears f.prefix);
              same_start = f.same_start;
              same_first = f.same_first;
              below = λ p le. f.below p (let a = prefix_length v.seen h.log f.prefix in let b = ap length same in omega arith);
            })
            (λ j u other there. h.fits j u there);
        spent = each_set (λ _ u. u.share ≡ 0 → (u.mine ≡ []) × (u.turn ≡ false)) s.views id w (λ e. absurd (omega arith)) (λ j u other there. h.spent j u there);
        knows = (w, set_at s.views id v w at, record { live = live; all = same });
        begun = h.begun;
        shares = let t = total_set (λ (u : View S E). u.share) s.views id v w at in let old = h.shares in omega arith;
        places = λ p. let t = total_set (λ (u : View S E). times p u.mine) s.views id v w at in let old = h.places p in omega arith;
      }

  -- the view gives the machine back, with the journal `seen`
  pub gave : (s : State X (View S E)) (h : Rule s) (id : ℕ) (v : View S E) (m : X) (seen : List E) (mine : List ℕ) → get_elem? s.views id ≡ some v → 0 < v.share → v.turn ≡ true
      → journal m ≡ seen → start m ≡ st → IsPrefix v.seen seen
      → ((p : ℕ) → times p mine + once_between (length opening) (length v.seen) p ≡ times p v.mine + once_between (length opening) (length seen) p)
      → ((p : ℕ) → length seen ≤ p → times p mine ≡ 0)
      → (n : ℕ) → n ≡ 2 * length seen
      → Rule record { words = set s.words 0 n; homes = set s.homes 0 (some m); views = set s.views id (record v { seen = seen; mine = mine; turn = false }) }
  gave s h id v m seen mine at live turn journal_is start_is grows counted below n next =
      let w : View S E = record v { seen = seen; mine = mine; turn = false } in
      let t = h.turns id v at turn in
      let log_is : v.seen ≡ h.log = t.2 in
      let f = h.fits id v at live in
      let longer_log : IsPrefix h.log seen = subst (λ (l : List E). IsPrefix l seen) log_is grows in record {
        log = seen;
        held = 0;
        holder = 0;
        longest = id;
        bit = omega arith;
        words = ap (λ (l : List ℕ). set l 0 n) h.words ∙ ap (λ (k : ℕ). k ∷ []) (let e : n ≡ 2 * length seen + 0 = omega arith in e);
        rests = λ _. (m, ap (λ (l : List (Option X)). set l 0 (some m)) (h.out t.0).0, journal_is, start_is);
        out = λ e. absurd (omega arith);
        turns = each_set (λ i u. u.turn ≡ true → (0 ≡ 1) × (i ≡ 0) × (u.seen ≡ seen)) s.views id w (λ e. absurd (cc (e)))
            (λ j u other there turned. let was = (h.turns j u there turned).1 in let mine_is = t.1 in absurd (other (omega arith)));
        fits = each_set (λ _ u. 0 < u.share → Fits st opening seen u) s.views id w
            (λ _. record {
              prefix = prefix_self seen;
              hears = prefix_trans v.heard v.seen seen f.hears grows;
              same_start = f.same_start;
              same_first = f.same_first;
              below = below;
            })
            (λ j u other there some_share. let g = h.fits j u there some_share in record {
              prefix = prefix_trans u.seen h.log seen g.prefix longer_log;
              hears = g.hears;
              same_start = g.same_start;
              same_first = g.same_first;
              below = g.below;
            });
        spent = each_set (λ _ u. u.share ≡ 0 → (u.mine ≡ []) × (u.turn ≡ false)) s.views id w (λ e. absurd (omega arith)) (λ j u other there. h.spent j u there);
        knows = (w, set_at s.views id v w at, record { live = live; all = refl });
        begun = prefix_trans opening h.log seen h.begun longer_log;
        shares = let t = total_set (λ (u : View S E). u.share) s.views id v w at in let old = h.shares in omega arith;
        places = λ p.
            let t = total_set (λ (u : View S E). times p u.mine) s.views id v w at in
            let old : total (λ (u : View S E). times p u.mine) s.views ≡ once_between (length opening) (length v.seen) p = h.places p ∙ ap (λ (l : List E). once_between (length opening) (length l) p) (sym log_is) in
            let c = counted p in omega arith;
      }

  -- one step that changes nothing
  pub still : (s : State X (View S E)) (h : Rule s) (id : ℕ) (v : View S E) (n : ℕ) → get_elem? s.views id ≡ some v → get_or s.words 0 0 ≡ n
      → Rule record { words = set s.words 0 n; homes = s.homes; views = set s.views id v }
  still s h id v n at found =
      let c : ℕ = 2 * length h.log + h.held in
      let n_is : n ≡ c = sym found ∙ ap (λ (l : List ℕ). get_or l 0 0) h.words in
      let words_are : set s.words 0 n ≡ s.words = (ap (λ (l : List ℕ). set l 0 n) h.words ∙ ap (λ (k : ℕ). k ∷ []) n_is) ∙ sym h.words in
      let views_are : set s.views id v ≡ s.views = set_again s.views id v at in
      let one : Rule record { words = s.words; homes = s.homes; views = set s.views id v } = subst (λ (vs : List (View S E)). Rule record { words = s.words; homes = s.homes; views = vs }) (sym views_are) h in
      subst (λ (ws : List ℕ). Rule record { words = ws; homes = s.homes; views = set s.views id v }) (sym words_are) one

  -- a view with the property stays findable after one changes, if the change keeps the property
  pub record Findable (Q : View S E → Type 0) (views : List (View S E)) (k : ℕ) : Type 0 where
    pub found : View S E
    pub there : get_elem? views k ≡ some found
    pub has : Q found

  some_set : (Q : View S E → Type 0) (views : List (View S E)) (i : ℕ) (v w : View S E) → get_elem? views i ≡ some v → (Q v → Q w) → (k : ℕ) → Findable Q views k → Findable Q (set views i w) k
  some_set Q views i v w at up k f =
      dite (ℕ_discrete k i)
      (λ e.
      let same : some f.found ≡ some v = sym f.there ∙ (ap (λ (j : ℕ). get_elem? views j) e ∙ at) in
      let eq : f.found ≡ v = some-injective f.found v same in record {
        found = w;
        there = ap (λ (j : ℕ). get_elem? (set views i w) j) e ∙ set_at views i v w at;
        has = up (subst Q eq f.has);
      })
      (λ ne. record { found = f.found; there = set_else views i k w ne ∙ f.there; has = f.has })

  some_snoc : (Q : View S E → Type 0) (views : List (View S E)) (w : View S E) (k : ℕ) → Findable Q views k → Findable Q (views ++ w ∷ []) k
  some_snoc Q views w k f = record { found = f.found; there = at_longer views (w ∷ []) k f.found f.there; has = f.has }

  abbrev HasTurn : View S E → Type 0
  HasTurn u = u.turn ≡ true

  holder_of : (s : State X (View S E)) (h : Rule s) → h.held ≡ 1 → Findable HasTurn s.views h.holder
  holder_of s h e = let o = (h.out e).1 in record { found = o.0; there = o.1; has = o.2 }

  longest_of : (s : State X (View S E)) (h : Rule s) → Findable (IsLatest h.log) s.views h.longest
  longest_of s h = let k = h.knows in record { found = k.0; there = k.1; has = k.2 }

  -- a part of the share goes to a new view
  pub splits : (s : State X (View S E)) (h : Rule s) (id : ℕ) (v : View S E) → get_elem? s.views id ≡ some v → 1 < v.share
      → Rule record { words = s.words; homes = s.homes; views = set s.views id (kept_half v) ++ given_half v ∷ [] }
  splits s h id v at two =
      let left : View S E = kept_half v in
      let right : View S E = given_half v in
      let views : List (View S E) = set s.views id left in
      let live : 0 < v.share = omega arith in
      let f = h.fits id v at live in
      let longest = some_snoc (IsLatest h.log) views right h.longest
      (some_set (IsLatest h.log) s.views id v left at (λ l. record { live = (let e : 0 < v.share - 1 = omega arith in e); all = l.all }) h.longest (longest_of s h)) in record {
        log = h.log;
        held = h.held;
        holder = h.holder;
        longest = h.longest;
        bit = h.bit;
        words = h.words;
        rests = h.rests;
        out = λ e. let k = some_snoc HasTurn views right h.holder (some_set HasTurn s.views id v left at (λ t. t) h.holder (holder_of s h e)) in
            ((h.out e).0, (k.found, k.there, k.has));
        turns = λ i u there. (let Q : ℕ → View S E → Type 0 = λ i u. u.turn ≡ true → (h.held ≡ 1) × (i ≡ h.holder) × (u.seen ≡ h.log) in
            ⊎_elim (λ (t : get_elem? views i ≡ some u). each_set Q s.views id left (λ turn. h.turns id v at turn) (λ j x other at_j. h.turns j x at_j) i u t)
            (λ (t : right ≡ u). subst (λ (x : View S E). Q i x) t (λ turn. absurd (cc (turn)))) (at_snoc views right u i there));
        fits = λ i u there. each_snoc (λ u. 0 < u.share → Fits st opening h.log u) views right
            (λ _. record { prefix = f.prefix; hears = (v.seen, refl); same_start = f.same_start; same_first = f.same_first; below = λ p le. refl })
            (each_set (λ _ u. 0 < u.share → Fits st opening h.log u) s.views id left
            (λ _. record { prefix = f.prefix; hears = f.hears; same_start = f.same_start; same_first = f.same_first; below = f.below }) (λ j x other at_j. h.fits j x at_j)) i u there;
        spent = λ i u there. each_snoc (λ u. u.share ≡ 0 → (u.mine ≡ []) × (u.turn ≡ false)) views right (λ e. absurd (omega arith))
            (each_set (λ _ u. u.share ≡ 0 → (u.mine ≡ []) × (u.turn ≡ false)) s.views id left (λ e. absurd (omega arith)) (λ j x other at_j. h.spent j x at_j)) i u there;
        knows = (longest.found, longest.there, longest.has);
        begun = h.begun;
        shares =
            let a = total_set (λ (u : View S E). u.share) s.views id v left at in
            let b = total_snoc (λ (u : View S E). u.share) views right in
            let old = h.shares in omega arith;
        places = λ p.
            let a = total_set (λ (u : View S E). times p u.mine) s.views id v left at in
            let b = total_snoc (λ (u : View S E). times p u.mine) views right in
            let old = h.places p in omega arith;
      }

  -- the one that knows the journal, after a join
  pub record Known (log : List E) (views : List (View S E)) : Type 0 where
    pub place : ℕ
    pub there : Findable (IsLatest log) views place

  -- one view takes in another
  pub joins : (s : State X (View S E)) (h : Rule s) (id : ℕ) (v : View S E) (other : ℕ) (w : View S E) → get_elem? s.views id ≡ some v → other ≢ id
      → get_elem? (set s.views id (both_views v w)) other ≡ some w → 0 < v.share → 0 < w.share → v.turn ≡ false → w.turn ≡ false
      → Rule record { words = s.words; homes = s.homes; views = set (set s.views id (both_views v w)) other spent_view }
  joins s h id v other w at apart there live live_other idle idle_other =
      let both : View S E = both_views v w in
      let spent : View S E = spent_view in
      let views : List (View S E) = set s.views id both in
      let was : get_elem? s.views other ≡ some w = sym (set_else s.views id other both apart) ∙ there in
      let f = h.fits id v at live in
      let g = h.fits other w was live_other in
      let l = longer_both v.seen w.seen h.log f.prefix g.prefix in
      let both_live : 0 < both.share = let e : 0 < v.share + w.share = omega arith in e in
      let here : get_elem? (set views other spent) id ≡ some both = set_else views other id spent (λ e. apart (sym e)) ∙ set_at s.views id v both at in
      let known : Known h.log (set views other spent) =
      (let k = longest_of s h in
      dite (ℕ_discrete h.longest other)
      (λ e.
      let same : some k.found ≡ some w = sym k.there ∙ (ap (λ (j : ℕ). get_elem? s.views j) e ∙ was) in
      let eq : k.found ≡ w = some-injective k.found w same in
      let all : w.seen ≡ h.log = subst (λ (x : View S E). x.seen ≡ h.log) eq k.has.all in
      record { place = id; there = record { found = both; there = here; has = record { live = both_live; all = l.whole_other all } } })
      (λ ne.
      let one = some_set (IsLatest h.log) s.views id v both at (λ q. record { live = both_live; all = l.whole_one q.all }) h.longest k in
      record { place = h.longest; there = record { found = one.found; there = set_else views other h.longest spent ne ∙ one.there; has = one.has } })) in record {
        log = h.log;
        held = h.held;
        holder = h.holder;
        longest = known.place;
        bit = h.bit;
        words = h.words;
        rests = h.rests;
        out = λ e. let k = some_set HasTurn views other w spent there (λ t. absurd (cc (t, idle_other))) h.holder (some_set HasTurn s.views id v both at (λ t. t) h.holder (holder_of s h e)) in
            ((h.out e).0, (k.found, k.there, k.has));
        turns = let Q : ℕ → View S E → Type 0 = λ i u. u.turn ≡ true → (h.held ≡ 1) × (i ≡ h.holder) × (u.seen ≡ h.log) in
            each_set Q views other spent (λ turn. absurd (cc (turn)))
            (λ j u _ there_j. each_set Q s.views id both (λ turn. absurd (cc (turn, idle))) (λ i x _ at_i. h.turns i x at_i) j u there_j);
        fits = let Q : ℕ → View S E → Type 0 = λ _ u. 0 < u.share → Fits st opening h.log u in
            each_set Q views other spent (λ e. absurd (omega arith))
            (λ j u _ there_j. each_set Q s.views id both
            (λ _. record {
              prefix = l.prefix;
              hears = l.hears;
              same_start = f.same_start;
              same_first = f.same_first;
              below = λ p le.
                  let a = l.first in let b = l.second in
                  let x : times p v.mine ≡ 0 = f.below p (omega arith) in
                  let y : times p w.mine ≡ 0 = g.below p (omega arith) in
                  let sum = times_append p v.mine w.mine in omega arith;
            })
            (λ i x _ at_i. h.fits i x at_i) j u there_j);
        spent = let Q : ℕ → View S E → Type 0 = λ _ u. u.share ≡ 0 → (u.mine ≡ []) × (u.turn ≡ false) in
            each_set Q views other spent (λ _. (refl, refl))
            (λ j u _ there_j. each_set Q s.views id both (λ e. absurd (omega arith)) (λ i x _ at_i. h.spent i x at_i) j u there_j);
        knows = (known.there.found, known.there.there, known.there.has);
        begun = h.begun;
        shares =
            let a = total_set (λ (u : View S E). u.share) s.views id v both at in
            let b = total_set (λ (u : View S E). u.share) views other w spent there in
            let old = h.shares in omega arith;
        places = λ p.
            let a = total_set (λ (u : View S E). times p u.mine) s.views id v both at in
            let b = total_set (λ (u : View S E). times p u.mine) views other w spent there in
            let sum = times_append p v.mine w.mine in
            let old = h.places p in omega arith;
      }

  -- the rule as the cell is made
  pub opens : (m : X) (n : ℕ) → journal m ≡ opening → start m ≡ st → n ≡ 2 * length opening
      → Rule record { words = n ∷ []; homes = some m ∷ []; views = first_view st opening ∷ [] }
  opens m n journal_is start_is next =
      let v : View S E = first_view st opening in
      let one : (Q : ℕ → View S E → Type 0) → Q 0 v → (i : ℕ) (u : View S E) → get_elem? (v ∷ []) i ≡ some u → Q i u =
      λ Q q. each_set Q (v ∷ []) 0 v q (λ j u ne there. let none_there = there in dite (ℕ_discrete j 0) (λ e. absurd (ne e)) (λ _. absurd (no_other v j u ne there))) in record {
        log = opening;
        held = 0;
        holder = 0;
        longest = 0;
        bit = omega arith;
        words = ap (λ (k : ℕ). k ∷ []) (let e : n ≡ 2 * length opening + 0 = omega arith in e);
        rests = λ _. (m, refl, journal_is, start_is);
        out = λ e. absurd (omega arith);
        turns = one (λ i u. u.turn ≡ true → (0 ≡ 1) × (i ≡ 0) × (u.seen ≡ opening)) (λ turn. absurd (cc (turn)));
        fits = one (λ _ u. 0 < u.share → Fits st opening opening u)
            (λ _. record { prefix = prefix_self opening; hears = (opening, refl); same_start = refl; same_first = refl; below = λ p le. refl });
        spent = one (λ _ u. u.share ≡ 0 → (u.mine ≡ []) × (u.turn ≡ false)) (λ _. (refl, refl));
        knows = (v, refl, record { live = omega arith; all = refl });
        begun = prefix_self opening;
        shares = omega arith;
        places = λ p. let e = once_none (length opening) p in omega arith;
      }
    where
      no_other : (v : View S E) (j : ℕ) (u : View S E) → j ≢ 0 → get_elem? (v ∷ []) j ≡ some u → ⊥
      no_other v zero u ne there = ne refl
      no_other v (suc j) u ne there = some-ne-none u (sym there)

  -- what the one with the whole share finds at the end
  pub record Ends (v : View S E) (slots : List X) : Type 0 where
    pub machine : X
    pub there : get_elem? slots 0 ≡ some machine
    pub journal_is : journal machine ≡ v.seen
    pub start_is : start machine ≡ st
    pub from_start : v.start ≡ Some st
    pub first_is : v.opened ≡ length opening
    pub begun : IsPrefix opening v.seen
    pub owns : Owns v

  pub ends : (s : State X (View S E)) (h : Rule s) (id : ℕ) (v : View S E) (slots : List X) → get_elem? s.views id ≡ some v → v.share ≡ 4294967296 → v.turn ≡ false
      → ((k : ℕ) (y : X) → get_elem? s.homes k ≡ some (some y) → get_elem? slots k ≡ some y) → Ends v slots
  ends s h id v slots at whole idle homes =
      let all = h.shares in
      let bit = h.bit in
      let live : 0 < v.share = omega arith in
      let f = h.fits id v at live in
      let seen : v.seen ≡ h.log = whole_seen s h id v at whole in
      let home : h.held ≡ 0 = dite (ℕ_discrete h.held 1)
      (λ e.
      let o = holder_of s h e in
      let none_left : (h.holder ≢ id) → ⊥ = λ ne.
      (let nothing = (h.spent h.holder o.found o.there (total_rest (λ (x : View S E). x.share) s.views id v at (omega arith) h.holder o.found o.there ne)).1 in
      let turn : o.found.turn ≡ true = o.has in cc) in
      dite (ℕ_discrete h.holder id)
      (λ same.
      let eq : o.found ≡ v = some-injective o.found v (sym o.there ∙ (ap (λ (j : ℕ). get_elem? s.views j) same ∙ at)) in
      let turn : v.turn ≡ true = subst HasTurn eq o.has in absurd (cc (turn, idle)))
      (λ ne. absurd (none_left ne)))
      (λ ne. omega arith) in
      let r = at_home s h home in record {
        machine = r.machine;
        there = homes 0 r.machine r.here;
        journal_is = r.journal_is ∙ sym seen;
        start_is = r.start_is;
        from_start = f.same_start;
        first_is = f.same_first;
        begun = subst (λ (l : List E). IsPrefix opening l) (sym seen) h.begun;
        owns = whole_owns s h id v at whole;
      }
