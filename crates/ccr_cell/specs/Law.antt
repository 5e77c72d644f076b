-- The rule that a cell keeps between any two steps, and what its steps tell.
use Rattle.std.specs.Prelude.{◌≡◌, ◌==◌, ℕ, ◌+◌, ◌-◌, ◌*◌, ◌<◌, ◌≤◌, true, false, List, [], ◌∷◌, ◌++◌, length, MatchBool, Some, None}
use mathlib.Core.Option.{some, none}
use mathlib.Core.List.{IsPrefix}
use lib.ListN.{get_elem?}
use Rattle.atomic_table.specs.Table.{State, Me, Step}
use Rattle.ccr_cell.specs.declared.view.View.{View}
use Rattle.ccr_cell.specs.Counts.{times, total, once_between, longer, shorter}

module _ {S E : Type 0} where
  -- what the first pass knows of a machine with this start and journal
  abbrev pub first_view : S → List E → View S E
  first_view st log = record { seen = log; heard = []; mine = []; share = 4294967296; turn = false; start = Some st; opened = length log }

  -- what a pass is left with that was joined into another
  abbrev pub spent_view : View S E
  spent_view = record { seen = []; heard = []; mine = []; share = 0; turn = false; start = None; opened = 0 }

  abbrev pub kept_half : View S E → View S E
  kept_half v = record v { share = v.share - 1 }

  -- the new pass has seen what the old one has, and has made no calls
  abbrev pub given_half : View S E → View S E
  given_half v = record v { heard = []; mine = []; share = 1; turn = false }

  abbrev pub both_views : View S E → View S E → View S E
  both_views v w = record v { seen = longer v.seen w.seen; heard = shorter v.seen w.seen; mine = v.mine ++ w.mine; share = v.share + w.share }

  -- each entry after the first journal is one of the view's own calls, once
  abbrev pub Owns : View S E → Type 0
  Owns v = (p : ℕ) → times p v.mine ≡ once_between v.opened (length v.seen) p

  -- there is no other pass
  abbrev pub IsWhole : View S E → Type 0
  IsWhole v = v.share ≡ 4294967296

  -- the view fits this journal, of a machine with this start that had `opening` when the cell was made
  pub record Fits (st : S) (opening log : List E) (v : View S E) : Type 0 where
    pub prefix : IsPrefix v.seen log
    pub hears : IsPrefix v.heard v.seen
    pub same_start : v.start ≡ Some st
    pub same_first : v.opened ≡ length opening
    pub below : (p : ℕ) → length v.seen ≤ p → times p v.mine ≡ 0

  -- a view that isn't spent has seen the whole journal
  pub record IsLatest (log : List E) (v : View S E) : Type 0 where
    pub live : 0 < v.share
    pub all : v.seen ≡ log

module _ {X S E : Type 0} (start : X → S) (journal : X → List E) where
  -- The word is twice the length of the journal `log`, and one more while the view `holder` has the machine in hand.
  -- Else the machine is at home and has that journal. Each view has seen a beginning of it, and some view all of it.
  -- The shares add up to the whole, and each place after the opening stands once among all views' own calls.
  pub record Kept (st : S) (opening : List E) (s : State X (View S E)) : Type 0 where
    pub log : List E
    pub held : ℕ
    pub holder : ℕ
    pub longest : ℕ
    pub bit : held < 2
    pub words : s.words ≡ (2 * length log + held) ∷ []
    pub rests : held ≡ 0 → (m : X) × (s.homes ≡ some m ∷ []) × (journal m ≡ log) × (start m ≡ st)
    pub out : held ≡ 1 → (s.homes ≡ none ∷ []) × ((v : View S E) × (get_elem? s.views holder ≡ some v) × (v.turn ≡ true))
    pub turns : (i : ℕ) (v : View S E) → get_elem? s.views i ≡ some v → v.turn ≡ true → (held ≡ 1) × (i ≡ holder) × (v.seen ≡ log)
    pub fits : (i : ℕ) (v : View S E) → get_elem? s.views i ≡ some v → 0 < v.share → Fits st opening log v
    pub spent : (i : ℕ) (v : View S E) → get_elem? s.views i ≡ some v → v.share ≡ 0 → (v.mine ≡ []) × (v.turn ≡ false)
    pub knows : (v : View S E) × (get_elem? s.views longest ≡ some v) × IsLatest log v
    pub begun : IsPrefix opening log
    pub shares : total (λ v. v.share) s.views ≡ 4294967296
    pub places : (p : ℕ) → total (λ v. times p v.mine) s.views ≡ once_between (length opening) (length log) p

  -- the machine was taken in hand, and its journal seen
  pub record Took (me : Me X (View S E)) (found : ℕ) (after : Me X (View S E)) : Type 0 where
    pub machine : X
    pub now : after ≡ (record (me.0) { seen = journal machine; turn = true }, (0, machine) ∷ [])
    pub prefix : IsPrefix me.0.seen (journal machine)
    pub same_start : me.0.start ≡ Some (start machine)
    pub length_found : found ≡ 2 * length (journal machine)
    pub whole : IsWhole me.0 → journal machine ≡ me.0.seen

  -- a step that asks for the machine takes it, or finds another word and changes nothing
  abbrev pub Takes : Step X → Me X (View S E) → ℕ → Me X (View S E) → Type 0
  Takes st me found after = MatchBool (found == st.first) (Took me found after) (after ≡ me)

  -- the machine goes back with one entry more, whose place is one of the view's own calls
  pub record Added (me after : Me X (View S E)) (m : X) : Type 0 where
    pub now : after ≡ (record (me.0) { seen = journal m; mine = me.0.mine ++ length me.0.seen ∷ []; turn = false }, [])
    pub owns : IsWhole me.0 → Owns after.0

  abbrev pub Adds : Step X → Me X (View S E) → ℕ → Me X (View S E) → Type 0
  Adds st me found after = (m : X) → me.1 ≡ (0, m) ∷ [] → Added me after m

module _ {X S E : Type 0} where
  -- the machine goes back as it was
  pub record Left (me after : Me X (View S E)) : Type 0 where
    pub now : after ≡ (record (me.0) { turn = false }, [])
    pub owns : IsWhole me.0 → Owns after.0

  abbrev pub Leaves : Step X → Me X (View S E) → ℕ → Me X (View S E) → Type 0
  Leaves st me found after = Left me after

  -- nothing changes
  pub record Bounded (me after : Me X (View S E)) : Type 0 where
    pub now : after ≡ me
    pub share : me.0.share ≤ 4294967296
    pub hears : IsPrefix me.0.heard me.0.seen
    pub owns : IsWhole me.0 → Owns me.0

  abbrev pub Bounds : Step X → Me X (View S E) → ℕ → Me X (View S E) → Type 0
  Bounds st me found after = Bounded me after
