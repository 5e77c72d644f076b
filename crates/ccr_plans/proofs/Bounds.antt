-- What the names promise of the worlds that their indices lie in.
use Rattle.std.proofs.Common.{◌≡◌, ℕ, zero, suc, ◌+◌, ◌-◌, ◌<◌, ◌≤◌, List, [], ◌∷◌, ◌++◌, refl, sym, ap, ◌∙◌, append_assoc, arith}
use Rattle.std.specs.Prelude.{All, flat_map}
use Rattle.std.specs.List.{AllByRecursion, range_with_len}
use Rattle.std.specs.Map.{values_of}
use Rattle.std.proofs.lemmas.List.Elements.{All-head, All-tail}
use Rattle.ccr_op.specs.declared.index_name.IndexName.{IndexName}
use Rattle.ccr_meta.specs.declared.index_meta.IndexMeta.{IndexMeta}
use Rattle.ccr_meta.specs.Names.{AreIn, IsIn, Names}
use Rattle.ccr_deeds.specs.declared.deeds.Deed.{Deed}
use Rattle.ccr_plans.specs.Clocks.{LieWithin64}

-- each index lies in these worlds
abbrev pub LieIn : ℕ → List (IndexName × IndexMeta) → Type 0
LieIn worlds indices = AllByRecursion (λ (at : IndexName × IndexMeta). at.1.first + at.1.shards ≤ worlds) indices

lies_in : (worlds more : ℕ) (x : IndexMeta) → worlds ≤ more → IsIn worlds x → x.first + x.shards ≤ more
lies_in worlds more x le h = let there : x.first + x.shards ≤ worlds = h.there in omega arith

lie_in : (worlds more : ℕ) (indices : List (IndexName × IndexMeta)) → worlds ≤ more → All (IsIn worlds) (values_of indices) → LieIn more indices
lie_in worlds more [] le all = tt
lie_in worlds more (at ∷ indices) le all =
    (lies_in worlds more at.1 le (All-head (IsIn worlds) at.1 (values_of indices) all), lie_in worlds more indices le (All-tail (IsIn worlds) at.1 (values_of indices) all))

pub indices_lie : (names : Names) → AreIn names → LieIn names.worlds names.indices
indices_lie names are = lie_in names.worlds names.worlds names.indices (omega arith) are.all

pub lie-within-64 : (names : Names) → AreIn names → LieWithin64 names.indices
lie-within-64 names are = lie_in names.worlds 64 names.indices are.worlds are.all

-- ---- the deeds of one more number

range-step : (a n : ℕ) → 0 < n → range_with_len a n ≡ a ∷ range_with_len (a + 1) (n - 1)
range-step a zero some = absurd (omega arith)
range-step a (suc n) some = ap (λ (m : ℕ). a ∷ range_with_len (a + 1) m) (omega arith)

range_more : (f : ℕ → List Deed) (done all : List Deed) (a n : ℕ) → 0 < n → done ++ flat_map f (range_with_len a n) ≡ all
    → (done ++ f a) ++ flat_map f (range_with_len (a + 1) (n - 1)) ≡ all
range_more f done all a n some h =
    append_assoc done (f a) (flat_map f (range_with_len (a + 1) (n - 1)))
    ∙ (ap (λ xs. done ++ flat_map f xs) (sym (range-step a n some)) ∙ h)

pub numbers-more : (f : ℕ → List Deed) (done all : List Deed) (a : ℕ) → a < 8 → done ++ flat_map f (range_with_len a (8 - a)) ≡ all
    → (done ++ f a) ++ flat_map f (range_with_len (a + 1) (8 - (a + 1))) ≡ all
numbers-more f done all a low h =
    let same : 8 - (a + 1) ≡ 8 - a - 1 = omega arith in
    ap (λ (n : ℕ). (done ++ f a) ++ flat_map f (range_with_len (a + 1) n)) same ∙ range_more f done all a (8 - a) (omega arith) h

pub ruleset numbers = (numbers-more, lie-within-64)
