-- The members of an object, and the fields of a command.
use Rattle.std.proofs.Common.{◌≡◌, ℕ, ◌+◌, ◌<◌, ◌≤◌, List, [], ◌∷◌, Bool, true, false, ◌&&◌, length, get_or, drop, map, refl, sym, ap, ◌∙◌, Some, String, Global, string_bytes}
use Rattle.std.specs.Prelude.{Option, None, is_some, ◌==◌, if◌then◌else◌}
use Rattle.std.specs.Option.{option_map_or}
use Rattle.std.specs.Str.{bytes_eq}
use Rattle.std.proofs.lemmas.List.{drop_more, drop_all}
use Rattle.std.proofs.lemmas.Str.Pattern.{split_once_first}
use Rattle.serde_json.specs.Data.{Data}
use Rattle.serde_json.specs.Find.{as_object}
use Rattle.serde_json.specs.View.{view, members_view}
use Rattle.serde_json.specs.declared.value.Value.{Value}
use Rattle.ccr_script.specs.declared.fields.Field.{Field}
use Rattle.ccr_script.specs.Grammar.{name_of, kind_of, fields_of, first_named, first_byte, op_named}
use Rattle.ccr_script.specs.Kinds.{is_of_kind}
use Rattle.ccr_script.specs.declared.settings.Setting.{Setting}
use Rattle.ccr_script.specs.declared.grammar.Op.{Op}
use Rattle.ccr_script.specs.declared.grammar.Op.TheVariants as op
use Rattle.ccr_script.specs.Settings.{line_of, value_of, is_one_of, members_known, are_members_known}
use Rattle.ccr_script.specs.Checking.{fits_one, members_fit, all_members_fit}

-- the members of a value that is an object
pub members_of_object : (needed allowed : List Field) (es : List (String Global × Value)) (d : Data) → Some (members_view es) ≡ as_object d
    → members_fit needed allowed (members_view es) ≡ all_members_fit needed allowed d
members_of_object needed allowed es d e = ap (λ o. option_map_or (members_fit needed allowed) o false) e

-- the first of the fields that are left
pub fits_next : (name : List ℕ) (d : Data) (all : Bool) (xs : List Field) (i : ℕ) (x : Field) → all ≡ fits_one (drop i xs) name d → i < length xs → x ≡ get_or xs i x
    → bytes_eq name (name_of x) ≡ false → all ≡ fits_one (drop (i + 1) xs) name d
fits_next name d all xs i x e h is other = e ∙ ap (λ ys. fits_one ys name d) (drop_more xs i x h ∙ ap (λ y. y ∷ drop (i + 1) xs) (sym is)) ∙ rw other refl

pub fits_here : (name : List ℕ) (d : Data) (all : Bool) (xs : List Field) (i : ℕ) (x : Field) → all ≡ fits_one (drop i xs) name d → i < length xs → x ≡ get_or xs i x
    → bytes_eq name (name_of x) ≡ true → all ≡ is_of_kind (kind_of x) d
fits_here name d all xs i x e h is same = e ∙ ap (λ ys. fits_one ys name d) (drop_more xs i x h ∙ ap (λ y. y ∷ drop (i + 1) xs) (sym is)) ∙ rw same refl

pub fits_none : (name : List ℕ) (d : Data) (all : Bool) (xs : List Field) (i : ℕ) → all ≡ fits_one (drop i xs) name d → length xs ≤ i → all ≡ false
fits_none name d all xs i e h = e ∙ ap (λ ys. fits_one ys name d) (drop_all i xs h)

-- the first of the commands that are left
pub op_next : (name : List ℕ) (all : Option Op) (xs : List Op) (i : ℕ) (x : Op) → all ≡ first_named name (drop i xs) → i < length xs → x ≡ get_or xs i x
    → bytes_eq name (fields_of x).name ≡ false → all ≡ first_named name (drop (i + 1) xs)
op_next name all xs i x e h is other = e ∙ ap (first_named name) (drop_more xs i x h ∙ ap (λ y. y ∷ drop (i + 1) xs) (sym is)) ∙ rw other refl

pub op_here : (name : List ℕ) (all : Option Op) (xs : List Op) (i : ℕ) (x : Op) → all ≡ first_named name (drop i xs) → i < length xs → x ≡ get_or xs i x
    → bytes_eq name (fields_of x).name ≡ true → all ≡ Some x
op_here name all xs i x e h is same = e ∙ ap (first_named name) (drop_more xs i x h ∙ ap (λ y. y ∷ drop (i + 1) xs) (sym is)) ∙ rw same refl

pub op_none : (name : List ℕ) (all : Option Op) (xs : List Op) (i : ℕ) → all ≡ first_named name (drop i xs) → length xs ≤ i → all ≡ None
op_none name all xs i e h = e ∙ ap (first_named name) (drop_all i xs h)

-- the first of the settings that are left
pub setting_next : (name : List ℕ) (d : Data) (all : Bool) (xs : List Setting) (i : ℕ) (x : Setting) → all ≡ is_one_of (drop i xs) name d → i < length xs → x ≡ get_or xs i x
    → bytes_eq name (line_of x).name ≡ false → all ≡ is_one_of (drop (i + 1) xs) name d
setting_next name d all xs i x e h is other = e ∙ ap (λ ys. is_one_of ys name d) (drop_more xs i x h ∙ ap (λ y. y ∷ drop (i + 1) xs) (sym is)) ∙ rw other refl

pub setting_here : (name : List ℕ) (d : Data) (all : Bool) (xs : List Setting) (i : ℕ) (x : Setting) → all ≡ is_one_of (drop i xs) name d → i < length xs → x ≡ get_or xs i x
    → bytes_eq name (line_of x).name ≡ true → all ≡ is_some (value_of x d)
setting_here name d all xs i x e h is same = e ∙ ap (λ ys. is_one_of ys name d) (drop_more xs i x h ∙ ap (λ y. y ∷ drop (i + 1) xs) (sym is)) ∙ rw same refl

pub setting_none : (name : List ℕ) (d : Data) (all : Bool) (xs : List Setting) (i : ℕ) → all ≡ is_one_of (drop i xs) name d → length xs ≤ i → all ≡ false
setting_none name d all xs i e h = e ∙ ap (λ ys. is_one_of ys name d) (drop_all i xs h)

-- the settings of a value that is an object
pub settings_of_object : (settings : List Setting) (truths : Bool) (es : List (String Global × Value)) (d : Data) → Some (members_view es) ≡ as_object d
    → members_known settings truths (members_view es) ≡ are_members_known settings truths d
settings_of_object settings truths es d e = ap (λ o. option_map_or (members_known settings truths) o false) e

-- the commands of a first letter
cut : (text name : List ℕ) → (first_byte text == first_byte name) ≡ false → bytes_eq text name ≡ false
cut [] [] e = cc
cut [] (y ∷ ys) e = refl
cut (x ∷ xs) [] e = refl
cut (x ∷ xs) (y ∷ ys) e = rw e refl

abbrev pub with_letter : ℕ → List Op → List Op
with_letter b [] = []
with_letter b (o ∷ os) = if b == first_byte (fields_of o).name then o ∷ with_letter b os else with_letter b os

letter_step : (b : Bool) (text : List ℕ) (o : Op) (os rest : List Op) → (first_byte text == first_byte (fields_of o).name) ≡ b → first_named text rest ≡ first_named text os
    → first_named text (if b then o ∷ rest else rest) ≡ first_named text (o ∷ os)
letter_step true text o os rest e more = ap (λ r. if bytes_eq text (fields_of o).name then Some o else r) more
letter_step false text o os rest e more = more ∙ sym (ap (λ b. if b then Some o else first_named text os) (cut text (fields_of o).name e))

letter_alone : (text : List ℕ) (os : List Op) → first_named text (with_letter (first_byte text) os) ≡ first_named text os
letter_alone text [] = refl
letter_alone text (o ∷ os) = letter_step (first_byte text == first_byte (fields_of o).name) text o os (with_letter (first_byte text) os) refl (letter_alone text os)

abbrev pub all_ops : List Op
all_ops = op.Cluster ∷ op.Create ∷ op.Follow ∷ op.Pause ∷ op.Resume ∷ op.Unfollow ∷ op.AutoPut ∷ op.AutoDelete ∷ op.Write ∷ op.Delete ∷ op.Search ∷ op.Status ∷ op.Settle ∷ op.Clock ∷ op.Replicate ∷ op.Ack ∷ op.Sync ∷ op.Promote ∷ op.Resync ∷ op.FailCopy ∷ op.ForcePromote ∷ op.Flush ∷ op.Merge ∷ op.AddCopy ∷ op.Deliver ∷ op.Drop ∷ op.Wake ∷ op.Lose ∷ op.LoseWrite ∷ op.Written ∷ op.Apply ∷ op.Renew ∷ op.Restart ∷ []

-- it is enough to go through those of the first letter
pub by_letter : (b : ℕ) (text : List ℕ) → first_byte text ≡ b → first_named text (with_letter b all_ops) ≡ op_named text
unfolding op_named
by_letter b text e = ap (λ x. first_named text (with_letter x all_ops)) (sym e) ∙ letter_alone text all_ops

pub ruleset member_rules = (members_of_object, settings_of_object, split_once_first, fits_next, fits_here, fits_none)

pub ruleset op_rules = (op_next, op_here, op_none)

pub ruleset setting_rules = (setting_next, setting_here, setting_none)
