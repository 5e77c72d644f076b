-- What is read of the worlds of an index, and worlds that are made.
use Rattle.std.proofs.Common.{◌≡◌, ℕ, zero, suc, ◌+◌, ◌<◌, List, [], ◌∷◌, ◌++◌, length, map, take, drop, refl, ap, sym, subst, ◌∙◌, arith, add-one, append_assoc, append-nil}
use Rattle.std.specs.Prelude.{Option, Some, None, unwrap_or}
use Rattle.std.specs.Option.{option_and_then}
use Rattle.ccr_op.specs.declared.index_name.IndexName.{IndexName}
use Rattle.ccr_meta.specs.declared.index_meta.IndexMeta.{IndexMeta}
use Rattle.ccr_meta.specs.Names.{AreIn, IsIn, Names, index_at}
use Rattle.ccr_meta.proofs.Limits.{IsIn-at}
use Rattle.ccr_model.specs.Leaders.{Start}
use Rattle.ccr_model.specs.Settling.{Note, note_of}
use Rattle.ccr_deeds.specs.Logs.{IsNoteOf, Log, new_log, state_of}
use Rattle.ccr_plans.specs.Scenes.{MakesSome, notes_in, with_made}

-- ---- what is read

take_notes : (logs : List Log) (k f : ℕ) (note : Note) → k < length logs → IsNoteOf logs k f note → notes_in f (take (suc k) logs) ≡ notes_in f (take k logs) ++ note ∷ []
take_notes [] k f note within is = absurd (omega arith)
take_notes (log ∷ logs) zero f note within is =
    let same : note_of (state_of log) f ≡ note = ap (λ (o : Option Note). unwrap_or o note) is in
    ap (λ (n : Note). n ∷ []) same
take_notes (log ∷ logs) (suc k) f note within is = ap (λ ns. note_of (state_of log) f ∷ ns) (take_notes logs k f note (omega arith) is)

more_notes : (logs : List Log) (first k n f : ℕ) (note : Note) → n ≡ first + k → n < length logs → IsNoteOf logs n f note
    → notes_in f (take (suc k) (drop first logs)) ≡ notes_in f (take k (drop first logs)) ++ note ∷ []
more_notes [] first k n f note e within is = absurd (omega arith)
more_notes (log ∷ logs) zero k n f note e within is =
    let same : n ≡ k = omega arith in
    take_notes (log ∷ logs) k f note (omega arith) (subst (λ m. IsNoteOf (log ∷ logs) m f note) same is)
more_notes (log ∷ logs) (suc first) k zero f note e within is = absurd (omega arith)
more_notes (log ∷ logs) (suc first) k (suc n) f note e within is = more_notes logs first k n f note (omega arith) (omega arith) is

pub notes-more : (logs : List Log) (first k f : ℕ) (note : Note) → first + k < length logs → IsNoteOf logs (first + k) f note
    → notes_in f (take (k + 1) (drop first logs)) ≡ notes_in f (take k (drop first logs)) ++ note ∷ []
notes-more logs first k f note within is = rw add-one (more_notes logs first k (first + k) f note refl within is)

pub ruleset reading = (notes-more)

-- the index that a command names lies in worlds that are there
pub index_within : (names : Names) (index : Option IndexName) (x : IndexMeta) → AreIn names → option_and_then (index_at names) index ≡ Some x → IsIn names.worlds x
index_within names None x are e = absurd (let f : None ≡ Some x = e in cc)
index_within names (Some index) x are e = IsIn-at names index x are e

-- ---- worlds that are made

-- of the worlds that a command makes the first were made, and these are left
pub record Makes (before : List Log) (made rest : List Start) (after : List Log) : Type 0 where
  pub first : List Start
  pub split : first ++ rest ≡ made
  pub grown : after ≡ with_made before first

pub makes_none : (before : List Log) (made rest : List Start) → rest ≡ made → Makes before made rest before
makes_none before made rest same = record { first = []; split = same; grown = sym (append-nil before) }

map_append : (xs ys : List Start) → map new_log (xs ++ ys) ≡ map new_log xs ++ map new_log ys
map_append [] ys = refl
map_append (x ∷ xs) ys = ap (λ zs. new_log x ∷ zs) (map_append xs ys)

pub makes_more : (before : List Log) (made rest others : List Start) (start : Start) (after more : List Log) → Makes before made rest after
    → rest ≡ start ∷ others → more ≡ after ++ new_log start ∷ [] → Makes before made others more
makes_more before made rest others start after more m next grown = record {
  first = m.first ++ start ∷ [];
  split = append_assoc m.first (start ∷ []) others ∙ (ap (λ xs. m.first ++ xs) (sym next) ∙ m.split);
  grown = grown
      ∙ (ap (λ ls. ls ++ new_log start ∷ []) m.grown
      ∙ (append_assoc before (map new_log m.first) (new_log start ∷ []) ∙ ap (λ ls. before ++ ls) (sym (map_append m.first (start ∷ [])))));
}

-- of the next world none was made
pub makes_some : (before : List Log) (made rest : List Start) (after more : List Log) → Makes before made rest after → more ≡ after → MakesSome before made more
makes_some before made rest after more m same = record { first = m.first; others = rest; split = m.split; grown = same ∙ m.grown }

pub makes_all : (before : List Log) (made rest : List Start) (after : List Log) → Makes before made rest after → length rest ≡ 0 → after ≡ with_made before made
makes_all before made [] after m none = m.grown ∙ ap (λ xs. with_made before xs) (sym (append-nil m.first) ∙ m.split)
makes_all before made (start ∷ rest) after m none = absurd (omega arith)
