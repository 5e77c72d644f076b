-- The order in which the history of the leases was noted, which ties a place of the journal to what is unbroken.
use Rattle.std.specs.Prelude.{◌≡◌, ℕ, ◌<◌, Bool, true, false, ◌&&◌, ◌==◌, List, [], ◌∷◌}
use Rattle.std.specs.List.{AllByRecursion, list_any}
use Rattle.std.specs.Str.{bytes_eq}
use Rattle.ccr_model.specs.LeaseHistory.{LeaseDeed, added, answered, renewed, dropped, removed, LeaseNote, is_unbroken, is_loss, is_lost_after}
use Rattle.ccr_model.specs.Past.{Past}

abbrev pub is_answer : LeaseDeed → Bool
is_answer (added number) = false
is_answer (answered number) = true
is_answer (renewed number) = false
is_answer dropped = false
is_answer removed = false

-- an answer about the lease was sent by the entry at this place
abbrev pub IsAnsweredAt : List ℕ → ℕ → List LeaseNote → Type 0
IsAnsweredAt id place notes = list_any (λ note. bytes_eq note.id id && (is_answer note.deed && (note.place == place))) notes ≡ true

-- a loss is of a later entry than an answer that was noted before
abbrev pub ComesAfter : LeaseNote → LeaseNote → Type 0
ComesAfter note older = is_loss note.deed ≡ true → is_answer older.deed ≡ true → older.place < note.place

-- each loss is of a later entry than the answers behind it, where the notes stand newest first
abbrev pub LossesComeAfter : List LeaseNote → Type 0
LossesComeAfter [] = Unit {0}
LossesComeAfter (note ∷ notes) = AllByRecursion (ComesAfter note) notes × LossesComeAfter notes

-- the notes of so many entries
pub record AreInOrder (place : ℕ) (notes : List LeaseNote) : Type 0 where
  pub earlier : AllByRecursion (λ (note : LeaseNote). note.place < place) notes
  pub losses : LossesComeAfter notes

abbrev pub HasNotesInOrder : Past → Type 0
HasNotesInOrder p = AreInOrder p.place p.notes

-- a lease that an entry answered, and that no entry after it dropped or removed, is unbroken
abbrev pub StaysUnbroken : Past → Type 0
StaysUnbroken p = (id : List ℕ) (place : ℕ) → IsAnsweredAt id place p.notes → is_lost_after id place p.notes ≡ false → is_unbroken id p.notes ≡ true
