use Rattle.std.proofs.Common.{◌≡◌, ◌<◌, ◌≤◌, ◌+◌, ◌==◌, false, ◌∙◌, ap, sym, subst, refl, length, drop, ◌∷◌, arith}
use Rattle.std.specs.Prelude.{slice_get, Some}
use Rattle.std.proofs.lemmas.Option.{slice_get_read}
use Rattle.ccr_restore.specs.Places.{Walk, all_places, places_left, parts_in, IsAt}
use Rattle.ccr_restore.proofs.Walking.{file-there, at-part, at-file, place-is}
use Rattle.ccr_restore.proofs.places.Places.next.Goals as goal

more_left : (old w : Walk) → w ≡ old → (old.asked == length (all_places old)) ≡ false → (w.asked == length (all_places w)) ≡ false
more_left old w is more = ap (λ (v : Walk). v.asked == length (all_places v)) is ∙ more

pub index-size-requires : goal.index-size-requires
index-size-requires c =
    let s = c.self.inside in
    let lt = file-there (record { chunk_size = s.chunk_size; sizes = s.sizes.items; asked = s.asked }) s.file s.part c.self.invariant (more_left _ _ c.self.view_is c.requires) in
    omega (arith, s.sizes.ok.0, lt)

pub offset_of-offset-requires : goal.offset_of-offset-requires
offset_of-offset-requires c =
    let s = c.self.inside in
    let lt = file-there (record { chunk_size = s.chunk_size; sizes = s.sizes.items; asked = s.asked }) s.file s.part c.self.invariant (more_left _ _ c.self.view_is c.requires) in
    c.self.invariant.there _ (slice_get_read s.sizes.items (length s.sizes.items) s.file c.index-size.result.now refl lt c.index-size.ensures)

pub overflow_add-self-inside : goal.overflow_add-self-inside
overflow_add-self-inside c =
    let s = c.self.inside in
    let lt = file-there (record { chunk_size = s.chunk_size; sizes = s.sizes.items; asked = s.asked }) s.file s.part c.self.invariant (more_left _ _ c.self.view_is c.requires) in
    let below : s.part < parts_in s.chunk_size c.index-size.result.now = c.self.invariant.there _ (slice_get_read s.sizes.items (length s.sizes.items) s.file c.index-size.result.now refl lt c.index-size.ensures) in
    omega arith

pub invariant_of-self : goal.invariant_of-self
invariant_of-self c =
    let s = c.self.inside in
    let lt = file-there (record { chunk_size = s.chunk_size; sizes = s.sizes.items; asked = s.asked }) s.file s.part c.self.invariant (more_left _ _ c.self.view_is c.requires) in
    let there : slice_get s.sizes.items s.file ≡ Some c.index-size.result.now = slice_get_read s.sizes.items (length s.sizes.items) s.file c.index-size.result.now refl lt c.index-size.ensures in
    at-part s.chunk_size s.sizes.items s.asked s.file s.part c.index-size.result.now c.in-Some.asked c.self.invariant there (omega arith) c.in-Some.ensures.1

pub returns-then-self-parts-clause-place : goal.returns-then-self-parts-clause-place
returns-then-self-parts-clause-place c =
    let s = c.self.inside in
    let w : Walk = record { chunk_size = s.chunk_size; sizes = s.sizes.items; asked = s.asked } in
    let lt = file-there w s.file s.part c.self.invariant (more_left _ _ c.self.view_is c.requires) in
    let there : slice_get s.sizes.items s.file ≡ Some c.index-size.result.now = slice_get_read s.sizes.items (length s.sizes.items) s.file c.index-size.result.now refl lt c.index-size.ensures in
    subst (λ (v : Walk). places_left v ≡ (s.file, c.offset_of-offset.result) ∷ drop (v.asked + 1) (all_places v)) c.self.view_is (place-is w s.file s.part c.index-size.result.now c.offset_of-offset.result c.self.invariant there c.offset_of-offset.ensures)

pub next_file-self-inside-requires-clause-within : goal.next_file-self-inside-requires-clause-within
next_file-self-inside-requires-clause-within c =
    let s = c.self.inside in
    let lt = file-there (record { chunk_size = s.chunk_size; sizes = s.sizes.items; asked = s.asked }) s.file s.part c.self.invariant (more_left _ _ c.self.view_is c.requires) in
    omega (arith, lt, ap length c.as_slice.ensures.value)

pub invariant_of-self-2 : goal.invariant_of-self-2
invariant_of-self-2 c =
    let s = c.self.inside in
    let lt = file-there (record { chunk_size = s.chunk_size; sizes = s.sizes.items; asked = s.asked }) s.file s.part c.self.invariant (more_left _ _ c.self.view_is c.requires) in
    let there : slice_get s.sizes.items s.file ≡ Some c.index-size.result.now = slice_get_read s.sizes.items (length s.sizes.items) s.file c.index-size.result.now refl lt c.index-size.ensures in
    let later = c.next_file-self-inside.ensures in
    at-file s.chunk_size s.sizes.items c.as_slice.result.now s.asked s.file s.part c.index-size.result.now c.in-Some.asked c.next_file-self-inside.result c.self.invariant there (omega arith) c.in-Some.ensures.1
    c.as_slice.ensures.value later.within later.there later.same

pub returns-clause-place : goal.returns-clause-place
returns-clause-place c =
    let s = c.self.inside in
    let w : Walk = record { chunk_size = s.chunk_size; sizes = s.sizes.items; asked = s.asked } in
    let lt = file-there w s.file s.part c.self.invariant (more_left _ _ c.self.view_is c.requires) in
    let there : slice_get s.sizes.items s.file ≡ Some c.index-size.result.now = slice_get_read s.sizes.items (length s.sizes.items) s.file c.index-size.result.now refl lt c.index-size.ensures in
    subst (λ (v : Walk). places_left v ≡ (s.file, c.offset_of-offset.result) ∷ drop (v.asked + 1) (all_places v)) c.self.view_is (place-is w s.file s.part c.index-size.result.now c.offset_of-offset.result c.self.invariant there c.offset_of-offset.ensures)
