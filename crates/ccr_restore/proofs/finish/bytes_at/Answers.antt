use Rattle.std.proofs.Common.{◌≡◌, Some, None, [], length, refl, sym, ◌∙◌, ap}
use Rattle.std.specs.Prelude.{slice_get, option_copied}
use Rattle.std.specs.Option.{option_map_or}
use Rattle.std.proofs.lemmas.Option.{slice_get_read, slice_get_past}
use Rattle.ccr_model.specs.Restores.{Chunk}
use Rattle.ccr_restore.specs.Index.{place_in}
use Rattle.ccr_restore.proofs.Indexing.{bytes-none, bytes-some}
use Rattle.ccr_restore.proofs.finish.bytes_at.Goals as goal

pub returns-in_default : goal.returns-in_default
returns-in_default c =
    let none : place_in c.args.index.now.entries c.args.place ≡ None = sym c.get.ensures.value ∙ ap option_copied c.in_default.is in
    sym (bytes-none c.args.parts.now c.args.index.now.entries c.args.place c.requires none)

pub returns-in-Some-get : goal.returns-in-Some-get
returns-in-Some-get c =
    let some : place_in c.args.index.now.entries c.args.place ≡ Some c.in-Some.at.now = sym c.get.ensures.value ∙ ap option_copied c.in-Some.is in
    let there : slice_get c.args.parts.now c.in-Some.at.now ≡ Some c.in-Some-get.part.now =
    slice_get_read c.args.parts.now (length c.args.parts.now) c.in-Some.at.now c.in-Some-get.part.now refl c.in-Some-get.ensures.lookup.3.0 c.in-Some-get.ensures.lookup.1 in
    c.bytes.ensures ∙ sym (bytes-some c.args.parts.now c.args.index.now.entries c.args.place c.in-Some.at.now c.requires some ∙ ap (λ o. option_map_or (λ (p : Chunk). p.bytes) o []) there)

pub returns-in-None : goal.returns-in-None
returns-in-None c =
    let some : place_in c.args.index.now.entries c.args.place ≡ Some c.in-Some.at.now = sym c.get.ensures.value ∙ ap option_copied c.in-Some.is in
    sym (bytes-some c.args.parts.now c.args.index.now.entries c.args.place c.in-Some.at.now c.requires some
    ∙ ap (λ o. option_map_or (λ (p : Chunk). p.bytes) o []) (slice_get_past c.args.parts.now c.in-Some.at.now c.in-None.ensures.lookup.3))
