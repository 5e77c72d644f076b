use Rattle.std.proofs.Common.{◌≡◌, ◌<◌, length, ap, sym, subst, ◌∙◌}
use Rattle.ccr_model.specs.Settling.{note_of}
use Rattle.ccr_deeds.specs.Logs.{IsNoteOf, state_of}
use Rattle.ccr_worlds.specs.Fated.{log_of}
use Rattle.ccr_worlds.proofs.Slots.{note_at}
use Rattle.ccr_worlds.proofs.bare.BareWorlds.note.Goals as goal

pub returns-clause-ok : goal.returns-clause-ok
returns-clause-ok g c =
    subst (λ ls. IsNoteOf ls c.args.world c.args.of c.note_of.result) c.self.view_is
    (note_at (λ w. log_of w.recorded) c.self.inside.worlds.items c.args.world c.args.of c.index-place.result.now c.index-place.result.now c.note_of.result
    (subst (λ ls. c.args.world < length ls) (sym c.self.view_is) c.requires) c.index-place.ensures
    (c.note_of.ensures ∙ c.in_ok-note.ensures.note ∙ ap (note_of (state_of (log_of c.index-place.result.now.recorded))) c.from.ensures))
