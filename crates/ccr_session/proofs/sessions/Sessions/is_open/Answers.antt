use Rattle.std.proofs.Common.{◌∙◌, ap, sym, refl}
use Rattle.std.specs.Prelude.{is_some}
use Rattle.ccr_session.proofs.Numbered.{found_session}
use Rattle.ccr_session.proofs.sessions.Sessions.is_open.Goals as goal

pub returns : goal.returns
returns c =
    c.contains_key.ensures ∙ ap is_some (sym (found_session c.self.inside.next c.args.session c.self.inside.by_number.entries c.args.self.now _ c.self.invariant c.self.view_is refl))
