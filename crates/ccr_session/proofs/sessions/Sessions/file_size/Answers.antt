use Rattle.std.proofs.Common.{◌≡◌, None, Some, refl, rules}
use Rattle.std.specs.Prelude.{slice_get}
use Rattle.std.specs.Map.{lookup}
use Rattle.std.specs.Ordering.{nat_cmp}
use Rattle.std.specs.BTreeMap.{is_at}
use Rattle.ccr_session.proofs.Numbered.{found_session}
use Rattle.ccr_session.proofs.sessions.Sessions.file_size.Goals as goal

pub returns-in_err-get : goal.returns-in_err-get
returns-in_err-get c =
    let none : lookup (is_at (nat_cmp c.args.session)) c.self.inside.by_number.entries ≡ None = search rules in
    rw (c.from_residual.ensures, found_session c.self.inside.next c.args.session c.self.inside.by_number.entries c.args.self.now None c.self.invariant c.self.view_is none) refl

pub returns-in_err-bytes : goal.returns-in_err-bytes
returns-in_err-bytes c =
    let found : lookup (is_at (nat_cmp c.args.session)) c.self.inside.by_number.entries ≡ Some c.in_ok-get.field-0.now = search rules in
    let none : slice_get c.in_ok-get.field-0.now.files c.args.file ≡ None = search rules in
    rw (c.from_residual-in_err-bytes.ensures, found_session c.self.inside.next c.args.session c.self.inside.by_number.entries c.args.self.now (Some c.in_ok-get.field-0.now) c.self.invariant c.self.view_is found, none) refl

pub returns : goal.returns
returns c =
    let found : lookup (is_at (nat_cmp c.args.session)) c.self.inside.by_number.entries ≡ Some c.in_ok-get.field-0.now = search rules in
    let bytes : slice_get c.in_ok-get.field-0.now.files c.args.file ≡ Some c.in_ok-bytes.bytes.now = search rules in
    rw (found_session c.self.inside.next c.args.session c.self.inside.by_number.entries c.args.self.now (Some c.in_ok-get.field-0.now) c.self.invariant c.self.view_is found, bytes) refl
