use Rattle.std.proofs.Common.{◌≡◌, ◌∙◌, ℕ, None, Some, List, ap, refl, rules}
use Rattle.std.specs.Map.{lookup, set_value, values_of}
use Rattle.std.specs.Ordering.{nat_cmp}
use Rattle.std.specs.BTreeMap.{is_at}
use Rattle.std.proofs.lemmas.Result.{err_from_is_err_and}
use Rattle.std.proofs.lemmas.Map.Steps.{set_value_same}
use Rattle.ccr_model.specs.Leaders.{Session}
use Rattle.ccr_model.specs.LeaderFrames.{active_at}
use Rattle.ccr_session.specs.Sessions.{Sessions}
use Rattle.ccr_session.proofs.Numbered.{AreNumbered-active, OnErr-of, found_session, values-active}
use Rattle.ccr_session.proofs.sessions.Sessions.chunk.Goals as goal

pub returns-in_default-clause-answer : goal.returns-in_default-clause-answer
returns-in_default-clause-answer c =
    let none : lookup (is_at (nat_cmp c.args.session)) c.self.inside.by_number.entries ≡ None = search rules in
    rw (found_session c.self.inside.next c.args.session c.self.inside.by_number.entries c.args.self.now None c.self.invariant c.self.view_is none) refl

pub invariant_of-self-in_err-part : goal.invariant_of-self-in_err-part
invariant_of-self-in_err-part c =
    let found : lookup (is_at (nat_cmp c.args.session)) c.self.inside.by_number.entries ≡ Some c.in-Some.found.now = search rules in
    let written : (c.get_mut.follows.lender c.in-Some.found.now).entries ≡ set_value (is_at (nat_cmp c.args.session)) c.self.inside.by_number.entries c.in-Some.found.now = search rules in
    let kept = written ∙ set_value_same (is_at (nat_cmp c.args.session)) c.self.inside.by_number.entries c.in-Some.found.now found in
    rw kept c.self.invariant

pub returns-in_err-part-clause-answer : goal.returns-in_err-part-clause-answer
returns-in_err-part-clause-answer c =
    let found : lookup (is_at (nat_cmp c.args.session)) c.self.inside.by_number.entries ≡ Some c.in-Some.found.now = search rules in
    let p = err_from_is_err_and c.from_residual.result c.from_residual.ensures.1 in
    rw (found_session c.self.inside.next c.args.session c.self.inside.by_number.entries c.args.self.now (Some c.in-Some.found.now) c.self.invariant c.self.view_is found, p.1, p.2) c.in_err-part.ensures.answer

pub returns-in_err-part-clause-err : goal.returns-in_err-part-clause-err
returns-in_err-part-clause-err c =
    let found : lookup (is_at (nat_cmp c.args.session)) c.self.inside.by_number.entries ≡ Some c.in-Some.found.now = search rules in
    let written : (c.get_mut.follows.lender c.in-Some.found.now).entries ≡ set_value (is_at (nat_cmp c.args.session)) c.self.inside.by_number.entries c.in-Some.found.now = search rules in
    let kept = written ∙ set_value_same (is_at (nat_cmp c.args.session)) c.self.inside.by_number.entries c.in-Some.found.now found in
    let at : List (ℕ × Session) → Sessions = λ (es : List (ℕ × Session)). record { next = c.self.inside.next; sessions = values_of es } in
    OnErr-of c.from_residual.result _ (ap at kept ∙ c.self.view_is)

pub invariant_of-self-2 : goal.invariant_of-self-2
invariant_of-self-2 c =
    let found : lookup (is_at (nat_cmp c.args.session)) c.self.inside.by_number.entries ≡ Some c.in-Some.found.now = search rules in
    let written : (c.get_mut.follows.lender c.touch.new.self).entries ≡ set_value (is_at (nat_cmp c.args.session)) c.self.inside.by_number.entries c.touch.new.self = search rules in
    rw (written, c.touch.ensures) (AreNumbered-active c.self.inside.next c.args.session c.args.now c.in-Some.found.now c.self.inside.by_number.entries c.self.invariant found)

pub returns-clause-answer : goal.returns-clause-answer
returns-clause-answer c =
    let found : lookup (is_at (nat_cmp c.args.session)) c.self.inside.by_number.entries ≡ Some c.in-Some.found.now = search rules in
    rw (found_session c.self.inside.next c.args.session c.self.inside.by_number.entries c.args.self.now (Some c.in-Some.found.now) c.self.invariant c.self.view_is found) c.in_ok-part.ensures.answer

pub returns-clause-part : goal.returns-clause-part
returns-clause-part c =
    let found : lookup (is_at (nat_cmp c.args.session)) c.self.inside.by_number.entries ≡ Some c.in-Some.found.now = search rules in
    rw (found_session c.self.inside.next c.args.session c.self.inside.by_number.entries c.args.self.now (Some c.in-Some.found.now) c.self.invariant c.self.view_is found) c.in_ok-part.ensures.part

pub returns-clause-ok : goal.returns-clause-ok
returns-clause-ok c =
    let found : lookup (is_at (nat_cmp c.args.session)) c.self.inside.by_number.entries ≡ Some c.in-Some.found.now = search rules in
    let written : (c.get_mut.follows.lender c.touch.new.self).entries ≡ set_value (is_at (nat_cmp c.args.session)) c.self.inside.by_number.entries c.touch.new.self = search rules in
    let active : values_of (c.get_mut.follows.lender c.touch.new.self).entries ≡ active_at c.args.session c.args.now (values_of c.self.inside.by_number.entries) =
    ap values_of written
    ∙ (ap (λ (s : Session). values_of (set_value (is_at (nat_cmp c.args.session)) c.self.inside.by_number.entries s)) c.touch.ensures
    ∙ values-active c.self.inside.next c.args.session c.args.now c.in-Some.found.now c.self.inside.by_number.entries c.self.invariant found) in
    let at : List Session → Sessions = λ (xs : List Session). record { next = c.self.inside.next; sessions = xs } in
    ap at active ∙ ap (λ (s : Sessions). record s { sessions = active_at c.args.session c.args.now s.sessions }) c.self.view_is
