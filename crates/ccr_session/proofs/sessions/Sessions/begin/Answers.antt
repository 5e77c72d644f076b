use Rattle.std.proofs.Common.{◌≡◌, ◌+◌, ◌∙◌, ℕ, None, List, ◌∷◌, [], ◌++◌, ap, subst, rules}
use Rattle.std.specs.Map.{values_of}
use Rattle.ccr_model.specs.Leaders.{Session, session_of}
use Rattle.ccr_session.specs.Sessions.{Sessions}
use Rattle.ccr_session.proofs.Numbered.{AreNumbered-next, insert-next, opened, session_of-next, values-next}
use Rattle.ccr_session.proofs.sessions.Sessions.begin.Goals as goal

pub invariant_of-self-2 : goal.invariant_of-self-2
invariant_of-self-2 c =
    let next : c.in-Some.next ≡ c.self.inside.next + 1 = search rules in
    let entries : c.insert.new.self.entries ≡ c.self.inside.by_number.entries ++ (c.self.inside.next, c.new.result) ∷ [] =
    c.in_ok-insert.ensures.entries ∙ insert-next c.self.inside.next c.new.result c.self.inside.by_number.entries c.self.invariant in
    let own : c.new.result.number ≡ c.self.inside.next = ap (λ (s : Session). s.number) c.new.ensures in
    rw (entries, next) (AreNumbered-next c.self.inside.next c.new.result c.self.inside.by_number.entries own c.self.invariant)

pub returns-clause-fresh : goal.returns-clause-fresh
returns-clause-fresh c =
    subst (λ (s : Sessions). session_of s.sessions c.self.inside.next ≡ None) c.self.view_is (session_of-next c.self.inside.next c.self.inside.by_number.entries c.self.invariant)

pub returns-clause-ok : goal.returns-clause-ok
returns-clause-ok c =
    let next : c.in-Some.next ≡ c.self.inside.next + 1 = search rules in
    let values : values_of c.insert.new.self.entries ≡ values_of c.self.inside.by_number.entries ++ c.new.result ∷ [] =
    ap values_of c.in_ok-insert.ensures.entries ∙ values-next c.self.inside.next c.new.result c.self.inside.by_number.entries c.self.invariant in
    let at : ℕ → List Session → Sessions = λ (n : ℕ) (xs : List Session). record { next = n; sessions = xs } in
    (ap (λ (n : ℕ). at n (values_of c.insert.new.self.entries)) next ∙ ap (at (c.self.inside.next + 1)) values)
    ∙ (ap (λ (s : Session). at (c.self.inside.next + 1) (values_of c.self.inside.by_number.entries ++ s ∷ [])) c.new.ensures
    ∙ ap (opened c.args.count c.args.files c.args.now) c.self.view_is)
