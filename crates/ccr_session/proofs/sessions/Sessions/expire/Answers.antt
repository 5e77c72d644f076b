use Rattle.std.proofs.Common.{◌≡◌, ◌∙◌, ℕ, Bool, not, List, ap, filter, rules}
use Rattle.std.specs.Prelude.{count_by}
use Rattle.std.specs.Map.{values_of}
use Rattle.std.proofs.lemmas.Map.Made.{filter_same_pairs}
use Rattle.ccr_model.specs.Leaders.{Session}
use Rattle.ccr_model.specs.LeaderRows.{is_idle}
use Rattle.ccr_session.specs.Sessions.{Sessions}
use Rattle.ccr_session.proofs.Numbered.{AreNumbered-filter, how_many-idle, values-filter}
use Rattle.ccr_session.proofs.sessions.Sessions.expire.Goals as goal

pub invariant_of-self : goal.invariant_of-self
invariant_of-self c =
    let keeps : ℕ × Session → Bool = λ (e : ℕ × Session). not (is_idle c.args.now e.1) in
    let kept : c.retain.new.self.entries ≡ filter keeps c.self.inside.by_number.entries =
    filter_same_pairs _ keeps _ (λ k v b w f' t. search rules) _ _ c.retain.ensures.filtered in
    rw kept (AreNumbered-filter c.self.inside.next keeps c.self.inside.by_number.entries c.self.invariant)

pub returns-clause-closed : goal.returns-clause-closed
returns-clause-closed c =
    let keeps : ℕ × Session → Bool = λ (e : ℕ × Session). not (is_idle c.args.now e.1) in
    let kept : c.retain.new.self.entries ≡ filter keeps c.self.inside.by_number.entries =
    filter_same_pairs _ keeps _ (λ k v b w f' t. search rules) _ _ c.retain.ensures.filtered in
    rw (c.len-before.ensures.len, c.len.ensures.len)
    (how_many-idle (is_idle c.args.now) c.self.inside.by_number.entries c.retain.new.self.entries kept
    ∙ ap (λ (s : Sessions). count_by (is_idle c.args.now) s.sessions) c.self.view_is)

pub returns-clause-kept : goal.returns-clause-kept
returns-clause-kept c =
    let keeps : ℕ × Session → Bool = λ (e : ℕ × Session). not (is_idle c.args.now e.1) in
    let kept : c.retain.new.self.entries ≡ filter keeps c.self.inside.by_number.entries =
    filter_same_pairs _ keeps _ (λ k v b w f' t. search rules) _ _ c.retain.ensures.filtered in
    let values : values_of c.retain.new.self.entries ≡ filter (λ (s : Session). not (is_idle c.args.now s)) (values_of c.self.inside.by_number.entries) =
    ap values_of kept ∙ values-filter (λ (s : Session). not (is_idle c.args.now s)) c.self.inside.by_number.entries in
    let at : List Session → Sessions = λ (xs : List Session). record { next = c.self.inside.next; sessions = xs } in
    ap at values ∙ ap (λ (s : Sessions). record s { sessions = filter (λ (x : Session). not (is_idle c.args.now x)) s.sessions }) c.self.view_is
