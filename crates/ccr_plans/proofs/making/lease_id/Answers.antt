use Rattle.std.proofs.Common.{◌≡◌, ◌∙◌, ◌++◌, List, ap, sym, subst, append_assoc, codes}
use Rattle.std.specs.Arc.{arc_str_bytes}
use Rattle.ccr_plans.specs.Made.{lease_id, named_text}
use Rattle.ccr_plans.proofs.Lengths.{IsIdText-lease, IsUtf8-same}
use Rattle.ccr_plans.proofs.making.lease_id.Goals as goal

pub unreachable-requires : goal.unreachable-requires
unreachable-requires c =
    let is : arc_str_bytes c.in_ok-text.text ≡ lease_id c.args.index.now c.args.leader.now =
    c.in_ok-text.ensures.ok ∙ (c.as_str.ensures.value ∙ (c.in_ok-push_named-2.ensures
    ∙ (ap (λ xs. xs ++ named_text c.args.leader.now) (c.in_ok-push_str.ensures.bytes
    ∙ ap (λ xs. xs ++ codes "-following-") (c.in_ok-push_named.ensures ∙ ap (λ xs. xs ++ named_text c.args.index.now) c.new-text.ensures.bytes))
    ∙ append_assoc (named_text c.args.index.now) (codes "-following-") (named_text c.args.leader.now)))) in
    let none = c.in-None.ensures.bounds.1 (IsIdText-lease c.args.index.now c.args.leader.now (arc_str_bytes c.in_ok-text.text) c.requires.index c.requires.leader is
    (IsUtf8-same c.as_str.result.now (arc_str_bytes c.in_ok-text.text) c.in_ok-text.ensures.ok c.as_str.utf8)) in
    cc

pub returns : goal.returns
returns c =
    c.in-Some.ensures.value ∙ (c.in_ok-text.ensures.ok ∙ (c.as_str.ensures.value ∙ (c.in_ok-push_named-2.ensures
    ∙ (ap (λ xs. xs ++ named_text c.args.leader.now) (c.in_ok-push_str.ensures.bytes
    ∙ ap (λ xs. xs ++ codes "-following-") (c.in_ok-push_named.ensures ∙ ap (λ xs. xs ++ named_text c.args.index.now) c.new-text.ensures.bytes))
    ∙ append_assoc (named_text c.args.index.now) (codes "-following-") (named_text c.args.leader.now)))))
