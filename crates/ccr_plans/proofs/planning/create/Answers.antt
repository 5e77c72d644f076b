use Rattle.std.proofs.Common.{◌≡◌, ◌∙◌, None, sym, subst, rules}
use Rattle.std.specs.List.{AllByRecursion}
use Rattle.ccr_meta.specs.Guards.{first_refusal}
use Rattle.ccr_meta.specs.NameGuards.{create_guards}
use Rattle.ccr_plans.specs.Made.{IsNamedIfFollowed}
use Rattle.ccr_plans.proofs.Allowed.{created-named}
use Rattle.ccr_plans.proofs.Creating.{creation-is}
use Rattle.ccr_plans.proofs.planning.create.Goals as goal

pub all_followed-requires-clause-named : goal.all_followed-requires-clause-named
all_followed-requires-clause-named c =
    subst (AllByRecursion IsNamedIfFollowed) (sym (c.as_slice.ensures.value ∙ c.in-Ok.ensures.decided)) (created-named c.args.meta.now c.args.index c.args.settings c.worlds-worlds.ensures.fits)

pub returns-in-Ok-clause-plan : goal.returns-in-Ok-clause-plan
returns-in-Ok-clause-plan c =
    let none : first_refusal (create_guards c.args.meta.now c.args.index c.args.settings) ≡ None = search rules in
    creation-is c.args.meta.now c.args.index c.in_ok-leader.leader c.args.settings c.in_ok-x.x c.in_ok-made.made.items c.in_ok-deeds-in-Ok.deeds.items c.as_slice.result.now c.new-decided.result
    none c.in_ok-leader.ensures c.in_ok-x.ensures.value c.in_ok-made.ensures c.in_ok-deeds-in-Ok.ensures (c.as_slice.ensures.value ∙ c.in-Ok.ensures.decided)
    (c.new-decided.ensures ∙ sym c.as_slice.ensures.value)
