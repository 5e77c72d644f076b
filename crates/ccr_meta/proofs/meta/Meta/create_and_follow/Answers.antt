use Rattle.std.proofs.Common.{◌≡◌, sym, ◌∙◌, subst}
use Rattle.ccr_meta.specs.Names.{AreIn, with_leader}
use Rattle.ccr_meta.proofs.Undone.{OnErr-some, leader_undone}
use Rattle.ccr_meta.proofs.meta.Meta.create_and_follow.Goals as goal

pub forget-requires : goal.forget-requires
forget-requires c =
    let failed = sym c.is_err.ensures.value ∙ c.if-is_err.true in
    let late : c.follow_each.new.self ≡ with_leader c.args.self.now c.args.index c.args.settings.now =
    OnErr-some c.follow_each.result _ failed c.follow_each.ensures.err ∙ c.in_ok-add_leader.ensures.ok in
    let undone = leader_undone c.args.self.now c.follow_each.new.self c.args.index c.in_ok-leader.leader c.args.settings.now c.worlds-worlds.result c.requires late c.in_ok-leader.ensures c.worlds-worlds.ensures.value in
    subst AreIn (sym undone) c.worlds-worlds.ensures.fits

pub returns-then-is_err-clause-err : goal.returns-then-is_err-clause-err
returns-then-is_err-clause-err c =
    let failed = sym c.is_err.ensures.value ∙ c.if-is_err.true in
    let late : c.follow_each.new.self ≡ with_leader c.args.self.now c.args.index c.args.settings.now =
    OnErr-some c.follow_each.result _ failed c.follow_each.ensures.err ∙ c.in_ok-add_leader.ensures.ok in
    let undone = leader_undone c.args.self.now c.follow_each.new.self c.args.index c.in_ok-leader.leader c.args.settings.now c.worlds-worlds.result c.requires late c.in_ok-leader.ensures c.worlds-worlds.ensures.value in
    c.forget.ensures ∙ undone
