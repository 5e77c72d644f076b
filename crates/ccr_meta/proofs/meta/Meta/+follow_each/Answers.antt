use Rattle.std.proofs.Common.{◌≡◌, sym, ◌∙◌, subst}
use Rattle.ccr_meta.specs.Names.{AreIn, with_follower}
use Rattle.ccr_meta.specs.Created.{no_settings}
use Rattle.ccr_meta.proofs.Undone.{OnErr-none, OnErr-of, OnErr-some, follower_of-fit, follower_undone}
use Rattle.ccr_meta.proofs.meta.Meta.+follow_each.Goals.{then-is_err, else-is_err}
use Rattle.ccr_meta.proofs.meta.Meta.+follow_each.Goals as goal

pub add_follower-requires : goal.add_follower-requires
add_follower-requires t c =
    follower_of-fit c.args.leader.now c.args.self.now c.in-Some.decision c.in-Some-follower.index (sym c.in_ok-decided.ensures.follower ∙ c.in-Some-follower.is)

pub forget-requires : goal.forget-requires
forget-requires t c =
    let fit = follower_of-fit c.args.leader.now c.args.self.now c.in-Some.decision c.in-Some-follower.index (sym c.in_ok-decided.ensures.follower ∙ c.in-Some-follower.is) in
    let failed = sym c.is_err.ensures.value ∙ c.if-is_err.true in
    let late : c.follow_each-rest.new.self ≡ with_follower c.args.self.now c.in-Some-follower.index c.args.leader.now no_settings =
    OnErr-some c.follow_each-rest.result _ failed c.follow_each-rest.ensures.err ∙ c.in_ok-add_follower.ensures.ok in
    let undone = follower_undone c.args.self.now c.follow_each-rest.new.self c.in-Some-follower.index c.in_ok-name.name c.args.leader.now no_settings c.worlds-worlds.result fit late c.in_ok-name.ensures c.worlds-worlds.ensures.value in
    subst AreIn (sym undone) c.worlds-worlds.ensures.fits

pub returns-clause-err : goal.returns-clause-err
returns-clause-err t c =
    let fit = follower_of-fit c.args.leader.now c.args.self.now c.in-Some.decision c.in-Some-follower.index (sym c.in_ok-decided.ensures.follower ∙ c.in-Some-follower.is) in
    elim c.if-is_err.branch [
      | then-is_err w ↦
          let failed = sym c.is_err.ensures.value ∙ w.if-is_err.true in
          let late : c.follow_each-rest.new.self ≡ with_follower c.args.self.now c.in-Some-follower.index c.args.leader.now no_settings =
          OnErr-some c.follow_each-rest.result _ failed c.follow_each-rest.ensures.err ∙ c.in_ok-add_follower.ensures.ok in
          let undone = follower_undone c.args.self.now c.follow_each-rest.new.self c.in-Some-follower.index c.in_ok-name.name c.args.leader.now no_settings c.worlds-worlds.result fit late c.in_ok-name.ensures c.worlds-worlds.ensures.value in
          OnErr-of c.follow_each-rest.result _ (w.self-is ∙ (w.forget.ensures ∙ undone))
      | else-is_err w ↦ OnErr-none c.follow_each-rest.result _ (sym c.is_err.ensures.value ∙ w.if-is_err.false)
    ]
