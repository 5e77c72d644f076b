use Rattle.std.proofs.Common.{◌≡◌, ◌∙◌, List, refl, sym, ap, subst}
use Rattle.ccr_query.specs.Answers.{HitsOfShard}
use Rattle.ccr_query.specs.declared.answers.Hit.{Hit}
use Rattle.ccr_model.specs.Stores.{held}
use Rattle.ccr_search.specs.Finds.{AreFound}
use Rattle.ccr_search.proofs.Lives.{found_are}
use Rattle.ccr_search.proofs.shards.shard_search.Goals as goal

pub returns-clause-exact : goal.returns-clause-exact
returns-clause-exact c =
    let found = c.in_ok-hits.ensures (held c.args.store.now) c.args.query.now c.in_ok-all.ensures.hits in
    subst (λ (a : HitsOfShard). (a.count ≡ c.args.count) × (a.gap ≡ c.args.gap) × AreFound (held c.args.store.now) c.args.query.now c.args.sort.now a.hits)
    (sym c.new.ensures) (refl, refl, found)

pub returns-clause-answer : goal.returns-clause-answer
returns-clause-answer c = λ once.
    let found = c.in_ok-hits.ensures (held c.args.store.now) c.args.query.now c.in_ok-all.ensures.hits in
    c.new.ensures
    ∙ ap (λ (hits : List Hit). record { count = c.args.count; gap = c.args.gap; hits = hits }) (found_are (held c.args.store.now) c.args.query.now c.args.sort.now _ found once)
