use Rattle.std.proofs.Common.{◌≡◌, Some, ap, rules}
use Rattle.std.specs.Prelude.{is_some}
use Rattle.ccr_meta.specs.Names.{index_at}
use Rattle.ccr_meta.proofs.Limits.{IsIn-at, index-named}
use Rattle.ccr_meta.proofs.meta.Meta.find.Goals as goal

pub returns-in-Some-clause-within : goal.returns-in-Some-clause-within
returns-in-Some-clause-within c = IsIn-at c.args.self.now c.args.index.now c.in-Some.found.now c.worlds-worlds.ensures.fits (search rules)

pub returns-in-Some-clause-named : goal.returns-in-Some-clause-named
returns-in-Some-clause-named c =
    let found : index_at c.args.self.now c.args.index.now ≡ Some c.in-Some.found.now = search rules in
    index-named c.args.self.now c.args.index.now c.worlds-worlds.ensures.fits (ap is_some found)
