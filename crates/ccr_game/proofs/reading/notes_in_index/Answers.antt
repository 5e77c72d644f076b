use Rattle.std.proofs.Common.{◌≤◌, ◌+◌, arith, subst, sym}
use Rattle.std.specs.Option.{option_copied}
use Rattle.ccr_game.proofs.Logs.{index_within}
use Rattle.ccr_game.proofs.reading.notes_in_index.Goals as goal

pub notes_of-requires-clause-there : goal.notes_of-requires-clause-there
notes_of-requires-clause-there g c =
    let within = index_within c.args.meta.now (option_copied c.args.index) c.in-Some.x.now c.worlds-count.ensures.fits (sym c.in-Some.ensures) in
    subst (λ n. c.in-Some.x.now.first + c.in-Some.x.now.shards ≤ n) c.requires within.there

pub notes_of-requires-clause-few : goal.notes_of-requires-clause-few
notes_of-requires-clause-few g c =
    let within = index_within c.args.meta.now (option_copied c.args.index) c.in-Some.x.now c.worlds-count.ensures.fits (sym c.in-Some.ensures) in
    let there : c.in-Some.x.now.first + c.in-Some.x.now.shards ≤ c.args.meta.now.worlds = within.there in
    let few : c.args.meta.now.worlds ≤ 64 = c.worlds-count.ensures.fits.worlds in
    omega arith
