use Rattle.std.proofs.Common.{◌≡◌, ◌+◌, ◌≤◌, true, false, arith, refl}
use Rattle.ccr_meta.specs.Names.{shards_in}
use Rattle.ccr_meta.proofs.Limits.{can_be_created}
use Rattle.ccr_meta.proofs.meta.Meta.add_leader.Goals as goal

pub put-requires-clause-within : goal.put-requires-clause-within
put-requires-clause-within c =
    let can = can_be_created c.args.self.now c.args.index c.args.settings.now c.worlds-first.ensures.fits c.requires in
    let within = can.within in
    record {
      some = rw c.unwrap_or-shards.ensures within.some;
      few = rw c.unwrap_or-shards.ensures within.few;
      there = omega arith;
      replicas = rw c.unwrap_or.ensures within.replicas;
      retention = rw c.unwrap_or-3.ensures within.retention;
      period = rw c.unwrap_or-4.ensures within.period;
      period_fits = rw c.unwrap_or-4.ensures within.period_fits;
      number = refl;
      leader = refl;
    }

pub put-requires-clause-room : goal.put-requires-clause-room
put-requires-clause-room c = λ leader h. absurd (let e : false ≡ true = h in cc)

pub put-requires-clause-few : goal.put-requires-clause-few
put-requires-clause-few c = (can_be_created c.args.self.now c.args.index c.args.settings.now c.worlds-first.ensures.fits c.requires).few

pub put-requires-clause-bound : goal.put-requires-clause-bound
put-requires-clause-bound c =
    let can = can_be_created c.args.self.now c.args.index c.args.settings.now c.worlds-first.ensures.fits c.requires in
    let low : c.args.self.now.worlds + shards_in c.args.settings.now ≤ 64 = can.worlds in
    omega (arith, low, c.worlds-first.ensures.value, c.unwrap_or-shards.ensures)

pub put-requires-clause-named : goal.put-requires-clause-named
put-requires-clause-named c = (can_be_created c.args.self.now c.args.index c.args.settings.now c.worlds-first.ensures.fits c.requires).named
