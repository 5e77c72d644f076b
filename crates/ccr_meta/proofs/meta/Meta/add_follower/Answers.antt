use Rattle.ccr_meta.proofs.Limits.{can_be_followed}
use Rattle.ccr_meta.proofs.meta.Meta.add_follower.Goals as goal

pub put-requires-clause-few : goal.put-requires-clause-few
put-requires-clause-few c =
    (can_be_followed c.args.self.now c.args.index c.args.leader.now c.args.settings.now c.in_ok-x.x c.worlds-worlds.ensures.fits c.requires c.in_ok-x.ensures).few

pub put-requires-clause-within : goal.put-requires-clause-within
put-requires-clause-within c =
    rw c.worlds-worlds.ensures.value
    (can_be_followed c.args.self.now c.args.index c.args.leader.now c.args.settings.now c.in_ok-x.x c.worlds-worlds.ensures.fits c.requires c.in_ok-x.ensures).within

pub put-requires-clause-room : goal.put-requires-clause-room
put-requires-clause-room c =
    (can_be_followed c.args.self.now c.args.index c.args.leader.now c.args.settings.now c.in_ok-x.x c.worlds-worlds.ensures.fits c.requires c.in_ok-x.ensures).room

pub put-requires-clause-named : goal.put-requires-clause-named
put-requires-clause-named c =
    (can_be_followed c.args.self.now c.args.index c.args.leader.now c.args.settings.now c.in_ok-x.x c.worlds-worlds.ensures.fits c.requires c.in_ok-x.ensures).named
