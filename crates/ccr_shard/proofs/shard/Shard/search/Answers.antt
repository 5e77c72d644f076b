use Rattle.ccr_shard.proofs.Rows.{held_once, held_once_there, search_nowhere, search_no_copy, search_there}
use Rattle.ccr_shard.proofs.shard.Shard.search.Goals as goal

pub search_copy-requires : goal.search_copy-requires
search_copy-requires c =
    held_once c.args.self.now _ c.args.copy c.in-Some.found.now (c.numbers_are_held_once.ensures c.args.self.now c.requires) c.self.view_is c.in-Some.ensures

pub search_copy-requires-in-Follower : goal.search_copy-requires-in-Follower
search_copy-requires-in-Follower c =
    held_once_there c.args.self.now c.in-Follower.f c.args.copy c.in-Some-follower.own.now c.in-Some-copy_of.found.now (c.numbers_are_held_once.ensures c.args.self.now c.requires)
    c.in-Some-follower.ensures c.in-Some-copy_of.ensures

pub returns-in_default-follower : goal.returns-in_default-follower
returns-in_default-follower c =
    search_nowhere c.args.self.now c.args.side c.in-Follower.f c.args.copy c.args.request.now.query c.args.request.now.sort c.in_ok-reply-in-Follower.reply c.in-Follower.is
    c.in_default-follower.ensures c.in_ok-reply-in-Follower.ensures

pub returns-in_default-copy_of : goal.returns-in_default-copy_of
returns-in_default-copy_of c =
    search_no_copy c.args.self.now c.args.side c.in-Follower.f c.args.copy c.args.request.now.query c.args.request.now.sort c.in-Some-follower.own.now c.in_ok-reply-in-Follower-2.reply c.in-Follower.is
    c.in-Some-follower.ensures c.in_default-copy_of.ensures c.in_ok-reply-in-Follower-2.ensures

pub returns-in_ok-reply-in-Follower-3 : goal.returns-in_ok-reply-in-Follower-3
returns-in_ok-reply-in-Follower-3 c =
    search_there c.args.self.now c.args.side c.in-Follower.f c.args.copy c.args.request.now.query c.args.request.now.sort c.in-Some-follower.own.now c.in-Some-copy_of.found.now
    c.in_ok-reply-in-Follower-3.reply c.in-Follower.is c.in-Some-follower.ensures c.in-Some-copy_of.ensures c.in_ok-reply-in-Follower-3.ensures
