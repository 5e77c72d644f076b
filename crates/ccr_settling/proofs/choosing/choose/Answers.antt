use Rattle.ccr_settling.proofs.choosing.choose.Goals as goal

pub choose_there-requires : goal.choose_there-requires
choose_there-requires c = record {
  ends = c.settling_ends.ensures c.args.shard.now c.requires;
  polls = c.polls_are_of_followers.ensures c.args.shard.now c.requires;
  kept = c.kept_requests_wait.ensures c.args.shard.now c.requires;
}
