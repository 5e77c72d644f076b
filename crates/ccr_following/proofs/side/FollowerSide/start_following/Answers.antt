use Rattle.std.proofs.Common.{sym, subst}
use Rattle.ccr_model.specs.Followers.{Follower}
use Rattle.ccr_following.specs.Finished.{IsFetchedRightly}
use Rattle.ccr_following.specs.Works.{work_of}
use Rattle.ccr_following.proofs.Fetching.{installable}
use Rattle.ccr_following.proofs.side.FollowerSide.start_following.Goals as goal

pub install-requires-clause-once : goal.install-requires-clause-once
install-requires-clause-once c =
    (installable (work_of c.self.inside.work) c.in_ok-restored.restored c.into_vec.result.items
    (subst (λ (s : Follower). IsFetchedRightly s.work) (sym c.self.view_is) c.requires.right) c.in_ok-restored.ensures c.into_vec.ensures).once
