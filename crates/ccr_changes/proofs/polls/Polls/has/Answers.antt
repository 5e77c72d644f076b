use Rattle.std.proofs.Common.{List, ◌∙◌, ap}
use Rattle.std.specs.List.{list_any}
use Rattle.ccr_model.specs.Leaders.{Poll}
use Rattle.ccr_changes.specs.Waits.{waits_for}
use Rattle.ccr_changes.proofs.Indexing.{any-request}
use Rattle.ccr_changes.proofs.polls.Polls.has.Goals as goal

pub returns : goal.returns
returns c =
    let s = c.self.inside in
    any-request s.by_age.entries s.next s.ages.entries s.copies.keys s.requests.keys c.self.invariant c.args.follower.now c.args.request c.is_requested.result c.is_requested.ensures
    ∙ ap (λ (polls : List Poll). list_any (waits_for c.args.follower.now c.args.request) polls) c.self.view_is
