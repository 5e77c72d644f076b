use Rattle.std.proofs.Common.{List, ◌∙◌, ap, sym}
use Rattle.std.specs.Prelude.{slice_get}
use Rattle.std.specs.Option.{option_copied}
use Rattle.ccr_model.specs.Leaders.{Poll, polls_of}
use Rattle.ccr_changes.proofs.Ages.{Found}
use Rattle.ccr_changes.proofs.Takes.{is_of}
use Rattle.ccr_changes.proofs.Indexing.{found-at, missing-at}
use Rattle.ccr_changes.proofs.polls.Polls.get.Goals as goal

pub returns-in_err-age : goal.returns-in_err-age
returns-in_err-age c =
    let s = c.self.inside in
    ap option_copied c.from_residual.ensures
    ∙ (sym (missing-at s.by_age.entries s.next s.ages.entries s.copies.keys s.requests.keys c.self.invariant c.args.follower.now c.args.at (sym c.in_err-age.ensures))
    ∙ ap (λ (polls : List Poll). slice_get (polls_of polls c.args.follower.now) c.args.at) c.self.view_is)

pub returns : goal.returns
returns c =
    let s = c.self.inside in
    let it : Found (is_of c.args.follower.now) 0 s.by_age.entries c.args.at c.in_ok-age.age =
    found-at s.by_age.entries s.next s.ages.entries s.copies.keys s.requests.keys c.self.invariant c.args.follower.now c.args.at c.in_ok-age.age (sym c.in_ok-age.ensures) in
    c.get.ensures.value ∙ (it.there ∙ (sym it.place ∙ ap (λ (polls : List Poll). slice_get (polls_of polls c.args.follower.now) c.args.at) c.self.view_is))
