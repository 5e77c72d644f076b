use Rattle.std.proofs.Common.{◌==◌, ◌&&◌, find, Some, sym, ◌∙◌, ap}
use Rattle.ccr_model.specs.Requests.{is_sent}
use Rattle.ccr_model.specs.Tasks.{Read}
use Rattle.ccr_task.specs.Reading.{Reading}
use Rattle.ccr_task.proofs.Indexing.{few-in, few-numbered, unlisted-in, nowhere-in, at-place-in, find-here, find-unsent}
use Rattle.ccr_task.proofs.reading.Reading.find_sent.Goals as goal

pub returns-in_err-at : goal.returns-in_err-at
returns-in_err-at c =
    c.from_residual.ensures ∙ (unlisted-in c.self.inside.next_request c.self.inside.reads.items c.self.inside.sent.items c.as_slice.result.now c.self.inside.held c.args.request c.as_slice.ensures.value c.self.invariant.indexed c.in_err-at.ensures.value
    ∙ ap (λ (s : Reading). find (λ (r : Read). (r.request == c.args.request) && is_sent r.progress) s.reads) c.self.view_is)

pub place_of_read-requires : goal.place_of_read-requires
place_of_read-requires c =
    few-in c.self.inside.next_request c.self.inside.reads.items c.as_slice-3.result.now c.self.inside.sent.items c.self.inside.held c.args.request c.as_slice-3.ensures.value c.self.invariant.indexed

pub returns-in_err-place : goal.returns-in_err-place
returns-in_err-place c =
    c.from_residual-in_err-place.ensures ∙ (nowhere-in c.args.request c.self.inside.reads.items c.as_slice-3.result.now c.as_slice-3.ensures.value c.in_err-place.ensures.place
    ∙ ap (λ (s : Reading). find (λ (r : Read). (r.request == c.args.request) && is_sent r.progress) s.reads) c.self.view_is)

pub returns-then-not-is_sent : goal.returns-then-not-is_sent
returns-then-not-is_sent c =
    let there = at-place-in c.args.request c.in_ok-place.place c.index-read.result.now c.self.inside.reads.items c.as_slice-3.result.now c.as_slice-3.ensures.value c.in_ok-place.ensures.place c.in_ok-place.ensures.within c.index-read.ensures in
    find-unsent c.args.request c.in_ok-place.place c.index-read.result.now c.self.inside.reads.items there.within c.index-read.ensures there.number
    (few-numbered c.self.inside.next_request c.self.inside.reads.items c.self.inside.sent.items c.self.inside.held c.args.request c.self.invariant.indexed) (sym c.is_sent.ensures ∙ c.if-not-is_sent.true)
    ∙ ap (λ (s : Reading). find (λ (r : Read). (r.request == c.args.request) && is_sent r.progress) s.reads) c.self.view_is

pub returns : goal.returns
returns c =
    let there = at-place-in c.args.request c.in_ok-place.place c.index-read.result.now c.self.inside.reads.items c.as_slice-3.result.now c.as_slice-3.ensures.value c.in_ok-place.ensures.place c.in_ok-place.ensures.within c.index-read.ensures in
    ap (λ (r : Read). Some r) c.copy.ensures ∙ (find-here c.args.request c.in_ok-place.place c.index-read.result.now c.self.inside.reads.items there.within c.index-read.ensures there.number
    (few-numbered c.self.inside.next_request c.self.inside.reads.items c.self.inside.sent.items c.self.inside.held c.args.request c.self.invariant.indexed) (sym c.is_sent.ensures ∙ c.if-not-is_sent.false)
    ∙ ap (λ (s : Reading). find (λ (r : Read). (r.request == c.args.request) && is_sent r.progress) s.reads) c.self.view_is)
