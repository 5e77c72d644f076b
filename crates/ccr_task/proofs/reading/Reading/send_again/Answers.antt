use Rattle.std.proofs.Common.{◌≡◌, ◌+◌, ◌<◌, List, length, get_or, set, refl, sym, ◌∙◌, ap, subst}
use Rattle.ccr_model.specs.Tasks.{Read, changed_read}
use Rattle.ccr_task.specs.Reading.{Reading}
use Rattle.ccr_task.proofs.Changes.{again_by, read_state, raises, renews}
use Rattle.ccr_task.proofs.Indexing.{few-in, raised-indexed, held-in, again-indexed}
use Rattle.ccr_task.proofs.Keeping.{copied-at, still-ascending, still-timed, unchanged-timed}
use Rattle.ccr_task.proofs.reading.Reading.send_again.Goals as goal

pub place_of_read-requires : goal.place_of_read-requires
place_of_read-requires c =
    few-in c.self.inside.next_request c.self.inside.reads.items c.as_slice.result.now c.self.inside.sent.items c.self.inside.held c.request.result c.as_slice.ensures.value c.self.invariant.indexed

pub invariant_of-self : goal.invariant_of-self
invariant_of-self c = record {
  indexed = raised-indexed c.self.inside.next_request c.in-Some.next_request c.self.inside.reads.items c.self.inside.sent.items c.self.inside.held c.in-Some.ensures.1 c.self.invariant.indexed;
  ascending = c.self.invariant.ascending;
  earliest = c.self.invariant.earliest;
}

pub returns-in_default-place_of_read : goal.returns-in_default-place_of_read
returns-in_default-place_of_read c =
    subst (λ (s : Reading). read_state c.in-Some.next_request c.self.inside.reads.items ≡ read_state (s.next_request + 1) (changed_read c.args.read.now.request (again_by s.next_request) s.reads)) c.self.view_is
    (raises c.in-Some.next_request c.self.inside.next_request c.request.result c.args.read.now.request c.self.inside.reads.items c.as_slice.result.now (again_by c.self.inside.next_request) c.in-Some.ensures.1 c.as_slice.ensures.value
    c.request.ensures c.in_default-place_of_read.ensures.place)

pub without-self-inside-requires : goal.without-self-inside-requires
without-self-inside-requires c =
    held-in c.self.inside.next_request c.self.inside.reads.items c.as_slice.result.now c.self.inside.sent.items c.self.inside.held c.in-Some-place_of_read.place c.copy-own.result c.is_held.result c.as_slice.ensures.value
    c.in-Some-place_of_read.ensures.within (copied-at c.self.inside.reads.items c.in-Some-place_of_read.place c.index.result.now c.copy-own.result c.copy-own.ensures c.index.ensures) c.is_held.ensures c.self.invariant.indexed

pub invariant_of-self-2 : goal.invariant_of-self-2
invariant_of-self-2 c =
    let at : c.copy-own.result ≡ get_or c.self.inside.reads.items c.in-Some-place_of_read.place c.copy-own.result =
    copied-at c.self.inside.reads.items c.in-Some-place_of_read.place c.index.result.now c.copy-own.result c.copy-own.ensures c.index.ensures in
    let within : c.in-Some-place_of_read.place < length c.self.inside.reads.items = subst (λ (xs : List Read). c.in-Some-place_of_read.place < length xs) c.as_slice.ensures.value c.in-Some-place_of_read.ensures.within in
    record {
      indexed =
          again-indexed c.self.inside.next_request c.in-Some.next_request c.self.inside.reads.items c.as_slice.result.now _ c.self.inside.sent.items c.list_sent.new.sent.items c.unlist.new.sent.items c.self.inside.held
          c.without-self-inside.result c.in-Some-place_of_read.place c.request-2.result c.copy-own.result c.send_again.new.self c.is_held.result c.in-Some.ensures.1 refl c.as_slice.ensures.value
          c.in-Some-place_of_read.ensures.within at (ap (λ (r : Read). r.request) c.send_again.ensures) (ap (λ (r : Read). r.progress) c.send_again.ensures) c.in_ok-list_sent.ensures.ok
          c.request-2.ensures c.unlist.ensures c.is_held.ensures c.without-self-inside.ensures c.self.invariant.indexed;
      ascending =
          still-ascending c.self.inside.reads.items c.as_slice-2.result.now _ c.in-Some-place_of_read.place c.from.result c.send_again.new.self c.self.inside.ascends c.fits-self-inside.result c.as_slice-2.ensures.value refl
          (c.from.ensures ∙ sym (ap (λ (r : Read). r.from) c.send_again.ensures)) c.fits-self-inside.ensures c.self.invariant.ascending;
      earliest =
          still-timed c.self.inside.reads.items _ c.in-Some-place_of_read.place c.copy-own.result c.send_again.new.self c.self.inside.timed c.still-self-inside.result c.self.inside.soonest c.self.inside.soonest c.waits_until.result refl within at
          c.waits_until.ensures c.still-self-inside.ensures (unchanged-timed c.self.inside.soonest c.send_again.new.self (ap (λ (r : Read). r.progress) c.send_again.ensures)) c.self.invariant.earliest;
    }

pub returns : goal.returns
returns c =
    subst (λ (s : Reading). read_state c.in-Some.next_request (set c.self.inside.reads.items c.in-Some-place_of_read.place c.send_again.new.self) ≡ read_state (s.next_request + 1) (changed_read c.args.read.now.request (again_by s.next_request) s.reads)) c.self.view_is
    (renews c.in-Some.next_request c.self.inside.next_request c.request.result c.args.read.now.request c.in-Some-place_of_read.place c.self.inside.reads.items c.as_slice.result.now (again_by c.self.inside.next_request) c.copy-own.result c.send_again.new.self
    c.in-Some.ensures.1 c.as_slice.ensures.value c.request.ensures c.in-Some-place_of_read.ensures.place (copied-at c.self.inside.reads.items c.in-Some-place_of_read.place c.index.result.now c.copy-own.result c.copy-own.ensures c.index.ensures) c.send_again.ensures)
