use Rattle.std.proofs.Common.{◌≡◌, ◌<◌, length, get_or, refl, sym, ◌∙◌, ap, subst}
use Rattle.std.proofs.lemmas.List.{get_or_default}
use Rattle.ccr_model.specs.Tasks.{Read}
use Rattle.ccr_task.specs.Ordering.{earlier}
use Rattle.ccr_task.specs.Reading.{Reading}
use Rattle.ccr_task.proofs.Indexing.{held-some, room-in, put-indexed}
use Rattle.ccr_task.proofs.Keeping.{copied-at, still-ascending, still-timed}
use Rattle.ccr_task.proofs.reading.Reading.put.Goals as goal

pub without-others-requires : goal.without-others-requires
without-others-requires c =
    held-some c.self.inside.next_request c.self.inside.reads.items c.self.inside.sent.items c.self.inside.held c.args.place c.copy-own.result c.is_held.result
    (subst (λ (s : Reading). c.args.place < length s.reads) (sym c.self.view_is) c.requires.within) (copied-at c.self.inside.reads.items c.args.place c.index.result.now c.copy-own.result c.copy-own.ensures c.index.ensures) c.is_held.ensures
    c.self.invariant.indexed

pub with-self-inside-requires : goal.with-self-inside-requires
with-self-inside-requires c =
    room-in c.self.inside.next_request c.self.inside.reads.items c.self.inside.sent.items c.self.inside.held c.without-others.result (length c.as_slice.result.now) c.args.place c.copy-own.result c.is_held.result c.is_held-2.result
    (subst (λ (s : Reading). c.args.place < length s.reads) (sym c.self.view_is) c.requires.within) (copied-at c.self.inside.reads.items c.args.place c.index.result.now c.copy-own.result c.copy-own.ensures c.index.ensures) c.is_held.ensures
    c.without-others.ensures (ap length c.as_slice.ensures.value) c.self.invariant.indexed

pub invariant_of-self : goal.invariant_of-self
invariant_of-self c =
    let within : c.args.place < length c.self.inside.reads.items = subst (λ (s : Reading). c.args.place < length s.reads) (sym c.self.view_is) c.requires.within in
    let at : c.copy-own.result ≡ get_or c.self.inside.reads.items c.args.place c.copy-own.result = copied-at c.self.inside.reads.items c.args.place c.index.result.now c.copy-own.result c.copy-own.ensures c.index.ensures in
    let same : c.args.read.request ≡ (get_or c.self.inside.reads.items c.args.place c.args.read).request =
    subst (λ (s : Reading). c.args.read.request ≡ (get_or s.reads c.args.place c.args.read).request) (sym c.self.view_is) c.requires.same in
    record {
      indexed =
          put-indexed c.self.inside.next_request c.self.inside.reads.items _ c.self.inside.sent.items c.unlist.new.sent.items c.self.inside.held c.without-others.result c.with-self-inside.result c.args.place c.request.result
          c.copy-own.result c.args.read c.is_held.result c.is_held-2.result refl within at
          (same ∙ ap (λ (r : Read). r.request) (get_or_default c.self.inside.reads.items c.args.place c.args.read c.copy-own.result within ∙ sym at))
          c.requires.unsent c.request.ensures c.unlist.ensures c.is_held.ensures c.is_held-2.ensures c.without-others.ensures c.with-self-inside.ensures c.self.invariant.indexed;
      ascending =
          still-ascending c.self.inside.reads.items c.as_slice-2.result.now _ c.args.place c.from.result c.args.read c.self.inside.ascends c.fits-self-inside.result c.as_slice-2.ensures.value refl c.from.ensures c.fits-self-inside.ensures
          c.self.invariant.ascending;
      earliest =
          still-timed c.self.inside.reads.items _ c.args.place c.copy-own.result c.args.read c.self.inside.timed c.still-self-inside.result c.self.inside.soonest c.earlier_of-self-inside.result c.waits_until.result refl within at
          c.waits_until.ensures c.still-self-inside.ensures (c.earlier_of-self-inside.ensures ∙ ap (earlier c.self.inside.soonest) c.waits_until-2.ensures) c.self.invariant.earliest;
    }
