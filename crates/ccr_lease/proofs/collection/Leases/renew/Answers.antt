use Rattle.std.proofs.Common.{◌∙◌, ap, sym}
use Rattle.ccr_lease.specs.Leases.{Collection, IsPlace, lease_of}
use Rattle.ccr_lease.proofs.Ordered.{Ascend-changed, found_at, renewal-low, renewal-ok, renewed-view}
use Rattle.ccr_lease.proofs.collection.Leases.renew.Goals as goal

pub returns-then-number-kept-clause-answer : goal.returns-then-number-kept-clause-answer
returns-then-number-kept-clause-answer c =
    let at : IsPlace c.args.id.now c.in-Ok.place c.as_slice.result.now = c.in-Ok.ensures in
    let here = rw c.as_slice.ensures.value at at in
    let kept = found_at c.args.id.now c.in-Ok.place c.self.inside.list.items c.index.result.now here c.index.ensures in
    renewal-low c.args.number (lease_of c.args.id.now c.args.self.now.leases) c.index.result.now (ap (λ (a : Collection). lease_of c.args.id.now a.leases) (sym c.self.view_is) ∙ kept) c.if-number-kept.true

pub returns-clause-answer : goal.returns-clause-answer
returns-clause-answer c =
    let at : IsPlace c.args.id.now c.in-Ok.place c.as_slice.result.now = c.in-Ok.ensures in
    let here = rw c.as_slice.ensures.value at at in
    let kept = found_at c.args.id.now c.in-Ok.place c.self.inside.list.items c.index.result.now here c.index.ensures in
    renewal-ok c.args.number (lease_of c.args.id.now c.args.self.now.leases) c.index.result.now (ap (λ (a : Collection). lease_of c.args.id.now a.leases) (sym c.self.view_is) ∙ kept) c.if-number-kept.false

pub invariant_of-self : goal.invariant_of-self
invariant_of-self c =
    let at : IsPlace c.args.id.now c.in-Ok.place c.as_slice.result.now = c.in-Ok.ensures in
    let here = rw c.as_slice.ensures.value at at in
    Ascend-changed c.args.id.now c.in-Ok.place c.args.number c.args.now c.self.inside.list.items c.index_mut-lease.result.now here c.index_mut-lease.ensures.value c.self.invariant

pub returns-clause-ok : goal.returns-clause-ok
returns-clause-ok c =
    let at : IsPlace c.args.id.now c.in-Ok.place c.as_slice.result.now = c.in-Ok.ensures in
    let here = rw c.as_slice.ensures.value at at in
    let before : Collection = record { term = c.self.inside.term; version = c.self.inside.version; leases = c.self.inside.list.items } in
    renewed-view c.args.id.now c.in-Ok.place c.args.number c.args.now before c.args.self.now c.self.view_is c.index_mut-lease.result.now here c.index_mut-lease.ensures.value
