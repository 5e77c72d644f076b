use Rattle.std.proofs.Common.{◌∙◌, ap, sym}
use Rattle.std.specs.Str.{bytes_eq}
use Rattle.std.proofs.lemmas.Bool.{not-true, not-false}
use Rattle.ccr_lease.specs.declared.retention.Lease.{Lease}
use Rattle.ccr_lease.proofs.Ordered.{IsPlace-at, IsGap-past, IsGap-other}
use Rattle.ccr_lease.proofs.collection.search.Goals as goal

pub returns-then-place-leases : goal.returns-then-place-leases
returns-then-place-leases c = IsGap-past c.args.id.now c.args.leases.now c.place_of-place.result c.place_of-place.ensures.place c.requires c.place_of-place.ensures.bound c.if-place-leases.true

pub returns-then-ne : goal.returns-then-ne
returns-then-ne c =
    let read = c.index-leases-place.is in
    IsGap-other c.args.id.now c.args.leases.now c.place_of-place.result c.index-leases-place.result c.place_of-place.ensures.place c.requires c.if-place-leases.false read
    (ap (λ (l : Lease). bytes_eq l.id c.args.id.now) read ∙ not-true _ (sym c.ne.ensures ∙ c.if-ne.true))

pub returns : goal.returns
returns c =
    let read = c.index-leases-place.is in
    IsPlace-at c.args.id.now c.args.leases.now c.place_of-place.result c.index-leases-place.result c.place_of-place.ensures.place c.requires c.if-place-leases.false read
    (ap (λ (l : Lease). bytes_eq l.id c.args.id.now) read ∙ not-false _ (sym c.ne.ensures ∙ c.if-ne.false))
