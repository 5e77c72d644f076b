use Rattle.std.proofs.Common.{◌∙◌, sym}
use Rattle.ccr_auto.proofs.Ordered.{IsPlace-at, IsGap-past, IsGap-other}
use Rattle.ccr_auto.proofs.follow.search.Goals as goal

pub returns-then-place-list : goal.returns-then-place-list
returns-then-place-list c = IsGap-past c.args.name.now c.args.list.now c.place_of-place.result c.place_of-place.ensures.place c.requires c.place_of-place.ensures.bound c.if-place-list.true

pub returns-then-not-has_name : goal.returns-then-not-has_name
returns-then-not-has_name c = IsGap-other c.args.name.now c.args.list.now c.place_of-place.result c.index-list-place.result c.place_of-place.ensures.place c.requires c.if-place-list.false c.index-list-place.is (sym c.has_name.ensures ∙ c.if-not-has_name.true)

pub returns : goal.returns
returns c = IsPlace-at c.args.name.now c.args.list.now c.place_of-place.result c.index-list-place.result c.place_of-place.ensures.place c.requires c.if-place-list.false c.index-list-place.is (sym c.has_name.ensures ∙ c.if-not-has_name.false)
