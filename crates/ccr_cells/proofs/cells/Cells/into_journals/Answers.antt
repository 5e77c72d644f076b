use Rattle.std.proofs.Common.{map, subst, ap, ◌∙◌}
use Rattle.std.specs.List.{AllByRecursion}
use Rattle.ccr_model.specs.Past.{start_past}
use Rattle.ccr_model.specs.Headline.{Headline}
use Rattle.ccr_law_base.proofs.Lists.{All-weaker}
use Rattle.ccr_law_reached.specs.Reached.{IsPossible}
use Rattle.ccr_worlds.specs.Fated.{PicksAreHanded}
use Rattle.ccr_worlds.specs.HandedOut.{IsHandedOut, KeepsPrefixes}
use Rattle.ccr_cells.specs.Views.{logs_in}
use Rattle.ccr_cells.proofs.cells.Cells.into_journals.Goals as goal

pub returns-clause-value : goal.returns-clause-value
returns-clause-value g c = c.hand_out.ensures.value ∙ ap (map (λ log. log.entries)) c.self.view_is

pub returns-clause-possible : goal.returns-clause-possible
returns-clause-possible g c =
    subst (AllByRecursion (λ log. IsPossible log.start log.entries)) c.self.view_is
    (All-weaker IsHandedOut (λ log. IsPossible log.start log.entries) (λ log h. h.possible) (logs_in c.self.inside.passes.items) c.hand_out.ensures.handed)

pub returns-clause-headline : goal.returns-clause-headline
returns-clause-headline g c =
    subst (AllByRecursion (λ log. Headline (start_past log.start) log.entries)) c.self.view_is
    (All-weaker IsHandedOut (λ log. Headline (start_past log.start) log.entries) (λ log h. h.headline) (logs_in c.self.inside.passes.items) c.hand_out.ensures.handed)

pub returns-clause-prefix : goal.returns-clause-prefix
returns-clause-prefix g c =
    subst (AllByRecursion KeepsPrefixes) c.self.view_is
    (All-weaker IsHandedOut KeepsPrefixes (λ log h. h.prefix) (logs_in c.self.inside.passes.items) c.hand_out.ensures.handed)

pub returns-clause-picks : goal.returns-clause-picks
returns-clause-picks g c = subst (PicksAreHanded g.K.Handed.fates 0) c.self.view_is c.hand_out.ensures.picks
