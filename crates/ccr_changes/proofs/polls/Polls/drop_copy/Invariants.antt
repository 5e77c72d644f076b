use Rattle.std.proofs.Common.{◌≡◌, ◌==◌, not, filter, length}
use Rattle.ccr_changes.proofs.polls.Polls.drop_copy.Given as goal

abbrev pub invariant-loop-least : goal.invariant-loop-least
invariant-loop-least l = filter (λ p. not (p.copy == l.copy)) l.self ≡ filter (λ p. not (p.copy == l.copy)) l.initial.self

abbrev pub decreases-loop-least : goal.decreases-loop-least
decreases-loop-least l = length l.self
