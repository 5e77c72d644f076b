-- What was committed of each history stays over any number of entries.
use Rattle.std.proofs.Common.{◌≤◌, List, take, refl, sym, ◌∙◌, ap, arith}
use Rattle.ccr_op.specs.Operation.{Operation}
use Rattle.ccr_model.specs.Past.{Line, Past, line_of}
use Rattle.ccr_model.specs.Headline.{StaysCommitted}
use Rattle.ccr_law_copies.specs.Cores.{IsFront, HasOnward}
use Rattle.ccr_law_copies.proofs.LeaderEvents.{take_front, take_of_front}

pub front-self : (line : Line) → IsFront line line
front-self line = record { cut = omega arith; same = refl }

pub front-on : (old middle new : Line) → IsFront old middle → IsFront middle new → IsFront old new
front-on old middle new first second =
    let low : old.cut ≤ middle.cut = first.cut in
    let high : middle.cut ≤ new.cut = second.cut in
    record {
      cut = omega arith;
      same = sym (take_front old.cut middle.cut new.ops low) ∙ (ap (λ (xs : List Operation). take old.cut xs) second.same
          ∙ (take_front old.cut middle.cut middle.ops low ∙ first.same));
    }

pub onward-self : (p : Past) → HasOnward p p
onward-self p history = front-self (line_of p history)

pub onward-on : (p middle later : Past) → HasOnward p middle → HasOnward middle later → HasOnward p later
onward-on p middle later first second history = front-on (line_of p history) (line_of middle history) (line_of later history) (first history) (second history)

-- what was committed at a place is committed at a later one
pub stays-committed : (p later : Past) → HasOnward p later → StaysCommitted p later
stays-committed p later onward history = take_of_front (line_of p history) (line_of later history) (onward history)
