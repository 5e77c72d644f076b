use Rattle.std.specs.Prelude.{refl}
use Rattle.ccr_model_values.proofs.tasks_take_replies.Goals as goal

pub returns-clause-may_read : goal.returns-clause-may_read
returns-clause-may_read c = record {
  below = refl;
  at_count = refl;
  at_size = refl;
}

pub returns-clause-takes_replies : goal.returns-clause-takes_replies
returns-clause-takes_replies c = record {
  less = record {
    reads = refl;
    buffer = refl;
    next = refl;
  };
  more = record {
    reads = refl;
    buffer = refl;
    next = refl;
  };
  asked_for = record {
    reads = refl;
    buffer = refl;
    next = refl;
  };
  nothing = record {
    reads = refl;
    buffer = refl;
    next = refl;
  };
  greater = record {
    known = refl;
    retry = refl;
  };
  smaller = record {
    known = refl;
    retry = refl;
  };
}
