-- The code's parts of a bootstrap as the model's.
use Rattle.std.specs.Prelude.{◌≡◌}
use Rattle.ccr_model.specs.Restores.{Restore, Stage, leasing, opening, fetching, Fetch}
use Rattle.ccr_restore.specs.declared.plan.Plan.{Plan}
use Rattle.ccr_restore.specs.declared.plan.Counters.{Counters}
use Rattle.ccr_restore.specs.declared.fetch.Fetch.{Fetch as Fetched}
use Rattle.ccr_restore.specs.declared.stage.Stage.{Stage as Reached}
use Rattle.ccr_restore.specs.declared.stage.Stage.TheVariants.{Leasing, Opening, Fetching}

abbrev pub fetch_of : Fetched → Fetch
fetch_of f = record {
  session = f.session;
  history = f.history;
  count = f.count;
  sizes = f.places.sizes;
  asked = f.places.asked;
  asks = f.asks.items;
  chunks = f.parts.items;
}

abbrev pub stage_of : Reached → Stage
stage_of (Leasing a) = leasing a
stage_of (Opening a) = opening a
stage_of (Fetching f) = fetching (fetch_of f)

abbrev pub restore_at : Plan → Counters → Stage → Restore
restore_at plan counters stage = record {
  lease = plan.lease;
  follower = plan.follower;
  history = plan.history;
  chunk_size = plan.chunk_size;
  max_retry_delay = plan.max_retry_delay;
  next_request = counters.next_request;
  retry = counters.retry;
  stage = stage;
}

abbrev pub restore_of : Plan → Counters → Reached → Restore
restore_of plan counters stage = restore_at plan counters (stage_of stage)

abbrev pub fetch_at : Plan → Counters → Fetched → Restore
fetch_at plan counters f = restore_at plan counters (fetching (fetch_of f))

-- the files are walked by parts of the plan's size
abbrev pub IsByPlan : Plan → Reached → Type 0
IsByPlan plan (Leasing a) = Unit {0}
IsByPlan plan (Opening a) = Unit {0}
IsByPlan plan (Fetching f) = f.places.chunk_size ≡ plan.chunk_size
