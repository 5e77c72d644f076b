use Rattle.ccr_task.proofs.Rising.{place-rising}
use Rattle.ccr_task.proofs.reading.place_in.Goals as goal

pub returns-clause-value : goal.returns-clause-value
returns-clause-value c = λ high up. place-rising c.args.numbers.now c.args.number high c.binary_search.result c.ok.result c.ok.ensures.value c.binary_search.ensures.position up
