use Rattle.ccr_law_stores.proofs.SpelledSources.{source_fits}
use Rattle.ccr_law_stores.proofs.spellings.source_texts.Goals as goal

pub returns : goal.returns
returns c = source_fits
