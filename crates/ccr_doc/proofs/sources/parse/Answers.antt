use Rattle.std.proofs.Common.{refl, sym, ◌∙◌, true≢false}
use Rattle.serde_json.specs.Errors.{IsMemory}
use Rattle.serde_json.specs.View.{view}
use Rattle.ccr_doc.proofs.Values.{value_of_read, value_of_none}
use Rattle.ccr_doc.proofs.sources.parse.Goals as goal

pub returns-in-Ok-clause-ok : goal.returns-in-Ok-clause-ok
returns-in-Ok-clause-ok c = value_of_read c.args.from.now (view c.in-Ok.value) c.in-Ok.ensures.ok.0 c.in-Ok.ensures.ok.1

pub returns-else-is_memory-clause-err : goal.returns-else-is_memory-clause-err
returns-else-is_memory-clause-err c =
    let refused : IsMemory c.in-Err.error → ⊥ = λ m. true≢false (sym (c.is_memory.ensures.1 m) ∙ c.if-is_memory.false) in
    λ _. (refl, value_of_none c.args.from.now (c.in-Err.ensures.err refused))
