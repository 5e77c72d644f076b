use Rattle.std.proofs.Common.{◌≡◌, ◌<◌, length, drop, ap, ◌∙◌, arith}
use Rattle.std.proofs.lemmas.List.Sums.{prefix_len-le-length}
use Rattle.std.specs.List.{position_or_len}
use Rattle.ccr_doc.specs.Words.{is_word_byte}
use Rattle.ccr_doc.proofs.Runs.{runs_of_none, runs_of_some, run_begins}
use Rattle.ccr_doc.proofs.words.first_word.Goals as goal

pub returns-then-start-text-clause-first : goal.returns-then-start-text-clause-first
returns-then-start-text-clause-first c =
    runs_of_none is_word_byte c.args.text.now (omega (arith, c.word_start-start.ensures, c.if-start-text.true))

pub split_at-requires-2 : goal.split_at-requires-2
split_at-requires-2 c = omega (arith, c.word_len-len.ensures, prefix_len-le-length is_word_byte c.split_at.result.1.now)

pub returns-clause-first : goal.returns-clause-first
returns-clause-first c =
    let text = c.args.text.now in
    let from = c.split_at.result.1.now in
    let from_is : from ≡ drop (position_or_len is_word_byte text) text = c.split_at.ensures.back ∙ ap (λ n. drop n text) c.word_start-start.ensures in
    let within : position_or_len is_word_byte text < length text = omega (arith, c.word_start-start.ensures, c.if-start-text.false) in
    rw (c.split_at-2.ensures.front, c.split_at-2.ensures.back, c.word_len-len.ensures) (runs_of_some is_word_byte text from from_is within)

pub returns-clause-shorter : goal.returns-clause-shorter
returns-clause-shorter c =
    let text = c.args.text.now in
    let from = c.split_at.result.1.now in
    let from_is : from ≡ drop (position_or_len is_word_byte text) text = c.split_at.ensures.back ∙ ap (λ n. drop n text) c.word_start-start.ensures in
    let within : position_or_len is_word_byte text < length text = omega (arith, c.word_start-start.ensures, c.if-start-text.false) in
    omega (arith, run_begins is_word_byte text from from_is within, c.word_len-len.ensures, c.split_at-2.ensures.back_len, c.split_at.ensures.back_len)
